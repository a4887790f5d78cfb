-- Releases, and the operations on objects, in memories that differ in the numbers of their stores.
use Rattle.std.proofs.Common.{◌≡◌, ℕ, zero, suc, ◌+◌, List, [], ◌∷◌, ◌++◌, refl, sym, ◌∙◌, ap, subst}
use Rattle.std.specs.Prelude.{Bool, true, false, ◌&&◌, not, nat_le, Option, Some, None}
use Rattle.php_entries.specs.Listing.{Entry}
use Rattle.php_entries.specs.Changes.{map_entries}
use Rattle.php_memdef.specs.declared.answer.Fallen.{Fallen}
use Rattle.php_memdef.specs.Numbered.{with_numbered}
use Rattle.php_memdef.specs.Contents.{null, truth, int, text, array, object, Item, value, link, Property, Object, Mem, content_of, scope_of, object_of}
use Rattle.php_memdef.specs.Temporaries.{pushed, popped, top, with_falling, fallen, let_fall}
use Rattle.php_memdef.specs.Releases.{entry_links, property_links, Turn, goes_on, stops, link_dropped, object_removed, object_released, handle_dropped, is_held, is_object_held, item_released, first_released, turn, fall_after, fall_within, turns, fall}
use Rattle.php_memdef.specs.Objects.{OBJECT_LIMIT, with_new_object, new_object, object_made, make_object, clone_made, clone_of_top, clone_object, finish, spare, attach}
use Rattle.php_memdef.specs.Copies.{copied_properties, copier_of}
use Rattle.php_memdef.specs.Sound.{IsClosed}
use Rattle.php_memdef.specs.Alike.{renamed_item, renamed_items, renamed_properties, renamed_object, IsRenamed, Alike}
use Rattle.php_memdef_laws.proofs.Alike.Memories.{content_of-renamed, scope_of-renamed, object_of-renamed, store-renamed, object-renamed, object_change-renamed}
use Rattle.php_memdef_laws.proofs.Alike.Scopes.{renamed_items-append, fallen-renamed, pushed-renamed, popped-renamed, top-renamed, let_fall-renamed, with_falling-renamed}
use Rattle.php_memdef_laws.proofs.Closed.Parts.{object-closed}
use Rattle.php_memdef_laws.proofs.Alike.Copies.{copiers-alike, copied_properties-alike, start_of_making}
use Rattle.php_memdef_laws.proofs.Alike.Totals.{holders-renamed, object_holders-renamed, turns-renamed}
use Rattle.php_memdef_laws.proofs.Alike.Walks.{AnswersAlike}

module _ (to : ℕ → ℕ) where
  entry_links-renamed : (es : List (Entry ℕ)) → entry_links (map_entries to es) ≡ renamed_items to (entry_links es)
  entry_links-renamed [] = refl
  entry_links-renamed (e ∷ es) = ap (λ is. link (to e.value) ∷ is) (entry_links-renamed es)

  property_links-renamed : (ps : List Property) → property_links (renamed_properties to ps) ≡ renamed_items to (property_links ps)
  property_links-renamed [] = refl
  property_links-renamed (p ∷ ps) = ap (λ is. link (to p.store) ∷ is) (property_links-renamed ps)

abbrev TurnsAlike : (ℕ → ℕ) → (ℕ → ℕ) → Turn → Turn → Type 0
TurnsAlike to back (goes_on m) (goes_on n) = IsRenamed to back m n
TurnsAlike to back (stops m a) (stops n b) = IsRenamed to back m n × (b ≡ a)
TurnsAlike to back (goes_on m) (stops n b) = ⊥
TurnsAlike to back (stops m a) (goes_on n) = ⊥

module _ (to back : ℕ → ℕ) (m n : Mem) (r : IsRenamed to back m n) where
  -- the fallen items, where some come in front of the rest
  in_front : (m' n' : Mem) → IsRenamed to back m' n' → (b : ℕ) (is js rest : List Item) → js ≡ renamed_items to is → IsRenamed to back (with_falling m' b (is ++ rest)) (with_falling n' b (js ++ renamed_items to rest))
  in_front m' n' r' b is js rest e =
      subst (λ (ks : List Item). IsRenamed to back (with_falling m' b (is ++ rest)) (with_falling n' b ks)) (renamed_items-append to is rest ∙ ap (λ ks. ks ++ renamed_items to rest) (sym e)) (with_falling-renamed to back m' n' r' b (is ++ rest))

  link_dropped-alike : (held : Bool) (b : ℕ) (rest : List Item) (s : ℕ) → IsRenamed to back (link_dropped held m b rest s) (link_dropped held n b (renamed_items to rest) (to s))
  link_dropped-alike true b rest s = with_falling-renamed to back m n r b rest
  link_dropped-alike false b rest s =
      in_front _ _ (store-renamed to back m n r s None) b (fallen (value (content_of m s))) (fallen (value (content_of n (to s)))) rest
      (ap (λ c. fallen (value c)) (content_of-renamed to back m n r s) ∙ fallen-renamed to (value (content_of m s)))

  object_removed-alike : (f : Option ℕ) (o : Object) (b : ℕ) (rest : List Item) (h : ℕ) → TurnsAlike to back (object_removed f o m b rest h) (object_removed f (renamed_object to o) n b (renamed_items to rest) h)
  object_removed-alike (Some f) o b rest h = (object-renamed to back m n r h (Some (record o { frame = None })), refl)
  object_removed-alike None o b rest h = in_front _ _ (object-renamed to back m n r h None) b (property_links o.properties) (property_links (renamed_properties to o.properties)) rest (property_links-renamed to o.properties)

  object_released-alike : (due : Bool) (o : Object) (b : ℕ) (rest : List Item) (h : ℕ) → TurnsAlike to back (object_released due o m b rest h) (object_released due (renamed_object to o) n b (renamed_items to rest) h)
  object_released-alike true o b rest h = (object-renamed to back m n r h (Some (record o { spent = true })), refl)
  object_released-alike false o b rest h = object_removed-alike o.frame o b rest h

  handle_dropped-alike : (held : Bool) (o : Object) (b : ℕ) (rest : List Item) (h : ℕ) → TurnsAlike to back (handle_dropped held o m b rest h) (handle_dropped held (renamed_object to o) n b (renamed_items to rest) h)
  handle_dropped-alike true o b rest h = with_falling-renamed to back m n r b rest
  handle_dropped-alike false o b rest h = object_released-alike (o.finishing && not o.spent) o b rest h

  item_released-alike : (i : Item) (b : ℕ) (rest : List Item) → TurnsAlike to back (item_released i m b rest) (item_released (renamed_item to i) n b (renamed_items to rest))
  item_released-alike (link s) b rest =
      let held = holders-renamed to back _ _ (with_falling-renamed to back m n r b rest) s in
      subst (λ (x : Bool). IsRenamed to back (link_dropped (is_held (with_falling m b rest) s) m b rest s) (link_dropped x n b (renamed_items to rest) (to s))) (sym (ap (nat_le 1) held)) (link_dropped-alike (is_held (with_falling m b rest) s) b rest s)
  item_released-alike (value null) b rest = with_falling-renamed to back m n r b rest
  item_released-alike (value (truth x)) b rest = with_falling-renamed to back m n r b rest
  item_released-alike (value (int i)) b rest = with_falling-renamed to back m n r b rest
  item_released-alike (value (text bytes)) b rest = with_falling-renamed to back m n r b rest
  item_released-alike (value (array t)) b rest = in_front m n r b (entry_links t.entries) (entry_links (map_entries to t.entries)) rest (entry_links-renamed to t.entries)
  item_released-alike (value (object h)) b rest =
      let x = is_object_held (with_falling m b rest) h in
      let held = object_holders-renamed to back _ _ (with_falling-renamed to back m n r b rest) h in
      subst (λ (y : Bool). TurnsAlike to back (handle_dropped x (object_of m h) m b rest h) (handle_dropped y (object_of n h) n b (renamed_items to rest) h)) (sym (ap (nat_le 1) held))
      (subst (λ (o : Object). TurnsAlike to back (handle_dropped x (object_of m h) m b rest h) (handle_dropped x o n b (renamed_items to rest) h)) (sym (object_of-renamed to back m n r h)) (handle_dropped-alike x (object_of m h) b rest h))

  first_released-alike : (is : List Item) (b : ℕ) → TurnsAlike to back (first_released is m b) (first_released (renamed_items to is) n b)
  first_released-alike [] b = (r, refl)
  first_released-alike (i ∷ rest) b = item_released-alike i b rest

  turn-alike : (b : ℕ) → TurnsAlike to back (turn m b) (turn n b)
  turn-alike b = subst (λ (is : List Item). TurnsAlike to back (turn m b) (first_released is n b)) (sym (ap (λ f. f.falling) (scope_of-renamed to back m n r b))) (first_released-alike (scope_of m b).falling b)

abbrev EndsAlike : (ℕ → ℕ) → (ℕ → ℕ) → Mem × Fallen → Mem × Fallen → Type 0
EndsAlike to back p q = IsRenamed to back p.0 q.0 × (q.1 ≡ p.1)

fall_within-alike : (to back : ℕ → ℕ) (k : ℕ) (m n : Mem) → IsRenamed to back m n → (b : ℕ) → EndsAlike to back (fall_within k m b) (fall_within k n b)
fall_within-alike to back zero m n r b = (r, refl)
fall_within-alike to back (suc k) m n r b = after (turn m b) (turn n b) (turn-alike to back m n r b) (λ p q s. fall_within-alike to back k p q s b)
  where
    after : (t u : Turn) → TurnsAlike to back t u → ((p q : Mem) → IsRenamed to back p q → EndsAlike to back (fall_within k p b) (fall_within k q b)) → EndsAlike to back (fall_after t (λ p. fall_within k p b)) (fall_after u (λ q. fall_within k q b))
    after (goes_on p) (goes_on q) a go_on = go_on p q a
    after (stops p x) (stops q y) a go_on = a
    after (goes_on p) (stops q y) a go_on = absurd a
    after (stops p x) (goes_on q) a go_on = absurd a

pub fall-renamed : (to back : ℕ → ℕ) (m n : Mem) → IsRenamed to back m n → (b : ℕ) → IsRenamed to back (fall m b).0 (fall n b).0 × ((fall n b).1 ≡ (fall m b).1)
unfolding fall
fall-renamed to back m n r b = subst (λ (k : ℕ). EndsAlike to back (fall_within (suc (turns m b)) m b) (fall_within (suc k) n b)) (sym (turns-renamed to back m n r b)) (fall_within-alike to back (suc (turns m b)) m n r b)

-- objects

module _ (to back : ℕ → ℕ) (m n : Mem) (r : IsRenamed to back m n) where
  with_new_object-renamed : (o : Object) → IsRenamed to back (with_new_object m o) (with_new_object n (renamed_object to o))
  with_new_object-renamed o =
      let put = object-renamed to back m n r m.next_object (Some o) in
      subst (λ (k : ℕ). IsRenamed to back (with_new_object m o) (record n { objects = with_numbered n.objects k (Some (renamed_object to o)); next_object = k + 1 })) (sym r.next_object)
      (record { back_to = r.back_to; to_back = r.to_back; stores = r.stores; objects = put.objects; blocks = r.blocks; statics = r.statics; next_object = refl })

  pub finish-renamed : (h : ℕ) → IsRenamed to back (finish m h) (finish n h)
  unfolding finish
  finish-renamed h = object_change-renamed to back m n r h (λ o. record o { finishing = true }) (λ o. record o { finishing = true }) (λ o. refl)

  pub spare-renamed : (h : ℕ) → IsRenamed to back (spare m h) (spare n h)
  unfolding spare
  spare-renamed h = object_change-renamed to back m n r h (λ o. record o { spent = true }) (λ o. record o { spent = true }) (λ o. refl)

  pub attach-renamed : (h : ℕ) (f : Option ℕ) → IsRenamed to back (attach m h f) (attach n h f)
  unfolding attach
  attach-renamed h f = object_change-renamed to back m n r h (λ o. record o { frame = f }) (λ o. record o { frame = f }) (λ o. refl)

  object_made-renamed : (full : Bool) (b class : ℕ) (finishing : Bool) → IsRenamed to back (object_made full m b class finishing).0 (object_made full n b class finishing).0 × ((object_made full n b class finishing).1 ≡ (object_made full m b class finishing).1)
  object_made-renamed true b class finishing = (r, refl)
  object_made-renamed false b class finishing = (
    subst (λ (k : ℕ). IsRenamed to back (object_made false m b class finishing).0 (pushed (with_new_object n (new_object class finishing)) b (value (object k)))) (sym r.next_object)
        (pushed-renamed to back _ _ (with_new_object-renamed (new_object class finishing)) b (value (object m.next_object))),
    ap Some r.next_object,
  )

  pub make_object-renamed : (b class : ℕ) (finishing : Bool) → IsRenamed to back (make_object m b class finishing).0 (make_object n b class finishing).0 × ((make_object n b class finishing).1 ≡ (make_object m b class finishing).1)
  unfolding make_object
  make_object-renamed b class finishing =
      let full = nat_le OBJECT_LIMIT m.next_object in
      subst (λ (x : Bool). IsRenamed to back (object_made full m b class finishing).0 (object_made x n b class finishing).0 × ((object_made x n b class finishing).1 ≡ (object_made full m b class finishing).1)) (sym (ap (nat_le OBJECT_LIMIT) r.next_object)) (object_made-renamed full b class finishing)

module _ (m n : Mem) (closed : IsClosed m) (a : Alike m n) where
  clone_made-alike : (full : Bool) (b h : ℕ) → AnswersAlike (clone_made full m b h) (clone_made full n b h)
  clone_made-alike true b h = (a, refl)
  clone_made-alike false b h =
      let to = a.to in
      let back = a.back in
      let r = a.renamed in
      let o = object_of m h in
      let s = start_of_making to m n back r closed in
      let x = copied_properties (copier_of m) m m.stores o.properties in
      let y = copied_properties (copier_of n) n n.stores (renamed_properties to o.properties) in
      let p = copied_properties-alike to m n back r closed (copier_of m) (copier_of n) (copiers-alike to m n back r closed) o.properties m.stores n.stores s (object-closed m closed h) in
      let q = p.on.making in
      let m' : Mem = record m { stores = x.stores } in
      let n' : Mem = record n { stores = y.stores } in
      let clone : Object = record o { properties = x.made; spent = false; frame = None } in
      let twin : Object = record o { properties = y.made; spent = false; frame = None } in
      let same : renamed_object q.to' clone ≡ twin = ap (λ ps. record o { properties = ps; spent = false; frame = None }) (sym p.made) in
      let added : IsRenamed q.to' q.back' (with_new_object m' clone) (with_new_object n' twin) = subst (λ (z : Object). IsRenamed q.to' q.back' (with_new_object m' clone) (with_new_object n' z)) same (with_new_object-renamed q.to' q.back' m' n' q.renamed clone) in
      let top' : IsRenamed q.to' q.back' (pushed (popped (with_new_object m' clone) b) b (value (object m.next_object))) (pushed (popped (with_new_object n' twin) b) b (value (object n.next_object))) =
      subst (λ (k : ℕ). IsRenamed q.to' q.back' (pushed (popped (with_new_object m' clone) b) b (value (object m.next_object))) (pushed (popped (with_new_object n' twin) b) b (value (object k)))) (sym r.next_object)
      (pushed-renamed q.to' q.back' _ _ (popped-renamed q.to' q.back' _ _ added b) b (value (object m.next_object))) in
      let done : IsRenamed q.to' q.back' (clone_made false m b h).0 (let_fall (pushed (popped (with_new_object n' twin) b) b (value (object n.next_object))) b (value (object h))) = let_fall-renamed q.to' q.back' _ _ top' b (value (object h)) in (
        subst (λ (z : Object). Alike (clone_made false m b h).0 (let_fall (pushed (popped (with_new_object (record n { stores = (copied_properties (copier_of n) n n.stores z.properties).stores }) (record z { properties = (copied_properties (copier_of n) n n.stores z.properties).made; spent = false; frame = None })) b) b (value (object n.next_object))) b (value (object h)))) (sym (object_of-renamed to back m n r h))
            (record { to = q.to'; back = q.back'; renamed = done }),
        ap Some r.next_object,
      )

  clone_of_top-alike : (i : Item) (b : ℕ) → AnswersAlike (clone_of_top i m b) (clone_of_top (renamed_item a.to i) n b)
  clone_of_top-alike (link s) b = (a, refl)
  clone_of_top-alike (value null) b = (a, refl)
  clone_of_top-alike (value (truth x)) b = (a, refl)
  clone_of_top-alike (value (int i)) b = (a, refl)
  clone_of_top-alike (value (text bytes)) b = (a, refl)
  clone_of_top-alike (value (array t)) b = (a, refl)
  clone_of_top-alike (value (object h)) b =
      let full = nat_le OBJECT_LIMIT m.next_object in
      subst (λ (x : Bool). AnswersAlike (clone_made full m b h) (clone_made x n b h)) (sym (ap (nat_le OBJECT_LIMIT) a.renamed.next_object)) (clone_made-alike full b h)

  pub clone_object-alike : (b : ℕ) → AnswersAlike (clone_object m b) (clone_object n b)
  unfolding clone_object
  clone_object-alike b = subst (λ (i : Item). AnswersAlike (clone_of_top (top m b) m b) (clone_of_top i n b)) (sym (top-renamed a.to a.back m n a.renamed b)) (clone_of_top-alike (top m b) b)
