-- What each operation makes of the shapes of blocks.
use Rattle.std.proofs.Common.{◌≡◌, ℕ, zero, suc, ◌+◌, List, [], ◌∷◌, ◌++◌, refl, sym, ◌∙◌, ap, inl, inr, cond}
use Rattle.std.specs.Prelude.{Bool, true, false, ◌&&◌, not, nat_le, nat_eq, Option, Some, None}
use Rattle.std.proofs.lemmas.Bool.{false≢true}
use Rattle.std.proofs.lemmas.Bool.Decides.{eqb_tells}
use Rattle.php_value.specs.declared.scalar.Scalar.{Scalar}
use Rattle.php_entries.specs.Listing.{no_entries}
use Rattle.php_memdef.specs.declared.place.Place.{Place}
use Rattle.php_memdef.specs.Numbered.{with_numbered}
use Rattle.php_memdef.specs.Contents.{null, truth, int, text, array, object, Item, value, link, Mem, no_scope, content_of, scope_of, object_of}
use Rattle.php_memdef.specs.Copies.{copied, copied_properties, copier_of}
use Rattle.php_memdef.specs.Places.{Spot, nth_item, content_at, find_place}
use Rattle.php_memdef.specs.Temporaries.{content_of_scalar, with_falling, pushed, popped, top, with_top, turned, fallen, enter, leave, push, push_array, push_object, pass, turn, reserve, drop_top, copy_of_spot, copy, settled, settle}
use Rattle.php_memdef.specs.Writes.{text_found, text_of_item, append}
use Rattle.php_memdef.specs.Releases.{entry_links, property_links, Turn, goes_on, stops, link_dropped, object_removed, object_released, handle_dropped, is_held, is_object_held, item_released, first_released, turn as turn_of_release, fall_after, fall_within, turns, fall}
use Rattle.php_memdef.specs.Objects.{OBJECT_LIMIT, with_new_object, new_object, object_made, make_object, with_clone, clone_made, clone_of_top, clone_object, finish, spare, attach}
use Rattle.php_memdef.specs.Views.{found}
use Rattle.php_memdef.specs.Conditions.{IsBlock, HasLinkOnTop, HasHandleOnTop, CanAppend}
use Rattle.php_memdef.specs.Operations.{Operation, Can, effect}
use Rattle.php_memdef.specs.Operations as op
use Rattle.php_memdef_laws.specs.Shapes.{is_link_itself, kinds, Shape, shape, with_one, rest_of_kinds, top_of_kinds, without_top, with_one_if_found, with_one_if_made, if_done, kinds_turned, joined_and_assigned, in_block, shape_after}
use Rattle.php_memdef_laws.proofs.NumberedLemmas.{live-with}
use Rattle.php_memdef_laws.proofs.AppendLemmas.{first_on_top, can_assign_joined}
use Rattle.php_memdef_laws.proofs.Shapes.Parts.{rest_kinds, top_kind, turned_kinds, in_block-self, shape-numbered, shape-with_scope, AllSame, same_trans, block_stays, with_falling-same, let_fall-same, shape-with_temps, shape-pushed, shape-popped, in_block-same}
use Rattle.php_memdef_laws.proofs.Shapes.Writes.{there_after, assign-shape, make_link-shape, bind-shape, unset-same, unset_last-same, forget-same, shed-same}

-- a block changed twice

in_block-here : (b : ℕ) (s others : Shape) → in_block b b s others ≡ s
in_block-here b s others = elim (eqb_tells b b) [
  | inl e ↦ ap (λ t. cond t s others) e.0
  | inr e ↦ absurd (e.1 refl)
]

in_block-twice : (b c : ℕ) (s t others : Shape) → in_block b c s (in_block b c t others) ≡ in_block b c s others
in_block-twice b c s t others = choice (nat_eq c b)
  where
    choice : (x : Bool) → cond x s (cond x t others) ≡ cond x s others
    choice true = refl
    choice false = refl

-- the top is replaced

module _ (m : Mem) (b : ℕ) (h : IsBlock m b) where
  replaced-shape : (i : Item) (c : ℕ) → shape (pushed (popped m b) b i) c ≡ in_block b c (with_one (is_link_itself i) (without_top (shape m b))) (shape m c)
  replaced-shape i c =
      shape-pushed (popped m b) b (there_after m b _) i c
      ∙ ap (λ s. in_block b c (with_one (is_link_itself i) s) (shape (popped m b) c)) (shape-popped m b h b ∙ in_block-here b (without_top (shape m b)) (shape m b))
      ∙ ap (λ s. in_block b c (with_one (is_link_itself i) (without_top (shape m b))) s) (shape-popped m b h c)
      ∙ in_block-twice b c (with_one (is_link_itself i) (without_top (shape m b))) (without_top (shape m b)) (shape m c)

  same_top : (i j : Item) → nth_item (scope_of m b).temps 0 ≡ Some j → is_link_itself i ≡ is_link_itself j → with_one (is_link_itself i) (without_top (shape m b)) ≡ shape m b
  same_top i j e k = ap (λ ks. record (shape m b) { temps = ks }) (of_temps (scope_of m b).temps e)
    where
      of_temps : (is : List Item) → nth_item is 0 ≡ Some j → is_link_itself i ∷ rest_of_kinds (kinds is) ≡ kinds is
      of_temps [] e = absurd (no e)
        where
          no : None ≡ Some j → ⊥
          no e = cc
      of_temps (x ∷ is) e = ap (λ t. t ∷ kinds is) (k ∙ ap is_link_itself (sym (first e)))
        where
          first : Some x ≡ Some j → x ≡ j
          first e = cc

module _ (m : Mem) (b : ℕ) (h : IsBlock m b) where
  settled-shape : (i : Item) → is_link_itself i ≡ true → (c : ℕ) → shape (settled i m b) c ≡ in_block b c (with_one false (without_top (shape m b))) (shape m c)
  settled-shape (value x) e c = absurd (false≢true e)
  settled-shape (link s) e c =
      let x = copied m (content_of m s) in
      let n : Mem = record m { stores = x.stores } in
      let_fall-same (pushed (popped n b) b (value x.made)) b (there_after (popped n b) b _) (link s) c ∙ replaced-shape n b h (value x.made) c

  copied-shape : (o : Option Spot) (c : ℕ) → shape (copy_of_spot o m b).0 c ≡ in_block b c (with_one_if_found (copy_of_spot o m b).1 (shape m b)) (shape m c)
  copied-shape None c = sym (in_block-self b c (shape m))
  copied-shape (Some spot) c = shape-pushed (record m { stores = (copied m (content_at m spot)).stores }) b h (value (copied m (content_at m spot)).made) c

  pub copy-shape : (p : Place) (c : ℕ) → shape (copy m b p).0 c ≡ in_block b c (with_one_if_found (copy m b p).1 (shape m b)) (shape m c)
  unfolding copy
  copy-shape p c = copied-shape (find_place m p) c

  pub settle-shape : HasLinkOnTop m b → (c : ℕ) → shape (settle m b) c ≡ in_block b c (with_one false (without_top (shape m b))) (shape m c)
  unfolding settle
  settle-shape on_top c = settled-shape (top m b) (ap is_link_itself (first_on_top (scope_of m b).temps (link on_top.0) on_top.1)) c

  pub drop_top-shape : (c : ℕ) → shape (drop_top m b) c ≡ in_block b c (without_top (shape m b)) (shape m c)
  unfolding drop_top
  drop_top-shape c = let_fall-same (popped m b) b (there_after m b _) (top m b) c ∙ shape-popped m b h c

  pub push-shape : (v : Scalar) (c : ℕ) → shape (push m b v) c ≡ in_block b c (with_one false (shape m b)) (shape m c)
  unfolding push
  push-shape v c = shape-pushed m b h (value (content_of_scalar v)) c

  pub push_array-shape : (c : ℕ) → shape (push_array m b) c ≡ in_block b c (with_one false (shape m b)) (shape m c)
  unfolding push_array
  push_array-shape c = shape-pushed m b h (value (array no_entries)) c

  pub push_object-shape : (k c : ℕ) → shape (push_object m b k) c ≡ in_block b c (with_one false (shape m b)) (shape m c)
  unfolding push_object
  push_object-shape k c = shape-pushed m b h (value (object k)) c

  pub turn-shape : (n c : ℕ) → shape (turn m b n) c ≡ in_block b c (record (shape m b) { temps = kinds_turned n (shape m b).temps [] }) (shape m c)
  unfolding turn
  turn-shape n c = shape-with_temps m b h (turned n (scope_of m b).temps []) c ∙ ap (λ ks. in_block b c (record (shape m b) { temps = ks }) (shape m c)) (turned_kinds n (scope_of m b).temps [])

  pub reserve-shape : (n c : ℕ) → shape (reserve m b n) c ≡ in_block b c (record (shape m b) { room = (shape m b).room + n }) (shape m c)
  unfolding reserve
  reserve-shape n c = shape-with_scope m b (record (scope_of m b) { room = (scope_of m b).room + n }) c ∙ ap (λ t. in_block b c (record { there = t; room = (scope_of m b).room + n; temps = kinds (scope_of m b).temps }) (shape m c)) (sym h)

  pub pass-shape : (d : ℕ) → IsBlock m d → (c : ℕ) → shape (pass m b d) c ≡ in_block d c (with_one (top_of_kinds (shape m b).temps) (in_block b d (without_top (shape m b)) (shape m d))) (in_block b c (without_top (shape m b)) (shape m c))
  unfolding pass
  pass-shape d there c =
      shape-pushed (popped m b) d (live-with m.blocks b _ d there) (top m b) c
      ∙ ap (λ t. in_block d c (with_one t (shape (popped m b) d)) (shape (popped m b) c)) (top_kind (scope_of m b).temps)
      ∙ ap (λ s. in_block d c (with_one (top_of_kinds (shape m b).temps) s) (shape (popped m b) c)) (shape-popped m b h d)
      ∙ ap (λ s. in_block d c (with_one (top_of_kinds (shape m b).temps) (in_block b d (without_top (shape m b)) (shape m d))) s) (shape-popped m b h c)

  made-shape : (full : Bool) (class : ℕ) (finishing : Bool) (c : ℕ) → shape (object_made full m b class finishing).0 c ≡ in_block b c (with_one_if_made (object_made full m b class finishing).1 (shape m b)) (shape m c)
  made-shape true class finishing c = sym (in_block-self b c (shape m))
  made-shape false class finishing c = shape-pushed (with_new_object m (new_object class finishing)) b h (value (object m.next_object)) c

  pub make_object-shape : (class : ℕ) (finishing : Bool) (c : ℕ) → shape (make_object m b class finishing).0 c ≡ in_block b c (with_one_if_made (make_object m b class finishing).1 (shape m b)) (shape m c)
  unfolding make_object
  make_object-shape class finishing c = made-shape (nat_le OBJECT_LIMIT m.next_object) class finishing c

  cloned-same : (full : Bool) (k : ℕ) → nth_item (scope_of m b).temps 0 ≡ Some (value (object k)) → AllSame m (clone_made full m b k).0
  cloned-same true k e c = refl
  cloned-same false k e c =
      let n = with_clone m k (copied_properties (copier_of m) m m.stores (object_of m k).properties) in
      let i : Item = value (object m.next_object) in
      let_fall-same (pushed (popped n b) b i) b (there_after (popped n b) b _) (value (object k)) c
      ∙ replaced-shape n b h i c
      ∙ ap (λ s. in_block b c s (shape m c)) (same_top m b h i (value (object k)) e refl)
      ∙ in_block-self b c (shape m)

  clone_of-same : (i : Item) (k : ℕ) → i ≡ value (object k) → nth_item (scope_of m b).temps 0 ≡ Some (value (object k)) → AllSame m (clone_of_top i m b).0
  clone_of-same (link s) k d e c = refl
  clone_of-same (value null) k d e c = refl
  clone_of-same (value (truth x)) k d e c = refl
  clone_of-same (value (int i)) k d e c = refl
  clone_of-same (value (text bytes)) k d e c = refl
  clone_of-same (value (array t)) k d e c = refl
  clone_of-same (value (object j)) k d e c = cloned-same (nat_le OBJECT_LIMIT m.next_object) j (e ∙ ap Some (sym d)) c

  pub clone_object-same : HasHandleOnTop m b → AllSame m (clone_object m b).0
  unfolding clone_object
  clone_object-same on_top = clone_of-same (top m b) on_top.0 (first_on_top (scope_of m b).temps (value (object on_top.0)) on_top.1) on_top.1

-- releases

abbrev TurnSame : Mem → Turn → Type 0
TurnSame m (goes_on n) = AllSame m n
TurnSame m (stops n answer) = AllSame m n

module _ (m : Mem) (b : ℕ) (h : IsBlock m b) (rest : List Item) where
  link-same : (held : Bool) (s : ℕ) → AllSame m (link_dropped held m b rest s)
  link-same true s = with_falling-same m b h rest
  link-same false s = with_falling-same (record m { stores = with_numbered m.stores s None }) b h (fallen (value (content_of m s)) ++ rest)

  removed-same : (f : Option ℕ) (k : ℕ) → TurnSame m (object_removed f (object_of m k) m b rest k)
  removed-same (Some f) k = λ c. refl
  removed-same None k = with_falling-same (record m { objects = with_numbered m.objects k None }) b h (property_links (object_of m k).properties ++ rest)

  released-same : (due : Bool) (k : ℕ) → TurnSame m (object_released due (object_of m k) m b rest k)
  released-same true k = λ c. refl
  released-same false k = removed-same (object_of m k).frame k

  handle-same : (held : Bool) (k : ℕ) → TurnSame m (handle_dropped held (object_of m k) m b rest k)
  handle-same true k = with_falling-same m b h rest
  handle-same false k = released-same ((object_of m k).finishing && not (object_of m k).spent) k

  item-same : (i : Item) → TurnSame m (item_released i m b rest)
  item-same (link s) = link-same (is_held (with_falling m b rest) s) s
  item-same (value null) = with_falling-same m b h rest
  item-same (value (truth x)) = with_falling-same m b h rest
  item-same (value (int i)) = with_falling-same m b h rest
  item-same (value (text bytes)) = with_falling-same m b h rest
  item-same (value (array t)) = with_falling-same m b h (entry_links t.entries ++ rest)
  item-same (value (object k)) = handle-same (is_object_held (with_falling m b rest) k) k

first-same : (m : Mem) (b : ℕ) → IsBlock m b → (is : List Item) → TurnSame m (first_released is m b)
first-same m b h [] = λ c. refl
first-same m b h (i ∷ rest) = item-same m b h rest i

fall_within-same : (k : ℕ) (m : Mem) (b : ℕ) → IsBlock m b → AllSame m (fall_within k m b).0
fall_within-same zero m b h = λ c. refl
fall_within-same (suc k) m b h = after (turn_of_release m b) (first-same m b h (scope_of m b).falling) (λ n there. fall_within-same k n b there)
  where
    after : (t : Turn) → TurnSame m t → ((n : Mem) → IsBlock n b → AllSame n (fall_within k n b).0) → AllSame m (fall_after t (λ n. fall_within k n b)).0
    after (goes_on n) a go_on = same_trans m n (fall_within k n b).0 a (go_on n (block_stays m n a b h))
    after (stops n answer) a go_on = a

pub fall-same : (m : Mem) (b : ℕ) → IsBlock m b → AllSame m (fall m b).0
unfolding fall
fall-same m b h = fall_within-same (suc (turns m b)) m b h

-- marks of objects

module _ (m : Mem) where
  pub finish-same : (k : ℕ) → AllSame m (finish m k)
  unfolding finish
  finish-same k = λ c. refl

  pub spare-same : (k : ℕ) → AllSame m (spare m k)
  unfolding spare
  spare-same k = λ c. refl

  pub attach-same : (k : ℕ) (f : Option ℕ) → AllSame m (attach m k f)
  unfolding attach
  attach-same k f = λ c. refl

  pub enter-shape : (b room c : ℕ) → shape (enter m b room) c ≡ in_block b c (record { there = true; room = room; temps = [] }) (shape m c)
  unfolding enter
  enter-shape b room c = shape-with_scope m b (record no_scope { room = room }) c

  pub leave-shape : (b c : ℕ) → shape (leave m b) c ≡ in_block b c (record { there = false; room = 0; temps = [] }) (shape m c)
  unfolding leave
  leave-shape b c = shape-numbered m b None c

  -- a text joined on top leaves the kinds as they are
  pub append-shape : (b : ℕ) (p : Place) → CanAppend b p m → (c : ℕ) → shape (append m b p) c ≡ in_block b c (if_done (joined_and_assigned m b p) (without_top (shape m b)) (shape m b)) (shape m c)
  unfolding append
  append-shape b p can c =
      let bytes : List ℕ = text_found (found m p) ++ text_of_item (top m b) in
      let i : Item = value (text bytes) in
      let n = with_top m b i in
      let a : AllSame m n = λ d. shape-with_temps m b can.block _ d ∙ ap (λ ks. in_block b d (record (shape m b) { temps = false ∷ ks }) (shape m d)) (rest_kinds (scope_of m b).temps) ∙ ap (λ s. in_block b d s (shape m d)) (same_top m b can.block i (value (text can.behind)) can.top refl) ∙ in_block-self b d (shape m) in
      assign-shape n b p (can_assign_joined m b p can bytes) c ∙ in_block-same m n a b c (λ s. if_done (joined_and_assigned m b p) (without_top s) s)

pub shapes : (o : Operation) (m : Mem) → Can o m → (c : ℕ) → shape (effect o m) c ≡ shape_after o m c
shapes (op.enter b room) m can c = enter-shape m b room c
shapes (op.leave b) m can c = leave-shape m b c
shapes (op.push b v) m can c = push-shape m b can.block v c
shapes (op.push_array b) m can c = push_array-shape m b can.block c
shapes (op.push_object b k) m can c = push_object-shape m b can.block k c
shapes (op.copy b p) m can c = copy-shape m b can.block p c
shapes (op.assign b p) m can c = assign-shape m b p can c
shapes (op.link b p) m can c = make_link-shape m b p can c
shapes (op.bind b p) m can c = bind-shape m b p can c
shapes (op.settle b) m can c = settle-shape m b can.block can.top c
shapes (op.pass b d) m can c = pass-shape m b can.from_block d can.to_block c
shapes (op.turn b n) m can c = turn-shape m b can.block n c
shapes (op.reserve b n) m can c = reserve-shape m b can n c
shapes (op.append b p) m can c = append-shape m b p can c
shapes (op.unset b p) m can c = unset-same m b can.block p can.place c
shapes (op.unset_last b p) m can c = unset_last-same m b can.block p c
shapes (op.forget b k) m can c = forget-same m b can.block k c
shapes (op.shed b) m can c = shed-same m b can.block c
shapes (op.drop_top b) m can c = drop_top-shape m b can.block c
shapes (op.fall b) m can c = fall-same m b can c
shapes (op.make_object b class finishing) m can c = make_object-shape m b can.block class finishing c
shapes (op.clone_object b) m can c = clone_object-same m b can.block can.top c
shapes (op.finish k) m can c = finish-same m k c
shapes (op.spare k) m can c = spare-same m k c
shapes (op.attach k f) m can c = attach-same m k f c
