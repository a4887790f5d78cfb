-- A release, and the operations on objects, keep what is there held.
use Rattle.std.proofs.Common.{◌≡◌, ℕ, zero, suc, ◌+◌, ◌<◌, List, [], ◌∷◌, ◌++◌, refl, sym, ◌∙◌, ap, subst, arith, inl, inr, cond}
use Rattle.std.specs.Prelude.{Bool, true, false, ◌&&◌, not, Option, Some, None, is_some}
use Rattle.std.proofs.lemmas.Bool.{leb-true, leb-false, false≢true}
use Rattle.std.proofs.lemmas.Bool.Decides.{eqb_tells}
use Rattle.php_entries.specs.Listing.{Entry}
use Rattle.php_memdef.specs.Numbered.{numbered, with_numbered}
use Rattle.php_memdef.specs.Contents.{null, truth, int, text, array, object, Item, value, link, Property, Object, Mem, content_of, scope_of, object_of}
use Rattle.php_memdef.specs.Holders.{times, stores_of_entries, stores_of_item, stores_of_items, stores_of_properties, stores_of_object, holders, handles_of_items, object_holders}
use Rattle.php_memdef.specs.Places.{with_object}
use Rattle.php_memdef.specs.Temporaries.{with_falling, fallen}
use Rattle.php_memdef.specs.Releases.{entry_links, property_links, Turn, goes_on, stops, link_dropped, object_removed, object_released, handle_dropped, is_held, is_object_held, item_released, first_released, turn, fall_after, fall_within, turns, fall}
use Rattle.php_memdef.specs.Objects.{finish, spare, attach}
use Rattle.php_memdef.specs.Sound.{IsHeld}
use Rattle.php_memdef.specs.Conditions.{IsObject}
use Rattle.php_memdef_laws.proofs.NumberedLemmas.{numbered-with_same, numbered-with_other, live-with}
use Rattle.php_memdef_laws.proofs.Held.Parts.{held_after, same_there, handles_of_item, item_times, item_handles, items_times, items_handles, fallen_times, fallen_handles, holders-with_store, handles-with_store, holders-with_object, handles-with_object, holders-with_falling, handles-with_falling}
use Rattle.php_memdef_laws.proofs.Held.Writes.{weight_of_live}

pub entry_links_times : (x : ℕ) (es : List (Entry ℕ)) → times x (stores_of_items (entry_links es)) ≡ times x (stores_of_entries es)
entry_links_times x [] = refl
entry_links_times x (e ∷ es) = omega (arith, item_times x (link e.value) (entry_links es), entry_links_times x es)

pub entry_links_handles : (x : ℕ) (es : List (Entry ℕ)) → times x (handles_of_items (entry_links es)) ≡ 0
entry_links_handles x [] = refl
entry_links_handles x (e ∷ es) = entry_links_handles x es

pub property_links_times : (x : ℕ) (ps : List Property) → times x (stores_of_items (property_links ps)) ≡ times x (stores_of_properties ps)
property_links_times x [] = refl
property_links_times x (p ∷ ps) = omega (arith, item_times x (link p.store) (property_links ps), property_links_times x ps)

pub property_links_handles : (x : ℕ) (ps : List Property) → times x (handles_of_items (property_links ps)) ≡ 0
property_links_handles x [] = refl
property_links_handles x (p ∷ ps) = property_links_handles x ps

-- an object that is changed, with the same properties
module _ (m : Mem) (held : IsHeld m) where
  pub marked-held : (h : ℕ) (y : Object) → IsObject m h → y.properties ≡ (object_of m h).properties → IsHeld (with_object m h y)
  marked-held h y live same =
      held_after m (with_object m h y) held (same_there m (with_object m h y) (λ s k. k) (λ x. (let e : times x (stores_of_object y) ≡ times x (stores_of_object (object_of m h)) = ap (λ ps. times x (stores_of_properties ps)) same in omega (arith, e, holders-with_object m x h (Some y))))
      (weight_of_live m h live y) (λ k d. live-with m.objects h y k d) (λ k. handles-with_object m k h (Some y)))

  pub finish-held : (h : ℕ) → IsObject m h → IsHeld (finish m h)
  unfolding finish
  finish-held h live = marked-held h (record (object_of m h) { finishing = true }) live refl

  pub spare-held : (h : ℕ) → IsObject m h → IsHeld (spare m h)
  unfolding spare
  spare-held h live = marked-held h (record (object_of m h) { spent = true }) live refl

  pub attach-held : (h : ℕ) (frame : Option ℕ) → IsObject m h → IsHeld (attach m h frame)
  unfolding attach
  attach-held h frame live = marked-held h (record (object_of m h) { frame = frame }) live refl

-- an item that falls gives way to what it held

abbrev TurnHeld : Turn → Type 0
TurnHeld (goes_on m) = IsHeld m
TurnHeld (stops m answer) = IsHeld m

module _ (m : Mem) (held : IsHeld m) (b : ℕ) (rest : List Item) where
  -- the same stores and objects, and each name
  passed-held : (i : Item) → (scope_of m b).falling ≡ i ∷ rest → (is : List Item) → ((x : ℕ) → times x (stores_of_items is) ≡ times x (stores_of_item i)) → ((x : ℕ) → times x (handles_of_items is) ≡ times x (handles_of_item i)) → IsHeld (with_falling m b (is ++ rest))
  passed-held i e is names handles =
      held_after m (with_falling m b (is ++ rest)) held (same_there m (with_falling m b (is ++ rest)) (λ s k. k)
      (λ x. (let a : times x (stores_of_items (scope_of m b).falling) ≡ times x (stores_of_items (i ∷ rest)) = ap (λ js. times x (stores_of_items js)) e in omega (arith, a, item_times x i rest, items_times x is rest, names x, holders-with_falling m x b (is ++ rest))))
      (λ h d. d) (λ h d. d)
      (λ x. (let a : times x (handles_of_items (scope_of m b).falling) ≡ times x (handles_of_items (i ∷ rest)) = ap (λ js. times x (handles_of_items js)) e in omega (arith, a, item_handles x i rest, items_handles x is rest, handles x, handles-with_falling m x b (is ++ rest)))))

  link_kept : (s : ℕ) → (scope_of m b).falling ≡ link s ∷ rest → is_held (with_falling m b rest) s ≡ true → IsHeld (with_falling m b rest)
  link_kept s e more =
      let n = with_falling m b rest in
      let names : (x : ℕ) → holders n x + times x (s ∷ []) ≡ holders m x = λ x. (let a : times x (stores_of_items (scope_of m b).falling) ≡ times x (stores_of_items (link s ∷ rest)) = ap (λ js. times x (stores_of_items js)) e in omega (arith, a, item_times x (link s) rest, holders-with_falling m x b rest)) in
      let handles : (x : ℕ) → object_holders n x ≡ object_holders m x = λ x. (let a : times x (handles_of_items (scope_of m b).falling) ≡ times x (handles_of_items (link s ∷ rest)) = ap (λ js. times x (handles_of_items js)) e in omega (arith, a, item_handles x (link s) rest, handles-with_falling m x b rest)) in
      let some : 0 < holders n s = leb-true 1 (holders n s) more in
      record {
        stores = λ x live. elim (eqb_tells x s) [
          | inl d ↦ subst (λ (j : ℕ). 0 < holders n j) (sym d.1) some
          | inr d ↦ (let none : times x (s ∷ []) ≡ 0 = ap (λ c. cond c 1 0 + 0) d.0 in let was : 0 < holders m x = held.stores x live in omega (arith, none, was, names x))
        ];
        objects_live = λ h k. held.objects_live h (omega (arith, k, handles h));
        objects_held = λ h k. (let was : 0 < object_holders m h = held.objects_held h k in omega (arith, was, handles h));
      }

  link_gone : (s : ℕ) → (scope_of m b).falling ≡ link s ∷ rest → IsHeld (link_dropped false m b rest s)
  link_gone s e =
      let m' : Mem = record m { stores = with_numbered m.stores s None } in
      let c = content_of m s in
      let is = fallen (value c) ++ rest in
      let n = with_falling m' b is in
      let names : (x : ℕ) → holders n x + times x (s ∷ []) ≡ holders m x = λ x. (let a : times x (stores_of_items (scope_of m b).falling) ≡ times x (stores_of_items (link s ∷ rest)) = ap (λ js. times x (stores_of_items js)) e in omega (arith, a, item_times x (link s) rest, items_times x (fallen (value c)) rest, fallen_times x (value c), holders-with_store m x s None, holders-with_falling m' x b is)) in
      let handles : (x : ℕ) → object_holders n x ≡ object_holders m x = λ x. (let a : times x (handles_of_items (scope_of m b).falling) ≡ times x (handles_of_items (link s ∷ rest)) = ap (λ js. times x (handles_of_items js)) e in omega (arith, a, item_handles x (link s) rest, items_handles x (fallen (value c)) rest, fallen_handles x (value c), handles-with_store m x s None, handles-with_falling m' x b is)) in
      record {
        stores = λ x live. elim (eqb_tells x s) [
          | inl d ↦ absurd (false≢true (sym (ap is_some (ap (numbered (with_numbered m.stores s None)) d.1 ∙ numbered-with_same m.stores s None)) ∙ live))
          | inr d ↦ (let none : times x (s ∷ []) ≡ 0 = ap (λ c. cond c 1 0 + 0) d.0 in let was : 0 < holders m x = held.stores x (ap is_some (sym (numbered-with_other m.stores s x None d.1)) ∙ live) in omega (arith, none, was, names x))
        ];
        objects_live = λ h k. held.objects_live h (omega (arith, k, handles h));
        objects_held = λ h k. (let was : 0 < object_holders m h = held.objects_held h k in omega (arith, was, handles h));
      }

  link_dropped-held : (s : ℕ) → (scope_of m b).falling ≡ link s ∷ rest → (more : Bool) → is_held (with_falling m b rest) s ≡ more → IsHeld (link_dropped more m b rest s)
  link_dropped-held s e true more = link_kept s e more
  link_dropped-held s e false more = link_gone s e

  -- the handle that falls

  left_names : (h : ℕ) → (scope_of m b).falling ≡ value (object h) ∷ rest → (x : ℕ) → holders (with_falling m b rest) x ≡ holders m x
  left_names h e x = let a : times x (stores_of_items (scope_of m b).falling) ≡ times x (stores_of_items (value (object h) ∷ rest)) = ap (λ js. times x (stores_of_items js)) e in omega (arith, a, item_times x (value (object h)) rest, holders-with_falling m x b rest)

  left_handles : (h : ℕ) → (scope_of m b).falling ≡ value (object h) ∷ rest → (x : ℕ) → object_holders (with_falling m b rest) x + times x (h ∷ []) ≡ object_holders m x
  left_handles h e x = let a : times x (handles_of_items (scope_of m b).falling) ≡ times x (handles_of_items (value (object h) ∷ rest)) = ap (λ js. times x (handles_of_items js)) e in omega (arith, a, item_handles x (value (object h)) rest, handles-with_falling m x b rest)

  handle_there : (h : ℕ) → (scope_of m b).falling ≡ value (object h) ∷ rest → IsObject m h
  handle_there h e = held.objects_live h (let one : times h (h ∷ []) ≡ 1 = self h in omega (arith, one, left_handles h e h))
    where
      self : (h : ℕ) → times h (h ∷ []) ≡ 1
      self h = elim (eqb_tells h h) [
        | inl d ↦ ap (λ c. cond c 1 0 + 0) d.0
        | inr d ↦ absurd (d.1 refl)
      ]

  handle_kept : (h : ℕ) → (scope_of m b).falling ≡ value (object h) ∷ rest → is_object_held (with_falling m b rest) h ≡ true → IsHeld (with_falling m b rest)
  handle_kept h e more =
      let n = with_falling m b rest in
      let some : 0 < object_holders n h = leb-true 1 (object_holders n h) more in
      record {
        stores = λ x live. (let was : 0 < holders m x = held.stores x live in omega (arith, was, left_names h e x));
        objects_live = λ k some. held.objects_live k (omega (arith, some, left_handles h e k));
        objects_held = λ k there. elim (eqb_tells k h) [
          | inl d ↦ subst (λ (j : ℕ). 0 < object_holders n j) (sym d.1) some
          | inr d ↦ (let none : times k (h ∷ []) ≡ 0 = ap (λ c. cond c 1 0 + 0) d.0 in let was : 0 < object_holders m k = held.objects_held k there in omega (arith, none, was, left_handles h e k))
        ];
      }

  handle_gone : (h : ℕ) → (scope_of m b).falling ≡ value (object h) ∷ rest → is_object_held (with_falling m b rest) h ≡ false → IsHeld (with_falling (record m { objects = with_numbered m.objects h None }) b (property_links (object_of m h).properties ++ rest))
  handle_gone h e less =
      let m' : Mem = record m { objects = with_numbered m.objects h None } in
      let ps = (object_of m h).properties in
      let is = property_links ps ++ rest in
      let n = with_falling m' b is in
      let last : object_holders (with_falling m b rest) h < 1 = leb-false 1 (object_holders (with_falling m b rest) h) less in
      let names : (x : ℕ) → holders n x ≡ holders m x = λ x. (let a : times x (stores_of_items (scope_of m b).falling) ≡ times x (stores_of_items (value (object h) ∷ rest)) = ap (λ js. times x (stores_of_items js)) e in omega (arith, a, item_times x (value (object h)) rest, items_times x (property_links ps) rest, property_links_times x ps, holders-with_object m x h None, holders-with_falling m' x b is)) in
      let handles : (x : ℕ) → object_holders n x ≡ object_holders (with_falling m b rest) x = λ x. omega (arith, items_handles x (property_links ps) rest, property_links_handles x ps, handles-with_object m x h None, handles-with_falling m' x b is, handles-with_falling m x b rest) in
      record {
        stores = λ x live. (let was : 0 < holders m x = held.stores x live in omega (arith, was, names x));
        objects_live = λ k some. elim (eqb_tells k h) [
          | inl d ↦ absurd (let same : object_holders n k ≡ object_holders n h = ap (object_holders n) d.1 in omega (arith, some, same, handles h, last))
          | inr d ↦ ap is_some (numbered-with_other m.objects h k None d.1) ∙ held.objects_live k (omega (arith, some, handles k, left_handles h e k))
        ];
        objects_held = λ k there. elim (eqb_tells k h) [
          | inl d ↦ absurd (false≢true (sym (ap is_some (ap (numbered (with_numbered m.objects h None)) d.1 ∙ numbered-with_same m.objects h None)) ∙ there))
          | inr d ↦ (let none : times k (h ∷ []) ≡ 0 = ap (λ c. cond c 1 0 + 0) d.0 in let was : 0 < object_holders m k = held.objects_held k (ap is_some (sym (numbered-with_other m.objects h k None d.1)) ∙ there) in omega (arith, none, was, handles k, left_handles h e k))
        ];
      }

  object_removed-held : (h : ℕ) → (scope_of m b).falling ≡ value (object h) ∷ rest → is_object_held (with_falling m b rest) h ≡ false → (f : Option ℕ) → TurnHeld (object_removed f (object_of m h) m b rest h)
  object_removed-held h e less (Some f) = marked-held m held h (record (object_of m h) { frame = None }) (handle_there h e) refl
  object_removed-held h e less None = handle_gone h e less

  object_released-held : (h : ℕ) → (scope_of m b).falling ≡ value (object h) ∷ rest → is_object_held (with_falling m b rest) h ≡ false → (due : Bool) → TurnHeld (object_released due (object_of m h) m b rest h)
  object_released-held h e less true = marked-held m held h (record (object_of m h) { spent = true }) (handle_there h e) refl
  object_released-held h e less false = object_removed-held h e less (object_of m h).frame

  handle_dropped-held : (h : ℕ) → (scope_of m b).falling ≡ value (object h) ∷ rest → (more : Bool) → is_object_held (with_falling m b rest) h ≡ more → TurnHeld (handle_dropped more (object_of m h) m b rest h)
  handle_dropped-held h e true more = handle_kept h e more
  handle_dropped-held h e false less = object_released-held h e less ((object_of m h).finishing && not (object_of m h).spent)

  item_released-held : (i : Item) → (scope_of m b).falling ≡ i ∷ rest → TurnHeld (item_released i m b rest)
  item_released-held (link s) e = link_dropped-held s e (is_held (with_falling m b rest) s) refl
  item_released-held (value null) e = passed-held (value null) e [] (λ x. refl) (λ x. refl)
  item_released-held (value (truth x)) e = passed-held (value (truth x)) e [] (λ x. refl) (λ x. refl)
  item_released-held (value (int i)) e = passed-held (value (int i)) e [] (λ x. refl) (λ x. refl)
  item_released-held (value (text bytes)) e = passed-held (value (text bytes)) e [] (λ x. refl) (λ x. refl)
  item_released-held (value (array t)) e = passed-held (value (array t)) e (entry_links t.entries) (λ x. entry_links_times x t.entries) (λ x. entry_links_handles x t.entries)
  item_released-held (value (object h)) e = handle_dropped-held h e (is_object_held (with_falling m b rest) h) refl

first_released-held : (m : Mem) → IsHeld m → (b : ℕ) (is : List Item) → (scope_of m b).falling ≡ is → TurnHeld (first_released is m b)
first_released-held m held b [] e = held
first_released-held m held b (i ∷ rest) e = item_released-held m held b rest i e

fall_within-held : (k : ℕ) (m : Mem) → IsHeld m → (b : ℕ) → IsHeld (fall_within k m b).0
fall_within-held zero m held b = held
fall_within-held (suc k) m held b = after (turn m b) (first_released-held m held b (scope_of m b).falling refl) (λ n h. fall_within-held k n h b)
  where
    after : (t : Turn) → TurnHeld t → ((n : Mem) → IsHeld n → IsHeld (fall_within k n b).0) → IsHeld (fall_after t (λ n. fall_within k n b)).0
    after (goes_on n) h go_on = go_on n h
    after (stops n answer) h go_on = h

pub fall-held : (m : Mem) → IsHeld m → (b : ℕ) → IsHeld (fall m b).0
unfolding fall
fall-held m held b = fall_within-held (suc (turns m b)) m held b
