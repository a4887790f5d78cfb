-- An object that comes behind all others.
use Rattle.std.proofs.Common.{◌≡◌, ◌≢◌, ◌<◌, ◌+◌, ℕ, zero, suc, List, [], ◌∷◌, ◌++◌, length, map, refl, sym, ◌∙◌, ap, subst, arith, inl, inr}
use Rattle.std.specs.Prelude.{Bool, true, false, nat_le, Option, Some, None, Box, Result, Ok, Err, IfOk, OnErr, option_map, unwrap_or, slice_index_or}
use Rattle.std.specs.declared.alloc.Global.{Global}
use Rattle.std.proofs.lemmas.Bool.{leb-true}
use Rattle.std.proofs.lemmas.Bool.Decides.{eqb_tells}
use Rattle.std.proofs.lemmas.List.{map-append}
use Rattle.php_memdef.specs.Numbered.{numbered, with_numbered}
use Rattle.php_memdef.specs.Contents.{value, object, Mem, no_object, object_of}
use Rattle.php_memdef.specs.Contents as model
use Rattle.php_memdef.specs.Holders.{times, stores_of_object, holders, object_holders}
use Rattle.php_memdef.specs.Objects.{OBJECT_LIMIT, with_new_object, new_object, object_made, make_object}
use Rattle.php_memdef.specs.Temporaries.{pushed}
use Rattle.php_base.specs.declared.memory.NoMemory.{NoMemory}
use Rattle.php_memdef_laws.proofs.NumberedLemmas.{numbered-length, with_next-numbered}
use Rattle.php_memdef_laws.proofs.Held.Parts.{holders-with_object}
use Rattle.php_memplain_cells.specs.declared.objects.Object.{Object}
use Rattle.php_memplain_cells.specs.declared.load.Property.{Property}
use Rattle.php_memplain_cells.specs.declared.cells.Cells.{Cells}
use Rattle.php_memplain_cells.specs.Seen.{property_seen, stores_seen, box_seen, objects_seen}
use Rattle.php_memplain_cells.specs.Counts.{handles_if, count_of_store, count_of_object}
use Rattle.php_memplain_cells.specs.Memory.{memory_seen, IsCounted, IsCountedWith}
use Rattle.php_memplain_cells.proofs.MemoryLemmas.{counted_by}
use Rattle.php_memplain_copy.specs.Walking.{with_stores}
use Rattle.php_memplain_copy.proofs.GrownLemmas.{times_one, times_none}
use Rattle.php_memplain_content.specs.Copies.{IsBack}
use Rattle.php_memplain_objects.specs.Making.{made_object, IsAppended, IsUnchanged, IsNew}

abbrev Slot : Type 0
Slot = Option (Box Object Global)

last_there : (os : List Slot) (x : Slot) → slice_index_or (os ++ x ∷ []) (length os) None ≡ x
last_there [] x = refl
last_there (o ∷ os) x = last_there os x

others_there : (os : List Slot) (x : Slot) (n : ℕ) → n ≢ length os → slice_index_or (os ++ x ∷ []) n None ≡ slice_index_or os n None
others_there [] x zero ne = absurd (ne refl)
others_there [] x (suc n) ne = refl
others_there (o ∷ os) x zero ne = refl
others_there (o ∷ os) x (suc n) ne = others_there os x n (λ e. ne (ap suc e))

none_behind : (os : List Slot) → slice_index_or os (length os) None ≡ None
none_behind [] = refl
none_behind (o ∷ os) = none_behind os

-- the new object has one holder
count_made : (os : List Slot) (o : Box Object Global) → o.value.holders ≡ 1 → (h : ℕ) → count_of_object (os ++ Some o ∷ []) h ≡ count_of_object os h + times h (suc (length os) ∷ [])
count_made os o one zero = let none : times zero (suc (length os) ∷ []) ≡ 0 = times_none zero (suc (length os)) (λ e. omega (arith, e)) in omega (arith, none)
count_made os o one (suc n) = elim (eqb_tells n (length os)) [
  | inl e ↦ (
      let now : count_of_object (os ++ Some o ∷ []) (suc n) ≡ 1 = ap (λ k. handles_if (slice_index_or (os ++ Some o ∷ []) k None)) e.1 ∙ ap handles_if (last_there os (Some o)) ∙ one in
      let was : count_of_object os (suc n) ≡ 0 = ap (λ k. handles_if (slice_index_or os k None)) e.1 ∙ ap handles_if (none_behind os) in
      let once : times (suc n) (suc (length os) ∷ []) ≡ 1 = ap (λ k. times (suc k) (suc (length os) ∷ [])) e.1 ∙ times_one (suc (length os)) in
      omega (arith, now, was, once))
  | inr e ↦ (
      let same : count_of_object (os ++ Some o ∷ []) (suc n) ≡ count_of_object os (suc n) = ap handles_if (others_there os (Some o) n e.1) in
      let none : times (suc n) (suc (length os) ∷ []) ≡ 0 = times_none (suc n) (suc (length os)) (λ d. e.1 (omega (arith, d))) in
      omega (arith, same, none))
]

seen_length : (os : List Slot) → length (map (option_map box_seen) os) ≡ length os
seen_length [] = refl
seen_length (o ∷ os) = ap suc (seen_length os)

longer : (os : List Slot) (x : Slot) → length (os ++ x ∷ []) ≡ length os + 1
longer [] x = omega arith
longer (o ∷ os) x = omega (arith, longer os x)

-- it has the next number
objects_made : (os : List Slot) (o : Box Object Global) → objects_seen (os ++ Some o ∷ []) ≡ with_numbered (objects_seen os) (length os + 1) (Some (box_seen o))
objects_made os o =
    let up : length (objects_seen os) ≡ length os + 1 = omega (arith, seen_length os) in
    ap (λ xs. None ∷ xs) (map-append (option_map box_seen) os (Some o ∷ []))
    ∙ with_next-numbered (objects_seen os) (box_seen o)
    ∙ ap (λ (k : ℕ). with_numbered (objects_seen os) k (Some (box_seen o))) up

module _ (s t : Cells) (x : model.Object) (o : Box Object Global) (is : box_seen o ≡ x) (one : o.value.holders ≡ 1)
    (stores : t.stores ≡ s.stores) (blocks : t.blocks ≡ s.blocks) (statics : t.statics ≡ s.statics) (items : t.objects.items ≡ s.objects.items ++ Some o ∷ []) where
  made_seen : memory_seen t ≡ with_new_object (memory_seen s) x
  made_seen =
      let os = s.objects.items in
      ap (λ xs. record (memory_seen t) { objects = objects_seen xs; next_object = length xs + 1 }) items
      ∙ ap (λ xs. record (memory_seen t) { objects = xs; next_object = length (os ++ Some o ∷ []) + 1 }) (objects_made os o ∙ ap (λ y. with_numbered (objects_seen os) (length os + 1) (Some y)) is)
      ∙ ap (λ (n : ℕ). record (memory_seen t) { objects = with_numbered (objects_seen os) (length os + 1) (Some x); next_object = n + 1 }) (longer os (Some o))
      ∙ ap (λ (c : Cells). record (memory_seen c) { objects = with_numbered (objects_seen os) (length os + 1) (Some x); next_object = length os + 1 + 1 }) same
    where
      same : record t { objects = s.objects; alloc = s.alloc; ledger = s.ledger } ≡ s
      same = ap (λ y. record s { stores = y; blocks = t.blocks; statics = t.statics }) stores ∙ ap (λ y. record s { blocks = y; statics = t.statics }) blocks ∙ ap (λ y. record s { statics = y }) statics

  pub appended : (n : ℕ) → n ≡ length s.objects.items + 1 → n < OBJECT_LIMIT → IsAppended s x n t
  appended n number below = record {
    number = number;
    below = below;
    seen = made_seen;
    stores = stores;
    counts = λ h. (
        let now : count_of_object t.objects.items h ≡ count_of_object s.objects.items h + times h (suc (length s.objects.items) ∷ []) = ap (λ xs. count_of_object xs h) items ∙ count_made s.objects.items o one h in
        let up : times h (suc (length s.objects.items) ∷ []) ≡ times h (n ∷ []) = ap (λ (k : ℕ). times h (k ∷ [])) (omega (arith, number)) in
        omega (arith, now, up));
  }

-- what it names was at hand, and then its handle is
pub appended_counted : (s t : Cells) (x : model.Object) (n : ℕ) → IsAppended s x n t → IsCountedWith s (stores_of_object x) [] → IsCountedWith t [] (n ∷ [])
unfolding object_holders holders
appended_counted s t x n a counted =
    let old = memory_seen s in
    counted_by t (with_new_object old x) [] (n ∷ []) a.seen
    (λ k. (
    let same : count_of_store t.stores k ≡ count_of_store s.stores k = ap (λ y. count_of_store y k) a.stores in
    let none : times k (stores_of_object (object_of old old.next_object)) ≡ 0 = ap (λ y. times k (stores_of_object (unwrap_or y no_object))) nothing_there in
    let new : holders (record old { objects = with_numbered old.objects old.next_object (Some x) }) k + times k (stores_of_object (object_of old old.next_object)) ≡ holders old k + times k (stores_of_object x) = holders-with_object old k old.next_object (Some x) in
    let kept : holders (with_new_object old x) k ≡ holders (record old { objects = with_numbered old.objects old.next_object (Some x) }) k = refl in
    omega (arith, same, none, new, kept, counted.stores k)))
    (λ h. (
    let kept : object_holders (with_new_object old x) h ≡ object_holders old h = refl in
    omega (arith, a.counts h, kept, counted.objects h)))
  where
    nothing_there : numbered (memory_seen s).objects (memory_seen s).next_object ≡ None
    nothing_there =
        let up : length (objects_seen s.objects.items) ≡ length s.objects.items + 1 = omega (arith, seen_length s.objects.items) in
        ap (λ (n : ℕ). numbered (objects_seen s.objects.items) n) (sym up) ∙ numbered-length (objects_seen s.objects.items)

-- nothing came
pub unchanged_back : (s t : Cells) → IsUnchanged s t → IsCounted s → IsBack s t
unchanged_back s t same counted = record {
  counted =
      counted_by t (memory_seen s) [] [] same.seen
      (λ k. ap (λ y. count_of_store y k) same.stores ∙ counted.stores k)
      (λ h. ap (λ xs. count_of_object xs h) same.objects ∙ counted.objects h);
  stores = λ k. ap (λ (m : Mem). numbered m.stores k) same.seen;
  seen = same.seen ∙ ap (λ xs. with_stores s xs) (sym (ap stores_seen same.stores));
}

-- the same objects elsewhere
pub unchanged : (s t : Cells) → t.stores ≡ s.stores → t.blocks ≡ s.blocks → t.statics ≡ s.statics → t.objects.items ≡ s.objects.items → IsUnchanged s t
unchanged s t stores blocks statics items = record { seen = seen; stores = stores; objects = items }
  where
    same : record t { objects = s.objects; alloc = s.alloc; ledger = s.ledger } ≡ s
    same = ap (λ y. record s { stores = y; blocks = t.blocks; statics = t.statics }) stores ∙ ap (λ y. record s { blocks = y; statics = t.statics }) blocks ∙ ap (λ y. record s { statics = y }) statics

    seen : memory_seen t ≡ memory_seen s
    seen =
        ap (λ xs. record (memory_seen t) { objects = objects_seen xs; next_object = length xs + 1 }) items
        ∙ ap (λ (c : Cells). record (memory_seen c) { objects = objects_seen s.objects.items; next_object = length s.objects.items + 1 }) same

-- an object without properties
pub new_made : (s t : Cells) (class : ℕ) (finishing : Bool) (none : List Property) → none ≡ [] → IsCounted s → (r : Result ℕ NoMemory) → IfOk r (λ n. IsAppended s (made_object class finishing (map property_seen none)) n t) → IfOk r (λ n. IsNew s (new_object class finishing) n t)
new_made s t class finishing none e counted (Ok n) h =
    let a : IsAppended s (new_object class finishing) n t = subst (λ ps. IsAppended s (made_object class finishing (map property_seen ps)) n t) e h in
    record { number = a.number; below = a.below; seen = a.seen; counted = appended_counted s t (new_object class finishing) n a counted }
new_made s t class finishing none e counted (Err x) h = h

pub nothing_made : (s t : Cells) → IsCounted s → (r : Result ℕ NoMemory) → OnErr r (IsUnchanged s t) → OnErr r (IsBack s t)
nothing_made s t counted (Ok n) h = h
nothing_made s t counted (Err x) h = unchanged_back s t h counted

-- there is a number for one more object
pub room_for_number : (n : ℕ) → n < OBJECT_LIMIT → nat_le OBJECT_LIMIT n ≡ false
room_for_number n below = test (nat_le OBJECT_LIMIT n) refl
  where
    test : (x : Bool) → nat_le OBJECT_LIMIT n ≡ x → nat_le OBJECT_LIMIT n ≡ false
    test true e = absurd (omega (arith, leb-true OBJECT_LIMIT n e, below))
    test false e = e

-- what the model makes of it
pub model_makes : (m : Mem) (b class n : ℕ) (finishing : Bool) → n ≡ m.next_object → n < OBJECT_LIMIT → make_object m b class finishing ≡ (pushed (with_new_object m (new_object class finishing)) b (value (object n)), Some n)
unfolding make_object
model_makes m b class n finishing number below =
    ap (λ x. object_made x m b class finishing) (room_for_number m.next_object (subst (λ (k : ℕ). k < OBJECT_LIMIT) number below))
    ∙ ap (λ (k : ℕ). (pushed (with_new_object m (new_object class finishing)) b (value (object k)), Some k)) (sym number)
