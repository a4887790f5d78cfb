-- The properties of an object, one after another.
use Rattle.std.proofs.Common.{◌≡◌, ℕ, zero, suc, ◌+◌, ◌<◌, ◌≤◌, List, [], ◌∷◌, ◌++◌, length, map, get_or, refl, sym, ◌∙◌, ap, subst, arith, length-append}
use Rattle.std.specs.Prelude.{Option, Some, None, Box, option_map, unwrap_or}
use Rattle.std.specs.declared.alloc.Global.{Global}
use Rattle.std.proofs.lemmas.List.{map-append}
use Rattle.slab.specs.Slab.{Slab}
use Rattle.php_memdef.specs.Contents.{Property, Mem, no_object, object_of}
use Rattle.php_memdef.specs.Contents as model
use Rattle.php_memdef.specs.Numbered.{numbered}
use Rattle.php_memdef.specs.Holders.{times, stores_of_properties}
use Rattle.php_memdef.specs.Sound.{Every, IsLive}
use Rattle.php_memdef_laws.proofs.Held.Parts.{times-append}
use Rattle.php_memplain_cells.specs.declared.load.Property.{Property as Kept}
use Rattle.php_memplain_cells.specs.declared.stores.Store.{Store}
use Rattle.php_memplain_cells.specs.declared.objects.Object.{Object}
use Rattle.php_memplain_cells.specs.declared.cells.Cells.{Cells}
use Rattle.php_memplain_cells.specs.Seen.{property_seen, stores_seen, objects_seen}
use Rattle.php_memplain_cells.specs.Memory.{memory_seen}
use Rattle.php_memplain_copy.specs.declared.log.Log.{Log}
use Rattle.php_memplain_copy.specs.Copying.{CopiesStores, CopiesOne}
use Rattle.php_memplain_copy.specs.Walking.{IsWhole, IsTaken, IsBegun}
use Rattle.php_memplain_copy.proofs.TakenLemmas.{counted_as}
use Rattle.php_memplain_copy.proofs.WalkLemmas.{one_more_copied, as_many}
use Rattle.php_memplain_content.proofs.ContentLemmas.{nothing_taken}
use Rattle.php_memplain_objects.specs.Cloning.{nth_of, first_of, over, stores_done, AreCopied}

-- a property by its place

pub longer_by_one : (ps qs : List Kept) (p : Kept) → qs ≡ ps ++ p ∷ [] → length qs ≡ length ps + 1
longer_by_one ps qs p e = let all : length qs ≡ length (ps ++ p ∷ []) = ap length e in omega (arith, all, length-append ps (p ∷ []))

pub nth_there : (ps : List Kept) (k : ℕ) (p : Kept) → k < length ps → p ≡ get_or ps k p → Some (property_seen p) ≡ nth_of (map property_seen ps) k
nth_there [] k p h is = absurd (omega (arith, h))
nth_there (q ∷ ps) zero p h is = ap (λ x. Some (property_seen x)) is
nth_there (q ∷ ps) (suc k) p h is = nth_there ps k p (omega (arith, h)) is

pub nth_past : (ps : List Kept) (k : ℕ) → length ps ≤ k → None ≡ nth_of (map property_seen ps) k
nth_past [] k h = refl
nth_past (q ∷ ps) zero h = absurd (omega (arith, h))
nth_past (q ∷ ps) (suc k) h = nth_past ps k (omega (arith, h))

same_property : {p q : Property} → Some p ≡ Some q → p ≡ q
same_property e = cc

no_property : {p : Property} → None ≡ Some p → ⊥
no_property e = cc

first_suc : (ps : List Property) (n : ℕ) (p : Property) → nth_of ps n ≡ Some p → first_of (suc n) ps ≡ first_of n ps ++ p ∷ []
first_suc [] n p e = absurd (no_property e)
first_suc (q ∷ ps) zero p e = ap (λ x. x ∷ []) (same_property e)
first_suc (q ∷ ps) (suc n) p e = ap (λ qs. q ∷ qs) (first_suc ps n p e)

pub first_all : (ps : List Property) (n : ℕ) → nth_of ps n ≡ None → first_of n ps ≡ ps
first_all [] zero e = refl
first_all [] (suc n) e = refl
first_all (q ∷ ps) zero e = absurd (no_property (sym e))
first_all (q ∷ ps) (suc n) e = ap (λ qs. q ∷ qs) (first_all ps n e)

-- one more
pub first_more : (ps : List Property) (n k : ℕ) (p : Property) → nth_of ps n ≡ Some p → k ≡ n + 1 → first_of n ps ++ p ∷ [] ≡ first_of k ps
first_more ps n k p e is = let up : suc n ≡ k = omega (arith, is) in sym (first_suc ps n p e) ∙ ap (λ (i : ℕ). first_of i ps) up

every_nth : (P : ℕ → Type 0) (ps : List Property) (n : ℕ) (p : Property) → nth_of ps n ≡ Some p → Every P (stores_of_properties ps) → P p.store
every_nth P [] n p e all = absurd (no_property e)
every_nth P (q ∷ ps) zero p e all = subst (λ (x : Property). P x.store) (same_property e) all.0
every_nth P (q ∷ ps) (suc n) p e all = every_nth P ps n p e all.1

pub nth_live : (m : Mem) (ps : List Property) (n : ℕ) (p : Property) → nth_of ps n ≡ Some p → Every (IsLive m) (stores_of_properties ps) → IsLive m p.store
nth_live m ps n p e all = every_nth (IsLive m) ps n p e all

-- lists that grow at their end

stores_more : (ps : List Property) (p : Property) → stores_of_properties (ps ++ p ∷ []) ≡ stores_of_properties ps ++ p.store ∷ []
stores_more [] p = refl
stores_more (q ∷ ps) p = ap (λ ss. q.store ∷ ss) (stores_more ps p)

over_more : (ps : List Property) (vs : List ℕ) (p : Property) (k : ℕ) → length vs ≡ length ps → over (ps ++ p ∷ []) (vs ++ k ∷ []) ≡ over ps vs ++ record p { store = k } ∷ []
over_more [] [] p k e = refl
over_more [] (v ∷ vs) p k e = absurd (omega (arith, e))
over_more (q ∷ ps) [] p k e = absurd (omega (arith, e))
over_more (q ∷ ps) (v ∷ vs) p k e = ap (λ qs. record q { store = v } ∷ qs) (over_more ps vs p k (omega (arith, e)))

pub properties_length : (ps : List Property) → length (stores_of_properties ps) ≡ length ps
properties_length [] = refl
properties_length (p ∷ ps) = ap suc (properties_length ps)

module _ (before : Cells) (log : Log) (whole : IsWhole before) (stores : log.stores.items ≡ []) (handles : log.handles.items ≡ []) where
  -- nothing is copied yet
  pub none_copied : (ps : List Property) (levels : ℕ) (done : List Kept) → done ≡ [] → AreCopied before (first_of (length done) ps) levels done before.stores before.objects.items log
  none_copied ps levels done e =
      subst (λ (ds : List Kept). AreCopied before (first_of (length ds) ps) levels ds before.stores before.objects.items log) (sym e)
      (record { taken = nothing_taken before log whole stores handles; copies = (refl, refl); named = refl })

  pub none_begun : IsBegun before before.stores before.objects.items log
  none_begun = let t = nothing_taken before log whole stores handles in record { stores_grown = t.stores_grown; objects_grown = t.objects_grown }

-- what is copied can be given back
pub taken_begun : (before : Cells) (stores : Slab Store) (objects : List (Option (Box Object Global))) (log : Log) (at_hand : ℕ → ℕ) → IsTaken before stores objects log at_hand → IsBegun before stores objects log
taken_begun before stores objects log at_hand t = record { stores_grown = t.stores_grown; objects_grown = t.objects_grown }

-- one property more
pub one_copied : (before : Cells) (passed : List Property) (levels : ℕ) (done done' : List Kept) (p : Kept) (k : ℕ) (old stores : Slab Store) (objects objects' : List (Option (Box Object Global))) (log log' : Log) → AreCopied before passed levels done old objects' log
    → IsTaken before stores objects log' (λ j. times j (stores_done done) + times j (k ∷ [])) → CopiesOne levels (memory_seen before) p.store (stores_seen old) k (stores_seen stores)
    → done' ≡ done ++ record { name = p.name; store = k } ∷ []
    → AreCopied before (passed ++ property_seen p ∷ []) levels done' stores objects log'
one_copied before passed levels done done' p k old stores objects objects' log log' a taken one is =
    let m = memory_seen before in
    let q : Kept = record { name = p.name; store = k } in
    let seen : map property_seen done' ≡ map property_seen done ++ property_seen q ∷ [] = ap (map property_seen) is ∙ map-append property_seen done (q ∷ []) in
    let names : stores_done done' ≡ stores_done done ++ k ∷ [] = ap stores_of_properties seen ∙ stores_more (map property_seen done) (property_seen q) in
    let many : length (stores_done done) ≡ length passed = as_many (CopiesOne levels m) (stores_of_properties passed) (stores_seen before.stores) (stores_done done) (stores_seen old) a.copies ∙ properties_length passed in
    record {
      taken = counted_as before stores objects log' _ (λ j. times j (stores_done done')) taken (λ j. (let all : times j (stores_done done') ≡ times j (stores_done done) + times j (k ∷ []) = ap (times j) names ∙ times-append j (stores_done done) (k ∷ []) in omega (arith, all)));
      copies =
          subst (λ vs. CopiesStores (CopiesOne levels m) (stores_of_properties (passed ++ property_seen p ∷ [])) (stores_seen before.stores) vs (stores_seen stores)) (sym names)
          (subst (λ ss. CopiesStores (CopiesOne levels m) ss (stores_seen before.stores) (stores_done done ++ k ∷ []) (stores_seen stores)) (sym (stores_more passed (property_seen p)))
          (one_more_copied (CopiesOne levels m) (stores_of_properties passed) (stores_seen before.stores) (stores_done done) (stores_seen old) p.store k (stores_seen stores) a.copies one));
      named =
          seen
          ∙ ap (λ qs. qs ++ property_seen q ∷ []) a.named
          ∙ sym (over_more passed (stores_done done) (property_seen p) k many)
          ∙ ap (over (passed ++ property_seen p ∷ [])) (sym names);
    }

-- an object looks as before
pub object_kept : (before now : Cells) (h : ℕ) → objects_seen now.objects.items ≡ objects_seen before.objects.items → object_of (memory_seen now) h ≡ object_of (memory_seen before) h
object_kept before now h seen = ap (λ os. unwrap_or (numbered os h) no_object) seen

-- what is found at a place
module _ (before now : Cells) (h place n : ℕ) (seen : objects_seen now.objects.items ≡ objects_seen before.objects.items) (same : place ≡ n) (o : Option Kept) (is : option_map property_seen o ≡ nth_of (object_of (memory_seen now) h).properties place) where
  found_there : option_map property_seen o ≡ nth_of (object_of (memory_seen before) h).properties n
  found_there = is ∙ ap (λ (x : model.Object). nth_of x.properties place) (object_kept before now h seen) ∙ ap (λ (k : ℕ). nth_of (object_of (memory_seen before) h).properties k) same

  pub place_found : (p : Kept) → o ≡ Some p → nth_of (object_of (memory_seen before) h).properties n ≡ Some (property_seen p)
  place_found p e = sym found_there ∙ ap (option_map property_seen) e

  pub place_none : o ≡ None → nth_of (object_of (memory_seen before) h).properties n ≡ None
  place_none e = sym found_there ∙ ap (option_map property_seen) e

module _ (before : Cells) (ps : List Property) (levels n : ℕ) (done : List Kept) (stores : Slab Store) (objects : List (Option (Box Object Global))) (log : Log) where
  -- one turn
  pub turn_done : (p : Property) → nth_of ps n ≡ Some p → length done ≡ n + 1 → AreCopied before (first_of n ps ++ p ∷ []) levels done stores objects log → AreCopied before (first_of (length done) ps) levels done stores objects log
  turn_done p e longer a = subst (λ qs. AreCopied before qs levels done stores objects log) (first_more ps n (length done) p e longer) a

  -- the last turn
  pub all_done : nth_of ps n ≡ None → AreCopied before (first_of n ps) levels done stores objects log → AreCopied before ps levels done stores objects log
  all_done e a = subst (λ qs. AreCopied before qs levels done stores objects log) (first_all ps n e) a
