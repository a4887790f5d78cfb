-- What is removed at a place.
use Rattle.std.proofs.Common.{◌≡◌, ◌<◌, ℕ, List, [], ◌∷◌, ◌++◌, length, refl, sym, ◌∙◌, ap, subst, arith}
use Rattle.std.specs.Prelude.{Option, Some, None}
use Rattle.slab.specs.Slab.{ContainsKey}
use Rattle.php_memdef.specs.declared.place.Base.{Base}
use Rattle.php_memdef.specs.declared.place.Base.TheVariants.{Var, Property as OfObject, Static, Temp}
use Rattle.php_memdef.specs.declared.place.Step.{Step}
use Rattle.php_memdef.specs.declared.place.Place.{Place}
use Rattle.php_memdef.specs.Numbered.{numbered}
use Rattle.php_memdef.specs.Contents.{Content, null, truth, int, text, array, object, Item, value, link, Mem, scope_of, object_of}
use Rattle.php_memdef.specs.Holders.{stores_of_content}
use Rattle.php_memdef.specs.Places.{Spot, nth_item, content_at, elements_of, variable_store, property_store, stored_if, temp_spot, base_spot, step_store_if, next_spot, spot_along, find_place}
use Rattle.php_memdef.specs.Conditions.{IsBlock}
use Rattle.php_memdef.specs.Writes.{steps_before, last_step, removed_at_spot, removed_at, unset, last_removed_at, unset_last, let_fall_if}
use Rattle.php_memdef.specs.Sound.{Every, IsLive, IsClosed}
use Rattle.php_memdef_laws.proofs.Closed.Parts.{IfFound, variable-found, property-found, step-found, nth_link-found, variables-closed, object-closed, temps-closed, content_at-closed}
use Rattle.php_memplain_cells.specs.declared.cells.Cells.{Cells}
use Rattle.php_memplain_cells.specs.Memory.{memory_seen, IsCounted}
use Rattle.php_memplain_changes.specs.Standing.{HasContent}
use Rattle.php_memplain_changes.specs.Taken.{Takes, Becomes}
use Rattle.php_memplain_changes.proofs.SwapLemmas.{none_some, same_some, block_live}

elements_found : (P : ℕ → Type 0) (c : Content) (step : Step) → Every P (stores_of_content c) → IfFound P (step_store_if (elements_of c) step)
elements_found P null step h = tt
elements_found P (truth b) step h = tt
elements_found P (int i) step h = tt
elements_found P (text bytes) step h = tt
elements_found P (array t) step h = step-found P t step h
elements_found P (object n) step h = tt

-- where a place is found something stands
module _ (m : Mem) (closed : IsClosed m) where
  stored_good : (o : Option ℕ) → IfFound (IsLive m) o → (spot : Spot) → stored_if o ≡ Some spot → HasContent m spot
  stored_good None h spot e = absurd (none_some e)
  stored_good (Some s) h spot e = subst (HasContent m) (same_some e) h

  temp_good : (b k : ℕ) (i : Option Item) → nth_item (scope_of m b).temps k ≡ i → (spot : Spot) → temp_spot b k i ≡ Some spot → HasContent m spot
  temp_good b k None e spot h = absurd (none_some h)
  temp_good b k (Some (value c)) e spot h = subst (HasContent m) (same_some h) (c, e)
  temp_good b k (Some (link s)) e spot h = subst (HasContent m) (same_some h) (nth_link-found (IsLive m) (scope_of m b).temps k s (temps-closed m closed b) e)

  static_found : (i : ℕ) (o : Option ℕ) → numbered m.statics i ≡ o → IfFound (IsLive m) o
  static_found i None e = tt
  static_found i (Some s) e = closed.statics i s e

  base_good : (base : Base) (spot : Spot) → base_spot m base ≡ Some spot → HasContent m spot
  base_good (Var b n) spot e = stored_good (variable_store (scope_of m b.0).variables n.0) (variable-found (IsLive m) (scope_of m b.0).variables n.0 (variables-closed m closed b.0)) spot e
  base_good (OfObject h p) spot e = stored_good (property_store (object_of m h.0).properties p) (property-found (IsLive m) (object_of m h.0).properties p (object-closed m closed h.0)) spot e
  base_good (Static i) spot e = stored_good (numbered m.statics i.0) (static_found i.0 (numbered m.statics i.0) refl) spot e
  base_good (Temp b n) spot e = temp_good b.0 n (nth_item (scope_of m b.0).temps n) refl spot e

  next_good : (from : Option Spot) (step : Step) (spot : Spot) → next_spot m from step ≡ Some spot → HasContent m spot
  next_good None step spot e = absurd (none_some e)
  next_good (Some from) step spot e = stored_good (step_store_if (elements_of (content_at m from)) step) (elements_found (IsLive m) (content_at m from) step (content_at-closed m closed from)) spot e

  along_good : (from : Option Spot) → ((spot : Spot) → from ≡ Some spot → HasContent m spot) → (path : List Step) (spot : Spot) → spot_along m from path ≡ Some spot → HasContent m spot
  along_good from there [] spot e = there spot e
  along_good from there (step ∷ path) spot e = along_good (next_spot m from step) (next_good from step) path spot e

  pub found_good : (p : Place) (spot : Spot) → find_place m p ≡ Some spot → HasContent m spot
  unfolding find_place
  found_good p spot e = along_good (base_spot m p.base) (base_good p.base) p.path spot e

-- a path is its steps before the last, and the last

before_last : (x : Step) (q : List Step) (s : Step) → steps_before x (q ++ s ∷ []) ≡ x ∷ q
before_last x [] s = refl
before_last x (y ∷ q) s = ap (λ zs. x ∷ zs) (before_last y q s)

last_is : (x : Step) (q : List Step) (s : Step) → last_step x (q ++ s ∷ []) ≡ s
last_is x [] s = refl
last_is x (y ∷ q) s = last_is y q s

removed_last : (m : Mem) (b : ℕ) (base : Base) (q : List Step) (s : Step) → removed_at m b base (q ++ s ∷ []) ≡ removed_at_spot (spot_along m (base_spot m base) q) m b s
removed_last m b base [] s = refl
removed_last m b base (x ∷ q) s =
    ap (λ zs. removed_at_spot (spot_along m (base_spot m base) zs) m b (last_step x (q ++ s ∷ []))) (before_last x q s)
    ∙ ap (removed_at_spot (spot_along m (base_spot m base) (x ∷ q)) m b) (last_is x q s)

-- the element is removed where the place around it is found
pub removed_around : (m : Mem) (b : ℕ) (p : Place) (base : Base) (q : List Step) (s : Step) (o : Option Spot) → base ≡ p.base → p.path ≡ q ++ s ∷ [] → o ≡ find_place m (record { base = base; path = q }) → removed_at_spot o m b s ≡ removed_at m b p.base p.path
unfolding find_place
removed_around m b p base q s o same path found =
    ap (λ x. removed_at_spot x m b s) found
    ∙ ap (λ (x : Base). removed_at_spot (spot_along m (base_spot m x) q) m b s) same
    ∙ sym (removed_last m b p.base q s)
    ∙ ap (removed_at m b p.base) (sym path)

pub no_path : {X : Type 0} (xs : List X) → xs ≡ [] → 0 < length xs → ⊥
no_path xs e h = let none : length xs ≡ 0 = ap length e in omega (arith, h, none)

pub empty_path : {X : Type 0} (xs : List X) → length xs ≡ 0 → [] ≡ xs
empty_path [] e = refl
empty_path (x ∷ xs) e = absurd (omega (arith, e))

-- the block is in the slab once room was made
pub block_after : (s t : Cells) (b : ℕ) → memory_seen t ≡ memory_seen s → IsBlock (memory_seen s) b → ContainsKey t.blocks b
block_after s t b seen live = block_live t b (subst (λ (m : Mem). IsBlock m b) (sym seen) live)

-- the memory before room was made, and the one behind what fell
pub becomes_unset : (r s t u : Cells) (b : ℕ) (at : Place) (taken : Option ℕ) → memory_seen s ≡ memory_seen r → Takes s t taken (λ c. removed_at (memory_seen s) c at.base at.path) → memory_seen u ≡ let_fall_if (memory_seen t) b taken → IsCounted u → Becomes u (unset (memory_seen r) b at)
unfolding unset
becomes_unset r s t u b at taken same takes fell counted = record { seen = fell ∙ takes.seen b ∙ ap (λ m. removed_at m b at.base at.path) same; counted = counted }

pub becomes_unset_last : (r s t u : Cells) (b : ℕ) (at : Place) (taken : Option ℕ) → memory_seen s ≡ memory_seen r → Takes s t taken (λ c. last_removed_at (find_place (memory_seen s) at) (memory_seen s) c) → memory_seen u ≡ let_fall_if (memory_seen t) b taken → IsCounted u → Becomes u (unset_last (memory_seen r) b at)
unfolding unset_last
becomes_unset_last r s t u b at taken same takes fell counted = record { seen = fell ∙ takes.seen b ∙ ap (λ m. last_removed_at (find_place m at) m b) same; counted = counted }

-- the same under another name of what the model makes of it
pub as_removed : (s t : Cells) (taken : Option ℕ) (one other : ℕ → Mem) → Takes s t taken one → ((b : ℕ) → one b ≡ other b) → Takes s t taken other
as_removed s t taken one other takes same = record { seen = λ b. takes.seen b ∙ same b; counted = takes.counted; waiting = takes.waiting; ledger = takes.ledger }
