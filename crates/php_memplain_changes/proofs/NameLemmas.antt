-- The variable or the property of a name is taken out.
use Rattle.std.proofs.Common.{◌≡◌, ◌<◌, ◌≤◌, ◌+◌, ℕ, zero, suc, List, [], ◌∷◌, ◌++◌, length, map, take, drop, refl, sym, ◌∙◌, ap, arith, cond, add-one}
use Rattle.std.specs.Prelude.{Bool, true, false, nat_eq, Option, Some, None, slice_index_or, IsSome, unwrap_or, option_map}
use Rattle.std.proofs.lemmas.Bool.{false≢true}
use Rattle.slab.specs.Slab.{get, with_value}
use Rattle.php_memdef.specs.declared.place.PropName.{PropName}
use Rattle.php_memdef.specs.Numbered.{numbered}
use Rattle.php_memdef.specs.Contents as model
use Rattle.php_memdef.specs.Contents.{Scope, Mem, no_object, scope_of, object_of}
use Rattle.php_memdef.specs.Holders.{times, stores_of_variables, stores_of_properties}
use Rattle.php_memdef.specs.Places.{variable_store, property_store, prop_name_eq, with_scope, with_object}
use Rattle.php_memdef.specs.Writes.{let_fall_if, without_variable, without_property, variable_removed, property_removed}
use Rattle.php_memdef_laws.proofs.Held.Parts.{holders-with_variables, handles-with_variables, holders-with_object, handles-with_object}
use Rattle.php_memplain_cells.specs.declared.block.Variable.{Variable}
use Rattle.php_memplain_cells.specs.declared.block.Block.{Block}
use Rattle.php_memplain_cells.specs.declared.load.Property.{Property}
use Rattle.php_memplain_cells.specs.declared.cells.Cells.{Cells}
use Rattle.php_memplain_cells.specs.Seen.{variable_seen, property_seen, scope_seen}
use Rattle.php_memplain_cells.specs.Counts.{AreSameHandles, count_of_store}
use Rattle.php_memplain_cells.specs.Memory.{memory_seen, IsCounted}
use Rattle.php_memplain_cells.proofs.SlotLemmas.{with_same}
use Rattle.php_memplain_cells.proofs.MemoryLemmas.{scope_there, counted_by}
use Rattle.php_memplain_changes.specs.Taken.{in_hand, Takes}
use Rattle.php_memplain_changes.specs.Named.{has_name, has_prop_name, NoneBefore, IsFirst, object_without}
use Rattle.php_memplain_changes.proofs.SwapLemmas.{none_some, scope_changed, waiting_kept}

-- the first that passes a test

module _ {X : Type 0} (test : X → Bool) where
  pub none_yet : (xs : List X) → NoneBefore test xs 0
  none_yet [] = tt
  none_yet (x ∷ xs) = tt

  pub none_on : (xs : List X) (k : ℕ) (d : X) → NoneBefore test xs k → k < length xs → test (slice_index_or xs k d) ≡ false → NoneBefore test xs (suc k)
  none_on [] k d p h e = absurd (omega (arith, h))
  none_on (x ∷ xs) zero d p h e = (e, none_yet xs)
  none_on (x ∷ xs) (suc k) d p h e = (p.0, none_on xs k d p.1 (omega (arith, h)) e)

  pub first_at : (xs : List X) (k : ℕ) (d : X) → NoneBefore test xs k → k < length xs → test (slice_index_or xs k d) ≡ true → IsFirst test xs k
  first_at [] k d p h e = absurd (omega (arith, h))
  first_at (x ∷ xs) zero d p h e = e
  first_at (x ∷ xs) (suc k) d p h e = (p.0, first_at xs k d p.1 (omega (arith, h)) e)

  pub first_within : (xs : List X) (k : ℕ) → IsFirst test xs k → k < length xs
  first_within [] k p = absurd p
  first_within (x ∷ xs) zero p = omega arith
  first_within (x ∷ xs) (suc k) p = omega (arith, first_within xs k p.1)

  pub none_so_far : (xs : List X) (k : ℕ) → length xs ≤ k → NoneBefore test xs k → NoneBefore test xs (length xs)
  none_so_far [] k h p = tt
  none_so_far (x ∷ xs) zero h p = absurd (omega (arith, h))
  none_so_far (x ∷ xs) (suc k) h p = (p.0, none_so_far xs k (omega (arith, h)) p.1)

-- variables

module _ (n : ℕ) where
  pub variable_first : (vs : List Variable) (k : ℕ) (d : Variable) → IsFirst (has_name n) vs k → Some (slice_index_or vs k d).store ≡ variable_store (map variable_seen vs) n
  variable_first [] k d p = absurd p
  variable_first (v ∷ vs) zero d p = sym (ap (λ b. cond b (Some v.store) (variable_store (map variable_seen vs) n)) p)
  variable_first (v ∷ vs) (suc k) d p = variable_first vs k d p.1 ∙ sym (ap (λ b. cond b (Some v.store) (variable_store (map variable_seen vs) n)) p.0)

  variable_cut : (vs : List Variable) (k : ℕ) → IsFirst (has_name n) vs k → map variable_seen (take k vs ++ drop (suc k) vs) ≡ without_variable n (map variable_seen vs)
  variable_cut [] k p = absurd p
  variable_cut (v ∷ vs) zero p = sym (ap (λ b. cond b (map variable_seen vs) (variable_seen v ∷ without_variable n (map variable_seen vs))) p)
  variable_cut (v ∷ vs) (suc k) p =
      ap (λ us. variable_seen v ∷ us) (variable_cut vs k p.1)
      ∙ sym (ap (λ b. cond b (map variable_seen vs) (variable_seen v ∷ without_variable n (map variable_seen vs))) p.0)

  pub variable_out : (vs : List Variable) (k : ℕ) → IsFirst (has_name n) vs k → map variable_seen (take k vs ++ drop (k + 1) vs) ≡ without_variable n (map variable_seen vs)
  variable_out vs k p = ap (λ (j : ℕ). map variable_seen (take k vs ++ drop j vs)) (add-one k) ∙ variable_cut vs k p

  pub variable_none : (vs : List Variable) → NoneBefore (has_name n) vs (length vs) → None ≡ variable_store (map variable_seen vs) n
  variable_none [] p = refl
  variable_none (v ∷ vs) p = variable_none vs p.1 ∙ sym (ap (λ b. cond b (Some v.store) (variable_store (map variable_seen vs) n)) p.0)

  pub variable_missing : (vs : List model.Variable) → variable_store vs n ≡ None → without_variable n vs ≡ vs
  variable_missing [] e = refl
  variable_missing (v ∷ vs) e = by_test (nat_eq n v.name) (variable_missing vs) e
    where
      by_test : (b : Bool) → (variable_store vs n ≡ None → without_variable n vs ≡ vs) → cond b (Some v.store) (variable_store vs n) ≡ None → cond b vs (v ∷ without_variable n vs) ≡ v ∷ vs
      by_test true later h = absurd (none_some (sym h))
      by_test false later h = ap (λ us. v ∷ us) (later h)

  variable_names : (k : ℕ) (vs : List model.Variable) → times k (stores_of_variables (without_variable n vs)) + times k (in_hand (variable_store vs n)) ≡ times k (stores_of_variables vs)
  variable_names k [] = refl
  variable_names k (v ∷ vs) = by_test (nat_eq n v.name) (variable_names k vs)
    where
      by_test : (b : Bool) → times k (stores_of_variables (without_variable n vs)) + times k (in_hand (variable_store vs n)) ≡ times k (stores_of_variables vs) → times k (stores_of_variables (cond b vs (v ∷ without_variable n vs))) + times k (in_hand (cond b (Some v.store) (variable_store vs n))) ≡ times k (stores_of_variables (v ∷ vs))
      by_test true later = omega arith
      by_test false later = omega (arith, later)

-- properties

module _ (n : PropName) where
  pub property_first : (ps : List Property) (k : ℕ) (d : Property) → IsFirst (has_prop_name n) ps k → Some (slice_index_or ps k d).store ≡ property_store (map property_seen ps) n
  property_first [] k d p = absurd p
  property_first (q ∷ ps) zero d p = sym (ap (λ b. cond b (Some q.store) (property_store (map property_seen ps) n)) p)
  property_first (q ∷ ps) (suc k) d p = property_first ps k d p.1 ∙ sym (ap (λ b. cond b (Some q.store) (property_store (map property_seen ps) n)) p.0)

  property_cut : (ps : List Property) (k : ℕ) → IsFirst (has_prop_name n) ps k → map property_seen (take k ps ++ drop (suc k) ps) ≡ without_property n (map property_seen ps)
  property_cut [] k p = absurd p
  property_cut (q ∷ ps) zero p = sym (ap (λ b. cond b (map property_seen ps) (property_seen q ∷ without_property n (map property_seen ps))) p)
  property_cut (q ∷ ps) (suc k) p =
      ap (λ us. property_seen q ∷ us) (property_cut ps k p.1)
      ∙ sym (ap (λ b. cond b (map property_seen ps) (property_seen q ∷ without_property n (map property_seen ps))) p.0)

  pub property_out : (ps : List Property) (k : ℕ) → IsFirst (has_prop_name n) ps k → map property_seen (take k ps ++ drop (k + 1) ps) ≡ without_property n (map property_seen ps)
  property_out ps k p = ap (λ (j : ℕ). map property_seen (take k ps ++ drop j ps)) (add-one k) ∙ property_cut ps k p

  pub property_none : (ps : List Property) → NoneBefore (has_prop_name n) ps (length ps) → None ≡ property_store (map property_seen ps) n
  property_none [] p = refl
  property_none (q ∷ ps) p = property_none ps p.1 ∙ sym (ap (λ b. cond b (Some q.store) (property_store (map property_seen ps) n)) p.0)

  pub property_missing : (ps : List model.Property) → property_store ps n ≡ None → without_property n ps ≡ ps
  property_missing [] e = refl
  property_missing (p ∷ ps) e = by_test (prop_name_eq n p.name) (property_missing ps) e
    where
      by_test : (b : Bool) → (property_store ps n ≡ None → without_property n ps ≡ ps) → cond b (Some p.store) (property_store ps n) ≡ None → cond b ps (p ∷ without_property n ps) ≡ p ∷ ps
      by_test true later h = absurd (none_some (sym h))
      by_test false later h = ap (λ us. p ∷ us) (later h)

  property_names : (k : ℕ) (ps : List model.Property) → times k (stores_of_properties (without_property n ps)) + times k (in_hand (property_store ps n)) ≡ times k (stores_of_properties ps)
  property_names k [] = refl
  property_names k (p ∷ ps) = by_test (prop_name_eq n p.name) (property_names k ps)
    where
      by_test : (b : Bool) → times k (stores_of_properties (without_property n ps)) + times k (in_hand (property_store ps n)) ≡ times k (stores_of_properties ps) → times k (stores_of_properties (cond b ps (p ∷ without_property n ps))) + times k (in_hand (cond b (Some p.store) (property_store ps n))) ≡ times k (stores_of_properties (p ∷ ps))
      by_test true later = omega arith
      by_test false later = omega (arith, later)

-- what the model makes of it, whatever block the store falls in

module _ (m : Mem) (of n : ℕ) (live : IsSome (numbered m.blocks of)) where
  scope_same : with_scope m of (scope_of m of) ≡ m
  scope_same = by_block (numbered m.blocks of) refl live
    where
      by_block : (o : Option Scope) → numbered m.blocks of ≡ o → IsSome o → with_scope m of (scope_of m of) ≡ m
      by_block None f h = absurd (false≢true h)
      by_block (Some g) f h = ap (λ (x : Scope). with_scope m of x) (ap (λ o. unwrap_or o model.no_scope) f) ∙ ap (λ bs. record m { blocks = bs }) (with_same m.blocks of g f)

  variable_gone_is : (o : Option ℕ) → variable_store (scope_of m of).variables n ≡ o → (b : ℕ) → let_fall_if (with_scope m of (record (scope_of m of) { variables = without_variable n (scope_of m of).variables })) b o ≡ variable_removed o m b of n
  variable_gone_is None e b = ap (λ (vs : List model.Variable). with_scope m of (record (scope_of m of) { variables = vs })) (variable_missing n (scope_of m of).variables e) ∙ scope_same
  variable_gone_is (Some s) e b = refl

module _ (m : Mem) (h : ℕ) (n : PropName) (live : IsSome (numbered m.objects h)) where
  object_same : with_object m h (object_of m h) ≡ m
  object_same = by_object (numbered m.objects h) refl live
    where
      by_object : (o : Option model.Object) → numbered m.objects h ≡ o → IsSome o → with_object m h (object_of m h) ≡ m
      by_object None f i = absurd (false≢true i)
      by_object (Some g) f i = ap (λ (x : model.Object). with_object m h x) (ap (λ o. unwrap_or o no_object) f) ∙ ap (λ os. record m { objects = os }) (with_same m.objects h g f)

  property_gone_is : (o : Option ℕ) → property_store (object_of m h).properties n ≡ o → (b : ℕ) → let_fall_if (with_object m h (object_without n (object_of m h))) b o ≡ property_removed o m b h n
  property_gone_is None e b = ap (λ (ps : List model.Property). with_object m h (record (object_of m h) { properties = ps })) (property_missing n (object_of m h).properties e) ∙ object_same
  property_gone_is (Some s) e b = refl

-- what was taken out

pub variable_taken : (s : Cells) (of n : ℕ) (f : Block) → get s.blocks of ≡ Some f → IsSome (numbered (memory_seen s).blocks of) → (g : Block) → scope_seen g ≡ record (scope_seen f) { variables = without_variable n (scope_seen f).variables } → g.waiting ≡ f.waiting → (taken : Option ℕ) → taken ≡ variable_store (scope_seen f).variables n → IsCounted s → Takes s (record s { blocks = with_value s.blocks of g }) taken (λ b. variable_removed (variable_store (scope_of (memory_seen s) of).variables n) (memory_seen s) b of n)
variable_taken s of n f e live g changed waiting taken is counted =
    let m = memory_seen s in
    let vs = (scope_of m of).variables in
    let now : Cells = record s { blocks = with_value s.blocks of g } in
    let after = with_scope m of (record (scope_of m of) { variables = without_variable n vs }) in
    let seen : memory_seen now ≡ after = scope_changed s of f e g (λ (x : Scope). record x { variables = without_variable n x.variables }) changed in
    let same : taken ≡ variable_store vs n = is ∙ ap (λ (x : Scope). variable_store x.variables n) (sym (scope_there s of f e)) in
    record {
      seen = λ b. ap (λ x. let_fall_if x b taken) seen ∙ ap (let_fall_if after b) same ∙ variable_gone_is m of n live (variable_store vs n) refl b;
      counted =
          counted_by now after (in_hand taken) [] seen
          (λ k. (let hand : times k (in_hand taken) ≡ times k (in_hand (variable_store vs n)) = ap (λ o. times k (in_hand o)) same in omega (arith, hand, counted.stores k, holders-with_variables m k of (without_variable n vs), variable_names n k vs)))
          (λ h. omega (arith, counted.objects h, handles-with_variables m h of (without_variable n vs)));
      waiting = waiting_kept s.blocks of f g e waiting;
      ledger = refl;
    }

pub property_taken : (s t : Cells) (h : ℕ) (n : PropName) → IsSome (numbered (memory_seen s).objects h) → memory_seen t ≡ with_object (memory_seen s) h (object_without n (object_of (memory_seen s) h)) → AreSameHandles s.objects.items t.objects.items → t.stores ≡ s.stores → t.blocks ≡ s.blocks → t.ledger ≡ s.ledger → (taken : Option ℕ) → taken ≡ property_store (object_of (memory_seen s) h).properties n → IsCounted s → Takes s t taken (λ b. property_removed (property_store (object_of (memory_seen s) h).properties n) (memory_seen s) b h n)
property_taken s t h n live seen handles st bs ledger taken same counted =
    let m = memory_seen s in
    let o = object_of m h in
    let ps = o.properties in
    let after = with_object m h (object_without n o) in
    record {
      seen = λ b. ap (λ x. let_fall_if x b taken) seen ∙ ap (let_fall_if after b) same ∙ property_gone_is m h n live (property_store ps n) refl b;
      counted =
          counted_by t after (in_hand taken) [] seen
          (λ k. (
          let hand : times k (in_hand taken) ≡ times k (in_hand (property_store ps n)) = ap (λ x. times k (in_hand x)) same in
          let count : count_of_store t.stores k ≡ count_of_store s.stores k = ap (λ x. count_of_store x k) st in
          omega (arith, hand, count, counted.stores k, holders-with_object m k h (Some (object_without n o)), property_names n k ps)))
          (λ j. omega (arith, handles j, counted.objects j, handles-with_object m j h (Some (object_without n o))));
      waiting = λ b. ap (λ x. option_map (λ (f : Block). f.waiting) (get x b)) bs;
      ledger = ledger;
    }

pub nothing_taken : (s : Cells) (after : ℕ → Mem) → IsCounted s → ((b : ℕ) → memory_seen s ≡ after b) → Takes s s None after
nothing_taken s after counted same = record { seen = same; counted = counted; waiting = λ b. refl; ledger = refl }
