-- The variable of a name goes.
use Rattle.std.proofs.Common.{◌≡◌, ◌<◌, ◌≤◌, ◌+◌, ℕ, zero, suc, List, [], ◌∷◌, ◌++◌, length, map, take, drop, refl, sym, ◌∙◌, ap, subst, arith, add-one, inl, inr, cond}
use Rattle.std.specs.Prelude.{true, false, nat_eq, Option, Some, None, slice_index_or}
use Rattle.std.proofs.lemmas.List.{append_assoc, map-append}
use Rattle.std.proofs.lemmas.Bool.Decides.{eqb_tells}
use Rattle.php_memdef.specs.Numbered.{numbered}
use Rattle.php_memdef.specs.Contents.{Scope, Mem, scope_of}
use Rattle.php_memdef.specs.Holders.{times, stores_of_scope, handles_of_scope}
use Rattle.php_memdef.specs.Places.{variable_store, with_scope}
use Rattle.php_memdef.specs.Writes.{without_variable, variable_removed}
use Rattle.php_memdef_laws.proofs.Held.Removals.{variable_gone}
use Rattle.php_memplain_cells.specs.declared.block.Variable.{Variable}
use Rattle.php_memplain_cells.specs.Seen.{variable_seen}
use Rattle.php_memplain_blocks.specs.Variables.{forget_scope, StandsAt}
use Rattle.php_memplain_blocks.proofs.MoveLemmas.{gone_is, gone_names, gone_handles, scope_same}

next_of : (xs : List Variable) (at : ℕ) (x : Variable) → at < length xs → x ≡ slice_index_or xs at x → drop at xs ≡ x ∷ drop (suc at) xs
next_of [] at x h e = absurd (omega (arith, h))
next_of (y ∷ xs) zero x h e = ap (λ z. z ∷ xs) (sym e)
next_of (y ∷ xs) (suc at) x h e = next_of xs at x (omega (arith, h)) e

passed_of : (xs : List Variable) (at : ℕ) (x : Variable) → at < length xs → x ≡ slice_index_or xs at x → take (suc at) xs ≡ take at xs ++ x ∷ []
passed_of [] at x h e = absurd (omega (arith, h))
passed_of (y ∷ xs) zero x h e = ap (λ z. z ∷ []) (sym e)
passed_of (y ∷ xs) (suc at) x h e = ap (λ zs. y ∷ zs) (passed_of xs at x (omega (arith, h)) e)

none_of : (xs : List Variable) (at : ℕ) → length xs ≤ at → drop at xs ≡ []
none_of [] zero h = refl
none_of [] (suc at) h = refl
none_of (y ∷ xs) zero h = absurd (omega (arith, h))
none_of (y ∷ xs) (suc at) h = none_of xs at (omega (arith, h))

same_tests : (n k : ℕ) → n ≡ k → nat_eq n k ≡ true
same_tests n k e = elim (eqb_tells n k) [
  | inl d ↦ d.0
  | inr d ↦ absurd (d.1 e)
]

other_tests : (n k : ℕ) → (n ≡ k → ⊥) → nat_eq n k ≡ false
other_tests n k ne = elim (eqb_tells n k) [
  | inl d ↦ absurd (ne d.1)
  | inr d ↦ d.0
]

-- none of the variables before a place has the name
pub record Passed (n : ℕ) (vs : List Variable) (at : ℕ) : Type 0 where
  pub without : without_variable n (map variable_seen vs) ≡ map variable_seen (take at vs) ++ without_variable n (map variable_seen (drop at vs))
  pub store : variable_store (map variable_seen vs) n ≡ variable_store (map variable_seen (drop at vs)) n

pub passed_none : (n : ℕ) (vs : List Variable) → Passed n vs 0
passed_none n [] = record { without = refl; store = refl }
passed_none n (v ∷ vs) = record { without = refl; store = refl }

module _ (n : ℕ) (vs : List Variable) (at : ℕ) (p : Passed n vs at) where
  module _ (v : Variable) (h : at < length vs) (is : v ≡ slice_index_or vs at v) where
    next : drop at vs ≡ v ∷ drop (suc at) vs
    next = next_of vs at v h is

    pub passed_on : (n ≡ v.name → ⊥) → Passed n vs (at + 1)
    passed_on ne =
        subst (Passed n vs) (sym (add-one at))
        (record {
          without =
              p.without
              ∙ ap (λ ws. map variable_seen (take at vs) ++ without_variable n (map variable_seen ws)) next
              ∙ ap (λ b. map variable_seen (take at vs) ++ cond b (map variable_seen (drop (suc at) vs)) (variable_seen v ∷ without_variable n (map variable_seen (drop (suc at) vs)))) (other_tests n v.name ne)
              ∙ sym (append_assoc (map variable_seen (take at vs)) (variable_seen v ∷ []) (without_variable n (map variable_seen (drop (suc at) vs))))
              ∙ ap (λ ws. ws ++ without_variable n (map variable_seen (drop (suc at) vs))) (sym (map-append variable_seen (take at vs) (v ∷ [])) ∙ ap (map variable_seen) (sym (passed_of vs at v h is)));
          store =
              p.store
              ∙ ap (λ ws. variable_store (map variable_seen ws) n) next
              ∙ ap (λ b. cond b (Some v.store) (variable_store (map variable_seen (drop (suc at) vs)) n)) (other_tests n v.name ne);
        })

    pub stands : n ≡ v.name → StandsAt n vs at
    stands e = record {
      within = h;
      without =
          p.without
          ∙ ap (λ ws. map variable_seen (take at vs) ++ without_variable n (map variable_seen ws)) next
          ∙ ap (λ b. map variable_seen (take at vs) ++ cond b (map variable_seen (drop (suc at) vs)) (variable_seen v ∷ without_variable n (map variable_seen (drop (suc at) vs)))) (same_tests n v.name e)
          ∙ sym (map-append variable_seen (take at vs) (drop (suc at) vs))
          ∙ ap (λ (k : ℕ). map variable_seen (take at vs ++ drop k vs)) (sym (add-one at));
      store = λ w is_w. (
          p.store
          ∙ ap (λ ws. variable_store (map variable_seen ws) n) (next_of vs at w h is_w)
          ∙ ap (λ b. cond b (Some w.store) (variable_store (map variable_seen (drop (suc at) vs)) n)) (same_tests n w.name (e ∙ ap (λ (x : Variable). x.name) (one_there w is_w))));
    }
      where
        first : {x y : Variable} {xs ys : List Variable} → x ∷ xs ≡ y ∷ ys → x ≡ y
        first e = cc

        one_there : (w : Variable) → w ≡ slice_index_or vs at w → v ≡ w
        one_there w is_w = first (sym next ∙ next_of vs at w h is_w)

  pub not_there : length vs ≤ at → variable_store (map variable_seen vs) n ≡ None
  not_there h = p.store ∙ ap (λ ws. variable_store (map variable_seen ws) n) (none_of vs at h)

-- what the model makes of it
module _ (m : Mem) (b n : ℕ) (f : Scope) (there : numbered m.blocks b ≡ Some f) where
  pub forget_is : (o : Option ℕ) → variable_removed o m b b n ≡ with_scope m b (forget_scope n o (scope_of m b))
  forget_is None = sym (scope_same m b f there)
  forget_is (Some s) = sym (gone_is m b (without_variable n (scope_of m b).variables) s)

  pub forget_names : (o : Option ℕ) → variable_store (scope_of m b).variables n ≡ o → (k : ℕ) → times k (stores_of_scope (forget_scope n o (scope_of m b))) ≡ times k (stores_of_scope (scope_of m b))
  forget_names None e k = refl
  forget_names (Some s) e k = gone_names m b (without_variable n (scope_of m b).variables) s k (variable_gone k n (scope_of m b).variables s e)

  pub forget_handles : (o : Option ℕ) (h : ℕ) → times h (handles_of_scope (forget_scope n o (scope_of m b))) ≡ times h (handles_of_scope (scope_of m b))
  forget_handles None h = refl
  forget_handles (Some s) h = gone_handles m b (without_variable n (scope_of m b).variables) s h
