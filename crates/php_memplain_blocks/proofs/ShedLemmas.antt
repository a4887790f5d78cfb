-- The oldest variable goes.
use Rattle.std.proofs.Common.{◌≡◌, ℕ, List, [], ◌∷◌, refl, sym, ap, arith}
use Rattle.std.specs.Prelude.{true, false, Some}
use Rattle.php_memdef.specs.Numbered.{numbered}
use Rattle.php_memdef.specs.Contents.{Variable, Scope, Mem, scope_of}
use Rattle.php_memdef.specs.Holders.{times, stores_of_variables, stores_of_scope, handles_of_scope}
use Rattle.php_memdef.specs.Places.{with_scope}
use Rattle.php_memdef.specs.Writes.{shed_first}
use Rattle.php_memplain_blocks.specs.Variables.{shed_scope, has_variable}
use Rattle.php_memplain_blocks.proofs.MoveLemmas.{gone_is, gone_names, gone_handles, scope_same}

module _ (m : Mem) (b : ℕ) (f : Scope) (there : numbered m.blocks b ≡ Some f) where
  pub shed_is : (vs : List Variable) → (scope_of m b).variables ≡ vs → shed_first vs m b ≡ (with_scope m b (shed_scope vs (scope_of m b)), has_variable vs)
  shed_is [] e = ap (λ n. (n, false)) (sym (scope_same m b f there))
  shed_is (v ∷ vs) e = ap (λ n. (n, true)) (sym (gone_is m b vs v.store))

  pub shed_names : (vs : List Variable) → (scope_of m b).variables ≡ vs → (k : ℕ) → times k (stores_of_scope (shed_scope vs (scope_of m b))) ≡ times k (stores_of_scope (scope_of m b))
  shed_names [] e k = refl
  shed_names (v ∷ vs) e k =
      let all : times k (stores_of_variables (scope_of m b).variables) ≡ times k (v.store ∷ stores_of_variables vs) = ap (λ xs. times k (stores_of_variables xs)) e in
      gone_names m b vs v.store k (omega (arith, all))

  pub shed_handles : (vs : List Variable) → (h : ℕ) → times h (handles_of_scope (shed_scope vs (scope_of m b))) ≡ times h (handles_of_scope (scope_of m b))
  shed_handles [] h = refl
  shed_handles (v ∷ vs) h = gone_handles m b vs v.store h
