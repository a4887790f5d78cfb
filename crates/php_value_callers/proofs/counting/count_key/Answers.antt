use Rattle.std.proofs.Common.{◌≡◌, ◌≢◌, ◌↔◌, Bool, false, inl, inr, sym, ◌∙◌}
use Rattle.std.specs.Prelude.{IsTrue}
use Rattle.std.proofs.lemmas.Bool.{cases_Bool}
use Rattle.php_value_callers.proofs.counting.count_key.Goals as goal

-- keys that are not one key are not equal
unequal : {K : Type 0} (equal : Bool) (a b : K) → (IsTrue equal ↔ (a ≡ b)) → b ≢ a → equal ≡ false
unequal equal a b one other = elim (cases_Bool equal) [ inl same ↦ absurd (other (sym (one.0 same))) | inr differs ↦ differs ]

pub returns-clause-others : goal.returns-clause-others
returns-clause-others c = λ k other.
    c.in_ok-insert.ensures.updates.2 k
    (unequal _ c.key_of-key.result k (c.equal_keys_are_one_key.ensures c.key_of-key.result k) (λ e. other (e ∙ c.key_of-key.ensures)))
