use Rattle.std.proofs.Common.{rules, ◌≡◌, ◌∙◌, ℕ, List, ap, replicate, length}
use Rattle.php_entries.specs.Changes.{with_values}
use Rattle.php_array_callers.proofs.CallerLemmas.{IfOk-map, with_values-zeros}
use Rattle.php_array_callers.proofs.copies.zeroed.Goals as goal

pub returns : goal.returns
returns c =
    let zeros : c.in_ok-zeros.zeros.items ≡ replicate (length c.args.entries.now.entries) 0 = search rules in
    IfOk-map c.with_values.result c.with_values.ensures.ok (λ copy is.
    is
    ∙ ap (λ (vs : List ℕ). with_values {T = ℕ} {U = ℕ} c.args.entries.now vs) zeros
    ∙ with_values-zeros c.args.entries.now)
