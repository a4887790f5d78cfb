use Rattle.std.specs.Prelude.{◌==◌}
use Rattle.std.proofs.Common.{◌∙◌, ap, sym, length}
use Rattle.php_ast.specs.expression.View.{Note, spot_view, view}
use Rattle.php_first_forms.specs.Forms.{left_in_assignment}
use Rattle.php_first_forms.proofs.Nodes.{chain_set, run_set, empty_run}
use Rattle.php_first_forms.proofs.script.+left_in_assignment.Goals as goal

pub returns-else-is_empty : goal.returns-else-is_empty
returns-else-is_empty t c =
    let some = sym c.if-is_empty.false ∙ c.is_empty.ensures ∙ ap (λ xs. length xs == 0) c.as_slice.ensures in
    rw c.in-Chain.is (chain_set (spot_view c.args.spot) c.in-Chain.inner c.in-Chain.suffixes some)

pub returns-then-is_empty-2 : goal.returns-then-is_empty-2
returns-then-is_empty-2 t c =
    let empty = sym c.if-is_empty-2.true ∙ c.is_empty-in-Run.ensures ∙ ap (λ xs. length xs == 0) c.as_slice-in-Run.ensures in
    rw c.in-Run.is
    (c.left_in_assignment-then-is_empty-2.ensures ∙ ap (λ e. left_in_assignment (spot_view c.args.spot) (view e)) c.get-then-is_empty-2.ensures
    ∙ ap (λ e. left_in_assignment (spot_view c.args.spot) e) (empty_run c.in-Run.inner c.in-Run.links empty))

pub returns-else-is_empty-2 : goal.returns-else-is_empty-2
returns-else-is_empty-2 t c =
    let some = sym c.if-is_empty-2.false ∙ c.is_empty-in-Run.ensures ∙ ap (λ xs. length xs == 0) c.as_slice-in-Run.ensures in
    rw c.in-Run.is (run_set (spot_view c.args.spot) c.in-Run.inner c.in-Run.links some)
