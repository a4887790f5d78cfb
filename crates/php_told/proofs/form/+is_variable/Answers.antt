use Rattle.std.specs.Prelude.{◌==◌, is_some}
use Rattle.std.proofs.Common.{◌∙◌, ap, sym, length}
use Rattle.php_ast.specs.expression.View.{view}
use Rattle.php_meaning.specs.Forms.{variable_name}
use Rattle.php_told.proofs.Nodes.{empty_run, named_chain, named_run}
use Rattle.php_told.proofs.form.+is_variable.Goals as goal

pub returns-else-is_empty : goal.returns-else-is_empty
returns-else-is_empty t c =
    let some = sym c.if-is_empty.false ∙ c.is_empty.ensures ∙ ap (λ xs. length xs == 0) c.as_slice.ensures in
    rw c.in-Chain.is (named_chain c.in-Chain.inner c.in-Chain.suffixes some)

pub returns-then-is_empty-2 : goal.returns-then-is_empty-2
returns-then-is_empty-2 t c =
    let empty = sym c.if-is_empty-2.true ∙ c.is_empty-in-Run.ensures ∙ ap (λ xs. length xs == 0) c.as_slice-in-Run.ensures in
    rw c.in-Run.is
    (c.is_variable-then-is_empty-2.ensures ∙ ap (λ e. is_some (variable_name (view e))) c.get-then-is_empty-2.ensures
    ∙ ap (λ e. is_some (variable_name e)) (empty_run c.in-Run.inner c.in-Run.links empty))

pub returns-else-is_empty-2 : goal.returns-else-is_empty-2
returns-else-is_empty-2 t c =
    let some = sym c.if-is_empty-2.false ∙ c.is_empty-in-Run.ensures ∙ ap (λ xs. length xs == 0) c.as_slice-in-Run.ensures in
    rw c.in-Run.is (named_run c.in-Run.inner c.in-Run.links some)
