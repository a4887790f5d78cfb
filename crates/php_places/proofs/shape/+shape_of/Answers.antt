use Rattle.std.specs.Prelude.{◌==◌}
use Rattle.std.proofs.Common.{◌∙◌, ap, sym, length}
use Rattle.php_ast.specs.expression.View.{view}
use Rattle.php_places.specs.Over.{over}
use Rattle.php_places.specs.Shapes as spec
use Rattle.php_places.proofs.ShapeLemmas.{shape_of_array, shape_of_chain, shape_of_run, empty_run}
use Rattle.php_places.proofs.shape.+shape_of.Goals as goal

pub returns-in-Array : goal.returns-in-Array
returns-in-Array t c =
    rw c.in-Array.is
    (c.array.ensures ∙ ap (λ xs. spec.array c.in-Array.form (over spec.look xs spec.nothing)) c.as_slice.ensures
    ∙ shape_of_array c.in-Array.field-0 c.in-Array.form c.in-Array.items)

pub returns-in-Chain : goal.returns-in-Chain
returns-in-Chain t c =
    rw c.in-Chain.is
    (c.after_all.ensures ∙ ap (λ xs. over spec.after xs c.shape_of.result) c.as_slice-in-Chain.ensures
    ∙ ap (over spec.after c.in-Chain.suffixes) (c.shape_of.ensures ∙ ap (λ e. spec.shape_of (view e)) c.get-in-Chain.ensures)
    ∙ shape_of_chain c.in-Chain.e c.in-Chain.suffixes)

pub returns-then-is_empty : goal.returns-then-is_empty
returns-then-is_empty t c =
    let empty = sym c.if-is_empty.true ∙ c.is_empty.ensures ∙ ap (λ xs. length xs == 0) c.as_slice-in-Run.ensures in
    rw c.in-Run.is
    (c.shape_of-then-is_empty.ensures ∙ ap (λ e. spec.shape_of (view e)) c.get-then-is_empty.ensures ∙ ap spec.shape_of (empty_run c.in-Run.e c.in-Run.links empty))

pub returns-else-is_empty : goal.returns-else-is_empty
returns-else-is_empty t c =
    rw c.in-Run.is
    (c.plain.ensures ∙ shape_of_run c.in-Run.e c.in-Run.links (sym c.if-is_empty.false ∙ c.is_empty.ensures ∙ ap (λ xs. length xs == 0) c.as_slice-in-Run.ensures))
