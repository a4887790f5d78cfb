use Rattle.std.specs.Prelude.{◌==◌}
use Rattle.std.proofs.Common.{◌∙◌, ap, sym, length}
use Rattle.php_ast.specs.expression.View.{Note, view}
use Rattle.php_legality.specs.Rows.{inner_leaf}
use Rattle.php_places.proofs.ShapeLemmas.{empty_run}
use Rattle.php_places.proofs.WordLemmas.{chain_leaf, run_leaf}
use Rattle.php_places.proofs.word.+inner_leaf.Goals as goal

pub returns-else-is_empty : goal.returns-else-is_empty
returns-else-is_empty t c =
    rw c.in-Chain.is (chain_leaf c.in-Chain.inner c.in-Chain.suffixes (sym c.if-is_empty.false ∙ c.is_empty.ensures ∙ ap (λ xs. length xs == 0) c.as_slice.ensures))

pub returns-then-is_empty-2 : goal.returns-then-is_empty-2
returns-then-is_empty-2 t c =
    let empty = sym c.if-is_empty-2.true ∙ c.is_empty-in-Run.ensures ∙ ap (λ xs. length xs == 0) c.as_slice-in-Run.ensures in
    rw c.in-Run.is
    (c.inner_leaf-then-is_empty-2.ensures ∙ ap (λ e. inner_leaf (view e)) c.get-then-is_empty-2.ensures
    ∙ ap (λ e. inner_leaf {S = Note} e) (empty_run c.in-Run.inner c.in-Run.links empty))

pub returns-else-is_empty-2 : goal.returns-else-is_empty-2
returns-else-is_empty-2 t c =
    rw c.in-Run.is (run_leaf c.in-Run.inner c.in-Run.links (sym c.if-is_empty-2.false ∙ c.is_empty-in-Run.ensures ∙ ap (λ xs. length xs == 0) c.as_slice-in-Run.ensures))
