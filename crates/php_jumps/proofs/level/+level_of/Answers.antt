use Rattle.std.specs.Prelude.{◌==◌}
use Rattle.std.proofs.Common.{◌∙◌, ap, sym, length, Some}
use Rattle.php_ast.specs.expression.View.{Note, view}
use Rattle.php_legality.specs.Rows.{level}
use Rattle.php_jumps.proofs.LevelLemmas.{chain_level, run_level, empty_run}
use Rattle.php_jumps.proofs.level.+level_of.Goals as goal

pub returns-else-is_empty-clause-value : goal.returns-else-is_empty-clause-value
returns-else-is_empty-clause-value t c =
    rw c.in-Chain.is (chain_level c.in-Chain.inner c.in-Chain.suffixes (sym c.if-is_empty.false ∙ c.is_empty.ensures ∙ ap (λ xs. length xs == 0) c.as_slice.ensures))

pub returns-then-is_empty-2-clause-value : goal.returns-then-is_empty-2-clause-value
returns-then-is_empty-2-clause-value t c =
    let empty = sym c.if-is_empty-2.true ∙ c.is_empty-in-Run.ensures ∙ ap (λ xs. length xs == 0) c.as_slice-in-Run.ensures in
    rw c.in-Run.is
    (c.level_of-then-is_empty-2.ensures.value ∙ ap (λ e. level (Some (view e))) c.get-then-is_empty-2.ensures
    ∙ ap (λ e. level {S = Note} (Some e)) (empty_run c.in-Run.inner c.in-Run.links empty))

pub returns-else-is_empty-2-clause-value : goal.returns-else-is_empty-2-clause-value
returns-else-is_empty-2-clause-value t c =
    rw c.in-Run.is
    (run_level c.in-Run.inner c.in-Run.links (sym c.if-is_empty-2.false ∙ c.is_empty-in-Run.ensures ∙ ap (λ xs. length xs == 0) c.as_slice-in-Run.ensures))
