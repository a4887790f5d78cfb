-- What the runs of the code tell of those of the tree, and the other way round.
use Rattle.std.proofs.Common.{ℕ, List, [], ◌∷◌, refl, sym, subst}
use Rattle.php_machine.specs.Moves.{Stuck}
use Rattle.php_machine.specs.Machine.{runs}
use Rattle.php_machine.specs.Same.{IsOver}
use Rattle.php_ast.specs.declaration.Tree.{Script}
use Rattle.php_ast.specs.expression.View.{Note}
use Rattle.php_actions.specs.Data.{Data}
use Rattle.php_actions.specs.Plan.{rules}
use Rattle.php_code.specs.Code.{code}
use Rattle.php_code_laws.specs.Over.{ComesToAnEnd}
use Rattle.php_code_laws.proofs.EndLemmas.{all_end}
use Rattle.php_meaning.specs.Facts.{facts_of}
use Rattle.php_meaning.specs.Meaning.{tree}
use Rattle.php_compile.specs.Compiled.{compiled}
use Rattle.php_compile.proofs.Agreement.{same_runs_of}
use Rattle.php_compile_laws.specs.Stuck.{IsNeverStuck}

pub tree_ends : (script : Script Note) (ns : List ℕ) (d : Data) → ComesToAnEnd (rules (facts_of script)) (tree script) ns d ((tree script).start 0 ∷ []) []
tree_ends script ns d =
    let end = all_end (facts_of script) (compiled script) ns [] d ((code (compiled script)).start 0 ∷ []) in
    let o = runs (rules (facts_of script)) (code (compiled script)) end.0 ns d in
    let same = (same_runs_of script).back ns d o end.1 end.0 refl in
    (same.0, subst IsOver (sym same.1) end.1)

pub never_stuck_too : (script : Script Note) (d : Data) → IsNeverStuck (rules (facts_of script)) (tree script) d → IsNeverStuck (rules (facts_of script)) (code (compiled script)) d
never_stuck_too script d h n ns stuck =
    let same = (same_runs_of script).back ns d Stuck tt n stuck in
    h same.0 ns same.1
