use Rattle.std.proofs.Common.{◌≡◌, sym, subst}
use Rattle.std.proofs.lemmas.Result.{IfOk-weaker}
use Rattle.php_ast.specs.declaration.View.{script_view}
use Rattle.php_actions.specs.Plan.{rules}
use Rattle.php_machine.specs.Same.{SameRuns}
use Rattle.php_code.specs.Code.{code}
use Rattle.php_meaning.specs.Facts.{facts_of}
use Rattle.php_meaning.specs.Meaning.{tree}
use Rattle.php_compile.specs.Compiled.{compiled}
use Rattle.php_compile.proofs.Agreement.{same_runs_of}
use Rattle.php_compile.proofs.compiler.compile.Goals as goal

pub returns-clause-runs : goal.returns-clause-runs
returns-clause-runs c =
    let s = script_view c.args.script.now in
    IfOk-weaker c.program_for.result (λ p. p ≡ compiled s) (λ p. SameRuns (rules (facts_of s)) (tree s) (code p))
    (λ p e. subst (λ q. SameRuns (rules (facts_of s)) (tree s) (code q)) (sym e) (same_runs_of s)) c.program_for.ensures
