use Rattle.std.proofs.Common.{ℕ, List, [], map}
use Rattle.php_base.specs.Streams.{Stream, stream_of}
use Rattle.php_base.proofs.Streams.{nothing_written}
use Rattle.php_ast.specs.declaration.View.{script_view}
use Rattle.php_first_tree.specs.Expression.{statement_view, Statement}
use Rattle.php_first_run.specs.Running.{texts_of}
use Rattle.php_run.specs.Answer.{Answer}
use Rattle.php_run.specs.Called.{finished}
use Rattle.php_run.specs.Shown.{shown}
use Rattle.php_run.specs.Today.{run_of, IsOwedByScript, IsScript, runs, refused}
use Rattle.php_run.proofs.Comes.{ends_as}
use Rattle.php_run.proofs.Runs.{IsOf}
use Rattle.php_run.proofs.today.answer_script.Goals as goal

pub returns-in-Ok-Some : goal.returns-in-Ok-Some
returns-in-Ok-Some g c =
    let variables = c.in-Ok-Some.first.variables in
    let statements = map statement_view c.in-Ok-Some.first.statements in
    let found : IsScript c.args.tokens.now variables statements = rw c.in-Ok-Some.field-0-is at c.in-Ok-Some.ensures.found in
    let end = c.run_script.ensures in
    let s = g.O.Sink in
    let old : Stream = stream_of s.written s.faults c.args.out.now in
    let new : Stream = stream_of s.written s.faults c.run_script.new.out in
    let Due : Answer → Type 0 = IsOf (run_of (texts_of c.args.tokens.now) c.args.allowance variables statements) in
    let Owed : Answer → Type 0 = IsOwedByScript c.args.tokens.now (script_view c.args.script.now) c.args.allowance in (
      end.0,
      ends_as Due Owed old new (shown c.run_script.result end.0) (λ a due. runs variables statements found due) end.1,
    )

pub returns-in-Ok-None : goal.returns-in-Ok-None
returns-in-Ok-None g c =
    let none : (variables : ℕ) (statements : List Statement) → IsScript c.args.tokens.now variables statements → ⊥ = λ variables statements is.
    rw c.in-Ok-None.field-0-is at (c.in-Ok-None.ensures.only variables statements is) in
    ([], finished (refused none c.refused.ensures) (nothing_written _))
