use Rattle.std.proofs.Common.{ℕ, List, map, subst, ◌∙◌}
use Rattle.php_base.specs.Streams.{Stream, stream_of}
use Rattle.php_first_tree.specs.Expression.{statement_view}
use Rattle.php_first_tree.specs.declared.Statement as tree
use Rattle.php_first_run.specs.Running.{run, texts_of}
use Rattle.php_first_run.specs.Walking.{Walks}
use Rattle.php_first_run.specs.declared.value.Value.{Value}
use Rattle.php_run.specs.Called.{CanEnd}
use Rattle.php_run.specs.Shown.{shown}
use Rattle.php_run.proofs.Runs.{IsOf, run_ends}
use Rattle.php_run.proofs.today.run_script.Goals as goal

pub returns : goal.returns
returns g c =
    let s = g.O.Sink in
    let old : Stream = stream_of s.written s.faults c.args.out.now in
    let new : Stream = stream_of s.written s.faults c.walk-walked.new.out in
    let P : List Value → Type 0 = λ values. (output : List ℕ)
    × CanEnd (IsOf (run (texts_of c.args.tokens.now) c.args.allowance 0 values (map statement_view c.args.script.now.statements))) old new (shown c.after_run.result output) in
    let Q : List tree.Statement → Type 0 = λ statements. Walks (run (texts_of c.args.tokens.now) c.args.allowance 0 c.deref_mut.result.now (map statement_view statements)) c.walk-walked.result.stop c.walk-walked.result.ticks old new in
    subst P (c.deref_mut.ensures.value ∙ c.in-Ok.ensures)
    (run_ends (run (texts_of c.args.tokens.now) c.args.allowance 0 c.deref_mut.result.now (map statement_view c.args.script.now.statements))
    c.walk-walked.result.stop c.walk-walked.result.ticks old new c.after_run.result (subst Q c.as_slice.ensures c.walk-walked.ensures) c.after_run.ensures)
