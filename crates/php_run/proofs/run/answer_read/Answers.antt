use Rattle.std.proofs.Common.{◌≡◌, ℕ, List, subst}
use Rattle.php_base.specs.Streams.{Stream, stream_of}
use Rattle.php_ast.specs.declared.script.Script.{Script}
use Rattle.php_ast.specs.declaration.View.{script_view}
use Rattle.php_run.specs.Called.{CanEnd}
use Rattle.php_run.specs.Checked.{checked}
use Rattle.php_run.specs.Shown.{shown}
use Rattle.php_run.specs.Today.{IsOwedByScript}
use Rattle.php_run.proofs.run.answer_read.Goals as goal

pub returns-in-Run : goal.returns-in-Run
returns-in-Run g c =
    let s = g.O.Sink in
    let old : Stream = stream_of s.written s.faults c.args.out.now in
    let new : Stream = stream_of s.written s.faults c.answer_script.new.out in
    let P : Script → Type 0 = λ script. (output : List ℕ)
    × CanEnd (IsOwedByScript c.args.read.now.tokens (script_view script) c.in-Run.allowance) old new (shown c.answer_script.result output) in
    rw c.in-Run.is (subst P c.script.ensures.same c.answer_script.ensures)

pub returns-in-Check : goal.returns-in-Check
returns-in-Check g c =
    let s = g.O.Sink in
    let old : Stream = stream_of s.written s.faults c.args.out.now in
    let new : Stream = stream_of s.written s.faults c.answer_check.new.out in
    let P : Script → Type 0 = λ script. (output : List ℕ)
    × CanEnd (λ whole. whole ≡ checked (script_view script)) old new (shown c.answer_check.result output) in
    rw c.in-Check.is (subst P c.script-in-Check.ensures.same c.answer_check.ensures)
