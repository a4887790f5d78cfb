use Rattle.std.proofs.Common.{ℕ, List, ap, ◌∙◌}
use Rattle.php_run.specs.Answer.{Answer}
use Rattle.php_run.specs.declared.report.Kind.{Kind}
use Rattle.php_run.specs.declared.report.Kind.TheVariants as kind
use Rattle.php_value.specs.declared.fault.Fault.TheVariants as fault
use Rattle.php_run.proofs.today.after_run.Goals as goal

-- the answer where a run stopped, by its error text
abbrev with : Kind → ℕ → List ℕ → List ℕ → Answer
with k ticks output error = record { kind = k; ticks = ticks; output = output; error = error }

pub returns-in-Done : goal.returns-in-Done
returns-in-Done c =
    rw c.in-Done.is (λ output. c.stopped.ensures output ∙ ap (with kind.Done c.args.walked.ticks output) c.fixed.ensures)

pub returns-in-Overflow : goal.returns-in-Overflow
returns-in-Overflow c =
    rw c.in-Overflow.is (λ output. c.stopped-in-Overflow.ensures output ∙ ap (with (kind.Fatal fault.Overflow) c.args.walked.ticks output) c.on_line-message.ensures)

pub returns-in-Cut : goal.returns-in-Cut
returns-in-Cut c =
    rw c.in-Cut.is (λ output. c.stopped-in-Cut.ensures output ∙ ap (with kind.Cut c.args.walked.ticks output) c.fixed-message.ensures)

pub returns-in-SinkFault : goal.returns-in-SinkFault
returns-in-SinkFault c =
    rw c.in-SinkFault.is (λ output. c.stopped-in-SinkFault.ensures output ∙ ap (with kind.SinkFault c.args.walked.ticks output) c.fixed-message-in-SinkFault.ensures)
