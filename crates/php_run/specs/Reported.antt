-- How an answer is reported.
use Rattle.std.specs.Prelude.{◌≡◌, ℕ, Bool, true, false}
use Rattle.php_base.specs.Counts.{Rose}
use Rattle.php_base.specs.Streams.{Stream}
use Rattle.php_base.specs.Written.{GrewBy, GrewByPart}
use Rattle.php_run.specs.Answer.{Answer}
use Rattle.php_run.specs.Status.{status_of}
use Rattle.php_run.specs.declared.report.Kind.{Kind}
use Rattle.php_run.specs.declared.report.Kind.TheVariants as kind
use Rattle.php_run.specs.declared.report.Report.{Report}

-- the report of a call that ended so and took these ticks
abbrev pub report_of : Kind → ℕ → Report
report_of k ticks = record { kind = k; status = status_of k; ticks = ticks; made = 0 }

-- these two keep their kind where their text can't be written
abbrev pub keeps_kind : Kind → Bool
keeps_kind kind.SinkFault = true
keeps_kind kind.NoMemory = true
keeps_kind kind.Done = false
keeps_kind (kind.Fatal fault) = false
keeps_kind kind.Cut = false
keeps_kind kind.Usage = false
keeps_kind kind.NoFile = false
keeps_kind kind.ShelfFault = false
keeps_kind kind.TooLong = false
keeps_kind (kind.Refused refusal) = false

-- The error text of the answer is written, and the report is the answer's; or the error stream fails, and then the kind
-- is a sink's fault unless the answer keeps its kind.
pub data IsReported (answer : Answer) (old new : Stream) (report : Report) : Type 0 where
  told : GrewBy old.written new.written answer.error → new.faults ≡ old.faults →
      report ≡ report_of answer.kind answer.ticks → IsReported answer old new report
  kept : Rose old.faults new.faults → GrewByPart old.written new.written answer.error → keeps_kind answer.kind ≡ true →
      report ≡ report_of answer.kind answer.ticks → IsReported answer old new report
  failed : Rose old.faults new.faults → GrewByPart old.written new.written answer.error → keeps_kind answer.kind ≡ false →
      report ≡ report_of kind.SinkFault answer.ticks → IsReported answer old new report
