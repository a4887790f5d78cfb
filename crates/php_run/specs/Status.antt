-- The exit status of the program, by the way in which the call ended.
use Rattle.std.specs.Prelude.{ℕ}
use Rattle.php_run.specs.declared.report.Kind.{Kind}
use Rattle.php_run.specs.declared.report.Kind.TheVariants as kind
use Rattle.php_run.specs.declared.status.TheConstants.{DONE, USAGE, UNFIT_FILE, UNREAD_FILE, NO_MEMORY, SINK_FAULT, CUT, FATAL}

abbrev pub status_of : Kind → ℕ
status_of kind.Done = DONE
status_of (kind.Fatal fault) = FATAL
status_of kind.Cut = CUT
status_of kind.Usage = USAGE
status_of kind.NoFile = UNREAD_FILE
status_of kind.ShelfFault = UNREAD_FILE
status_of kind.TooLong = UNFIT_FILE
status_of (kind.Refused refusal) = UNFIT_FILE
status_of kind.SinkFault = SINK_FAULT
status_of kind.NoMemory = NO_MEMORY
