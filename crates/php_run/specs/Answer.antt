-- The answers of a call where no script ran to its end.
use Rattle.std.specs.Prelude.{ℕ, List, []}
use Rattle.php_front.specs.declared.fail.ReadFail.{ReadFail}
use Rattle.php_front.specs.declared.fail.ReadFail.TheVariants as fail
use Rattle.php_run.specs.Texts.{cannot_read, cannot_write, counted_text, longer_than_limit, out_of_memory, refused_text, usage_text}
use Rattle.php_run.specs.declared.report.Kind.{Kind}
use Rattle.php_run.specs.declared.report.Kind.TheVariants as kind
use Rattle.php_run.specs.declared.report.Refusal.{Refusal}
use Rattle.php_run.specs.declared.report.Refusal.TheVariants as refusal

-- what a call answers, and what it writes to the output and the error stream
pub record Answer : Type 0 where
  pub kind : Kind
  pub ticks : ℕ
  pub output : List ℕ
  pub error : List ℕ

-- an answer where nothing ran
abbrev pub without_run : Kind → List ℕ → Answer
without_run k error = record { kind = k; ticks = 0; output = []; error = error }

abbrev pub usage : Answer
usage = without_run kind.Usage usage_text

-- the shelf has no file of the name
abbrev pub no_file : List ℕ → Answer
no_file file = without_run kind.NoFile (cannot_read file)

-- the shelf failed
abbrev pub shelf_fault : List ℕ → Answer
shelf_fault file = without_run kind.ShelfFault (cannot_read file)

abbrev pub too_long : List ℕ → Answer
too_long file = without_run kind.TooLong (longer_than_limit file)

-- memory could not be had
abbrev pub no_memory : Answer
no_memory = without_run kind.NoMemory out_of_memory

abbrev pub refused : Refusal → Answer
refused cause = without_run (kind.Refused cause) (refused_text cause)

-- the file has a form that can't be run, or counted, yet
abbrev pub not_yet : ℕ → Answer
not_yet line = refused (refusal.NotYet line)

-- the file is no legal script, for this cause
abbrev pub unread : ReadFail → Answer
unread (fail.Lex fault) = refused (refusal.Lex fault)
unread (fail.Parse failure) = refused (refusal.Parse failure)
unread (fail.Name failure) = refused (refusal.Name failure)
unread fail.NoMemory = no_memory

-- the script is legal, and declares so many functions and classes
abbrev pub counted : ℕ → ℕ → Answer
counted functions classes = record { kind = kind.Done; ticks = 0; output = counted_text functions classes; error = [] }

-- the output failed
abbrev pub write_fault : ℕ → List ℕ → Answer
write_fault ticks output = record { kind = kind.SinkFault; ticks = ticks; output = output; error = cannot_write }
