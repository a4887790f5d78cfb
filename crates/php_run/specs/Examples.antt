-- What the definitions say of some answers, and the numbers that stand in the program alone.
use Rattle.std.specs.Prelude.{◌≡◌, refl, [], ◌∷◌, ◌++◌, codes, decimal, Some, None}
use Rattle.php_value.specs.declared.fault.Fault.TheVariants as fault
use Rattle.php_lex.specs.declared.fail.LexFail.TheVariants as fail
use Rattle.php_reader.specs.declared.fail.ParseFail.TheVariants as parse_fail
use Rattle.php_names.specs.declared.fail.NameFail.TheVariants as name_fail
use Rattle.php_run.specs.Answer.{refused}
use Rattle.php_run.specs.Status.{status_of}
use Rattle.php_run.specs.Texts.{counted_text}
use Rattle.php_run.specs.Words.{shape, running, checking}
use Rattle.php_run.specs.declared.limits.TheConstants.{MOST_BYTES}
use Rattle.php_run.specs.declared.report.Kind.TheVariants as kind
use Rattle.php_run.specs.declared.report.Refusal.TheVariants as refusal

bad_escape : (refused (refusal.Lex (fail.BadEscape 3))).error ≡ codes "phprun: refused: BadEscape on line " ++ decimal 3 ++ codes "\n"
bad_escape = refl

unclosed : (refused (refusal.Lex (fail.Unclosed 12))).error ≡ codes "phprun: refused: Unclosed on line " ++ decimal 12 ++ codes "\n"
unclosed = refl

syntax : (refused (refusal.Parse (parse_fail.Syntax 7 12))).error ≡ codes "phprun: refused: Syntax on line " ++ decimal 12 ++ codes "\n"
syntax = refl

too_deep : (refused (refusal.Parse (parse_fail.TooDeep 7 12))).error ≡ codes "phprun: refused: TooDeep on line " ++ decimal 12 ++ codes "\n"
too_deep = refl

duplicate : (refused (refusal.Name (name_fail.Duplicate 12 7))).error ≡ codes "phprun: refused: Duplicate on line " ++ decimal 12 ++ codes "\n"
duplicate = refl

counted : counted_text 2 0 ≡ codes "ok: " ++ decimal 2 ++ codes " functions, " ++ decimal 0 ++ codes " classes\n"
counted = refl

-- the number of ticks is missing
no_number : shape (codes "run" ∷ codes "--steps" ∷ []) ≡ None
no_number = refl

no_ticks : shape (codes "run" ∷ codes "--steps" ∷ codes "0" ∷ codes "a.php" ∷ []) ≡ Some (record { file = codes "a.php"; task = running 0 })
no_ticks = refl

below_zero : shape (codes "run" ∷ codes "--steps" ∷ codes "-1" ∷ codes "a.php" ∷ []) ≡ None
below_zero = refl

too_many_ticks : shape (codes "run" ∷ codes "--steps" ∷ codes "18446744073709551616" ∷ codes "a.php" ∷ []) ≡ None
too_many_ticks = refl

no_option : shape (codes "run" ∷ codes "a.php" ∷ []) ≡ Some (record { file = codes "a.php"; task = running 1000000000 })
no_option = refl

check_file : shape (codes "check" ∷ codes "a.php" ∷ []) ≡ Some (record { file = codes "a.php"; task = checking })
check_file = refl

check_two_files : shape (codes "check" ∷ codes "a.php" ∷ codes "b.php" ∷ []) ≡ None
check_two_files = refl

check_with_steps : shape (codes "check" ∷ codes "--steps" ∷ codes "1" ∷ codes "a.php" ∷ []) ≡ None
check_with_steps = refl

-- a file of one megabyte is not too long
a_megabyte : MOST_BYTES ≡ 1048576
a_megabyte = refl

status_done : status_of kind.Done ≡ 0
status_done = refl

status_usage : status_of kind.Usage ≡ 64
status_usage = refl

status_too_long : status_of kind.TooLong ≡ 65
status_too_long = refl

status_refused : status_of (kind.Refused (refusal.NotYet 1)) ≡ 65
status_refused = refl

status_no_file : status_of kind.NoFile ≡ 66
status_no_file = refl

status_shelf_fault : status_of kind.ShelfFault ≡ 66
status_shelf_fault = refl

status_no_memory : status_of kind.NoMemory ≡ 70
status_no_memory = refl

status_sink_fault : status_of kind.SinkFault ≡ 74
status_sink_fault = refl

status_cut : status_of kind.Cut ≡ 75
status_cut = refl

status_fatal : status_of (kind.Fatal fault.Overflow) ≡ 255
status_fatal = refl
