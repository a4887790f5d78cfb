-- The texts of the answers.
use Rattle.std.specs.Prelude.{ℕ, List, ◌++◌, codes}
use Rattle.std.specs.Fmt.{decimal}
use Rattle.php_lex.specs.declared.fail.LexFail.{LexFail}
use Rattle.php_lex.specs.declared.fail.LexFail.TheVariants as fail
use Rattle.php_reader.specs.declared.fail.ParseFail.{ParseFail}
use Rattle.php_reader.specs.declared.fail.ParseFail.TheVariants as parse_fail
use Rattle.php_names.specs.declared.fail.NameFail.{NameFail}
use Rattle.php_names.specs.declared.fail.NameFail.TheVariants as name_fail
use Rattle.php_run.specs.declared.report.Refusal.{Refusal}
use Rattle.php_run.specs.declared.report.Refusal.TheVariants as refusal

abbrev pub usage_text : List ℕ
usage_text = codes "usage: phprun run [--steps N] FILE ARG.. | check FILE | demo N\n"

abbrev pub cannot_read : List ℕ → List ℕ
cannot_read file = codes "phprun: cannot read " ++ file ++ codes "\n"

abbrev pub longer_than_limit : List ℕ → List ℕ
longer_than_limit file = codes "phprun: " ++ file ++ codes " is longer than 1048576 bytes\n"

-- the name of a fault of the lexer, and its line
abbrev pub fault_name : LexFail → List ℕ
fault_name (fail.Unclosed line) = codes "Unclosed"
fault_name (fail.BadByte line) = codes "BadByte"
fault_name (fail.FloatLiteral line) = codes "FloatLiteral"
fault_name (fail.IntTooLarge line) = codes "IntTooLarge"
fault_name (fail.BadEscape line) = codes "BadEscape"
fault_name fail.NoMemory = codes "NoMemory"

abbrev pub fault_line : LexFail → ℕ
fault_line (fail.Unclosed line) = line
fault_line (fail.BadByte line) = line
fault_line (fail.FloatLiteral line) = line
fault_line (fail.IntTooLarge line) = line
fault_line (fail.BadEscape line) = line
fault_line fail.NoMemory = 0

-- the name of a refusal by the parser, and its line
abbrev pub parse_name : ParseFail → List ℕ
parse_name (parse_fail.Syntax at line) = codes "Syntax"
parse_name (parse_fail.TooDeep at line) = codes "TooDeep"
parse_name parse_fail.NoMemory = codes "NoMemory"

abbrev pub parse_line : ParseFail → ℕ
parse_line (parse_fail.Syntax at line) = line
parse_line (parse_fail.TooDeep at line) = line
parse_line parse_fail.NoMemory = 0

-- the name of a fault of a script that the grammar lets pass, and its line
abbrev pub illegal_name : NameFail → List ℕ
illegal_name (name_fail.NotAPlace line at) = codes "NotAPlace"
illegal_name (name_fail.BadBreak line at) = codes "BadBreak"
illegal_name (name_fail.JumpFromFinally line at) = codes "JumpFromFinally"
illegal_name (name_fail.Duplicate line at) = codes "Duplicate"
illegal_name (name_fail.BadConstant line at) = codes "BadConstant"
illegal_name (name_fail.BadList line at) = codes "BadList"
illegal_name (name_fail.BadUse line at) = codes "BadUse"
illegal_name (name_fail.TooManyNames line at) = codes "TooManyNames"
illegal_name name_fail.NoMemory = codes "NoMemory"

abbrev pub illegal_line : NameFail → ℕ
illegal_line (name_fail.NotAPlace line at) = line
illegal_line (name_fail.BadBreak line at) = line
illegal_line (name_fail.JumpFromFinally line at) = line
illegal_line (name_fail.Duplicate line at) = line
illegal_line (name_fail.BadConstant line at) = line
illegal_line (name_fail.BadList line at) = line
illegal_line (name_fail.BadUse line at) = line
illegal_line (name_fail.TooManyNames line at) = line
illegal_line name_fail.NoMemory = 0

abbrev pub refusal_name : Refusal → List ℕ
refusal_name (refusal.Lex fault) = fault_name fault
refusal_name (refusal.Parse failure) = parse_name failure
refusal_name (refusal.Name failure) = illegal_name failure
refusal_name (refusal.NotYet line) = codes "NotYet"

abbrev pub refusal_line : Refusal → ℕ
refusal_line (refusal.Lex fault) = fault_line fault
refusal_line (refusal.Parse failure) = parse_line failure
refusal_line (refusal.Name failure) = illegal_line failure
refusal_line (refusal.NotYet line) = line

abbrev pub refused_text : Refusal → List ℕ
refused_text cause = codes "phprun: refused: " ++ refusal_name cause ++ codes " on line " ++ decimal (refusal_line cause) ++ codes "\n"

-- how many functions and classes a script declares; written to the output
abbrev pub counted_text : ℕ → ℕ → List ℕ
counted_text functions classes = codes "ok: " ++ decimal functions ++ codes " functions, " ++ decimal classes ++ codes " classes\n"

abbrev pub overflow_text : ℕ → List ℕ
overflow_text line = codes "phprun: fatal: integer overflow on line " ++ decimal line ++ codes "\n"

abbrev pub cut_off_text : List ℕ
cut_off_text = codes "phprun: step allowance used up\n"

abbrev pub cannot_write : List ℕ
cannot_write = codes "phprun: cannot write output\n"

abbrev pub out_of_memory : List ℕ
out_of_memory = codes "phprun: out of memory\n"
