-- What a call's failure is a cause of.
use Rattle.std.proofs.Common.{◌≡◌, ◌≢◌, ◌⊎◌, inl, inr, ℕ, Some, Ok, Err, List, refl}
use Rattle.php_token.specs.Token.{Token}
use Rattle.php_lex.specs.Reading.{tokens}
use Rattle.php_lex.specs.declared.fail.LexFail.{LexFail}
use Rattle.php_lex.specs.declared.fail.LexFail.TheVariants as lex_fail
use Rattle.php_ast.specs.expression.View.{Note}
use Rattle.php_ast.specs.declaration.Tree.{Script}
use Rattle.php_reader.specs.Line.{line_at}
use Rattle.php_reader.specs.declared.fail.ParseFail.{ParseFail}
use Rattle.php_reader.specs.declared.fail.ParseFail.TheVariants as parse_fail
use Rattle.php_parse_script.specs.Exact as exact
use Rattle.php_legality.specs.declared.kind.Kind.{Kind}
use Rattle.php_legality.specs.declared.kind.Kind.TheVariants as kind
use Rattle.php_legality.specs.declared.fault.Fault.{Fault}
use Rattle.php_legality.specs.Legality.{IsFirstFault}
use Rattle.php_names.specs.Fails.{fault_of, TellsFirst}
use Rattle.php_names.specs.declared.fail.NameFail.{NameFail}
use Rattle.php_names.specs.declared.fail.NameFail.TheVariants as name_fail
use Rattle.php_front.specs.declared.fail.ReadFail.{ReadFail}
use Rattle.php_front.specs.declared.fail.ReadFail.TheVariants as fail
use Rattle.php_front.specs.Read.{IsParsed, IsRefused, IsUnlexed, IsUnparsed, IsIllegal}
use Rattle.php_front.specs.Told.{of_lex, of_parse, of_check}

-- It is a cause of a refusal, unless it is want of memory.
abbrev pub IsCause : List ℕ → ReadFail → Type 0
IsCause bytes cause = cause ≢ fail.NoMemory → IsRefused bytes cause

unlexed : (bytes : List ℕ) (fault : LexFail) → fault ≢ lex_fail.NoMemory → (fault ≡ lex_fail.NoMemory) ⊎ (tokens bytes ≡ Err fault) → IsUnlexed bytes fault
unlexed bytes fault sure (inl memory) = absurd (sure memory)
unlexed bytes fault sure (inr told) = record { told = told; is_fault = sure }

pub lex_cause : (bytes : List ℕ) (fault : LexFail) → (fault ≡ lex_fail.NoMemory) ⊎ (tokens bytes ≡ Err fault) → IsCause bytes (of_lex fault)
lex_cause bytes (lex_fail.Unclosed line) told = λ sure. unlexed bytes (lex_fail.Unclosed line) (λ h. cc) told
lex_cause bytes (lex_fail.BadByte line) told = λ sure. unlexed bytes (lex_fail.BadByte line) (λ h. cc) told
lex_cause bytes (lex_fail.FloatLiteral line) told = λ sure. unlexed bytes (lex_fail.FloatLiteral line) (λ h. cc) told
lex_cause bytes (lex_fail.IntTooLarge line) told = λ sure. unlexed bytes (lex_fail.IntTooLarge line) (λ h. cc) told
lex_cause bytes (lex_fail.BadEscape line) told = λ sure. unlexed bytes (lex_fail.BadEscape line) (λ h. cc) told
lex_cause bytes lex_fail.NoMemory told = λ sure. absurd (sure refl)

pub parse_cause : (bytes : List ℕ) (found : List Token) (failure : ParseFail) → tokens bytes ≡ Ok found → exact.IsRefused found failure → IsCause bytes (of_parse failure)
parse_cause bytes found (parse_fail.Syntax at line) lexed refused = λ sure. record { found = found; lexed = lexed; refused = refused; is_refusal = λ h. cc }
parse_cause bytes found (parse_fail.TooDeep at line) lexed refused = λ sure. record { found = found; lexed = lexed; refused = refused; is_refusal = λ h. cc }
parse_cause bytes found parse_fail.NoMemory lexed refused = λ sure. absurd (sure refl)

illegal : (bytes : List ℕ) (found : List Token) (script : Script Note) (k : Kind) (line at : ℕ) (failure : NameFail) → IsParsed bytes found script →
    IsFirstFault script (record { kind = k; spot = record { place = at; line = line } }) →
    fault_of failure ≡ Some (record { kind = k; spot = record { place = at; line = line_at found at } }) → IsIllegal bytes failure
illegal bytes found script k line at failure parsed first told = record {
  found = found;
  script = script;
  parsed = parsed;
  fault = record { kind = k; spot = record { place = at; line = line_at found at } };
  told = told;
  first = record { noted = line; first = first; on_line = refl };
}

pub check_cause : (bytes : List ℕ) (found : List Token) (script : Script Note) (failure : NameFail) → IsParsed bytes found script → TellsFirst script failure → IsCause bytes (of_check found failure)
check_cause bytes found script (name_fail.NotAPlace line at) parsed first = λ sure. illegal bytes found script kind.NoPlace line at (name_fail.NotAPlace (line_at found at) at) parsed first refl
check_cause bytes found script (name_fail.BadBreak line at) parsed first = λ sure. illegal bytes found script kind.BadBreak line at (name_fail.BadBreak (line_at found at) at) parsed first refl
check_cause bytes found script (name_fail.JumpFromFinally line at) parsed first = λ sure. illegal bytes found script kind.JumpFromFinally line at (name_fail.JumpFromFinally (line_at found at) at) parsed first refl
check_cause bytes found script (name_fail.Duplicate line at) parsed first = λ sure. illegal bytes found script kind.Duplicate line at (name_fail.Duplicate (line_at found at) at) parsed first refl
check_cause bytes found script (name_fail.BadConstant line at) parsed first = λ sure. illegal bytes found script kind.NoConstant line at (name_fail.BadConstant (line_at found at) at) parsed first refl
check_cause bytes found script (name_fail.BadList line at) parsed first = λ sure. illegal bytes found script kind.BadList line at (name_fail.BadList (line_at found at) at) parsed first refl
check_cause bytes found script (name_fail.BadUse line at) parsed first = λ sure. illegal bytes found script kind.BadUse line at (name_fail.BadUse (line_at found at) at) parsed first refl
check_cause bytes found script (name_fail.TooManyNames line at) parsed first = λ sure. illegal bytes found script kind.TooManyNames line at (name_fail.TooManyNames (line_at found at) at) parsed first refl
check_cause bytes found script name_fail.NoMemory parsed first = λ sure. absurd (sure refl)
