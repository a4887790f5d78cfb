-- What the bytes of a file are: a legal script, or none, for a cause.
--
-- The causes go in this order: a fault of the lexer; tokens that spell no script, or one that is nested too deep; a fault
-- of a script that the grammar lets pass. Each speaks of what the ones before it leave.
use Rattle.std.specs.Prelude.{◌≡◌, ◌≢◌, ℕ, List, Some, None, Ok, Err}
use Rattle.php_token.specs.Token.{Token}
use Rattle.php_lex.specs.Reading.{tokens}
use Rattle.php_lex.specs.declared.fail.LexFail.{LexFail}
use Rattle.php_lex.specs.declared.fail.LexFail.TheVariants as lex_fail
use Rattle.php_ast.specs.expression.View.{Note}
use Rattle.php_ast.specs.declaration.Tree.{Script}
use Rattle.php_ast.specs.declaration.Placed.{script_form}
use Rattle.php_ast.specs.declaration.Nesting.{script_nests}
use Rattle.php_grammar.specs.TooDeep.{first_too_deep}
use Rattle.php_grammar.specs.declaration.Laws.{IsSpelledScript}
use Rattle.php_reader.specs.Line.{line_at}
use Rattle.php_reader.specs.declared.fail.ParseFail.{ParseFail}
use Rattle.php_reader.specs.declared.fail.ParseFail.TheVariants as parse_fail
use Rattle.php_parse_script.specs.Exact as exact
use Rattle.php_legality.specs.declared.fault.Fault.{Fault}
use Rattle.php_legality.specs.Legality.{IsLegal, IsFirstFault}
use Rattle.php_names.specs.Fails.{fault_of}
use Rattle.php_names.specs.declared.fail.NameFail.{NameFail}
use Rattle.php_front.specs.declared.fail.ReadFail.{ReadFail}
use Rattle.php_front.specs.declared.fail.ReadFail.TheVariants as fail

-- ---- scripts

-- The bytes have these tokens, which spell this script, and none of them is nested too deep.
pub record IsParsed (bytes : List ℕ) (found : List Token) (script : Script Note) : Type 0 where
  pub lexed : tokens bytes ≡ Ok found
  pub spelled : IsSpelledScript found script
  pub shallow : first_too_deep 0 (script_nests (script_form script)) ≡ None

-- And the script is legal.
pub record IsScript (bytes : List ℕ) (found : List Token) (script : Script Note) : Type 0 where
  pub parsed : IsParsed bytes found script
  pub legal : IsLegal script

-- ---- causes of a refusal

-- The bytes have no tokens, and this is their first fault.
pub record IsUnlexed (bytes : List ℕ) (fault : LexFail) : Type 0 where
  pub told : tokens bytes ≡ Err fault
  pub is_fault : fault ≢ lex_fail.NoMemory

-- They have tokens, which are refused: at the first one with which they begin no script, at their end where they spell
-- none, or at the first one that is nested too deep.
pub record IsUnparsed (bytes : List ℕ) (failure : ParseFail) : Type 0 where
  pub found : List Token
  pub lexed : tokens bytes ≡ Ok found
  pub refused : exact.IsRefused found failure
  pub is_refusal : failure ≢ parse_fail.NoMemory

-- The script's first fault is of the kind and at the place of this one, whose line is that of the token there.
pub record IsFaultAt (found : List Token) (script : Script Note) (fault : Fault) : Type 0 where
  pub noted : ℕ
  pub first : IsFirstFault script (record { kind = fault.kind; spot = record { place = fault.spot.place; line = noted } })
  pub on_line : fault.spot.line ≡ line_at found fault.spot.place

-- They spell a script that isn't legal, and this tells its first fault.
pub record IsIllegal (bytes : List ℕ) (failure : NameFail) : Type 0 where
  pub found : List Token
  pub script : Script Note
  pub parsed : IsParsed bytes found script
  pub fault : Fault
  pub told : fault_of failure ≡ Some fault
  pub first : IsFaultAt found script fault

-- The bytes are refused for this cause. Want of memory is none.
abbrev pub IsRefused : List ℕ → ReadFail → Type 0
IsRefused bytes (fail.Lex fault) = IsUnlexed bytes fault
IsRefused bytes (fail.Parse failure) = IsUnparsed bytes failure
IsRefused bytes (fail.Name failure) = IsIllegal bytes failure
IsRefused bytes fail.NoMemory = ⊥
