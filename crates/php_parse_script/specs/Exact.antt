-- What is answered of the tokens of a whole script.
use Rattle.std.specs.Prelude.{◌≡◌, ◌≤◌, ◌<◌, ℕ, ◌+◌, Some, None, List, ◌++◌, map, take, length}
use Rattle.php_token.specs.Token.{Token}
use Rattle.php_ast.specs.Symbol.{Symbol, symbol}
use Rattle.php_ast.specs.declared.script.Script as rust_script
use Rattle.php_ast.specs.expression.View.{Note}
use Rattle.php_ast.specs.declaration.Tree.{Script}
use Rattle.php_ast.specs.declaration.Placed.{script_form}
use Rattle.php_ast.specs.declaration.Nesting.{script_nests}
use Rattle.php_ast.specs.declaration.View.{script_view}
use Rattle.php_grammar.specs.Begins.{BeginsScript}
use Rattle.php_grammar.specs.TooDeep.{first_too_deep}
use Rattle.php_grammar.specs.expression.Machine.{Nothing}
use Rattle.php_grammar.specs.declaration.Laws.{SpellsScript, IsSpelledScript}
use Rattle.php_reader.specs.declared.fail.ParseFail.{ParseFail}
use Rattle.php_reader.specs.declared.fail.ParseFail.TheVariants.{Syntax, TooDeep, NoMemory}
use Rattle.php_reader.specs.Line.{line_at}

-- what the grammar sees of the first k tokens
abbrev pub first_symbols : List Token → ℕ → List Symbol
first_symbols tokens k = map symbol (take k tokens)

-- The tokens spell this script and no other, and none of them is nested too deep.
pub record IsRead (tokens : List Token) (s : rust_script.Script) : Type 0 where
  pub spelled : IsSpelledScript tokens (script_view s)
  pub only : (a : Script Note) → IsSpelledScript tokens a → a ≡ script_view s
  pub shallow : first_too_deep 0 (script_nests (script_form (script_view s))) ≡ None

-- The first k tokens begin a script. With token k they don't; or there are no more tokens, and they spell none. None of
-- them is nested too deep, in whatever script they begin.
pub record IsSyntax (tokens : List Token) (k line : ℕ) : Type 0 where
  pub within : k ≤ length tokens
  pub begins : BeginsScript (first_symbols tokens k)
  pub no_further : k < length tokens → BeginsScript (first_symbols tokens (k + 1)) → ⊥
  pub unspelled : k ≡ length tokens → (s : Script Nothing) → SpellsScript s (map symbol tokens) → ⊥
  pub shallow : (s : Script Nothing) (more : List Symbol) → SpellsScript s (first_symbols tokens k ++ more) → first_too_deep 0 (take k (script_nests s)) ≡ None
  pub on_line : line ≡ line_at tokens k

-- The tokens up to and with token k begin a script, and token k is the first one that is nested too deep, in whatever
-- script they begin.
pub record IsTooDeep (tokens : List Token) (k line : ℕ) : Type 0 where
  pub within : k < length tokens
  pub begins : BeginsScript (first_symbols tokens (k + 1))
  pub sinks : (s : Script Nothing) (more : List Symbol) → SpellsScript s (first_symbols tokens (k + 1) ++ more) → first_too_deep 0 (script_nests s) ≡ Some k
  pub on_line : line ≡ line_at tokens k

abbrev pub IsRefused : List Token → ParseFail → Type 0
IsRefused tokens (Syntax k line) = IsSyntax tokens k line
IsRefused tokens (TooDeep k line) = IsTooDeep tokens k line
IsRefused tokens NoMemory = Unit {0}
