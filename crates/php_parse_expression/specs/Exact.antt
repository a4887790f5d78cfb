-- What is answered of the expression that begins at a place.
use Rattle.std.specs.Prelude.{◌≡◌, ◌≤◌, ◌<◌, ℕ, ◌+◌, ◌-◌, true, Some, None, List, [], ◌++◌, map, take, drop, length}
use Rattle.php_token.specs.Token.{Token}
use Rattle.php_ast.specs.declared.expression.Expr.{Expr}
use Rattle.php_ast.specs.Symbol.{Symbol, symbol}
use Rattle.php_ast.specs.expression.Tree.{Tree}
use Rattle.php_ast.specs.expression.Proper.{ends_bare}
use Rattle.php_ast.specs.expression.View.{Note, view}
use Rattle.php_ast.specs.expression.Placed.{form_of}
use Rattle.php_ast.specs.expression.Nesting.{nests}
use Rattle.php_grammar.specs.TooDeep.{first_too_deep}
use Rattle.php_grammar.specs.expression.Role.{ends_yield}
use Rattle.php_grammar.specs.expression.Machine.{Form}
use Rattle.php_grammar.specs.expression.Laws.{Spells, BeginsExpression, IsSpelled, head_continuation}
use Rattle.php_reader.specs.declared.fail.ParseFail.{ParseFail}
use Rattle.php_reader.specs.declared.fail.ParseFail.TheVariants.{Syntax, TooDeep, NoMemory}
use Rattle.php_reader.specs.Seen.{rest}
use Rattle.php_reader.specs.Line.{line_at}

-- ---- the tokens from one place to before another

abbrev pub between : List Token → ℕ → ℕ → List Token
between tokens at k = take (k - at) (drop at tokens)

abbrev pub symbols : List Token → ℕ → ℕ → List Symbol
symbols tokens at k = map symbol (between tokens at k)

-- The tokens from a place to before k begin an expression, and no more tokens do.
pub record Reaches (tokens : List Token) (at k : ℕ) : Type 0 where
  pub ahead : at ≤ k
  pub within : k ≤ length tokens
  pub begins : BeginsExpression (symbols tokens at k)
  pub most : (j : ℕ) → k < j → j ≤ length tokens → BeginsExpression (symbols tokens at j) → ⊥

-- A `yield` alone at the end of a tree stands before what may follow it.
abbrev pub MayStand : Form → List Token → ℕ → Type 0
MayStand e tokens k = ends_bare e ≡ true → ends_yield (head_continuation (rest tokens k)) ≡ true

-- ---- answers

-- The tokens from a place to before k spell this expression and no other, none of them is nested too deep, and
-- no more tokens begin an expression.
pub record IsRead (depth : ℕ) (tokens : List Token) (at : ℕ) (e : Expr) (k : ℕ) : Type 0 where
  pub reaches : Reaches tokens at k
  pub spelled : IsSpelled tokens at (view e) (between tokens at k)
  pub stands : MayStand (form_of (view e)) tokens k
  pub only : (a : Tree Note) → IsSpelled tokens at a (between tokens at k) → a ≡ view e
  pub shallow : first_too_deep depth (nests (form_of (view e)) 0 []) ≡ None

-- The tokens from a place to before k begin an expression and spell none, none of them is nested too deep, and no
-- more tokens begin an expression.
pub record IsSyntax (depth : ℕ) (tokens : List Token) (at k line : ℕ) : Type 0 where
  pub reaches : Reaches tokens at k
  pub unspelled : (e : Form) → Spells e (symbols tokens at k) → MayStand e tokens k → ⊥
  pub shallow : (e : Form) (more : List Symbol) → Spells e (symbols tokens at k ++ more) → first_too_deep depth (take (k - at) (nests e 0 [])) ≡ None
  pub on_line : line ≡ line_at tokens k

-- The tokens from a place on begin an expression up to and with token k, the first one that is nested too deep.
pub record IsTooDeep (depth : ℕ) (tokens : List Token) (at k line : ℕ) : Type 0 where
  pub ahead : at ≤ k
  pub within : k < length tokens
  pub begins : BeginsExpression (symbols tokens at (k + 1))
  pub sinks : (e : Form) (more : List Symbol) → Spells e (symbols tokens at (k + 1) ++ more) → first_too_deep depth (nests e 0 []) ≡ Some (k - at)
  pub on_line : line ≡ line_at tokens k

abbrev pub IsRefused : ℕ → List Token → ℕ → ParseFail → Type 0
IsRefused depth tokens at (Syntax k line) = IsSyntax depth tokens at k line
IsRefused depth tokens at (TooDeep k line) = IsTooDeep depth tokens at k line
IsRefused depth tokens at NoMemory = Unit {0}
