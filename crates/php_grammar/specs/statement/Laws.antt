-- What holds of the reading of statements, for every list of symbols and every tree.
use Rattle.std.specs.Prelude.{◌≡◌, ◌+◌, length, ℕ, Bool, true, false, List, [], ◌∷◌, map}
use Rattle.php_token.specs.Token.{Token}
use Rattle.php_ast.specs.Symbol.{Symbol, symbol}
use Rattle.php_ast.specs.expression.View.{Note}
use Rattle.php_grammar.specs.expression.Machine.{Nothing}
use Rattle.php_ast.specs.statement.Tree.{Statement, if_only, if_else, while, for, foreach, try_catch, ElseIfs, no_elseif, and_elseif, Body, single, list_behind_colon}
use Rattle.php_ast.specs.statement.Spelling.{spell_statement}
use Rattle.php_ast.specs.statement.Proper.{takes_else, IsProper}
use Rattle.php_grammar.specs.statement.Role.{Behind, by_other, by_catch, by_finally, behind, body_strength}
use Rattle.php_ast.specs.statement.Placed.{size_statement, statement_form, IsPlacedStatement}
use Rattle.php_ast.specs.statement.Nesting.{nests_statement}
use Rattle.php_grammar.specs.statement.Forms.{due_statement}
use Rattle.php_grammar.specs.statement.Depth.{statement_depths_read}
use Rattle.php_grammar.specs.statement.Reading.{read_statement}

-- ---- what may follow a statement

-- A `try` without `finally` at the end of a statement would take a `catch` or `finally` that stands behind it.
abbrev mutual
  pub takes_catch : {S : Type 0} → Statement S → Bool
  takes_catch (try_catch note body catches) = true
  takes_catch (if_only note test body parts) = part_takes_catch (takes_catch body) parts
  takes_catch (if_else note test body parts last) = takes_catch last
  takes_catch (while note test body) = body_takes_catch body
  takes_catch (for note starts tests steps body) = body_takes_catch body
  takes_catch (foreach note walked key value body) = body_takes_catch body
  takes_catch _ = false

  pub body_takes_catch : {S : Type 0} → Body S → Bool
  body_takes_catch (single s) = takes_catch s
  body_takes_catch (list_behind_colon body) = false

  -- the last body
  pub part_takes_catch : {S : Type 0} → Bool → ElseIfs S → Bool
  part_takes_catch first no_elseif = first
  part_takes_catch first (and_elseif parts test body) = takes_catch body

abbrev pub is_catching : Behind → Bool
is_catching by_catch = true
is_catching by_finally = true
is_catching _ = false

-- what a list begins with
abbrev pub head_behind : List Symbol → Behind
head_behind [] = by_other
head_behind (t ∷ w) = behind t

-- A statement ends before these symbols: the first one doesn't go on with an `if` or a `try` at its end.
pub record StatementEnds {S : Type 0} (a : Statement S) (v : List Symbol) : Type 0 where
  pub no_else : takes_else a ≡ true → body_strength (head_behind v) ≡ 0
  pub no_catch : takes_catch a ≡ true → is_catching (head_behind v) ≡ false

-- ---- the spelling of a proper statement is read back

abbrev pub ReadsStatementsBack : Type 0
ReadsStatementsBack =
    (a : Statement Nothing) (v : List Symbol) → IsProper a → StatementEnds a v → read_statement (spell_statement a v) ≡ record { tree = a; missing = []; unread = v }

-- ---- symbols spell at most one statement

abbrev pub SpellsStatement : Statement Nothing → List Symbol → Type 0
SpellsStatement a w = IsProper a × (spell_statement a [] ≡ w)

abbrev pub OneStatement : Type 0
OneStatement = (a b : Statement Nothing) (w : List Symbol) → SpellsStatement a w → SpellsStatement b w → a ≡ b

-- A statement is spelled by tokens, the first of which is at a place among all of them, where its form is and its
-- notes are about them.
pub record IsSpelledStatement (tokens : List Token) (at : ℕ) (a : Statement Note) (w : List Token) : Type 0 where
  pub spelled : SpellsStatement (statement_form a) (map symbol w)
  pub placed : IsPlacedStatement tokens at a

abbrev pub OneStatementTree : Type 0
OneStatementTree =
    (tokens : List Token) (at : ℕ) (w : List Token) (a b : Statement Note) → IsSpelledStatement tokens at a w → IsSpelledStatement tokens at b w → a ≡ b

-- ---- sizes

-- A statement has as many tokens as the places of its notes say.
abbrev pub StatementSizesAgree : Type 0
StatementSizesAgree = (a : Statement Nothing) (w : List Symbol) → length (spell_statement a w) ≡ size_statement a + length w

-- ---- nesting

-- The nesting that a reading counts at each symbol is that of the tree.
abbrev pub StatementNestingAgrees : Type 0
StatementNestingAgrees =
    (a : Statement Nothing) (v : List Symbol) → IsProper a → StatementEnds a v → statement_depths_read (due_statement []) (spell_statement a v) ≡ nests_statement a 0 []
