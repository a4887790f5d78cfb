-- What is proved of the grammar of expressions, for every list of symbols and every tree.
use Rattle.std.specs.Prelude.{◌≡◌, ◌≢◌, ◌+◌, length, ℕ, true, false, List, [], ◌∷◌, ◌++◌, map}
use Rattle.php_token.specs.Token.{Token}
use Rattle.php_ast.specs.Symbol.{Symbol, symbol}
use Rattle.php_ast.specs.expression.Tree.{Tree}
use Rattle.php_ast.specs.expression.Spelling.{spell}
use Rattle.php_ast.specs.expression.Proper.{Proper, takes_arrow, ends_bare}
use Rattle.php_ast.specs.expression.View.{Note}
use Rattle.php_ast.specs.expression.Placed.{size, form_of, IsPlaced}
use Rattle.php_grammar.specs.expression.Role.{Continuation, neither, continuation, strength_of, is_arrow, ends_yield}
use Rattle.php_ast.specs.expression.Nesting.{nests}
use Rattle.php_grammar.specs.expression.Machine.{Form, Reading, expects, read}
use Rattle.php_grammar.specs.expression.Depth.{depths_read}

-- ---- sizes

-- A tree has as many tokens as the places of its notes say.
abbrev pub SizesAgree : Type 0
SizesAgree = (e : Form) (w : List Symbol) → length (spell e w) ≡ size e + length w

-- ---- what symbols spell and begin

abbrev pub Spells : Form → List Symbol → Type 0
Spells tree w = Proper tree × (spell tree [] ≡ w)

-- the symbols begin an expression
pub record BeginsExpression (w : List Symbol) : Type 0 where
  pub tree : Form
  pub rest : List Symbol
  pub spelled : Spells tree (w ++ rest)

-- ---- what a reading has read begins the spelling of a proper tree

-- The tree is proper, and its spelling is what was read and what it lacks; what was read and what is left
-- are all the symbols.
pub record BeginsWith (w : List Symbol) (reading : Reading) : Type 0 where
  pub proper : Proper reading.tree
  pub done : List Symbol
  pub whole : w ≡ done ++ reading.unread
  pub spelled : spell reading.tree [] ≡ done ++ reading.missing

abbrev pub ReadingBegins : Type 0
ReadingBegins = (w : List Symbol) → BeginsWith w (read w)

-- ---- the spelling of a proper tree is read back

-- what a list begins with
abbrev pub head_continuation : List Symbol → Continuation
head_continuation [] = neither
head_continuation (t ∷ w) = continuation t

-- An expression ends in front of these symbols: the first one is no operator and no suffix, belongs to no
-- `yield` at its end, and may stand behind a `yield` alone where one is there.
pub record EndsBefore (e : Form) (v : List Symbol) : Type 0 where
  pub draws_nothing : strength_of (head_continuation v) ≡ 0
  pub no_arrow : is_arrow (head_continuation v) ≡ true → takes_arrow e ≡ false
  pub after_bare : ends_bare e ≡ true → ends_yield (head_continuation v) ≡ true

abbrev pub ReadsBack : Type 0
ReadsBack = (e : Form) (v : List Symbol) → Proper e → EndsBefore e v → read (spell e v) ≡ record { tree = e; missing = []; unread = v }

-- ---- what lacks something spells nothing

-- Where a reading halts in front of these symbols and something is missing, no tree is spelled by what
-- was read that ends there.
abbrev pub Unfinished : Type 0
Unfinished = (w v : List Symbol) (e : Form) → Spells e w → EndsBefore e v → (read (w ++ v)).missing ≢ [] → ⊥

-- ---- one tree

abbrev pub OneForm : Type 0
OneForm = (a b : Form) (w : List Symbol) → Spells a w → Spells b w → a ≡ b

-- A tree is spelled by tokens, the first of which is at a place among all of them, where its form is and
-- its notes are about them.
pub record IsSpelled (tokens : List Token) (at : ℕ) (e : Tree Note) (w : List Token) : Type 0 where
  pub spelled : Spells (form_of e) (map symbol w)
  pub placed : IsPlaced tokens at e

abbrev pub OneTree : Type 0
OneTree = (tokens : List Token) (at : ℕ) (w : List Token) (a b : Tree Note) → IsSpelled tokens at a w → IsSpelled tokens at b w → a ≡ b

-- ---- nesting

-- The nesting that a reading counts at each symbol is that of the tree.
abbrev pub NestingAgrees : Type 0
NestingAgrees = (e : Form) (v : List Symbol) → Proper e → EndsBefore e v → depths_read (expects []) (spell e v) ≡ nests e 0 []

-- ---- the exact place

-- The symbols read begin an expression, and no longer do so with one more.
abbrev pub StopsExactly : Type 0
StopsExactly = (w done : List Symbol) (t : Symbol) (v : List Symbol) → w ≡ done ++ t ∷ v → (read w).unread ≡ t ∷ v → BeginsExpression (done ++ t ∷ []) → ⊥
