-- What is seen of the tokens from a place on.
use Rattle.std.specs.Prelude.{◌≡◌, ◌≢◌, ◌<◌, ◌^◌, ℕ, ℤ, ◌+◌, Bool, true, false, Option, Some, None, List, [], ◌∷◌, map, drop, length}
use Rattle.php_token.specs.Token.{Token, token_at}
use Rattle.php_token.specs.declared.kind.Keyword.{Keyword}
use Rattle.php_token.specs.declared.kind.TokenKind.{TokenKind}
use Rattle.php_ast.specs.Symbol.{Symbol, symbol, symbol_of}
use Rattle.php_grammar.specs.expression.Role.{Beginning, at_nothing, at_yield, at_prefix, beginning, Continuation, neither, continuation, Mark, begins, item_mark, word_of, member_of}
use Rattle.php_ast.specs.declared.spot.Name.{Name}
use Rattle.php_ast.specs.declared.spot.Word.{Word}
use Rattle.php_ast.specs.declared.expression.Member as behind_colons
use Rattle.php_token.specs.declared.kind.Keyword.TheVariants as word
use Rattle.php_ast.specs.Symbol as sort
use Rattle.php_ast.specs.expression.Tree.{Member, named, reserved, Class, class_name, class_static, class_found, from}
use Rattle.php_ast.specs.expression.View.{spot_view, word_view, member_view}
use Rattle.php_ast.specs.expression.Placed.{noted_member, notes_of}
use Rattle.php_ast.specs.expression.Proper.{may_name, IsWord}
use Rattle.php_grammar.specs.expression.Laws.{head_continuation}

-- the symbols from a place on
abbrev pub rest : List Token → ℕ → List Symbol
rest tokens at = map symbol (drop at tokens)

-- a token stands at the place
pub record Stands (tokens : List Token) (at : ℕ) (t : Symbol) : Type 0 where
  pub is : rest tokens at ≡ t ∷ rest tokens (at + 1)
  pub token_is : t ≡ symbol (token_at tokens at)
  pub within : at < length tokens
  pub fits : at + 1 < 2 ^ 64

-- one of which something holds
pub record Shows {A : Type 0} (role : Symbol → A) (tokens : List Token) (at : ℕ) (x : A) : Type 0 where
  pub token : Symbol
  pub stands : Stands tokens at token
  pub role_is : role token ≡ x

-- behind an expression; nothing goes on at the end
abbrev pub Follows : List Token → ℕ → Continuation → Type 0
Follows tokens at neither = head_continuation (rest tokens at) ≡ neither
Follows tokens at x = Shows continuation tokens at x

abbrev pub test : (Symbol → Bool) → List Symbol → Bool
test is_so [] = false
test is_so (t ∷ w) = is_so t

abbrev pub Tests : (Symbol → Bool) → List Token → ℕ → Bool → Type 0
Tests is_so tokens at true = Shows is_so tokens at true
Tests is_so tokens at false = test is_so (rest tokens at) ≡ false

-- where an expression is due; nothing begins at the end
abbrev pub head_beginning : List Symbol → Beginning
head_beginning [] = at_nothing
head_beginning (t ∷ w) = beginning t

abbrev pub Starts : List Token → ℕ → Beginning → Type 0
Starts tokens at at_nothing = head_beginning (rest tokens at) ≡ at_nothing
Starts tokens at x = Shows beginning tokens at x

-- where an item is due; nothing is marked at the end
abbrev pub head_mark : List Symbol → Mark
head_mark [] = begins
head_mark (t ∷ w) = item_mark t

abbrev pub Marks : List Token → ℕ → Mark → Type 0
Marks tokens at begins = head_mark (rest tokens at) ≡ begins
Marks tokens at x = Shows item_mark tokens at x

-- whether it is this mark
abbrev pub SeesMark : Mark → List Token → ℕ → Bool → Type 0
SeesMark mark tokens at true = Shows item_mark tokens at mark
SeesMark mark tokens at false = head_mark (rest tokens at) ≢ mark

-- the name of a member
abbrev pub head_word : List Symbol → Option (Member (Unit {0}))
head_word [] = None
head_word (t ∷ w) = word_of t

abbrev pub ShowsWord : List Token → ℕ → Option Word → Type 0
ShowsWord tokens at None = head_word (rest tokens at) ≡ None
ShowsWord tokens at (Some w) = (m : Member (Unit {0})) × Shows word_of tokens at (Some m) × (word_view w ≡ noted_member (notes_of tokens) at m) × IsWord m

abbrev pub head_member : List Symbol → Option (Member (Unit {0}))
head_member [] = None
head_member (t ∷ w) = member_of t

abbrev pub ShowsMember : List Token → ℕ → Option behind_colons.Member → Type 0
ShowsMember tokens at None = head_member (rest tokens at) ≡ None
ShowsMember tokens at (Some found) = (m : Member (Unit {0})) × Shows member_of tokens at (Some m) × (member_view found ≡ noted_member (notes_of tokens) at m)

-- a name is that of the token at a place
pub record IsNamed (tokens : List Token) (at : ℕ) (n : Name) : Type 0 where
  pub noted : spot_view n.spot ≡ (notes_of tokens).token at
  pub text : n.text ≡ (token_at tokens at).text

-- whether a token of a kind may name a member, and the keyword that it is
abbrev pub Words : TokenKind → Option (Option Keyword) → Type 0
Words kind None = (text : List ℕ) (value : ℤ) → word_of (symbol_of kind text value) ≡ None
Words kind (Some None) = (text : List ℕ) (value : ℤ) → word_of (symbol_of kind text value) ≡ Some (named tt text)
Words kind (Some (Some keyword)) = (may_name keyword ≡ true) × ((text : List ℕ) (value : ℤ) → word_of (symbol_of kind text value) ≡ Some (reserved tt keyword))

-- the beginning of a class behind `new`
abbrev pub named_class : Symbol → Option (Class (Unit {0}))
named_class (sort.name text) = Some (class_name tt text)
named_class (sort.variable text) = Some (class_found (from tt text))
named_class (sort.keyword word.Static) = Some (class_static tt)
named_class _ = None

abbrev pub head_class : List Symbol → Option (Class (Unit {0}))
head_class [] = None
head_class (t ∷ w) = named_class t

-- None where no class begins
abbrev pub SeesClass : List Token → ℕ → Option (Class (Unit {0})) → Type 0
SeesClass tokens at None = head_class (rest tokens at) ≡ None
SeesClass tokens at (Some class) = Shows named_class tokens at (Some class)

-- what may stand between the quotes of a text with parts
pub data Mold : Type 0 where
  is_bytes : List ℕ → Mold
  is_opened : Mold
  is_over : Mold
  is_other : Mold

abbrev pub mold : Symbol → Mold
mold (sort.piece text) = is_bytes text
mold sort.part = is_opened
mold sort.unquote = is_over
mold _ = is_other

abbrev pub head_mold : List Symbol → Mold
head_mold [] = is_other
head_mold (t ∷ w) = mold t

abbrev pub SeesMold : List Token → ℕ → Mold → Type 0
SeesMold tokens at is_other = head_mold (rest tokens at) ≡ is_other
SeesMold tokens at x = Shows mold tokens at x

-- what begins no operand
abbrev pub NoOperand : Beginning → Type 0
NoOperand at_yield = Unit {0}
NoOperand (at_prefix op) = Unit {0}
NoOperand at_nothing = Unit {0}
NoOperand _ = ⊥
