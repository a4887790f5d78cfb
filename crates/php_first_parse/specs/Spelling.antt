-- The grammar: which tokens spell which statements.
--
--   script  = { INLINE | ";" | VARIABLE "=" sum ";" | "echo" part { "," part } ";" }
--   part    = sum | STRING
--   sum     = product { ( "+" | "-" ) product }
--   product = atom { "*" atom }
--   atom    = INT | VARIABLE | "(" sum ")"
use Rattle.std.specs.Prelude.{◌≡◌, ℕ, ◌<◌, ◌-◌, List, [], ◌∷◌}
use Rattle.php_first_tree.specs.Expression.{Expression, int, variable, group, times, plus, minus, Part, value, text, Command, assign, echo, inline, empty, Statement}
use Rattle.php_first_tokens.specs.declared.token.Lexeme.{Lexeme}
use Rattle.php_first_tokens.specs.declared.token.Lexeme.TheVariants.{Variable, Int, Text, Inline, Echo, Equals, Semicolon, Comma, Plus, Minus, Star, Open, Close}
use Rattle.php_first_tokens.specs.declared.token.Token.{Token}

-- what stands for what in the grammar
pub data Level : Type 0 where
  atom : Level
  product : Level
  sum : Level

-- The expression has a place at this level: products before sums, and both from the left.
abbrev pub Fits : Level → Expression → Type 0
Fits level (int n) = Unit {0}
Fits level (variable k) = Unit {0}
Fits level (group e) = Fits sum e
Fits atom (times l r) = ⊥
Fits product (times l r) = Fits product l × Fits atom r
Fits sum (times l r) = Fits product l × Fits atom r
Fits atom (plus l r) = ⊥
Fits product (plus l r) = ⊥
Fits sum (plus l r) = Fits sum l × Fits product r
Fits atom (minus l r) = ⊥
Fits product (minus l r) = ⊥
Fits sum (minus l r) = Fits sum l × Fits product r

-- at most so many parentheses are open at once
abbrev pub Within : ℕ → Expression → Type 0
Within depth (int n) = Unit {0}
Within depth (variable k) = Unit {0}
Within depth (group e) = (0 < depth) × Within (depth - 1) e
Within depth (times l r) = Within depth l × Within depth r
Within depth (plus l r) = Within depth l × Within depth r
Within depth (minus l r) = Within depth l × Within depth r

abbrev pub at_line : Lexeme → ℕ → Token
at_line l n = record { lexeme = l; line = n }

-- The tokens begin with a spelling of the expression, and the rest follows it.
abbrev pub Spells : Expression → List Token → List Token → Type 0
Spells (int n) tokens rest = (a : ℕ) × (tokens ≡ at_line (Int n) a ∷ rest)
Spells (variable k) tokens rest = (a : ℕ) × (tokens ≡ at_line (Variable k) a ∷ rest)
Spells (group e) tokens rest =
    (a b : ℕ) × (inside : List Token) × (tokens ≡ at_line Open a ∷ inside) × Spells e inside (at_line Close b ∷ rest)
Spells (times l r) tokens rest = (a : ℕ) × (right : List Token) × Spells l tokens (at_line Star a ∷ right) × Spells r right rest
Spells (plus l r) tokens rest = (a : ℕ) × (right : List Token) × Spells l tokens (at_line Plus a ∷ right) × Spells r right rest
Spells (minus l r) tokens rest = (a : ℕ) × (right : List Token) × Spells l tokens (at_line Minus a ∷ right) × Spells r right rest

-- A spelled expression that has a place at the level, with at most so many parentheses open at once.
pub record SpellsAt (level : Level) (depth : ℕ) (e : Expression) (tokens rest : List Token) : Type 0 where
  pub grouped : Fits level e
  pub within : Within depth e
  pub spelled : Spells e tokens rest

-- a spelled sum with at most 128 parentheses open at once
abbrev pub SpellsSum : Expression → List Token → List Token → Type 0
SpellsSum = SpellsAt sum 128

-- a part of an `echo`
abbrev pub SpellsPart : Part → List Token → List Token → Type 0
SpellsPart (value e) tokens rest = SpellsSum e tokens rest
SpellsPart (text at) tokens rest = (a : ℕ) × (tokens ≡ at_line (Text at) a ∷ rest)

-- the parts of an `echo`, at least one, with commas between them
abbrev pub SpellsParts : List Part → List Token → List Token → Type 0
SpellsParts [] tokens rest = ⊥
SpellsParts (p ∷ []) tokens rest = SpellsPart p tokens rest
SpellsParts (p ∷ q ∷ ps) tokens rest =
    (a : ℕ) × (more : List Token) × SpellsPart p tokens (at_line Comma a ∷ more) × SpellsParts (q ∷ ps) more rest

-- a statement, whose first token is on the line
abbrev pub SpellsCommand : Command → ℕ → List Token → List Token → Type 0
SpellsCommand (assign k e) line tokens rest =
    (a b : ℕ) × (right : List Token)
    × (tokens ≡ at_line (Variable k) line ∷ at_line Equals a ∷ right)
    × SpellsSum e right (at_line Semicolon b ∷ rest)
SpellsCommand (echo ps) line tokens rest =
    (b : ℕ) × (parts : List Token) × (tokens ≡ at_line Echo line ∷ parts) × SpellsParts ps parts (at_line Semicolon b ∷ rest)
SpellsCommand (inline at) line tokens rest = tokens ≡ at_line (Inline at) line ∷ rest
SpellsCommand empty line tokens rest = tokens ≡ at_line Semicolon line ∷ rest

-- The tokens are a spelling of the statements.
abbrev pub IsSpelling : List Statement → List Token → Type 0
IsSpelling [] tokens = tokens ≡ []
IsSpelling (s ∷ ss) tokens = (rest : List Token) × SpellsCommand s.command s.line tokens rest × IsSpelling ss rest
