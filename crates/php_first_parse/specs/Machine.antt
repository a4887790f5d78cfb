-- A machine that reads statements one token at a time. It says of no token what it said before, and
-- never goes back: its runs recurse on the tokens.
use Rattle.std.specs.Prelude.{ℕ, nat_lt, List, [], ◌∷◌, ◌++◌, length, Option, Some, None, if◌then◌else◌}
use Rattle.php_first_tree.specs.Expression.{Expression, int, variable, group, times, joined, Part, value, text, Command, assign, echo, inline, empty, Statement}
use Rattle.php_first_tree.specs.declared.Sign.{Sign}
use Rattle.php_first_tree.specs.declared.Sign.TheVariants as sign
use Rattle.php_first_tokens.specs.declared.token.Lexeme.{Lexeme}
use Rattle.php_first_tokens.specs.declared.token.Lexeme.TheVariants.{Variable, Int, Text, Inline, Echo, Equals, Semicolon, Comma, Plus, Minus, Star, Open, Close}
use Rattle.php_first_tokens.specs.declared.token.Token.{Token}

-- a sum so far, and the sign behind it
pub record Begun : Type 0 where
  pub sum : Expression
  pub sign : Sign

-- What stands before the atom that is due: a sum with its sign, or none; then a product with its `*`, or none.
pub record Frame : Type 0 where
  pub sum : Option Begun
  pub product : Option Expression

abbrev pub fresh : Frame
fresh = record { sum = None; product = None }

-- what a sum is for: the value of a variable, or a part of an `echo` behind other parts
pub data Target : Type 0 where
  to : ℕ → Target
  part : List Part → Target

-- the statement with its last sum
abbrev pub command_of : Target → Expression → Command
command_of (to k) e = assign k e
command_of (part ps) e = echo (ps ++ value e ∷ [])

-- The statements that were read, and the statement under way: its line, what its sum is for, and the
-- parentheses that are open in it, the innermost first.
pub record Context : Type 0 where
  pub done : List Statement
  pub line : ℕ
  pub target : Target
  pub outer : List Frame

pub data State : Type 0 where
  -- a statement or the end is due
  due : List Statement → State
  -- a variable was read; `=` is due
  named : List Statement → ℕ → ℕ → State
  -- a part of the `echo` on a line is due, behind these
  wants_part : List Statement → ℕ → List Part → State
  -- a text was read as a part; `,` or `;` is due
  told : List Statement → ℕ → List Part → State
  -- an atom is due
  wants : Context → Frame → State
  -- a product was read, behind a sum with its sign
  has : Context → Option Begun → Expression → State

abbrev pub product_after : Option Expression → Expression → Expression
product_after None e = e
product_after (Some p) e = times p e

abbrev pub sum_after : Option Begun → Expression → Expression
sum_after None e = e
sum_after (Some b) e = joined b.sum b.sign e

-- the statements, and one more
abbrev pub with_statement : List Statement → ℕ → Command → State
with_statement done line command = due (done ++ record { line = line; command = command } ∷ [])

-- a sum in parentheses ended: it is an atom of the frame around it
abbrev pub closed : List Frame → Context → Expression → Option State
closed [] c e = None
closed (f ∷ fs) c e = Some (has (record c { outer = fs }) f.sum (product_after f.product (group e)))

-- a further part of an `echo` is due
abbrev pub next_part : List Frame → Context → Target → Expression → Option State
next_part [] c (part ps) e = Some (wants_part c.done c.line (ps ++ value e ∷ []))
next_part [] c (to k) e = None
next_part (f ∷ fs) c target e = None

-- the statement ends
abbrev pub ended : List Frame → Context → Expression → Option State
ended [] c e = Some (with_statement c.done c.line (command_of c.target e))
ended (f ∷ fs) c e = None

-- a parenthesis opens, where fewer than 128 are open
abbrev pub opened : Context → Frame → Option State
opened c f = if nat_lt (length c.outer) 128 then Some (wants (record c { outer = f ∷ c.outer }) fresh) else None

-- where an atom is due
abbrev pub atom_step : Context → Frame → Lexeme → Option State
atom_step c f (Int n) = Some (has c f.sum (product_after f.product (int n)))
atom_step c f (Variable k) = Some (has c f.sum (product_after f.product (variable k)))
atom_step c f Open = opened c f
atom_step c f _ = None

-- the first sum of a part
abbrev pub part_context : List Statement → ℕ → List Part → Context
part_context done line parts = record { done = done; line = line; target = part parts; outer = [] }

-- the state behind one more token; None where it can't stand there
abbrev pub step : State → ℕ → Lexeme → Option State
step (due done) line (Variable k) = Some (named done line k)
step (due done) line Echo = Some (wants_part done line [])
step (due done) line (Inline at) = Some (with_statement done line (inline at))
step (due done) line Semicolon = Some (with_statement done line empty)
step (due done) line _ = None
step (named done start k) line Equals = Some (wants (record { done = done; line = start; target = to k; outer = [] }) fresh)
step (named done start k) line _ = None
step (wants_part done start parts) line (Text at) = Some (told done start (parts ++ text at ∷ []))
step (wants_part done start parts) line l = atom_step (part_context done start parts) fresh l
step (told done start parts) line Comma = Some (wants_part done start parts)
step (told done start parts) line Semicolon = Some (with_statement done start (echo parts))
step (told done start parts) line _ = None
step (wants c f) line l = atom_step c f l
step (has c b p) line Star = Some (wants c (record { sum = b; product = Some p }))
step (has c b p) line Plus = Some (wants c (record { sum = Some (record { sum = sum_after b p; sign = sign.Plus }); product = None }))
step (has c b p) line Minus = Some (wants c (record { sum = Some (record { sum = sum_after b p; sign = sign.Minus }); product = None }))
step (has c b p) line Close = closed c.outer c (sum_after b p)
step (has c b p) line Comma = next_part c.outer c c.target (sum_after b p)
step (has c b p) line Semicolon = ended c.outer c (sum_after b p)
step (has c b p) line _ = None

-- what was read, where the tokens may end here
abbrev pub finished : State → Option (List Statement)
finished (due done) = Some done
finished (named done line k) = None
finished (wants_part done line parts) = None
finished (told done line parts) = None
finished (wants c f) = None
finished (has c b p) = None

-- The statements that the tokens spell, read from a state on; None where they spell none.
abbrev pub run : Option State → List Token → Option (List Statement)
run None tokens = None
run (Some state) [] = finished state
run (Some state) (token ∷ tokens) = run (step state token.line token.lexeme) tokens

-- the statements that the tokens spell
abbrev pub read : List Token → Option (List Statement)
read = run (Some (due []))
