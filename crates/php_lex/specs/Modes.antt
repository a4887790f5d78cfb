-- Where in a script a piece stands: what is open there, the innermost first.
use Rattle.std.specs.Prelude.{ℕ, Bool, true, false, List, [], ◌∷◌, Option, Some, None}
use Rattle.php_lex_pieces.specs.Bytes.{Text}

-- A construct that ends has the line on which it begins.
pub data Mode : Type 0 where
  outside : Mode
  script : Mode
  quotes : ℕ → Mode
  heredoc : Text → ℕ → Mode
  braces : ℕ → Mode
  block : Mode
  name_due : ℕ → Mode
  name_read : ℕ → Mode
  brackets : ℕ → Mode
  index : Mode
  brace_due : ℕ → Mode
  subject : ℕ → Mode
  member_due : ℕ → Mode
  key_due : ℕ → Mode
  key_read : ℕ → Mode

-- a piece of a script is due: outside the parts of templates, or in one with braces or brackets
abbrev pub is_in_script : Mode → Bool
is_in_script script = true
is_in_script (braces line) = true
is_in_script block = true
is_in_script (brackets line) = true
is_in_script index = true
is_in_script mode = false

abbrev pub State : Type 0
State = List Mode

-- a text begins outside the tags of a script
abbrev pub start : State
start = outside ∷ []

abbrev pub mode_of : State → Mode
mode_of [] = script
mode_of (mode ∷ outer) = mode

abbrev pub outer_of : State → State
outer_of [] = []
outer_of (mode ∷ outer) = outer

-- the line on which a construct begins
abbrev pub line_of : Mode → Option ℕ
line_of outside = None
line_of script = None
line_of block = None
line_of index = None
line_of (quotes line) = Some line
line_of (heredoc name line) = Some line
line_of (braces line) = Some line
line_of (name_due line) = Some line
line_of (name_read line) = Some line
line_of (brackets line) = Some line
line_of (brace_due line) = Some line
line_of (subject line) = Some line
line_of (member_due line) = Some line
line_of (key_due line) = Some line
line_of (key_read line) = Some line

abbrev pub or_else : Option ℕ → Option ℕ → Option ℕ
or_else None other = other
or_else (Some line) other = Some line

-- the line on which the innermost construct that hasn't ended begins
abbrev pub unclosed : State → Option ℕ
unclosed [] = None
unclosed (mode ∷ outer) = or_else (line_of mode) (unclosed outer)

pub data Change : Type 0 where
  stay : Change
  enter : Mode → Change
  leave : Change
  turn : Mode → Change

abbrev pub changed : Change → State → State
changed stay state = state
changed (enter mode) state = mode ∷ state
changed leave state = outer_of state
changed (turn mode) state = mode ∷ outer_of state
