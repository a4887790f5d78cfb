-- How statements run.
use Rattle.std.specs.Prelude.{ℕ, ◌+◌, Bool, true, false, nat_lt, List, [], ◌∷◌, ◌++◌, Option, Some, None, option_map, map, slice_index_or, slice_set, if◌then◌else◌}
use Rattle.std.specs.Fmt.{signed_decimal}
use Rattle.php_first_tree.specs.Expression.{Part, value, text, Command, assign, echo, inline, empty, Statement}
use Rattle.php_token.specs.Token.{Token}
use Rattle.php_first_run.specs.declared.value.Value.{Value}
use Rattle.php_first_run.specs.declared.value.Value.TheVariants.{Null, Int}
use Rattle.php_first_run.specs.Evaluation.{evaluated}

-- what `echo` writes of a value
abbrev pub text_of : Value → List ℕ
text_of Null = []
text_of (Int n) = signed_decimal n

-- The texts of a script's tokens, and the one of the token at a place.
abbrev pub texts_of : List Token → List (List ℕ)
texts_of = map (λ (token : Token). token.text)

abbrev pub text_at : List (List ℕ) → ℕ → List ℕ
text_at texts at = slice_index_or texts at []

-- What a statement does: it leaves these values of the variables, writes these bytes, and may end in an overflow.
pub record Effect : Type 0 where
  pub values : List Value
  pub bytes : List ℕ
  pub overflows : Bool

-- what is written of a part of an `echo`; None is an overflow
abbrev pub part_text : List (List ℕ) → List Value → Part → Option (List ℕ)
part_text texts values (value e) = option_map text_of (evaluated values e)
part_text texts values (text at) = Some (text_at texts at)

-- a part of an `echo`, and then the parts behind it
abbrev pub part_written : List Value → Option (List ℕ) → Effect → Effect
part_written values None rest = record { values = values; bytes = []; overflows = true }
part_written values (Some bytes) rest = record rest { bytes = bytes ++ rest.bytes }

-- Each part is written before the next one is evaluated.
abbrev pub echoed : List (List ℕ) → List Value → List Part → Effect
echoed texts values [] = record { values = values; bytes = []; overflows = false }
echoed texts values (part ∷ parts) = part_written values (part_text texts values part) (echoed texts values parts)

abbrev pub assigned : List Value → ℕ → Option Value → Effect
assigned values k None = record { values = values; bytes = []; overflows = true }
assigned values k (Some new) = record { values = slice_set values k new; bytes = []; overflows = false }

-- bytes are written, and nothing else happens
abbrev pub written : List Value → List ℕ → Effect
written values bytes = record { values = values; bytes = bytes; overflows = false }

-- one statement
abbrev pub step : List (List ℕ) → List Value → Command → Effect
step texts values (assign k e) = assigned values k (evaluated values e)
step texts values (echo parts) = echoed texts values parts
step texts values (inline at) = written values (text_at texts at)
step texts values empty = written values []

-- Each statement takes one tick when it begins, but for the empty one.
abbrev pub takes_tick : Command → Bool
takes_tick (assign k e) = true
takes_tick (echo parts) = true
takes_tick (inline at) = true
takes_tick empty = false

-- how a run ends
pub data Ending : Type 0 where
  completed : Ending
  -- an integer overflow in the statement on this line
  overflowed : ℕ → Ending
  -- no tick was left for a statement
  cut_off : Ending

-- The result of a run: how it ended, the ticks that were taken, and the bytes that were written.
pub record Outcome : Type 0 where
  pub ending : Ending
  pub ticks : ℕ
  pub output : List ℕ

-- a statement that took its tick, and the run of what follows where it goes on
abbrev pub followed_by : Effect → ℕ → ℕ → Outcome → Outcome
followed_by effect line ticks rest =
    if effect.overflows
    then record { ending = overflowed line; ticks = ticks; output = effect.bytes }
    else record rest { output = effect.bytes ++ rest.output }

-- The run of statements with an allowance, over the texts of the tokens, from these ticks taken and these values on. Where
-- the allowance is used up when a statement wants its tick, the run is cut off.
abbrev pub run : List (List ℕ) → ℕ → ℕ → List Value → List Statement → Outcome
run texts allowance ticks values [] = record { ending = completed; ticks = ticks; output = [] }
run texts allowance ticks values (s ∷ ss) =
    if takes_tick s.command
    then (if nat_lt ticks allowance
    then followed_by (step texts values s.command) s.line (ticks + 1) (run texts allowance (ticks + 1) (step texts values s.command).values ss)
    else record { ending = cut_off; ticks = ticks; output = [] })
    else run texts allowance ticks values ss
