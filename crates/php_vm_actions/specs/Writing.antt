-- Texts that are written.
use Rattle.std.specs.Prelude.{◌≡◌, ℕ, Bool, true, false, List, Option, pos}
use Rattle.php_base.specs.Written.{GrewBy, GrewByPart}
use Rattle.php_base.specs.Counts.{Rose}
use Rattle.php_value.specs.declared.scalar.Scalar.TheVariants as scalar
use Rattle.php_actions.specs.Data.{Frame, Data, Move, next_with}
use Rattle.php_actions.specs.Output.{with_out}
use Rattle.php_actions.specs.Steps.{drops, pushed}

abbrev pub PutAll : Bool → Option (List ℕ) → Option (List ℕ) → List ℕ → Type 0
PutAll true before after text = GrewBy before after text
PutAll false before after text = GrewByPart before after text

abbrev pub PutFaults : Bool → ℕ → ℕ → Type 0
PutFaults true old new = new ≡ old
PutFaults false old new = Rose old new

-- this text is written, and the value on top falls
abbrev pub text_echoed : List ℕ → Frame → Data → Move
text_echoed t f d = drops f.block 1 d.mem (next_with (with_out d t))

-- and 1 comes in its place
abbrev pub text_printed : List ℕ → Frame → Data → Move
text_printed t f d = drops f.block 1 d.mem (λ m. pushed f.block (scalar.Int (pos 1)) m (next_with (with_out d t)))
