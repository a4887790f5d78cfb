-- What the number of ticks that are left decides.
use Rattle.std.specs.Prelude.{◌≡◌, ℕ, ◌≤◌, List}
use Rattle.php_actions.specs.Data.{Data, with_left}

abbrev pub output_of : Data → List ℕ
output_of d = d.out

-- the same data with as many ticks left, or more
abbrev pub HasMoreTicks : Data → Data → Type 0
HasMoreTicks d e = (e ≡ with_left e.left d) × (d.left ≤ e.left)
