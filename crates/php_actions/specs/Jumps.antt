-- Actions of statements.
use Rattle.std.specs.Prelude.{ℕ, zero, suc, ◌+◌, List}
use Rattle.php_machine.specs.Moves.{Next, End}
use Rattle.php_actions.specs.declared.ending.Ending.TheVariants.{Cut}
use Rattle.php_actions.specs.declared.jumps.JumpAction.{JumpAction}
use Rattle.php_actions.specs.declared.jumps.JumpAction.TheVariants.{Tick}
use Rattle.php_actions.specs.Data.{Frame, Data, Move, with_newest}

abbrev pub ticked : ℕ → ℕ → Frame → List Frame → Data → Move
ticked zero line f fs d = End Cut d
ticked (suc n) line f fs d = Next (with_newest (record d { left = n; taken = d.taken + 1 }) (record f { line = line }) fs)

abbrev pub effect_jump : JumpAction → Frame → List Frame → Data → Move
effect_jump (Tick line) f fs d = ticked d.left line f fs d
