-- Runs that aren't stuck.
use Rattle.std.specs.Prelude.{◌≢◌, ℕ, List}
use Rattle.php_machine.specs.Moves.{Rules, Stuck}
use Rattle.php_machine.specs.Control.{Control}
use Rattle.php_machine.specs.Machine.{runs}

-- no run from this data is stuck, under any numbers for the frames
abbrev pub IsNeverStuck : {A D W E C : Type 0} → Rules A D W E → Control A W C → D → Type 0
IsNeverStuck rules control d = (n : ℕ) (ns : List ℕ) → runs rules control n ns d ≢ Stuck
