-- Runs that are over.
use Rattle.std.specs.Prelude.{ℕ, List}
use Rattle.php_machine.specs.Moves.{Rules}
use Rattle.php_machine.specs.Control.{Control, Kept}
use Rattle.php_machine.specs.Machine.{run}
use Rattle.php_machine.specs.Same.{IsOver}

-- after some number of steps the run is over
abbrev pub ComesToAnEnd : {A D W E C : Type 0} → Rules A D W E → Control A W C → List ℕ → D → List C → List (Kept C) → Type 0
ComesToAnEnd rules control ns d cs kept = (n : ℕ) × IsOver (run rules control n ns d cs kept)
