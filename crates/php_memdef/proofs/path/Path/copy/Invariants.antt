use Rattle.std.proofs.Common.{◌≡◌, take}
use Rattle.php_memdef.proofs.path.Path.copy.Given as goal

-- the steps so far were copied
abbrev pub invariant-loop-step : goal.invariant-loop-step
invariant-loop-step l = l.path ≡ take l.step-index l.self
