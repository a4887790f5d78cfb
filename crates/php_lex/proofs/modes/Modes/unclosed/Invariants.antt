use Rattle.std.proofs.Common.{◌≡◌, length}
use Rattle.php_lex.specs.Modes.{unclosed}
use Rattle.php_lex.proofs.modes.Modes.unclosed.Given as goal

abbrev pub invariant-loop-mode : goal.invariant-loop-mode
invariant-loop-mode l = unclosed l.self ≡ unclosed l.fn.self

abbrev pub decreases-loop-mode : goal.decreases-loop-mode
decreases-loop-mode l = length l.self
