use Rattle.std.proofs.Common.{◌≡◌, drop}
use Rattle.php_frames.specs.Served.{handler_of, handler_from}
use Rattle.php_frames.proofs.ranges.first_serving.Given as goal

-- the ranges before this one don't serve it
abbrev pub invariant-loop-n : goal.invariant-loop-n
invariant-loop-n l = handler_of l.ranges l.at l.why ≡ handler_from (drop l.n l.ranges) l.n l.at l.why
