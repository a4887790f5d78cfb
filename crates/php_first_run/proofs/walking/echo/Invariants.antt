use Rattle.std.proofs.Common.{map, drop}
use Rattle.php_base.specs.Streams.{stream_of}
use Rattle.php_first_tree.specs.Expression.{part_view}
use Rattle.php_first_run.specs.Running.{echoed, texts_of}
use Rattle.php_first_run.proofs.Written.{SoFar}
use Rattle.php_first_run.proofs.walking.echo.Given as goal

-- the parts before the index are written, and the rest is still to be done
abbrev pub invariant-loop-part : goal.invariant-loop-part
invariant-loop-part g l =
    let s = g.O.Sink in
    SoFar (echoed (texts_of l.tokens) l.values (map part_view l.parts)) (echoed (texts_of l.tokens) l.values (map part_view (drop l.part-index l.parts)))
    (stream_of s.written s.faults l.fn.out) (stream_of s.written s.faults l.out)
