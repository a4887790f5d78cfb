use Rattle.std.proofs.Common.{map, drop}
use Rattle.php_base.specs.Streams.{stream_of}
use Rattle.php_first_tree.specs.Expression.{statement_view}
use Rattle.php_first_run.specs.Running.{run, texts_of}
use Rattle.php_first_run.proofs.Written.{RunSoFar}
use Rattle.php_first_run.proofs.walking.walk.Given as goal

-- the statements before the index ran, and the run of the rest goes on from here
abbrev pub invariant-loop-statement : goal.invariant-loop-statement
invariant-loop-statement g l =
    let s = g.O.Sink in record {
      so_far : RunSoFar
          (run (texts_of l.tokens) l.allowance 0 l.fn.values (map statement_view l.statements))
          (run (texts_of l.tokens) l.allowance l.ticks l.values (map statement_view (drop l.statement-index l.statements)))
          (stream_of s.written s.faults l.fn.out) (stream_of s.written s.faults l.out);
    }
