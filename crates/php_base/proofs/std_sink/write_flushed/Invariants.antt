use Rattle.std.specs.Io.KnownBytes.{Keeps}
use Rattle.php_base.proofs.std_sink.write_flushed.Given as goal

-- a writer that was interrupted has taken nothing
abbrev pub invariant-loop : goal.invariant-loop
invariant-loop g l = Keeps (g.W.Write.contents l.fn.writer) (g.W.Write.contents l.writer)
