use Rattle.std.proofs.Common.{◌≡◌, ◌≤◌, ◌-◌, take, length}
use Rattle.php_base.specs.Written.{GrewBy}
use Rattle.php_base.proofs.sink.put_all.Given as goal

-- the sink has taken the bytes before the index, and did not fail
abbrev pub invariant-loop-done : goal.invariant-loop-done
invariant-loop-done g l =
    let written = g.K.Sink.written in
    let faults = g.K.Sink.faults in
    record {
      within : l.done ≤ length l.bytes;
      grew : GrewBy (written l.fn.sink) (written l.sink) (take l.done l.bytes);
      no_fault : faults l.sink ≡ faults l.fn.sink;
    }

abbrev pub decreases-loop-done : goal.decreases-loop-done
decreases-loop-done g l = length l.bytes - l.done
