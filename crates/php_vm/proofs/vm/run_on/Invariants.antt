use Rattle.std.proofs.Common.{◌≡◌, ◌-◌}
use Rattle.php_vm.specs.Running.{control_of}
use Rattle.php_vm.proofs.LoopLemmas.{IsUnderWay, bound}
use Rattle.php_vm.proofs.vm.run_on.Given as goal

-- the machine stands where the run leads, and no fault of the sink was counted
abbrev pub invariant-steps : goal.invariant-steps
invariant-steps g l = record {
  under_way : IsUnderWay l.program g.begun (control_of l.fn.state.frame) (g.M.Memory.means l.memory) (g.K.Sink.written l.out) (g.K.Sink.written l.initial.out) l.state l.count;
  faults : g.K.Sink.faults l.out ≡ g.K.Sink.faults l.initial.out;
}

abbrev pub decreases-steps : goal.decreases-steps
decreases-steps g l = bound l.program g.begun (control_of l.fn.state.frame) - l.count
