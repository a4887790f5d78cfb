use Rattle.std.proofs.Common.{refl, ◌∙◌}
use Rattle.php_vm.specs.Running.{control_of}
use Rattle.php_vm.proofs.LoopLemmas.{begun, may_step, goes_on, counts, ends_so, fails_so, wants_so, bound, counted_on, is_less}
use Rattle.php_vm.proofs.vm.run_on.Goals as goal

pub steps-init : goal.steps-init
steps-init g c = record {
  under_way = begun c.args.program.now g.begun (control_of c.args.state.now.frame) (g.M.Memory.means c.args.memory.now) (g.K.Sink.written c.args.out.now) c.args.state.now _ refl c.new-count.ensures c.requires.1.1.1.1.1.1.0 c.requires.1.1.1.1.1.1.1.0;
  faults = refl;
}

pub step-requires : goal.step-requires
step-requires g c =
    may_step c.args.program.now g.begun (control_of c.args.state.now.frame) (g.M.Memory.means c.steps.memory) (g.K.Sink.written c.steps.out) (g.K.Sink.written c.args.out.now) c.steps.state c.steps.count c.requires.1.1.1.1.1.1.1.1 c.steps.invariant.under_way

pub steps-preserved : goal.steps-preserved
steps-preserved g c = record {
  under_way = counted_on c.args.program.now g.begun (control_of c.args.state.now.frame) (g.M.Memory.means c.step.new.memory) (g.K.Sink.written c.step.new.out) (g.K.Sink.written c.args.out.now) c.step.new.state c.steps.count _ c.tick.ensures
      (goes_on c.args.program.now g.begun (control_of c.args.state.now.frame) (g.M.Memory.means c.steps.memory) (g.M.Memory.means c.step.new.memory) (g.K.Sink.written c.steps.out) (g.K.Sink.written c.step.new.out) (g.K.Sink.written c.args.out.now) c.steps.state c.step.new.state c.steps.count c.requires.1.1.1.1.1.1.1.1 c.steps.invariant.under_way c.in-Goes.ensures.steps);
  faults = c.in-Goes.ensures.faults ∙ c.steps.invariant.faults;
}

pub steps-smaller : goal.steps-smaller
steps-smaller g c =
    is_less (bound c.args.program.now g.begun (control_of c.args.state.now.frame)) c.steps.count _ c.tick.ensures
    (counts c.args.program.now g.begun (control_of c.args.state.now.frame) (g.M.Memory.means c.steps.memory) (g.M.Memory.means c.step.new.memory) (g.K.Sink.written c.steps.out) (g.K.Sink.written c.step.new.out) (g.K.Sink.written c.args.out.now) c.steps.state c.step.new.state c.steps.count c.requires.1.1.1.1.1.1.1.1 c.steps.invariant.under_way)

pub returns-in-Ends-clause-ends : goal.returns-in-Ends-clause-ends
returns-in-Ends-clause-ends g c =
    ends_so c.args.program.now g.begun (control_of c.args.state.now.frame) (g.M.Memory.means c.steps.memory) (g.M.Memory.means c.step.new.memory) (g.K.Sink.written c.steps.out) (g.K.Sink.written c.step.new.out) (g.K.Sink.written c.args.out.now) c.steps.state c.step.new.state c.steps.count c.requires.1.1.1.1.1.1.1.1 c.steps.invariant.under_way c.in-Ends.cause c.in-Ends.ensures.steps

pub returns-in-SinkFault-clause-ends : goal.returns-in-SinkFault-clause-ends
returns-in-SinkFault-clause-ends g c =
    fails_so c.args.program.now g.begun (control_of c.args.state.now.frame) (g.M.Memory.means c.steps.memory) (g.M.Memory.means c.step.new.memory) (g.K.Sink.written c.steps.out) (g.K.Sink.written c.step.new.out) (g.K.Sink.written c.args.out.now) c.steps.state c.step.new.state c.steps.count c.requires.1.1.1.1.1.1.1.1 c.steps.invariant.under_way c.in-SinkFault.ensures.steps

pub returns-in-NoMemory-clause-ends : goal.returns-in-NoMemory-clause-ends
returns-in-NoMemory-clause-ends g c =
    wants_so c.args.program.now g.begun (control_of c.args.state.now.frame) (g.M.Memory.means c.steps.memory) (g.M.Memory.means c.step.new.memory) (g.K.Sink.written c.steps.out) (g.K.Sink.written c.step.new.out) (g.K.Sink.written c.args.out.now) c.steps.state c.step.new.state c.steps.count c.requires.1.1.1.1.1.1.1.1 c.steps.invariant.under_way c.in-NoMemory.ensures.steps
