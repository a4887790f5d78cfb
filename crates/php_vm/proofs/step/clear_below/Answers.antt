use Rattle.std.proofs.Common.{sym, subst}
use Rattle.php_memdef.specs.Meanings.{SomeMeant, Does}
use Rattle.php_vm_actions.specs.Straight.{CanAll, all}
use Rattle.php_vm.specs.Stepping.{fallen_of}
use Rattle.php_vm.proofs.step.clear_below.Goals as goal

pub trim-requires-clause-can : goal.trim-requires-clause-can
trim-requires-clause-can g c = subst (λ o. SomeMeant (g.M.Memory.means c.args.memory.now) (CanAll (fallen_of o c.args.frame.now.block.0 c.args.below))) c.in-None.is c.requires.can

pub returns-in-None : goal.returns-in-None
returns-in-None g c = subst (λ o. Does (g.M.Memory.means c.args.memory.now) (g.M.Memory.means c.trim.new.memory) (all (fallen_of o c.args.frame.now.block.0 c.args.below))) (sym c.in-None.is) c.trim.ensures

pub sink-requires-clause-can : goal.sink-requires-clause-can
sink-requires-clause-can g c = subst (λ o. SomeMeant (g.M.Memory.means c.args.memory.now) (CanAll (fallen_of o c.args.frame.now.block.0 c.args.below))) c.in-Some.is c.requires.can

pub returns-in-Some : goal.returns-in-Some
returns-in-Some g c = subst (λ o. Does (g.M.Memory.means c.args.memory.now) (g.M.Memory.means c.sink.new.memory) (all (fallen_of o c.args.frame.now.block.0 c.args.below))) (sym c.in-Some.is) c.sink.ensures
