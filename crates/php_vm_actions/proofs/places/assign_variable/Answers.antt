use Rattle.std.proofs.Common.{sym, ap}
use Rattle.php_memdef.specs.declared.place.Place.{Place}
use Rattle.php_memdef.specs.Operations as op
use Rattle.php_memdef.specs.Operations.{run}
use Rattle.php_actions.specs.Data.{with_mem, on}
use Rattle.php_vm_actions.specs.Acting.{frame_of}
use Rattle.php_vm_actions.specs.Variables.{variable_written}
use Rattle.php_vm_actions.proofs.ActLemmas.{acts_as, answers_does}
use Rattle.php_vm_actions.proofs.VariableLemmas.{acts_after}
use Rattle.php_memdef.specs.Operations.{effect}
use Rattle.php_memdef.specs.Deciders.{can}
use Rattle.php_vm_actions.proofs.places.assign_variable.Goals as goal

pub returns-in-Ok : goal.returns-in-Ok
returns-in-Ok g c =
    let b = c.args.frame.now.block.0 in
    acts_as (λ d r h. ap (λ (p : Place). on (can (op.copy b p) d.mem) (effect (op.copy b p) d.mem) (λ m. variable_written c.args.name.0 (frame_of c.args.frame.now) (with_mem d m))) (sym c.temporary-top.ensures))
    (acts_after (g.M.Memory.means c.args.memory.now) (g.M.Memory.means c.copy.new.self) (g.M.Memory.means c.move_into.new.memory) b (op.copy b c.temporary-top.result) tt (variable_written c.args.name.0 (frame_of c.args.frame.now)) c.move_into.result
    (answers_does (g.M.Memory.means c.args.memory.now) (g.M.Memory.means c.copy.new.self) _ (run (op.copy b c.temporary-top.result)) c.in-Ok.ensures.ok) c.move_into.ensures)
