use Rattle.std.proofs.Common.{◌∙◌}
use Rattle.php_vm_actions.proofs.OperandLemmas.{operand_meant, sees_truth}
use Rattle.php_vm_actions.proofs.operands.truth_at.Goals as goal

pub peek-look-requires : goal.peek-look-requires
peek-look-requires g c = operand_meant (g.M.Memory.means c.args.memory.now) c.args.block.0 c.args.depth c.temporary-place.result c.temporary-place.ensures c.requires

pub returns : goal.returns
returns g c m h x e = c.truth_of_peek.ensures ∙ sees_truth m c.args.block.0 c.args.depth c.temporary-place.result c.temporary-place.ensures c.peek-look.result (c.peek-look.ensures m h) x e
