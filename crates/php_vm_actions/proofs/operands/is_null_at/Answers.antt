use Rattle.std.proofs.Common.{◌∙◌}
use Rattle.php_vm_actions.proofs.OperandLemmas.{operand_meant, sees_null}
use Rattle.php_vm_actions.proofs.operands.is_null_at.Goals as goal

pub peek-look-requires : goal.peek-look-requires
peek-look-requires g c = operand_meant (g.M.Memory.means c.args.memory.now) c.args.block.0 c.args.depth c.temporary-place.result c.temporary-place.ensures c.requires

pub returns : goal.returns
returns g c m h x e = c.is_null_peek.ensures ∙ sees_null m c.args.block.0 c.args.depth c.temporary-place.result c.temporary-place.ensures c.peek-look.result (c.peek-look.ensures m h) x e
