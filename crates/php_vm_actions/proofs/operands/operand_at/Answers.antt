use Rattle.std.proofs.Common.{◌≡◌, sym, subst}
use Rattle.std.proofs.lemmas.Result.{IfOk-weaker}
use Rattle.php_vm_actions.specs.declared.operands.Operand.{Operand}
use Rattle.php_vm_actions.specs.Looks.{operand_seen}
use Rattle.php_vm_actions.specs.Operands.{Sees}
use Rattle.php_vm_actions.proofs.OperandLemmas.{operand_meant, sees}
use Rattle.php_vm_actions.proofs.operands.operand_at.Goals as goal

pub peek-look-requires : goal.peek-look-requires
peek-look-requires g c = operand_meant (g.M.Memory.means c.args.memory.now) c.args.block.0 c.args.depth c.temporary-place.result c.temporary-place.ensures c.requires

pub returns : goal.returns
returns g c m h x e =
    IfOk-weaker c.operand_of.result (λ o. o ≡ operand_seen c.peek-look.result) (λ o. Sees o x)
    (λ o q. subst (λ (o : Operand). Sees o x) (sym q) (sees m c.args.block.0 c.args.depth c.temporary-place.result c.temporary-place.ensures c.peek-look.result (c.peek-look.ensures m h) x e)) c.operand_of.ensures
