use Rattle.std.proofs.Common.{sym, subst}
use Rattle.php_memdef.specs.declared.place.Place.{Place}
use Rattle.php_memdef.specs.Conditions.{IsPlace}
use Rattle.php_vm_actions.proofs.OperandLemmas.{operand_place}
use Rattle.php_vm_actions.proofs.comparisons.identical.Goals as goal

pub same-requires : goal.same-requires
same-requires g c =
    let m = c.requires.0 in
    let two = c.requires.2 in (
      m,
      c.requires.1,
      record {
        sound = g.met.M.Memory.meant_is_sound c.args.memory.now m c.requires.1;
        left = subst (λ (p : Place). IsPlace m p) (sym c.temporary-left.ensures) (operand_place m c.args.block.0 1 two.left.0 two.left.1);
        right = subst (λ (p : Place). IsPlace m p) (sym c.temporary-right.ensures) (operand_place m c.args.block.0 0 two.right.0 two.right.1);
      },
    )
