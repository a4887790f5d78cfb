use Rattle.std.proofs.Common.{[], ◌∷◌, sym, subst}
use Rattle.php_memdef.specs.Operations.{Operation, effect}
use Rattle.php_memdef.specs.Operations as op
use Rattle.php_vm_actions.specs.Straight.{all, drops_of}
use Rattle.php_vm_actions.proofs.StraightLemmas.{can_append, all_append}
use Rattle.php_vm_actions.proofs.straight.replace.Goals as goal

pub drops-requires : goal.drops-requires
drops-requires g c =
    let r = c.requires in
    let m = effect (op.turn c.args.block.0 c.args.count) r.0 in
    (m, c.turn.ensures.effect r.0 r.1, (can_append (drops_of c.args.block.0 c.args.count) (op.push c.args.block.0 c.args.value ∷ []) m r.2.1).0)

pub push-requires : goal.push-requires
push-requires g c =
    let r = c.requires in
    let m = effect (op.turn c.args.block.0 c.args.count) r.0 in
    (all (drops_of c.args.block.0 c.args.count) m, c.drops.ensures m (c.turn.ensures.effect r.0 r.1), (can_append (drops_of c.args.block.0 c.args.count) (op.push c.args.block.0 c.args.value ∷ []) m r.2.1).1.0)

pub returns : goal.returns
returns g c m h =
    let n = effect (op.turn c.args.block.0 c.args.count) m in
    subst (g.M.Memory.means c.push.new.self) (sym (all_append (drops_of c.args.block.0 c.args.count) (op.push c.args.block.0 c.args.value ∷ []) n))
    (c.push.ensures.effect (all (drops_of c.args.block.0 c.args.count) n) (c.drops.ensures n (c.turn.ensures.effect m h)))
