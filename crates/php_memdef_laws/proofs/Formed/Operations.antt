-- Each operation leaves each part of a memory as it should be, where it may be made.
use Rattle.php_memdef.specs.Contents.{Mem}
use Rattle.php_memdef.specs.Sound.{IsFormed}
use Rattle.php_memdef.specs.Operations.{Operation, Can, effect}
use Rattle.php_memdef.specs.Operations as op
use Rattle.php_memdef_laws.proofs.Formed.Parts.{turn-formed, reserve-formed, enter-formed, leave-formed, push-formed, push_array-formed, push_object-formed, pass-formed, drop_top-formed}
use Rattle.php_memdef_laws.proofs.Formed.Copies.{copy-formed, settle-formed}
use Rattle.php_memdef_laws.proofs.Formed.Writes.{assign-formed, append-formed, make_link-formed, bind-formed, unset-formed, unset_last-formed, forget-formed, shed-formed}
use Rattle.php_memdef_laws.proofs.Formed.Releases.{fall-formed, make_object-formed, clone_object-formed, finish-formed, spare-formed, attach-formed}

pub effect-formed : (o : Operation) (m : Mem) → IsFormed m → Can o m → IsFormed (effect o m)
effect-formed (op.enter b room) m formed can = enter-formed m formed b room
effect-formed (op.leave b) m formed can = leave-formed m formed b can
effect-formed (op.push b v) m formed can = push-formed m formed b v can
effect-formed (op.push_array b) m formed can = push_array-formed m formed b can
effect-formed (op.push_object b h) m formed can = push_object-formed m formed b h can
effect-formed (op.copy b from) m formed can = copy-formed m formed b from can
effect-formed (op.assign b to) m formed can = assign-formed m formed b to can
effect-formed (op.link b from) m formed can = make_link-formed m formed b from can
effect-formed (op.bind b to) m formed can = bind-formed m formed b to can
effect-formed (op.settle b) m formed can = settle-formed m formed b
effect-formed (op.pass b c) m formed can = pass-formed m formed b c can
effect-formed (op.turn b n) m formed can = turn-formed m formed b n
effect-formed (op.reserve b n) m formed can = reserve-formed m formed b n
effect-formed (op.append b to) m formed can = append-formed m formed b to can
effect-formed (op.unset b at) m formed can = unset-formed m formed b at can.place
effect-formed (op.unset_last b at) m formed can = unset_last-formed m formed b at
effect-formed (op.forget b n) m formed can = forget-formed m formed b n
effect-formed (op.shed b) m formed can = shed-formed m formed b
effect-formed (op.drop_top b) m formed can = drop_top-formed m formed b
effect-formed (op.fall b) m formed can = fall-formed m formed b
effect-formed (op.make_object b class finishing) m formed can = make_object-formed m formed b class finishing can
effect-formed (op.clone_object b) m formed can = clone_object-formed m formed b can
effect-formed (op.finish h) m formed can = finish-formed m formed h can
effect-formed (op.spare h) m formed can = spare-formed m formed h can
effect-formed (op.attach h f) m formed can = attach-formed m formed h f can
