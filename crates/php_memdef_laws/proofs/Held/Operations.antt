-- What is there has a holder after each operation too, where it may be made.
use Rattle.php_memdef.specs.Contents.{Mem}
use Rattle.php_memdef.specs.Sound.{IsClosed, IsFormed, IsHeld, IsSound}
use Rattle.php_memdef.specs.Operations.{Operation, Can, effect}
use Rattle.php_memdef.specs.Operations as op
use Rattle.php_memdef_laws.specs.Needs.{Needs}
use Rattle.php_memdef_laws.proofs.Closed.Operations.{effect-closed}
use Rattle.php_memdef_laws.proofs.Formed.Operations.{effect-formed}
use Rattle.php_memdef_laws.proofs.Held.Temporaries.{turn-held, reserve-held, enter-held, push-held, push_array-held, push_object-held, pass-held, drop_top-held}
use Rattle.php_memdef_laws.proofs.Held.Copies.{leave-held, copy-held, settle-held, make_object-held, clone_object-held}
use Rattle.php_memdef_laws.proofs.Held.Writes.{assign-held, append-held, make_link-held}
use Rattle.php_memdef_laws.proofs.Held.Binds.{bind-held}
use Rattle.php_memdef_laws.proofs.Held.Removals.{unset-held, unset_last-held, forget-held, shed-held}
use Rattle.php_memdef_laws.proofs.Held.Releases.{fall-held, finish-held, spare-held, attach-held}

pub effect-held : (o : Operation) (m : Mem) → IsHeld m → Needs o m → Can o m → IsHeld (effect o m)
effect-held (op.enter b room) m held needs can = enter-held m held b room can
effect-held (op.leave b) m held needs can = leave-held m held b can
effect-held (op.push b v) m held needs can = push-held m held b v
effect-held (op.push_array b) m held needs can = push_array-held m held b
effect-held (op.push_object b h) m held needs can = push_object-held m held b h can.object
effect-held (op.copy b from) m held needs can = copy-held m held b from
effect-held (op.assign b to) m held needs can = assign-held m needs held b to can
effect-held (op.link b from) m held needs can = make_link-held m needs held b from can
effect-held (op.bind b to) m held needs can = bind-held m needs held b to can
effect-held (op.settle b) m held needs can = settle-held m held b
effect-held (op.pass b c) m held needs can = pass-held m held b c
effect-held (op.turn b n) m held needs can = turn-held m held b n
effect-held (op.reserve b n) m held needs can = reserve-held m held b n
effect-held (op.append b to) m held needs can = append-held m needs held b to can
effect-held (op.unset b at) m held needs can = unset-held m needs held b at can.place
effect-held (op.unset_last b at) m held needs can = unset_last-held m needs held b at
effect-held (op.forget b n) m held needs can = forget-held m needs held b n
effect-held (op.shed b) m held needs can = shed-held m needs held b
effect-held (op.drop_top b) m held needs can = drop_top-held m held b
effect-held (op.fall b) m held needs can = fall-held m held b
effect-held (op.make_object b class finishing) m held needs can = make_object-held m held needs b class finishing
effect-held (op.clone_object b) m held needs can = clone_object-held m held needs b can
effect-held (op.finish h) m held needs can = finish-held m held h can
effect-held (op.spare h) m held needs can = spare-held m held h can
effect-held (op.attach h f) m held needs can = attach-held m held h f can.object

needed : (o : Operation) (m : Mem) → IsClosed m → IsFormed m → Needs o m
needed (op.enter b room) m closed formed = tt
needed (op.leave b) m closed formed = tt
needed (op.push b v) m closed formed = tt
needed (op.push_array b) m closed formed = tt
needed (op.push_object b h) m closed formed = tt
needed (op.copy b from) m closed formed = tt
needed (op.assign b to) m closed formed = closed
needed (op.link b from) m closed formed = closed
needed (op.bind b to) m closed formed = closed
needed (op.settle b) m closed formed = tt
needed (op.pass b c) m closed formed = tt
needed (op.turn b n) m closed formed = tt
needed (op.reserve b n) m closed formed = tt
needed (op.append b to) m closed formed = closed
needed (op.unset b at) m closed formed = closed
needed (op.unset_last b at) m closed formed = closed
needed (op.forget b n) m closed formed = closed
needed (op.shed b) m closed formed = closed
needed (op.drop_top b) m closed formed = tt
needed (op.fall b) m closed formed = tt
needed (op.make_object b class finishing) m closed formed = formed
needed (op.clone_object b) m closed formed = formed
needed (op.finish h) m closed formed = tt
needed (op.spare h) m closed formed = tt
needed (op.attach h f) m closed formed = tt

pub effect-sound : (o : Operation) (m : Mem) → IsSound m → Can o m → IsSound (effect o m)
effect-sound o m sound can = record {
  closed = effect-closed o m sound.closed;
  held = effect-held o m sound.held (needed o m sound.closed sound.formed) can;
  formed = effect-formed o m sound.formed can;
}
