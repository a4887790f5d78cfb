-- Each operation leads from a memory in which every named store is there to such a memory.
use Rattle.php_memdef.specs.Contents.{Mem}
use Rattle.php_memdef.specs.Sound.{IsClosed}
use Rattle.php_memdef.specs.Operations.{Operation, effect}
use Rattle.php_memdef.specs.Operations as op
use Rattle.php_memdef_laws.proofs.Closed.Temporaries.{turn-closed, reserve-closed, enter-closed, leave-closed, push-closed, push_array-closed, push_object-closed, pass-closed, drop_top-closed, copy-closed, settle-closed}
use Rattle.php_memdef_laws.proofs.Closed.Writes.{assign-closed, append-closed, make_link-closed, bind-closed, unset-closed, unset_last-closed, forget-closed, shed-closed, make_object-closed, clone_object-closed, finish-closed, spare-closed, attach-closed}
use Rattle.php_memdef_laws.proofs.Closed.Releases.{fall-closed}

pub effect-closed : (o : Operation) (m : Mem) → IsClosed m → IsClosed (effect o m)
effect-closed (op.enter b room) m closed = enter-closed m closed b room
effect-closed (op.leave b) m closed = leave-closed m closed b
effect-closed (op.push b v) m closed = push-closed m closed b v
effect-closed (op.push_array b) m closed = push_array-closed m closed b
effect-closed (op.push_object b h) m closed = push_object-closed m closed b h
effect-closed (op.copy b from) m closed = copy-closed m closed b from
effect-closed (op.assign b to) m closed = assign-closed m closed b to
effect-closed (op.link b from) m closed = make_link-closed m closed b from
effect-closed (op.bind b to) m closed = bind-closed m closed b to
effect-closed (op.settle b) m closed = settle-closed m closed b
effect-closed (op.pass b c) m closed = pass-closed m closed b c
effect-closed (op.turn b n) m closed = turn-closed m closed b n
effect-closed (op.reserve b n) m closed = reserve-closed m closed b n
effect-closed (op.append b to) m closed = append-closed m closed b to
effect-closed (op.unset b at) m closed = unset-closed m closed b at
effect-closed (op.unset_last b at) m closed = unset_last-closed m closed b at
effect-closed (op.forget b n) m closed = forget-closed m closed b n
effect-closed (op.shed b) m closed = shed-closed m closed b
effect-closed (op.drop_top b) m closed = drop_top-closed m closed b
effect-closed (op.fall b) m closed = fall-closed m closed b
effect-closed (op.make_object b class finishing) m closed = make_object-closed m closed b class finishing
effect-closed (op.clone_object b) m closed = clone_object-closed m closed b
effect-closed (op.finish h) m closed = finish-closed m closed h
effect-closed (op.spare h) m closed = spare-closed m closed h
effect-closed (op.attach h f) m closed = attach-closed m closed h f
