use Rattle.std.proofs.Common.{Bool, [], ◌∷◌, refl, subst}
use Rattle.php_memdef.specs.Operations as op
use Rattle.php_vm_actions.specs.Acting.{frame_of}
use Rattle.php_vm_actions.specs.Writing.{PutAll, text_echoed}
use Rattle.php_vm_actions.proofs.WriteLemmas.{writes_row, fails_row}
use Rattle.php_vm_actions.proofs.output.echo_text.Goals as goal

pub returns-then-put-clause-done : goal.returns-then-put-clause-done
returns-then-put-clause-done g c =
    writes_row (g.M.Memory.means c.args.memory.now) (g.M.Memory.means c.drop_top.new.self) (g.K.Sink.written c.args.out.now) (g.K.Sink.written c.put.new.out) c.args.frame.now.block.0 c.args.text.now (text_echoed c.args.text.now (frame_of c.args.frame.now)) (op.drop_top c.args.frame.now.block.0 ∷ []) (tt, tt) (λ d. refl)
    (subst (λ (t : Bool). PutAll t (g.K.Sink.written c.args.out.now) (g.K.Sink.written c.put.new.out) c.args.text.now) c.if-put.true c.put.ensures.written) c.drop_top.ensures.effect

pub returns-clause-done : goal.returns-clause-done
returns-clause-done g c =
    fails_row (g.M.Memory.means c.args.memory.now) (g.M.Memory.means c.args.memory.now) (g.K.Sink.written c.args.out.now) (g.K.Sink.written c.put.new.out) c.args.frame.now.block.0 c.args.text.now (text_echoed c.args.text.now (frame_of c.args.frame.now)) (op.drop_top c.args.frame.now.block.0 ∷ []) (tt, tt) (λ d. refl)
    (subst (λ (t : Bool). PutAll t (g.K.Sink.written c.args.out.now) (g.K.Sink.written c.put.new.out) c.args.text.now) c.if-put.false c.put.ensures.written)
