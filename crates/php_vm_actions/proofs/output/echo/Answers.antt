use Rattle.php_vm_actions.specs.Acting.{frame_of}
use Rattle.php_vm_actions.specs.Writing.{text_echoed}
use Rattle.php_vm_actions.proofs.WriteLemmas.{can_look_text, can_go_text, acts_text}
use Rattle.php_vm_actions.proofs.output.echo.Goals as goal

pub text_at-requires : goal.text_at-requires
text_at-requires g c = can_look_text (g.M.Memory.means c.args.memory.now) (g.M.Memory.means c.args.memory.now) (frame_of c.args.frame.now) (λ t. text_echoed t (frame_of c.args.frame.now)) c.requires

pub echo_text-requires : goal.echo_text-requires
echo_text-requires g c = can_go_text (g.M.Memory.means c.args.memory.now) (g.M.Memory.means c.args.memory.now) (frame_of c.args.frame.now) (λ t. text_echoed t (frame_of c.args.frame.now)) c.in-Ok.text c.in-Ok.ensures c.requires

pub returns-in-Ok-clause-done : goal.returns-in-Ok-clause-done
returns-in-Ok-clause-done g c =
    acts_text (g.M.Memory.means c.args.memory.now) (g.M.Memory.means c.echo_text.new.memory) (frame_of c.args.frame.now) (λ t. text_echoed t (frame_of c.args.frame.now)) c.in-Ok.text c.in-Ok.ensures (g.K.Sink.written c.args.out.now) (g.K.Sink.written c.echo_text.new.out) c.echo_text.result c.echo_text.ensures.done
