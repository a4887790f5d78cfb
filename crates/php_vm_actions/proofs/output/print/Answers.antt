use Rattle.php_vm_actions.specs.Acting.{frame_of}
use Rattle.php_vm_actions.specs.Writing.{text_printed}
use Rattle.php_vm_actions.proofs.WriteLemmas.{can_look_text, can_go_text, acts_text}
use Rattle.php_vm_actions.proofs.output.print.Goals as goal

pub text_at-requires : goal.text_at-requires
text_at-requires g c = can_look_text (g.M.Memory.means c.args.memory.now) (g.M.Memory.means c.args.memory.now) (frame_of c.args.frame.now) (λ t. text_printed t (frame_of c.args.frame.now)) c.requires

pub print_text-requires : goal.print_text-requires
print_text-requires g c = can_go_text (g.M.Memory.means c.args.memory.now) (g.M.Memory.means c.args.memory.now) (frame_of c.args.frame.now) (λ t. text_printed t (frame_of c.args.frame.now)) c.in-Ok.text c.in-Ok.ensures c.requires

pub returns-in-Ok-clause-done : goal.returns-in-Ok-clause-done
returns-in-Ok-clause-done g c =
    acts_text (g.M.Memory.means c.args.memory.now) (g.M.Memory.means c.print_text.new.memory) (frame_of c.args.frame.now) (λ t. text_printed t (frame_of c.args.frame.now)) c.in-Ok.text c.in-Ok.ensures (g.K.Sink.written c.args.out.now) (g.K.Sink.written c.print_text.new.out) c.print_text.result c.print_text.ensures.done
