use Rattle.std.proofs.Common.{◌-◌, rules}
use Rattle.php_frames.proofs.StackLemmas.{reverse-set_last}
use Rattle.php_frames.proofs.frames.Frames.set_top.Goals as goal

pub returns : goal.returns
returns c = reverse-set_last c.self.inside.frames.items c.args.self.now (c.len-newest.result - 1) c.args.frame (search rules) c.requires (search rules)
