use Rattle.std.proofs.Common.{arith}
use Rattle.php_memplain_writes.proofs.FinishLemmas.{no_step}
use Rattle.php_memplain_writes.proofs.binding.bind_place.Goals as goal

pub bind_element-requires-clause-some : goal.bind_element-requires-clause-some
bind_element-requires-clause-some c = omega (arith, c.len.ensures, c.if-len-gt0.true)

pub bind_base-requires-clause-none : goal.bind_base-requires-clause-none
bind_base-requires-clause-none c = no_step c.args.place.now.path (omega (arith, c.len.ensures, c.if-len-gt0.false))
