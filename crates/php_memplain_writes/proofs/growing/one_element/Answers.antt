use Rattle.php_memplain_writes.proofs.GrowLemmas.{never_refused}
use Rattle.php_memplain_writes.proofs.growing.one_element.Goals as goal

pub unreachable-requires : goal.unreachable-requires
unreachable-requires c = never_refused _ c.args.step.now c.args.store c.new-entries.result c.new-entries.ensures c.in-Refused.ensures.grew.0
