use Rattle.std.proofs.Common.{rules}
use Rattle.php_base.proofs.Growth.{grew-further}
use Rattle.php_base.proofs.sink.put_all.Goals as goal

pub loop-done-preserved : goal.loop-done-preserved
loop-done-preserved g c = record {
  within = search rules;
  grew = grew-further _ _ _ _ _ _ c.loop-done.invariant.grew c.in_ok-done.ensures.ok;
  no_fault = search rules;
}
