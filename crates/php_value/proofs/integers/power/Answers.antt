use Rattle.php_value.proofs.Powers.{powered}
use Rattle.php_value.proofs.integers.power.Goals as goal

pub returns : goal.returns
returns c = powered c.args.base c.args.exponent c.enough.result _ _ c.ranges.base c.ranges.exponent c.if-exponent-lt0.false c.enough.ensures c.checked_pow.ensures c.in_range.ensures
