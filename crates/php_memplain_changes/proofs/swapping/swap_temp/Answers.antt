use Rattle.std.proofs.Common.{length, ap, arith}
use Rattle.php_memplain_changes.proofs.SwapLemmas.{depth_within}
use Rattle.php_memplain_changes.proofs.swapping.swap_temp.Goals as goal

pub swap_nth-requires-clause-within : goal.swap_nth-requires-clause-within
swap_nth-requires-clause-within c = omega (arith, depth_within c.args.block.now.temps.items c.args.depth c.requires, ap length c.as_mut_slice.ensures.value)
