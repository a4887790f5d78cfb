use Rattle.std.proofs.Common.{◌≤◌, arith}
use Rattle.php_array.proofs.SlotLemmas.{AreHoles-fewer}
use Rattle.php_array.proofs.repack.settle.Goals as goal

pub skip_holes-first-requires-clause-holes : goal.skip_holes-first-requires-clause-holes
skip_holes-first-requires-clause-holes g c =
    let within : c.min.result ≤ c.args.first = omega arith in
    AreHoles-fewer c.args.first c.min.result c.trim.new.slots.items within (c.trim.ensures.front c.args.first c.requires.holes)
