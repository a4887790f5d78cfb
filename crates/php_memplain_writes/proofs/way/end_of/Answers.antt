use Rattle.std.proofs.Common.{◌∙◌, arith}
use Rattle.php_memdef.specs.Places.{base_spot}
use Rattle.php_memplain_cells.specs.Memory.{memory_seen}
use Rattle.php_memplain_writes.proofs.FindLemmas.{few_steps, end_found}
use Rattle.php_memplain_writes.proofs.way.end_of.Goals as goal

pub begun-requires : goal.begun-requires
begun-requires c = omega (arith, c.requires, few_steps (memory_seen c.args.cells.now) c.args.place.now.path (base_spot (memory_seen c.args.cells.now) c.args.place.now.base))

pub returns : goal.returns
returns c = c.find.ensures ∙ end_found (memory_seen c.args.cells.now) c.args.place.now _ c.args.steps c.requires c.in_ok-begun.ensures
