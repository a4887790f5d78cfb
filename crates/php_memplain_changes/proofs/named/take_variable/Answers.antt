use Rattle.std.proofs.Common.{ap}
use Rattle.std.specs.Prelude.{is_some}
use Rattle.php_memplain_cells.proofs.MemoryLemmas.{block_there}
use Rattle.php_memplain_changes.proofs.NameLemmas.{variable_taken}
use Rattle.php_memplain_changes.proofs.named.take_variable.Goals as goal

pub returns : goal.returns
returns c =
    variable_taken c.args.cells.now c.args.block c.args.name c.index_mut.result.now c.index_mut.ensures.value
    (ap is_some (block_there c.args.cells.now c.args.block c.index_mut.result.now c.index_mut.ensures.value))
    c.take_from_block.new.block c.take_from_block.ensures.seen c.take_from_block.ensures.waiting c.take_from_block.result c.take_from_block.ensures.store c.requires.counted
