use Rattle.std.proofs.Common.{◌≡◌, ◌≤◌, length}
use Rattle.php_memdef.specs.Contents.{object_of}
use Rattle.php_memplain_cells.specs.Memory.{memory_seen}
use Rattle.php_memplain_objects.specs.Cloning.{first_of, AreCopied}
use Rattle.php_memplain_objects.proofs.properties.copy_properties.Given as goal

abbrev pub invariant-loop-turn : goal.invariant-loop-turn
invariant-loop-turn l =
    AreCopied l.fn.cells (first_of (length l.done.items) (object_of (memory_seen l.fn.cells) l.number).properties) l.levels l.done.items l.cells.stores l.cells.objects.items l.log
    × ((l.cells.blocks ≡ l.fn.cells.blocks) × ((l.cells.statics ≡ l.fn.cells.statics) × (l.fn.cells.ledger.made ≤ l.cells.ledger.made)))
