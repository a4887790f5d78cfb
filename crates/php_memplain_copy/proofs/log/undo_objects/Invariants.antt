use Rattle.std.proofs.Common.{◌≡◌, length, List}
use Rattle.std.specs.Prelude.{Option, Box}
use Rattle.std.specs.declared.alloc.Global.{Global}
use Rattle.php_memplain_cells.specs.declared.objects.Object.{Object}
use Rattle.php_memplain_copy.specs.More.{ObjectsGrown}
use Rattle.php_memplain_copy.proofs.log.undo_objects.Given as goal

abbrev pub invariant-loop-number : goal.invariant-loop-number
invariant-loop-number l = (before : List (Option (Box Object Global))) → ObjectsGrown before l.fn.objects.items l.fn.raised.items → ObjectsGrown before l.objects.items l.raised.items

abbrev pub decreases-loop-number : goal.decreases-loop-number
decreases-loop-number l = length l.raised.items
