use Rattle.std.proofs.Common.{◌≡◌, ◌++◌}
use Rattle.php_meaning.specs.Heights.{peak_of_script}
use Rattle.php_compile.specs.StatementCode.{items_code}
use Rattle.php_compile.proofs.CodeLoops.{items_to}
use Rattle.php_compile.proofs.emitter.Emitter.put_items.Given as goal

abbrev pub invariant-loop-item : goal.invariant-loop-item
invariant-loop-item l =
    (l.self.code ≡ l.fn.self.code ++ items_code l.names.keys (items_to l.item-index l.items))
    × (l.self.peak ≡ peak_of_script l.names.keys l.fn.self.peak (items_to l.item-index l.items))
