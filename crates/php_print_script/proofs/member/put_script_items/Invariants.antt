use Rattle.std.proofs.Common.{◌≡◌, List, ◌++◌, map, drop}
use Rattle.php_ast.specs.Symbol.{Symbol}
use Rattle.php_ast.specs.declaration.Spelling.{joined, spell_item}
use Rattle.php_ast.specs.declaration.View.{item_view}
use Rattle.php_ast.specs.statement.View.{sequence}
use Rattle.php_print.proofs.Lists.{all}
use Rattle.php_print_script.proofs.member.put_script_items.Given as goal

abbrev pub invariant-loop-item : goal.invariant-loop-item
invariant-loop-item l =
    (w : List Symbol) → l.printer ++ all spell_item (map item_view (drop l.item-index l.items)) w ≡ l.fn.printer ++ joined spell_item (sequence item_view l.items) w
