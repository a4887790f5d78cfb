use Rattle.std.proofs.Common.{◌≡◌, List, ◌++◌, map, drop}
use Rattle.php_ast.specs.Symbol.{Symbol, punct}
use Rattle.php_ast.specs.statement.Spelling.{separated}
use Rattle.php_ast.specs.statement.Spelling.{spell_name}
use Rattle.php_ast.specs.statement.View.{sequence}
use Rattle.php_ast.specs.statement.View.{name_view}
use Rattle.php_print.proofs.Lists.{rest}
use Rattle.php_print_script.proofs.simple.put_names.Given as goal

abbrev pub invariant-loop-name : goal.invariant-loop-name
invariant-loop-name l =
    (w : List Symbol) → l.printer ++ rest (punct l.between) spell_name l.is_later (map name_view (drop l.name-index l.names)) w ≡ l.fn.printer ++ separated (punct l.between) spell_name (sequence name_view l.names) w
