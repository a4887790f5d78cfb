use Rattle.std.proofs.Common.{◌≡◌, List, ◌++◌, map, drop}
use Rattle.php_token.specs.declared.kind.Punct.TheVariants as mark
use Rattle.php_ast.specs.Symbol.{Symbol, punct}
use Rattle.php_ast.specs.statement.Spelling.{separated}
use Rattle.php_ast.specs.statement.Spelling.{spell_variable}
use Rattle.php_ast.specs.statement.View.{sequence}
use Rattle.php_ast.specs.statement.View.{variable_view}
use Rattle.php_print.proofs.Lists.{rest}
use Rattle.php_print_script.proofs.simple.put_variables.Given as goal

abbrev pub invariant-loop-item : goal.invariant-loop-item
invariant-loop-item l =
    (w : List Symbol) → l.printer ++ rest (punct mark.Comma) spell_variable l.is_later (map variable_view (drop l.item-index l.items)) w ≡ l.fn.printer ++ separated (punct mark.Comma) spell_variable (sequence variable_view l.items) w
