use Rattle.std.proofs.Common.{◌≡◌, List, ◌++◌, map, drop}
use Rattle.php_token.specs.declared.kind.Punct.TheVariants as mark
use Rattle.php_ast.specs.Symbol.{Symbol, punct}
use Rattle.php_ast.specs.statement.Spelling.{separated}
use Rattle.php_ast.specs.declaration.Spelling.{spell_param}
use Rattle.php_ast.specs.statement.View.{sequence}
use Rattle.php_ast.specs.declaration.View.{param_view}
use Rattle.php_print.proofs.Lists.{rest}
use Rattle.php_print_script.proofs.declaration.put_params.Given as goal

abbrev pub invariant-loop-param : goal.invariant-loop-param
invariant-loop-param l =
    (w : List Symbol) → l.printer ++ rest (punct mark.Comma) spell_param l.is_later (map param_view (drop l.param-index l.params)) w ≡ l.fn.printer ++ separated (punct mark.Comma) spell_param (sequence param_view l.params) w
