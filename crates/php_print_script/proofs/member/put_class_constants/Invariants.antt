use Rattle.std.proofs.Common.{◌≡◌, List, ◌++◌, map, drop}
use Rattle.php_token.specs.declared.kind.Punct.TheVariants as mark
use Rattle.php_ast.specs.Symbol.{Symbol, punct}
use Rattle.php_ast.specs.statement.Spelling.{separated}
use Rattle.php_ast.specs.declaration.Spelling.{spell_class_constant}
use Rattle.php_ast.specs.statement.View.{sequence}
use Rattle.php_ast.specs.declaration.View.{class_constant_view}
use Rattle.php_print.proofs.Lists.{rest}
use Rattle.php_print_script.proofs.member.put_class_constants.Given as goal

abbrev pub invariant-loop-item : goal.invariant-loop-item
invariant-loop-item l =
    (w : List Symbol) → l.printer ++ rest (punct mark.Comma) spell_class_constant l.is_later (map class_constant_view (drop l.item-index l.items)) w ≡ l.fn.printer ++ separated (punct mark.Comma) spell_class_constant (sequence class_constant_view l.items) w
