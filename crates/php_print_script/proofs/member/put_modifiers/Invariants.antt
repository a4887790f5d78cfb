use Rattle.std.proofs.Common.{◌≡◌, List, ◌++◌, map, drop}
use Rattle.php_ast.specs.Symbol.{Symbol}
use Rattle.php_ast.specs.declaration.Spelling.{joined, spell_modifier}
use Rattle.php_ast.specs.declaration.View.{modifier_view}
use Rattle.php_ast.specs.statement.View.{sequence}
use Rattle.php_print.proofs.Lists.{all}
use Rattle.php_print_script.proofs.member.put_modifiers.Given as goal

abbrev pub invariant-loop-modifier : goal.invariant-loop-modifier
invariant-loop-modifier l =
    (w : List Symbol) → l.printer ++ all spell_modifier (map modifier_view (drop l.modifier-index l.modifiers)) w ≡ l.fn.printer ++ joined spell_modifier (sequence modifier_view l.modifiers) w
