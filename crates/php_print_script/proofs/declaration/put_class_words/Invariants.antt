use Rattle.std.proofs.Common.{◌≡◌, List, ◌++◌, map, drop}
use Rattle.php_ast.specs.Symbol.{Symbol}
use Rattle.php_ast.specs.declaration.Spelling.{joined, spell_class_word}
use Rattle.php_ast.specs.declaration.View.{class_word_view}
use Rattle.php_ast.specs.statement.View.{sequence}
use Rattle.php_print.proofs.Lists.{all}
use Rattle.php_print_script.proofs.declaration.put_class_words.Given as goal

abbrev pub invariant-loop-modifier : goal.invariant-loop-modifier
invariant-loop-modifier l =
    (w : List Symbol) → l.printer ++ all spell_class_word (map class_word_view (drop l.modifier-index l.modifiers)) w ≡ l.fn.printer ++ joined spell_class_word (sequence class_word_view l.modifiers) w
