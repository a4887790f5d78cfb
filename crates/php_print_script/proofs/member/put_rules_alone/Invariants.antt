use Rattle.std.proofs.Common.{◌≡◌, List, ◌++◌, map, drop}
use Rattle.php_ast.specs.Symbol.{Symbol}
use Rattle.php_ast.specs.declaration.Spelling.{joined, spell_rule}
use Rattle.php_ast.specs.declaration.View.{rule_view}
use Rattle.php_ast.specs.statement.View.{sequence}
use Rattle.php_print.proofs.Lists.{all}
use Rattle.php_print_script.proofs.member.put_rules_alone.Given as goal

abbrev pub invariant-loop-rule : goal.invariant-loop-rule
invariant-loop-rule l =
    (w : List Symbol) → l.printer ++ all spell_rule (map rule_view (drop l.rule-index l.rules)) w ≡ l.fn.printer ++ joined spell_rule (sequence rule_view l.rules) w
