use Rattle.std.proofs.Common.{◌≡◌, List, ◌++◌, map, drop}
use Rattle.php_ast.specs.Symbol.{Symbol}
use Rattle.php_ast.specs.declaration.Spelling.{joined, spell_member}
use Rattle.php_ast.specs.declaration.View.{member_view}
use Rattle.php_ast.specs.statement.View.{sequence}
use Rattle.php_print.proofs.Lists.{all}
use Rattle.php_print_script.proofs.member.put_members_alone.Given as goal

abbrev pub invariant-loop-member : goal.invariant-loop-member
invariant-loop-member l =
    (w : List Symbol) → l.printer ++ all spell_member (map member_view (drop l.member-index l.members)) w ≡ l.fn.printer ++ joined spell_member (sequence member_view l.members) w
