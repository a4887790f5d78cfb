use Rattle.std.proofs.Common.{◌≡◌, ◌≤◌, ◌-◌, ℕ, List, [], ◌∷◌, ◌++◌, Some, drop, length, map}
use Rattle.php_first_tree.specs.Expression.{Part, Statement, part_view}
use Rattle.php_first_tokens.specs.declared.token.Token.{Token}
use Rattle.php_first_parse.specs.Spelling.{SpellsParts}
use Rattle.php_first_parse.specs.Machine.{wants_part, run}
use Rattle.php_first_parse.proofs.statements.echo.Given as goal

abbrev pub invariant-loop-parts : goal.invariant-loop-parts
invariant-loop-parts l = record {
  spelled : (p : Part) (ps : List Part) (rest : List Token) → SpellsParts (p ∷ ps) (drop l.next l.tokens) rest → SpellsParts (map part_view l.parts ++ p ∷ ps) (drop l.fn.at l.tokens) rest;
  leads : (done : List Statement) (line : ℕ) → run (Some (wants_part done line [])) (drop l.fn.at l.tokens) ≡ run (Some (wants_part done line (map part_view l.parts))) (drop l.next l.tokens);
  ahead : l.fn.at ≤ l.next;
  within : l.next ≤ length l.tokens;
}

abbrev pub decreases-loop-parts : goal.decreases-loop-parts
decreases-loop-parts l = length l.tokens - l.next
