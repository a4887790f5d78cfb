use Rattle.std.proofs.Common.{◌≤◌, ◌<◌, ◌+◌, ◌-◌, ◌*◌, drop, length}
use Rattle.php_first_tree.specs.Expression.{product_view, sum_view}
use Rattle.php_first_tokens.specs.declared.token.Lexeme.TheVariants.{Star}
use Rattle.php_first_parse.specs.Spelling.{product, sum, SpellsAt}
use Rattle.php_first_parse.specs.Answers.{HeadIsNot}
use Rattle.php_first_parse.proofs.sums.+sums.Given as goal

abbrev pub decreases-group : goal.decreases-group
decreases-group l = 4 * l.depth

abbrev pub decreases-atom : goal.decreases-atom
decreases-atom l = 4 * l.depth + 1

abbrev pub decreases-product : goal.decreases-product
decreases-product l = 4 * l.depth + 2

abbrev pub decreases-sum : goal.decreases-sum
decreases-sum l = 4 * l.depth + 3

abbrev pub invariant-product-loop-alloc : goal.invariant-product-loop-alloc
invariant-product-loop-alloc l = record {
  spelled : SpellsAt product l.depth (product_view (record { first = l.first; rest = l.rest })) (drop l.fn.at l.tokens) (drop l.next l.tokens);
  ahead : l.fn.at < l.next;
  within : l.next ≤ length l.tokens;
}

abbrev pub decreases-product-loop-alloc : goal.decreases-product-loop-alloc
decreases-product-loop-alloc l = length l.tokens - l.next

abbrev pub invariant-sum-loop-sign : goal.invariant-sum-loop-sign
invariant-sum-loop-sign l = record {
  spelled : SpellsAt sum l.depth (sum_view (record { first = l.first; rest = l.rest })) (drop l.fn.at l.tokens) (drop l.next l.tokens);
  ends : HeadIsNot Star (drop l.next l.tokens);
  ahead : l.fn.at < l.next;
  within : l.next ≤ length l.tokens;
}

abbrev pub decreases-sum-loop-sign : goal.decreases-sum-loop-sign
decreases-sum-loop-sign l = length l.tokens - l.next
