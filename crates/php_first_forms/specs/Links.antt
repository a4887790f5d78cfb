-- The operands of a run, the parts of an `echo` and the items of a script, each behind what was left out so far.
use Rattle.std.specs.Prelude.{Option, Some, cond}
use Rattle.php_ast.specs.declared.expression.Link.{Link}
use Rattle.php_ast.specs.declared.expression.Link.TheVariants as link
use Rattle.php_ast.specs.expression.Tree.{Tree}
use Rattle.php_ast.specs.expression.View.{Note}
use Rattle.php_ast.specs.declaration.Tree.{Item}
use Rattle.php_first_forms.specs.Forms.{is_of_sums, or_else, left_in_sum, left_in_part, left_in_item}

-- one operand more of a run that begins with this token
abbrev pub with_operand : Note → Link (Tree Note) → Option Note → Option Note
with_operand at (link.Operator op r) met = cond (is_of_sums op) (or_else met (left_in_sum r)) (Some at)
with_operand at (link.Choice a b) met = Some at
with_operand at (link.ShortChoice b) met = Some at

abbrev pub with_part : Tree Note → Option Note → Option Note
with_part e met = or_else met (left_in_part e)

abbrev pub with_item : Item Note → Option Note → Option Note
with_item item met = or_else met (left_in_item item)
