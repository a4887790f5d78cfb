-- Constant expressions: literals, arrays, constants, constants of a named class, and operators over them.
use Rattle.std.specs.Prelude.{Bool, true, false, ◌&&◌}
use Rattle.php_ast.specs.declared.operator.ArrayForm.TheVariants as form
use Rattle.php_ast.specs.declared.operator.Prefix.{Prefix}
use Rattle.php_ast.specs.declared.operator.Prefix.TheVariants as prefix_form
use Rattle.php_ast.specs.expression.Tree.{Tree, leaf, template, enclosed, listed, exit, exit_empty, static_member, append, index, selected, computed, call, new, new_with, prefix, count, binary, instance_of, instance_of_static, choice, short_choice, assign, yield_nothing, yield_value, yield_pair}
use Rattle.php_ast.specs.expression.Tree.{Items, none, and, skip, Lead, plain, reference, spread, keyed, keyed_reference, Leaf, Member}
use Rattle.php_ast.specs.expression.Tree as tree

-- a literal, a constant or `__LINE__` and its kin, and no variable
abbrev pub is_constant_leaf : Leaf → Bool
is_constant_leaf (tree.variable text) = false
is_constant_leaf (tree.int n) = true
is_constant_leaf (tree.string text) = true
is_constant_leaf (tree.name text) = true
is_constant_leaf (tree.magic constant) = true

abbrev pub is_name : {S : Type 0} → Tree S → Bool
is_name (leaf at (tree.name text)) = true
is_name _ = false

-- a name, spelled as a keyword or not, and no variable
abbrev pub is_word : {S : Type 0} → Member S → Bool
is_word (tree.named at text) = true
is_word (tree.reserved at word) = true
is_word (tree.held at text) = false

-- those that make a value of a value, and neither change, copy, write nor hand out anything
abbrev pub is_constant_prefix : Prefix → Bool
is_constant_prefix prefix_form.Clone = false
is_constant_prefix prefix_form.Increment = false
is_constant_prefix prefix_form.Decrement = false
is_constant_prefix prefix_form.BitNot = true
is_constant_prefix prefix_form.Silence = true
is_constant_prefix prefix_form.ToInt = true
is_constant_prefix prefix_form.ToBool = true
is_constant_prefix prefix_form.ToText = true
is_constant_prefix prefix_form.ToArray = true
is_constant_prefix prefix_form.Plus = true
is_constant_prefix prefix_form.Minus = true
is_constant_prefix prefix_form.Not = true
is_constant_prefix prefix_form.Print = false
is_constant_prefix prefix_form.YieldFrom = false

abbrev mutual
  pub is_constant : {S : Type 0} → Tree S → Bool
  is_constant (leaf at l) = is_constant_leaf l
  is_constant (enclosed at tree.parentheses e) = is_constant e
  is_constant (listed at (tree.array form.Brackets) items) = are_constant items
  is_constant (listed at (tree.array form.Array) items) = are_constant items
  -- `C::NAME`
  is_constant (selected e tree.colons member) = is_name e && is_word member
  is_constant (prefix at op e) = is_constant_prefix op && is_constant e
  is_constant (binary op l r) = is_constant l && is_constant r
  is_constant (instance_of l r) = is_constant l && is_name r
  is_constant (choice c a b) = is_constant c && is_constant a && is_constant b
  is_constant (short_choice c b) = is_constant c && is_constant b
  is_constant _ = false

  -- a missing item is a matter of lists
  pub are_constant : {S : Type 0} → Items S → Bool
  are_constant none = true
  are_constant (and items lead e) = are_constant items && is_constant_lead lead && is_constant e
  are_constant (skip items) = are_constant items

  pub is_constant_lead : {S : Type 0} → Lead S → Bool
  is_constant_lead plain = true
  is_constant_lead (keyed k) = is_constant k
  is_constant_lead _ = false
