-- What is done with each expression: of an expression and of those inside it, which are values, which are written, and how.
use Rattle.std.specs.Prelude.{List, [], ◌∷◌, ◌++◌}
use Rattle.php_ast.specs.declared.operator.ArrayForm.TheVariants as form
use Rattle.php_ast.specs.declared.operator.Prefix.{Prefix}
use Rattle.php_ast.specs.declared.operator.Prefix.TheVariants as prefix_form
use Rattle.php_ast.specs.declared.operator.Assign.TheVariants as assign_form
use Rattle.php_ast.specs.expression.Tree.{Tree, leaf, template, enclosed, listed, exit, exit_empty, static_member, append, index, selected, computed, call, new, new_with, prefix, count, binary, instance_of, instance_of_static, choice, short_choice, assign, yield_nothing, yield_value, yield_pair}
use Rattle.php_ast.specs.expression.Tree.{Items, none, and, skip, Lead, plain, reference, spread, keyed, keyed_reference, Pieces, no_piece, bytes, value, Class, class_name, class_static, class_found, Steps, from, step_property, step_index, Listing, Setting}
use Rattle.php_ast.specs.expression.Tree as tree

pub data Use : Type 0 where
  -- its value, or the way to what stands behind it
  valued : Use
  -- target of `=` or of `foreach`, or part of a list that is one: a place or a list
  assigned : Use
  -- target of `= &`, `&`, `++`, `--` or an operator with `=`: a place
  changed : Use
  -- source of `= &`
  linked : Use
  -- argument of `unset`
  removed : Use
  -- argument of `isset`
  asked : Use

-- the target of an assignment, and what stands on the right of it
abbrev pub target_use : Setting → Use
target_use (tree.by_value assign_form.Plain) = assigned
target_use (tree.by_value _) = changed
target_use tree.by_reference = changed

abbrev pub source_use : Setting → Use
source_use (tree.by_value op) = valued
source_use tree.by_reference = linked

abbrev pub operand_use : Prefix → Use
operand_use prefix_form.Increment = changed
operand_use prefix_form.Decrement = changed
operand_use _ = valued

-- the items between brackets: parts of a list where that is a target, and else values
abbrev pub item_use : Use → Listing → Use
item_use use_of tree.is_set = asked
item_use assigned (tree.array form.Brackets) = assigned
item_use assigned (tree.array form.List) = assigned
item_use _ (tree.array _) = valued

-- what stands behind `&`, and what doesn't
abbrev pub use_behind : {S : Type 0} → Lead S → Use → Use
use_behind reference use_of = changed
use_behind (keyed_reference k) use_of = changed
use_behind _ use_of = use_of

-- an expression and what is done with it
pub record Used (S : Type 0) : Type 0 where
  pub use_of : Use
  pub tree : Tree S

abbrev pub used : {S : Type 0} → Use → Tree S → Used S
used u e = record { use_of = u; tree = e }

-- the expressions inside an expression, each with what is done with it
abbrev mutual
  pub used_inside : {S : Type 0} → Use → Tree S → List (Used S)
  used_inside u (leaf at l) = []
  used_inside u (template at pieces) = used_pieces pieces
  used_inside u (enclosed at enclosure e) = used valued e ∷ used_inside valued e
  used_inside u (listed at listing items) = used_items (item_use u listing) items
  used_inside u (exit at) = []
  used_inside u (exit_empty at) = []
  used_inside u (static_member at member) = []
  used_inside u (append e) = used valued e ∷ used_inside valued e
  used_inside u (index e key) = used valued e ∷ used_inside valued e ++ used valued key ∷ used_inside valued key
  used_inside u (selected e arrow member) = used valued e ∷ used_inside valued e
  used_inside u (computed e key) = used valued e ∷ used_inside valued e ++ used valued key ∷ used_inside valued key
  used_inside u (call f items) = used valued f ∷ used_inside valued f ++ used_items valued items
  used_inside u (new at class) = used_class class
  used_inside u (new_with at class items) = used_class class ++ used_items valued items
  used_inside u (prefix at op e) = used (operand_use op) e ∷ used_inside (operand_use op) e
  used_inside u (count e way) = used changed e ∷ used_inside changed e
  used_inside u (binary op l r) = used valued l ∷ used_inside valued l ++ used valued r ∷ used_inside valued r
  used_inside u (instance_of l r) = used valued l ∷ used_inside valued l ++ used valued r ∷ used_inside valued r
  used_inside u (instance_of_static l at) = used valued l ∷ used_inside valued l
  used_inside u (choice c a b) =
      used valued c ∷ used_inside valued c ++ used valued a ∷ used_inside valued a ++ used valued b ∷ used_inside valued b
  used_inside u (short_choice c b) = used valued c ∷ used_inside valued c ++ used valued b ∷ used_inside valued b
  used_inside u (assign setting l r) =
      used (target_use setting) l ∷ used_inside (target_use setting) l ++ used (source_use setting) r ∷ used_inside (source_use setting) r
  used_inside u (yield_nothing at) = []
  used_inside u (yield_value at v) = used valued v ∷ used_inside valued v
  used_inside u (yield_pair at k v) = used valued k ∷ used_inside valued k ++ used valued v ∷ used_inside valued v

  pub used_items : {S : Type 0} → Use → Items S → List (Used S)
  used_items u none = []
  used_items u (and items lead e) = used_items u items ++ used_lead lead ++ used (use_behind lead u) e ∷ used_inside (use_behind lead u) e
  used_items u (skip items) = used_items u items

  used_lead : {S : Type 0} → Lead S → List (Used S)
  used_lead plain = []
  used_lead reference = []
  used_lead spread = []
  used_lead (keyed k) = used valued k ∷ used_inside valued k
  used_lead (keyed_reference k) = used valued k ∷ used_inside valued k

  used_pieces : {S : Type 0} → Pieces S → List (Used S)
  used_pieces no_piece = []
  used_pieces (bytes pieces text) = used_pieces pieces
  used_pieces (value pieces e) = used_pieces pieces ++ used valued e ∷ used_inside valued e

  used_class : {S : Type 0} → Class S → List (Used S)
  used_class (class_name at text) = []
  used_class (class_static at) = []
  used_class (class_found steps) = used_steps steps

  used_steps : {S : Type 0} → Steps S → List (Used S)
  used_steps (from at text) = []
  used_steps (step_property steps member) = used_steps steps
  used_steps (step_index steps e) = used_steps steps ++ used valued e ∷ used_inside valued e

-- an expression and those inside it
abbrev pub all_used : {S : Type 0} → Used S → List (Used S)
all_used x = x ∷ used_inside x.use_of x.tree
