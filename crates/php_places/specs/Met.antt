-- The first fault of an expression and of those inside it, behind those met so far, form by form.
use Rattle.std.specs.Prelude.{Bool, Option, List, [], ◌∷◌}
use Rattle.php_ast.specs.declared.operator.Prefix.{Prefix}
use Rattle.php_ast.specs.declared.operator.Prefix.TheVariants as prefix_form
use Rattle.php_ast.specs.declared.expression.Expr.{Expr}
use Rattle.php_ast.specs.declared.expression.Suffix.{Suffix}
use Rattle.php_ast.specs.declared.expression.Suffix.TheVariants as suffix
use Rattle.php_ast.specs.expression.Tree.{Tree, leaf, template, enclosed, listed, exit, exit_empty, static_member, append, index, selected, computed, call, new, new_with, prefix, count, binary, instance_of, instance_of_static, choice, short_choice, assign, yield_nothing, yield_value, yield_pair}
use Rattle.php_ast.specs.expression.Tree.{Items, none, and, skip, Lead, plain, reference, spread, keyed, keyed_reference, Pieces, no_piece, bytes, value, Class, class_name, class_static, class_found, Steps, from, step_property, step_index}
use Rattle.php_ast.specs.expression.Tree as tree
use Rattle.php_ast.specs.expression.View.{Note}
use Rattle.php_legality.specs.declared.kind.Kind.{Kind}
use Rattle.php_legality.specs.declared.fault.Fault.{Fault}
use Rattle.php_legality.specs.declared.scope.Scope.{Scope}
use Rattle.php_legality.specs.Lists.{where_true}
use Rattle.php_legality.specs.First.{fault_at, first_from}
use Rattle.php_legality.specs.Expressions.{Use, valued, changed, target_use, source_use, operand_use, item_use, use_behind}
use Rattle.php_legality.specs.Rows.{inner_leaf, inner_class}
use Rattle.php_places.specs.Faults.{use_faults, outside}

abbrev pub where_bad : Bool → Kind → Note → Option Fault → Option Fault
where_bad holds kind_of at met = first_from met (where_true holds (fault_at kind_of at))

-- words that may stand here, or not
unfoldable pub at_words : Bool → List Note → Option Fault → Option Fault
at_words may_stand words met = first_from met (outside may_stand words)

-- the expression itself
unfoldable pub at_use : Use → Tree Note → Option Fault → Option Fault
at_use u e met = first_from met (use_faults u e)

-- the `yield` of a prefix operator
abbrev pub prefix_words : Note → Prefix → List Note
prefix_words at prefix_form.YieldFrom = at ∷ []
prefix_words at _ = []

-- the name of a class before a suffix
abbrev pub access_words : {A : Type 0} → Tree Note → Suffix A → List Note
access_words e (suffix.Member m) = inner_leaf e
access_words e _ = []

abbrev mutual
  pub met_inside : Scope → Use → Tree Note → Option Fault → Option Fault
  met_inside scope u (leaf at l) met = met
  met_inside scope u (template at pieces) met = met_pieces scope pieces met
  met_inside scope u (enclosed at enclosure e) met = met_inside scope valued e (at_use valued e met)
  met_inside scope u (listed at listing items) met = met_items scope (item_use u listing) items met
  met_inside scope u (exit at) met = met
  met_inside scope u (exit_empty at) met = met
  met_inside scope u (static_member at member) met = at_words scope.in_class (at ∷ []) met
  met_inside scope u (append e) met = met_inside scope valued e (at_use valued e met)
  met_inside scope u (index e key) met = met_inside scope valued key (at_use valued key (met_inside scope valued e (at_use valued e met)))
  met_inside scope u (selected e tree.thin member) met = met_inside scope valued e (at_use valued e met)
  met_inside scope u (selected e tree.colons member) met = met_inside scope valued e (at_use valued e (at_words scope.in_class (inner_leaf e) met))
  met_inside scope u (computed e key) met = met_inside scope valued key (at_use valued key (met_inside scope valued e (at_use valued e met)))
  met_inside scope u (call f items) met = met_items scope valued items (met_inside scope valued f (at_use valued f met))
  met_inside scope u (new at class) met = met_class scope class (at_words scope.in_class (inner_class class) met)
  met_inside scope u (new_with at class items) met = met_items scope valued items (met_class scope class (at_words scope.in_class (inner_class class) met))
  met_inside scope u (prefix at op e) met =
      met_inside scope (operand_use op) e (at_use (operand_use op) e (at_words scope.in_function (prefix_words at op) met))
  met_inside scope u (count e way) met = met_inside scope changed e (at_use changed e met)
  met_inside scope u (binary op l r) met = met_inside scope valued r (at_use valued r (met_inside scope valued l (at_use valued l met)))
  met_inside scope u (instance_of l r) met =
      met_inside scope valued r (at_use valued r (met_inside scope valued l (at_use valued l (at_words scope.in_class (inner_leaf r) met))))
  met_inside scope u (instance_of_static l at) met = met_inside scope valued l (at_use valued l (at_words scope.in_class (at ∷ []) met))
  met_inside scope u (choice c a b) met =
      met_inside scope valued b (at_use valued b (met_inside scope valued a (at_use valued a (met_inside scope valued c (at_use valued c met)))))
  met_inside scope u (short_choice c b) met = met_inside scope valued b (at_use valued b (met_inside scope valued c (at_use valued c met)))
  met_inside scope u (assign setting l r) met =
      met_inside scope (source_use setting) r (at_use (source_use setting) r (met_inside scope (target_use setting) l (at_use (target_use setting) l met)))
  met_inside scope u (yield_nothing at) met = at_words scope.in_function (at ∷ []) met
  met_inside scope u (yield_value at v) met = met_inside scope valued v (at_use valued v (at_words scope.in_function (at ∷ []) met))
  met_inside scope u (yield_pair at k v) met =
      met_inside scope valued v (at_use valued v (met_inside scope valued k (at_use valued k (at_words scope.in_function (at ∷ []) met))))

  pub met_items : Scope → Use → Items Note → Option Fault → Option Fault
  met_items scope u none met = met
  met_items scope u (and items lead e) met =
      met_inside scope (use_behind lead u) e (at_use (use_behind lead u) e (met_lead scope lead (met_items scope u items met)))
  met_items scope u (skip items) met = met_items scope u items met

  pub met_lead : Scope → Lead Note → Option Fault → Option Fault
  met_lead scope plain met = met
  met_lead scope reference met = met
  met_lead scope spread met = met
  met_lead scope (keyed k) met = met_inside scope valued k (at_use valued k met)
  met_lead scope (keyed_reference k) met = met_inside scope valued k (at_use valued k met)

  pub met_pieces : Scope → Pieces Note → Option Fault → Option Fault
  met_pieces scope no_piece met = met
  met_pieces scope (bytes pieces text) met = met_pieces scope pieces met
  met_pieces scope (value pieces e) met = met_inside scope valued e (at_use valued e (met_pieces scope pieces met))

  pub met_class : Scope → Class Note → Option Fault → Option Fault
  met_class scope (class_name at text) met = met
  met_class scope (class_static at) met = met
  met_class scope (class_found steps) met = met_steps scope steps met

  pub met_steps : Scope → Steps Note → Option Fault → Option Fault
  met_steps scope (from at text) met = met
  met_steps scope (step_property steps member) met = met_steps scope steps met
  met_steps scope (step_index steps e) met = met_inside scope valued e (at_use valued e (met_steps scope steps met))

-- an expression with which this is done, and those inside it
abbrev pub met_used : Scope → Use → Tree Note → Option Fault → Option Fault
met_used scope u e met = met_inside scope u e (at_use u e met)
