-- The code of expressions: that of the tasks that they unfold to, one after the other.
use Rattle.std.specs.Prelude.{List, [], ◌∷◌, ◌++◌, Option, Some, None}
use Rattle.php_value.specs.declared.scalar.Scalar.TheVariants as scalar
use Rattle.php_ast.specs.expression.Tree.{Enclosure, parentheses, emptiness, exiting}
use Rattle.php_ast.specs.expression.Tree.{Tree, leaf, template, enclosed, listed, exit, exit_empty, static_member, append, index, selected, computed, call, new, new_with, prefix, count, binary, instance_of, instance_of_static, choice, short_choice, assign, yield_nothing, yield_value, yield_pair}
use Rattle.php_ast.specs.expression.Tree.{Items, none, and, skip, Pieces, no_piece, bytes, value}
use Rattle.php_ast.specs.expression.View.{Note}
use Rattle.php_actions.specs.declared.action.Action.{Action}
use Rattle.php_actions.specs.declared.action.Action.TheVariants.{Operator, Output}
use Rattle.php_actions.specs.declared.operators.OperatorAction.TheVariants.{ToText, Join}
use Rattle.php_actions.specs.declared.output.OutputAction.TheVariants.{Echo}
use Rattle.php_actions.specs.declared.place_form.PlaceForm.{PlaceForm}
use Rattle.php_code.specs.declared.instr.Instr.{Instr}
use Rattle.php_code.specs.declared.instr.Instr.TheVariants.{Do}
use Rattle.php_meaning.specs.Slots.{Names}
use Rattle.php_meaning.specs.Forms.{push, leaf_action, binary_action, prefix_action, assigned_form, assign_action}
use Rattle.php_meaning.specs.Heights.{piece_count}

abbrev pub do_code : Option Action → List Instr
do_code None = []
do_code (Some a) = Do a ∷ []

-- behind the code of the left side
abbrev pub right_code : Option Action → List Instr → List Instr
right_code None r = []
right_code (Some a) r = r ++ Do a ∷ []

abbrev pub enclosed_code : Enclosure → List Instr → List Instr
enclosed_code parentheses e = e
enclosed_code emptiness e = []
enclosed_code exiting e = []

abbrev pub assign_code : Option PlaceForm → List Instr → List Instr
assign_code None e = []
assign_code (Some form) e = e ++ Do (assign_action form) ∷ []

module _ (ns : Names) where
  abbrev mutual
    pub expr_code : Tree Note → List Instr
    expr_code (leaf at l) = Do (leaf_action ns at l) ∷ []
    expr_code (template at ps) = pieces_code ps ++ Do (Operator (Join (piece_count ps))) ∷ []
    expr_code (enclosed at by e) = enclosed_code by (expr_code e)
    expr_code (append e) = expr_code e
    expr_code (index e k) = expr_code e
    expr_code (selected e by m) = expr_code e
    expr_code (computed e n) = expr_code e
    expr_code (call e is) = expr_code e
    expr_code (prefix at op e) = expr_code e ++ do_code (prefix_action op)
    expr_code (binary op l r) = expr_code l ++ right_code (binary_action op) (expr_code r)
    expr_code (choice c a b) = expr_code c
    expr_code (short_choice a b) = expr_code a
    expr_code (assign s p e) = assign_code (assigned_form ns s p) (expr_code e)
    expr_code (listed at form is) = []
    expr_code (exit at) = []
    expr_code (exit_empty at) = []
    expr_code (static_member at m) = []
    expr_code (new at c) = []
    expr_code (new_with at c is) = []
    expr_code (count e c) = []
    expr_code (instance_of l r) = []
    expr_code (instance_of_static l at) = []
    expr_code (yield_nothing at) = []
    expr_code (yield_value at v) = []
    expr_code (yield_pair at k v) = []

    pub pieces_code : Pieces Note → List Instr
    pieces_code no_piece = []
    pieces_code (bytes ps t) = pieces_code ps ++ Do (push (scalar.Str t)) ∷ []
    pieces_code (value ps e) = pieces_code ps ++ (expr_code e ++ Do (Operator ToText) ∷ [])

  -- what a place takes of temporaries
  abbrev pub keys_code : Tree Note → List Instr
  keys_code e = []

  abbrev pub echo_code : Items Note → List Instr
  echo_code none = []
  echo_code (and is lead e) = echo_code is ++ (expr_code e ++ Do (Output Echo) ∷ [])
  echo_code (skip is) = echo_code is
