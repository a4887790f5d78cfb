-- What the tasks of expressions unfold to. Of a form that isn't told yet only those parts are done that the
-- program does on its way, or none.
use Rattle.std.specs.Prelude.{List, [], ◌∷◌, Option, Some, None}
use Rattle.php_value.specs.declared.scalar.Scalar.TheVariants as scalar
use Rattle.php_ast.specs.expression.Tree.{Enclosure, parentheses, emptiness, exiting}
use Rattle.php_ast.specs.expression.Tree.{Tree, leaf, template, enclosed, listed, exit, exit_empty, static_member, append, index, selected, computed, call, new, new_with, prefix, count, binary, instance_of, instance_of_static, choice, short_choice, assign, yield_nothing, yield_value, yield_pair}
use Rattle.php_ast.specs.expression.Tree.{Items, none, and, skip, Pieces, no_piece, bytes, value}
use Rattle.php_ast.specs.expression.View.{Note}
use Rattle.php_actions.specs.declared.action.Action.{Action}
use Rattle.php_actions.specs.declared.action.Action.TheVariants.{Operator, Output}
use Rattle.php_actions.specs.declared.operators.OperatorAction.TheVariants.{ToText, Join}
use Rattle.php_actions.specs.declared.output.OutputAction.TheVariants.{Echo}
use Rattle.php_actions.specs.declared.place_form.PlaceForm.{PlaceForm}
use Rattle.php_meaning.specs.Slots.{Names}
use Rattle.php_meaning.specs.Forms.{push, leaf_action, binary_action, prefix_action, assigned_form, assign_action}
use Rattle.php_meaning.specs.Heights.{piece_count}
use Rattle.php_meaning.specs.Tasks.{Task, Do, Eval, Keys, EvalPieces, EchoItems}

abbrev pub do_if : Option Action → List Task
do_if None = []
do_if (Some a) = Do a ∷ []

-- the right side of an operator, and the operator
abbrev pub right_tasks : Option Action → Tree Note → List Task
right_tasks None r = []
right_tasks (Some a) r = Eval r ∷ Do a ∷ []

abbrev pub enclosed_tasks : Enclosure → Tree Note → List Task
enclosed_tasks parentheses e = Eval e ∷ []
enclosed_tasks emptiness e = []
enclosed_tasks exiting e = []

-- base and keys come before the value
abbrev pub assign_tasks : Option PlaceForm → Tree Note → Tree Note → List Task
assign_tasks None p e = []
assign_tasks (Some form) p e = Keys p ∷ Eval e ∷ Do (assign_action form) ∷ []

abbrev pub eval_tasks : Names → Tree Note → List Task
eval_tasks ns (leaf at l) = Do (leaf_action ns at l) ∷ []
eval_tasks ns (template at ps) = EvalPieces ps ∷ Do (Operator (Join (piece_count ps))) ∷ []
eval_tasks ns (enclosed at by e) = enclosed_tasks by e
eval_tasks ns (append e) = Eval e ∷ []
eval_tasks ns (index e k) = Eval e ∷ []
eval_tasks ns (selected e by m) = Eval e ∷ []
eval_tasks ns (computed e n) = Eval e ∷ []
eval_tasks ns (call e is) = Eval e ∷ []
eval_tasks ns (prefix at op e) = Eval e ∷ do_if (prefix_action op)
eval_tasks ns (binary op l r) = Eval l ∷ right_tasks (binary_action op) r
eval_tasks ns (choice c a b) = Eval c ∷ []
eval_tasks ns (short_choice a b) = Eval a ∷ []
eval_tasks ns (assign s p e) = assign_tasks (assigned_form ns s p) p e
eval_tasks ns (listed at form is) = []
eval_tasks ns (exit at) = []
eval_tasks ns (exit_empty at) = []
eval_tasks ns (static_member at m) = []
eval_tasks ns (new at c) = []
eval_tasks ns (new_with at c is) = []
eval_tasks ns (count e c) = []
eval_tasks ns (instance_of l r) = []
eval_tasks ns (instance_of_static l at) = []
eval_tasks ns (yield_nothing at) = []
eval_tasks ns (yield_value at v) = []
eval_tasks ns (yield_pair at k v) = []

-- a variable takes no temporary
abbrev pub keys_tasks : Names → Tree Note → List Task
keys_tasks ns e = []

abbrev pub pieces_tasks : Names → Pieces Note → List Task
pieces_tasks ns no_piece = []
pieces_tasks ns (bytes ps t) = EvalPieces ps ∷ Do (push (scalar.Str t)) ∷ []
pieces_tasks ns (value ps e) = EvalPieces ps ∷ Eval e ∷ Do (Operator ToText) ∷ []

abbrev pub echo_tasks : Names → Items Note → List Task
echo_tasks ns none = []
echo_tasks ns (and is lead e) = EchoItems is ∷ Eval e ∷ Do (Output Echo) ∷ []
echo_tasks ns (skip is) = EchoItems is ∷ []
