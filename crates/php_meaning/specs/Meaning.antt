-- The control of trees: what is still to be done is a list of tasks.
use Rattle.std.specs.Prelude.{ℕ, zero, suc, List, [], ◌∷◌, ◌++◌, Option, Some, None}
use Rattle.php_frames.specs.declared.completion.Completion.{Completion}
use Rattle.php_ast.specs.declaration.Tree.{Script}
use Rattle.php_ast.specs.expression.View.{Note}
use Rattle.php_actions.specs.declared.action.Action.{Action}
use Rattle.php_actions.specs.declared.action.Action.TheVariants.{Call}
use Rattle.php_actions.specs.declared.calls.CallAction.TheVariants.{EndBody}
use Rattle.php_machine.specs.Control.{Fetch, Silent, Act, Control}
use Rattle.php_layers.specs.Layers.{Layer, layered}
use Rattle.php_meaning.specs.Slots.{Names, script_names}
use Rattle.php_meaning.specs.Tasks.{Task, Do, Eval, Keys, EvalPieces, EchoItems, Run, Runs, RunItems}
use Rattle.php_meaning.specs.Expressions.{eval_tasks, keys_tasks, pieces_tasks, echo_tasks}
use Rattle.php_meaning.specs.Statements.{statement_tasks, statements_tasks, items_tasks}

-- what is left of a function
pub record Left : Type 0 where
  pub function : ℕ
  pub tasks : List Task

abbrev pub left : ℕ → List Task → Left
left f tasks = record { function = f; tasks = tasks }

-- the tasks that stand for one, where it is no action
abbrev pub unfolded : Names → Task → List Task
unfolded ns (Do a) = Do a ∷ []
unfolded ns (Eval e) = eval_tasks ns e
unfolded ns (Keys e) = keys_tasks ns e
unfolded ns (EvalPieces ps) = pieces_tasks ns ps
unfolded ns (EchoItems is) = echo_tasks ns is
unfolded ns (Run d s) = statement_tasks d s
unfolded ns (Runs d ss) = statements_tasks d ss
unfolded ns (RunItems is) = items_tasks is

abbrev pub fetched_task : Names → ℕ → Task → List Task → Fetch Action Left
fetched_task ns f (Do a) k = Act a (left f k)
fetched_task ns f t k = Silent (left f (unfolded ns t ++ k))

abbrev pub fetched_tasks : Names → ℕ → List Task → Option (Fetch Action Left)
fetched_tasks ns f [] = None
fetched_tasks ns f (t ∷ k) = Some (fetched_task ns f t k)

-- the tasks of a function; functions that a script declares join as calls do
abbrev pub function_tasks : Script Note → ℕ → List Task
function_tasks script zero = RunItems script ∷ []
function_tasks script (suc f) = []

-- no task so far serves a completion
abbrev pub served_tasks : Completion → Left → Option Left
served_tasks why l = None

-- what is left of functions of this script
abbrev pub tree_layer : Script Note → Layer Action Completion Left
tree_layer script = record {
  start = λ f. left f (function_tasks script f);
  fetch = λ l. fetched_tasks (script_names script) l.function l.tasks;
  serve = served_tasks;
}

-- the control of a script
abbrev pub tree : Script Note → Control Action Completion (List Left)
tree script = layered (Call EndBody) (tree_layer script)
