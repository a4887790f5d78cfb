-- What the tasks of statements unfold to. A statement that isn't told yet does nothing.
use Rattle.std.specs.Prelude.{ℕ, List, [], ◌∷◌}
use Rattle.php_ast.specs.statement.Tree.{empty, then_also, Statement, block, inline, expression, echo, Statements, no_statement, and_statement}
use Rattle.php_ast.specs.declaration.Tree.{Item, of_statement, Script}
use Rattle.php_ast.specs.expression.View.{Note}
use Rattle.php_actions.specs.declared.action.Action.TheVariants.{Stack, Output}
use Rattle.php_actions.specs.declared.stack.StackAction.TheVariants.{Drop}
use Rattle.php_actions.specs.declared.output.OutputAction.TheVariants.{Write}
use Rattle.php_meaning.specs.Forms.{tick}
use Rattle.php_meaning.specs.Tasks.{Task, Do, Eval, EchoItems, Run, Runs, RunItems}

abbrev pub statement_tasks : ℕ → Statement Note → List Task
statement_tasks d (block at ss) = Runs d ss ∷ []
statement_tasks d (inline at t) = Do (tick at) ∷ Do (Output (Write t)) ∷ []
statement_tasks d (expression at e) = Do (tick at) ∷ Eval e ∷ Do (Stack Drop) ∷ []
statement_tasks d (echo at is) = Do (tick at) ∷ EchoItems is ∷ []
statement_tasks d _ = []

abbrev pub statements_tasks : ℕ → Statements Note → List Task
statements_tasks d no_statement = []
statements_tasks d (and_statement ss s) = Runs d ss ∷ Run d s ∷ []

-- functions and classes do nothing where they stand
abbrev pub item_tasks : Item Note → List Task
item_tasks (of_statement s) = Run 0 s ∷ []
item_tasks _ = []

abbrev pub items_tasks : Script Note → List Task
items_tasks empty = []
items_tasks (then_also is i) = RunItems is ∷ item_tasks i
