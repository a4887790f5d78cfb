-- Tasks: parts of a script that are still to be done.
use Rattle.std.specs.Prelude.{ℕ}
use Rattle.php_ast.specs.expression.Tree.{Tree, Items, Pieces}
use Rattle.php_ast.specs.statement.Tree.{Statement, Statements}
use Rattle.php_ast.specs.declaration.Tree.{Script}
use Rattle.php_ast.specs.expression.View.{Note}
use Rattle.php_actions.specs.declared.action.Action.{Action}

pub data Task : Type 0 where
  Do : Action → Task
  -- an expression, which leaves its value
  Eval : Tree Note → Task
  -- what a place takes of temporaries: its base, where that is one, and its keys
  Keys : Tree Note → Task
  -- the pieces of a template, each of which leaves its text
  EvalPieces : Pieces Note → Task
  -- what an `echo` writes
  EchoItems : Items Note → Task
  -- a statement and a list of them, over so many temporaries
  Run : ℕ → Statement Note → Task
  Runs : ℕ → Statements Note → Task
  -- what stands at the outermost level
  RunItems : Script Note → Task
