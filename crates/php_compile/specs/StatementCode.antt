-- The code of statements.
use Rattle.std.specs.Prelude.{ℕ, List, [], ◌∷◌, ◌++◌}
use Rattle.php_ast.specs.statement.Tree.{empty, then_also, Statement, block, inline, expression, echo, Statements, no_statement, and_statement}
use Rattle.php_ast.specs.declaration.Tree.{Item, of_statement, Script}
use Rattle.php_ast.specs.expression.View.{Note}
use Rattle.php_actions.specs.declared.action.Action.TheVariants.{Stack, Output}
use Rattle.php_actions.specs.declared.stack.StackAction.TheVariants.{Drop}
use Rattle.php_actions.specs.declared.output.OutputAction.TheVariants.{Write}
use Rattle.php_code.specs.declared.instr.Instr.{Instr}
use Rattle.php_code.specs.declared.instr.Instr.TheVariants.{Do}
use Rattle.php_meaning.specs.Slots.{Names}
use Rattle.php_meaning.specs.Forms.{tick}
use Rattle.php_compile.specs.ExpressionCode.{expr_code, echo_code}

abbrev pub inline_code : Note → List ℕ → List Instr
inline_code at t = Do (tick at) ∷ Do (Output (Write t)) ∷ []

module _ (ns : Names) where
  abbrev mutual
    -- over so many temporaries
    pub statement_code : ℕ → Statement Note → List Instr
    statement_code d (block at ss) = statements_code d ss
    statement_code d (inline at t) = inline_code at t
    statement_code d (expression at e) = Do (tick at) ∷ (expr_code ns e ++ Do (Stack Drop) ∷ [])
    statement_code d (echo at is) = Do (tick at) ∷ echo_code ns is
    statement_code d _ = []

    pub statements_code : ℕ → Statements Note → List Instr
    statements_code d no_statement = []
    statements_code d (and_statement ss s) = statements_code d ss ++ statement_code d s

  abbrev pub item_code : Item Note → List Instr
  item_code (of_statement s) = statement_code 0 s
  item_code _ = []

  abbrev pub items_code : Script Note → List Instr
  items_code empty = []
  items_code (then_also is i) = items_code is ++ item_code i
