-- The tokens of a file spell at most one script of the first language, and at most one answer is owed to a legal script.
use Rattle.std.proofs.Common.{◌≡◌, ℕ, List, sym, ◌∙◌, ap, subst}
use Rattle.php_token.specs.Token as whole
use Rattle.php_ast.specs.expression.View.{Note}
use Rattle.php_ast.specs.declaration.Tree.{Script}
use Rattle.php_first_tree.specs.Expression.{Statement}
use Rattle.php_first_tokens.specs.declared.token.Token.{Token}
use Rattle.php_first_parse.specs.Spelling.{IsSpelling}
use Rattle.php_first_parse.proofs.Commands.{one_reading}
use Rattle.php_first_run.specs.Running.{texts_of}
use Rattle.php_run.specs.Answer.{Answer}
use Rattle.php_run.specs.Today.{answer_of, run_of, IsScript, IsOwedByScript, runs, refused}
use Rattle.php_run_laws.proofs.Narrowings.{one_narrowing}

pub one_script : (found : List whole.Token) (variables other_variables : ℕ) (statements other_statements : List Statement) →
    IsScript found variables statements → IsScript found other_variables other_statements →
    (variables ≡ other_variables) × (statements ≡ other_statements)
one_script found variables other_variables statements other_statements script other =
    let same = one_narrowing found script.firsts other.firsts script.first other.first in
    let P : List Token → Type 0 = IsSpelling other_statements in (
      sym script.counted ∙ other.counted,
      one_reading script.firsts statements other_statements script.spelled (subst P (sym same) other.spelled),
    )

pub one_by_script : (found : List whole.Token) (tree : Script Note) (allowance : ℕ) (answer other : Answer) →
    IsOwedByScript found tree allowance answer → IsOwedByScript found tree allowance other → answer ≡ other
one_by_script found tree allowance answer other (runs variables statements script is) (runs other_variables other_statements other_script other_is) =
    let same = one_script found variables other_variables statements other_statements script other_script in
    is ∙ ap (λ n. answer_of (run_of (texts_of found) allowance n statements)) same.0
    ∙ ap (λ s. answer_of (run_of (texts_of found) allowance other_variables s)) same.1 ∙ sym other_is
one_by_script found tree allowance answer other (runs variables statements script is) (refused none other_is) = absurd (none variables statements script)
one_by_script found tree allowance answer other (refused none is) (runs variables statements script other_is) = absurd (none variables statements script)
one_by_script found tree allowance answer other (refused none is) (refused other_none other_is) = is ∙ sym other_is
