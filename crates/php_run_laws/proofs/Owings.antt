-- To the words of a command line at most one answer is owed.
use Rattle.std.proofs.Common.{◌≡◌, ℕ, List, Option, Some, None, sym, ◌∙◌, ap, subst, arith}
use Rattle.php_token.specs.Token as whole
use Rattle.php_ast.specs.expression.View.{Note}
use Rattle.php_ast.specs.declaration.Tree.{Script}
use Rattle.php_front.proofs.Unique.{one_legal, one_cause, never_refused}
use Rattle.php_run.specs.Words.{Request, Task, running, checking}
use Rattle.php_run.specs.Answer.{Answer, unread}
use Rattle.php_run.specs.Owed.{IsOwedTo, IsOwedFor, faulty, legal, IsOwedOf, too_many, read, IsOwed}
use Rattle.php_run_laws.proofs.Scripts.{one_by_script}

one_to : (task : Task) (found : List whole.Token) (script : Script Note) (answer other : Answer) → IsOwedTo task found script answer → IsOwedTo task found script other → answer ≡ other
one_to (running allowance) found script answer other is other_is = one_by_script found script allowance answer other is other_is
one_to checking found script answer other is other_is = is ∙ sym other_is

one_for : (request : Request) (bytes : List ℕ) (answer other : Answer) → IsOwedFor request bytes answer → IsOwedFor request bytes other → answer ≡ other
one_for request bytes answer other (faulty cause refused is) (faulty other_cause other_refused other_is) =
    is ∙ ap unread (one_cause bytes cause other_cause refused other_refused) ∙ sym other_is
one_for request bytes answer other (faulty cause refused is) (legal found script reading owed) = absurd (never_refused bytes found script cause reading refused)
one_for request bytes answer other (legal found script reading owed) (faulty cause refused is) = absurd (never_refused bytes found script cause reading refused)
one_for request bytes answer other (legal found script reading owed) (legal other_found other_script other_reading other_owed) =
    let same = one_legal bytes other_found found other_script script other_reading reading in
    let P : List whole.Token → Type 0 = λ f. IsOwedTo request.task f other_script other in
    let Q : Script Note → Type 0 = λ s. IsOwedTo request.task found s other in
    one_to request.task found script answer other owed (subst Q same.1 (subst P same.0 other_owed))

one_of : (request : Request) (bytes : List ℕ) (answer other : Answer) → IsOwedOf request bytes answer → IsOwedOf request bytes other → answer ≡ other
one_of request bytes answer other (too_many long is) (too_many other_long other_is) = is ∙ sym other_is
one_of request bytes answer other (too_many long is) (read short owed) = absurd (omega arith)
one_of request bytes answer other (read short owed) (too_many long is) = absurd (omega arith)
one_of request bytes answer other (read short owed) (read other_short other_owed) = one_for request bytes answer other owed other_owed

pub one_result : (request : Option Request) (held : Option (List ℕ)) (answer other : Answer) → IsOwed request held answer → IsOwed request held other → answer ≡ other
one_result None held answer other is other_is = is ∙ sym other_is
one_result (Some request) None answer other is other_is = is ∙ sym other_is
one_result (Some request) (Some bytes) answer other is other_is = one_of request bytes answer other is other_is
