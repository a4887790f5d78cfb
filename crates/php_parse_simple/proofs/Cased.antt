-- Labels of a `switch`.
use Rattle.std.proofs.Common.{◌≡◌, ◌≢◌, ◌≤◌, ℕ, ◌+◌, Bool, true, false, Option, Some, None, List, [], ◌∷◌, refl, ◌∙◌, ap, arith}
use Rattle.php_ast.specs.Symbol.{Symbol}
use Rattle.php_ast.specs.declared.statement.SwitchForm.{SwitchForm}
use Rattle.php_ast.specs.declared.statement.CaseEnd.{CaseEnd}
use Rattle.php_ast.specs.declared.statement.CaseEnd.TheVariants as case_end
use Rattle.php_ast.specs.statement.Tree.{Cases, no_statement}
use Rattle.php_grammar.specs.declared.closer.Closer.TheVariants as ender
use Rattle.php_grammar.specs.expression.Machine.{Nothing, Form, pick}
use Rattle.php_grammar.specs.statement.Role.{by_case, by_default, behind, ends_outside, Ending, closer, ending}
use Rattle.php_grammar.specs.statement.Forms.{of_case, as_label, Around, due_in_list, due_case, past_default}
use Rattle.php_grammar.specs.statement.Machine.{expected, filled, case_step, default_step}
use Rattle.php_grammar.specs.statement.Depth.{statement_depth}
use Rattle.php_grammar_laws.specs.Walks.{short, walk_statement}
use Rattle.php_parse_simple.specs.LabelAnswer.{end_closer, label_behind}
use Rattle.php_parse_simple.specs.Walk.{Leads, Halts, head_ending}
use Rattle.php_parse_simple.proofs.Moves.{move, sink, sticks}

-- ---- the word

pub case_opens : {room : ℕ} {x w : List Symbol} (e : Form) (form : SwitchForm) (cases : Cases Nothing) (t : Symbol) → x ≡ t ∷ w → behind t ≡ by_case → 2 ≤ room
    → Leads statement_depth room (λ o. due_case e form cases o) x (λ o. expected (as_label e form cases) o) w
case_opens e form cases t is h roomy =
    move t is (λ o. ap (case_step e form cases o) h) (λ n o at. omega (arith, ap (λ z. pick (ends_outside z) (statement_depth o) (1 + statement_depth o)) h))

pub default_opens : {room : ℕ} {x w : List Symbol} (e : Form) (form : SwitchForm) (cases : Cases Nothing) (t : Symbol) → x ≡ t ∷ w → behind t ≡ by_default → 2 ≤ room
    → Leads statement_depth room (λ o. due_case e form cases o) x (λ o. past_default e form cases o) w
default_opens e form cases t is h roomy =
    move t is (λ o. ap (case_step e form cases o) h) (λ n o at. omega (arith, ap (λ z. pick (ends_outside z) (statement_depth o) (1 + statement_depth o)) h))

-- where one level is left
pub label_sinks : {room : ℕ} {x w : List Symbol} (is_default : Bool) (e : Form) (form : SwitchForm) (cases : Cases Nothing) (t : Symbol) → x ≡ t ∷ w → behind t ≡ label_behind is_default → room ≡ 1
    → Halts true statement_depth room (λ o. due_case e form cases o) x x
label_sinks true e form cases t is h one =
    sink t is (λ o. ap (case_step e form cases o) h) (λ n o at. omega (arith, ap (λ z. pick (ends_outside z) (statement_depth o) (1 + statement_depth o)) h))
label_sinks false e form cases t is h one =
    sink t is (λ o. ap (case_step e form cases o) h) (λ n o at. omega (arith, ap (λ z. pick (ends_outside z) (statement_depth o) (1 + statement_depth o)) h))

-- ---- what ends it

default_filled : (e : Form) (form : SwitchForm) (cases : Cases Nothing) (o : Around) (end : CaseEnd) → default_step e form cases o (end_closer end) ≡ Some (due_in_list (of_case e form cases None end) no_statement o)
default_filled e form cases o case_end.Colon = refl
default_filled e form cases o case_end.Semicolon = refl

pub default_ends : {room : ℕ} {x w : List Symbol} (e : Form) (form : SwitchForm) (cases : Cases Nothing) (end : CaseEnd) (t : Symbol) → x ≡ t ∷ w → ending t ≡ end_closer end → 2 ≤ room
    → Leads statement_depth room (λ o. past_default e form cases o) x (λ o. due_in_list (of_case e form cases None end) no_statement o) w
default_ends e form cases end t is h roomy = move t is (λ o. ap (default_step e form cases o) h ∙ default_filled e form cases o end) (λ n o at. omega arith)

default_none : (e : Form) (form : SwitchForm) (cases : Cases Nothing) (o : Around) (x : Ending) → x ≢ closer ender.Colon → x ≢ closer ender.Semicolon → default_step e form cases o x ≡ None
default_none e form cases o (closer ender.Colon) a b = absurd (a refl)
default_none e form cases o (closer ender.Semicolon) a b = absurd (b refl)
default_none e form cases o _ a b = refl

default_lacks : (n : ℕ) (e : Form) (form : SwitchForm) (cases : Cases Nothing) (o : Around) (w : List Symbol) → head_ending w ≢ closer ender.Colon → head_ending w ≢ closer ender.Semicolon → walk_statement n (past_default e form cases o) w ≡ short w
default_lacks n e form cases o [] a b = refl
default_lacks n e form cases o (t ∷ w) a b = sticks n (past_default e form cases o) t w (default_none e form cases o (ending t) a b)

pub default_halts : {room : ℕ} {w : List Symbol} (e : Form) (form : SwitchForm) (cases : Cases Nothing) → head_ending w ≢ closer ender.Colon → head_ending w ≢ closer ender.Semicolon → Halts false statement_depth room (λ o. past_default e form cases o) w w
default_halts {room} {w} e form cases a b = record { same = λ n o is. default_lacks n e form cases o w a b }

pub label_filled : (e : Form) (form : SwitchForm) (cases : Cases Nothing) (label : Form) (o : Around) (end : CaseEnd) → filled (as_label e form cases) label o (end_closer end) ≡ Some (due_in_list (of_case e form cases (Some label) end) no_statement o)
label_filled e form cases label o case_end.Colon = refl
label_filled e form cases label o case_end.Semicolon = refl

pub label_stuck : (e : Form) (form : SwitchForm) (cases : Cases Nothing) (label : Form) (o : Around) (x : Ending) → x ≢ closer ender.Colon → x ≢ closer ender.Semicolon → filled (as_label e form cases) label o x ≡ None
label_stuck e form cases label o (closer ender.Colon) a b = absurd (a refl)
label_stuck e form cases label o (closer ender.Semicolon) a b = absurd (b refl)
label_stuck e form cases label o _ a b = refl
