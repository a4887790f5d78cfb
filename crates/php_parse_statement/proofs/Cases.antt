-- `switch`.
use Rattle.std.proofs.Common.{◌≡◌, ◌≢◌, ◌≤◌, ◌<◌, ℕ, ◌+◌, Bool, true, false, Option, Some, None, List, [], ◌∷◌, ◌++◌, map, length, refl, sym, ◌∙◌, ap, arith}
use Rattle.php_token.specs.Token.{Token}
use Rattle.php_token.specs.declared.kind.Punct.TheVariants as mark
use Rattle.php_ast.specs.declared.statement.Stmt.{Stmt}
use Rattle.php_ast.specs.declared.statement.Case.{Case}
use Rattle.php_ast.specs.declared.statement.CaseEnd.{CaseEnd}
use Rattle.php_ast.specs.declared.statement.SwitchForm.{SwitchForm}
use Rattle.php_ast.specs.declared.statement.SwitchForm.TheVariants as switch_form
use Rattle.php_ast.specs.Symbol.{Symbol, punct}
use Rattle.php_ast.specs.expression.Tree.{Tree}
use Rattle.php_ast.specs.expression.View.{Note, spot_view, view}
use Rattle.php_ast.specs.expression.Placed.{size, noted, notes_of}
use Rattle.php_ast.specs.statement.Spelling.{cases_closing}
use Rattle.php_ast.specs.statement.Tree.{Statement, switch, Cases, no_case, and_case, Statements}
use Rattle.php_ast.specs.statement.View.{cases_from, list_view, optional, statement_view, statements_view}
use Rattle.php_ast.specs.statement.Placed.{size_optional, noted_optional, size_statements, noted_statements, size_cases, size_cases_end, noted_cases, size_head}
use Rattle.php_grammar.specs.Run.{either}
use Rattle.php_grammar.specs.expression.Role.{is_left_brace, is_colon}
use Rattle.php_grammar.specs.expression.Machine.{Nothing, Form, pick}
use Rattle.php_grammar.specs.statement.Laws.{head_behind}
use Rattle.php_grammar.specs.statement.Role.{Behind, by_case, by_default, by_brace, by_endswitch, behind, ends_outside, fixed_semicolon}
use Rattle.php_grammar.specs.statement.Forms.{of_case, list_open, Around, StatementState, done, due_in_list, past_switch, due_case}
use Rattle.php_grammar.specs.statement.Machine.{begin, case_step, switch_step, before_semicolon}
use Rattle.php_grammar.specs.statement.Depth.{statement_depth, begin_depth}
use Rattle.php_grammar.specs.statement.Reading.{missing_around}
use Rattle.php_grammar_laws.specs.Walks.{short, walk_statement}
use Rattle.php_reader.specs.Seen.{test, rest}
use Rattle.php_parse_simple.specs.LabelAnswer.{SeesForm}
use Rattle.php_parse_simple.specs.Parts.{case_parts}
use Rattle.php_parse_simple.specs.Answer.{SpansStatement}
use Rattle.php_parse_simple.specs.RoleView.{ends_list}
use Rattle.php_parse_simple.specs.Walk.{Leads, Halts}
use Rattle.php_parse_simple.proofs.Moves.{alike, move, sink, sticks, Some_of, lacks_by}
use Rattle.php_parse_statement.proofs.Lists.{begun_deep, ender_none}

-- ---- what opens the cases

pub braces_open : {room : ℕ} {x w : List Symbol} (e : Form) (t : Symbol) → x ≡ t ∷ w → is_left_brace t ≡ true → 1 ≤ room → Leads statement_depth room (λ o. past_switch e o) x (λ o. due_case e switch_form.Braces no_case o) w
braces_open e t is h roomy =
    move t is (λ o. ap (λ b. pick b (Some (due_case e switch_form.Braces no_case o)) (pick (is_colon t) (Some (due_case e switch_form.Colon no_case o)) None)) h) (λ n o at. omega arith)

colon_is_none : (t : Symbol) → is_colon t ≡ true → is_left_brace t ≡ false
colon_is_none (punct mark.Colon) h = refl
colon_is_none _ h = cc

pub colon_opens : {room : ℕ} {x w : List Symbol} (e : Form) (t : Symbol) → x ≡ t ∷ w → is_colon t ≡ true → 1 ≤ room → Leads statement_depth room (λ o. past_switch e o) x (λ o. due_case e switch_form.Colon no_case o) w
colon_opens e t is h roomy =
    move t is
    (λ o. ap (λ b. pick b (Some (due_case e switch_form.Braces no_case o)) (pick (is_colon t) (Some (due_case e switch_form.Colon no_case o)) None)) (colon_is_none t h)
    ∙ ap (λ b. pick b (Some (due_case e switch_form.Colon no_case o)) None) h)
    (λ n o at. omega arith)

pub cases_open : (tokens : List Token) (at room : ℕ) (e : Form) (form : SwitchForm) → SeesForm tokens at (Some form) → 1 ≤ room → Leads statement_depth room (λ o. past_switch e o) (rest tokens at) (λ o. due_case e form no_case o) (rest tokens (at + 1))
cases_open tokens at room e switch_form.Braces s roomy = braces_open e s.token s.stands.is s.role_is roomy
cases_open tokens at room e switch_form.Colon s roomy = colon_opens e s.token s.stands.is s.role_is roomy

pub cases_within : (tokens : List Token) (at : ℕ) (form : SwitchForm) → SeesForm tokens at (Some form) → at < length tokens
cases_within tokens at switch_form.Braces s = s.stands.within
cases_within tokens at switch_form.Colon s = s.stands.within

unopened : (n : ℕ) (e : Form) (o : Around) (w : List Symbol) → test is_left_brace w ≡ false → test is_colon w ≡ false → walk_statement n (past_switch e o) w ≡ short w
unopened n e o [] a b = refl
unopened n e o (t ∷ w) a b =
    sticks n (past_switch e o) t w
    (ap (λ z. pick z (Some (due_case e switch_form.Braces no_case o)) (pick (is_colon t) (Some (due_case e switch_form.Colon no_case o)) None)) a
    ∙ ap (λ z. pick z (Some (due_case e switch_form.Colon no_case o)) None) b)

pub switch_halts : {room : ℕ} {w : List Symbol} (e : Form) → test is_left_brace w ≡ false → test is_colon w ≡ false → Halts false statement_depth room (λ o. past_switch e o) w w
switch_halts {room} {w} e a b = record { same = λ n o is. unopened n e o w a b }

-- ---- behind the statements of a case

either_none : {A : Type 0} (x : Option A) → either x None ≡ x
either_none None = refl
either_none (Some y) = refl

case_over : (n : ℕ) (e : Form) (form : SwitchForm) (cases : Cases Nothing) (label : Option Form) (end : CaseEnd) (ss : Statements Nothing) (o : Around) (w : List Symbol) → ends_list (head_behind w) ≡ true
    → walk_statement n (due_in_list (of_case e form cases label end) ss o) w ≡ walk_statement n (due_case e form (and_case cases tt label end ss) o) w
case_over n e form cases label end ss o [] h = cc
case_over n e form cases label end ss o (t ∷ w) h =
    alike n (due_in_list (of_case e form cases label end) ss o) (due_case e form (and_case cases tt label end ss) o) t w
    (ap (either (case_step e form (and_case cases tt label end ss) o (behind t))) (ender_none (list_open (of_case e form cases label end) ss ∷ o) t h)
    ∙ either_none (case_step e form (and_case cases tt label end ss) o (behind t)))
    (ap (pick (ends_outside (behind t)) (statement_depth o)) (begun_deep (of_case e form cases label end) ss o t))
    refl

-- it walks on as where a label is due
pub case_ends : {room : ℕ} {w : List Symbol} (e : Form) (form : SwitchForm) (cases : Cases Nothing) (label : Option Form) (end : CaseEnd) (ss : Statements Nothing) → ends_list (head_behind w) ≡ true
    → Leads statement_depth room (λ o. due_in_list (of_case e form cases label end) ss o) w (λ o. due_case e form (and_case cases tt label end ss) o) w
case_ends {room} {w} e form cases label end ss h = record { same = λ n o is. case_over n e form cases label end ss o w h }

-- ---- the end of the cases

pub braces_end : {room : ℕ} {x w : List Symbol} (e : Form) (cases : Cases Nothing) (t : Symbol) → x ≡ t ∷ w → behind t ≡ by_brace → 2 ≤ room
    → Leads statement_depth room (λ o. due_case e switch_form.Braces cases o) x (λ o. done (switch tt e switch_form.Braces cases) o) w
braces_end e cases t is h roomy =
    move t is (λ o. ap (case_step e switch_form.Braces cases o) h) (λ n o at. omega (arith, ap (λ z. pick (ends_outside z) (statement_depth o) (1 + statement_depth o)) h))

pub braces_sink : {room : ℕ} {x w : List Symbol} (e : Form) (cases : Cases Nothing) (t : Symbol) → x ≡ t ∷ w → behind t ≡ by_brace → room ≡ 1
    → Halts true statement_depth room (λ o. due_case e switch_form.Braces cases o) x x
braces_sink e cases t is h one =
    sink t is (λ o. ap (case_step e switch_form.Braces cases o) h) (λ n o at. omega (arith, ap (λ z. pick (ends_outside z) (statement_depth o) (1 + statement_depth o)) h))

pub colon_ends : {room : ℕ} {x w : List Symbol} (e : Form) (cases : Cases Nothing) (t : Symbol) → x ≡ t ∷ w → behind t ≡ by_endswitch → 1 ≤ room
    → Leads statement_depth room (λ o. due_case e switch_form.Colon cases o) x (λ o. before_semicolon (switch tt e switch_form.Colon cases) o) w
colon_ends e cases t is h roomy =
    move t is (λ o. ap (case_step e switch_form.Colon cases o) h) (λ n o at. omega (arith, ap (λ z. pick (ends_outside z) (statement_depth o) (1 + statement_depth o)) h))

braces_stuck : (e : Form) (cases : Cases Nothing) (o : Around) (x : Behind) → x ≢ by_case → x ≢ by_default → x ≢ by_brace → case_step e switch_form.Braces cases o x ≡ None
braces_stuck e cases o by_case a b d = absurd (a refl)
braces_stuck e cases o by_default a b d = absurd (b refl)
braces_stuck e cases o by_brace a b d = absurd (d refl)
braces_stuck e cases o _ a b d = refl

colon_stuck : (e : Form) (cases : Cases Nothing) (o : Around) (x : Behind) → x ≢ by_case → x ≢ by_default → x ≢ by_endswitch → case_step e switch_form.Colon cases o x ≡ None
colon_stuck e cases o by_case a b d = absurd (a refl)
colon_stuck e cases o by_default a b d = absurd (b refl)
colon_stuck e cases o by_endswitch a b d = absurd (d refl)
colon_stuck e cases o _ a b d = refl

braces_lack : (n : ℕ) (e : Form) (cases : Cases Nothing) (o : Around) (w : List Symbol) → head_behind w ≢ by_case → head_behind w ≢ by_default → head_behind w ≢ by_brace
    → walk_statement n (due_case e switch_form.Braces cases o) w ≡ short w
braces_lack n e cases o [] a b d = refl
braces_lack n e cases o (t ∷ w) a b d = sticks n (due_case e switch_form.Braces cases o) t w (braces_stuck e cases o (behind t) a b d)

pub braces_halt : {room : ℕ} {w : List Symbol} (e : Form) (cases : Cases Nothing) → head_behind w ≢ by_case → head_behind w ≢ by_default → head_behind w ≢ by_brace
    → Halts false statement_depth room (λ o. due_case e switch_form.Braces cases o) w w
braces_halt {room} {w} e cases a b d = record { same = λ n o is. braces_lack n e cases o w a b d }

colon_lacks : (n : ℕ) (e : Form) (cases : Cases Nothing) (o : Around) (w : List Symbol) → head_behind w ≢ by_case → head_behind w ≢ by_default → head_behind w ≢ by_endswitch
    → walk_statement n (due_case e switch_form.Colon cases o) w ≡ short w
colon_lacks n e cases o [] a b d = refl
colon_lacks n e cases o (t ∷ w) a b d = sticks n (due_case e switch_form.Colon cases o) t w (colon_stuck e cases o (behind t) a b d)

pub colon_halts : {room : ℕ} {w : List Symbol} (e : Form) (cases : Cases Nothing) → head_behind w ≢ by_case → head_behind w ≢ by_default → head_behind w ≢ by_endswitch
    → Halts false statement_depth room (λ o. due_case e switch_form.Colon cases o) w w
colon_halts {room} {w} e cases a b d = record { same = λ n o is. colon_lacks n e cases o w a b d }

-- ---- cases that grow

cases_grow : (before : Cases Note) (xs : List (Case (Statement Note))) (x : Case (Statement Note)) → cases_from before (xs ++ x ∷ []) ≡ and_case (cases_from before xs) (spot_view x.spot) (optional view x.value) x.end (list_view x.body)
cases_grow before [] x = refl
cases_grow before (y ∷ xs) x = cases_grow (and_case before (spot_view y.spot) (optional view y.value) y.end (list_view y.body)) xs x

parts_map : (xs : List (Case Stmt)) (x : Case Stmt) → map case_parts (xs ++ x ∷ []) ≡ map case_parts xs ++ case_parts x ∷ []
parts_map [] x = refl
parts_map (y ∷ xs) x = ap (λ v. case_parts y ∷ v) (parts_map xs x)

pub cases_more : (tokens : List Token) (at place : ℕ) (cases : Cases Nothing) (label : Option Form) (ss : Statements Nothing) (xs new : List (Case Stmt)) (x : Case Stmt) → new ≡ xs ++ x ∷ []
    → cases_from no_case (map case_parts xs) ≡ noted_cases (notes_of tokens) at cases → at + size_cases cases ≡ place
    → spot_view x.spot ≡ (notes_of tokens).token place → optional view x.value ≡ noted_optional (notes_of tokens) (place + 1) label
    → statements_view x.body ≡ noted_statements (notes_of tokens) (place + 1 + size_optional label + 1) ss
    → cases_from no_case (map case_parts new) ≡ noted_cases (notes_of tokens) at (and_case cases tt label x.end ss)
cases_more tokens at place cases label ss xs new x grown shown sized spot_is label_is body_is =
    ap (λ l. cases_from no_case (map case_parts l)) grown ∙ ap (cases_from no_case) (parts_map xs x) ∙ cases_grow no_case (map case_parts xs) (case_parts x)
    ∙ ap (λ z. and_case z (spot_view x.spot) (optional view x.value) x.end (statements_view x.body)) shown
    ∙ ap (λ z. and_case (noted_cases (notes_of tokens) at cases) z (optional view x.value) x.end (statements_view x.body)) (spot_is ∙ ap (notes_of tokens).token (sym sized))
    ∙ ap (λ z. and_case (noted_cases (notes_of tokens) at cases) ((notes_of tokens).token (at + size_cases cases)) z x.end (statements_view x.body)) (label_is ∙ ap (λ k. noted_optional (notes_of tokens) k label) (omega arith))
    ∙ ap (and_case (noted_cases (notes_of tokens) at cases) ((notes_of tokens).token (at + size_cases cases)) (noted_optional (notes_of tokens) (at + size_cases cases + 1) label) x.end)
    (body_is ∙ ap (λ k. noted_statements (notes_of tokens) k ss) (omega arith))

pub switch_spans : (tokens : List Token) (made : Statement Note) (spot : Note) (e : Tree Note) (shown : Cases Note) (form : Form) (enclosure : SwitchForm) (cases : Cases Nothing) (at place next : ℕ) → made ≡ switch spot e enclosure shown
    → spot ≡ (notes_of tokens).token at → e ≡ noted (notes_of tokens) (at + 1 + 1) form → at + 1 + size form + 2 ≡ place → shown ≡ noted_cases (notes_of tokens) (place + 1) cases
    → place + 1 + size_cases cases + size_cases_end enclosure ≡ next → SpansStatement tokens made (switch tt form enclosure cases) at next
switch_spans tokens made spot e shown form enclosure cases at place next is noted_is test_is where_is cases_is sized = record {
  shown = is ∙ ap (λ n. switch n e enclosure shown) noted_is
      ∙ ap (λ z. switch ((notes_of tokens).token at) z enclosure shown) (test_is ∙ ap (λ k. noted (notes_of tokens) k form) (omega arith))
      ∙ ap (switch ((notes_of tokens).token at) (noted (notes_of tokens) (at + 2) form) enclosure) (cases_is ∙ ap (λ k. noted_cases (notes_of tokens) k cases) (omega arith));
  sized = omega arith;
}
