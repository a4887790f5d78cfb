-- Lists of statements, blocks and bodies.
use Rattle.std.proofs.Common.{◌≡◌, ◌≢◌, ◌≤◌, ℕ, ◌+◌, ◌-◌, Bool, true, false, Some, None, Result, Ok, Err, List, [], ◌∷◌, ◌++◌, map, refl, sym, ◌∙◌, ap, arith}
use Rattle.php_token.specs.Token.{Token}
use Rattle.php_token.specs.declared.kind.Keyword.{Keyword}
use Rattle.php_token.specs.declared.kind.Keyword.TheVariants as word
use Rattle.php_token.specs.declared.kind.Punct.{Punct}
use Rattle.php_token.specs.declared.kind.Punct.TheVariants as mark
use Rattle.php_ast.specs.declared.statement.Stmt.{Stmt}
use Rattle.php_ast.specs.declared.statement.SwitchForm.{SwitchForm}
use Rattle.php_ast.specs.declared.statement.SwitchForm.TheVariants as switch_form
use Rattle.php_ast.specs.statement.Spelling.{cases_closing}
use Rattle.php_ast.specs.Symbol.{Symbol, keyword, punct}
use Rattle.php_ast.specs.expression.View.{Note}
use Rattle.php_ast.specs.expression.Placed.{notes_of}
use Rattle.php_ast.specs.statement.Tree.{Statement, block, Statements, no_statement, and_statement}
use Rattle.php_ast.specs.statement.View.{statements_from, list_view, statement_view, statements_view}
use Rattle.php_ast.specs.statement.Placed.{size_statements, noted_statement, noted_statements}
use Rattle.php_grammar.specs.Run.{either}
use Rattle.php_grammar.specs.expression.Machine.{Nothing, pick}
use Rattle.php_grammar.specs.statement.Laws.{head_behind}
use Rattle.php_grammar.specs.statement.Role.{StatementBeginning, at_block, statement_beginning, Behind, by_else, by_while, by_brace, by_other, behind, behind_keyword, behind_punct, body_strength, ends_outside}
use Rattle.php_grammar.specs.statement.Forms.{StatementList, of_block, of_if, of_elseif, of_else, of_loop, of_case, of_try, of_catch, of_finally, list_open, if_open, elseif_open, else_open, loop_open, do_open, OpenStatement, Around, StatementState, due_statement, done, due_in_list, listed_statement}
use Rattle.php_grammar.specs.statement.Machine.{begun as begun_state, begin, list_end, advance_statement}
use Rattle.php_grammar.specs.statement.Depth.{is_body_at, statement_depth, depth_outside, begun_depth, begin_depth, list_depth, form_depth, kept_bodies}
use Rattle.php_grammar.specs.statement.Reading.{halt_statement, list_rest, missing_around, completed_around}
use Rattle.php_grammar.proofs.statement.Starts.{ender, no_end, behind_list}
use Rattle.php_grammar_laws.specs.Walks.{short, deep, outcome, walk_statement}
use Rattle.php_parse_simple.specs.Walk.{Leads, Halts, depth_before}
use Rattle.php_parse_simple.specs.RoleView.{StartsStatement, begun_view, ends_list, head_begun}
use Rattle.php_parse_simple.specs.declared.role.Begun.{Begun}
use Rattle.php_parse_simple.specs.declared.role.Begun.TheVariants as begun
use Rattle.php_parse_simple.specs.declared.read.ReadStatement.{ReadStatement}
use Rattle.php_reader.specs.declared.reader.Reader.{Reader}
use Rattle.php_reader.specs.declared.fail.Stop.{Stop}
use Rattle.php_reader.specs.declared.fail.Stop.TheVariants.{Syntax, TooDeep, NoMemory}
use Rattle.php_reader.specs.Seen.{Shows, rest}
use Rattle.php_parse_simple.specs.Answer.{SpansStatement, Fails, AnswersBy}
use Rattle.php_parse_statement.specs.Within.{AnswersInside}
use Rattle.php_parse_statement.specs.ListAnswer.{list_measure, IsBraced, AnswersBody}
use Rattle.php_parse_simple.proofs.Moves.{moves, sinks, sticks, alike, Some_of, lacks_by}

-- ---- the nesting in a list

measure_by : (list : StatementList) (ss : Statements Nothing) (o : Around) → statement_depth (list_open list ss ∷ o) ≡ 1 + list_measure list o
measure_by of_block ss [] = refl
measure_by of_block ss (list_open list others ∷ o) = refl
measure_by of_block ss (if_open test ∷ o) = refl
measure_by of_block ss (elseif_open test body parts last ∷ o) = refl
measure_by of_block ss (else_open test body parts ∷ o) = refl
measure_by of_block ss (loop_open loop ∷ o) = refl
measure_by of_block ss (do_open ∷ o) = refl
measure_by (of_if test) ss o = refl
measure_by (of_elseif test body parts last) ss o = refl
measure_by (of_else test body parts) ss o = refl
measure_by (of_loop loop) ss o = refl
measure_by (of_case e form cases label end) ss o = refl
measure_by of_try ss o = refl
measure_by (of_catch body catches classes variable) ss o = refl
measure_by (of_finally body catches) ss o = refl

begun_in : (x : StatementBeginning) (list : StatementList) (ss : Statements Nothing) (o : Around) → begun_depth x (list_open list ss ∷ o) ≡ statement_depth (list_open list ss ∷ o)
begun_in at_block list ss o = refl
begun_in _ list ss o = refl

pub before_in : (w : List Symbol) (list : StatementList) (ss : Statements Nothing) (o : Around) → depth_before w (list_open list ss ∷ o) ≡ 1 + list_measure list o
before_in [] list ss o = measure_by list ss o
before_in (t ∷ w) list ss o = begun_in (statement_beginning t) list ss o ∙ measure_by list ss o

-- of a symbol that would begin a statement there
pub begun_deep : (list : StatementList) (ss : Statements Nothing) (o : Around) (t : Symbol) → begin_depth (list_open list ss ∷ o) t ≡ 1 + list_measure list o
begun_deep list ss o t = begun_in (statement_beginning t) list ss o ∙ measure_by list ss o

-- ---- what halts in a list

list_some : (list : StatementList) (w : List Symbol) → Some_of (list_rest list w)
list_some (of_if test) w = tt
list_some (of_elseif test body parts last) w = tt
list_some (of_else test body parts) w = tt
list_some (of_loop loop) w = tt
list_some (of_case e form cases label end) w = case_some form w
  where
    case_some : (form : SwitchForm) (w : List Symbol) → Some_of (cases_closing form w)
    case_some switch_form.Braces w = tt
    case_some switch_form.Colon w = tt
list_some of_try w = tt
list_some _ w = tt

pub list_lacks : (list : StatementList) (ss : Statements Nothing) (o : Around) (w : List Symbol) → outcome (halt_statement (due_in_list list ss o) w) ≡ short w
list_lacks list ss o w = lacks_by (list_rest list (missing_around o)) (completed_around o (listed_statement list ss)) w (list_some list (missing_around o))

-- ---- a further statement

ender_is : (x : Behind) → ender x ≡ ends_list x
ender_is by_while = refl
ender_is by_other = refl
ender_is _ = refl

outside_none : (x : Behind) → ends_list x ≡ false → ends_outside x ≡ false
outside_none by_while h = refl
outside_none by_other h = refl
outside_none _ h = cc

enters_in : (n : ℕ) (list : StatementList) (ss : Statements Nothing) (o : Around) (w : List Symbol) → ends_list (head_behind w) ≡ false
    → walk_statement n (due_in_list list ss o) w ≡ walk_statement n (due_statement (list_open list ss ∷ o)) w
enters_in n list ss o [] h = list_lacks list ss o []
enters_in n list ss o (t ∷ w) h =
    alike n (due_in_list list ss o) (due_statement (list_open list ss ∷ o)) t w
    (ap (λ u. either u (begin (list_open list ss ∷ o) t)) (no_end list ss o (behind t) (ender_is (behind t) ∙ h)))
    (ap (λ b. pick b (statement_depth o) (begin_depth (list_open list ss ∷ o) t)) (outside_none (behind t) h))
    (list_lacks list ss o (t ∷ w))

-- behind a statement
begun_same : (x : StatementBeginning) (list : StatementList) (ss other : Statements Nothing) (o : Around) → begun_depth x (list_open list ss ∷ o) ≡ begun_depth x (list_open list other ∷ o)
begun_same x list ss other o = begun_in x list ss o ∙ measure_by list ss o ∙ sym (measure_by list other o) ∙ sym (begun_in x list other o)

form_in : (x : Behind) (list : StatementList) (ss : Statements Nothing) (o : Around) (t : Symbol) → form_depth (kept_bodies (body_strength x) (list_open list ss ∷ o)) t ≡ list_depth (list_open list ss) o t
form_in by_else list ss o t = refl
form_in _ list ss o t = refl

follows_in : (n : ℕ) (list : StatementList) (ss : Statements Nothing) (a : Statement Nothing) (o : Around) (w : List Symbol)
    → walk_statement n (done a (list_open list ss ∷ o)) w ≡ walk_statement n (due_in_list list (and_statement ss a) o) w
follows_in n list ss a o [] = refl
follows_in n list ss a o (t ∷ w) =
    alike n (done a (list_open list ss ∷ o)) (due_in_list list (and_statement ss a) o) t w (behind_list (behind t) list ss a o t)
    (form_in (behind t) list ss o t ∙ ap (pick (ends_outside (behind t)) (statement_depth o)) (begun_same (statement_beginning t) list ss (and_statement ss a) o))
    refl

-- one more statement, read one level deeper
pub one_more : {room : ℕ} {w v : List Symbol} (list : StatementList) (ss : Statements Nothing) (a : Statement Nothing) → 1 ≤ room → ends_list (head_behind w) ≡ false
    → Leads (depth_before w) (room - 1) (λ o. due_statement o) w (λ o. done a o) v
    → Leads (list_measure list) room (λ o. due_in_list list ss o) w (λ o. due_in_list list (and_statement ss a) o) v
one_more {room} {w} {v} list ss a roomy h r = record {
  same = λ n o is. enters_in n list ss o w h ∙ r.same n (list_open list ss ∷ o) (omega (arith, before_in w list ss o)) ∙ follows_in n list ss a o v;
}

pub one_fails : {room : ℕ} {w v : List Symbol} (too_deep : Bool) (list : StatementList) (ss : Statements Nothing) → 1 ≤ room → ends_list (head_behind w) ≡ false
    → Halts too_deep (depth_before w) (room - 1) (λ o. due_statement o) w v → Halts too_deep (list_measure list) room (λ o. due_in_list list ss o) w v
one_fails {room} {w} {v} too_deep list ss roomy h r = record {
  same = λ n o is. enters_in n list ss o w h ∙ r.same n (list_open list ss ∷ o) (omega (arith, before_in w list ss o));
}

-- ---- the end of a list

keyword_none : (o : Around) (k : Keyword) → ends_list (behind_keyword k) ≡ true → begin o (keyword k) ≡ None
keyword_none o word.Else h = refl
keyword_none o word.ElseIf h = refl
keyword_none o word.Case h = refl
keyword_none o word.Default h = refl
keyword_none o word.EndIf h = refl
keyword_none o word.EndWhile h = refl
keyword_none o word.EndFor h = refl
keyword_none o word.EndForeach h = refl
keyword_none o word.EndSwitch h = refl
keyword_none o word.Catch h = refl
keyword_none o word.Finally h = refl
keyword_none o _ h = cc

punct_none : (o : Around) (p : Punct) → ends_list (behind_punct p) ≡ true → begin o (punct p) ≡ None
punct_none o mark.RightBrace h = refl
punct_none o _ h = cc

-- no statement begins with what ends a list
pub ender_none : (o : Around) (t : Symbol) → ends_list (behind t) ≡ true → begin o t ≡ None
ender_none o (keyword k) h = keyword_none o k h
ender_none o (punct p) h = punct_none o p h
ender_none o _ h = cc

unended : (n : ℕ) (list : StatementList) (ss : Statements Nothing) (o : Around) (w : List Symbol) → ends_list (head_behind w) ≡ true → list_end list ss o (head_behind w) ≡ None → walk_statement n (due_in_list list ss o) w ≡ short w
unended n list ss o [] h none = list_lacks list ss o []
unended n list ss o (t ∷ w) h none =
    sticks n (due_in_list list ss o) t w (ap (λ u. either u (begin (list_open list ss ∷ o) t)) none ∙ ender_none (list_open list ss ∷ o) t h) ∙ list_lacks list ss o (t ∷ w)

-- a token that ends another list
pub list_unended : {depth : Around → ℕ} {room : ℕ} {w : List Symbol} (list : StatementList) (ss : Statements Nothing) → ends_list (head_behind w) ≡ true → ((o : Around) → list_end list ss o (head_behind w) ≡ None)
    → Halts false depth room (λ o. due_in_list list ss o) w w
list_unended {depth} {room} {w} list ss h none = record { same = λ n o is. unended n list ss o w h (none o) }

-- one that stands outside the list
pub list_outside : {room : ℕ} {x w : List Symbol} (list : StatementList) (ss : Statements Nothing) (t : Symbol) (b : Behind) (to : Around → StatementState) → x ≡ t ∷ w → behind t ≡ b → ends_outside b ≡ true
    → ((o : Around) → list_end list ss o b ≡ Some (to o)) → 1 ≤ room → Leads statement_depth room (λ o. due_in_list list ss o) x to w
list_outside {room} {x} {w} list ss t b to is role_is outside ends roomy = record {
  same = λ n o at.
      ap (walk_statement n (due_in_list list ss o)) is
      ∙ moves n (due_in_list list ss o) (to o) t w (ap (λ z. either (list_end list ss o z) (begin (list_open list ss ∷ o) t)) role_is ∙ ap (λ u. either u (begin (list_open list ss ∷ o) t)) (ends o))
      (omega (arith, ap (λ z. pick (ends_outside z) (statement_depth o) (begin_depth (list_open list ss ∷ o) t)) role_is, ap (λ b. pick b (statement_depth o) (begin_depth (list_open list ss ∷ o) t)) outside));
}

-- `}`, which stands inside
brace_deep : (list : StatementList) (ss : Statements Nothing) (o : Around) (t : Symbol) → behind t ≡ by_brace → list_depth (list_open list ss) o t ≡ 1 + list_measure list o
brace_deep list ss o t h =
    ap (λ z. pick (ends_outside z) (statement_depth o) (begin_depth (list_open list ss ∷ o) t)) h ∙ begun_in (statement_beginning t) list ss o ∙ measure_by list ss o

brace_step : (list : StatementList) (ss : Statements Nothing) (o : Around) (t : Symbol) (to : StatementState) → behind t ≡ by_brace → list_end list ss o by_brace ≡ Some to → advance_statement (due_in_list list ss o) t ≡ Some to
brace_step list ss o t to h ends = ap (λ z. either (list_end list ss o z) (begin (list_open list ss ∷ o) t)) h ∙ ap (λ u. either u (begin (list_open list ss ∷ o) t)) ends

pub brace_closes : {room : ℕ} {x w : List Symbol} (list : StatementList) (to : Statements Nothing → Around → StatementState) (ss : Statements Nothing) (t : Symbol) → IsBraced list to → x ≡ t ∷ w → behind t ≡ by_brace → 2 ≤ room
    → Leads (list_measure list) room (λ o. due_in_list list ss o) x (λ o. to ss o) w
brace_closes {room} {x} {w} list to ss t braced is role_is roomy = record {
  same = λ n o at.
      ap (walk_statement n (due_in_list list ss o)) is
      ∙ moves n (due_in_list list ss o) (to ss o) t w (brace_step list ss o t (to ss o) role_is (braced.closes ss o)) (omega (arith, brace_deep list ss o t role_is));
}

pub brace_sinks : {room : ℕ} {x w : List Symbol} (list : StatementList) (to : Statements Nothing → Around → StatementState) (ss : Statements Nothing) (t : Symbol) → IsBraced list to → x ≡ t ∷ w → behind t ≡ by_brace → room ≡ 1
    → Halts true (list_measure list) room (λ o. due_in_list list ss o) x x
brace_sinks {room} {x} {w} list to ss t braced is role_is one = record {
  same = λ n o at.
      ap (walk_statement n (due_in_list list ss o)) is
      ∙ sinks n (due_in_list list ss o) (to ss o) t w (brace_step list ss o t (to ss o) role_is (braced.closes ss o)) (omega (arith, brace_deep list ss o t role_is))
      ∙ ap deep (sym is);
}

-- ---- blocks

block_only : (ss : Statements Nothing) (o : Around) (x : Behind) → x ≢ by_brace → list_end of_block ss o x ≡ None
block_only ss o by_brace h = absurd (h refl)
block_only ss o _ h = refl

pub block_braced : IsBraced of_block (λ ss o. done (block tt ss) o)
block_braced = record { closes = λ ss o. refl; only = λ ss o x h. block_only ss o x h }

pub block_opens : {room : ℕ} {x w : List Symbol} (t : Symbol) → x ≡ t ∷ w → statement_beginning t ≡ at_block → 1 ≤ room → Leads depth_outside room (λ o. due_statement o) x (λ o. due_in_list of_block no_statement o) w
block_opens {room} {x} {w} t is begins roomy = record {
  same = λ n o at.
      ap (walk_statement n (due_statement o)) is
      ∙ moves n (due_statement o) (due_in_list of_block no_statement o) t w (ap (λ z. begun_state z o t) begins) (omega (arith, ap (λ z. begun_depth z o) begins));
}

pub block_spans : (tokens : List Token) (made : Statement Note) (spot : Note) (shown : Statements Note) (ss : Statements Nothing) (at next : ℕ) → made ≡ block spot shown → spot ≡ (notes_of tokens).token at
    → shown ≡ noted_statements (notes_of tokens) (at + 1) ss → (at + 1) + size_statements ss + 1 ≡ next → SpansStatement tokens made (block tt ss) at next
block_spans tokens made spot shown ss at next is noted_is same sized =
    record { shown = is ∙ ap (λ n. block n shown) noted_is ∙ ap (block ((notes_of tokens).token at)) same; sized = omega (arith, sized) }

-- ---- bodies

pub body_outside : (f : OpenStatement) (o : Around) → is_body_at f ≡ true → depth_outside (f ∷ o) ≡ statement_depth o
body_outside (list_open list ss) o h = cc
body_outside (if_open test) o h = refl
body_outside (elseif_open test body parts last) o h = refl
body_outside (else_open test body parts) o h = refl
body_outside (loop_open loop) o h = refl
body_outside do_open o h = refl

body_inside : (f : OpenStatement) (o : Around) → is_body_at f ≡ true → statement_depth (f ∷ o) ≡ 1 + statement_depth o
body_inside (list_open list ss) o h = cc
body_inside (if_open test) o h = refl
body_inside (elseif_open test body parts last) o h = refl
body_inside (else_open test body parts) o h = refl
body_inside (loop_open loop) o h = refl
body_inside do_open o h = refl

begun_body : (x : StatementBeginning) (f : OpenStatement) (o : Around) → x ≢ at_block → is_body_at f ≡ true → begun_depth x (f ∷ o) ≡ 1 + statement_depth o
begun_body at_block f o h body = absurd (h refl)
begun_body _ f o h body = body_inside f o body

pub before_body : (w : List Symbol) (f : OpenStatement) (o : Around) → head_begun w ≢ at_block → is_body_at f ≡ true → depth_before w (f ∷ o) ≡ 1 + statement_depth o
before_body [] f o h body = body_inside f o body
before_body (t ∷ w) f o h body = begun_body (statement_beginning t) f o h body

-- ---- statements that grow

statements_end : (before : Statements Note) (xs : List (Statement Note)) (x : Statement Note) → statements_from before (xs ++ x ∷ []) ≡ and_statement (statements_from before xs) x
statements_end before [] x = refl
statements_end before (y ∷ xs) x = statements_end (and_statement before y) xs x

map_end : (xs : List Stmt) (x : Stmt) → map statement_view (xs ++ x ∷ []) ≡ map statement_view xs ++ statement_view x ∷ []
map_end [] x = refl
map_end (y ∷ xs) x = ap (λ v. statement_view y ∷ v) (map_end xs x)

pub statements_more : (tokens : List Token) (at place : ℕ) (ss : Statements Nothing) (a : Statement Nothing) (xs new : List Stmt) (x : Stmt) → new ≡ xs ++ x ∷ []
    → statements_view xs ≡ noted_statements (notes_of tokens) at ss → at + size_statements ss ≡ place → statement_view x ≡ noted_statement (notes_of tokens) place a
    → statements_view new ≡ noted_statements (notes_of tokens) at (and_statement ss a)
statements_more tokens at place ss a xs new x grown shown sized is =
    ap statements_view grown ∙ ap list_view (map_end xs x) ∙ statements_end no_statement (map statement_view xs) (statement_view x)
    ∙ ap (λ z. and_statement z (statement_view x)) shown ∙ ap (and_statement (noted_statements (notes_of tokens) at ss)) (is ∙ ap (λ k. noted_statement (notes_of tokens) k a) (sym sized))

-- ---- failures inside

pub one_failed : (room : ℕ) (tokens : List Token) (next : ℕ) (e : Stop) (list : StatementList) (ss : Statements Nothing) → 1 ≤ room → ends_list (head_behind (rest tokens next)) ≡ false
    → Fails (depth_before (rest tokens next)) (room - 1) (λ o. due_statement o) (rest tokens next) tokens next e
    → Fails (list_measure list) room (λ o. due_in_list list ss o) (rest tokens next) tokens next e
one_failed room tokens next (Syntax k) list ss roomy h r = record { halts = one_fails false list ss roomy h r.halts; ahead = r.ahead; within = r.within }
one_failed room tokens next (TooDeep k) list ss roomy h r = record { halts = one_fails true list ss roomy h r.halts; ahead = r.ahead; within = r.within }
one_failed room tokens next NoMemory list ss roomy h r = tt

-- ---- a body by what is read in its place

body_fails : (depth : Around → ℕ) (room within : ℕ) (w : List Symbol) (tokens : List Token) (at : ℕ) (e : Stop) (f : OpenStatement) → ((o : Around) → depth (f ∷ o) + within ≡ statement_depth o + room)
    → Fails depth within (λ o. due_statement o) w tokens at e → Fails statement_depth room (λ o. due_statement (f ∷ o)) w tokens at e
body_fails depth room within w tokens at (Syntax k) f same r = record { halts = record { same = λ n o is. r.halts.same n (f ∷ o) (same o ∙ is) }; ahead = r.ahead; within = r.within }
body_fails depth room within w tokens at (TooDeep k) f same r = record { halts = record { same = λ n o is. r.halts.same n (f ∷ o) (same o ∙ is) }; ahead = r.ahead; within = r.within }
body_fails depth room within w tokens at NoMemory f same r = tt

pub body_block : (reader : Reader) (at : ℕ) (r : Result ReadStatement Stop) → AnswersBy depth_outside reader at r → AnswersBody reader at r
body_block reader at (Ok r) found = record {
  form = found.form;
  spans = found.spans;
  reads = λ f h. record { same = λ n o is. found.reads.same n (f ∷ o) (ap (λ d. d + reader.room) (body_outside f o h) ∙ is) };
  ahead = found.ahead;
  within = found.within;
}
body_block reader at (Err e) fails = λ f h.
    body_fails depth_outside reader.room reader.room (rest reader.tokens.now at) reader.tokens.now at e f (λ o. ap (λ d. d + reader.room) (body_outside f o h)) fails

pub body_deeper : (reader : Reader) (at : ℕ) (r : Result ReadStatement Stop) → 1 ≤ reader.room → head_begun (rest reader.tokens.now at) ≢ at_block → AnswersInside reader at r → AnswersBody reader at r
body_deeper reader at (Ok r) roomy h found = record {
  form = found.form;
  spans = found.spans;
  reads = λ f b. record { same = λ n o is. found.reads.same n (f ∷ o) (omega (arith, before_body (rest reader.tokens.now at) f o h b)) };
  ahead = found.ahead;
  within = found.within;
}
body_deeper reader at (Err e) roomy h fails = λ f b.
    body_fails (depth_before (rest reader.tokens.now at)) reader.room (reader.room - 1) (rest reader.tokens.now at) reader.tokens.now at e f
    (λ o. omega (arith, before_body (rest reader.tokens.now at) f o h b)) fails

-- ---- what a token begins

begun_of : (tokens : List Token) (at : ℕ) (x : StatementBeginning) → Shows statement_beginning tokens at x → head_begun (rest tokens at) ≡ x
begun_of tokens at x h = ap head_begun h.stands.is ∙ h.role_is

pub starts_head : (tokens : List Token) (at : ℕ) (b : Begun) (text : List ℕ) → StartsStatement tokens at (begun_view b text) → head_begun (rest tokens at) ≡ begun_view b text
starts_head tokens at begun.Expression text h = h
starts_head tokens at begun.Block text h = begun_of tokens at at_block h
starts_head tokens at begun.Blank text h = begun_of tokens at (begun_view begun.Blank text) h
starts_head tokens at begun.Inline text h = begun_of tokens at (begun_view begun.Inline text) h
starts_head tokens at begun.Echo text h = begun_of tokens at (begun_view begun.Echo text) h
starts_head tokens at begun.Globals text h = begun_of tokens at (begun_view begun.Globals text) h
starts_head tokens at begun.Statics text h = begun_of tokens at (begun_view begun.Statics text) h
starts_head tokens at begun.Unset text h = begun_of tokens at (begun_view begun.Unset text) h
starts_head tokens at begun.Constants text h = begun_of tokens at (begun_view begun.Constants text) h
starts_head tokens at (begun.Jump kind) text h = begun_of tokens at (begun_view (begun.Jump kind) text) h
starts_head tokens at begun.Throw text h = begun_of tokens at (begun_view begun.Throw text) h
starts_head tokens at begun.If text h = begun_of tokens at (begun_view begun.If text) h
starts_head tokens at begun.While text h = begun_of tokens at (begun_view begun.While text) h
starts_head tokens at begun.Do text h = begun_of tokens at (begun_view begun.Do text) h
starts_head tokens at begun.For text h = begun_of tokens at (begun_view begun.For text) h
starts_head tokens at begun.Foreach text h = begun_of tokens at (begun_view begun.Foreach text) h
starts_head tokens at begun.Switch text h = begun_of tokens at (begun_view begun.Switch text) h
starts_head tokens at begun.Try text h = begun_of tokens at (begun_view begun.Try text) h
starts_head tokens at begun.Declare text h = begun_of tokens at (begun_view begun.Declare text) h

pub no_block : (b : Begun) (text : List ℕ) → b ≢ begun.Block → begun_view b text ≢ at_block
no_block begun.Block text h = absurd (h refl)
no_block begun.Inline text h = λ e. cc
no_block (begun.Jump kind) text h = λ e. cc
no_block _ text h = λ e. cc
