-- Statements around which no other statement is open.
use Rattle.std.proofs.Common.{◌≡◌, ◌≢◌, ◌≤◌, ℕ, suc, ◌+◌, ◌-◌, Bool, true, false, Option, Some, None, Ok, Err, List, [], ◌∷◌, length, refl, sym, ◌∙◌, ap, subst, arith}
use Rattle.php_token.specs.Token.{Token}
use Rattle.php_token.specs.declared.kind.Punct.TheVariants as mark
use Rattle.php_ast.specs.declared.operator.ArrayForm.TheVariants as array_form
use Rattle.php_ast.specs.Symbol.{Symbol, punct}
use Rattle.php_ast.specs.expression.Tree.{parentheses, emptiness, exiting, array, is_set}
use Rattle.php_ast.specs.statement.Tree.{Statement, Statements, and_statement}
use Rattle.php_grammar.specs.Run.{if_some}
use Rattle.php_grammar.specs.expression.Role.{Beginning, at_leaf, at_static, at_template, at_exit, at_new, at_yield, at_enclosed, at_listed, at_prefix, at_nothing, beginning}
use Rattle.php_grammar.specs.expression.Machine.{State, started, pick}
use Rattle.php_grammar.specs.statement.Role.{StatementBeginning, at_block, at_inline, at_jump, at_expression, statement_beginning, is_right_brace}
use Rattle.php_grammar.specs.statement.Forms.{as_line, in_expression, Around, due_statement, done}
use Rattle.php_grammar.specs.statement.Machine.{begun as begun_state}
use Rattle.php_grammar.specs.statement.Depth.{begun_depth}
use Rattle.php_grammar_laws.specs.Walks.{whole, walk_statement}
use Rattle.php_reader.specs.declared.reader.Reader.{Reader}
use Rattle.php_reader.specs.declared.fail.Stop.{Stop}
use Rattle.php_reader.specs.declared.fail.Stop.TheVariants.{Syntax, TooDeep, NoMemory}
use Rattle.php_reader.specs.Seen.{Shows, rest, test, head_beginning}
use Rattle.php_parse_simple.specs.declared.read.ReadStatement.{ReadStatement}
use Rattle.php_parse_simple.specs.RoleView.{head_begun}
use Rattle.php_parse_simple.specs.Walk.{Leads, depth_before}
use Rattle.php_parse_simple.specs.Answer.{Fails, FoundStatement, AnswersStatement}
use Rattle.php_parse_simple.proofs.Moves.{sticks}
use Rattle.php_parse_statement.specs.Rows.{Outermost, StopsAll, IsRow, is_some, goes_on, RowStops, RowFails}

-- ---- one statement

pub done_whole : (n : ℕ) (a : Statement (Unit {0})) (v : List Symbol) → walk_statement n (done a []) v ≡ whole a v
done_whole n a [] = refl
done_whole n a (t ∷ v) = sticks n (done a []) t v refl

begun_none : (x : StatementBeginning) → begun_depth x [] ≡ 0
begun_none at_block = refl
begun_none (at_inline text) = refl
begun_none (at_jump kind) = refl
begun_none _ = refl

pub before_none : (w : List Symbol) → depth_before w [] ≡ 0
before_none [] = refl
before_none (t ∷ w) = begun_none (statement_beginning t)

-- by the levels that are left
pub outermost_at : (room : ℕ) (tokens : List Token) (at n : ℕ) (r : ReadStatement) → FoundStatement (depth_before (rest tokens at)) room tokens at r → room ≡ suc n → Outermost n tokens at r
outermost_at room tokens at n r found room_is = record {
  form = found.form;
  shown = found.spans.shown;
  sized = found.spans.sized;
  reads = found.reads.same n [] (omega (arith, before_none (rest tokens at))) ∙ done_whole n found.form (rest tokens r.next);
  ahead = found.ahead;
  within = found.within;
}

pub outermost_fails_at : (room : ℕ) (tokens : List Token) (at n : ℕ) (e : Stop) → Fails (depth_before (rest tokens at)) room (λ o. due_statement o) (rest tokens at) tokens at e → room ≡ suc n → StopsAll n tokens at e
outermost_fails_at room tokens at n (Syntax k) fails room_is = record { halts = fails.halts.same n [] (omega (arith, before_none (rest tokens at))); ahead = fails.ahead; within = fails.within }
outermost_fails_at room tokens at n (TooDeep k) fails room_is = record { halts = fails.halts.same n [] (omega (arith, before_none (rest tokens at))); ahead = fails.ahead; within = fails.within }
outermost_fails_at room tokens at n NoMemory fails room_is = tt

pub outermost : (reader : Reader) (at n : ℕ) (r : ReadStatement) → AnswersStatement reader at (Ok r) → reader.room ≡ suc n → Outermost n reader.tokens.now at r
outermost reader at n r found room_is = outermost_at reader.room reader.tokens.now at n r found room_is

pub outermost_fails : (reader : Reader) (at n : ℕ) (e : Stop) → AnswersStatement reader at (Err e) → reader.room ≡ suc n → StopsAll n reader.tokens.now at e
outermost_fails reader at n e fails room_is = outermost_fails_at reader.room reader.tokens.now at n e fails room_is

-- ---- between braces

brace_is : (t : Symbol) → is_right_brace t ≡ true → t ≡ punct mark.RightBrace
brace_is (punct mark.RightBrace) h = refl
brace_is _ h = cc

pub row_ends : (tokens : List Token) (next n : ℕ) (w : List Symbol) (ss : Statements (Unit {0})) → Shows is_right_brace tokens next true → IsRow n w ss (rest tokens next) → IsRow n w ss (punct mark.RightBrace ∷ rest tokens (next + 1))
row_ends tokens next n w ss s row = subst (IsRow n w ss) (s.stands.is ∙ ap (λ t. t ∷ rest tokens (next + 1)) (brace_is s.token s.role_is)) row

-- one more statement
pub row_grows : (room : ℕ) (tokens : List Token) (n : ℕ) (w : List Symbol) (next behind : ℕ) (ss : Statements (Unit {0})) (a : Statement (Unit {0})) → room ≡ suc (suc n) → IsRow n w ss (rest tokens next) → test is_right_brace (rest tokens next) ≡ false
    → Leads (depth_before (rest tokens next)) (room - 1) (λ o. due_statement o) (rest tokens next) (λ o. done a o) (rest tokens behind) → IsRow n w (and_statement ss a) (rest tokens behind)
row_grows room tokens n w next behind ss a is row brace r =
    (rest tokens next, (row, record { no_brace = brace; reads = r.same n [] (omega (arith, before_none (rest tokens next))) ∙ done_whole n a (rest tokens behind) }))

-- a statement that stops, behind some
pub row_fails : (room : ℕ) (tokens : List Token) (at next : ℕ) (ss : Statements (Unit {0})) (e : Stop) → 2 ≤ room → at ≤ next → ((n : ℕ) → room ≡ suc (suc n) → IsRow n (rest tokens at) ss (rest tokens next)) → test is_right_brace (rest tokens next) ≡ false
    → Fails (depth_before (rest tokens next)) (room - 1) (λ o. due_statement o) (rest tokens next) tokens next e → RowFails room tokens at e
row_fails room tokens at next ss (Syntax k) roomy ahead row brace fails = record {
  inside = λ n is. record { statements = ss; mid = rest tokens next; row = row n is; no_brace = brace; halts = fails.halts.same n [] (omega (arith, before_none (rest tokens next))) };
  none = λ one. absurd (omega arith);
  ahead = omega (arith, fails.ahead);
  within = fails.within;
}
row_fails room tokens at next ss (TooDeep k) roomy ahead row brace fails = record {
  inside = λ n is. record { statements = ss; mid = rest tokens next; row = row n is; no_brace = brace; halts = fails.halts.same n [] (omega (arith, before_none (rest tokens next))) };
  none = λ one. absurd (omega arith);
  ahead = omega (arith, fails.ahead);
  within = fails.within;
}
row_fails room tokens at next ss NoMemory roomy ahead row brace fails = tt

-- ---- where no level is left in the braces

row_sunk : (too_deep : Bool) (tokens : List Token) (at : ℕ) → at ≤ length tokens → test goes_on (rest tokens at) ≡ too_deep → RowStops too_deep 1 tokens at at
row_sunk too_deep tokens at within h = record { inside = λ n is. absurd (omega arith); none = λ one. (refl, h); ahead = omega arith; within = within }

brace_goes : (w : List Symbol) → test is_right_brace w ≡ true → test goes_on w ≡ true
brace_goes [] h = cc
brace_goes (t ∷ w) h = ap (λ b. pick b true (is_some (begun_state (statement_beginning t) [] t))) h

pub brace_sunk : (tokens : List Token) (at : ℕ) → Shows is_right_brace tokens at true → RowStops true 1 tokens at at
brace_sunk tokens at s = row_sunk true tokens at (omega (arith, s.stands.within)) (brace_goes (rest tokens at) (ap (test is_right_brace) s.stands.is ∙ s.role_is))

begun_some : (x : StatementBeginning) (t : Symbol) → x ≢ at_expression → is_some (begun_state x [] t) ≡ true
begun_some at_expression t h = absurd (h refl)
begun_some (at_inline text) t h = refl
begun_some (at_jump kind) t h = refl
begun_some _ t h = refl

pick_true : (b c : Bool) → c ≡ true → pick b true c ≡ true
pick_true true c h = refl
pick_true false c h = h

form_goes : (w : List Symbol) → head_begun w ≢ at_expression → test goes_on w ≡ true
form_goes [] h = absurd (h refl)
form_goes (t ∷ w) h = pick_true (is_right_brace t) (is_some (begun_state (statement_beginning t) [] t)) (begun_some (statement_beginning t) t h)

pub form_sunk : (tokens : List Token) (at : ℕ) → at ≤ length tokens → head_begun (rest tokens at) ≢ at_expression → RowStops true 1 tokens at at
form_sunk tokens at within h = row_sunk true tokens at within (form_goes (rest tokens at) h)

started_some : (b : Beginning) → b ≢ at_nothing → is_some (if_some (started b []) (λ m. Some (in_expression as_line m []))) ≡ true
started_some at_nothing h = absurd (h refl)
started_some (at_leaf l) h = refl
started_some at_static h = refl
started_some at_template h = refl
started_some at_exit h = refl
started_some at_new h = refl
started_some at_yield h = refl
started_some (at_enclosed parentheses) h = refl
started_some (at_enclosed emptiness) h = refl
started_some (at_enclosed exiting) h = refl
started_some (at_listed (array array_form.Brackets)) h = refl
started_some (at_listed (array array_form.Array)) h = refl
started_some (at_listed (array array_form.List)) h = refl
started_some (at_listed is_set) h = refl
started_some (at_prefix op) h = refl

expression_goes : (w : List Symbol) → head_begun w ≡ at_expression → head_beginning w ≢ at_nothing → test goes_on w ≡ true
expression_goes [] h g = absurd (g refl)
expression_goes (t ∷ w) h g =
    pick_true (is_right_brace t) (is_some (begun_state (statement_beginning t) [] t)) (ap (λ x. is_some (begun_state x [] t)) h ∙ started_some (beginning t) g)

pub expression_sunk : (tokens : List Token) (at : ℕ) → at ≤ length tokens → head_begun (rest tokens at) ≡ at_expression → head_beginning (rest tokens at) ≢ at_nothing → RowStops true 1 tokens at at
expression_sunk tokens at within h g = row_sunk true tokens at within (expression_goes (rest tokens at) h g)

nothing_goes : (w : List Symbol) → test is_right_brace w ≡ false → head_begun w ≡ at_expression → head_beginning w ≡ at_nothing → test goes_on w ≡ false
nothing_goes [] f h g = refl
nothing_goes (t ∷ w) f h g =
    ap (λ b. pick b true (is_some (begun_state (statement_beginning t) [] t))) f ∙ ap (λ x. is_some (begun_state x [] t)) h ∙ ap (λ b. is_some (if_some (started b []) (λ m. Some (in_expression as_line m [])))) g

pub nothing_sunk : (tokens : List Token) (at : ℕ) → at ≤ length tokens → test is_right_brace (rest tokens at) ≡ false → head_begun (rest tokens at) ≡ at_expression → head_beginning (rest tokens at) ≡ at_nothing → RowStops false 1 tokens at at
nothing_sunk tokens at within f h g = row_sunk false tokens at within (nothing_goes (rest tokens at) f h g)
