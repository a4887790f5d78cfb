-- Statements by what they begin with.
use Rattle.std.proofs.Common.{◌≡◌, ◌≢◌, ◌≤◌, ◌<◌, ℕ, suc, ◌+◌, Bool, true, false, Option, Some, None, Result, Ok, Err, List, [], ◌∷◌, length, refl, sym, ◌∙◌, ap, arith}
use Rattle.php_token.specs.Token.{Token}
use Rattle.php_ast.specs.Symbol.{Symbol}
use Rattle.php_grammar.specs.statement.Role.{StatementBeginning, at_block, at_inline, at_jump, at_expression, statement_beginning}
use Rattle.php_grammar.specs.statement.Forms.{Around, StatementState, due_statement}
use Rattle.php_grammar.specs.statement.Machine.{begun as begun_state, advance_statement}
use Rattle.php_grammar.specs.statement.Depth.{statement_depth, depth_outside, begun_depth, begin_depth, statement_depth_at}
use Rattle.php_grammar_laws.specs.Walks.{deep, walk_statement}
use Rattle.php_reader.specs.declared.reader.Reader.{Reader}
use Rattle.php_reader.specs.declared.fail.Stop.{Stop}
use Rattle.php_reader.specs.Seen.{rest}
use Rattle.php_parse_simple.specs.declared.read.ReadStatement.{ReadStatement}
use Rattle.php_parse_simple.specs.declared.role.Begun.{Begun}
use Rattle.php_parse_simple.specs.declared.role.Begun.TheVariants as begun
use Rattle.php_parse_simple.specs.RoleView.{StartsStatement, begun_view, head_begun}
use Rattle.php_parse_simple.specs.Walk.{Halts, depth_before}
use Rattle.php_parse_simple.specs.Answer.{StopsAt, AnswersIn, AnswersBy, AnswersForm, AnswersStatement}
use Rattle.php_parse_simple.proofs.Fails.{outwards}
use Rattle.php_parse_simple.proofs.Moves.{sinks}
use Rattle.php_parse_statement.proofs.Lists.{no_block, starts_head}

-- ---- by where the first token stands

by_depth : (depth other : Around → ℕ) (room : ℕ) (tokens : List Token) (at : ℕ) (r : Result ReadStatement Stop) → ((o : Around) → depth o ≡ other o) → AnswersIn depth room tokens at r → AnswersIn other room tokens at r
by_depth depth other room tokens at (Ok r) same found = record {
  form = found.form;
  spans = found.spans;
  reads = record { same = λ n o is. found.reads.same n o (ap (λ d. d + room) (same o) ∙ is) };
  ahead = found.ahead;
  within = found.within;
}
by_depth depth other room tokens at (Err e) same fails = outwards other depth room room (λ o. due_statement o) (rest tokens at) tokens at e (λ o. ap (λ d. d + room) (same o)) fails

plain_depth : (x : StatementBeginning) (o : Around) → x ≢ at_block → statement_depth o ≡ begun_depth x o
plain_depth at_block o h = absurd (h refl)
plain_depth (at_inline text) o h = refl
plain_depth (at_jump kind) o h = refl
plain_depth _ o h = refl

depth_here : (w : List Symbol) (o : Around) → head_begun w ≢ at_block → statement_depth o ≡ depth_before w o
depth_here [] o h = refl
depth_here (t ∷ w) o h = plain_depth (statement_beginning t) o h

block_here : (w : List Symbol) (o : Around) → head_begun w ≡ at_block → depth_outside o ≡ depth_before w o
block_here [] o h = cc
block_here (t ∷ w) o h = ap (λ x. begun_depth x o) (sym h)

pub block_answers : (reader : Reader) (at : ℕ) (b : Begun) (text : List ℕ) (r : Result ReadStatement Stop) → b ≡ begun.Block → StartsStatement reader.tokens.now at (begun_view b text) → AnswersBy depth_outside reader at r → AnswersStatement reader at r
block_answers reader at b text r is starts answers =
    by_depth depth_outside (depth_before (rest reader.tokens.now at)) reader.room reader.tokens.now at r
    (λ o. block_here (rest reader.tokens.now at) o (starts_head reader.tokens.now at b text starts ∙ ap (λ x. begun_view x text) is)) answers

pub form_answers : (reader : Reader) (at : ℕ) (b : Begun) (text : List ℕ) (r : Result ReadStatement Stop) → b ≢ begun.Block → StartsStatement reader.tokens.now at (begun_view b text) → AnswersForm reader at r → AnswersStatement reader at r
form_answers reader at b text r other starts answers =
    by_depth statement_depth (depth_before (rest reader.tokens.now at)) reader.room reader.tokens.now at r
    (λ o. depth_here (rest reader.tokens.now at) o (λ e. no_block b text other (sym (starts_head reader.tokens.now at b text starts) ∙ e))) answers

-- ---- where no level is left

abbrev goes : Option StatementState → Bool
goes None = false
goes (Some m) = true

begun_goes : (x : StatementBeginning) (o : Around) (t : Symbol) → x ≢ at_expression → goes (begun_state x o t) ≡ true
begun_goes at_expression o t h = absurd (h refl)
begun_goes (at_inline text) o t h = refl
begun_goes (at_jump kind) o t h = refl
begun_goes _ o t h = refl

goes_sinks : (n : ℕ) (m : StatementState) (t : Symbol) (w : List Symbol) (b : Option StatementState) → advance_statement m t ≡ b → goes b ≡ true → n < statement_depth_at m t → walk_statement n m (t ∷ w) ≡ deep (t ∷ w)
goes_sinks n m t w None is h under = cc
goes_sinks n m t w (Some to) is h under = sinks n m to t w is under

sinks_here : (room : ℕ) (w : List Symbol) → room ≡ 0 → head_begun w ≢ at_expression → Halts true (depth_before w) room (λ o. due_statement o) w w
sinks_here room [] none h = absurd (h refl)
sinks_here room (t ∷ w) none h = record {
  same = λ n o is. goes_sinks n (due_statement o) t w (begun_state (statement_beginning t) o t) refl (begun_goes (statement_beginning t) o t h) (omega arith);
}

pub no_expression : (b : Begun) (text : List ℕ) → b ≢ begun.Expression → begun_view b text ≢ at_expression
no_expression begun.Expression text h = absurd (h refl)
no_expression begun.Inline text h = λ e. cc
no_expression (begun.Jump kind) text h = λ e. cc
no_expression _ text h = λ e. cc

pub statement_sinks : (reader : Reader) (at : ℕ) (b : Begun) (text : List ℕ) → reader.room ≡ 0 → at ≤ length reader.tokens.now → b ≢ begun.Expression → StartsStatement reader.tokens.now at (begun_view b text)
    → StopsAt true (depth_before (rest reader.tokens.now at)) reader.room (λ o. due_statement o) (rest reader.tokens.now at) reader.tokens.now at at
statement_sinks reader at b text none within other starts = record {
  halts = sinks_here reader.room (rest reader.tokens.now at) none (λ e. no_expression b text other (sym (starts_head reader.tokens.now at b text starts) ∙ e));
  ahead = omega arith;
  within = within;
}
