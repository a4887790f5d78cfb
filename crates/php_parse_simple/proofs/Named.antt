-- Names between commas, and what stands behind them.
use Rattle.std.proofs.Common.{◌≡◌, ◌≢◌, ◌≤◌, ℕ, ℤ, suc, ◌+◌, true, false, Option, Some, None, List, [], ◌∷◌, ◌++◌, map, refl, sym, ◌∙◌, ap, arith}
use Rattle.std.specs.Prelude.{nat_lt}
use Rattle.std.proofs.lemmas.Bool.{le-ltb}
use Rattle.php_token.specs.Token.{Token}
use Rattle.php_token.specs.declared.kind.Keyword.{Keyword}
use Rattle.php_token.specs.declared.kind.Keyword.TheVariants as word
use Rattle.php_token.specs.declared.kind.Punct.{Punct}
use Rattle.php_token.specs.declared.kind.Punct.TheVariants as mark
use Rattle.php_ast.specs.Symbol as symbol
use Rattle.php_ast.specs.Symbol.{Symbol, keyword, punct}
use Rattle.php_ast.specs.declared.expression.Expr.{Expr}
use Rattle.php_ast.specs.expression.Tree.{Tree, Items, none, and, plain}
use Rattle.php_ast.specs.expression.View.{Note, view, values_from}
use Rattle.php_ast.specs.expression.Placed.{size_items, comma_size, noted, noted_items, notes_of}
use Rattle.php_ast.specs.statement.Tree.{Sequence, empty, then_also, Name, Variable, Constant, Statement, globals, statics, constants, declares}
use Rattle.php_ast.specs.statement.View.{sequence}
use Rattle.php_ast.specs.statement.Placed.{size_separated, noted_separated, size_name, noted_name, size_variable, noted_variable, size_constant, noted_constant}
use Rattle.php_build.proofs.Views.{value_push}
use Rattle.php_flat.proofs.Lists.{pushed}
use Rattle.php_grammar.specs.declared.closer.Closer.TheVariants as ender
use Rattle.php_grammar.specs.Run.{if_some}
use Rattle.php_grammar.specs.TooDeep.{depth_inside}
use Rattle.php_grammar.specs.expression.Machine.{Nothing, Form, State, past_static, advance, pick}
use Rattle.php_grammar.specs.statement.Role.{at_statics, at_declare, statement_beginning, statement_keyword, statement_punct, Ending, closer, ending, left_paren, right_paren, is_fixed, is_assign, name_text, variable_text}
use Rattle.php_grammar.specs.statement.Forms.{Around, as_line, as_static, as_constant, Names, of_globals, of_statics, of_constants, of_declare, StatementState, due_statement, done, due, due_name, past_name, due_int, past_static_word, in_expression}
use Rattle.php_grammar.specs.statement.Machine.{expected, filled, name_in, name_step, named_here, static_step, int_step, expression_step, before_semicolon}
use Rattle.php_grammar.specs.statement.Depth.{statement_depth, names_depth}
use Rattle.php_reader.specs.Seen.{test}
use Rattle.php_parse_simple.specs.RoleView.{is_variable_symbol, int_value, head_int}
use Rattle.php_parse_simple.specs.Answer.{SpansStatement, head_text}
use Rattle.php_parse_simple.specs.NameAnswer.{SpansSoFar, variable_step, walk_variable}
use Rattle.php_grammar_laws.specs.Walks.{short, stepped, walk_statement}
use Rattle.php_parse_simple.specs.Walk.{walk_behind, Leads, Halts, head_ending}
use Rattle.php_parse_simple.proofs.Moves.{moves, sticks, alike, move, sink, leads, due_outside}
use Rattle.php_parse_simple.proofs.Plain.{begins}
use Rattle.php_parse_simple.proofs.Inside.{place_lacks}

-- ---- lists that grow

pub values_more : (tokens : List Token) (at place : ℕ) (items : Items Nothing) (e : Form) (xs new : List Expr) (x : Expr) → new ≡ xs ++ x ∷ []
    → values_from none (map view xs) ≡ noted_items (notes_of tokens) at items → at + size_items items + comma_size items ≡ place → view x ≡ noted (notes_of tokens) place e
    → values_from none (map view new) ≡ noted_items (notes_of tokens) at (and items plain e)
values_more tokens at place items e xs new x grown shown sized is =
    value_push none xs new x grown ∙ ap (λ z. and z plain (view x)) shown
    ∙ ap (and (noted_items (notes_of tokens) at items) plain) (is ∙ ap (λ k. noted (notes_of tokens) k e) (omega arith))

pub sequence_more : {A B C : Type 0} (f : C → B) (each : A → ℕ) (note : ℕ → A → B) (at place : ℕ) (ys : Sequence A) (y : A) (xs new : List C) (x : C) → new ≡ xs ++ x ∷ []
    → SpansSoFar (sequence f xs) each note at ys place → f x ≡ note place y → sequence f new ≡ noted_separated each note at (then_also ys y)
sequence_more f each note at place ys y xs new x grown spans is =
    pushed f xs new x grown ∙ ap (λ z. then_also z (f x)) spans.shown_is ∙ ap (then_also (noted_separated each note at ys)) (is ∙ ap (λ k. note k y) (sym spans.sized))

-- ---- where a name is due

pub name_reads : {room : ℕ} {x w : List Symbol} (names : Names) (text : List ℕ) (t : Symbol) → x ≡ t ∷ w → name_in names t ≡ Some text → ((d : ℕ) → names_depth names d + 1 ≤ d + room)
    → Leads statement_depth room (λ o. due_name names o) x (λ o. past_name names (named_here text) o) w
name_reads names text t is named low =
    move t is (λ o. ap (λ z. if_some z (λ text. Some (past_name names (named_here text) o))) named) (λ n o at. omega (arith, low (statement_depth o)))

nameless : (n : ℕ) (names : Names) (o : Around) (w : List Symbol) → head_text (name_in names) w ≡ None → walk_statement n (due_name names o) w ≡ short w
nameless n names o [] h = refl
nameless n names o (t ∷ w) h = sticks n (due_name names o) t w (ap (λ z. if_some z (λ text. Some (past_name names (named_here text) o))) h)

pub name_halts : {room : ℕ} {w : List Symbol} (names : Names) → head_text (name_in names) w ≡ None → Halts false statement_depth room (λ o. due_name names o) w w
name_halts {room} {w} names h = record { same = λ n o at. nameless n names o w h }

-- ---- global variables

global_stuck : (names : Sequence (Name Nothing)) (a : Name Nothing) (o : Around) (t : Symbol) (x : Ending) → x ≢ closer ender.Comma → x ≢ closer ender.Semicolon → name_step (of_globals names) a o t x ≡ None
global_stuck names a o t (closer ender.Comma) p q = absurd (p refl)
global_stuck names a o t (closer ender.Semicolon) p q = absurd (q refl)
global_stuck names a o t _ p q = refl

globals_lack : (n : ℕ) (names : Sequence (Name Nothing)) (a : Name Nothing) (o : Around) (w : List Symbol) → head_ending w ≢ closer ender.Comma → head_ending w ≢ closer ender.Semicolon → walk_statement n (past_name (of_globals names) a o) w ≡ short w
globals_lack n names a o [] p q = refl
globals_lack n names a o (t ∷ w) p q = sticks n (past_name (of_globals names) a o) t w (global_stuck names a o t (ending t) p q)

pub globals_halt : {room : ℕ} {w : List Symbol} (names : Sequence (Name Nothing)) (a : Name Nothing) → head_ending w ≢ closer ender.Comma → head_ending w ≢ closer ender.Semicolon → Halts false statement_depth room (λ o. past_name (of_globals names) a o) w w
globals_halt {room} {w} names a p q = record { same = λ n o at. globals_lack n names a o w p q }

pub globals_on : {room : ℕ} {x w : List Symbol} (names : Sequence (Name Nothing)) (a : Name Nothing) (t : Symbol) → x ≡ t ∷ w → ending t ≡ closer ender.Comma → 1 ≤ room
    → Leads statement_depth room (λ o. past_name (of_globals names) a o) x (λ o. due_name (of_globals (then_also names a)) o) w
globals_on names a t is ends roomy = move t is (λ o. ap (name_step (of_globals names) a o t) ends) (λ n o at. omega arith)

pub globals_end : {room : ℕ} {x w : List Symbol} (names : Sequence (Name Nothing)) (a : Name Nothing) (t : Symbol) → x ≡ t ∷ w → ending t ≡ closer ender.Semicolon → 1 ≤ room
    → Leads statement_depth room (λ o. past_name (of_globals names) a o) x (λ o. done (globals tt (then_also names a)) o) w
globals_end names a t is ends roomy = move t is (λ o. ap (name_step (of_globals names) a o t) ends) (λ n o at. omega arith)

pub globals_spans : (tokens : List Token) (made : Statement Note) (spot : Note) (shown : Sequence (Name Note)) (names : Sequence (Name Nothing)) (at next : ℕ) → made ≡ globals spot shown → spot ≡ (notes_of tokens).token at
    → shown ≡ noted_separated size_name (noted_name (notes_of tokens)) (at + 1) names → (at + 1) + size_separated size_name names ≡ next → SpansStatement tokens made (globals tt names) at (next + 1)
globals_spans tokens made spot shown names at next is noted_is same sized =
    record { shown = is ∙ ap (λ n. globals n shown) noted_is ∙ ap (globals ((notes_of tokens).token at)) same; sized = omega (arith, sized) }

-- ---- static variables

abbrev pub variable_of : Name Nothing → Option Form → Variable Nothing
variable_of a value = record { name = a; value = value }

bare_same : (xs : Sequence (Variable Nothing)) (a : Name Nothing) (o : Around) (t : Symbol) (x : Ending) → is_assign t ≡ false → name_step (of_statics xs) a o t x ≡ variable_step xs (variable_of a None) o x
bare_same xs a o t (closer ender.Comma) h = refl
bare_same xs a o t (closer ender.Semicolon) h = refl
bare_same xs a o t _ h = ap (λ b. pick b (Some (expected (as_static xs a) o)) None) h

pub bare_variable : (n : ℕ) (xs : Sequence (Variable Nothing)) (a : Name Nothing) (o : Around) (w : List Symbol) → test is_assign w ≡ false
    → walk_statement n (past_name (of_statics xs) a o) w ≡ walk_variable n xs (variable_of a None) o w
bare_variable n xs a o [] h = refl
bare_variable n xs a o (t ∷ w) h = ap (λ u. stepped u (nat_lt n (statement_depth o)) (λ m. walk_statement n m w) (short (t ∷ w)) (t ∷ w)) (bare_same xs a o t (ending t) h)

pub variable_assigned : {room : ℕ} {x w : List Symbol} (xs : Sequence (Variable Nothing)) (a : Name Nothing) (t : Symbol) → x ≡ t ∷ w → is_assign t ≡ true → 1 ≤ room
    → Leads statement_depth room (λ o. past_name (of_statics xs) a o) x (λ o. expected (as_static xs a) o) w
variable_assigned xs a t is h roomy = move t is (λ o. assign_by xs a o t h) (λ n o at. omega arith)
  where
    assign_by : (xs : Sequence (Variable Nothing)) (a : Name Nothing) (o : Around) (t : Symbol) → is_assign t ≡ true → name_step (of_statics xs) a o t (ending t) ≡ Some (expected (as_static xs a) o)
    assign_by xs a o (punct mark.Assign) h = refl
    assign_by xs a o (punct mark.Comma) h = cc
    assign_by xs a o (punct _) h = cc
    assign_by xs a o _ h = cc

valued_same : (xs : Sequence (Variable Nothing)) (a : Name Nothing) (e : Form) (o : Around) (x : Ending) → filled (as_static xs a) e o x ≡ variable_step xs (variable_of a (Some e)) o x
valued_same xs a e o (closer ender.Comma) = refl
valued_same xs a e o (closer ender.Semicolon) = refl
valued_same xs a e o _ = refl

pub valued_variable : (n : ℕ) (xs : Sequence (Variable Nothing)) (a : Name Nothing) (e : Form) (o : Around) (w : List Symbol) → walk_behind n (as_static xs a) e o w ≡ walk_variable n xs (variable_of a (Some e)) o w
valued_variable n xs a e o [] = refl
valued_variable n xs a e o (t ∷ w) = ap (λ u. stepped u (nat_lt n (statement_depth o)) (λ m. walk_statement n m w) (short (t ∷ w)) (t ∷ w)) (valued_same xs a e o (ending t))

-- `static` in front of a variable
static_named : (n : ℕ) (o : Around) (t : Symbol) (w : List Symbol) → is_variable_symbol t ≡ true → walk_statement n (past_static_word o) (t ∷ w) ≡ walk_statement n (due_name (of_statics empty) o) (t ∷ w)
static_named n o (symbol.variable text) w h = alike n (past_static_word o) (due_name (of_statics empty) o) (symbol.variable text) w refl refl refl
static_named n o _ w h = cc

pub static_begins : {room : ℕ} {x w : List Symbol} (t : Symbol) → x ≡ t ∷ w → is_variable_symbol t ≡ true → Leads statement_depth room (λ o. past_static_word o) x (λ o. due_name (of_statics empty) o) x
static_begins {room} {x} {w} t is h = record { same = λ n o at. ap (walk_statement n (past_static_word o)) is ∙ static_named n o t w h ∙ ap (walk_statement n (due_name (of_statics empty) o)) (sym is) }

-- `static` in front of anything else
keyword_static : (k : Keyword) → statement_keyword k ≡ at_statics → k ≡ word.Static
keyword_static word.Static h = refl
keyword_static word.Echo h = cc
keyword_static _ h = cc

punct_static : (p : Punct) → statement_punct p ≡ at_statics → ⊥
punct_static mark.LeftBrace h = cc
punct_static mark.Semicolon h = cc
punct_static _ h = cc

static_is : (t : Symbol) → statement_beginning t ≡ at_statics → t ≡ keyword word.Static
static_is (keyword k) h = ap keyword (keyword_static k h)
static_is (punct p) h = absurd (punct_static p h)
static_is _ h = cc

static_same : (o : Around) (t : Symbol) → is_variable_symbol t ≡ false → static_step o t ≡ expression_step as_line (past_static []) o t
static_same o (symbol.variable text) h = cc
static_same o _ h = refl

zero_in : (b : Option State) (k : ℕ) → k ≡ depth_inside b 0 k
zero_in (Some m) k = omega arith
zero_in None k = refl

static_alone : (n : ℕ) (o : Around) (w : List Symbol) → test is_variable_symbol w ≡ false → walk_statement n (past_static_word o) w ≡ walk_statement n (in_expression as_line (past_static []) o) w
static_alone n o [] h = sym (place_lacks as_line o (past_static []) [])
static_alone n o (t ∷ w) h =
    alike n (past_static_word o) (in_expression as_line (past_static []) o) t w (static_same o t h) (zero_in (advance (past_static []) t) (statement_depth o)) (sym (place_lacks as_line o (past_static []) (t ∷ w)))

static_by : (n : ℕ) (o : Around) (t : Symbol) (w : List Symbol) → t ≡ keyword word.Static → test is_variable_symbol w ≡ false → statement_depth o ≤ n → walk_statement n (due_statement o) (t ∷ w) ≡ walk_statement n (expected as_line o) (t ∷ w)
static_by n o t w is h low =
    ap (λ z. walk_statement n (due_statement o) (z ∷ w)) is
    ∙ moves n (due_statement o) (past_static_word o) (keyword word.Static) w refl low
    ∙ static_alone n o w h
    ∙ sym (moves n (expected as_line o) (in_expression as_line (past_static []) o) (keyword word.Static) w refl (omega arith))
    ∙ ap (λ z. walk_statement n (expected as_line o) (z ∷ w)) (sym is)

pub static_line : {room : ℕ} {x w : List Symbol} (t : Symbol) → x ≡ t ∷ w → statement_beginning t ≡ at_statics → test is_variable_symbol w ≡ false → 1 ≤ room
    → Leads statement_depth room (λ o. due_statement o) x (λ o. expected as_line o) x
static_line {room} {x} {w} t is begins h roomy = record {
  same = λ n o at. ap (walk_statement n (due_statement o)) is ∙ static_by n o t w (static_is t begins) h (omega arith) ∙ ap (walk_statement n (expected as_line o)) (sym is);
}

-- behind a variable
pub variables_lead : {room : ℕ} {x w v : List Symbol} (xs : Sequence (Variable Nothing)) (a : Variable Nothing) (t : Symbol) (to : Around → StatementState) → 1 ≤ room
    → ((n : ℕ) (o : Around) → statement_depth o + room ≡ suc n → walk_statement n (due_name (of_statics xs) o) x ≡ walk_variable n xs a o w)
    → w ≡ t ∷ v → ((o : Around) → variable_step xs a o (ending t) ≡ Some (to o)) → Leads statement_depth room (λ o. due_name (of_statics xs) o) x to v
variables_lead {room} {x} {w} {v} xs a t to roomy read is fills = record {
  same = λ n o at.
      read n o at ∙ ap (walk_variable n xs a o) is
      ∙ ap (λ u. stepped u (nat_lt n (statement_depth o)) (λ m. walk_statement n m v) (short (t ∷ v)) (t ∷ v)) (fills o)
      ∙ ap (λ b. stepped (Some (to o)) b (λ m. walk_statement n m v) (short (t ∷ v)) (t ∷ v)) (le-ltb n (statement_depth o) (omega arith));
}

variable_stuck : (xs : Sequence (Variable Nothing)) (a : Variable Nothing) (o : Around) (x : Ending) → x ≢ closer ender.Comma → x ≢ closer ender.Semicolon → variable_step xs a o x ≡ None
variable_stuck xs a o (closer ender.Comma) p q = absurd (p refl)
variable_stuck xs a o (closer ender.Semicolon) p q = absurd (q refl)
variable_stuck xs a o _ p q = refl

variables_lack : (n : ℕ) (xs : Sequence (Variable Nothing)) (a : Variable Nothing) (o : Around) (w : List Symbol) → head_ending w ≢ closer ender.Comma → head_ending w ≢ closer ender.Semicolon → walk_variable n xs a o w ≡ short w
variables_lack n xs a o [] p q = refl
variables_lack n xs a o (t ∷ w) p q = ap (λ u. stepped u (nat_lt n (statement_depth o)) (λ m. walk_statement n m w) (short (t ∷ w)) (t ∷ w)) (variable_stuck xs a o (ending t) p q)

pub variables_halt : {room : ℕ} {x w : List Symbol} (xs : Sequence (Variable Nothing)) (a : Variable Nothing)
    → ((n : ℕ) (o : Around) → statement_depth o + room ≡ suc n → walk_statement n (due_name (of_statics xs) o) x ≡ walk_variable n xs a o w)
    → head_ending w ≢ closer ender.Comma → head_ending w ≢ closer ender.Semicolon → Halts false statement_depth room (λ o. due_name (of_statics xs) o) x w
variables_halt {room} {x} {w} xs a read p q = record { same = λ n o at. read n o at ∙ variables_lack n xs a o w p q }

pub statics_spans : (tokens : List Token) (made : Statement Note) (spot : Note) (shown : Sequence (Variable Note)) (xs : Sequence (Variable Nothing)) (at next : ℕ) → made ≡ statics spot shown → spot ≡ (notes_of tokens).token at
    → shown ≡ noted_separated size_variable (noted_variable (notes_of tokens)) (at + 1) xs → (at + 1) + size_separated size_variable xs ≡ next → SpansStatement tokens made (statics tt xs) at (next + 1)
statics_spans tokens made spot shown xs at next is noted_is same sized =
    record { shown = is ∙ ap (λ n. statics n shown) noted_is ∙ ap (statics ((notes_of tokens).token at)) same; sized = omega (arith, sized) }

-- ---- constants

pub constant_assigned : {room : ℕ} {x w : List Symbol} (xs : Sequence (Constant Nothing)) (a : Name Nothing) (t : Symbol) → x ≡ t ∷ w → is_assign t ≡ true → 1 ≤ room
    → Leads statement_depth room (λ o. past_name (of_constants xs) a o) x (λ o. expected (as_constant xs a) o) w
constant_assigned xs a t is h roomy = move t is (λ o. ap (λ b. pick b (Some (expected (as_constant xs a) o)) None) h) (λ n o at. omega arith)

unassigned : (n : ℕ) (xs : Sequence (Constant Nothing)) (a : Name Nothing) (o : Around) (w : List Symbol) → test is_assign w ≡ false → walk_statement n (past_name (of_constants xs) a o) w ≡ short w
unassigned n xs a o [] h = refl
unassigned n xs a o (t ∷ w) h = sticks n (past_name (of_constants xs) a o) t w (ap (λ b. pick b (Some (expected (as_constant xs a) o)) None) h)

pub constant_unassigned : {room : ℕ} {w : List Symbol} (xs : Sequence (Constant Nothing)) (a : Name Nothing) → test is_assign w ≡ false → Halts false statement_depth room (λ o. past_name (of_constants xs) a o) w w
constant_unassigned {room} {w} xs a h = record { same = λ n o at. unassigned n xs a o w h }

pub constants_lead : {room : ℕ} {x w v : List Symbol} (xs : Sequence (Constant Nothing)) (a : Constant Nothing) (t : Symbol) (to : Around → StatementState) → 1 ≤ room
    → ((n : ℕ) (o : Around) → statement_depth o + room ≡ suc n → walk_statement n (due_name (of_constants xs) o) x ≡ walk_behind n (as_constant xs a.name) a.value o w)
    → w ≡ t ∷ v → ((o : Around) → filled (as_constant xs a.name) a.value o (ending t) ≡ Some (to o)) → Leads statement_depth room (λ o. due_name (of_constants xs) o) x to v
constants_lead {room} {x} {w} {v} xs a t to roomy read is fills = record {
  same = λ n o at.
      read n o at ∙ ap (walk_behind n (as_constant xs a.name) a.value o) is
      ∙ ap (λ u. stepped u (nat_lt n (statement_depth o)) (λ m. walk_statement n m v) (short (t ∷ v)) (t ∷ v)) (fills o)
      ∙ ap (λ b. stepped (Some (to o)) b (λ m. walk_statement n m v) (short (t ∷ v)) (t ∷ v)) (le-ltb n (statement_depth o) (omega arith));
}

constant_stuck : (xs : Sequence (Constant Nothing)) (a : Name Nothing) (e : Form) (o : Around) (x : Ending) → x ≢ closer ender.Comma → x ≢ closer ender.Semicolon → filled (as_constant xs a) e o x ≡ None
constant_stuck xs a e o (closer ender.Comma) p q = absurd (p refl)
constant_stuck xs a e o (closer ender.Semicolon) p q = absurd (q refl)
constant_stuck xs a e o _ p q = refl

constants_lack : (n : ℕ) (xs : Sequence (Constant Nothing)) (a : Constant Nothing) (o : Around) (w : List Symbol) → head_ending w ≢ closer ender.Comma → head_ending w ≢ closer ender.Semicolon → walk_behind n (as_constant xs a.name) a.value o w ≡ short w
constants_lack n xs a o [] p q = refl
constants_lack n xs a o (t ∷ w) p q = ap (λ u. stepped u (nat_lt n (statement_depth o)) (λ m. walk_statement n m w) (short (t ∷ w)) (t ∷ w)) (constant_stuck xs a.name a.value o (ending t) p q)

pub constants_halt : {room : ℕ} {x w : List Symbol} (xs : Sequence (Constant Nothing)) (a : Constant Nothing)
    → ((n : ℕ) (o : Around) → statement_depth o + room ≡ suc n → walk_statement n (due_name (of_constants xs) o) x ≡ walk_behind n (as_constant xs a.name) a.value o w)
    → head_ending w ≢ closer ender.Comma → head_ending w ≢ closer ender.Semicolon → Halts false statement_depth room (λ o. due_name (of_constants xs) o) x w
constants_halt {room} {x} {w} xs a read p q = record { same = λ n o at. read n o at ∙ constants_lack n xs a o w p q }

pub constants_spans : (tokens : List Token) (made : Statement Note) (spot : Note) (shown : Sequence (Constant Note)) (xs : Sequence (Constant Nothing)) (at next : ℕ) → made ≡ constants spot shown → spot ≡ (notes_of tokens).token at
    → shown ≡ noted_separated size_constant (noted_constant (notes_of tokens)) (at + 1) xs → (at + 1) + size_separated size_constant xs ≡ next → SpansStatement tokens made (constants tt xs) at (next + 1)
constants_spans tokens made spot shown xs at next is noted_is same sized =
    record { shown = is ∙ ap (λ n. constants n shown) noted_is ∙ ap (constants ((notes_of tokens).token at)) same; sized = omega (arith, sized) }

-- ---- `declare`

pub declare_sinks : {x w : List Symbol} (text : List ℕ) (t : Symbol) → x ≡ t ∷ w → name_in of_declare t ≡ Some text → Halts true statement_depth 1 (λ o. due_name of_declare o) x x
declare_sinks text t is named = sink t is (λ o. ap (λ z. if_some z (λ text. Some (past_name of_declare (named_here text) o))) named) (λ n o at. omega arith)

pub declare_assigned : {room : ℕ} {x w : List Symbol} (a : Name Nothing) (t : Symbol) → x ≡ t ∷ w → is_assign t ≡ true → 2 ≤ room
    → Leads statement_depth room (λ o. past_name of_declare a o) x (λ o. due_int a o) w
declare_assigned a t is h roomy = move t is (λ o. ap (λ b. pick b (Some (due_int a o)) None) h) (λ n o at. omega arith)

undeclared : (n : ℕ) (a : Name Nothing) (o : Around) (w : List Symbol) → test is_assign w ≡ false → walk_statement n (past_name of_declare a o) w ≡ short w
undeclared n a o [] h = refl
undeclared n a o (t ∷ w) h = sticks n (past_name of_declare a o) t w (ap (λ b. pick b (Some (due_int a o)) None) h)

pub declare_unassigned : {room : ℕ} {w : List Symbol} (a : Name Nothing) → test is_assign w ≡ false → Halts false statement_depth room (λ o. past_name of_declare a o) w w
declare_unassigned {room} {w} a h = record { same = λ n o at. undeclared n a o w h }

int_on : (a : Name Nothing) (o : Around) (t : Symbol) (value : ℤ) → int_value t ≡ Some value → int_step a o t ≡ Some (due (right_paren ∷ []) (before_semicolon (declares tt a value) o))
int_on a o (symbol.int n) value h = ap (λ z. if_some z (λ k. Some (due (right_paren ∷ []) (before_semicolon (declares tt a k) o)))) h
int_on a o _ value h = cc

pub int_reads : {room : ℕ} {x w : List Symbol} (a : Name Nothing) (value : ℤ) (t : Symbol) → x ≡ t ∷ w → int_value t ≡ Some value → 2 ≤ room
    → Leads statement_depth room (λ o. due_int a o) x (λ o. due (right_paren ∷ []) (before_semicolon (declares tt a value) o)) w
int_reads a value t is h roomy = move t is (λ o. int_on a o t value h) (λ n o at. omega arith)

no_int : (a : Name Nothing) (o : Around) (t : Symbol) → int_value t ≡ None → int_step a o t ≡ None
no_int a o (symbol.int n) h = cc
no_int a o _ h = refl

int_lacks : (n : ℕ) (a : Name Nothing) (o : Around) (w : List Symbol) → head_int w ≡ None → walk_statement n (due_int a o) w ≡ short w
int_lacks n a o [] h = refl
int_lacks n a o (t ∷ w) h = sticks n (due_int a o) t w (no_int a o t h)

pub int_halts : {room : ℕ} {w : List Symbol} (a : Name Nothing) → head_int w ≡ None → Halts false statement_depth room (λ o. due_int a o) w w
int_halts {room} {w} a h = record { same = λ n o at. int_lacks n a o w h }

pub declare_spans : (tokens : List Token) (made : Statement Note) (spot : Note) (shown : Name Note) (a : Name Nothing) (value : ℤ) (at : ℕ) → made ≡ declares spot shown value → spot ≡ (notes_of tokens).token at
    → shown ≡ noted_name (notes_of tokens) (at + 1 + 1) a → SpansStatement tokens made (declares tt a value) at (at + 1 + 1 + 1 + 1 + 1 + 1 + 1)
declare_spans tokens made spot shown a value at is noted_is same = record {
  shown = is ∙ ap (λ n. declares n shown value) noted_is ∙ ap (λ n. declares ((notes_of tokens).token at) n value) (same ∙ ap (λ k. noted_name (notes_of tokens) k a) (omega arith));
  sized = omega arith;
}

-- ---- what opens in front of a value

pub constant_opens : {room : ℕ} {x y w : List Symbol} (xs : Sequence (Constant Nothing)) (text : List ℕ) (t u : Symbol) → x ≡ t ∷ y → name_text t ≡ Some text → y ≡ u ∷ w → is_assign u ≡ true → 1 ≤ room
    → Leads statement_depth room (λ o. due_name (of_constants xs) o) x (λ o. expected (as_constant xs (named_here text)) o) w
constant_opens xs text t u is named more assigns roomy =
    leads (λ o. past_name (of_constants xs) (named_here text) o) (name_reads (of_constants xs) text t is named (λ d. omega arith)) (constant_assigned xs (named_here text) u more assigns roomy)

pub variable_opens : {room : ℕ} {x y w : List Symbol} (xs : Sequence (Variable Nothing)) (text : List ℕ) (t u : Symbol) → x ≡ t ∷ y → variable_text t ≡ Some text → y ≡ u ∷ w → is_assign u ≡ true → 1 ≤ room
    → Leads statement_depth room (λ o. due_name (of_statics xs) o) x (λ o. expected (as_static xs (named_here text)) o) w
variable_opens xs text t u is named more assigns roomy =
    leads (λ o. past_name (of_statics xs) (named_here text) o) (name_reads (of_statics xs) text t is named (λ d. omega arith)) (variable_assigned xs (named_here text) u more assigns roomy)

pub constant_shown : (tokens : List Token) (at : ℕ) (shown : Name Note) (e : Tree Note) (a : Name Nothing) (form : Form) → shown ≡ noted_name (notes_of tokens) at a → e ≡ noted (notes_of tokens) (at + 1 + 1) form
    → record { name = shown; value = e } ≡ noted_constant (notes_of tokens) at (record { name = a; value = form })
constant_shown tokens at shown e a form named is =
    ap (λ z. record { name = z; value = e }) named ∙ ap (λ z. record { name = noted_name (notes_of tokens) at a; value = z }) (is ∙ ap (λ k. noted (notes_of tokens) k form) (omega arith))

pub variable_shown : (tokens : List Token) (at : ℕ) (shown : Name Note) (e : Tree Note) (a : Name Nothing) (form : Form) → shown ≡ noted_name (notes_of tokens) at a → e ≡ noted (notes_of tokens) (at + 1 + 1) form
    → record { name = shown; value = Some e } ≡ noted_variable (notes_of tokens) at (variable_of a (Some form))
variable_shown tokens at shown e a form named is =
    ap (λ z. record { name = z; value = Some e }) named ∙ ap (λ z. record { name = noted_name (notes_of tokens) at a; value = Some z }) (is ∙ ap (λ k. noted (notes_of tokens) k form) (omega arith))

pub bare_shown : (tokens : List Token) (at : ℕ) (shown : Name Note) (a : Name Nothing) → shown ≡ noted_name (notes_of tokens) at a
    → record { name = shown; value = None } ≡ noted_variable (notes_of tokens) at (variable_of a None)
bare_shown tokens at shown a named = ap (λ z. record { name = z; value = None }) named

-- ---- the parts of a `declare`

pub declare_opens : {room : ℕ} {x y w : List Symbol} (t u : Symbol) → x ≡ t ∷ y → statement_beginning t ≡ at_declare → y ≡ u ∷ w → is_fixed left_paren u ≡ true → 1 ≤ room
    → Leads statement_depth room (λ o. due_statement o) x (λ o. due_name of_declare o) w
declare_opens t u is begin more paren roomy =
    leads (λ o. due (left_paren ∷ []) (due_name of_declare o)) (begins at_declare t is begin (λ o. refl) (λ o. refl) roomy) (due_outside left_paren [] (λ o. due_name of_declare o) u more paren (λ o. refl) (λ d. refl) roomy)

pub declare_named : {room : ℕ} {x y z w : List Symbol} (t u v : Symbol) (text : List ℕ) → x ≡ t ∷ y → statement_beginning t ≡ at_declare → y ≡ u ∷ z → is_fixed left_paren u ≡ true → z ≡ v ∷ w → name_text v ≡ Some text → 2 ≤ room
    → Leads statement_depth room (λ o. due_statement o) x (λ o. past_name of_declare (named_here text) o) w
declare_named t u v text is begin more paren behind named roomy =
    leads (λ o. due_name of_declare o) (declare_opens t u is begin more paren (omega arith)) (name_reads of_declare text v behind named (λ d. omega arith))
