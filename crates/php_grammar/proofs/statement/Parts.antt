-- Reading back the parts of statements that have no statement inside: expressions, values, names, and the ends of bodies.
use Rattle.std.proofs.Common.{◌≡◌, ℕ, Bool, true, false, Option, Some, None, List, [], ◌∷◌, refl, sym, ◌∙◌, ap, subst, arith, ltb-true}
use Rattle.std.specs.Prelude.{nat_lt}
use Rattle.php_token.specs.declared.kind.Keyword.{Keyword}
use Rattle.php_token.specs.declared.kind.Keyword.TheVariants as word
use Rattle.php_token.specs.declared.kind.Punct.{Punct}
use Rattle.php_token.specs.declared.kind.Punct.TheVariants as mark
use Rattle.php_ast.specs.Symbol as symbol
use Rattle.php_ast.specs.Symbol.{Symbol, keyword, punct}
use Rattle.php_ast.specs.expression.Tree.{Items, none, and, skip, plain, reference, spread, keyed, keyed_reference}
use Rattle.php_ast.specs.expression.Spelling.{spell, spell_items}
use Rattle.php_ast.specs.expression.Proper.{Proper, ends_bare, IsKey, AreValues, AreProperItems, is_none}
use Rattle.php_grammar.specs.expression.Role.{beginning}
use Rattle.php_grammar.specs.expression.Machine.{Nothing, Form, expects, pick}
use Rattle.php_grammar.specs.expression.Laws.{EndsBefore}
use Rattle.php_grammar.specs.Run.{either, or_halted}
use Rattle.php_ast.specs.statement.Tree.{Sequence, empty, then_also, Name, Variable, Constant, Target, Jump, Statement, statics, constants, jump, Statements, Catches, and_catch, try_catch}
use Rattle.php_ast.specs.statement.Spelling.{separated, commas, spell_name, spell_dollar, spell_value, spell_variable, spell_constant, spell_target, spell_key}
use Rattle.php_ast.specs.statement.Proper.{Each, IfAny, AreSome, AreAny, IsProperTarget, IsProperKey}
use Rattle.php_grammar.specs.statement.Role.{at_expression, statement_beginning, statement_keyword, statement_punct, Behind, by_else, by_catch, by_finally, behind, body_strength, ending}
use Rattle.php_grammar.specs.statement.Forms.{of_if, of_loop, list_open, if_open, elseif_open, else_open, loop_open, do_open, OpenStatement, Around, Loop, foreach_loop, Values, ExpressionPlace, as_line, as_value, as_static, as_constant, as_jump, as_first, as_second, of_globals, of_statics, of_constants, of_classes, StatementState, due_statement, done, in_expression, due_value, due_name, past_name, past_static_word, past_jump, past_if, past_loop, past_as, past_key, past_block, completed_statement}
use Rattle.php_grammar.specs.statement.Machine.{least_strength, released_bodies, reached_step, expected, entered, listing, begun, begin, values_step, filled, target, block_step, past_statement, advance_statement}
use Rattle.php_grammar.specs.statement.Reading.{halt_statement}
use Rattle.php_grammar.specs.statement.Laws.{is_catching, head_behind}
use Rattle.php_grammar.proofs.expression.Trees.{begins_some, Starts, starts}
use Rattle.php_grammar.proofs.Inside.{Reader, expression_read}
use Rattle.php_grammar.proofs.statement.Starts.{run, entered_on, or_some, begins_no_ending, begins_no_semicolon, begins_no_ampersand, StartsStatement, starts_no_colon, begin_goes, StaticFits}

-- ---- expressions

abbrev pub place_reader : ExpressionPlace → Around → Reader StatementState advance_statement
place_reader place o = record { on = λ m. in_expression place m o; ended = λ t e. filled place e o (ending t); steps = λ m t. refl }

pub place_read : (place : ExpressionPlace) (o : Around) (e : Form) (t : Symbol) (v : List Symbol) (n : StatementState) → Proper e → EndsBefore e (t ∷ v) → filled place e o (ending t) ≡ Some n
    → run (in_expression place (expects []) o) (spell e (t ∷ v)) ≡ run n v
place_read place o e t v n p h is = expression_read advance_statement halt_statement (place_reader place o) e t v n p h is

pub at_semicolon : (e : Form) (v : List Symbol) → EndsBefore e (punct mark.Semicolon ∷ v)
at_semicolon e v = record { draws_nothing = refl; no_arrow = λ a. cc; after_bare = λ b. refl }

pub at_comma : (e : Form) (v : List Symbol) → EndsBefore e (punct mark.Comma ∷ v)
at_comma e v = record { draws_nothing = refl; no_arrow = λ a. cc; after_bare = λ b. refl }

pub at_paren : (e : Form) (v : List Symbol) → EndsBefore e (punct mark.RightParen ∷ v)
at_paren e v = record { draws_nothing = refl; no_arrow = λ a. cc; after_bare = λ b. refl }

pub at_colon : (e : Form) (v : List Symbol) → ends_bare e ≡ false → EndsBefore e (punct mark.Colon ∷ v)
at_colon e v h = record { draws_nothing = refl; no_arrow = λ a. cc; after_bare = λ b. cc }

pub at_as : (e : Form) (v : List Symbol) → ends_bare e ≡ false → EndsBefore e (keyword word.As ∷ v)
at_as e v h = record { draws_nothing = refl; no_arrow = λ a. cc; after_bare = λ b. cc }

pub at_arrow : (e : Form) (v : List Symbol) → IsKey e → EndsBefore e (punct mark.DoubleArrow ∷ v)
at_arrow e v h = record { draws_nothing = refl; no_arrow = λ a. h.0; after_bare = λ b. let x : ends_bare e ≡ false = h.1 in cc }

-- ---- where an expression may begin

pub jump_entered : (kind : Jump) (o : Around) (w : List Symbol) → Starts w → run (past_jump kind o) w ≡ run (expected (as_jump kind) o) w
jump_entered kind o [] h = absurd h
jump_entered kind o (t ∷ w) h =
    ap (λ b. or_halted (pick b (Some (done (jump tt kind None) o)) (entered (as_jump kind) o t)) (λ n. run n w) (halt_statement (past_jump kind o) (t ∷ w))) (begins_no_semicolon t h)
    ∙ entered_on t (λ m. in_expression (as_jump kind) m o) _ (λ n. run n w) _ _ h

value_entered : (values : Values) (o : Around) (w : List Symbol) → Starts w → run (due_value values o) w ≡ run (expected (as_value values none) o) w
value_entered values o [] h = absurd h
value_entered values o (t ∷ w) h =
    ap (λ x. or_halted (either (values_step values none o x) (entered (as_value values none) o t)) (λ n. run n w) (halt_statement (due_value values o) (t ∷ w))) (begins_no_ending t h)
    ∙ entered_on t (λ m. in_expression (as_value values none) m o) _ (λ n. run n w) _ _ h

first_entered : (walked : Form) (o : Around) (w : List Symbol) → Starts w → run (past_as walked o) w ≡ run (expected (as_first walked false) o) w
first_entered walked o [] h = absurd h
first_entered walked o (t ∷ w) h =
    ap (λ b. or_halted (pick b (Some (expected (as_first walked true) o)) (entered (as_first walked false) o t)) (λ n. run n w) (halt_statement (past_as walked o) (t ∷ w))) (begins_no_ampersand t h)
    ∙ entered_on t (λ m. in_expression (as_first walked false) m o) _ (λ n. run n w) _ _ h

second_entered : (walked : Form) (key : Target Nothing) (o : Around) (w : List Symbol) → Starts w → run (past_key walked key o) w ≡ run (expected (as_second walked key false) o) w
second_entered walked key o [] h = absurd h
second_entered walked key o (t ∷ w) h =
    ap (λ b. or_halted (pick b (Some (expected (as_second walked key true) o)) (entered (as_second walked key false) o t)) (λ n. run n w) (halt_statement (past_key walked key o) (t ∷ w))) (begins_no_ampersand t h)
    ∙ entered_on t (λ m. in_expression (as_second walked key false) m o) _ (λ n. run n w) _ _ h

abbrev pub is_static_word : Keyword → Bool
is_static_word word.Static = true
is_static_word _ = false

pub static_word : (k : Keyword) → is_static_word k ≡ true → k ≡ word.Static
static_word word.Static h = refl
static_word word.Echo h = cc
static_word _ h = cc

-- what begins an expression, and no static variables, begins a statement that is an expression
pub keyword_line : (k : Keyword) → begins_some (beginning (keyword k)) ≡ true → is_static_word k ≡ false → statement_keyword k ≡ at_expression
keyword_line word.Static h other = cc
keyword_line word.Echo h other = cc
keyword_line word.Global h other = cc
keyword_line word.Unset h other = cc
keyword_line word.Const h other = cc
keyword_line word.Return h other = cc
keyword_line word.Break h other = cc
keyword_line word.Continue h other = cc
keyword_line word.Throw h other = cc
keyword_line word.If h other = cc
keyword_line word.While h other = cc
keyword_line word.Do h other = cc
keyword_line word.For h other = cc
keyword_line word.Foreach h other = cc
keyword_line word.Switch h other = cc
keyword_line word.Try h other = cc
keyword_line word.Declare h other = cc
keyword_line _ h other = refl

pub punct_line : (p : Punct) → begins_some (beginning (punct p)) ≡ true → statement_punct p ≡ at_expression
punct_line mark.LeftBrace h = cc
punct_line mark.Semicolon h = cc
punct_line _ h = refl

line_begun : (o : Around) (t : Symbol) (w : List Symbol) → begins_some (beginning t) ≡ true → statement_beginning t ≡ at_expression → run (due_statement o) (t ∷ w) ≡ run (expected as_line o) (t ∷ w)
line_begun o t w h is =
    ap (λ x. or_halted (begun x o t) (λ n. run n w) (halt_statement (due_statement o) (t ∷ w))) is
    ∙ entered_on t (λ m. in_expression as_line m o) _ (λ n. run n w) _ _ h

static_line : (o : Around) (w : List Symbol) → StaticFits (keyword word.Static ∷ w) → run (due_statement o) (keyword word.Static ∷ w) ≡ run (expected as_line o) (keyword word.Static ∷ w)
static_line o [] fits = absurd fits
static_line o (t ∷ w) fits = ap (λ x. run (past_static_word o) (x ∷ w)) fits ∙ ap (λ x. run (expected as_line o) (keyword word.Static ∷ x ∷ w)) (sym fits)

keyword_entered : (b : Bool) (k : Keyword) (o : Around) (w : List Symbol) → is_static_word k ≡ b → begins_some (beginning (keyword k)) ≡ true → StaticFits (keyword k ∷ w)
    → run (due_statement o) (keyword k ∷ w) ≡ run (expected as_line o) (keyword k ∷ w)
keyword_entered false k o w is h fits = line_begun o (keyword k) w h (keyword_line k h is)
keyword_entered true k o w is h fits =
    let same : k ≡ word.Static = static_word k is in
    ap (λ x. run (due_statement o) (keyword x ∷ w)) same ∙ static_line o w (subst (λ x. StaticFits (keyword x ∷ w)) same fits)
    ∙ ap (λ x. run (expected as_line o) (keyword x ∷ w)) (sym same)

pub line_entered : (o : Around) (w : List Symbol) → Starts w → StaticFits w → run (due_statement o) w ≡ run (expected as_line o) w
line_entered o [] h fits = absurd h
line_entered o (keyword k ∷ w) h fits = keyword_entered (is_static_word k) k o w refl h fits
line_entered o (punct p ∷ w) h fits = line_begun o (punct p) w h (punct_line p h)
line_entered o (symbol.inline text ∷ w) h fits = cc
line_entered o (t ∷ w) h fits = line_begun o t w h refl

-- ---- where a body may begin

pub if_entered : (test : Form) (o : Around) (w : List Symbol) → StartsStatement w → run (past_if test o) w ≡ run (due_statement (if_open test ∷ o)) w
if_entered test o [] h = absurd h
if_entered test o (t ∷ w) h =
    ap (λ b. or_halted (pick b (Some (listing (of_if test) o)) (begin (if_open test ∷ o) t)) (λ n. run n w) (halt_statement (past_if test o) (t ∷ w))) (starts_no_colon t h)
    ∙ or_some (begin (if_open test ∷ o) t) (λ n. run n w) _ _ (begin_goes (if_open test ∷ o) t h)

pub loop_entered : (loop : Loop) (o : Around) (w : List Symbol) → StartsStatement w → run (past_loop loop o) w ≡ run (due_statement (loop_open loop ∷ o)) w
loop_entered loop o [] h = absurd h
loop_entered loop o (t ∷ w) h =
    ap (λ b. or_halted (pick b (Some (listing (of_loop loop) o)) (begin (loop_open loop ∷ o) t)) (λ n. run n w) (halt_statement (past_loop loop o) (t ∷ w))) (starts_no_colon t h)
    ∙ or_some (begin (loop_open loop ∷ o) t) (λ n. run n w) _ _ (begin_goes (loop_open loop ∷ o) t h)

-- ---- values

values_led : (values : Values) (items : Items Nothing) (e : Form) (o : Around) (w : List Symbol) → AreValues items → AreProperItems items
    → run (expected (as_value values none) o) (spell_items (and items plain e) w) ≡ run (expected (as_value values items) o) (spell e w)
values_led values none e o w h p = refl
values_led values (and items plain x) e o w h p =
    values_led values items x o (punct mark.Comma ∷ spell e w) h p.0
    ∙ place_read (as_value values items) o x (punct mark.Comma) (spell e w) (expected (as_value values (and items plain x)) o) p.2 (at_comma x (spell e w)) refl
values_led values (and items reference x) e o w h p = absurd h
values_led values (and items spread x) e o w h p = absurd h
values_led values (and items (keyed k) x) e o w h p = absurd h
values_led values (and items (keyed_reference k) x) e o w h p = absurd h
values_led values (skip items) e o w h p = absurd h

-- one value or more, up to a symbol that ends them
pub values_read : (values : Values) (items : Items Nothing) (o : Around) (t : Symbol) (v : List Symbol) (n : Items Nothing → StatementState) → AreSome items
    → ((e : Form) → EndsBefore e (t ∷ v)) → ((xs : Items Nothing) (e : Form) → filled (as_value values xs) e o (ending t) ≡ Some (n (and xs plain e)))
    → run (expected (as_value values none) o) (spell_items items (t ∷ v)) ≡ run (n items) v
values_read values none o t v n h ends is = let x : true ≡ false = h.1 in cc
values_read values (and items plain e) o t v n h ends is =
    values_led values items e o (t ∷ v) h.0 h.2.0 ∙ place_read (as_value values items) o e t v (n (and items plain e)) h.2.2 (ends e) (is items e)
values_read values (and items reference e) o t v n h ends is = absurd h.0
values_read values (and items spread e) o t v n h ends is = absurd h.0
values_read values (and items (keyed k) e) o t v n h ends is = absurd h.0
values_read values (and items (keyed_reference k) e) o t v n h ends is = absurd h.0
values_read values (skip items) o t v n h ends is = absurd h.0

pub items_start : (items : Items Nothing) (w : List Symbol) → AreValues items → is_none items ≡ false → Starts (spell_items items w)
items_start none w h some = cc
items_start (and none plain e) w h some = starts e w
items_start (and (and items plain x) plain e) w h some = items_start (and items plain x) (punct mark.Comma ∷ spell e w) h refl
items_start (and (and items reference x) plain e) w h some = absurd h
items_start (and (and items spread x) plain e) w h some = absurd h
items_start (and (and items (keyed k) x) plain e) w h some = absurd h
items_start (and (and items (keyed_reference k) x) plain e) w h some = absurd h
items_start (and (skip items) plain e) w h some = absurd h
items_start (and items reference e) w h some = absurd h
items_start (and items spread e) w h some = absurd h
items_start (and items (keyed k) e) w h some = absurd h
items_start (and items (keyed_reference k) e) w h some = absurd h
items_start (skip items) w h some = absurd h

-- values or none, up to a symbol that ends them
pub any_values_read : (values : Values) (items : Items Nothing) (o : Around) (t : Symbol) (v : List Symbol) (n : Items Nothing → StatementState) → AreAny items
    → ((e : Form) → EndsBefore e (t ∷ v)) → ((xs : Items Nothing) (e : Form) → filled (as_value values xs) e o (ending t) ≡ Some (n (and xs plain e)))
    → values_step values none o (ending t) ≡ Some (n none) → run (due_value values o) (spell_items items (t ∷ v)) ≡ run (n items) v
any_values_read values none o t v n h ends is last =
    ap (λ u. or_halted (either u (entered (as_value values none) o t)) (λ m. run m v) (halt_statement (due_value values o) (t ∷ v))) last
any_values_read values (and items lead e) o t v n h ends is last =
    value_entered values o (spell_items (and items lead e) (t ∷ v)) (items_start (and items lead e) (t ∷ v) h.0 refl)
    ∙ values_read values (and items lead e) o t v n (h.0, refl, h.1) ends is
any_values_read values (skip items) o t v n h ends is last = absurd h.0

-- ---- names

pub globals_led : (xs : Sequence (Name Nothing)) (x : Name Nothing) (o : Around) (w : List Symbol)
    → run (due_name (of_globals empty) o) (commas spell_dollar (then_also xs x) w) ≡ run (past_name (of_globals xs) x o) w
globals_led empty x o w = refl
globals_led (then_also xs y) x o w = globals_led xs y o (punct mark.Comma ∷ spell_dollar x w)

pub classes_led : (body : Statements Nothing) (catches : Catches Nothing) (xs : Sequence (Name Nothing)) (x : Name Nothing) (o : Around) (w : List Symbol)
    → run (due_name (of_classes body catches empty) o) (separated (punct mark.Bar) spell_name (then_also xs x) w) ≡ run (past_name (of_classes body catches xs) x o) w
classes_led body catches empty x o w = refl
classes_led body catches (then_also xs y) x o w = classes_led body catches xs y o (punct mark.Bar ∷ spell_name x w)

-- a static variable up to a comma, and up to the end
static_comma : (xs : Sequence (Variable Nothing)) (n : Name Nothing) (value : Option Form) (o : Around) (w : List Symbol) → IfAny value
    → run (past_name (of_statics xs) n o) (spell_value value (punct mark.Comma ∷ w)) ≡ run (due_name (of_statics (then_also xs (record { name = n; value = value }))) o) w
static_comma xs n None o w p = refl
static_comma xs n (Some e) o w p = place_read (as_static xs n) o e (punct mark.Comma) w _ p (at_comma e w) refl

pub static_end : (xs : Sequence (Variable Nothing)) (n : Name Nothing) (value : Option Form) (o : Around) (w : List Symbol) → IfAny value
    → run (past_name (of_statics xs) n o) (spell_value value (punct mark.Semicolon ∷ w)) ≡ run (done (statics tt (then_also xs (record { name = n; value = value }))) o) w
static_end xs n None o w p = refl
static_end xs n (Some e) o w p = place_read (as_static xs n) o e (punct mark.Semicolon) w _ p (at_semicolon e w) refl

pub statics_led : (xs : Sequence (Variable Nothing)) (x : Variable Nothing) (o : Around) (w : List Symbol) → Each (λ y. IfAny y.value) xs
    → run (due_name (of_statics empty) o) (commas spell_variable (then_also xs x) w) ≡ run (past_name (of_statics xs) x.name o) (spell_value x.value w)
statics_led empty x o w p = refl
statics_led (then_also xs y) x o w p =
    statics_led xs y o (punct mark.Comma ∷ spell_variable x w) p.0 ∙ static_comma xs y.name y.value o (spell_variable x w) p.1

abbrev pub StartsVariable : List Symbol → Type 0
StartsVariable (symbol.variable text ∷ w) = Unit {0}
StartsVariable _ = ⊥

pub statics_start : (xs : Sequence (Variable Nothing)) (x : Variable Nothing) (w : List Symbol) → StartsVariable (commas spell_variable (then_also xs x) w)
statics_start empty x w = tt
statics_start (then_also xs y) x w = statics_start xs y (punct mark.Comma ∷ spell_variable x w)

pub static_entered : (o : Around) (w : List Symbol) → StartsVariable w → run (past_static_word o) w ≡ run (due_name (of_statics empty) o) w
static_entered o (symbol.variable text ∷ w) h = refl
static_entered o [] h = absurd h
static_entered o (t ∷ w) h = absurd h

constant_comma : (xs : Sequence (Constant Nothing)) (n : Name Nothing) (e : Form) (o : Around) (w : List Symbol) → Proper e
    → run (past_name (of_constants xs) n o) (punct mark.Assign ∷ spell e (punct mark.Comma ∷ w)) ≡ run (due_name (of_constants (then_also xs (record { name = n; value = e }))) o) w
constant_comma xs n e o w p = place_read (as_constant xs n) o e (punct mark.Comma) w _ p (at_comma e w) refl

pub constant_end : (xs : Sequence (Constant Nothing)) (n : Name Nothing) (e : Form) (o : Around) (w : List Symbol) → Proper e
    → run (past_name (of_constants xs) n o) (punct mark.Assign ∷ spell e (punct mark.Semicolon ∷ w)) ≡ run (done (constants tt (then_also xs (record { name = n; value = e }))) o) w
constant_end xs n e o w p = place_read (as_constant xs n) o e (punct mark.Semicolon) w _ p (at_semicolon e w) refl

pub constants_led : (xs : Sequence (Constant Nothing)) (x : Constant Nothing) (o : Around) (w : List Symbol) → Each (λ y. Proper y.value) xs
    → run (due_name (of_constants empty) o) (commas spell_constant (then_also xs x) w) ≡ run (past_name (of_constants xs) x.name o) (punct mark.Assign ∷ spell x.value w)
constants_led empty x o w p = refl
constants_led (then_also xs y) x o w p =
    constants_led xs y o (punct mark.Comma ∷ spell_constant x w) p.0 ∙ constant_comma xs y.name y.value o (spell_constant x w) p.1

-- ---- targets of a `foreach`

first_target : (walked : Form) (t : Target Nothing) (o : Around) (w : List Symbol) → run (past_as walked o) (spell_target t w) ≡ run (expected (as_first walked t.is_reference) o) (spell t.place w)
first_target walked t o w = by_mark t.is_reference t.place
  where
    by_mark : (b : Bool) (e : Form) → run (past_as walked o) (spell_target (target b e) w) ≡ run (expected (as_first walked b) o) (spell e w)
    by_mark true e = refl
    by_mark false e = first_entered walked o (spell e w) (starts e w)

second_target : (walked : Form) (key t : Target Nothing) (o : Around) (w : List Symbol) → run (past_key walked key o) (spell_target t w) ≡ run (expected (as_second walked key t.is_reference) o) (spell t.place w)
second_target walked key t o w = by_mark t.is_reference t.place
  where
    by_mark : (b : Bool) (e : Form) → run (past_key walked key o) (spell_target (target b e) w) ≡ run (expected (as_second walked key b) o) (spell e w)
    by_mark true e = refl
    by_mark false e = second_entered walked key o (spell e w) (starts e w)

pub targets_read : (walked : Form) (key : Option (Target Nothing)) (value : Target Nothing) (o : Around) (w : List Symbol) → IsProperKey key → IsProperTarget value
    → run (past_as walked o) (spell_key key (spell_target value (punct mark.RightParen ∷ w))) ≡ run (past_loop (foreach_loop walked key value) o) w
targets_read walked None value o w k p =
    first_target walked value o (punct mark.RightParen ∷ w)
    ∙ place_read (as_first walked value.is_reference) o value.place (punct mark.RightParen) w _ p (at_paren value.place w) refl
targets_read walked (Some key) value o w k p =
    first_target walked key o (punct mark.DoubleArrow ∷ spell_target value (punct mark.RightParen ∷ w))
    ∙ place_read (as_first walked key.is_reference) o key.place (punct mark.DoubleArrow) (spell_target value (punct mark.RightParen ∷ w)) _ k.1 (at_arrow key.place _ k.0) refl
    ∙ second_target walked key value o (punct mark.RightParen ∷ w)
    ∙ place_read (as_second walked key value.is_reference) o value.place (punct mark.RightParen) w _ p (at_paren value.place w) refl

-- ---- the end of a body

halts_ended : (f : OpenStatement) (a : Statement Nothing) (o : Around) (w : List Symbol) (n : ℕ) → nat_lt n (least_strength f) ≡ true → halt_statement (done a (f ∷ o)) w ≡ halt_statement (done (completed_statement f a) o) w
halts_ended (list_open list ss) a o w n h = absurd (omega (arith, ltb-true, h))
halts_ended do_open a o w n h = absurd (omega (arith, ltb-true, h))
halts_ended (if_open test) a o w n h = refl
halts_ended (elseif_open test body parts last) a o w n h = refl
halts_ended (else_open test body parts) a o w n h = refl
halts_ended (loop_open loop) a o w n h = refl

-- a body that the first symbol ends
pub body_ended : (f : OpenStatement) (a : Statement Nothing) (o : Around) (w : List Symbol) → nat_lt (body_strength (head_behind w)) (least_strength f) ≡ true
    → run (done a (f ∷ o)) w ≡ run (done (completed_statement f a) o) w
body_ended f a o [] h = halts_ended f a o [] 0 h
body_ended f a o (t ∷ w) h =
    ap (λ b. or_halted (reached_step (pick b (released_bodies (body_strength (behind t)) o (completed_statement f a)) (record { tree = a; around = f ∷ o })) t (behind t)) (λ n. run n w)
    (halt_statement (done a (f ∷ o)) (t ∷ w))) h
    ∙ ap (or_halted (reached_step (released_bodies (body_strength (behind t)) o (completed_statement f a)) t (behind t)) (λ n. run n w)) (halts_ended f a o (t ∷ w) (body_strength (behind t)) h)

pub strength_small : (x : Behind) → nat_lt (body_strength x) 2 ≡ true
strength_small by_else = refl
strength_small _ = refl

pub last_ended : (f : OpenStatement) (a : Statement Nothing) (o : Around) (w : List Symbol) → least_strength f ≡ 2 → run (done a (f ∷ o)) w ≡ run (done (completed_statement f a) o) w
last_ended f a o w h = body_ended f a o w (ap (nat_lt (body_strength (head_behind w))) h ∙ strength_small (head_behind w))

pub if_ended : (f : OpenStatement) (a : Statement Nothing) (o : Around) (w : List Symbol) → least_strength f ≡ 1 → body_strength (head_behind w) ≡ 0 → run (done a (f ∷ o)) w ≡ run (done (completed_statement f a) o) w
if_ended f a o w level h = body_ended f a o w (ap (nat_lt (body_strength (head_behind w))) level ∙ ap (λ n. nat_lt n 1) h)

pub catches_ended_by : (x : Behind) (body : Statements Nothing) (catches : Catches Nothing) (classes : Sequence (Name Nothing)) (n : Name Nothing) (ss : Statements Nothing) (o : Around) (t : Symbol)
    → is_catching x ≡ false → block_step body (and_catch catches classes n ss) o t x ≡ past_statement (try_catch tt body (and_catch catches classes n ss)) o t
catches_ended_by by_catch body catches classes n ss o t h = cc
catches_ended_by by_finally body catches classes n ss o t h = cc
catches_ended_by _ body catches classes n ss o t h = refl

pub catches_ended : (body : Statements Nothing) (catches : Catches Nothing) (classes : Sequence (Name Nothing)) (n : Name Nothing) (ss : Statements Nothing) (o : Around) (w : List Symbol)
    → is_catching (head_behind w) ≡ false → run (past_block body (and_catch catches classes n ss) o) w ≡ run (done (try_catch tt body (and_catch catches classes n ss)) o) w
catches_ended body catches classes n ss o [] h = refl
catches_ended body catches classes n ss o (t ∷ w) h =
    ap (λ u. or_halted u (λ m. run m w) (halt_statement (past_block body (and_catch catches classes n ss) o) (t ∷ w))) (catches_ended_by (behind t) body catches classes n ss o t h)
