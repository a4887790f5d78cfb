-- The first symbols of statements and of expressions in them, and what ends a list or a body.
use Rattle.std.proofs.Common.{◌≡◌, Bool, true, false, Option, Some, None, List, [], ◌∷◌, refl, ◌∙◌, ap}
use Rattle.php_token.specs.declared.kind.Keyword.{Keyword}
use Rattle.php_token.specs.declared.kind.Keyword.TheVariants as word
use Rattle.php_token.specs.declared.kind.Punct.{Punct}
use Rattle.php_token.specs.declared.kind.Punct.TheVariants as mark
use Rattle.php_ast.specs.declared.operator.ArrayForm.TheVariants as form
use Rattle.php_ast.specs.declared.operator.Prefix.{Prefix}
use Rattle.php_ast.specs.declared.operator.Prefix.TheVariants as prefix_op
use Rattle.php_ast.specs.declared.statement.SwitchForm.TheVariants as switch_form
use Rattle.php_ast.specs.Symbol as symbol
use Rattle.php_ast.specs.Symbol.{Symbol, keyword, punct}
use Rattle.php_ast.specs.expression.Tree.{Leaf, magic, parentheses, emptiness, exiting, array, is_set}
use Rattle.php_ast.specs.expression.Tree.{leaf, template, enclosed, listed, static_member, append, index, selected, computed, call, prefix, count, binary, instance_of, instance_of_static, choice, short_choice, assign}
use Rattle.php_ast.specs.Operators.{prefix_symbol}
use Rattle.php_ast.specs.declared.operator.Magic.TheVariants as magic_word
use Rattle.php_ast.specs.expression.Spelling.{spell, leaf_symbol}
use Rattle.php_grammar.specs.expression.Role.{Beginning, at_leaf, at_static, at_template, at_exit, at_new, at_yield, at_enclosed, at_listed, at_prefix, at_nothing, beginning, is_ampersand, is_colon}
use Rattle.php_grammar.specs.expression.Machine.{Nothing, Form, State, expects, started, advance}
use Rattle.php_grammar.specs.Run.{either, if_some, ReadingOf, or_halted}
use Rattle.php_ast.specs.statement.Tree.{Statement, expression, jump, returning, breaking, continuing, Statements, no_statement, and_statement}
use Rattle.php_ast.specs.statement.Spelling.{spell_statement}
use Rattle.php_grammar.specs.statement.Role.{StatementBeginning, at_expression, statement_beginning, Behind, by_else, by_while, by_other, behind, behind_keyword, body_strength, ending, no_ending, is_semicolon}
use Rattle.php_grammar.specs.statement.Forms.{while_loop, for_loop, foreach_loop, StatementList, of_block, of_if, of_elseif, of_else, of_loop, of_case, of_try, of_catch, of_finally, list_open, Around, as_line, StatementState, due_statement, done, in_expression, due_in_list}
use Rattle.php_grammar.specs.statement.Machine.{begun, begin, list_end, list_step, released_bodies, reached_step}
use Rattle.php_grammar.specs.statement.Reading.{StatementReading, halt_statement, read_statement_from}
use Rattle.php_grammar.proofs.expression.Trees.{begins_some, Starts, starts}
use Rattle.php_grammar.proofs.Machines.{IsSome, some_either, some_in}

-- ---- answers

pub or_some : {M A : Type 0} (o : Option M) (f : M → ReadingOf A) (a b : ReadingOf A) → IsSome o → or_halted o f a ≡ or_halted o f b
or_some None f a b h = absurd h
or_some (Some m) f a b h = refl

-- ---- expressions

pub started_goes : (x : Beginning) → begins_some x ≡ true → IsSome (started x [])
started_goes (at_leaf l) h = tt
started_goes at_static h = tt
started_goes at_template h = tt
started_goes at_exit h = tt
started_goes at_new h = tt
started_goes at_yield h = tt
started_goes (at_enclosed parentheses) h = tt
started_goes (at_enclosed emptiness) h = tt
started_goes (at_enclosed exiting) h = tt
started_goes (at_listed (array form.Brackets)) h = tt
started_goes (at_listed (array form.Array)) h = tt
started_goes (at_listed (array form.List)) h = tt
started_goes (at_listed is_set) h = tt
started_goes (at_prefix op) h = tt
started_goes at_nothing h = cc

-- an expression that begins with its first symbol is one that was due before it
pub entered_on : {M A : Type 0} (t : Symbol) (on : State → M) (other : Option M) (f : M → ReadingOf A) (a b : ReadingOf A) → begins_some (beginning t) ≡ true
    → or_halted (if_some (advance (expects []) t) (λ m. Some (on m))) f a ≡ or_halted (either (if_some (advance (expects []) t) (λ m. Some (on m))) other) f b
entered_on t on other f a b h = some_either (advance (expects []) t) on other f a b (started_goes (beginning t) h)

keyword_no_ending : (k : Keyword) → begins_some (beginning (keyword k)) ≡ true → ending (keyword k) ≡ no_ending
keyword_no_ending word.As h = cc
keyword_no_ending _ h = refl

punct_no_ending : (p : Punct) → begins_some (beginning (punct p)) ≡ true → ending (punct p) ≡ no_ending
punct_no_ending mark.RightBracket h = cc
punct_no_ending mark.RightParen h = cc
punct_no_ending mark.RightBrace h = cc
punct_no_ending mark.Colon h = cc
punct_no_ending mark.Semicolon h = cc
punct_no_ending mark.Comma h = cc
punct_no_ending mark.DoubleArrow h = cc
punct_no_ending _ h = refl

-- what begins an expression ends none
pub begins_no_ending : (t : Symbol) → begins_some (beginning t) ≡ true → ending t ≡ no_ending
begins_no_ending (keyword k) h = keyword_no_ending k h
begins_no_ending (punct p) h = punct_no_ending p h
begins_no_ending symbol.end_part h = cc
begins_no_ending _ h = refl

punct_no_semicolon : (p : Punct) → begins_some (beginning (punct p)) ≡ true → is_semicolon (punct p) ≡ false
punct_no_semicolon mark.Semicolon h = cc
punct_no_semicolon _ h = refl

pub begins_no_semicolon : (t : Symbol) → begins_some (beginning t) ≡ true → is_semicolon t ≡ false
begins_no_semicolon (punct p) h = punct_no_semicolon p h
begins_no_semicolon _ h = refl

punct_no_ampersand : (p : Punct) → begins_some (beginning (punct p)) ≡ true → is_ampersand (punct p) ≡ false
punct_no_ampersand mark.Ampersand h = cc
punct_no_ampersand _ h = refl

pub begins_no_ampersand : (t : Symbol) → begins_some (beginning t) ≡ true → is_ampersand t ≡ false
begins_no_ampersand (punct p) h = punct_no_ampersand p h
begins_no_ampersand _ h = refl

-- ---- statements

abbrev pub starts_by : StatementBeginning → Symbol → Bool
starts_by at_expression t = begins_some (beginning t)
starts_by _ t = true

abbrev pub starts_statement : Symbol → Bool
starts_statement t = starts_by (statement_beginning t) t

-- The symbols are some, and the first one begins a statement.
abbrev pub StartsStatement : List Symbol → Type 0
StartsStatement [] = ⊥
StartsStatement (t ∷ w) = starts_statement t ≡ true

begins_statement : (x : StatementBeginning) (t : Symbol) → begins_some (beginning t) ≡ true → starts_by x t ≡ true
begins_statement at_expression t h = h
begins_statement _ t h = refl

expression_starts : (w : List Symbol) → Starts w → StartsStatement w
expression_starts [] h = absurd h
expression_starts (t ∷ w) h = begins_statement (statement_beginning t) t h

pub statement_starts : (a : Statement Nothing) (w : List Symbol) → StartsStatement (spell_statement a w)
statement_starts (expression note e) w = expression_starts (spell e (punct mark.Semicolon ∷ w)) (starts e (punct mark.Semicolon ∷ w))
statement_starts (jump note returning value) w = refl
statement_starts (jump note breaking value) w = refl
statement_starts (jump note continuing value) w = refl
statement_starts _ w = refl

-- ---- what ends a list

abbrev pub ender : Behind → Bool
ender by_while = false
ender by_other = false
ender _ = true

keyword_no_ender : (k : Keyword) → starts_statement (keyword k) ≡ true → ender (behind_keyword k) ≡ false
keyword_no_ender word.Else h = cc
keyword_no_ender word.ElseIf h = cc
keyword_no_ender word.Case h = cc
keyword_no_ender word.Default h = cc
keyword_no_ender word.EndIf h = cc
keyword_no_ender word.EndWhile h = cc
keyword_no_ender word.EndFor h = cc
keyword_no_ender word.EndForeach h = cc
keyword_no_ender word.EndSwitch h = cc
keyword_no_ender word.Catch h = cc
keyword_no_ender word.Finally h = cc
keyword_no_ender _ h = refl

punct_no_ender : (p : Punct) → starts_statement (punct p) ≡ true → ender (behind (punct p)) ≡ false
punct_no_ender mark.RightBrace h = cc
punct_no_ender _ h = refl

pub starts_no_ender : (t : Symbol) → starts_statement t ≡ true → ender (behind t) ≡ false
starts_no_ender (keyword k) h = keyword_no_ender k h
starts_no_ender (punct p) h = punct_no_ender p h
starts_no_ender _ h = refl

punct_no_colon : (p : Punct) → starts_statement (punct p) ≡ true → is_colon (punct p) ≡ false
punct_no_colon mark.Colon h = cc
punct_no_colon _ h = refl

pub starts_no_colon : (t : Symbol) → starts_statement t ≡ true → is_colon t ≡ false
starts_no_colon (punct p) h = punct_no_colon p h
starts_no_colon _ h = refl

no_end_while : (list : StatementList) (ss : Statements Nothing) (o : Around) → list_end list ss o by_while ≡ None
no_end_while of_block ss o = refl
no_end_while (of_if test) ss o = refl
no_end_while (of_elseif test body parts last) ss o = refl
no_end_while (of_else test body parts) ss o = refl
no_end_while (of_loop (while_loop test)) ss o = refl
no_end_while (of_loop (for_loop a b c)) ss o = refl
no_end_while (of_loop (foreach_loop a b c)) ss o = refl
no_end_while (of_case e switch_form.Braces cases label end) ss o = refl
no_end_while (of_case e switch_form.Colon cases label end) ss o = refl
no_end_while of_try ss o = refl
no_end_while (of_catch body catches classes n) ss o = refl
no_end_while (of_finally body catches) ss o = refl

no_end_other : (list : StatementList) (ss : Statements Nothing) (o : Around) → list_end list ss o by_other ≡ None
no_end_other of_block ss o = refl
no_end_other (of_if test) ss o = refl
no_end_other (of_elseif test body parts last) ss o = refl
no_end_other (of_else test body parts) ss o = refl
no_end_other (of_loop (while_loop test)) ss o = refl
no_end_other (of_loop (for_loop a b c)) ss o = refl
no_end_other (of_loop (foreach_loop a b c)) ss o = refl
no_end_other (of_case e switch_form.Braces cases label end) ss o = refl
no_end_other (of_case e switch_form.Colon cases label end) ss o = refl
no_end_other of_try ss o = refl
no_end_other (of_catch body catches classes n) ss o = refl
no_end_other (of_finally body catches) ss o = refl

pub no_end : (list : StatementList) (ss : Statements Nothing) (o : Around) (x : Behind) → ender x ≡ false → list_end list ss o x ≡ None
no_end list ss o by_while h = no_end_while list ss o
no_end list ss o by_other h = no_end_other list ss o
no_end list ss o by_else h = cc
no_end list ss o _ h = cc

-- ---- a statement where one is due

begun_goes : (x : StatementBeginning) (o : Around) (t : Symbol) → starts_by x t ≡ true → IsSome (begun x o t)
begun_goes at_expression o t h = some_in (λ n. in_expression as_line n o) (advance (expects []) t) (started_goes (beginning t) h)
begun_goes _ o t h = tt

pub begin_goes : (o : Around) (t : Symbol) → starts_statement t ≡ true → IsSome (begin o t)
begin_goes o t h = begun_goes (statement_beginning t) o t h

abbrev pub run : StatementState → List Symbol → StatementReading
run = read_statement_from

begins_in_list : (list : StatementList) (ss : Statements Nothing) (o : Around) (t : Symbol) (w : List Symbol) (a b : StatementReading) → starts_statement t ≡ true
    → or_halted (list_step list ss o t) (λ n. run n w) a ≡ or_halted (begin (list_open list ss ∷ o) t) (λ n. run n w) b
begins_in_list list ss o t w a b h =
    ap (λ u. or_halted (either u (begin (list_open list ss ∷ o) t)) (λ n. run n w) a) (no_end list ss o (behind t) (starts_no_ender t h))
    ∙ or_some (begin (list_open list ss ∷ o) t) (λ n. run n w) a b (begin_goes (list_open list ss ∷ o) t h)

pub behind_list : (x : Behind) (list : StatementList) (ss : Statements Nothing) (a : Statement Nothing) (o : Around) (t : Symbol)
    → reached_step (released_bodies (body_strength x) (list_open list ss ∷ o) a) t x ≡ list_step list (and_statement ss a) o t
behind_list by_else list ss a o t = refl
behind_list _ list ss a o t = refl

-- behind the statements of a list
abbrev pub led : StatementList → Statements Nothing → Around → StatementState
led list no_statement o = due_in_list list no_statement o
led list (and_statement ss a) o = done a (list_open list ss ∷ o)

-- a further statement of a list
pub led_on : (list : StatementList) (ss : Statements Nothing) (o : Around) (w : List Symbol) → StartsStatement w → run (led list ss o) w ≡ run (due_statement (list_open list ss ∷ o)) w
led_on list ss o [] h = absurd h
led_on list no_statement o (t ∷ w) h = begins_in_list list no_statement o t w _ _ h
led_on list (and_statement ss a) o (t ∷ w) h =
    ap (λ u. or_halted u (λ n. run n w) (halt_statement (done a (list_open list ss ∷ o)) (t ∷ w))) (behind_list (behind t) list ss a o t)
    ∙ begins_in_list list (and_statement ss a) o t w _ _ h

-- the end of a list
pub led_ends : (list : StatementList) (ss : Statements Nothing) (o : Around) (t : Symbol) (w : List Symbol) (n : StatementState) → list_end list ss o (behind t) ≡ Some n
    → run (led list ss o) (t ∷ w) ≡ run n w
led_ends list no_statement o t w n h =
    ap (λ u. or_halted (either u (begin (list_open list no_statement ∷ o) t)) (λ n. run n w) (halt_statement (due_in_list list no_statement o) (t ∷ w))) h
led_ends list (and_statement ss a) o t w n h =
    ap (λ u. or_halted u (λ n. run n w) (halt_statement (done a (list_open list ss ∷ o)) (t ∷ w))) (behind_list (behind t) list ss a o t)
    ∙ ap (λ u. or_halted (either u (begin (list_open list (and_statement ss a) ∷ o) t)) (λ n. run n w) (halt_statement (done a (list_open list ss ∷ o)) (t ∷ w))) h

-- ---- an expression that begins with `static`

-- `static` stands in front of `::`
abbrev pub StaticFits : List Symbol → Type 0
StaticFits (keyword word.Static ∷ []) = ⊥
StaticFits (keyword word.Static ∷ t ∷ w) = t ≡ punct mark.DoubleColon
StaticFits w = Unit {0}

leaf_fits : (l : Leaf) (w : List Symbol) → StaticFits (leaf_symbol l ∷ w)
leaf_fits (magic magic_word.Line) w = tt
leaf_fits (magic magic_word.Class) w = tt
leaf_fits (magic magic_word.Function) w = tt
leaf_fits (magic magic_word.Method) w = tt
leaf_fits _ w = tt

prefix_fits : (op : Prefix) (w : List Symbol) → StaticFits (prefix_symbol op ∷ w)
prefix_fits prefix_op.Clone w = tt
prefix_fits _ w = tt

pub static_fits : (e : Form) (w : List Symbol) → StaticFits (spell e w)
static_fits (leaf spot l) w = leaf_fits l w
static_fits (enclosed spot parentheses e) w = tt
static_fits (enclosed spot emptiness e) w = tt
static_fits (enclosed spot exiting e) w = tt
static_fits (listed spot (array form.Brackets) items) w = tt
static_fits (listed spot (array form.Array) items) w = tt
static_fits (listed spot (array form.List) items) w = tt
static_fits (listed spot is_set items) w = tt
static_fits (static_member spot member) w = refl
static_fits (append e) w = static_fits e _
static_fits (index e key) w = static_fits e _
static_fits (selected e arrow member) w = static_fits e _
static_fits (computed e key) w = static_fits e _
static_fits (call f items) w = static_fits f _
static_fits (prefix spot op e) w = prefix_fits op _
static_fits (count e way) w = static_fits e _
static_fits (binary op l r) w = static_fits l _
static_fits (instance_of l r) w = static_fits l _
static_fits (instance_of_static l spot) w = static_fits l _
static_fits (choice c a b) w = static_fits c _
static_fits (short_choice c b) w = static_fits c _
static_fits (assign how l r) w = static_fits l _
static_fits (template spot pieces) w = tt
static_fits _ w = tt
