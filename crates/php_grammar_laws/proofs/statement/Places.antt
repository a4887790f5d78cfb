-- Steps of the machine of statements that lead on: behind expressions and names, and all others.
use Rattle.std.proofs.Common.{◌≡◌, ℕ, Bool, true, false, Option, Some, None, List, [], ◌∷◌, refl, sym, ◌∙◌, ap, subst}
use Rattle.php_token.specs.declared.kind.Keyword.TheVariants as word
use Rattle.php_token.specs.declared.kind.Punct.TheVariants as mark
use Rattle.php_ast.specs.declared.statement.SwitchForm.{SwitchForm}
use Rattle.php_ast.specs.declared.statement.SwitchForm.TheVariants as switch_form
use Rattle.php_ast.specs.Symbol as symbol
use Rattle.php_ast.specs.Symbol.{Symbol, keyword, punct}
use Rattle.php_ast.specs.expression.Tree.{Items, none, and, plain}
use Rattle.php_ast.specs.expression.Spelling.{spell, spell_items}
use Rattle.php_ast.specs.expression.Proper.{Proper, ends_bare}
use Rattle.php_ast.specs.statement.Spelling.{jump_word, spell_head, spell_target}
use Rattle.php_ast.specs.statement.Proper.{AreAny, AreProperCases}
use Rattle.php_ast.specs.statement.Tree.{Sequence, then_also, Name}
use Rattle.php_ast.specs.statement.Tree.{jump}
use Rattle.php_ast.specs.statement.Tree.{Statements, Cases, no_case, Catches}
use Rattle.php_grammar.specs.declared.closer.Closer.{Closer}
use Rattle.php_grammar.specs.declared.closer.Closer.TheVariants as ender
use Rattle.php_grammar.specs.expression.Role.{continuation, ends_yield, is_ampersand, is_colon, is_left_brace}
use Rattle.php_grammar.specs.expression.Machine.{Nothing, Form, State, past_static, pick}
use Rattle.php_grammar.specs.Run.{if_some}
use Rattle.php_grammar.specs.statement.Forms.{of_if, of_loop, if_open, loop_open, Around, Head, if_head, elseif_head, elseif_list_head, while_head, do_head, switch_head, Values, of_echo, of_unset, of_starts, of_tests, of_steps, ExpressionPlace, as_line, as_value, as_static, as_constant, as_jump, as_thrown, as_test, as_walked, as_first, as_second, as_label, Names, of_globals, of_statics, of_constants, of_classes, of_declare, StatementState, due_statement, done, due, in_expression, due_in_list, due_value, due_name, past_name, due_int, past_static_word, past_jump, past_if, past_loop, past_as, past_key, past_switch, due_case, past_default, past_block}
use Rattle.php_grammar.specs.statement.Role.{behind, Ending, closer, as_word, no_ending, ending, Fixed, fixed_symbol, is_fixed, is_semicolon, is_assign, is_bar, name_text, variable_text}
use Rattle.php_grammar.specs.statement.Machine.{expected, entered, listing, begin, due_step, values_end, values_step, tested, filled, expression_step, named_here, class_step, name_step, static_step, int_step, target_step, switch_step, default_step, advance_statement}
use Rattle.php_grammar.proofs.expression.Roles.{closer_symbol, colon_says, ampersand_says, left_brace_says}
use Rattle.php_grammar.proofs.expression.Sound.{symbols_so_far}
use Rattle.php_grammar_laws.proofs.Wholes.{IsInner, WholeBefore, through_leads}
use Rattle.php_grammar_laws.proofs.Begins.{Front, Same, with_one, next, Leads, either_leads, pick_leads}
use Rattle.php_grammar_laws.proofs.Says.{EndingSays, ending_says, behind_says, test_is, semicolon_says, assign_says, bar_says, fixed_says, NameSays, name_says, VariableSays, variable_says}
use Rattle.php_grammar_laws.proofs.statement.Sound.{loop_front, switch_front, around_front, values_front, head_front, walked_front, names_front, spelled_in, place_front, SoundAround, SoundValues, FitsValues, MayLackValues, SoundHead, SoundTry, SoundNames, SoundPlace, Reached}
use Rattle.php_grammar_laws.proofs.statement.Steps.{nothing_read, entered_leads, begin_leads, list_leads, case_leads, past_leads, block_leads}

-- ---- what a symbol says of the end of an expression before it

whole_at : (t x : Symbol) (e : Form) → t ≡ x → WholeBefore t e → WholeBefore x e
whole_at t x e is h = subst (λ u. WholeBefore u e) is h

not_true : (b c : Bool) → c ≡ false → (b ≡ true → c ≡ true) → b ≡ false
not_true false c no_end h = refl
not_true true c no_end h = let is : c ≡ true = h refl in cc

not_bare : (x : Symbol) (e : Form) → ends_yield (continuation x) ≡ false → WholeBefore x e → ends_bare e ≡ false
not_bare x e ends h = not_true (ends_bare e) (ends_yield (continuation x)) ends h.bare

-- ---- values

values_end_leads : (values : Values) (items : Items Nothing) (c : Closer) (o : Around) (t : Symbol) (f : Front) → t ≡ closer_symbol c → SoundAround o → SoundValues values → FitsValues values items
    → Same (λ w. around_front o (values_front values (spell_items items w))) f → Leads Reached (with_one f t) (values_end values items o c)
values_end_leads of_echo items ender.Semicolon o t f is a h fits same = ((a, fits, refl), λ w. next (λ v. around_front o (values_front of_echo (spell_items items v))) f t _ is same w)
values_end_leads of_unset items ender.Paren o t f is a h fits same =
    ((a, fits, refl), λ w. next (λ v. around_front o (values_front of_unset (spell_items items v))) f t _ is same (punct mark.Semicolon ∷ w))
values_end_leads of_starts items ender.Semicolon o t f is a h fits same = ((a, fits, tt), λ w. next (λ v. around_front o (values_front of_starts (spell_items items v))) f t _ is same w)
values_end_leads (of_tests b) items ender.Semicolon o t f is a h fits same =
    ((a, (h, fits), tt), λ w. next (λ v. around_front o (values_front (of_tests b) (spell_items items v))) f t _ is same w)
values_end_leads (of_steps b d) items ender.Paren o t f is a h fits same =
    ((a, (h.0, h.1, fits)), λ w. next (λ v. around_front o (values_front (of_steps b d) (spell_items items v))) f t _ is same w)
values_end_leads of_echo items _ o t f is a h fits same = tt
values_end_leads of_unset items _ o t f is a h fits same = tt
values_end_leads of_starts items _ o t f is a h fits same = tt
values_end_leads (of_tests b) items _ o t f is a h fits same = tt
values_end_leads (of_steps b d) items _ o t f is a h fits same = tt

values_leads : (values : Values) (items : Items Nothing) (x : Ending) (o : Around) (t : Symbol) (f : Front) → EndingSays x t → SoundAround o → SoundValues values → FitsValues values items
    → Same (λ w. around_front o (values_front values (spell_items items w))) f → Leads Reached (with_one f t) (values_step values items o x)
values_leads values items (closer c) o t f is a h fits same = values_end_leads values items c o t f is a h fits same
values_leads values items as_word o t f is a h fits same = tt
values_leads values items no_ending o t f is a h fits same = tt

one_fits : (values : Values) (items : Items Nothing) (e : Form) → AreAny items → Proper e → FitsValues values (and items plain e)
one_fits of_echo items e h p = (h.0, refl, (h.1, tt, p))
one_fits of_unset items e h p = (h.0, refl, (h.1, tt, p))
one_fits of_starts items e h p = (h.0, (h.1, tt, p))
one_fits (of_tests b) items e h p = (h.0, (h.1, tt, p))
one_fits (of_steps b d) items e h p = (h.0, (h.1, tt, p))

none_fits : (values : Values) → MayLackValues values → FitsValues values none
none_fits of_echo h = absurd h
none_fits of_unset h = absurd h
none_fits of_starts h = (tt, tt)
none_fits (of_tests b) h = (tt, tt)
none_fits (of_steps b d) h = (tt, tt)

-- ---- behind an expression

tested_leads : (head : Head) (e : Form) (o : Around) (t : Symbol) (f : Front) → t ≡ punct mark.RightParen → Proper e → SoundAround o → SoundHead head
    → Same (λ w. around_front o (head_front head (punct mark.LeftParen ∷ spell e w))) f → Reached (tested head e o) (with_one f t)
tested_leads if_head e o t f is p a h same = ((a, p), λ w. next (λ v. around_front o (head_front if_head (punct mark.LeftParen ∷ spell e v))) f t _ is same w)
tested_leads (elseif_head test body parts) e o t f is p a h same =
    (((h, p), a), λ w. next (λ v. around_front o (head_front (elseif_head test body parts) (punct mark.LeftParen ∷ spell e v))) f t _ is same w)
tested_leads (elseif_list_head test body parts) e o t f is p a h same =
    ((a, (h, p), tt, refl), λ w. next (λ v. around_front o (head_front (elseif_list_head test body parts) (punct mark.LeftParen ∷ spell e v))) f t _ is same (punct mark.Colon ∷ w))
tested_leads while_head e o t f is p a h same = ((a, p), λ w. next (λ v. around_front o (head_front while_head (punct mark.LeftParen ∷ spell e v))) f t _ is same w)
tested_leads (do_head s) e o t f is p a h same =
    ((a, (h, p), refl), λ w. next (λ v. around_front o (head_front (do_head s) (punct mark.LeftParen ∷ spell e v))) f t _ is same (punct mark.Semicolon ∷ w))
tested_leads switch_head e o t f is p a h same = ((a, p), λ w. next (λ v. around_front o (head_front switch_head (punct mark.LeftParen ∷ spell e v))) f t _ is same w)

filled_leads : (place : ExpressionPlace) (x : Ending) (e : Form) (o : Around) (t : Symbol) (f : Front) → EndingSays x t → WholeBefore t e → SoundAround o → SoundPlace place
    → Same (λ w. around_front o (place_front place (spell e w))) f → Leads Reached (with_one f t) (filled place e o x)
filled_leads as_line (closer ender.Semicolon) e o t f is h a p same = ((a, h.proper, refl), λ w. next (λ v. around_front o (spell e v)) f t _ is same w)
filled_leads (as_value values items) (closer ender.Comma) e o t f is h a p same =
    ((a, (p.0, (p.1.0, (p.1.1, tt, h.proper))), nothing_read), λ w. next (λ v. around_front o (place_front (as_value values items) (spell e v))) f t _ is same w)
filled_leads (as_value values items) x e o t f is h a p same = values_leads values (and items plain e) x o t f is a p.0 (one_fits values items e p.1 h.proper) same
filled_leads (as_static xs n) (closer ender.Comma) e o t f is h a p same = ((a, (p, h.proper)), λ w. next (λ v. around_front o (place_front (as_static xs n) (spell e v))) f t _ is same w)
filled_leads (as_static xs n) (closer ender.Semicolon) e o t f is h a p same =
    ((a, (refl, (p, h.proper)), refl), λ w. next (λ v. around_front o (place_front (as_static xs n) (spell e v))) f t _ is same w)
filled_leads (as_constant xs n) (closer ender.Comma) e o t f is h a p same = ((a, (p, h.proper)), λ w. next (λ v. around_front o (place_front (as_constant xs n) (spell e v))) f t _ is same w)
filled_leads (as_constant xs n) (closer ender.Semicolon) e o t f is h a p same =
    ((a, (refl, (p, h.proper)), refl), λ w. next (λ v. around_front o (place_front (as_constant xs n) (spell e v))) f t _ is same w)
filled_leads (as_jump kind) (closer ender.Semicolon) e o t f is h a p same = ((a, h.proper, refl), λ w. next (λ v. around_front o (place_front (as_jump kind) (spell e v))) f t _ is same w)
filled_leads as_thrown (closer ender.Semicolon) e o t f is h a p same = ((a, h.proper, refl), λ w. next (λ v. around_front o (place_front as_thrown (spell e v))) f t _ is same w)
filled_leads (as_test head) (closer ender.Paren) e o t f is h a p same = tested_leads head e o t f is h.proper a p same
filled_leads as_walked as_word e o t f is h a p same =
    ((a, (not_bare (keyword word.As) e refl (whole_at t _ e is h), h.proper)), λ w. next (λ v. around_front o (place_front as_walked (spell e v))) f t _ is same w)
filled_leads (as_first walked r) (closer ender.DoubleArrow) e o t f is h a p same =
    let seen : WholeBefore (punct mark.DoubleArrow) e = whole_at t _ e is h in
    ((a, p, (seen.no_arrow refl, not_bare (punct mark.DoubleArrow) e refl seen), h.proper), λ w. next (λ v. around_front o (place_front (as_first walked r) (spell e v))) f t _ is same w)
filled_leads (as_first walked r) (closer ender.Paren) e o t f is h a p same =
    ((a, (p.0, p.1, tt, h.proper)), λ w. next (λ v. around_front o (place_front (as_first walked r) (spell e v))) f t _ is same w)
filled_leads (as_second walked key r) (closer ender.Paren) e o t f is h a p same =
    ((a, (p.0.0, p.0.1, (p.1, p.2), h.proper)), λ w. next (λ v. around_front o (place_front (as_second walked key r) (spell e v))) f t _ is same w)
filled_leads (as_label d form cases) (closer ender.Colon) e o t f is h a p same =
    ((a, (p.0, p.1, (not_bare (punct mark.Colon) e refl (whole_at t _ e is h), h.proper)), tt, refl), λ w. next (λ v. around_front o (place_front (as_label d form cases) (spell e v))) f t _ is same w)
filled_leads (as_label d form cases) (closer ender.Semicolon) e o t f is h a p same =
    ((a, (p.0, p.1, h.proper), tt, refl), λ w. next (λ v. around_front o (place_front (as_label d form cases) (spell e v))) f t _ is same w)
filled_leads _ _ e o t f is h a p same = tt

expression_leads : (place : ExpressionPlace) (m : State) (o : Around) (t : Symbol) (f : Front) → SoundAround o → SoundPlace place → IsInner m
    → Same (λ w. around_front o (place_front place (symbols_so_far m w))) f → Leads Reached (with_one f t) (expression_step place m o t)
expression_leads place m o t f a p inner same =
    through_leads (Leads Reached (with_one f t)) m t (λ n. in_expression place n o) (λ e. filled place e o (ending t)) inner
    (λ n i moves. ((a, p, i), λ w. ap (λ u. around_front o (place_front place u)) (sym (moves w)) ∙ same (t ∷ w)))
    (λ e whole spelled. filled_leads place (ending t) e o t f (ending_says t) whole a p (λ w. ap (λ u. around_front o (place_front place u)) (sym (spelled w)) ∙ same w))
    tt

-- ---- names

text_leads : (o : Option (List ℕ)) (m : List ℕ → StatementState) (g f : Front) (t : Symbol) (spelled : List ℕ → Symbol) → ((text : List ℕ) → o ≡ Some text → t ≡ spelled text) → Same g f
    → ((text : List ℕ) → Same (λ w. g (spelled text ∷ w)) (with_one f t) → Reached (m text) (with_one f t)) → Leads Reached (with_one f t) (if_some o (λ text. Some (m text)))
text_leads None m g f t spelled is same h = tt
text_leads (Some text) m g f t spelled is same h = h text (λ w. next g f t (spelled text) (is text refl) same w)

named_is : (o : Option (List ℕ)) (t : Symbol) → NameSays o t → (text : List ℕ) → o ≡ Some text → t ≡ symbol.name text
named_is None t h text is = cc
named_is (Some other) t h text is = cc

variable_is : (o : Option (List ℕ)) (t : Symbol) → VariableSays o t → (text : List ℕ) → o ≡ Some text → t ≡ symbol.variable text
variable_is None t h text is = cc
variable_is (Some other) t h text is = cc

due_name_leads : (names : Names) (o : Around) (t : Symbol) (f : Front) → SoundAround o → SoundNames names → Same (λ w. around_front o (names_front names w)) f
    → Leads Reached (with_one f t) (advance_statement (due_name names o) t)
due_name_leads (of_globals names) o t f a h same =
    text_leads (variable_text t) (λ text. past_name (of_globals names) (named_here text) o) (λ w. around_front o (names_front (of_globals names) w)) f t (λ text. symbol.variable text)
    (variable_is (variable_text t) t (variable_says t)) same (λ text s. ((a, h), s))
due_name_leads (of_statics xs) o t f a h same =
    text_leads (variable_text t) (λ text. past_name (of_statics xs) (named_here text) o) (λ w. around_front o (names_front (of_statics xs) w)) f t (λ text. symbol.variable text)
    (variable_is (variable_text t) t (variable_says t)) same (λ text s. ((a, h), s))
due_name_leads (of_constants xs) o t f a h same =
    text_leads (name_text t) (λ text. past_name (of_constants xs) (named_here text) o) (λ w. around_front o (names_front (of_constants xs) w)) f t (λ text. symbol.name text)
    (named_is (name_text t) t (name_says t)) same (λ text s. ((a, h), s))
due_name_leads (of_classes body catches classes) o t f a h same =
    text_leads (name_text t) (λ text. past_name (of_classes body catches classes) (named_here text) o) (λ w. around_front o (names_front (of_classes body catches classes) w)) f t (λ text. symbol.name text)
    (named_is (name_text t) t (name_says t)) same (λ text s. ((a, h), s))
due_name_leads of_declare o t f a h same =
    text_leads (name_text t) (λ text. past_name of_declare (named_here text) o) (λ w. around_front o (names_front of_declare w)) f t (λ text. symbol.name text)
    (named_is (name_text t) t (name_says t)) same (λ text s. ((a, h), s))

-- a state behind `=`
assign_leads : (m : StatementState) (g f : Front) (t : Symbol) → Same g f → (Same (λ w. g (punct mark.Assign ∷ w)) (with_one f t) → Reached m (with_one f t)) → Leads Reached (with_one f t) (pick (is_assign t) (Some m) None)
assign_leads m g f t same h =
    pick_leads Reached (with_one f t) (is_assign t) (Some m) None (λ b. h (λ w. next g f t (punct mark.Assign) (test_is (is_assign t) t (punct mark.Assign) (assign_says t) b) same w)) (λ b. tt)

bar_leads : (body : Statements Nothing) (catches : Catches Nothing) (xs : Sequence (Name Nothing)) (n : Name Nothing) (o : Around) (t : Symbol) (f : Front) → SoundAround o → SoundTry body catches
    → Same (λ w. around_front o (names_front (of_classes body catches xs) (symbol.name n.text ∷ w))) f
    → Leads Reached (with_one f t) (pick (is_bar t) (Some (due_name (of_classes body catches (then_also xs n)) o)) None)
bar_leads body catches xs n o t f a h same =
    pick_leads Reached (with_one f t) (is_bar t) (Some (due_name (of_classes body catches (then_also xs n)) o)) None
    (λ b. ((a, h), λ w. next (λ v. around_front o (names_front (of_classes body catches xs) (symbol.name n.text ∷ v))) f t (punct mark.Bar) (test_is (is_bar t) t (punct mark.Bar) (bar_says t) b) same w))
    (λ b. tt)

class_leads : (body : Statements Nothing) (catches : Catches Nothing) (xs : Sequence (Name Nothing)) (n : Name Nothing) (o : Around) (t : Symbol) (f : Front) → SoundAround o → SoundTry body catches
    → Same (λ w. around_front o (names_front (of_classes body catches xs) (symbol.name n.text ∷ w))) f → Leads Reached (with_one f t) (class_step body catches (then_also xs n) o t)
class_leads body catches xs n o (symbol.variable text) f a h same = ((a, (h, refl), tt, refl), λ w. same (symbol.variable text ∷ punct mark.RightParen ∷ punct mark.LeftBrace ∷ w))
class_leads body catches xs n o t f a h same = bar_leads body catches xs n o t f a h same

name_leads : (names : Names) (x : Ending) (n : Name Nothing) (o : Around) (t : Symbol) (f : Front) → EndingSays x t → SoundAround o → SoundNames names
    → Same (λ w. around_front o (names_front names (spelled_in names n ∷ w))) f → Leads Reached (with_one f t) (name_step names n o t x)
name_leads (of_globals names) (closer ender.Comma) n o t f is a h same = ((a, tt), λ w. next (λ v. around_front o (names_front (of_globals names) (symbol.variable n.text ∷ v))) f t _ is same w)
name_leads (of_globals names) (closer ender.Semicolon) n o t f is a h same =
    ((a, refl, refl), λ w. next (λ v. around_front o (names_front (of_globals names) (symbol.variable n.text ∷ v))) f t _ is same w)
name_leads (of_globals names) _ n o t f is a h same = tt
name_leads (of_statics xs) (closer ender.Comma) n o t f is a h same = ((a, (h, tt)), λ w. next (λ v. around_front o (names_front (of_statics xs) (symbol.variable n.text ∷ v))) f t _ is same w)
name_leads (of_statics xs) (closer ender.Semicolon) n o t f is a h same =
    ((a, (refl, (h, tt)), refl), λ w. next (λ v. around_front o (names_front (of_statics xs) (symbol.variable n.text ∷ v))) f t _ is same w)
name_leads (of_statics xs) _ n o t f is a h same =
    assign_leads (expected (as_static xs n) o) (λ w. around_front o (names_front (of_statics xs) (symbol.variable n.text ∷ w))) f t same (λ s. ((a, h, nothing_read), s))
name_leads (of_constants xs) _ n o t f is a h same =
    assign_leads (expected (as_constant xs n) o) (λ w. around_front o (names_front (of_constants xs) (symbol.name n.text ∷ w))) f t same (λ s. ((a, h, nothing_read), s))
name_leads (of_classes body catches classes) _ n o t f is a h same = class_leads body catches classes n o t f a h same
name_leads of_declare _ n o t f is a h same =
    assign_leads (due_int n o) (λ w. around_front o (names_front of_declare (symbol.name n.text ∷ w))) f t same (λ s. (a, s))

static_inner : IsInner (past_static [])
static_inner = record { sound = tt; appends = record { at = λ v w. refl } }

static_leads : (o : Around) (t : Symbol) (f : Front) → SoundAround o → Same (λ w. around_front o (keyword word.Static ∷ w)) f → Leads Reached (with_one f t) (static_step o t)
static_leads o (symbol.variable text) f a same = ((a, tt), λ w. same (symbol.variable text ∷ w))
static_leads o t f a same = expression_leads as_line (past_static []) o t f a tt static_inner same

int_leads : (n : Name Nothing) (o : Around) (t : Symbol) (f : Front) → SoundAround o → Same (λ w. around_front o (names_front of_declare (symbol.name n.text ∷ punct mark.Assign ∷ w))) f
    → Leads Reached (with_one f t) (int_step n o t)
int_leads n o (symbol.int value) f a same = ((a, tt, refl), λ w. same (symbol.int value ∷ punct mark.RightParen ∷ punct mark.Semicolon ∷ w))
int_leads n o _ f a same = tt

-- ---- other states

target_leads : (place : Bool → ExpressionPlace) (g : Front) (o : Around) (t : Symbol) (f : Front) → SoundAround o → ((b : Bool) → SoundPlace (place b))
    → ((w : List Symbol) → place_front (place true) w ≡ g (punct mark.Ampersand ∷ w)) → ((w : List Symbol) → place_front (place false) w ≡ g w) → Same (λ w. around_front o (g w)) f
    → Leads Reached (with_one f t) (target_step place o t)
target_leads place g o t f a p marked unmarked same =
    pick_leads Reached (with_one f t) (is_ampersand t) (Some (expected (place true) o)) (entered (place false) o t)
    (λ b. ((a, p true, nothing_read), λ w. ap (around_front o) (marked w) ∙ next (λ v. around_front o (g v)) f t (punct mark.Ampersand) (test_is (is_ampersand t) t (punct mark.Ampersand) (ampersand_says t) b) same w))
    (λ b. entered_leads (place false) o t f a (p false) (λ w. ap (around_front o) (unmarked w) ∙ same w))

default_leads : (x : Ending) (e : Form) (form : SwitchForm) (cases : Cases Nothing) (o : Around) (t : Symbol) (f : Front) → EndingSays x t → SoundAround o → Proper e → AreProperCases cases
    → Same (λ w. around_front o (switch_front e form cases (keyword word.Default ∷ w))) f → Leads Reached (with_one f t) (default_step e form cases o x)
default_leads (closer ender.Colon) e form cases o t f is a p q same =
    ((a, (p, q, tt), tt, refl), λ w. next (λ v. around_front o (switch_front e form cases (keyword word.Default ∷ v))) f t _ is same w)
default_leads (closer ender.Semicolon) e form cases o t f is a p q same =
    ((a, (p, q, tt), tt, refl), λ w. next (λ v. around_front o (switch_front e form cases (keyword word.Default ∷ v))) f t _ is same w)
default_leads _ e form cases o t f is a p q same = tt

-- a state behind a `:`
colon_is : (t : Symbol) → is_colon t ≡ true → t ≡ punct mark.Colon
colon_is t b = test_is (is_colon t) t (punct mark.Colon) (colon_says t) b

switch_leads : (e : Form) (o : Around) (t : Symbol) (f : Front) → SoundAround o → Proper e → Same (λ w. around_front o (spell_head word.Switch e w)) f → Leads Reached (with_one f t) (switch_step e o t)
switch_leads e o t f a p same =
    pick_leads Reached (with_one f t) (is_left_brace t) (Some (due_case e switch_form.Braces no_case o)) (pick (is_colon t) (Some (due_case e switch_form.Colon no_case o)) None)
    (λ b. ((a, p, tt), λ w. next (λ v. around_front o (spell_head word.Switch e v)) f t (punct mark.LeftBrace) (test_is (is_left_brace t) t (punct mark.LeftBrace) (left_brace_says t) b) same w))
    (λ b. pick_leads Reached (with_one f t) (is_colon t) (Some (due_case e switch_form.Colon no_case o)) None
    (λ c. ((a, p, tt), λ w. next (λ v. around_front o (spell_head word.Switch e v)) f t (punct mark.Colon) (colon_is t c) same w)) (λ c. tt))

due_leads : (xs : List Fixed) (m : StatementState) (t : Symbol) (f : Front) → Reached (due xs m) f → Leads Reached (with_one f t) (due_step xs m t)
due_leads [] m t f h = tt
due_leads (x ∷ []) m t f h =
    pick_leads Reached (with_one f t) (is_fixed x t) (Some m) None
    (λ b. subst (λ u. Reached m (with_one f u)) (sym (test_is (is_fixed x t) t (fixed_symbol x) (fixed_says x t) b)) h) (λ b. tt)
due_leads (x ∷ y ∷ xs) m t f h =
    pick_leads Reached (with_one f t) (is_fixed x t) (Some (due (y ∷ xs) m)) None
    (λ b. subst (λ u. Reached (due (y ∷ xs) m) (with_one f u)) (sym (test_is (is_fixed x t) t (fixed_symbol x) (fixed_says x t) b)) h) (λ b. tt)

pub steps_lead : (m : StatementState) (f : Front) (t : Symbol) → Reached m f → Leads Reached (with_one f t) (advance_statement m t)
steps_lead (due_statement o) f t h = begin_leads o t f h.0 h.1
steps_lead (done a o) f t h = past_leads a o t f h.0.0 h.0.1 h.0.2 h.1
steps_lead (due xs m) f t h = due_leads xs m t f h
steps_lead (in_expression place m o) f t h = expression_leads place m o t f h.0.0 h.0.1 h.0.2 h.1
steps_lead (due_in_list list ss o) f t h = list_leads list ss o t f h.0.0 h.0.1 h.0.2 (λ s. h.0.3) h.1
steps_lead (due_value values o) f t h =
    either_leads Reached (with_one f t) (values_step values none o (ending t)) (entered (as_value values none) o t)
    (values_leads values none (ending t) o t f (ending_says t) h.0.0 h.0.1 (none_fits values h.0.2) h.1) (entered_leads (as_value values none) o t f h.0.0 (h.0.1, (tt, tt)) h.1)
steps_lead (due_name names o) f t h = due_name_leads names o t f h.0.0 h.0.1 h.1
steps_lead (past_name names n o) f t h = name_leads names (ending t) n o t f (ending_says t) h.0.0 h.0.1 h.1
steps_lead (due_int n o) f t h = int_leads n o t f h.0 h.1
steps_lead (past_static_word o) f t h = static_leads o t f h.0 h.1
steps_lead (past_jump kind o) f t h =
    pick_leads Reached (with_one f t) (is_semicolon t) (Some (done (jump tt kind None) o)) (entered (as_jump kind) o t)
    (λ b. ((h.0, tt, refl), λ w. next (λ v. around_front o (keyword (jump_word kind) ∷ v)) f t (punct mark.Semicolon) (test_is (is_semicolon t) t (punct mark.Semicolon) (semicolon_says t) b) h.1 w))
    (λ b. entered_leads (as_jump kind) o t f h.0 tt h.1)
steps_lead (past_if test o) f t h =
    pick_leads Reached (with_one f t) (is_colon t) (Some (listing (of_if test) o)) (begin (if_open test ∷ o) t)
    (λ b. ((h.0.0, h.0.1, tt, refl), λ w. next (λ v. around_front o (spell_head word.If test v)) f t (punct mark.Colon) (colon_is t b) h.1 w))
    (λ b. begin_leads (if_open test ∷ o) t f (h.0.1, h.0.0) h.1)
steps_lead (past_loop loop o) f t h =
    pick_leads Reached (with_one f t) (is_colon t) (Some (listing (of_loop loop) o)) (begin (loop_open loop ∷ o) t)
    (λ b. ((h.0.0, h.0.1, tt, refl), λ w. next (λ v. around_front o (loop_front loop v)) f t (punct mark.Colon) (colon_is t b) h.1 w))
    (λ b. begin_leads (loop_open loop ∷ o) t f (h.0.1, h.0.0) h.1)
steps_lead (past_as walked o) f t h = target_leads (as_first walked) (walked_front walked) o t f h.0.0 (λ b. h.0.1) (λ w. refl) (λ w. refl) h.1
steps_lead (past_key walked key o) f t h =
    target_leads (as_second walked key) (λ w. walked_front walked (spell_target key (punct mark.DoubleArrow ∷ w))) o t f h.0.0 (λ b. (h.0.1, h.0.2, h.0.3)) (λ w. refl) (λ w. refl) h.1
steps_lead (past_switch e o) f t h = switch_leads e o t f h.0.0 h.0.1 h.1
steps_lead (due_case e form cases o) f t h = case_leads (behind t) e form cases o t f (behind_says t) h.0.0 h.0.1 h.0.2 h.1
steps_lead (past_default e form cases o) f t h = default_leads (ending t) e form cases o t f (ending_says t) h.0.0 h.0.1 h.0.2 h.1
steps_lead (past_block body catches o) f t h = block_leads (behind t) body catches o t f (behind_says t) h.0.0 h.0.1 h.1
