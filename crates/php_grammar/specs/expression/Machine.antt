-- A machine that reads expressions. Its state is what has been read: a complete tree, or none, and the forms that
-- are still open around it. Each symbol changes the state once, by what was read alone, so nothing is
-- read twice and nothing is looked up ahead.
use Rattle.std.specs.Prelude.{ℕ, suc, Bool, true, false, nat_lt, Option, Some, None, List, [], ◌∷◌}
use Rattle.php_token.specs.declared.kind.Keyword.TheVariants as word
use Rattle.php_token.specs.declared.kind.Punct.TheVariants as mark
use Rattle.php_ast.specs.declared.operator.Binary.{Binary}
use Rattle.php_ast.specs.declared.operator.Prefix.{Prefix}
use Rattle.php_ast.specs.declared.operator.Assign.{Assign}
use Rattle.php_ast.specs.declared.operator.Assign.TheVariants as setting
use Rattle.php_ast.specs.declared.operator.ArrayForm.TheVariants as form
use Rattle.php_ast.specs.Symbol as symbol
use Rattle.php_ast.specs.Symbol.{Symbol, keyword, punct}
use Rattle.php_ast.specs.expression.Tree.{variable, Enclosure, parentheses, exiting, Listing, array, is_set, Arrow, thin, colons, Setting, by_value, by_reference, Member, named, held}
use Rattle.php_ast.specs.expression.Tree.{Tree, leaf, template, enclosed, listed, exit, exit_empty, static_member, append, index, selected, computed, call, new, new_with, prefix, count, binary, instance_of, instance_of_static, choice, short_choice, assign, yield_nothing, yield_value, yield_pair}
use Rattle.php_ast.specs.expression.Tree.{Items, none, and, skip, Lead, plain, reference, spread, keyed, keyed_reference, Pieces, no_piece, bytes, value, Class, class_name, class_static, class_found, Steps, from, step_property, step_index}
use Rattle.php_ast.specs.expression.Spelling.{spell, spell_items, spell_lead, spell_pieces, spell_class, spell_steps, comma, opening, list_opening, list_closing, setting_symbols}
use Rattle.php_ast.specs.Operators.{binary_symbol, prefix_symbol}
use Rattle.php_ast.specs.Power.{binary_row, choice_row, assign_row, prefix_power, yield_power}
use Rattle.php_ast.specs.expression.Proper.{right, ends, is_call, is_none, operand_level}
use Rattle.php_grammar.specs.declared.closer.Closer.{Closer}
use Rattle.php_grammar.specs.declared.closer.Closer.TheVariants as ender
use Rattle.php_grammar.specs.expression.Role.{Beginning, at_leaf, at_static, at_template, at_exit, at_new, at_yield, at_enclosed, at_listed, at_prefix, at_nothing, beginning, Draw, by_binary, by_instance_of, by_choice, by_assign, by_count, by_call, by_index, by_select, Continuation, draws, closes, neither, continuation, draw_strength, strength_of, strength, is_arrow, ends_yield, word_of, member_of, Mark, refers, spreads, ends_item, begins, item_mark, is_ampersand, is_paren, is_right_paren, is_right_bracket, is_left_brace, is_colon}

-- What is read is a form: a tree that notes nothing of its tokens.
abbrev pub Nothing : Type 0
Nothing = Unit {0}

abbrev pub Form : Type 0
Form = Tree Nothing

-- what a list belongs to
pub data Holder : Type 0 where
  of_call : Form → Holder
  of_new : Class Nothing → Holder
  of_list : Listing → Holder

-- a form that is not complete: its next part is an expression
pub data OpenForm : Type 0 where
  enclosed_open : Enclosure → OpenForm
  items_open : Holder → Items Nothing → Lead Nothing → OpenForm
  index_open : Form → OpenForm
  computed_open : Form → OpenForm
  step_open : Steps Nothing → OpenForm
  part_open : Pieces Nothing → OpenForm
  then_open : Form → OpenForm
  else_open : Form → Form → OpenForm
  short_open : Form → OpenForm
  prefix_open : Prefix → OpenForm
  binary_open : Binary → Form → OpenForm
  instance_of_open : Form → OpenForm
  assign_open : Setting → Form → OpenForm
  yield_open : OpenForm
  yield_value_open : Form → OpenForm

-- from the inside outwards
abbrev pub OpenForms : Type 0
OpenForms = List OpenForm

-- what is due
pub data State : Type 0 where
  -- an expression
  expects : OpenForms → State
  -- an expression stands here; a suffix or an operator may extend it
  holds : Form → OpenForms → State
  -- a call was read as a class behind `instanceof`, and must go on
  holds_call : Form → OpenForms → State
  -- `(` behind the word that encloses, or that begins a list
  due_enclosed : Enclosure → OpenForms → State
  due_listed : Listing → OpenForms → State
  -- an item, behind the opening token or a comma
  past_items : Holder → Items Nothing → OpenForms → State
  -- a value, behind the `=>` of a key
  past_value : Holder → Items Nothing → Form → OpenForms → State
  -- behind `exit`, and behind its `(`
  past_exit : OpenForms → State
  past_exit_paren : OpenForms → State
  -- behind `static`, and behind its `::`
  past_static : OpenForms → State
  past_static_colons : OpenForms → State
  -- behind a piece of a text with parts
  past_template : Pieces Nothing → OpenForms → State
  -- behind `[`
  past_index : Form → OpenForms → State
  -- behind `->` or `::`
  past_arrow : Arrow → Form → OpenForms → State
  -- behind `new`, behind its class, and behind a `->` in its class
  past_new : OpenForms → State
  past_class : Class Nothing → OpenForms → State
  past_step : Steps Nothing → OpenForms → State
  -- behind `?`
  past_question : Form → OpenForms → State
  -- behind `=`
  past_assign : Form → OpenForms → State
  -- behind `yield`
  past_yield : OpenForms → State

-- ---- which operators an open form keeps inside

-- an operator of less power ends the form
abbrev pub least_power_at : OpenForm → ℕ
least_power_at (else_open c a) = right choice_row
least_power_at (short_open c) = right choice_row
least_power_at (prefix_open op) = suc (prefix_power op)
least_power_at (binary_open op l) = right (binary_row op)
least_power_at (instance_of_open l) = operand_level
least_power_at (assign_open how l) = right assign_row
least_power_at yield_open = suc yield_power
least_power_at (yield_value_open k) = suc yield_power
least_power_at _ = 0

abbrev pub least_power : OpenForms → ℕ
least_power [] = 0
least_power (f ∷ s) = least_power_at f

-- A `=>` belongs to the nearest `yield` that can take it, so it doesn't end that form.
abbrev pub ends_at : Bool → OpenForm → ℕ
ends_at true yield_open = 0
ends_at arrow f = least_power_at f

-- ---- a form, completed

-- the variable in place of an expression that is due
abbrev pub any : Form
any = leaf tt (variable [])

abbrev pub any_symbol : Symbol
any_symbol = symbol.variable []

abbrev pub closed_with : Holder → Items Nothing → Form
closed_with (of_call f) items = call f items
closed_with (of_new class) items = new_with tt class items
closed_with (of_list listing) items = listed tt listing items

abbrev pub has_paren : Holder → Bool
has_paren (of_list (array form.Brackets)) = false
has_paren _ = true

abbrev pub holder_closing : Holder → Symbol
holder_closing (of_list listing) = list_closing listing
holder_closing _ = punct mark.RightParen

-- whether items may be missing, have keys and be references, whether they may be spread, and whether a
-- list may end where an item is due
abbrev pub is_array : Holder → Bool
is_array (of_list (array form)) = true
is_array _ = false

abbrev pub is_arguments : Holder → Bool
is_arguments (of_call f) = true
is_arguments (of_new class) = true
is_arguments (of_list listing) = false

abbrev pub may_end : Holder → Items Nothing → Bool
may_end (of_list (array form)) items = true
may_end (of_list is_set) items = false
may_end _ items = is_none items

-- the items where a list ends behind a comma, or behind its opening token
abbrev pub ended_items : Items Nothing → Items Nothing
ended_items none = none
ended_items (and items lead e) = skip (and items lead e)
ended_items (skip items) = skip (skip items)

-- with the expression in it, and ended as shortly as possible
abbrev pub completed : OpenForm → Form → Form
completed (enclosed_open enclosure) e = enclosed tt enclosure e
completed (items_open h items lead) e = closed_with h (and items lead e)
completed (index_open a) e = index a e
completed (computed_open a) e = computed a e
completed (step_open steps) e = new tt (class_found (step_index steps e))
completed (part_open pieces) e = template tt (value pieces e)
completed (then_open c) e = choice c e any
completed (else_open c a) e = choice c a e
completed (short_open c) e = short_choice c e
completed (prefix_open op) e = prefix tt op e
completed (binary_open op l) e = binary op l e
completed (instance_of_open l) e = instance_of l e
completed (assign_open how l) e = assign how l e
completed yield_open e = yield_value tt e
completed (yield_value_open k) e = yield_pair tt k e

-- the symbols of that ending, before what follows
abbrev pub closing_part : OpenForm → List Symbol → List Symbol
closing_part (enclosed_open enclosure) w = punct mark.RightParen ∷ w
closing_part (items_open h items lead) w = holder_closing h ∷ w
closing_part (index_open a) w = punct mark.RightBracket ∷ w
closing_part (computed_open a) w = punct mark.RightBrace ∷ w
closing_part (step_open steps) w = punct mark.RightBracket ∷ w
closing_part (part_open pieces) w = symbol.end_part ∷ symbol.unquote ∷ w
closing_part (then_open c) w = punct mark.Colon ∷ any_symbol ∷ w
closing_part _ w = w

-- A call is no class behind `instanceof`; the shortest way to go on is `[]`.
abbrev pub is_call_at : OpenForm → Bool
is_call_at (items_open (of_call f) items lead) = true
is_call_at _ = false

abbrev pub seated : Bool → OpenForms → Form → Form
seated true (instance_of_open l ∷ s) e = append e
seated _ s e = e

abbrev pub seat_end : Bool → OpenForms → List Symbol → List Symbol
seat_end true (instance_of_open l ∷ s) w = punct mark.LeftBracket ∷ punct mark.RightBracket ∷ w
seat_end _ s w = w

abbrev pub completed_all : OpenForms → Form → Form
completed_all [] e = e
completed_all (f ∷ s) e = completed_all s (seated (is_call_at f) s (completed f e))

abbrev pub missing_end : OpenForms → List Symbol
missing_end [] = []
missing_end (f ∷ s) = closing_part f (seat_end (is_call_at f) s (missing_end s))

-- ---- the symbols of what is open so far

abbrev pub holder_front : Holder → List Symbol → List Symbol
holder_front (of_call f) w = spell f (punct mark.LeftParen ∷ w)
holder_front (of_new class) w = keyword word.New ∷ spell_class class (punct mark.LeftParen ∷ w)
holder_front (of_list listing) w = list_opening listing w

abbrev pub opening_part : OpenForm → List Symbol → List Symbol
opening_part (enclosed_open enclosure) w = opening enclosure w
opening_part (items_open h items lead) w = holder_front h (spell_items items (comma items (spell_lead lead w)))
opening_part (index_open a) w = spell a (punct mark.LeftBracket ∷ w)
opening_part (computed_open a) w = spell a (punct mark.Arrow ∷ punct mark.LeftBrace ∷ w)
opening_part (step_open steps) w = keyword word.New ∷ spell_steps steps (punct mark.LeftBracket ∷ w)
opening_part (part_open pieces) w = symbol.quote ∷ spell_pieces pieces (symbol.part ∷ w)
opening_part (then_open c) w = spell c (punct mark.Question ∷ w)
opening_part (else_open c a) w = spell c (punct mark.Question ∷ spell a (punct mark.Colon ∷ w))
opening_part (short_open c) w = spell c (punct mark.Question ∷ punct mark.Colon ∷ w)
opening_part (prefix_open op) w = prefix_symbol op ∷ w
opening_part (binary_open op l) w = spell l (binary_symbol op ∷ w)
opening_part (instance_of_open l) w = spell l (keyword word.InstanceOf ∷ w)
opening_part (assign_open how l) w = spell l (setting_symbols how w)
opening_part yield_open w = keyword word.Yield ∷ w
opening_part (yield_value_open k) w = keyword word.Yield ∷ spell k (punct mark.DoubleArrow ∷ w)

abbrev pub opening_parts : OpenForms → List Symbol → List Symbol
opening_parts [] w = w
opening_parts (f ∷ s) w = opening_parts s (opening_part f w)

-- ---- steps

pub record Reached : Type 0 where
  pub tree : Form
  pub stack : OpenForms

abbrev pub pick : {A : Type 0} → Bool → A → A → A
pick true a b = a
pick false a b = b

abbrev pub allowed_if : Bool → State → Option State
allowed_if true m = Some m
allowed_if false m = None

-- completes the forms that a symbol of this strength ends
abbrev pub released : Bool → ℕ → OpenForms → Form → Reached
released arrow n [] e = record { tree = e; stack = [] }
released arrow n (f ∷ s) e =
    pick (nat_lt n (ends_at arrow f)) (released arrow n s (completed f e)) (record { tree = e; stack = f ∷ s })

-- what a closed form leads to
abbrev pub after_by : Bool → Form → OpenForms → State
after_by true e (instance_of_open l ∷ s) = holds_call e (instance_of_open l ∷ s)
after_by _ e s = holds e s

abbrev pub after : Form → OpenForms → State
after e s = after_by (is_call e) e s

abbrev pub assigning : Assign → Form → OpenForms → State
assigning setting.Plain e s = past_assign e s
assigning op e s = expects (assign_open (by_value op) e ∷ s)

abbrev pub opened_by : Draw → Form → OpenForms → State
opened_by (by_binary op) e s = expects (binary_open op e ∷ s)
opened_by by_instance_of e s = expects (instance_of_open e ∷ s)
opened_by by_choice e s = past_question e s
opened_by (by_assign op) e s = assigning op e s
opened_by (by_count way) e s = holds (count e way) s
opened_by by_call e s = past_items (of_call e) none s
opened_by by_index e s = past_index e s
opened_by (by_select arrow) e s = past_arrow arrow e s

abbrev pub is_plain : Lead Nothing → Bool
is_plain plain = true
is_plain _ = false

abbrev pub keys : Bool → Holder → Items Nothing → Lead Nothing → Form → OpenForms → Option State
keys true h items plain e s = Some (past_value h items e s)
keys _ h items lead e s = None

abbrev pub closed : Closer → Form → OpenForm → OpenForms → Option State
closed ender.Paren e (enclosed_open enclosure) s = Some (holds (enclosed tt enclosure e) s)
closed ender.Paren e (items_open h items lead) s = allowed_if (has_paren h) (after (closed_with h (and items lead e)) s)
closed ender.Bracket e (items_open h items lead) s = pick (has_paren h) None (Some (after (closed_with h (and items lead e)) s))
closed ender.Bracket e (index_open a) s = Some (holds (index a e) s)
closed ender.Bracket e (step_open steps) s = Some (past_class (class_found (step_index steps e)) s)
closed ender.Brace e (computed_open a) s = Some (holds (computed a e) s)
closed ender.Comma e (items_open h items lead) s = Some (past_items h (and items lead e) s)
closed ender.DoubleArrow e (items_open h items lead) s = keys (is_array h) h items lead e s
closed ender.DoubleArrow e yield_open s = Some (expects (yield_value_open e ∷ s))
closed ender.Colon e (then_open c) s = Some (expects (else_open c e ∷ s))
closed ender.EndPart e (part_open pieces) s = Some (past_template (value pieces e) s)
closed _ e f s = None

abbrev pub closes_in : Closer → Form → OpenForms → Option State
closes_in c e [] = None
closes_in c e (f ∷ s) = closed c e f s

abbrev pub continued : Continuation → Reached → Option State
continued (draws d) due = allowed_if (nat_lt (draw_strength d) (ends due.tree)) (opened_by d due.tree due.stack)
continued (closes c) due = closes_in c due.tree due.stack
continued neither due = None

-- behind an expression
abbrev pub goes_on : Form → OpenForms → Continuation → Option State
goes_on e s x = continued x (released (is_arrow x) (strength_of x) s e)

-- where an expression is due
abbrev pub started : Beginning → OpenForms → Option State
started (at_leaf l) s = Some (holds (leaf tt l) s)
started at_static s = Some (past_static s)
started at_template s = Some (past_template no_piece s)
started at_exit s = Some (past_exit s)
started at_new s = Some (past_new s)
started at_yield s = allowed_if (nat_lt (least_power s) operand_level) (past_yield s)
started (at_enclosed parentheses) s = Some (expects (enclosed_open parentheses ∷ s))
started (at_enclosed enclosure) s = Some (due_enclosed enclosure s)
started (at_listed (array form.Brackets)) s = Some (past_items (of_list (array form.Brackets)) none s)
started (at_listed listing) s = Some (due_listed listing s)
started (at_prefix op) s = allowed_if (nat_lt (least_power s) operand_level) (expects (prefix_open op ∷ s))
started at_nothing s = None

abbrev pub start : OpenForms → Symbol → Option State
start s t = started (beginning t) s

abbrev pub ended_by : Closer → Holder → Items Nothing → OpenForms → Option State
ended_by ender.Comma h items s = allowed_if (is_array h) (past_items h (skip items) s)
ended_by ender.Paren h items s =
    pick (has_paren h) (allowed_if (may_end h items) (after (closed_with h (ended_items items)) s)) None
ended_by ender.Bracket h items s =
    pick (has_paren h) None (allowed_if (may_end h items) (after (closed_with h (ended_items items)) s))
ended_by _ h items s = None

abbrev pub item_step : Mark → Holder → Items Nothing → OpenForms → Symbol → Option State
item_step refers h items s t = allowed_if (is_array h) (expects (items_open h items reference ∷ s))
item_step spreads h items s t = allowed_if (is_arguments h) (expects (items_open h items spread ∷ s))
item_step (ends_item c) h items s t = ended_by c h items s
item_step begins h items s t = start (items_open h items plain ∷ s) t

abbrev pub static_alone : OpenForms → Continuation → Option State
static_alone (instance_of_open l ∷ s) x = goes_on (instance_of_static l tt) s x
static_alone _ x = None

abbrev pub static_step : OpenForms → Continuation → Option State
static_step s (draws (by_select colons)) = Some (past_static_colons s)
static_step s x = static_alone s x

abbrev pub template_step : Pieces Nothing → OpenForms → Symbol → Option State
template_step pieces s (symbol.piece text) = Some (past_template (bytes pieces text) s)
template_step pieces s symbol.part = Some (expects (part_open pieces ∷ s))
template_step pieces s symbol.unquote = Some (holds (template tt pieces) s)
template_step pieces s _ = None

abbrev pub with_member : Option (Member Nothing) → (Member Nothing → State) → Option State
with_member (Some m) f = Some (f m)
with_member None f = None

abbrev pub arrow_step : Arrow → Form → OpenForms → Symbol → Option State
arrow_step thin e s t =
    pick (is_left_brace t) (Some (expects (computed_open e ∷ s))) (with_member (member_of t) (λ m. holds (selected e thin m) s))
arrow_step colons e s t = with_member (member_of t) (λ m. holds (selected e colons m) s)

abbrev pub new_step : OpenForms → Symbol → Option State
new_step s (symbol.name text) = Some (past_class (class_name tt text) s)
new_step s (symbol.variable text) = Some (past_class (class_found (from tt text)) s)
new_step s (keyword word.Static) = Some (past_class (class_static tt) s)
new_step s _ = None

abbrev pub class_step : Class Nothing → OpenForms → Continuation → Option State
class_step class s (draws by_call) = Some (past_items (of_new class) none s)
class_step (class_found steps) s (draws by_index) = Some (expects (step_open steps ∷ s))
class_step (class_found steps) s (draws (by_select thin)) = Some (past_step steps s)
class_step class s x = goes_on (new tt class) s x

abbrev pub advance : State → Symbol → Option State
advance (expects s) t = start s t
advance (holds e s) t = goes_on e s (continuation t)
advance (holds_call e s) t = pick (nat_lt operand_level (strength t)) (goes_on e s (continuation t)) None
advance (due_enclosed enclosure s) t = allowed_if (is_paren t) (expects (enclosed_open enclosure ∷ s))
advance (due_listed listing s) t = allowed_if (is_paren t) (past_items (of_list listing) none s)
advance (past_items h items s) t = item_step (item_mark t) h items s t
advance (past_value h items k s) t =
    pick (is_ampersand t) (Some (expects (items_open h items (keyed_reference k) ∷ s))) (start (items_open h items (keyed k) ∷ s) t)
advance (past_exit s) t = pick (is_paren t) (Some (past_exit_paren s)) (goes_on (exit tt) s (continuation t))
advance (past_exit_paren s) t = pick (is_right_paren t) (Some (holds (exit_empty tt) s)) (start (enclosed_open exiting ∷ s) t)
advance (past_static s) t = static_step s (continuation t)
advance (past_static_colons s) t = with_member (member_of t) (λ m. holds (static_member tt m) s)
advance (past_template pieces s) t = template_step pieces s t
advance (past_index e s) t = pick (is_right_bracket t) (Some (holds (append e) s)) (start (index_open e ∷ s) t)
advance (past_arrow arrow e s) t = arrow_step arrow e s t
advance (past_new s) t = new_step s t
advance (past_class class s) t = class_step class s (continuation t)
advance (past_step steps s) t = with_member (word_of t) (λ m. past_class (class_found (step_property steps m)) s)
advance (past_question c s) t = pick (is_colon t) (Some (expects (short_open c ∷ s))) (start (then_open c ∷ s) t)
advance (past_assign l s) t =
    pick (is_ampersand t) (Some (expects (assign_open by_reference l ∷ s))) (start (assign_open (by_value setting.Plain) l ∷ s) t)
advance (past_yield s) t = pick (ends_yield (continuation t)) (goes_on (yield_nothing tt) s (continuation t)) (start (yield_open ∷ s) t)

-- ---- a whole reading

-- What a reading answers: a tree that the symbols read begin, the symbols missing from its spelling, and
-- those that it did not read.
pub record Reading : Type 0 where
  pub tree : Form
  pub missing : List Symbol
  pub unread : List Symbol

-- with an expression, and with a variable for one that is due, behind a symbol that is due before it
abbrev pub halt_whole : Form → OpenForms → List Symbol → Reading
halt_whole e s w = record { tree = completed_all s e; missing = missing_end s; unread = w }

abbrev pub halt_short : OpenForms → List Symbol → Reading
halt_short s w = record { tree = completed_all s any; missing = any_symbol ∷ missing_end s; unread = w }

abbrev pub halt_before : Symbol → OpenForms → List Symbol → Reading
halt_before t s w = record { tree = completed_all s any; missing = t ∷ any_symbol ∷ missing_end s; unread = w }

-- with an expression that lacks a name
abbrev pub halt_named : Symbol → Form → OpenForms → List Symbol → Reading
halt_named t e s w = record { tree = completed_all s e; missing = t ∷ missing_end s; unread = w }

abbrev pub any_member : Member Nothing
any_member = held tt []

abbrev pub halt_static : OpenForms → List Symbol → Reading
halt_static (instance_of_open l ∷ s) w = halt_whole (instance_of_static l tt) s w
halt_static s w = record {
  tree = completed_all s (static_member tt any_member);
  missing = punct mark.DoubleColon ∷ any_symbol ∷ missing_end s;
  unread = w;
}

-- A `yield` stands alone where what follows allows that and nothing else is open.
abbrev pub is_last : List Symbol → List Symbol → Bool
is_last (t ∷ w) [] = ends_yield (continuation t)
is_last w missing = false

abbrev pub halt_yield : Bool → OpenForms → List Symbol → Reading
halt_yield true s w = halt_whole (yield_nothing tt) s w
halt_yield false s w = halt_short (yield_open ∷ s) w

abbrev pub halt : State → List Symbol → Reading
halt (expects s) w = halt_short s w
halt (holds e s) w = halt_whole e s w
halt (holds_call e s) w = record {
  tree = completed_all s (append e);
  missing = punct mark.LeftBracket ∷ punct mark.RightBracket ∷ missing_end s;
  unread = w;
}
halt (due_enclosed enclosure s) w = halt_before (punct mark.LeftParen) (enclosed_open enclosure ∷ s) w
halt (due_listed listing s) w = halt_before (punct mark.LeftParen) (items_open (of_list listing) none plain ∷ s) w
halt (past_items h items s) w = halt_short (items_open h items plain ∷ s) w
halt (past_value h items k s) w = halt_short (items_open h items (keyed k) ∷ s) w
halt (past_exit s) w = halt_whole (exit tt) s w
halt (past_exit_paren s) w = halt_short (enclosed_open exiting ∷ s) w
halt (past_static s) w = halt_static s w
halt (past_static_colons s) w = halt_named any_symbol (static_member tt any_member) s w
halt (past_template pieces s) w = halt_named symbol.unquote (template tt pieces) s w
halt (past_index e s) w = halt_short (index_open e ∷ s) w
halt (past_arrow arrow e s) w = halt_named any_symbol (selected e arrow any_member) s w
halt (past_new s) w = halt_named any_symbol (new tt (class_found (from tt []))) s w
halt (past_class class s) w = halt_whole (new tt class) s w
halt (past_step steps s) w = halt_named (symbol.name []) (new tt (class_found (step_property steps (named tt [])))) s w
halt (past_question c s) w = halt_short (then_open c ∷ s) w
halt (past_assign l s) w = halt_short (assign_open (by_value setting.Plain) l ∷ s) w
halt (past_yield s) w = halt_yield (is_last w (missing_end s)) s w

abbrev pub or_halt : Option State → (State → Reading) → Reading → Reading
or_halt (Some m) f o = f m
or_halt None f o = o

abbrev pub read_from : State → List Symbol → Reading
read_from m [] = halt m []
read_from m (t ∷ w) = or_halt (advance m t) (λ n. read_from n w) (halt m (t ∷ w))

-- the reading of an expression
abbrev pub read : List Symbol → Reading
read = read_from (expects [])
