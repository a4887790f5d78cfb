-- Steps of the machine that keep it sound: in lists, at names, texts and classes, and behind `static`.
use Rattle.std.proofs.Common.{◌≡◌, true, false, Option, Some, None, List, [], ◌∷◌, refl, arith}
use Rattle.php_token.specs.declared.kind.Keyword.{Keyword}
use Rattle.php_token.specs.declared.kind.Keyword.TheVariants as word
use Rattle.php_token.specs.declared.kind.Punct.TheVariants as mark
use Rattle.php_ast.specs.Symbol as symbol
use Rattle.php_ast.specs.Symbol.{Symbol, keyword, punct}
use Rattle.php_ast.specs.expression.Tree.{array, is_set, Arrow, thin, colons, Member}
use Rattle.php_ast.specs.expression.Tree.{template, static_member, selected, new, instance_of_static}
use Rattle.php_ast.specs.expression.Tree.{Items, none, and, skip, Lead, plain, reference, spread, keyed, keyed_reference, Pieces, Class, class_name, class_static, class_found}
use Rattle.php_ast.specs.expression.Spelling.{spell_items, member_symbol}
use Rattle.php_ast.specs.expression.Proper.{is_none, AreArguments, AreArrayItems, AreProperItems, IsWord, IsMemberName, IsProperClass, IsProperLead, is_alone_missing}
use Rattle.php_grammar.specs.declared.closer.Closer.{Closer}
use Rattle.php_grammar.specs.declared.closer.Closer.TheVariants as ender
use Rattle.php_grammar.specs.expression.Role.{by_call, by_index, by_select, Continuation, draws, member_of, Mark, refers, spreads, ends_item, begins, is_left_brace}
use Rattle.php_grammar.specs.expression.Machine.{Nothing, Form, Holder, of_call, of_new, of_list, items_open, computed_open, step_open, instance_of_open, OpenForms, State, expects, holds, past_items, past_static, past_static_colons, past_template, past_arrow, past_new, past_class, past_step, closed_with, has_paren, holder_closing, is_array, is_arguments, may_end, ended_items, holder_front, opening_parts, allowed_if, after, goes_on, start, ended_by, item_step, static_alone, static_step, template_step, with_member, arrow_step, new_step, class_step}
use Rattle.php_grammar.proofs.expression.Roles.{draw_symbol, closer_symbol, Says, MarkSays, MemberSays, member_says, WordSays, left_brace_says}
use Rattle.php_grammar.proofs.expression.Sound.{SoundList, SoundEnd, SoundLead, SoundItems, IsSound, IsFitting, IsSoundState, symbols_so_far}
use Rattle.php_grammar.proofs.expression.Fill.{least_power_most, seats_by}
use Rattle.php_grammar.proofs.expression.SoundSteps.{LeadsOn, led, same_symbols, allowed_leads, pick_leads, test_is, closed_fits, holder_closing_is, bracket_closing_is, holder_leads, goes_on_leads, start_leads_on}

-- ---- lists

pub items_sound : (h : Holder) (items : Items Nothing) (lead : Lead Nothing) (s : OpenForms) → SoundItems h items → SoundLead h lead → IsProperLead lead → IsSound s
    → IsSound (items_open h items lead ∷ s)
items_sound h items lead s a b c sound = ((a, b, c), omega (arith, least_power_most s), sound)

array_reference : (h : Holder) → is_array h ≡ true → SoundLead h reference
array_reference (of_call f) is = cc
array_reference (of_new class) is = cc
array_reference (of_list (array form)) is = tt
array_reference (of_list is_set) is = cc

pub array_keyed : (h : Holder) (k : Form) → is_array h ≡ true → SoundLead h (keyed k) × SoundLead h (keyed_reference k)
array_keyed (of_call f) k is = cc
array_keyed (of_new class) k is = cc
array_keyed (of_list (array form)) k is = (tt, tt)
array_keyed (of_list is_set) k is = cc

arguments_spread : (h : Holder) → is_arguments h ≡ true → SoundLead h spread
arguments_spread (of_call f) is = tt
arguments_spread (of_new class) is = tt
arguments_spread (of_list listing) is = cc

pub plain_lead : (h : Holder) → SoundLead h plain
plain_lead (of_call f) = tt
plain_lead (of_new class) = tt
plain_lead (of_list (array form)) = tt
plain_lead (of_list is_set) = tt

array_skip : (h : Holder) (items : Items Nothing) → is_array h ≡ true → SoundList h items → SoundList h (skip items)
array_skip (of_call f) items is s = cc
array_skip (of_new class) items is s = cc
array_skip (of_list (array form)) items is s = s
array_skip (of_list is_set) items is s = cc

ended_array : (items : Items Nothing) → AreArrayItems items → AreArrayItems (ended_items items) × (is_alone_missing (ended_items items) ≡ false)
ended_array none s = (tt, refl)
ended_array (and items lead e) s = (s, refl)
ended_array (skip items) s = (s, refl)

none_arguments : (items : Items Nothing) → is_none items ≡ true → AreArguments (ended_items items)
none_arguments none is = tt
none_arguments (and items lead e) is = cc
none_arguments (skip items) is = cc

ended_sound : (h : Holder) (items : Items Nothing) → may_end h items ≡ true → SoundList h items → SoundEnd h (ended_items items)
ended_sound (of_call f) items is s = none_arguments items is
ended_sound (of_new class) items is s = none_arguments items is
ended_sound (of_list (array form)) items is s = ended_array items s
ended_sound (of_list is_set) items is s = cc

ended_proper : (items : Items Nothing) → AreProperItems items → AreProperItems (ended_items items)
ended_proper none p = tt
ended_proper (and items lead e) p = p
ended_proper (skip items) p = p

ended_written : (h : Holder) (items : Items Nothing) (s : OpenForms) (x : Symbol) (w : List Symbol)
    → symbols_so_far (past_items h items s) (x ∷ w) ≡ opening_parts s (holder_front h (spell_items (ended_items items) (x ∷ w)))
ended_written h none s x w = refl
ended_written h (and items lead e) s x w = refl
ended_written h (skip items) s x w = refl

list_ends : (h : Holder) (items : Items Nothing) (s : OpenForms) (t x : Symbol) → t ≡ x → holder_closing h ≡ x → SoundItems h items → IsSound s
    → LeadsOn (past_items h items s) t (allowed_if (may_end h items) (after (closed_with h (ended_items items)) s))
list_ends h items s t x is end a sound =
    allowed_leads (may_end h items) (past_items h items s) (after (closed_with h (ended_items items)) s) t (λ may.
    holder_leads h (ended_items items) s (past_items h items s) t x is end a.holder (ended_sound h items may a.list) (ended_proper items a.proper) sound
    (λ w. ended_written h items s x w))

ended_by_leads : (c : Closer) (t : Symbol) (h : Holder) (items : Items Nothing) (s : OpenForms) → t ≡ closer_symbol c → SoundItems h items → IsSound s
    → LeadsOn (past_items h items s) t (ended_by c h items s)
ended_by_leads ender.Comma t h items s is a sound =
    allowed_leads (is_array h) (past_items h items s) (past_items h (skip items) s) t (λ array_is.
    led (past_items h items s) (past_items h (skip items) s) t _ is
    (record { holder = a.holder; list = array_skip h items array_is a.list; proper = a.proper }, sound) (λ w. refl))
ended_by_leads ender.Paren t h items s is a sound =
    pick_leads (has_paren h) (past_items h items s) t (allowed_if (may_end h items) (after (closed_with h (ended_items items)) s)) None
    (λ b. list_ends h items s t (punct mark.RightParen) is (holder_closing_is h b) a sound) (λ b. tt)
ended_by_leads ender.Bracket t h items s is a sound =
    pick_leads (has_paren h) (past_items h items s) t None (allowed_if (may_end h items) (after (closed_with h (ended_items items)) s))
    (λ b. tt) (λ b. list_ends h items s t (punct mark.RightBracket) is (bracket_closing_is h b) a sound)
ended_by_leads _ t h items s is a sound = tt

pub item_leads : (x : Mark) (t : Symbol) (h : Holder) (items : Items Nothing) (s : OpenForms) → MarkSays x t → SoundItems h items → IsSound s
    → LeadsOn (past_items h items s) t (item_step x h items s t)
item_leads refers t h items s is a sound =
    allowed_leads (is_array h) (past_items h items s) (expects (items_open h items reference ∷ s)) t (λ b.
    led (past_items h items s) (expects (items_open h items reference ∷ s)) t _ is (items_sound h items reference s a (array_reference h b) tt sound) (λ w. refl))
item_leads spreads t h items s is a sound =
    allowed_leads (is_arguments h) (past_items h items s) (expects (items_open h items spread ∷ s)) t (λ b.
    led (past_items h items s) (expects (items_open h items spread ∷ s)) t _ is (items_sound h items spread s a (arguments_spread h b) tt sound) (λ w. refl))
item_leads (ends_item c) t h items s is a sound = ended_by_leads c t h items s is a sound
item_leads begins t h items s is a sound =
    same_symbols (expects (items_open h items plain ∷ s)) (past_items h items s) t (start (items_open h items plain ∷ s) t) (λ w. refl)
    (start_leads_on t (items_open h items plain ∷ s) (items_sound h items plain s a (plain_lead h) tt sound))

-- ---- names, texts and classes

pub member_leads : (o : Option (Member Nothing)) (f : Member Nothing → State) (m : State) (t : Symbol) → MemberSays o t → ((x : Member Nothing) → IsMemberName x → IsSoundState (f x))
    → ((x : Member Nothing) (w : List Symbol) → symbols_so_far m (member_symbol x ∷ w) ≡ symbols_so_far (f x) w) → LeadsOn m t (with_member o f)
member_leads None f m t is good same = tt
member_leads (Some x) f m t is good same = led m (f x) t _ is.0 (good x is.1) (same x)

pub word_leads : (o : Option (Member Nothing)) (f : Member Nothing → State) (m : State) (t : Symbol) → WordSays o t → ((x : Member Nothing) → IsWord x → IsSoundState (f x))
    → ((x : Member Nothing) (w : List Symbol) → symbols_so_far m (member_symbol x ∷ w) ≡ symbols_so_far (f x) w) → LeadsOn m t (with_member o f)
word_leads None f m t is good same = tt
word_leads (Some x) f m t is good same = led m (f x) t _ is.0 (good x is.1) (same x)

pub template_leads : (t : Symbol) (pieces : Pieces Nothing) (s : OpenForms) → IsSoundState (past_template pieces s) → LeadsOn (past_template pieces s) t (template_step pieces s t)
template_leads (symbol.piece text) pieces s h = (h, λ w. refl)
template_leads symbol.part pieces s h = ((h.0, omega (arith, least_power_most s), h.1), λ w. refl)
template_leads symbol.unquote pieces s h = ((closed_fits s (template tt pieces) h.0 refl refl h.1, record { no_arrow = refl; not_bare = refl }), λ w. refl)
template_leads _ pieces s h = tt

selected_good : (arrow : Arrow) (e : Form) (s : OpenForms) → IsSoundState (past_arrow arrow e s) → (x : Member Nothing) → IsMemberName x → IsSoundState (holds (selected e arrow x) s)
selected_good arrow e s h x is = (closed_fits s (selected e arrow x) (h.0, h.1, is) refl refl h.2, record { no_arrow = refl; not_bare = refl })

pub arrow_leads : (arrow : Arrow) (t : Symbol) (e : Form) (s : OpenForms) → IsSoundState (past_arrow arrow e s) → LeadsOn (past_arrow arrow e s) t (arrow_step arrow e s t)
arrow_leads thin t e s h =
    pick_leads (is_left_brace t) (past_arrow thin e s) t (Some (expects (computed_open e ∷ s))) (with_member (member_of t) (λ m. holds (selected e thin m) s))
    (λ b. led (past_arrow thin e s) (expects (computed_open e ∷ s)) t _ (test_is (is_left_brace t) t (punct mark.LeftBrace) (left_brace_says t) b)
    ((h.0, h.1), omega (arith, least_power_most s), h.2) (λ w. refl))
    (λ b. member_leads (member_of t) (λ m. holds (selected e thin m) s) (past_arrow thin e s) t (member_says t) (selected_good thin e s h) (λ x w. refl))
arrow_leads colons t e s h =
    member_leads (member_of t) (λ m. holds (selected e colons m) s) (past_arrow colons e s) t (member_says t) (selected_good colons e s h) (λ x w. refl)

new_keyword_leads : (k : Keyword) (s : OpenForms) → IsSound s → LeadsOn (past_new s) (keyword k) (new_step s (keyword k))
new_keyword_leads word.Static s h = ((tt, h), λ w. refl)
new_keyword_leads _ s h = tt

pub new_leads : (t : Symbol) (s : OpenForms) → IsSound s → LeadsOn (past_new s) t (new_step s t)
new_leads (symbol.name text) s h = ((tt, h), λ w. refl)
new_leads (symbol.variable text) s h = ((tt, h), λ w. refl)
new_leads (keyword k) s h = new_keyword_leads k s h
new_leads _ s h = tt

new_fits : (class : Class Nothing) (s : OpenForms) → IsProperClass class → IsSound s → IsFitting (new tt class) s
new_fits class s p sound = closed_fits s (new tt class) p refl refl sound

new_goes_on : (x : Continuation) (t : Symbol) (class : Class Nothing) (s : OpenForms) → Says x t → IsProperClass class → IsSound s → LeadsOn (past_class class s) t (goes_on (new tt class) s x)
new_goes_on x t class s is p sound =
    same_symbols (holds (new tt class) s) (past_class class s) t (goes_on (new tt class) s x) (λ w. refl)
    (goes_on_leads x t (new tt class) s is (new_fits class s p sound) (λ i. refl) (λ i. refl))

new_called : (t : Symbol) (class : Class Nothing) (s : OpenForms) → t ≡ draw_symbol by_call → IsProperClass class → IsSound s → LeadsOn (past_class class s) t (Some (past_items (of_new class) none s))
new_called t class s is p sound = led (past_class class s) (past_items (of_new class) none s) t _ is (record { holder = p; list = tt; proper = tt }, sound) (λ w. refl)

pub class_leads : (x : Continuation) (t : Symbol) (class : Class Nothing) (s : OpenForms) → Says x t → IsProperClass class → IsSound s → LeadsOn (past_class class s) t (class_step class s x)
class_leads (draws by_call) t (class_name spot text) s is p sound = new_called t (class_name spot text) s is p sound
class_leads (draws by_call) t (class_static spot) s is p sound = new_called t (class_static spot) s is p sound
class_leads (draws by_call) t (class_found steps) s is p sound = new_called t (class_found steps) s is p sound
class_leads (draws by_index) t (class_found steps) s is p sound =
    led (past_class (class_found steps) s) (expects (step_open steps ∷ s)) t _ is (p, omega (arith, least_power_most s), sound) (λ w. refl)
class_leads (draws (by_select thin)) t (class_found steps) s is p sound = led (past_class (class_found steps) s) (past_step steps s) t _ is (p, sound) (λ w. refl)
class_leads x t (class_name spot text) s is p sound = new_goes_on x t (class_name spot text) s is p sound
class_leads x t (class_static spot) s is p sound = new_goes_on x t (class_static spot) s is p sound
class_leads x t (class_found steps) s is p sound = new_goes_on x t (class_found steps) s is p sound

-- ---- `static`

static_alone_leads : (x : Continuation) (t : Symbol) (s : OpenForms) → Says x t → IsSound s → LeadsOn (past_static s) t (static_alone s x)
static_alone_leads x t [] is h = tt
static_alone_leads x t (instance_of_open l ∷ s) is h =
    same_symbols (holds (instance_of_static l tt) s) (past_static (instance_of_open l ∷ s)) t (goes_on (instance_of_static l tt) s x) (λ w. refl)
    (goes_on_leads x t (instance_of_static l tt) s is (record { proper = h.0; near = h.1; sound = h.2; seats = seats_by s (instance_of_static l tt) refl }) (λ i. refl) (λ i. refl))
static_alone_leads x t (f ∷ s) is h = tt

pub static_leads : (x : Continuation) (t : Symbol) (s : OpenForms) → Says x t → IsSound s → LeadsOn (past_static s) t (static_step s x)
static_leads (draws (by_select colons)) t s is h = led (past_static s) (past_static_colons s) t _ is h (λ w. refl)
static_leads x t s is h = static_alone_leads x t s is h

pub static_named : (s : OpenForms) → IsSound s → (x : Member Nothing) → IsMemberName x → IsSoundState (holds (static_member tt x) s)
static_named s h x is = (closed_fits s (static_member tt x) is refl refl h, record { no_arrow = refl; not_bare = refl })
