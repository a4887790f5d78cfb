-- Completeness of the machine: it reads the spelling of a proper tree as that tree, in front of anything
-- that ends it.
use Rattle.std.proofs.Common.{◌≡◌, ◌≤◌, ◌<◌, ◌⊎◌, inl, inr, Bool, true, false, Option, Some, None, List, [], ◌∷◌, refl, sym, ◌∙◌, ap, subst, arith}
use Rattle.php_token.specs.declared.kind.Keyword.TheVariants as word
use Rattle.php_token.specs.declared.kind.Punct.TheVariants as mark
use Rattle.php_ast.specs.declared.operator.Binary.{Binary}
use Rattle.php_ast.specs.declared.operator.Binary.TheVariants as binary_op
use Rattle.php_ast.specs.declared.operator.Assign.{Assign}
use Rattle.php_ast.specs.declared.operator.Assign.TheVariants as setting
use Rattle.php_ast.specs.declared.operator.ArrayForm.TheVariants as form
use Rattle.php_ast.specs.Symbol as symbol
use Rattle.php_ast.specs.Symbol.{Symbol, keyword, punct}
use Rattle.php_ast.specs.expression.Tree.{parentheses, emptiness, exiting, array, is_set, Arrow, thin, by_value, by_reference, Member}
use Rattle.php_ast.specs.expression.Tree.{leaf, template, enclosed, listed, exit, exit_empty, static_member, append, index, selected, computed, call, new, new_with, prefix, count, binary, instance_of, instance_of_static, choice, short_choice, assign, yield_nothing, yield_value, yield_pair}
use Rattle.php_ast.specs.expression.Tree.{Items, none, and, skip, Lead, plain, reference, spread, keyed, keyed_reference, Pieces, no_piece, bytes, value, Class, class_name, class_static, class_found, Steps, from, step_property, step_index}
use Rattle.php_ast.specs.expression.Spelling.{spell, spell_items, spell_lead, spell_pieces, spell_class, spell_steps, comma, member_symbol}
use Rattle.php_ast.specs.Power.{binary_row, choice_row, instance_of_row}
use Rattle.php_ast.specs.expression.Proper.{free, power, ends, takes_arrow, ends_bare, IsWord, IsMemberName, Proper, AreProperItems, IsProperLead, AreProperPieces, IsProperClass, AreProperSteps, HasSuffix, IsCallable}
use Rattle.php_grammar.specs.expression.Role.{Draw, by_binary, by_instance_of, by_choice, by_assign, by_count, by_call, by_index, by_select, continuation, draw_strength, strength_of, is_arrow, ends_yield}
use Rattle.php_grammar.specs.expression.Machine.{Nothing, Form, Holder, of_call, of_new, of_list, OpenForm, enclosed_open, items_open, index_open, computed_open, step_open, part_open, then_open, else_open, short_open, prefix_open, binary_open, instance_of_open, assign_open, yield_open, yield_value_open, OpenForms, State, expects, holds, past_items, past_value, past_static_colons, past_template, past_arrow, past_new, past_class, past_step, past_yield, least_power_at, least_power, ends_at, completed, seat_end, missing_end, closing_part, closed_with, holder_closing, is_array, after_by, after, assigning, goes_on, pick, start, halt_whole, halt_yield, is_last, or_halt, read_from}
use Rattle.php_grammar.proofs.expression.Roles.{draw_symbol, continuation_draw}
use Rattle.php_grammar.proofs.expression.Sound.{SoundList, SoundEnd, SoundLead}
use Rattle.php_grammar.proofs.expression.Fill.{binary_bound, edge_bounds, prefix_bound, least_power_most, without_end, without_end_call}
use Rattle.php_grammar.proofs.expression.Trees.{ends_positive, bare_ends, power_of_left, IsOpen, open_by_ends, operand_ends, Starts, starts}
use Rattle.php_grammar.proofs.expression.Steps.{advances, head_continuation, head_strength, after_low, suffix_on, operator_on, released_step, released_before, prefix_on, yield_on, leaf_on, enters_index, enter_exit, enter_then, enter_assign, enter_value, enter_items, enter_yield, exit_done, class_done, static_done, member_advances, static_advances, property_advances}

-- ---- what may follow a tree

abbrev pub IsGoing : Option State → Type 0
IsGoing None = ⊥
IsGoing (Some m) = Unit {0}

-- what follows a `yield` alone, which either goes on or has nothing more to close
pub record StandsBare (e : Form) (s : OpenForms) (w : List Symbol) : Type 0 where
  pub ends_it : ends_yield (head_continuation w) ≡ true
  pub joins : (missing_end s ≡ []) ⊎ IsGoing (goes_on e s (head_continuation w))

pub record Follows (e : Form) (s : OpenForms) (w : List Symbol) : Type 0 where
  pub low : head_strength w < ends e
  pub arrow : is_arrow (head_continuation w) ≡ true → takes_arrow e ≡ false
  pub bare : ends_bare e ≡ true → StandsBare e s w

pub draw_some : (d : Draw) → 2 ≤ draw_strength d
draw_some (by_binary op) = some_power op
  where
    some_power : (op : Binary) → 2 ≤ (binary_row op).power
    some_power binary_op.Power = omega arith
    some_power _ = omega arith
draw_some by_instance_of = omega arith
draw_some by_choice = omega arith
draw_some (by_assign op) = omega arith
draw_some (by_count c) = omega arith
draw_some by_call = omega arith
draw_some by_index = omega arith
draw_some (by_select arrow) = omega arith

-- what goes on with the tree itself
pub follows_draw : (d : Draw) (e : Form) (s : OpenForms) (w : List Symbol) → draw_strength d < ends e → Follows e s (draw_symbol d ∷ w)
follows_draw d e s w h = record {
  low = subst (λ x. strength_of x < ends e) (sym (continuation_draw d)) h;
  arrow = λ a. let n : is_arrow (continuation (draw_symbol d)) ≡ false = ap is_arrow (continuation_draw d) in cc;
  bare = λ b. absurd (omega (arith, bare_ends e b, draw_some d));
}

abbrev pub yield_frame : OpenForm → Bool
yield_frame yield_open = true
yield_frame _ = false

pub ends_at_level : (b : Bool) (f : OpenForm) → yield_frame f ≡ false → ends_at b f ≡ least_power_at f
ends_at_level false f h = refl
ends_at_level true yield_open h = cc
ends_at_level true (enclosed_open enclosure) h = refl
ends_at_level true _ h = refl

lacks_in : (f : OpenForm) (s : OpenForms) → 0 < least_power_at f → missing_end (f ∷ s) ≡ missing_end s
lacks_in f s on = ap (λ b. closing_part f (seat_end b s (missing_end s))) (without_end_call f on) ∙ without_end f (missing_end s) on

bare_inside : (f : OpenForm) (s : OpenForms) (e : Form) (w : List Symbol) → 0 < least_power_at f → head_strength w < ends_at (is_arrow (head_continuation w)) f
    → StandsBare (completed f e) s w → StandsBare e (f ∷ s) w
bare_inside f s e w on short h = record {
  ends_it = h.ends_it;
  joins = elim h.joins [
    | inl shut ↦ inl (lacks_in f s on ∙ shut)
    | inr going ↦ inr (subst IsGoing (sym (released_step f s e (head_continuation w) short)) going)
  ];
}

-- what may follow a form may follow the tree at its end
pub inside : (f : OpenForm) (s : OpenForms) (e : Form) (w : List Symbol) → 0 < least_power_at f → head_strength w < ends_at (is_arrow (head_continuation w)) f → head_strength w < ends e
    → (is_arrow (head_continuation w) ≡ true → takes_arrow e ≡ false) → (ends_bare e ≡ true → ends_bare (completed f e) ≡ true) → Follows (completed f e) s w → Follows e (f ∷ s) w
inside f s e w on short low arrow bare h = record { low = low; arrow = arrow; bare = λ b. bare_inside f s e w on short (h.bare (bare b)) }

-- the end of a form that is no class behind `instanceof`
close_by : (f : OpenForm) (s : OpenForms) (e : Form) (w : List Symbol) → 0 < least_power_at f → least_power_at f < 90 → head_strength w < ends_at (is_arrow (head_continuation w)) f
    → read_from (after e (f ∷ s)) w ≡ read_from (holds (completed f e) s) w
close_by f s e w on small short = ap (λ m. read_from m w) (after_low e (f ∷ s) small) ∙ released_before f s e w on short

pub not_true : (b : Bool) → (b ≡ true → true ≡ false) → b ≡ false
not_true false h = refl
not_true true h = h refl

-- ---- steps with names

member_on : (arrow : Arrow) (m : Member Nothing) (e : Form) (s : OpenForms) (w : List Symbol) → IsMemberName m
    → read_from (past_arrow arrow e s) (member_symbol m ∷ w) ≡ read_from (holds (selected e arrow m) s) w
member_on arrow m e s w h = advances (past_arrow arrow e s) (holds (selected e arrow m) s) (member_symbol m) w (member_advances arrow m e s h)

static_on : (m : Member Nothing) (s : OpenForms) (w : List Symbol) → IsMemberName m → read_from (past_static_colons s) (member_symbol m ∷ w) ≡ read_from (holds (static_member tt m) s) w
static_on m s w h = advances (past_static_colons s) (holds (static_member tt m) s) (member_symbol m) w (static_advances m s h)

property_on : (m : Member Nothing) (steps : Steps Nothing) (s : OpenForms) (w : List Symbol) → IsWord m
    → read_from (past_step steps s) (member_symbol m ∷ w) ≡ read_from (past_class (class_found (step_property steps m)) s) w
property_on m steps s w h = advances (past_step steps s) (past_class (class_found (step_property steps m)) s) (member_symbol m) w (property_advances m steps s h)

assigned_on : (op : Assign) (l : Form) (s : OpenForms) (v : List Symbol) → Starts v → read_from (assigning op l s) v ≡ read_from (expects (assign_open (by_value op) l ∷ s)) v
assigned_on setting.Plain l s v h = enter_assign l s v h
assigned_on _ l s v h = refl

class_called : (class : Class Nothing) (s : OpenForms) (w : List Symbol) → read_from (past_class class s) (punct mark.LeftParen ∷ w) ≡ read_from (past_items (of_new class) none s) w
class_called (class_name spot text) s w = refl
class_called (class_static spot) s w = refl
class_called (class_found steps) s w = refl

-- a `yield` alone
bare_done : (s : OpenForms) (w : List Symbol) → StandsBare (yield_nothing tt) s w → read_from (past_yield s) w ≡ read_from (holds (yield_nothing tt) s) w
bare_done s [] h = let e : false ≡ true = h.ends_it in cc
bare_done s (t ∷ w) h =
    ap (λ b. or_halt (pick b (goes_on (yield_nothing tt) s (continuation t)) (start (yield_open ∷ s) t)) (λ n. read_from n w) (halt_yield (is_last (t ∷ w) (missing_end s)) s (t ∷ w))) h.ends_it
    ∙ bare_by s t w (goes_on (yield_nothing tt) s (continuation t)) (missing_end s) h.ends_it h.joins
  where
    bare_by : (s : OpenForms) (t : Symbol) (w : List Symbol) (o : Option State) (v : List Symbol) → ends_yield (continuation t) ≡ true → (v ≡ []) ⊎ IsGoing o
        → or_halt o (λ n. read_from n w) (halt_yield (is_last (t ∷ w) v) s (t ∷ w)) ≡ or_halt o (λ n. read_from n w) (halt_whole (yield_nothing tt) s (t ∷ w))
    bare_by s t w (Some n) v is g = refl
    bare_by s t w None [] is g = ap (λ b. halt_yield b s (t ∷ w)) is
    bare_by s t w None (x ∷ v) is g = elim g [ inl shut ↦ cc | inr going ↦ absurd going ]

-- ---- what follows a tree between brackets

pub follows_paren : (f : OpenForm) (s : OpenForms) (e : Form) (w : List Symbol) → IsGoing (goes_on e (f ∷ s) (continuation (punct mark.RightParen))) → Follows e (f ∷ s) (punct mark.RightParen ∷ w)
follows_paren f s e w g = record { low = ends_positive e; arrow = λ a. cc; bare = λ b. record { ends_it = refl; joins = inr g } }

pub follows_bracket : (f : OpenForm) (s : OpenForms) (e : Form) (w : List Symbol) → IsGoing (goes_on e (f ∷ s) (continuation (punct mark.RightBracket))) → Follows e (f ∷ s) (punct mark.RightBracket ∷ w)
follows_bracket f s e w g = record { low = ends_positive e; arrow = λ a. cc; bare = λ b. record { ends_it = refl; joins = inr g } }

pub follows_comma : (h : Holder) (items : Items Nothing) (lead : Lead Nothing) (s : OpenForms) (e : Form) (w : List Symbol) → Follows e (items_open h items lead ∷ s) (punct mark.Comma ∷ w)
follows_comma h items lead s e w = record { low = ends_positive e; arrow = λ a. cc; bare = λ b. record { ends_it = refl; joins = inr tt } }

pub follows_shut : (t : Symbol) (s : OpenForms) (e : Form) (w : List Symbol) → strength_of (continuation t) ≡ 0 → (is_arrow (continuation t) ≡ true → takes_arrow e ≡ false) → ends_bare e ≡ false → Follows e s (t ∷ w)
follows_shut t s e w is a b = record { low = omega (arith, ends_positive e); arrow = a; bare = λ c. cc }

-- ---- lists

pub list_lead : (h : Holder) (items : Items Nothing) (lead : Lead Nothing) (e : Form) → SoundList h (and items lead e) → SoundList h items × SoundLead h lead
list_lead (of_call f) items plain e s = (s, tt)
list_lead (of_call f) items spread e s = (s, tt)
list_lead (of_call f) items reference e s = absurd s
list_lead (of_call f) items (keyed k) e s = absurd s
list_lead (of_call f) items (keyed_reference k) e s = absurd s
list_lead (of_new class) items plain e s = (s, tt)
list_lead (of_new class) items spread e s = (s, tt)
list_lead (of_new class) items reference e s = absurd s
list_lead (of_new class) items (keyed k) e s = absurd s
list_lead (of_new class) items (keyed_reference k) e s = absurd s
list_lead (of_list (array form)) items plain e s = (s, tt)
list_lead (of_list (array form)) items spread e s = absurd s
list_lead (of_list (array form)) items reference e s = (s, tt)
list_lead (of_list (array form)) items (keyed k) e s = (s, tt)
list_lead (of_list (array form)) items (keyed_reference k) e s = (s, tt)
list_lead (of_list is_set) items plain e s = (s, tt)
list_lead (of_list is_set) items spread e s = absurd s
list_lead (of_list is_set) items reference e s = absurd s
list_lead (of_list is_set) items (keyed k) e s = absurd s
list_lead (of_list is_set) items (keyed_reference k) e s = absurd s

pub list_skip : (h : Holder) (items : Items Nothing) → SoundList h (skip items) → (is_array h ≡ true) × SoundList h items
list_skip (of_call f) items s = absurd s
list_skip (of_new class) items s = absurd s
list_skip (of_list (array form)) items s = (refl, s)
list_skip (of_list is_set) items s = absurd s

pub follows_close : (h : Holder) (items : Items Nothing) (lead : Lead Nothing) (s : OpenForms) (e : Form) (w : List Symbol) → Follows e (items_open h items lead ∷ s) (holder_closing h ∷ w)
follows_close (of_call f) items lead s e w = follows_paren (items_open (of_call f) items lead) s e w tt
follows_close (of_new class) items lead s e w = follows_paren (items_open (of_new class) items lead) s e w tt
follows_close (of_list (array form.Brackets)) items lead s e w = follows_bracket (items_open (of_list (array form.Brackets)) items lead) s e w tt
follows_close (of_list (array form.Array)) items lead s e w = follows_paren (items_open (of_list (array form.Array)) items lead) s e w tt
follows_close (of_list (array form.List)) items lead s e w = follows_paren (items_open (of_list (array form.List)) items lead) s e w tt
follows_close (of_list is_set) items lead s e w = follows_paren (items_open (of_list is_set) items lead) s e w tt

none_closed : (h : Holder) (s : OpenForms) (w : List Symbol) → SoundEnd h none → read_from (past_items h none s) (holder_closing h ∷ w) ≡ read_from (after (closed_with h none) s) w
none_closed (of_call f) s w h = refl
none_closed (of_new class) s w h = refl
none_closed (of_list (array form.Brackets)) s w h = refl
none_closed (of_list (array form.Array)) s w h = refl
none_closed (of_list (array form.List)) s w h = refl
none_closed (of_list is_set) s w h = let e : true ≡ false = h.1 in cc

item_closed : (h : Holder) (items : Items Nothing) (lead : Lead Nothing) (e : Form) (s : OpenForms) (w : List Symbol)
    → read_from (holds e (items_open h items lead ∷ s)) (holder_closing h ∷ w) ≡ read_from (after (closed_with h (and items lead e)) s) w
item_closed (of_call f) items lead e s w = refl
item_closed (of_new class) items lead e s w = refl
item_closed (of_list (array form.Brackets)) items lead e s w = refl
item_closed (of_list (array form.Array)) items lead e s w = refl
item_closed (of_list (array form.List)) items lead e s w = refl
item_closed (of_list is_set) items lead e s w = refl

skip_closed : (h : Holder) (items : Items Nothing) (s : OpenForms) (w : List Symbol) → SoundList h (skip items) → SoundEnd h (skip items)
    → read_from (past_items h items s) (holder_closing h ∷ w) ≡ read_from (after (closed_with h (skip items)) s) w
skip_closed (of_call f) items s w l h = absurd l
skip_closed (of_new class) items s w l h = absurd l
skip_closed (of_list (array form)) none s w l h = let e : true ≡ false = h.1 in cc
skip_closed (of_list (array form.Brackets)) (and items lead e) s w l h = refl
skip_closed (of_list (array form.Brackets)) (skip items) s w l h = refl
skip_closed (of_list (array form.Array)) (and items lead e) s w l h = refl
skip_closed (of_list (array form.Array)) (skip items) s w l h = refl
skip_closed (of_list (array form.List)) (and items lead e) s w l h = refl
skip_closed (of_list (array form.List)) (skip items) s w l h = refl
skip_closed (of_list is_set) items s w l h = absurd l

skip_on : (h : Holder) (items : Items Nothing) (s : OpenForms) (w : List Symbol) → is_array h ≡ true → read_from (past_items h items s) (punct mark.Comma ∷ w) ≡ read_from (past_items h (skip items) s) w
skip_on (of_call f) items s w h = cc
skip_on (of_new class) items s w h = cc
skip_on (of_list (array form)) items s w h = refl
skip_on (of_list is_set) items s w h = cc

reference_on : (h : Holder) (items : Items Nothing) (s : OpenForms) (w : List Symbol) → SoundLead h reference
    → read_from (past_items h items s) (punct mark.Ampersand ∷ w) ≡ read_from (expects (items_open h items reference ∷ s)) w
reference_on (of_call f) items s w h = absurd h
reference_on (of_new class) items s w h = absurd h
reference_on (of_list (array form)) items s w h = refl
reference_on (of_list is_set) items s w h = absurd h

spread_on : (h : Holder) (items : Items Nothing) (s : OpenForms) (w : List Symbol) → SoundLead h spread
    → read_from (past_items h items s) (punct mark.Ellipsis ∷ w) ≡ read_from (expects (items_open h items spread ∷ s)) w
spread_on (of_call f) items s w h = refl
spread_on (of_new class) items s w h = refl
spread_on (of_list (array form)) items s w h = absurd h
spread_on (of_list is_set) items s w h = absurd h

pub keyed_array : (h : Holder) (k : Form) → SoundLead h (keyed k) ⊎ SoundLead h (keyed_reference k) → is_array h ≡ true
keyed_array (of_call f) k h = elim h [ inl x ↦ absurd x | inr x ↦ absurd x ]
keyed_array (of_new class) k h = elim h [ inl x ↦ absurd x | inr x ↦ absurd x ]
keyed_array (of_list (array form)) k h = refl
keyed_array (of_list is_set) k h = elim h [ inl x ↦ absurd x | inr x ↦ absurd x ]

key_on : (h : Holder) (items : Items Nothing) (k : Form) (s : OpenForms) (w : List Symbol) → is_array h ≡ true
    → read_from (holds k (items_open h items plain ∷ s)) (punct mark.DoubleArrow ∷ w) ≡ read_from (past_value h items k s) w
key_on (of_call f) items k s w h = cc
key_on (of_new class) items k s w h = cc
key_on (of_list (array form)) items k s w h = refl
key_on (of_list is_set) items k s w h = cc

-- ---- the whole

-- behind a tree that is followed by a suffix
open_suffix : (d : Draw) (e : Form) → 90 < draw_strength d → draw_strength d < ends e → IsOpen e
open_suffix d e tight low = open_by_ends e (omega arith)

pub suffix_low : (e : Form) → HasSuffix e → 100 < ends e
suffix_low e h = omega (arith, (open_by_ends e (omega arith)).more h)

pub call_low : (e : Form) → IsCallable e → 110 < ends e
call_low e h = omega (arith, (open_by_ends e (omega arith)).most h)

pub operand_near : (e : Form) (s : OpenForms) → free < ends e → least_power s ≤ power e
operand_near e s h = omega (arith, least_power_most s, (open_by_ends e h).power_is)

pub operator_small : (op : Binary) → (binary_row op).power < 90
operator_small op = omega (arith, binary_bound op)

mutual
  pub spelling_read : (e : Form) (s : OpenForms) (w : List Symbol) → Proper e → least_power s ≤ power e → Follows e s w → read_from (expects s) (spell e w) ≡ read_from (after e s) w
  spelling_read (leaf spot l) s w p near h = leaf_on l s w
  spelling_read (template spot pieces) s w p near h = pieces_back pieces s (symbol.unquote ∷ w) p
  spelling_read (enclosed spot parentheses e) s w p near h =
      spelling_read e (enclosed_open parentheses ∷ s) (punct mark.RightParen ∷ w) p (omega arith) (follows_paren (enclosed_open parentheses) s e w tt)
      ∙ ap (λ m. read_from m (punct mark.RightParen ∷ w)) (after_low e (enclosed_open parentheses ∷ s) (omega arith))
  spelling_read (enclosed spot emptiness e) s w p near h =
      spelling_read e (enclosed_open emptiness ∷ s) (punct mark.RightParen ∷ w) p (omega arith) (follows_paren (enclosed_open emptiness) s e w tt)
      ∙ ap (λ m. read_from m (punct mark.RightParen ∷ w)) (after_low e (enclosed_open emptiness ∷ s) (omega arith))
  spelling_read (enclosed spot exiting e) s w p near h =
      enter_exit s (spell e (punct mark.RightParen ∷ w)) (starts e (punct mark.RightParen ∷ w))
      ∙ spelling_read e (enclosed_open exiting ∷ s) (punct mark.RightParen ∷ w) p (omega arith) (follows_paren (enclosed_open exiting) s e w tt)
      ∙ ap (λ m. read_from m (punct mark.RightParen ∷ w)) (after_low e (enclosed_open exiting ∷ s) (omega arith))
  spelling_read (listed spot (array form.Brackets) items) s w p near h = list_back (of_list (array form.Brackets)) items s w p.0.0 p.0 p.1
  spelling_read (listed spot (array form.Array) items) s w p near h = list_back (of_list (array form.Array)) items s w p.0.0 p.0 p.1
  spelling_read (listed spot (array form.List) items) s w p near h = list_back (of_list (array form.List)) items s w p.0.0 p.0 p.1
  spelling_read (listed spot is_set items) s w p near h = list_back (of_list is_set) items s w p.0.0 p.0 p.1
  spelling_read (exit spot) s w p near h = exit_done s w h.low
  spelling_read (exit_empty spot) s w p near h = refl
  spelling_read (static_member spot m) s w p near h = static_on m s w p
  spelling_read (append e) s w p near h =
      spelling_read e s (punct mark.LeftBracket ∷ punct mark.RightBracket ∷ w) p.1 (operand_near e s (omega arith)) (follows_draw by_index e s (punct mark.RightBracket ∷ w) (suffix_low e p.0))
      ∙ suffix_on by_index e s (punct mark.RightBracket ∷ w) (omega arith) (suffix_low e p.0)
  spelling_read (index e key) s w p near h =
      spelling_read e s (punct mark.LeftBracket ∷ spell key (punct mark.RightBracket ∷ w)) p.1 (operand_near e s (omega arith))
      (follows_draw by_index e s (spell key (punct mark.RightBracket ∷ w)) (suffix_low e p.0))
      ∙ suffix_on by_index e s (spell key (punct mark.RightBracket ∷ w)) (omega arith) (suffix_low e p.0)
      ∙ enters_index e s (spell key (punct mark.RightBracket ∷ w)) (starts key (punct mark.RightBracket ∷ w))
      ∙ spelling_read key (index_open e ∷ s) (punct mark.RightBracket ∷ w) p.2 (omega arith) (follows_bracket (index_open e) s key w tt)
      ∙ ap (λ m. read_from m (punct mark.RightBracket ∷ w)) (after_low key (index_open e ∷ s) (omega arith))
  spelling_read (selected e arrow m) s w p near h =
      spelling_read e s (draw_symbol (by_select arrow) ∷ member_symbol m ∷ w) p.1 (operand_near e s (omega arith)) (follows_draw (by_select arrow) e s (member_symbol m ∷ w) (suffix_low e p.0))
      ∙ suffix_on (by_select arrow) e s (member_symbol m ∷ w) (omega arith) (suffix_low e p.0)
      ∙ member_on arrow m e s w p.2
  spelling_read (computed e key) s w p near h =
      spelling_read e s (punct mark.Arrow ∷ punct mark.LeftBrace ∷ spell key (punct mark.RightBrace ∷ w)) p.1 (operand_near e s (omega arith))
      (follows_draw (by_select thin) e s (punct mark.LeftBrace ∷ spell key (punct mark.RightBrace ∷ w)) (suffix_low e p.0))
      ∙ suffix_on (by_select thin) e s (punct mark.LeftBrace ∷ spell key (punct mark.RightBrace ∷ w)) (omega arith) (suffix_low e p.0)
      ∙ spelling_read key (computed_open e ∷ s) (punct mark.RightBrace ∷ w) p.3 (omega arith) (follows_shut (punct mark.RightBrace) (computed_open e ∷ s) key w refl (λ a. cc) p.2)
      ∙ ap (λ m. read_from m (punct mark.RightBrace ∷ w)) (after_low key (computed_open e ∷ s) (omega arith))
  spelling_read (call f items) s w p near h =
      spelling_read f s (punct mark.LeftParen ∷ spell_items items (punct mark.RightParen ∷ w)) p.1 (operand_near f s (omega arith))
      (follows_draw by_call f s (spell_items items (punct mark.RightParen ∷ w)) (call_low f p.0))
      ∙ suffix_on by_call f s (spell_items items (punct mark.RightParen ∷ w)) (omega arith) (call_low f p.0)
      ∙ list_back (of_call f) items s w p.2 p.2 p.3
  spelling_read (new spot class) s w p near h = class_back class s w p ∙ class_done class s w h.low
  spelling_read (new_with spot class items) s w p near h =
      class_back class s (punct mark.LeftParen ∷ spell_items items (punct mark.RightParen ∷ w)) p.0
      ∙ class_called class s (spell_items items (punct mark.RightParen ∷ w))
      ∙ list_back (of_new class) items s w p.1 p.1 p.2
  spelling_read (prefix spot op e) s w p near h =
      let low : head_strength w < ends e = omega (arith, h.low) in
      let short : head_strength w < ends_at (is_arrow (head_continuation w)) (prefix_open op) = omega (arith, h.low, ends_at_level (is_arrow (head_continuation w)) (prefix_open op) refl) in
      prefix_on op s (spell e w) near
      ∙ spelling_read e (prefix_open op ∷ s) w p.1 p.0 (inside (prefix_open op) s e w (omega arith) short low h.arrow (λ b. b) h)
      ∙ close_by (prefix_open op) s e w (omega arith) (omega (arith, prefix_bound op)) short
  spelling_read (count e way) s w p near h =
      spelling_read e s (draw_symbol (by_count way) ∷ w) p.1 (operand_near e s (operand_ends e p.0)) (follows_draw (by_count way) e s w (operand_ends e p.0))
      ∙ operator_on (by_count way) e s w (omega arith) near (operand_ends e p.0)
  spelling_read (binary op l r) s w p near h =
      let low : head_strength w < ends r = omega (arith, h.low) in
      let short : head_strength w < ends_at (is_arrow (head_continuation w)) (binary_open op l) =
      omega (arith, h.low, edge_bounds op, ends_at_level (is_arrow (head_continuation w)) (binary_open op l) refl) in
      spelling_read l s (draw_symbol (by_binary op) ∷ spell r w) p.2 (omega (arith, power_of_left l (binary_row op).power (binary_bound op).0 p.0))
      (follows_draw (by_binary op) l s (spell r w) p.0)
      ∙ operator_on (by_binary op) l s (spell r w) (operator_small op) near p.0
      ∙ spelling_read r (binary_open op l ∷ s) w p.3 p.1 (inside (binary_open op l) s r w (omega (arith, edge_bounds op)) short low h.arrow (λ b. b) h)
      ∙ close_by (binary_open op l) s r w (omega (arith, edge_bounds op)) (omega (arith, binary_bound op)) short
  spelling_read (instance_of l r) s w p near h =
      let opened_by : IsOpen r = open_by_ends r (operand_ends r p.1) in
      let low : head_strength w < ends r = omega (arith, h.low, opened_by.ends_is) in
      let short : head_strength w < ends_at (is_arrow (head_continuation w)) (instance_of_open l) =
      omega (arith, h.low, ends_at_level (is_arrow (head_continuation w)) (instance_of_open l) refl) in
      spelling_read l s (draw_symbol by_instance_of ∷ spell r w) p.3 (omega (arith, power_of_left l instance_of_row.power (omega arith) p.0)) (follows_draw by_instance_of l s (spell r w) p.0)
      ∙ operator_on by_instance_of l s (spell r w) (omega arith) near p.0
      ∙ spelling_read r (instance_of_open l ∷ s) w p.4 (omega (arith, opened_by.power_is)) (record { low = low; arrow = λ a. opened_by.no_arrow; bare = λ b. let e : ends_bare r ≡ false = opened_by.not_bare in cc })
      ∙ ap (λ b. read_from (after_by b r (instance_of_open l ∷ s)) w) p.2
      ∙ released_before (instance_of_open l) s r w (omega arith) short
  spelling_read (instance_of_static l spot) s w p near h =
      spelling_read l s (draw_symbol by_instance_of ∷ keyword word.Static ∷ w) p.1 (omega (arith, power_of_left l instance_of_row.power (omega arith) p.0)) (follows_draw by_instance_of l s (keyword word.Static ∷ w) p.0)
      ∙ operator_on by_instance_of l s (keyword word.Static ∷ w) (omega arith) near p.0
      ∙ static_done l s w (omega (arith, h.low))
  spelling_read (choice c a b) s w p near h =
      let low : head_strength w < ends b = omega (arith, h.low) in
      let short : head_strength w < ends_at (is_arrow (head_continuation w)) (else_open c a) = omega (arith, h.low, ends_at_level (is_arrow (head_continuation w)) (else_open c a) refl) in
      spelling_read c s (punct mark.Question ∷ spell a (punct mark.Colon ∷ spell b w)) p.3 (omega (arith, power_of_left c choice_row.power (omega arith) p.0))
      (follows_draw by_choice c s (spell a (punct mark.Colon ∷ spell b w)) p.0)
      ∙ operator_on by_choice c s (spell a (punct mark.Colon ∷ spell b w)) (omega arith) near p.0
      ∙ enter_then c s (spell a (punct mark.Colon ∷ spell b w)) (starts a (punct mark.Colon ∷ spell b w))
      ∙ spelling_read a (then_open c ∷ s) (punct mark.Colon ∷ spell b w) p.4 (omega arith) (follows_shut (punct mark.Colon) (then_open c ∷ s) a (spell b w) refl (λ x. cc) p.1)
      ∙ ap (λ m. read_from m (punct mark.Colon ∷ spell b w)) (after_low a (then_open c ∷ s) (omega arith))
      ∙ spelling_read b (else_open c a ∷ s) w p.5 p.2 (inside (else_open c a) s b w (omega arith) short low h.arrow (λ x. x) h)
      ∙ close_by (else_open c a) s b w (omega arith) (omega arith) short
  spelling_read (short_choice c b) s w p near h =
      let low : head_strength w < ends b = omega (arith, h.low) in
      let short : head_strength w < ends_at (is_arrow (head_continuation w)) (short_open c) = omega (arith, h.low, ends_at_level (is_arrow (head_continuation w)) (short_open c) refl) in
      spelling_read c s (punct mark.Question ∷ punct mark.Colon ∷ spell b w) p.2 (omega (arith, power_of_left c choice_row.power (omega arith) p.0))
      (follows_draw by_choice c s (punct mark.Colon ∷ spell b w) p.0)
      ∙ operator_on by_choice c s (punct mark.Colon ∷ spell b w) (omega arith) near p.0
      ∙ spelling_read b (short_open c ∷ s) w p.3 p.1 (inside (short_open c) s b w (omega arith) short low h.arrow (λ x. x) h)
      ∙ close_by (short_open c) s b w (omega arith) (omega arith) short
  spelling_read (assign (by_value op) l r) s w p near h =
      let low : head_strength w < ends r = omega (arith, h.low) in
      let short : head_strength w < ends_at (is_arrow (head_continuation w)) (assign_open (by_value op) l) =
      omega (arith, h.low, ends_at_level (is_arrow (head_continuation w)) (assign_open (by_value op) l) refl) in
      spelling_read l s (draw_symbol (by_assign op) ∷ spell r w) p.2 (operand_near l s (operand_ends l p.0)) (follows_draw (by_assign op) l s (spell r w) (operand_ends l p.0))
      ∙ operator_on (by_assign op) l s (spell r w) (omega arith) near (operand_ends l p.0)
      ∙ assigned_on op l s (spell r w) (starts r w)
      ∙ spelling_read r (assign_open (by_value op) l ∷ s) w p.3 p.1 (inside (assign_open (by_value op) l) s r w (omega arith) short low h.arrow (λ x. x) h)
      ∙ close_by (assign_open (by_value op) l) s r w (omega arith) (omega arith) short
  spelling_read (assign by_reference l r) s w p near h =
      let low : head_strength w < ends r = omega (arith, h.low) in
      let short : head_strength w < ends_at (is_arrow (head_continuation w)) (assign_open by_reference l) =
      omega (arith, h.low, ends_at_level (is_arrow (head_continuation w)) (assign_open by_reference l) refl) in
      spelling_read l s (draw_symbol (by_assign setting.Plain) ∷ punct mark.Ampersand ∷ spell r w) p.2 (operand_near l s (operand_ends l p.0))
      (follows_draw (by_assign setting.Plain) l s (punct mark.Ampersand ∷ spell r w) (operand_ends l p.0))
      ∙ operator_on (by_assign setting.Plain) l s (punct mark.Ampersand ∷ spell r w) (omega arith) near (operand_ends l p.0)
      ∙ spelling_read r (assign_open by_reference l ∷ s) w p.3 p.1 (inside (assign_open by_reference l) s r w (omega arith) short low h.arrow (λ x. x) h)
      ∙ close_by (assign_open by_reference l) s r w (omega arith) (omega arith) short
  spelling_read (yield_nothing spot) s w p near h = yield_on s w near ∙ bare_done s w (h.bare refl)
  spelling_read (yield_value spot v) s w p near h =
      let arrow : is_arrow (head_continuation w) ≡ false = not_true (is_arrow (head_continuation w)) h.arrow in
      let low : head_strength w < ends v = omega (arith, h.low) in
      let short : head_strength w < ends_at (is_arrow (head_continuation w)) yield_open = subst (λ b. head_strength w < ends_at b yield_open) (sym arrow) (omega (arith, h.low)) in
      yield_on s (spell v w) near ∙ enter_yield s (spell v w) (starts v w)
      ∙ spelling_read v (yield_open ∷ s) w p.1 p.0 (inside yield_open s v w (omega arith) short low (λ a. cc) (λ x. x) h)
      ∙ close_by yield_open s v w (omega arith) (omega arith) short
  spelling_read (yield_pair spot k v) s w p near h =
      let low : head_strength w < ends v = omega (arith, h.low) in
      let short : head_strength w < ends_at (is_arrow (head_continuation w)) (yield_value_open k) = omega (arith, h.low, ends_at_level (is_arrow (head_continuation w)) (yield_value_open k) refl) in
      yield_on s (spell k (punct mark.DoubleArrow ∷ spell v w)) near
      ∙ enter_yield s (spell k (punct mark.DoubleArrow ∷ spell v w)) (starts k (punct mark.DoubleArrow ∷ spell v w))
      ∙ spelling_read k (yield_open ∷ s) (punct mark.DoubleArrow ∷ spell v w) p.3 p.0 (follows_shut (punct mark.DoubleArrow) (yield_open ∷ s) k (spell v w) refl (λ a. p.1.0) p.1.1)
      ∙ ap (λ m. read_from m (punct mark.DoubleArrow ∷ spell v w)) (after_low k (yield_open ∷ s) (omega arith))
      ∙ spelling_read v (yield_value_open k ∷ s) w p.4 p.2 (inside (yield_value_open k) s v w (omega arith) short low h.arrow (λ x. x) h)
      ∙ close_by (yield_value_open k) s v w (omega arith) (omega arith) short

  pub list_back : (h : Holder) (items : Items Nothing) (s : OpenForms) (w : List Symbol) → SoundList h items → SoundEnd h items → AreProperItems items
      → read_from (past_items h none s) (spell_items items (holder_closing h ∷ w)) ≡ read_from (after (closed_with h items) s) w
  list_back h none s w l end p = none_closed h s w end
  list_back h (and items lead e) s w l end p =
      items_back h items s (spell_lead lead (spell e (holder_closing h ∷ w))) (list_lead h items lead e l).0 p.0
      ∙ lead_back h items lead s (spell e (holder_closing h ∷ w)) (list_lead h items lead e l).1 p.1 (starts e (holder_closing h ∷ w))
      ∙ spelling_read e (items_open h items lead ∷ s) (holder_closing h ∷ w) p.2 (omega arith) (follows_close h items lead s e w)
      ∙ ap (λ m. read_from m (holder_closing h ∷ w)) (after_low e (items_open h items lead ∷ s) (omega arith))
      ∙ item_closed h items lead e s w
  list_back h (skip items) s w l end p =
      items_back h items s (holder_closing h ∷ w) (list_skip h items l).1 p ∙ skip_closed h items s w l end

  pub items_back : (h : Holder) (items : Items Nothing) (s : OpenForms) (w : List Symbol) → SoundList h items → AreProperItems items
      → read_from (past_items h none s) (spell_items items (comma items w)) ≡ read_from (past_items h items s) w
  items_back h none s w l p = refl
  items_back h (and items lead e) s w l p =
      items_back h items s (spell_lead lead (spell e (punct mark.Comma ∷ w))) (list_lead h items lead e l).0 p.0
      ∙ lead_back h items lead s (spell e (punct mark.Comma ∷ w)) (list_lead h items lead e l).1 p.1 (starts e (punct mark.Comma ∷ w))
      ∙ spelling_read e (items_open h items lead ∷ s) (punct mark.Comma ∷ w) p.2 (omega arith) (follows_comma h items lead s e w)
      ∙ ap (λ m. read_from m (punct mark.Comma ∷ w)) (after_low e (items_open h items lead ∷ s) (omega arith))
  items_back h (skip items) s w l p =
      items_back h items s (punct mark.Comma ∷ w) (list_skip h items l).1 p ∙ skip_on h items s w (list_skip h items l).0

  lead_back : (h : Holder) (items : Items Nothing) (lead : Lead Nothing) (s : OpenForms) (v : List Symbol) → SoundLead h lead → IsProperLead lead → Starts v
      → read_from (past_items h items s) (spell_lead lead v) ≡ read_from (expects (items_open h items lead ∷ s)) v
  lead_back h items plain s v l p g = enter_items h items s v g
  lead_back h items reference s v l p g = reference_on h items s v l
  lead_back h items spread s v l p g = spread_on h items s v l
  lead_back h items (keyed k) s v l p g =
      enter_items h items s (spell k (punct mark.DoubleArrow ∷ v)) (starts k (punct mark.DoubleArrow ∷ v))
      ∙ spelling_read k (items_open h items plain ∷ s) (punct mark.DoubleArrow ∷ v) p.1 (omega arith) (follows_shut (punct mark.DoubleArrow) (items_open h items plain ∷ s) k v refl (λ a. p.0.0) p.0.1)
      ∙ ap (λ m. read_from m (punct mark.DoubleArrow ∷ v)) (after_low k (items_open h items plain ∷ s) (omega arith))
      ∙ key_on h items k s v (keyed_array h k (inl l))
      ∙ enter_value h items k s v g
  lead_back h items (keyed_reference k) s v l p g =
      enter_items h items s (spell k (punct mark.DoubleArrow ∷ punct mark.Ampersand ∷ v)) (starts k (punct mark.DoubleArrow ∷ punct mark.Ampersand ∷ v))
      ∙ spelling_read k (items_open h items plain ∷ s) (punct mark.DoubleArrow ∷ punct mark.Ampersand ∷ v) p.1 (omega arith)
      (follows_shut (punct mark.DoubleArrow) (items_open h items plain ∷ s) k (punct mark.Ampersand ∷ v) refl (λ a. p.0.0) p.0.1)
      ∙ ap (λ m. read_from m (punct mark.DoubleArrow ∷ punct mark.Ampersand ∷ v)) (after_low k (items_open h items plain ∷ s) (omega arith))
      ∙ key_on h items k s (punct mark.Ampersand ∷ v) (keyed_array h k (inr l))

  pieces_back : (pieces : Pieces Nothing) (s : OpenForms) (w : List Symbol) → AreProperPieces pieces → read_from (past_template no_piece s) (spell_pieces pieces w) ≡ read_from (past_template pieces s) w
  pieces_back no_piece s w p = refl
  pieces_back (bytes pieces text) s w p = pieces_back pieces s (symbol.piece text ∷ w) p
  pieces_back (value pieces e) s w p =
      pieces_back pieces s (symbol.part ∷ spell e (symbol.end_part ∷ w)) p.0
      ∙ spelling_read e (part_open pieces ∷ s) (symbol.end_part ∷ w) p.2 (omega arith) (follows_shut symbol.end_part (part_open pieces ∷ s) e w refl (λ a. cc) p.1)
      ∙ ap (λ m. read_from m (symbol.end_part ∷ w)) (after_low e (part_open pieces ∷ s) (omega arith))

  class_back : (class : Class Nothing) (s : OpenForms) (w : List Symbol) → IsProperClass class → read_from (past_new s) (spell_class class w) ≡ read_from (past_class class s) w
  class_back (class_name spot text) s w p = refl
  class_back (class_static spot) s w p = refl
  class_back (class_found steps) s w p = steps_back steps s w p

  steps_back : (steps : Steps Nothing) (s : OpenForms) (w : List Symbol) → AreProperSteps steps → read_from (past_new s) (spell_steps steps w) ≡ read_from (past_class (class_found steps) s) w
  steps_back (from spot text) s w p = refl
  steps_back (step_property steps m) s w p = steps_back steps s (punct mark.Arrow ∷ member_symbol m ∷ w) p.0 ∙ property_on m steps s w p.1
  steps_back (step_index steps e) s w p =
      steps_back steps s (punct mark.LeftBracket ∷ spell e (punct mark.RightBracket ∷ w)) p.0
      ∙ spelling_read e (step_open steps ∷ s) (punct mark.RightBracket ∷ w) p.1 (omega arith) (follows_bracket (step_open steps) s e w tt)
      ∙ ap (λ m. read_from m (punct mark.RightBracket ∷ w)) (after_low e (step_open steps ∷ s) (omega arith))
