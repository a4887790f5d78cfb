-- Steps of the machine that keep it sound: closing forms, behind an expression, and where one is due.
use Rattle.std.proofs.Common.{◌≡◌, ◌≤◌, ◌<◌, Bool, true, false, Option, Some, None, List, [], ◌∷◌, refl, sym, ◌∙◌, ap, arith, ltb-true}
use Rattle.std.specs.Prelude.{nat_lt}
use Rattle.php_token.specs.declared.kind.Punct.TheVariants as mark
use Rattle.php_ast.specs.declared.operator.Assign.{Assign}
use Rattle.php_ast.specs.declared.operator.Assign.TheVariants as setting
use Rattle.php_ast.specs.declared.operator.ArrayForm.TheVariants as form
use Rattle.php_ast.specs.Symbol.{Symbol, punct}
use Rattle.php_ast.specs.expression.Tree.{Leaf, no_piece, parentheses, emptiness, exiting, array, is_set, by_value}
use Rattle.php_ast.specs.expression.Tree.{leaf, enclosed, index, computed, prefix, count, binary, instance_of, instance_of_static, choice, short_choice, assign, yield_nothing, yield_value, yield_pair}
use Rattle.php_ast.specs.expression.Tree.{Items, none, and, Lead, plain, reference, spread, keyed, keyed_reference, value, class_found, step_index}
use Rattle.php_ast.specs.expression.Spelling.{spell, spell_items}
use Rattle.php_ast.specs.expression.Proper.{operand_level, free, top, power, ends, takes_arrow, ends_bare, is_call, IsOperand, AreProperItems, Proper, IsKey}
use Rattle.php_grammar.specs.declared.closer.Closer.{Closer}
use Rattle.php_grammar.specs.declared.closer.Closer.TheVariants as ender
use Rattle.php_grammar.specs.expression.Role.{Beginning, at_leaf, at_static, at_template, at_exit, at_new, at_yield, at_enclosed, at_listed, at_prefix, at_nothing, beginning, Draw, by_binary, by_instance_of, by_choice, by_assign, by_count, by_call, by_index, by_select, Continuation, draws, closes, neither, continuation, draw_strength, strength_of, is_arrow, ends_yield}
use Rattle.php_grammar.specs.expression.Machine.{Nothing, Form, Holder, of_call, of_new, of_list, OpenForm, enclosed_open, items_open, index_open, computed_open, step_open, part_open, then_open, else_open, prefix_open, binary_open, instance_of_open, assign_open, yield_open, yield_value_open, OpenForms, State, expects, holds, due_enclosed, due_listed, past_items, past_value, past_exit, past_static, past_template, past_index, past_arrow, past_new, past_class, past_question, past_assign, past_yield, least_power, closed_with, has_paren, holder_closing, is_array, holder_front, opening_parts, Reached, pick, allowed_if, released, after_by, after, assigning, opened_by, keys, closed, closes_in, continued, goes_on, started, start}
use Rattle.php_grammar.proofs.expression.Roles.{draw_symbol, closer_symbol, Says, continuation_says, BeginningSays, beginning_says, TestSays}
use Rattle.php_grammar.proofs.expression.Sound.{SoundHolder, SoundEnd, IsSound, IsFitting, Closed, IsSoundState, symbols_so_far}
use Rattle.php_grammar.proofs.expression.Fill.{prefix_bound, edge_bounds, least_power_most, least_power_free, list_more, list_end, closed_proper, closed_power, closed_closed, closed_spells, seats_by}
use Rattle.php_grammar.proofs.expression.Settle.{ends_top, IsReleased, is_released}

-- ---- steps

abbrev pub LeadsOn : State → Symbol → Option State → Type 0
LeadsOn m t None = Unit {0}
LeadsOn m t (Some n) = IsSoundState n × ((w : List Symbol) → symbols_so_far m (t ∷ w) ≡ symbols_so_far n w)

-- a step by a known symbol
pub led : (m n : State) (t x : Symbol) → t ≡ x → IsSoundState n → ((w : List Symbol) → symbols_so_far m (x ∷ w) ≡ symbols_so_far n w) → LeadsOn m t (Some n)
led m n t x is good same = (good, λ w. ap (λ u. symbols_so_far m (u ∷ w)) is ∙ same w)

-- a step from another state that stands for the same symbols
pub same_symbols : (m n : State) (t : Symbol) (o : Option State) → ((w : List Symbol) → symbols_so_far n w ≡ symbols_so_far m w) → LeadsOn m t o → LeadsOn n t o
same_symbols m n t None same h = tt
same_symbols m n t (Some x) same h = (h.0, λ w. same (t ∷ w) ∙ h.1 w)

pub allowed_leads : (b : Bool) (m n : State) (t : Symbol) → (b ≡ true → LeadsOn m t (Some n)) → LeadsOn m t (allowed_if b n)
allowed_leads true m n t h = h refl
allowed_leads false m n t h = tt

pub pick_leads : (b : Bool) (m : State) (t : Symbol) (o p : Option State) → (b ≡ true → LeadsOn m t o) → (b ≡ false → LeadsOn m t p) → LeadsOn m t (pick b o p)
pick_leads true m t o p h g = h refl
pick_leads false m t o p h g = g refl

pub test_is : (b : Bool) (t x : Symbol) → TestSays b t x → b ≡ true → t ≡ x
test_is true t x h e = h
test_is false t x h e = cc

-- ---- what a tree that may stand leads to

pub closed_fits : (s : OpenForms) (e : Form) → Proper e → power e ≡ top → is_call e ≡ false → IsSound s → IsFitting e s
closed_fits s e p is c sound = record { proper = p; near = omega (arith, is, least_power_most s); sound = sound; seats = seats_by s e c }

after_if : (b : Bool) (s : OpenForms) (e : Form) → is_call e ≡ b → Proper e → power e ≡ top → IsSound s → Closed e → IsSoundState (after_by b e s)
after_if true [] e is p q sound c = (record { proper = p; near = omega arith; sound = sound; seats = tt }, c)
after_if true (instance_of_open l ∷ s) e is p q sound c = (is, p, sound, c)
after_if true (f ∷ s) e is p q sound c = (record { proper = p; near = omega (arith, q, least_power_most (f ∷ s)); sound = sound; seats = tt }, c)
after_if false s e is p q sound c = (closed_fits s e p q is sound, c)

after_good : (s : OpenForms) (e : Form) → Proper e → power e ≡ top → IsSound s → Closed e → IsSoundState (after e s)
after_good s e p q sound c = after_if (is_call e) s e refl p q sound c

after_written_if : (b : Bool) (s : OpenForms) (e : Form) (w : List Symbol) → symbols_so_far (after_by b e s) w ≡ opening_parts s (spell e w)
after_written_if true [] e w = refl
after_written_if true (instance_of_open l ∷ s) e w = refl
after_written_if true (f ∷ s) e w = refl
after_written_if false s e w = refl

after_written : (s : OpenForms) (e : Form) (w : List Symbol) → symbols_so_far (after e s) w ≡ opening_parts s (spell e w)
after_written s e w = after_written_if (is_call e) s e w

operand_if_open : (e : Form) → free < ends e → IsOperand e
operand_if_open (prefix spot op e) h = absurd (omega (arith, prefix_bound op))
operand_if_open (count e way) h = absurd (omega arith)
operand_if_open (binary op l r) h = absurd (omega (arith, edge_bounds op))
operand_if_open (instance_of l r) h = absurd (omega arith)
operand_if_open (instance_of_static l spot) h = absurd (omega arith)
operand_if_open (choice c a b) h = absurd (omega arith)
operand_if_open (short_choice c b) h = absurd (omega arith)
operand_if_open (assign how l r) h = absurd (omega arith)
operand_if_open (yield_nothing spot) h = absurd (omega arith)
operand_if_open (yield_value spot v) h = absurd (omega arith)
operand_if_open (yield_pair spot k v) h = absurd (omega arith)
operand_if_open _ h = omega arith

assigning_leads : (op : Assign) (t : Symbol) (e : Form) (s : OpenForms) → t ≡ draw_symbol (by_assign op) → IsOperand e → Proper e → least_power s ≤ free → IsSound s
    → LeadsOn (holds e s) t (Some (assigning op e s))
assigning_leads setting.Plain t e s is o p near sound = led (holds e s) (past_assign e s) t _ is (o, p, near, sound) (λ w. refl)
assigning_leads op t e s is o p near sound = led (holds e s) (expects (assign_open (by_value op) e ∷ s)) t _ is ((o, p), near, sound) (λ w. refl)

pub opened_leads_on : (d : Draw) (t : Symbol) (e : Form) (s : OpenForms) → t ≡ draw_symbol d → draw_strength d < ends e → least_power s ≤ draw_strength d → Proper e → IsSound s
    → LeadsOn (holds e s) t (Some (opened_by d e s))
opened_leads_on (by_binary op) t e s is low near p sound = led (holds e s) (expects (binary_open op e ∷ s)) t _ is ((low, p), near, sound) (λ w. refl)
opened_leads_on by_instance_of t e s is low near p sound = led (holds e s) (expects (instance_of_open e ∷ s)) t _ is ((low, p), near, sound) (λ w. refl)
opened_leads_on by_choice t e s is low near p sound = led (holds e s) (past_question e s) t _ is (low, p, near, sound) (λ w. refl)
opened_leads_on (by_assign op) t e s is low near p sound = assigning_leads op t e s is (operand_if_open e low) p near sound
opened_leads_on (by_count c) t e s is low near p sound =
    led (holds e s) (holds (count e c) s) t _ is
    (record { proper = (operand_if_open e low, p); near = near; sound = sound; seats = seats_by s (count e c) refl }, record { no_arrow = refl; not_bare = refl }) (λ w. refl)
opened_leads_on by_call t e s is low near p sound =
    led (holds e s) (past_items (of_call e) none s) t _ is (record { holder = (omega arith, p); list = tt; proper = tt }, sound) (λ w. refl)
opened_leads_on by_index t e s is low near p sound = led (holds e s) (past_index e s) t _ is (omega arith, p, sound) (λ w. refl)
opened_leads_on (by_select arrow) t e s is low near p sound = led (holds e s) (past_arrow arrow e s) t _ is (omega arith, p, sound) (λ w. refl)

-- ---- closing

pub holder_closing_is : (h : Holder) → has_paren h ≡ true → holder_closing h ≡ punct mark.RightParen
holder_closing_is (of_call f) is = refl
holder_closing_is (of_new class) is = refl
holder_closing_is (of_list (array form.Brackets)) is = cc
holder_closing_is (of_list (array form.Array)) is = refl
holder_closing_is (of_list (array form.List)) is = refl
holder_closing_is (of_list is_set) is = refl

pub bracket_closing_is : (h : Holder) → has_paren h ≡ false → holder_closing h ≡ punct mark.RightBracket
bracket_closing_is (of_call f) is = cc
bracket_closing_is (of_new class) is = cc
bracket_closing_is (of_list (array form.Brackets)) is = refl
bracket_closing_is (of_list (array form.Array)) is = cc
bracket_closing_is (of_list (array form.List)) is = cc
bracket_closing_is (of_list is_set) is = cc

-- a list, closed by its closing symbol
pub holder_leads : (h : Holder) (items : Items Nothing) (s : OpenForms) (m : State) (t x : Symbol) → t ≡ x → holder_closing h ≡ x → SoundHolder h → SoundEnd h items → AreProperItems items → IsSound s
    → ((w : List Symbol) → symbols_so_far m (x ∷ w) ≡ opening_parts s (holder_front h (spell_items items (x ∷ w)))) → LeadsOn m t (Some (after (closed_with h items) s))
holder_leads h items s m t x is end a b p sound same =
    led m (after (closed_with h items) s) t x is
    (after_good s (closed_with h items) (closed_proper h items a b p) (closed_power h items) sound (closed_closed h items))
    (λ w. same w ∙ ap (λ u. opening_parts s (holder_front h (spell_items items (u ∷ w)))) (sym end) ∙ ap (opening_parts s) (sym (closed_spells h items w))
    ∙ sym (after_written s (closed_with h items) w))

keys_leads : (b : Bool) (h : Holder) (items : Items Nothing) (lead : Lead Nothing) (e : Form) (s : OpenForms) (t : Symbol) → is_array h ≡ b → t ≡ closer_symbol ender.DoubleArrow
    → IsFitting e (items_open h items lead ∷ s) → IsKey e → LeadsOn (holds e (items_open h items lead ∷ s)) t (keys b h items lead e s)
keys_leads true h items plain e s t is at a k =
    led (holds e (items_open h items plain ∷ s)) (past_value h items e s) t _ at (a.sound.0.0, is, k, a.proper, a.sound.2) (λ w. refl)
keys_leads true h items reference e s t is at a k = tt
keys_leads true h items spread e s t is at a k = tt
keys_leads true h items (keyed x) e s t is at a k = tt
keys_leads true h items (keyed_reference x) e s t is at a k = tt
keys_leads false h items lead e s t is at a k = tt

-- what a closing symbol asks of the end of a tree
pub record MayClose (c : Closer) (e : Form) : Type 0 where
  pub no_arrow : is_arrow (closes c) ≡ true → takes_arrow e ≡ false
  pub not_bare : ends_yield (closes c) ≡ false → ends_bare e ≡ false

items_closed : (h : Holder) (items : Items Nothing) (lead : Lead Nothing) (e : Form) (s : OpenForms) (t x : Symbol) → t ≡ x → holder_closing h ≡ x → IsFitting e (items_open h items lead ∷ s)
    → LeadsOn (holds e (items_open h items lead ∷ s)) t (Some (after (closed_with h (and items lead e)) s))
items_closed h items lead e s t x is end a =
    holder_leads h (and items lead e) s (holds e (items_open h items lead ∷ s)) t x is end a.sound.0.0.holder
    (list_end h items lead e (list_more h items lead e a.sound.0.0.list a.sound.0.1)) (a.sound.0.0.proper, a.sound.0.2, a.proper) a.sound.2 (λ w. refl)

closed_leads_on : (c : Closer) (t : Symbol) (e : Form) (f : OpenForm) (s : OpenForms) → t ≡ closer_symbol c → IsFitting e (f ∷ s) → MayClose c e → LeadsOn (holds e (f ∷ s)) t (closed c e f s)
closed_leads_on ender.Paren t e (enclosed_open enclosure) s is h k =
    led (holds e (enclosed_open enclosure ∷ s)) (holds (enclosed tt enclosure e) s) t _ is (closed_fits s (enclosed tt enclosure e) h.proper refl refl h.sound.2, record { no_arrow = refl; not_bare = refl }) (λ w. refl)
closed_leads_on ender.Paren t e (items_open g items lead) s is h k =
    allowed_leads (has_paren g) (holds e (items_open g items lead ∷ s)) (after (closed_with g (and items lead e)) s) t (λ b. items_closed g items lead e s t (punct mark.RightParen) is (holder_closing_is g b) h)
closed_leads_on ender.Bracket t e (items_open g items lead) s is h k =
    pick_leads (has_paren g) (holds e (items_open g items lead ∷ s)) t None (Some (after (closed_with g (and items lead e)) s)) (λ b. tt) (λ b. items_closed g items lead e s t (punct mark.RightBracket) is (bracket_closing_is g b) h)
closed_leads_on ender.Bracket t e (index_open a) s is h k =
    led (holds e (index_open a ∷ s)) (holds (index a e) s) t _ is
    (closed_fits s (index a e) (h.sound.0.0, h.sound.0.1, h.proper) refl refl h.sound.2, record { no_arrow = refl; not_bare = refl }) (λ w. refl)
closed_leads_on ender.Bracket t e (step_open steps) s is h k =
    led (holds e (step_open steps ∷ s)) (past_class (class_found (step_index steps e)) s) t _ is ((h.sound.0, h.proper), h.sound.2) (λ w. refl)
closed_leads_on ender.Brace t e (computed_open a) s is h k =
    led (holds e (computed_open a ∷ s)) (holds (computed a e) s) t _ is
    (closed_fits s (computed a e) (h.sound.0.0, h.sound.0.1, k.not_bare refl, h.proper) refl refl h.sound.2, record { no_arrow = refl; not_bare = refl }) (λ w. refl)
closed_leads_on ender.Comma t e (items_open g items lead) s is h k =
    led (holds e (items_open g items lead ∷ s)) (past_items g (and items lead e) s) t _ is
    (record { holder = h.sound.0.0.holder; list = list_more g items lead e h.sound.0.0.list h.sound.0.1; proper = (h.sound.0.0.proper, h.sound.0.2, h.proper) }, h.sound.2) (λ w. refl)
closed_leads_on ender.DoubleArrow t e (items_open g items lead) s is h k = keys_leads (is_array g) g items lead e s t refl is h (k.no_arrow refl, k.not_bare refl)
closed_leads_on ender.DoubleArrow t e yield_open s is h k =
    led (holds e (yield_open ∷ s)) (expects (yield_value_open e ∷ s)) t _ is ((omega (arith, h.near), (k.no_arrow refl, k.not_bare refl), h.proper), h.sound.1, h.sound.2) (λ w. refl)
closed_leads_on ender.Colon t e (then_open c) s is h k =
    led (holds e (then_open c ∷ s)) (expects (else_open c e ∷ s)) t _ is ((h.sound.0.0, k.not_bare refl, h.sound.0.1, h.proper), h.sound.1, h.sound.2) (λ w. refl)
closed_leads_on ender.EndPart t e (part_open pieces) s is h k =
    led (holds e (part_open pieces ∷ s)) (past_template (value pieces e) s) t _ is ((h.sound.0, k.not_bare refl, h.proper), h.sound.2) (λ w. refl)
closed_leads_on _ t e f s is h k = tt

closes_leads_on : (c : Closer) (t : Symbol) (e : Form) (s : OpenForms) → t ≡ closer_symbol c → IsFitting e s → MayClose c e → LeadsOn (holds e s) t (closes_in c e s)
closes_leads_on c t e [] is h k = tt
closes_leads_on c t e (f ∷ s) is h k = closed_leads_on c t e f s is h k

-- ---- behind an expression

continued_leads : (x : Continuation) (t : Symbol) (e : Form) (s : OpenForms) → Says x t → IsFitting e s → ends_top (is_arrow x) s ≤ strength_of x
    → (is_arrow x ≡ true → takes_arrow e ≡ false) → (ends_yield x ≡ false → ends_bare e ≡ false) → LeadsOn (holds e s) t (continued x (record { tree = e; stack = s }))
continued_leads (draws d) t e s is h near a b =
    allowed_leads (nat_lt (draw_strength d) (ends e)) (holds e s) (opened_by d e s) t (λ low.
    opened_leads_on d t e s is (ltb-true (draw_strength d) (ends e) low) near h.proper h.sound)
continued_leads (closes c) t e s is h near a b = closes_leads_on c t e s is h (record { no_arrow = a; not_bare = b })
continued_leads neither t e s is h near a b = tt

-- a step from what the forms that the symbol ends make
released_leads : (x : Continuation) (t : Symbol) (e : Form) (s : OpenForms) (d : Reached) → Says x t → IsReleased (is_arrow x) (strength_of x) s e d
    → (is_arrow x ≡ true → takes_arrow e ≡ false) → (ends_yield x ≡ false → ends_bare e ≡ false) → LeadsOn (holds e s) t (continued x d)
released_leads x t e s d is h a b =
    same_symbols (holds d.tree d.stack) (holds e s) t (continued x d) h.same
    (continued_leads x t d.tree d.stack is h.fits h.low (λ i. h.no_arrow i (a i)) (λ i. h.bare_is ∙ b i))

pub goes_on_leads : (x : Continuation) (t : Symbol) (e : Form) (s : OpenForms) → Says x t → IsFitting e s → (is_arrow x ≡ true → takes_arrow e ≡ false)
    → (ends_yield x ≡ false → ends_bare e ≡ false) → LeadsOn (holds e s) t (goes_on e s x)
goes_on_leads x t e s is h a b =
    released_leads x t e s (released (is_arrow x) (strength_of x) s e) is (is_released (is_arrow x) (strength_of x) s e h) a b

-- behind a tree at whose end no `yield` is open
pub closed_goes_on : (t : Symbol) (e : Form) (s : OpenForms) → IsFitting e s → Closed e → LeadsOn (holds e s) t (goes_on e s (continuation t))
closed_goes_on t e s h c = goes_on_leads (continuation t) t e s (continuation_says t) h (λ i. c.no_arrow) (λ i. c.not_bare)

-- ---- where an expression is due

leaf_good : (l : Leaf) (s : OpenForms) → IsSound s → IsSoundState (holds (leaf tt l) s)
leaf_good l s sound = (closed_fits s (leaf tt l) tt refl refl sound, record { no_arrow = refl; not_bare = refl })

started_leads_on : (x : Beginning) (t : Symbol) (s : OpenForms) → BeginningSays x t → IsSound s → LeadsOn (expects s) t (started x s)
started_leads_on (at_leaf l) t s is h = led (expects s) (holds (leaf tt l) s) t _ is (leaf_good l s h) (λ w. refl)
started_leads_on at_static t s is h = led (expects s) (past_static s) t _ is h (λ w. refl)
started_leads_on at_template t s is h = led (expects s) (past_template no_piece s) t _ is (tt, h) (λ w. refl)
started_leads_on at_exit t s is h = led (expects s) (past_exit s) t _ is h (λ w. refl)
started_leads_on at_new t s is h = led (expects s) (past_new s) t _ is h (λ w. refl)
started_leads_on at_yield t s is h =
    allowed_leads (nat_lt (least_power s) operand_level) (expects s) (past_yield s) t (λ low. led (expects s) (past_yield s) t _ is (least_power_free s (ltb-true (least_power s) operand_level low), h) (λ w. refl))
started_leads_on (at_enclosed parentheses) t s is h = led (expects s) (expects (enclosed_open parentheses ∷ s)) t _ is (tt, omega (arith, least_power_most s), h) (λ w. refl)
started_leads_on (at_enclosed emptiness) t s is h = led (expects s) (due_enclosed emptiness s) t _ is h (λ w. refl)
started_leads_on (at_enclosed exiting) t s is h = led (expects s) (due_enclosed exiting s) t _ is h (λ w. refl)
started_leads_on (at_listed (array form.Brackets)) t s is h =
    led (expects s) (past_items (of_list (array form.Brackets)) none s) t _ is (record { holder = tt; list = tt; proper = tt }, h) (λ w. refl)
started_leads_on (at_listed (array form.Array)) t s is h = led (expects s) (due_listed (array form.Array) s) t _ is (refl, h) (λ w. refl)
started_leads_on (at_listed (array form.List)) t s is h = led (expects s) (due_listed (array form.List) s) t _ is (refl, h) (λ w. refl)
started_leads_on (at_listed is_set) t s is h = led (expects s) (due_listed is_set s) t _ is (refl, h) (λ w. refl)
started_leads_on (at_prefix op) t s is h =
    allowed_leads (nat_lt (least_power s) operand_level) (expects s) (expects (prefix_open op ∷ s)) t (λ low.
    led (expects s) (expects (prefix_open op ∷ s)) t _ is (tt, least_power_free s (ltb-true (least_power s) operand_level low), h) (λ w. refl))
started_leads_on at_nothing t s is h = tt

pub start_leads_on : (t : Symbol) (s : OpenForms) → IsSound s → LeadsOn (expects s) t (start s t)
start_leads_on t s h = started_leads_on (beginning t) t s (beginning_says t) h
