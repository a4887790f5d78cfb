-- Soundness of the machine: wherever it halts, its tree is proper, and the symbols read and the missing
-- ones spell it.
use Rattle.std.proofs.Common.{◌≡◌, ◌<◌, Bool, true, false, Option, Some, None, List, [], ◌∷◌, ◌++◌, refl, sym, ◌∙◌, ap, subst, arith, ltb-true}
use Rattle.std.specs.Prelude.{nat_lt}
use Rattle.php_token.specs.declared.kind.Punct.TheVariants as mark
use Rattle.php_ast.specs.declared.operator.Assign.TheVariants as setting
use Rattle.php_ast.specs.declared.operator.ArrayForm.TheVariants as form
use Rattle.php_ast.specs.Symbol as symbol
use Rattle.php_ast.specs.Symbol.{Symbol, keyword, punct}
use Rattle.php_ast.specs.expression.Tree.{Enclosure, parentheses, emptiness, exiting, Listing, array, is_set, by_value, by_reference, Member, named}
use Rattle.php_ast.specs.expression.Tree.{leaf, template, exit, exit_empty, static_member, append, selected, call, new, instance_of_static, yield_nothing}
use Rattle.php_ast.specs.expression.Tree.{Items, none, plain, keyed, keyed_reference, class_found, Steps, from, step_property}
use Rattle.php_ast.specs.expression.Spelling.{spell, list_opening}
use Rattle.php_ast.specs.expression.Proper.{operand_level, top, power, ends, ends_bare, is_call, Proper, IsWord}
use Rattle.php_grammar.specs.declared.closer.Closer.TheVariants as ender
use Rattle.php_grammar.specs.expression.Role.{Continuation, draws, closes, neither, continuation, draw_strength, strength_of, strength, is_arrow, ends_yield, word_of, member_of, item_mark, is_ampersand, is_paren, is_right_paren, is_right_bracket, is_colon}
use Rattle.php_grammar.specs.expression.Machine.{Nothing, Form, Holder, of_list, enclosed_open, items_open, index_open, then_open, short_open, instance_of_open, assign_open, yield_open, OpenForms, State, expects, holds, holds_call, due_enclosed, due_listed, past_items, past_value, past_exit, past_exit_paren, past_static, past_static_colons, past_template, past_index, past_arrow, past_new, past_class, past_step, past_question, past_assign, past_yield, any, any_symbol, any_member, has_paren, completed_all, missing_end, opening_parts, allowed_if, opened_by, continued, goes_on, start, advance, Reading, halt_short, halt_static, is_last, halt_yield, halt, or_halt, read_from}
use Rattle.php_grammar.proofs.expression.Roles.{listing_word, Says, continuation_says, item_says, member_says, word_says, TestSays, ampersand_says, paren_says, right_paren_says, right_bracket_says, colon_says}
use Rattle.php_grammar.proofs.expression.Sound.{SoundItems, IsSound, IsFitting, IsSoundState, symbols_so_far}
use Rattle.php_grammar.proofs.expression.Fill.{least_power_most, seats_by, completed_all_spells, completed_all_proper, completed_all_bare}
use Rattle.php_grammar.proofs.expression.Settle.{kept_power, releases_none}
use Rattle.php_grammar.proofs.expression.SoundSteps.{LeadsOn, led, same_symbols, allowed_leads, pick_leads, test_is, closed_fits, opened_leads_on, goes_on_leads, closed_goes_on, start_leads_on}
use Rattle.php_grammar.proofs.expression.SoundLists.{items_sound, array_keyed, plain_lead, item_leads, member_leads, word_leads, template_leads, arrow_leads, new_leads, class_leads, static_leads, static_named}

-- ---- every step

due_enclosed_leads : (enclosure : Enclosure) (t : Symbol) (s : OpenForms) → TestSays (is_paren t) t (punct mark.LeftParen) → IsSound s
    → LeadsOn (due_enclosed enclosure s) t (allowed_if (is_paren t) (expects (enclosed_open enclosure ∷ s)))
due_enclosed_leads parentheses t s says h =
    allowed_leads (is_paren t) (due_enclosed parentheses s) (expects (enclosed_open parentheses ∷ s)) t (λ b.
    led (due_enclosed parentheses s) (expects (enclosed_open parentheses ∷ s)) t _ (test_is (is_paren t) t _ says b) (tt, omega (arith, least_power_most s), h) (λ w. refl))
due_enclosed_leads emptiness t s says h =
    allowed_leads (is_paren t) (due_enclosed emptiness s) (expects (enclosed_open emptiness ∷ s)) t (λ b.
    led (due_enclosed emptiness s) (expects (enclosed_open emptiness ∷ s)) t _ (test_is (is_paren t) t _ says b) (tt, omega (arith, least_power_most s), h) (λ w. refl))
due_enclosed_leads exiting t s says h =
    allowed_leads (is_paren t) (due_enclosed exiting s) (expects (enclosed_open exiting ∷ s)) t (λ b.
    led (due_enclosed exiting s) (expects (enclosed_open exiting ∷ s)) t _ (test_is (is_paren t) t _ says b) (tt, omega (arith, least_power_most s), h) (λ w. refl))

listing_front : (listing : Listing) → has_paren (of_list listing) ≡ true → (w : List Symbol) → listing_word listing ∷ punct mark.LeftParen ∷ w ≡ list_opening listing w
listing_front (array form.Brackets) is w = cc
listing_front (array form.Array) is w = refl
listing_front (array form.List) is w = refl
listing_front is_set is w = refl

empty_list : (listing : Listing) → SoundItems (of_list listing) none
empty_list (array form) = record { holder = tt; list = tt; proper = tt }
empty_list is_set = record { holder = tt; list = tt; proper = tt }

due_listed_leads : (listing : Listing) (t : Symbol) (s : OpenForms) → IsSoundState (due_listed listing s)
    → LeadsOn (due_listed listing s) t (allowed_if (is_paren t) (past_items (of_list listing) none s))
due_listed_leads listing t s h =
    allowed_leads (is_paren t) (due_listed listing s) (past_items (of_list listing) none s) t (λ b.
    led (due_listed listing s) (past_items (of_list listing) none s) t _ (test_is (is_paren t) t _ (paren_says t) b) (empty_list listing, h.1)
    (λ w. ap (opening_parts s) (listing_front listing h.0 w)))

value_leads : (h : Holder) (items : Items Nothing) (k : Form) (t : Symbol) (s : OpenForms) → IsSoundState (past_value h items k s)
    → LeadsOn (past_value h items k s) t (advance (past_value h items k s) t)
value_leads h items k t s g =
    pick_leads (is_ampersand t) (past_value h items k s) t (Some (expects (items_open h items (keyed_reference k) ∷ s))) (start (items_open h items (keyed k) ∷ s) t)
    (λ b. led (past_value h items k s) (expects (items_open h items (keyed_reference k) ∷ s)) t _ (test_is (is_ampersand t) t (punct mark.Ampersand) (ampersand_says t) b)
    (items_sound h items (keyed_reference k) s g.0 (array_keyed h k g.1).1 (g.2, g.3) g.4) (λ w. refl))
    (λ b. same_symbols (expects (items_open h items (keyed k) ∷ s)) (past_value h items k s) t (start (items_open h items (keyed k) ∷ s) t) (λ w. refl)
    (start_leads_on t (items_open h items (keyed k) ∷ s) (items_sound h items (keyed k) s g.0 (array_keyed h k g.1).0 (g.2, g.3) g.4)))

exit_leads : (t : Symbol) (s : OpenForms) → IsSound s → LeadsOn (past_exit s) t (advance (past_exit s) t)
exit_leads t s h =
    pick_leads (is_paren t) (past_exit s) t (Some (past_exit_paren s)) (goes_on (exit tt) s (continuation t))
    (λ b. led (past_exit s) (past_exit_paren s) t _ (test_is (is_paren t) t (punct mark.LeftParen) (paren_says t) b) h (λ w. refl))
    (λ b. same_symbols (holds (exit tt) s) (past_exit s) t (goes_on (exit tt) s (continuation t)) (λ w. refl)
    (closed_goes_on t (exit tt) s (closed_fits s (exit tt) tt refl refl h) (record { no_arrow = refl; not_bare = refl })))

exit_paren_leads : (t : Symbol) (s : OpenForms) → IsSound s → LeadsOn (past_exit_paren s) t (advance (past_exit_paren s) t)
exit_paren_leads t s h =
    pick_leads (is_right_paren t) (past_exit_paren s) t (Some (holds (exit_empty tt) s)) (start (enclosed_open exiting ∷ s) t)
    (λ b. led (past_exit_paren s) (holds (exit_empty tt) s) t _ (test_is (is_right_paren t) t (punct mark.RightParen) (right_paren_says t) b)
    (closed_fits s (exit_empty tt) tt refl refl h, record { no_arrow = refl; not_bare = refl }) (λ w. refl))
    (λ b. same_symbols (expects (enclosed_open exiting ∷ s)) (past_exit_paren s) t (start (enclosed_open exiting ∷ s) t) (λ w. refl)
    (start_leads_on t (enclosed_open exiting ∷ s) (tt, omega (arith, least_power_most s), h)))

index_leads : (e : Form) (t : Symbol) (s : OpenForms) → IsSoundState (past_index e s) → LeadsOn (past_index e s) t (advance (past_index e s) t)
index_leads e t s h =
    pick_leads (is_right_bracket t) (past_index e s) t (Some (holds (append e) s)) (start (index_open e ∷ s) t)
    (λ b. led (past_index e s) (holds (append e) s) t _ (test_is (is_right_bracket t) t (punct mark.RightBracket) (right_bracket_says t) b)
    (closed_fits s (append e) (h.0, h.1) refl refl h.2, record { no_arrow = refl; not_bare = refl }) (λ w. refl))
    (λ b. same_symbols (expects (index_open e ∷ s)) (past_index e s) t (start (index_open e ∷ s) t) (λ w. refl)
    (start_leads_on t (index_open e ∷ s) ((h.0, h.1), omega (arith, least_power_most s), h.2)))

question_leads : (c : Form) (t : Symbol) (s : OpenForms) → IsSoundState (past_question c s) → LeadsOn (past_question c s) t (advance (past_question c s) t)
question_leads c t s h =
    pick_leads (is_colon t) (past_question c s) t (Some (expects (short_open c ∷ s))) (start (then_open c ∷ s) t)
    (λ b. led (past_question c s) (expects (short_open c ∷ s)) t _ (test_is (is_colon t) t (punct mark.Colon) (colon_says t) b) ((h.0, h.1), h.2, h.3) (λ w. refl))
    (λ b. same_symbols (expects (then_open c ∷ s)) (past_question c s) t (start (then_open c ∷ s) t) (λ w. refl) (start_leads_on t (then_open c ∷ s) ((h.0, h.1), h.2, h.3)))

assign_leads : (l : Form) (t : Symbol) (s : OpenForms) → IsSoundState (past_assign l s) → LeadsOn (past_assign l s) t (advance (past_assign l s) t)
assign_leads l t s h =
    pick_leads (is_ampersand t) (past_assign l s) t (Some (expects (assign_open by_reference l ∷ s))) (start (assign_open (by_value setting.Plain) l ∷ s) t)
    (λ b. led (past_assign l s) (expects (assign_open by_reference l ∷ s)) t _ (test_is (is_ampersand t) t (punct mark.Ampersand) (ampersand_says t) b) ((h.0, h.1), h.2, h.3) (λ w. refl))
    (λ b. same_symbols (expects (assign_open (by_value setting.Plain) l ∷ s)) (past_assign l s) t (start (assign_open (by_value setting.Plain) l ∷ s) t) (λ w. refl)
    (start_leads_on t (assign_open (by_value setting.Plain) l ∷ s) ((h.0, h.1), h.2, h.3)))

bare_fits : (s : OpenForms) → IsSoundState (past_yield s) → IsFitting (yield_nothing tt) s
bare_fits s h = record { proper = tt; near = h.0; sound = h.1; seats = seats_by s (yield_nothing tt) refl }

yield_arrow : (x : Continuation) → ends_yield x ≡ true → is_arrow x ≡ true → ⊥
yield_arrow (draws d) e a = cc
yield_arrow (closes ender.DoubleArrow) e a = cc
yield_arrow (closes c) e a = cc
yield_arrow neither e a = cc

yield_leads : (t : Symbol) (s : OpenForms) → IsSoundState (past_yield s) → LeadsOn (past_yield s) t (advance (past_yield s) t)
yield_leads t s h =
    pick_leads (ends_yield (continuation t)) (past_yield s) t (goes_on (yield_nothing tt) s (continuation t)) (start (yield_open ∷ s) t)
    (λ b. same_symbols (holds (yield_nothing tt) s) (past_yield s) t (goes_on (yield_nothing tt) s (continuation t)) (λ w. refl)
    (goes_on_leads (continuation t) t (yield_nothing tt) s (continuation_says t) (bare_fits s h) (λ i. refl) (λ i. cc)))
    (λ b. same_symbols (expects (yield_open ∷ s)) (past_yield s) t (start (yield_open ∷ s) t) (λ w. refl) (start_leads_on t (yield_open ∷ s) (tt, h.0, h.1)))

-- A call behind `instanceof` goes on with a suffix alone, which draws tighter than that form.
call_goes_on : (x : Continuation) (t : Symbol) (e : Form) (s : OpenForms) → Says x t → IsSoundState (holds_call e s) → operand_level < strength_of x → LeadsOn (holds e s) t (goes_on e s x)
call_goes_on (draws d) t e s is h tight =
    subst (λ due. LeadsOn (holds e s) t (continued (draws d) due)) (sym (releases_none false (draw_strength d) s e (omega (arith, least_power_most s, kept_power s))))
    (allowed_leads (nat_lt (draw_strength d) (ends e)) (holds e s) (opened_by d e s) t (λ low.
    opened_leads_on d t e s is (ltb-true (draw_strength d) (ends e) low) (omega (arith, least_power_most s)) h.1 h.2))
call_goes_on (closes c) t e s is h tight = absurd (omega arith)
call_goes_on neither t e s is h tight = absurd (omega arith)

call_leads : (e : Form) (t : Symbol) (s : OpenForms) → IsSoundState (holds_call e s) → LeadsOn (holds_call e s) t (advance (holds_call e s) t)
call_leads e t s h =
    pick_leads (nat_lt operand_level (strength t)) (holds_call e s) t (goes_on e s (continuation t)) None
    (λ b. same_symbols (holds e s) (holds_call e s) t (goes_on e s (continuation t)) (λ w. refl) (call_goes_on (continuation t) t e s (continuation_says t) h (ltb-true operand_level (strength t) b)))
    (λ b. tt)

step_property_good : (steps : Steps Nothing) (s : OpenForms) → IsSoundState (past_step steps s) → (x : Member Nothing) → IsWord x → IsSoundState (past_class (class_found (step_property steps x)) s)
step_property_good steps s h x is = ((h.0, is), h.1)

pub every_step_leads : (m : State) (t : Symbol) → IsSoundState m → LeadsOn m t (advance m t)
every_step_leads (expects s) t h = start_leads_on t s h
every_step_leads (holds e s) t h = closed_goes_on t e s h.0 h.1
every_step_leads (holds_call e s) t h = call_leads e t s h
every_step_leads (due_enclosed enclosure s) t h = due_enclosed_leads enclosure t s (paren_says t) h
every_step_leads (due_listed listing s) t h = due_listed_leads listing t s h
every_step_leads (past_items g items s) t h = item_leads (item_mark t) t g items s (item_says t) h.0 h.1
every_step_leads (past_value g items k s) t h = value_leads g items k t s h
every_step_leads (past_exit s) t h = exit_leads t s h
every_step_leads (past_exit_paren s) t h = exit_paren_leads t s h
every_step_leads (past_static s) t h = static_leads (continuation t) t s (continuation_says t) h
every_step_leads (past_static_colons s) t h = member_leads (member_of t) (λ m. holds (static_member tt m) s) (past_static_colons s) t (member_says t) (static_named s h) (λ x w. refl)
every_step_leads (past_template pieces s) t h = template_leads t pieces s h
every_step_leads (past_index e s) t h = index_leads e t s h
every_step_leads (past_arrow arrow e s) t h = arrow_leads arrow t e s h
every_step_leads (past_new s) t h = new_leads t s h
every_step_leads (past_class class s) t h = class_leads (continuation t) t class s (continuation_says t) h.0 h.1
every_step_leads (past_step steps s) t h =
    word_leads (word_of t) (λ m. past_class (class_found (step_property steps m)) s) (past_step steps s) t (word_says t) (step_property_good steps s h) (λ x w. refl)
every_step_leads (past_question c s) t h = question_leads c t s h
every_step_leads (past_assign l s) t h = assign_leads l t s h
every_step_leads (past_yield s) t h = yield_leads t s h

-- ---- a whole reading

-- The tree is proper. The symbols read, with the missing ones, spell it; with the unread ones they are
-- the whole list.
pub record BeginsFrom (m : State) (w : List Symbol) (reading : Reading) : Type 0 where
  pub proper : Proper reading.tree
  pub read : List Symbol
  pub whole : w ≡ read ++ reading.unread
  pub spelled : spell reading.tree [] ≡ symbols_so_far m (read ++ reading.missing)

-- a stop, from its tree and what that lacks
stop_begins_with : (m : State) (w : List Symbol) (e : Form) (s : OpenForms) (v : List Symbol) → IsFitting e s → ends_bare e ≡ false
    → opening_parts s (spell e (missing_end s)) ≡ symbols_so_far m v → BeginsFrom m w (record { tree = completed_all s e; missing = v; unread = w })
stop_begins_with m w e s v h b same = record { proper = completed_all_proper s e h b; read = []; whole = refl; spelled = completed_all_spells s e ∙ same }

any_fits : (s : OpenForms) → IsSound s → IsFitting any s
any_fits s h = closed_fits s any tt refl refl h

short_begins : (m : State) (w : List Symbol) (s : OpenForms) → IsSound s → ((v : List Symbol) → opening_parts s v ≡ symbols_so_far m v) → BeginsFrom m w (halt_short s w)
short_begins m w s h same = stop_begins_with m w any s (any_symbol ∷ missing_end s) (any_fits s h) refl (same (any_symbol ∷ missing_end s))

operand_begins : (m : State) (w : List Symbol) (e : Form) (s : OpenForms) (v : List Symbol) → Proper e → power e ≡ top → is_call e ≡ false → ends_bare e ≡ false → IsSound s
    → opening_parts s (spell e (missing_end s)) ≡ symbols_so_far m v → BeginsFrom m w (record { tree = completed_all s e; missing = v; unread = w })
operand_begins m w e s v p is c b h same = stop_begins_with m w e s v (closed_fits s e p is c h) b same

call_open : (e : Form) → is_call e ≡ true → 80 < ends e
call_open (call f items) is = omega arith
call_open (leaf spot l) is = cc
call_open _ is = cc

static_begins : (s : OpenForms) (w : List Symbol) → IsSound s → BeginsFrom (past_static s) w (halt_static s w)
static_begins [] w h = operand_begins (past_static []) w (static_member tt any_member) [] (punct mark.DoubleColon ∷ any_symbol ∷ []) tt refl refl refl h refl
static_begins (instance_of_open l ∷ s) w h =
    stop_begins_with (past_static (instance_of_open l ∷ s)) w (instance_of_static l tt) s (missing_end s)
    (record { proper = h.0; near = h.1; sound = h.2; seats = seats_by s (instance_of_static l tt) refl }) refl refl
static_begins (f ∷ s) w h =
    operand_begins (past_static (f ∷ s)) w (static_member tt any_member) (f ∷ s) (punct mark.DoubleColon ∷ any_symbol ∷ missing_end (f ∷ s)) tt refl refl refl h refl

last_none : (w v : List Symbol) → is_last w v ≡ true → v ≡ []
last_none [] v is = cc
last_none (t ∷ w) [] is = refl
last_none (t ∷ w) (x ∷ v) is = cc

yield_begins : (b : Bool) (s : OpenForms) (w : List Symbol) → (b ≡ true → missing_end s ≡ []) → IsSoundState (past_yield s) → BeginsFrom (past_yield s) w (halt_yield b s w)
yield_begins false s w whole h = short_begins (past_yield s) w (yield_open ∷ s) (tt, h.0, h.1) (λ v. refl)
yield_begins true s w whole h = record {
  proper = completed_all_bare s (yield_nothing tt) (bare_fits s h) (whole refl);
  read = [];
  whole = refl;
  spelled = completed_all_spells s (yield_nothing tt);
}

due_begins : (enclosure : Enclosure) (s : OpenForms) (w : List Symbol) → IsSound s → BeginsFrom (due_enclosed enclosure s) w (halt (due_enclosed enclosure s) w)
due_begins parentheses s w h = stop_begins_with (due_enclosed parentheses s) w any (enclosed_open parentheses ∷ s) _ (any_fits (enclosed_open parentheses ∷ s) (tt, omega (arith, least_power_most s), h)) refl refl
due_begins emptiness s w h = stop_begins_with (due_enclosed emptiness s) w any (enclosed_open emptiness ∷ s) _ (any_fits (enclosed_open emptiness ∷ s) (tt, omega (arith, least_power_most s), h)) refl refl
due_begins exiting s w h = stop_begins_with (due_enclosed exiting s) w any (enclosed_open exiting ∷ s) _ (any_fits (enclosed_open exiting ∷ s) (tt, omega (arith, least_power_most s), h)) refl refl

halt_begins : (m : State) (w : List Symbol) → IsSoundState m → BeginsFrom m w (halt m w)
halt_begins (expects s) w h = short_begins (expects s) w s h (λ v. refl)
halt_begins (holds e s) w h = stop_begins_with (holds e s) w e s (missing_end s) h.0 h.1.not_bare refl
halt_begins (holds_call e s) w h =
    operand_begins (holds_call e s) w (append e) s (punct mark.LeftBracket ∷ punct mark.RightBracket ∷ missing_end s) (call_open e h.0, h.1) refl refl refl h.2 refl
halt_begins (due_enclosed enclosure s) w h = due_begins enclosure s w h
halt_begins (due_listed listing s) w h =
    let sound : IsSound (items_open (of_list listing) none plain ∷ s) = items_sound (of_list listing) none plain s (empty_list listing) (plain_lead (of_list listing)) tt h.1 in
    stop_begins_with (due_listed listing s) w any (items_open (of_list listing) none plain ∷ s) (punct mark.LeftParen ∷ any_symbol ∷ missing_end (items_open (of_list listing) none plain ∷ s))
    (any_fits (items_open (of_list listing) none plain ∷ s) sound) refl (ap (opening_parts s) (sym (listing_front listing h.0 _)))
halt_begins (past_items g items s) w h = short_begins (past_items g items s) w (items_open g items plain ∷ s) (items_sound g items plain s h.0 (plain_lead g) tt h.1) (λ v. refl)
halt_begins (past_value g items k s) w h =
    short_begins (past_value g items k s) w (items_open g items (keyed k) ∷ s) (items_sound g items (keyed k) s h.0 (array_keyed g k h.1).0 (h.2, h.3) h.4) (λ v. refl)
halt_begins (past_exit s) w h = operand_begins (past_exit s) w (exit tt) s (missing_end s) tt refl refl refl h refl
halt_begins (past_exit_paren s) w h = short_begins (past_exit_paren s) w (enclosed_open exiting ∷ s) (tt, omega (arith, least_power_most s), h) (λ v. refl)
halt_begins (past_static s) w h = static_begins s w h
halt_begins (past_static_colons s) w h = operand_begins (past_static_colons s) w (static_member tt any_member) s (any_symbol ∷ missing_end s) tt refl refl refl h refl
halt_begins (past_template pieces s) w h = operand_begins (past_template pieces s) w (template tt pieces) s (symbol.unquote ∷ missing_end s) h.0 refl refl refl h.1 refl
halt_begins (past_index e s) w h = short_begins (past_index e s) w (index_open e ∷ s) ((h.0, h.1), omega (arith, least_power_most s), h.2) (λ v. refl)
halt_begins (past_arrow arrow e s) w h = operand_begins (past_arrow arrow e s) w (selected e arrow any_member) s (any_symbol ∷ missing_end s) (h.0, h.1, tt) refl refl refl h.2 refl
halt_begins (past_new s) w h = operand_begins (past_new s) w (new tt (class_found (from tt []))) s (any_symbol ∷ missing_end s) tt refl refl refl h refl
halt_begins (past_class class s) w h = operand_begins (past_class class s) w (new tt class) s (missing_end s) h.0 refl refl refl h.1 refl
halt_begins (past_step steps s) w h =
    operand_begins (past_step steps s) w (new tt (class_found (step_property steps (named tt [])))) s (symbol.name [] ∷ missing_end s) (h.0, tt) refl refl refl h.1 refl
halt_begins (past_question c s) w h = short_begins (past_question c s) w (then_open c ∷ s) ((h.0, h.1), h.2, h.3) (λ v. refl)
halt_begins (past_assign l s) w h = short_begins (past_assign l s) w (assign_open (by_value setting.Plain) l ∷ s) ((h.0, h.1), h.2, h.3) (λ v. refl)
halt_begins (past_yield s) w h = yield_begins (is_last w (missing_end s)) s w (last_none w (missing_end s)) h

or_halt_begins : (m : State) (t : Symbol) (w : List Symbol) (o : Option State) → IsSoundState m → LeadsOn m t o → ((n : State) → IsSoundState n → BeginsFrom n w (read_from n w))
    → BeginsFrom m (t ∷ w) (or_halt o (λ n. read_from n w) (halt m (t ∷ w)))
or_halt_begins m t w None good h below = halt_begins m (t ∷ w) good
or_halt_begins m t w (Some n) good h below =
    let b : BeginsFrom n w (read_from n w) = below n h.0 in
    record { proper = b.proper; read = t ∷ b.read; whole = ap (λ v. t ∷ v) b.whole; spelled = b.spelled ∙ sym (h.1 (b.read ++ (read_from n w).missing)) }

pub reading_begins_from : (w : List Symbol) (m : State) → IsSoundState m → BeginsFrom m w (read_from m w)
reading_begins_from [] m h = halt_begins m [] h
reading_begins_from (t ∷ w) m h = or_halt_begins m t w (advance m t) h (every_step_leads m t h) (λ n g. reading_begins_from w n g)
