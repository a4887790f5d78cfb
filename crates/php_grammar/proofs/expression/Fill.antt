-- Completing open forms: a proper tree in sound forms gives a proper tree, whose spelling is theirs.
use Rattle.std.proofs.Common.{◌≡◌, ◌≤◌, ◌<◌, ◌⊎◌, inl, inr, suc, Bool, true, false, List, [], ◌∷◌, refl, sym, ◌∙◌, ap, subst, arith}
use Rattle.php_ast.specs.declared.operator.Binary.{Binary}
use Rattle.php_ast.specs.declared.operator.Binary.TheVariants as binary_op
use Rattle.php_ast.specs.declared.operator.Prefix.{Prefix}
use Rattle.php_ast.specs.declared.operator.Prefix.TheVariants as prefix_op
use Rattle.php_ast.specs.Symbol.{Symbol}
use Rattle.php_ast.specs.expression.Tree.{array, is_set, Items, and, Lead, plain, reference, spread, keyed, keyed_reference}
use Rattle.php_ast.specs.expression.Spelling.{spell, spell_items}
use Rattle.php_ast.specs.Power.{binary_row, prefix_power}
use Rattle.php_ast.specs.expression.Proper.{free, top, right, edge, power, ends, ends_bare, is_call, Proper, AreProperItems}
use Rattle.php_grammar.specs.expression.Machine.{Nothing, Form, Holder, of_call, of_new, of_list, OpenForm, enclosed_open, items_open, index_open, computed_open, step_open, part_open, then_open, else_open, short_open, prefix_open, binary_open, instance_of_open, assign_open, yield_open, yield_value_open, OpenForms, least_power_at, least_power, closed_with, holder_closing, completed, closing_part, is_call_at, seated, seat_end, completed_all, missing_end, holder_front, opening_part, opening_parts}
use Rattle.php_grammar.proofs.expression.Sound.{SoundHolder, SoundList, SoundEnd, SoundLead, IsSoundAt, power_in, IsSound, Seats, IsFitting, Closed}

-- ---- bounds of the table

pub prefix_bound : (op : Prefix) → prefix_power op ≤ 42
prefix_bound prefix_op.Clone = omega arith
prefix_bound _ = omega arith

pub binary_bound : (op : Binary) → ((binary_row op).power ≤ 40) × (right (binary_row op) ≤ 40)
binary_bound binary_op.Power = (omega arith, omega arith)
binary_bound _ = (omega arith, omega arith)

pub least_power_bound : (s : OpenForms) → (least_power s ≤ 43) ⊎ (least_power s ≡ 90)
least_power_bound [] = inl (omega arith)
least_power_bound (enclosed_open enclosure ∷ s) = inl (omega arith)
least_power_bound (items_open h items lead ∷ s) = inl (omega arith)
least_power_bound (index_open a ∷ s) = inl (omega arith)
least_power_bound (computed_open a ∷ s) = inl (omega arith)
least_power_bound (step_open steps ∷ s) = inl (omega arith)
least_power_bound (part_open pieces ∷ s) = inl (omega arith)
least_power_bound (then_open c ∷ s) = inl (omega arith)
least_power_bound (else_open c a ∷ s) = inl (omega arith)
least_power_bound (short_open c ∷ s) = inl (omega arith)
least_power_bound (prefix_open op ∷ s) = inl (omega (arith, prefix_bound op))
least_power_bound (binary_open op l ∷ s) = inl (omega (arith, (binary_bound op).1))
least_power_bound (instance_of_open l ∷ s) = inr refl
least_power_bound (assign_open how l ∷ s) = inl (omega arith)
least_power_bound (yield_open ∷ s) = inl (omega arith)
least_power_bound (yield_value_open k ∷ s) = inl (omega arith)

pub least_power_most : (s : OpenForms) → least_power s ≤ 90
least_power_most s = elim (least_power_bound s) [ inl h ↦ omega arith | inr h ↦ omega arith ]

pub least_power_free : (s : OpenForms) → least_power s < 90 → least_power s ≤ free
least_power_free s h = elim (least_power_bound s) [ inl g ↦ omega arith | inr g ↦ absurd (omega arith) ]

-- ---- lists

pub list_more : (h : Holder) (items : Items Nothing) (lead : Lead Nothing) (e : Form) → SoundList h items → SoundLead h lead → SoundList h (and items lead e)
list_more (of_call f) items plain e s l = s
list_more (of_call f) items spread e s l = s
list_more (of_call f) items reference e s l = absurd l
list_more (of_call f) items (keyed k) e s l = absurd l
list_more (of_call f) items (keyed_reference k) e s l = absurd l
list_more (of_new class) items plain e s l = s
list_more (of_new class) items spread e s l = s
list_more (of_new class) items reference e s l = absurd l
list_more (of_new class) items (keyed k) e s l = absurd l
list_more (of_new class) items (keyed_reference k) e s l = absurd l
list_more (of_list (array form)) items plain e s l = s
list_more (of_list (array form)) items spread e s l = absurd l
list_more (of_list (array form)) items reference e s l = s
list_more (of_list (array form)) items (keyed k) e s l = s
list_more (of_list (array form)) items (keyed_reference k) e s l = s
list_more (of_list is_set) items plain e s l = s
list_more (of_list is_set) items spread e s l = absurd l
list_more (of_list is_set) items reference e s l = absurd l
list_more (of_list is_set) items (keyed k) e s l = absurd l
list_more (of_list is_set) items (keyed_reference k) e s l = absurd l

pub list_end : (h : Holder) (items : Items Nothing) (lead : Lead Nothing) (e : Form) → SoundList h (and items lead e) → SoundEnd h (and items lead e)
list_end (of_call f) items lead e s = s
list_end (of_new class) items lead e s = s
list_end (of_list (array form)) items lead e s = (s, refl)
list_end (of_list is_set) items lead e s = (s, refl)

pub closed_proper : (h : Holder) (items : Items Nothing) → SoundHolder h → SoundEnd h items → AreProperItems items → Proper (closed_with h items)
closed_proper (of_call f) items a b p = (a.0, a.1, b, p)
closed_proper (of_new class) items a b p = (a, b, p)
closed_proper (of_list listing) items a b p = (b, p)

pub closed_power : (h : Holder) (items : Items Nothing) → power (closed_with h items) ≡ top
closed_power (of_call f) items = refl
closed_power (of_new class) items = refl
closed_power (of_list listing) items = refl

pub closed_closed : (h : Holder) (items : Items Nothing) → Closed (closed_with h items)
closed_closed (of_call f) items = record { no_arrow = refl; not_bare = refl }
closed_closed (of_new class) items = record { no_arrow = refl; not_bare = refl }
closed_closed (of_list listing) items = record { no_arrow = refl; not_bare = refl }

pub closed_spells : (h : Holder) (items : Items Nothing) (w : List Symbol)
    → spell (closed_with h items) w ≡ holder_front h (spell_items items (holder_closing h ∷ w))
closed_spells (of_call f) items w = refl
closed_spells (of_new class) items w = refl
closed_spells (of_list listing) items w = refl

-- ---- one form

pub completed_spells : (f : OpenForm) (e : Form) (w : List Symbol) → spell (completed f e) w ≡ opening_part f (spell e (closing_part f w))
completed_spells (enclosed_open enclosure) e w = refl
completed_spells (items_open h items lead) e w = closed_spells h (and items lead e) w
completed_spells (index_open a) e w = refl
completed_spells (computed_open a) e w = refl
completed_spells (step_open steps) e w = refl
completed_spells (part_open pieces) e w = refl
completed_spells (then_open c) e w = refl
completed_spells (else_open c a) e w = refl
completed_spells (short_open c) e w = refl
completed_spells (prefix_open op) e w = refl
completed_spells (binary_open op l) e w = refl
completed_spells (instance_of_open l) e w = refl
completed_spells (assign_open how l) e w = refl
completed_spells yield_open e w = refl
completed_spells (yield_value_open k) e w = refl

pub completed_power : (f : OpenForm) (e : Form) → power (completed f e) ≡ power_in f
completed_power (enclosed_open enclosure) e = refl
completed_power (items_open h items lead) e = closed_power h (and items lead e)
completed_power (index_open a) e = refl
completed_power (computed_open a) e = refl
completed_power (step_open steps) e = refl
completed_power (part_open pieces) e = refl
completed_power (then_open c) e = refl
completed_power (else_open c a) e = refl
completed_power (short_open c) e = refl
completed_power (prefix_open op) e = refl
completed_power (binary_open op l) e = refl
completed_power (instance_of_open l) e = refl
completed_power (assign_open how l) e = refl
completed_power yield_open e = refl
completed_power (yield_value_open k) e = refl

-- A `yield` alone can be the end of a form without an end of its own.
abbrev pub MayEndBare : OpenForm → Form → Type 0
MayEndBare f e = (0 < least_power_at f) ⊎ (ends_bare e ≡ false)

pub not_bare_in : (f : OpenForm) (e : Form) → least_power_at f ≡ 0 → MayEndBare f e → ends_bare e ≡ false
not_bare_in f e shut (inl h) = absurd (omega arith)
not_bare_in f e shut (inr h) = h

pub completed_proper : (f : OpenForm) (s : OpenForms) (e : Form) → IsSoundAt f → least_power_at f ≤ power e → Proper e → Seats e (f ∷ s) → MayEndBare f e → Proper (completed f e)
completed_proper (enclosed_open enclosure) s e a near p seats b = p
completed_proper (items_open h items lead) s e a near p seats b =
    closed_proper h (and items lead e) a.0.holder (list_end h items lead e (list_more h items lead e a.0.list a.1)) (a.0.proper, a.2, p)
completed_proper (index_open x) s e a near p seats b = (a.0, a.1, p)
completed_proper (computed_open x) s e a near p seats b = (a.0, a.1, not_bare_in (computed_open x) e refl b, p)
completed_proper (step_open steps) s e a near p seats b = (a, p)
completed_proper (part_open pieces) s e a near p seats b = (a, not_bare_in (part_open pieces) e refl b, p)
completed_proper (then_open c) s e a near p seats b = (a.0, not_bare_in (then_open c) e refl b, omega arith, a.1, p, tt)
completed_proper (else_open c x) s e a near p seats b = (a.0, a.1, near, a.2, a.3, p)
completed_proper (short_open c) s e a near p seats b = (a.0, near, a.1, p)
completed_proper (prefix_open op) s e a near p seats b = (omega arith, p)
completed_proper (binary_open op l) s e a near p seats b = (a.0, near, a.1, p)
completed_proper (instance_of_open l) s e a near p seats b = (a.0, omega arith, seats, a.1, p)
completed_proper (assign_open how l) s e a near p seats b = (a.0, near, a.1, p)
completed_proper yield_open s e a near p seats b = (omega arith, p)
completed_proper (yield_value_open k) s e a near p seats b = (a.0, a.1, omega arith, a.2, p)

-- ---- in the forms around it

pub call_seat : (f : OpenForm) (e : Form) → is_call_at f ≡ false → is_call (completed f e) ≡ false
call_seat (items_open (of_call g) items lead) e h = h
call_seat (items_open (of_new class) items lead) e h = refl
call_seat (items_open (of_list listing) items lead) e h = refl
call_seat (enclosed_open enclosure) e h = refl
call_seat (index_open a) e h = refl
call_seat (computed_open a) e h = refl
call_seat (step_open steps) e h = refl
call_seat (part_open pieces) e h = refl
call_seat (then_open c) e h = refl
call_seat (else_open c a) e h = refl
call_seat (short_open c) e h = refl
call_seat (prefix_open op) e h = refl
call_seat (binary_open op l) e h = refl
call_seat (instance_of_open l) e h = refl
call_seat (assign_open how l) e h = refl
call_seat yield_open e h = refl
call_seat (yield_value_open k) e h = refl

pub call_ends : (f : OpenForm) (e : Form) → is_call_at f ≡ true → ends (completed f e) ≡ top
call_ends (items_open (of_call g) items lead) e h = refl
call_ends (items_open (of_new class) items lead) e h = cc
call_ends (items_open (of_list listing) items lead) e h = cc
call_ends (enclosed_open enclosure) e h = cc
call_ends (index_open a) e h = cc
call_ends (computed_open a) e h = cc
call_ends (step_open steps) e h = cc
call_ends (part_open pieces) e h = cc
call_ends (then_open c) e h = cc
call_ends (else_open c a) e h = cc
call_ends (short_open c) e h = cc
call_ends (prefix_open op) e h = cc
call_ends (binary_open op l) e h = cc
call_ends (instance_of_open l) e h = cc
call_ends (assign_open how l) e h = cc
call_ends yield_open e h = cc
call_ends (yield_value_open k) e h = cc

-- a form without an end of its own
pub without_end : (f : OpenForm) (w : List Symbol) → 0 < least_power_at f → closing_part f w ≡ w
without_end (enclosed_open enclosure) w h = absurd (omega arith)
without_end (items_open g items lead) w h = absurd (omega arith)
without_end (index_open a) w h = absurd (omega arith)
without_end (computed_open a) w h = absurd (omega arith)
without_end (step_open steps) w h = absurd (omega arith)
without_end (part_open pieces) w h = absurd (omega arith)
without_end (then_open c) w h = absurd (omega arith)
without_end _ w h = refl

pub without_end_call : (f : OpenForm) → 0 < least_power_at f → is_call_at f ≡ false
without_end_call (items_open g items lead) h = absurd (omega arith)
without_end_call _ h = refl

pub completed_bare : (f : OpenForm) (e : Form) → ends_bare e ≡ false → ends_bare (completed f e) ≡ false
completed_bare (enclosed_open enclosure) e b = refl
completed_bare (items_open g items lead) e b = (closed_closed g (and items lead e)).not_bare
completed_bare (index_open a) e b = refl
completed_bare (computed_open a) e b = refl
completed_bare (step_open steps) e b = refl
completed_bare (part_open pieces) e b = refl
completed_bare (then_open c) e b = refl
completed_bare (instance_of_open l) e b = refl
completed_bare _ e b = b

seat_true : (s : OpenForms) (x : Form) → ends x ≡ top → Proper x → least_power s ≤ power x → IsSound s → IsFitting (seated true s x) s
seat_true [] x e p near sound = record { proper = p; near = near; sound = sound; seats = tt }
seat_true (instance_of_open l ∷ s) x e p near sound = record { proper = (omega (arith, e), p); near = omega arith; sound = sound; seats = refl }
seat_true (f ∷ s) x e p near sound = record { proper = p; near = near; sound = sound; seats = tt }

pub seats_by : (s : OpenForms) (x : Form) → is_call x ≡ false → Seats x s
seats_by [] x e = tt
seats_by (instance_of_open l ∷ s) x e = e
seats_by (f ∷ s) x e = tt

seat_if : (b : Bool) (f : OpenForm) (s : OpenForms) (e : Form) → is_call_at f ≡ b → Proper (completed f e) → least_power s ≤ power (completed f e) → IsSound s → IsFitting (seated b s (completed f e)) s
seat_if true f s e is p near sound = seat_true s (completed f e) (call_ends f e is) p near sound
seat_if false f s e is p near sound = record { proper = p; near = near; sound = sound; seats = seats_by s (completed f e) (call_seat f e is) }

pub seated_fits : (f : OpenForm) (s : OpenForms) (e : Form) → IsFitting e (f ∷ s) → MayEndBare f e → IsFitting (seated (is_call_at f) s (completed f e)) s
seated_fits f s e h b =
    seat_if (is_call_at f) f s e refl (completed_proper f s e h.sound.0 h.near h.proper h.seats b)
    (subst (λ n. least_power s ≤ n) (sym (completed_power f e)) h.sound.1) h.sound.2

seated_spells : (b : Bool) (s : OpenForms) (x : Form) (w : List Symbol) → spell (seated b s x) w ≡ spell x (seat_end b s w)
seated_spells false s x w = refl
seated_spells true [] x w = refl
seated_spells true (instance_of_open l ∷ s) x w = refl
seated_spells true (f ∷ s) x w = refl

seated_bare : (b : Bool) (s : OpenForms) (x : Form) → ends_bare x ≡ false → ends_bare (seated b s x) ≡ false
seated_bare false s x h = h
seated_bare true [] x h = h
seated_bare true (instance_of_open l ∷ s) x h = refl
seated_bare true (f ∷ s) x h = h

pub completed_all_spells : (s : OpenForms) (e : Form) → spell (completed_all s e) [] ≡ opening_parts s (spell e (missing_end s))
completed_all_spells [] e = refl
completed_all_spells (f ∷ s) e =
    completed_all_spells s (seated (is_call_at f) s (completed f e))
    ∙ ap (opening_parts s) (seated_spells (is_call_at f) s (completed f e) (missing_end s) ∙ completed_spells f e (seat_end (is_call_at f) s (missing_end s)))

pub completed_all_proper : (s : OpenForms) (e : Form) → IsFitting e s → ends_bare e ≡ false → Proper (completed_all s e)
completed_all_proper [] e h b = h.proper
completed_all_proper (f ∷ s) e h b =
    completed_all_proper s (seated (is_call_at f) s (completed f e)) (seated_fits f s e h (inr b)) (seated_bare (is_call_at f) s (completed f e) (completed_bare f e b))

-- where nothing is lacking, no form has an end of its own
lacks_none : (f : OpenForm) (w : List Symbol) → closing_part f w ≡ [] → (0 < least_power_at f) × (w ≡ [])
lacks_none (enclosed_open enclosure) w h = cc
lacks_none (items_open g items lead) w h = cc
lacks_none (index_open a) w h = cc
lacks_none (computed_open a) w h = cc
lacks_none (step_open steps) w h = cc
lacks_none (part_open pieces) w h = cc
lacks_none (then_open c) w h = cc
lacks_none (else_open c a) w h = (omega arith, h)
lacks_none (short_open c) w h = (omega arith, h)
lacks_none (prefix_open op) w h = (omega arith, h)
lacks_none (binary_open op l) w h = (omega (arith, right_some op), h)
  where
    right_some : (op : Binary) → 0 < right (binary_row op)
    right_some binary_op.Power = omega arith
    right_some _ = omega arith
lacks_none (instance_of_open l) w h = (omega arith, h)
lacks_none (assign_open how l) w h = (omega arith, h)
lacks_none yield_open w h = (omega arith, h)
lacks_none (yield_value_open k) w h = (omega arith, h)

pub completed_all_bare : (s : OpenForms) (e : Form) → IsFitting e s → missing_end s ≡ [] → Proper (completed_all s e)
completed_all_bare [] e h b = h.proper
completed_all_bare (f ∷ s) e h b =
    let q = lacks_none f (seat_end (is_call_at f) s (missing_end s)) b in
    let applies : is_call_at f ≡ false = without_end_call f q.0 in
    completed_all_bare s (seated (is_call_at f) s (completed f e)) (seated_fits f s e h (inl q.0))
    (ap (λ c. seat_end c s (missing_end s)) (sym applies) ∙ q.1)

pub edge_bounds : (op : Binary)
    → (edge (binary_row op) ≤ 40) × (edge (binary_row op) ≤ suc (binary_row op).power) × (0 < edge (binary_row op)) × (edge (binary_row op) ≤ right (binary_row op))
    × ((binary_row op).power ≤ edge (binary_row op))
edge_bounds binary_op.Power = (omega arith, omega arith, omega arith, omega arith, omega arith)
edge_bounds _ = (omega arith, omega arith, omega arith, omega arith, omega arith)
