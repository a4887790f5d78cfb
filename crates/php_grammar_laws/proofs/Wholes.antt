-- An expression inside another machine: where it halts, and where a symbol ends it.
use Rattle.std.proofs.Common.{◌≡◌, ◌<◌, Bool, true, false, Option, Some, None, List, [], ◌∷◌, ◌++◌, refl, sym, ◌∙◌, ap, arith}
use Rattle.php_ast.specs.declared.operator.Binary.{Binary}
use Rattle.php_ast.specs.declared.operator.Binary.TheVariants as binary_op
use Rattle.php_ast.specs.declared.operator.Assign.TheVariants as setting
use Rattle.php_ast.specs.Symbol.{Symbol}
use Rattle.php_ast.specs.expression.Tree.{exiting, by_value, exit, static_member, append, selected, new, template, prefix, binary, instance_of, instance_of_static, choice, short_choice, assign, yield_nothing, yield_pair, named, none as no_items, plain, keyed, Class, class_name, class_static, class_found, from, step_property}
use Rattle.php_ast.specs.expression.Spelling.{spell}
use Rattle.php_ast.specs.Power.{binary_row}
use Rattle.php_ast.specs.expression.Proper.{Proper, ends_bare, takes_arrow, right}
use Rattle.php_grammar.specs.declared.closer.Closer.TheVariants as ender
use Rattle.php_grammar.specs.expression.Role.{Continuation, draws, closes, neither, continuation, is_arrow, ends_yield, is_paren}
use Rattle.php_grammar.specs.expression.Machine.{Nothing, Form, of_list, OpenForm, enclosed_open, items_open, index_open, computed_open, step_open, part_open, then_open, else_open, short_open, prefix_open, binary_open, instance_of_open, assign_open, yield_open, yield_value_open, OpenForms, State, expects, holds, holds_call, due_enclosed, due_listed, past_items, past_value, past_exit, past_exit_paren, past_static, past_static_colons, past_template, past_index, past_arrow, past_new, past_class, past_step, past_question, past_assign, past_yield, any, any_member, ends_at, completed, completed_all, missing_end, is_call_at, seated, pick, goes_on, class_step, static_step, advance, Reading, is_last, halt_yield, halt_static, halt, read_from}
use Rattle.php_grammar.specs.Run.{either, if_some, if_nothing, whole_before, through_expression}
use Rattle.php_grammar.proofs.expression.Sound.{IsSoundState, symbols_so_far}
use Rattle.php_grammar.proofs.expression.Fill.{completed_bare, completed_all_spells, completed_all_bare, seats_by}
use Rattle.php_grammar.proofs.expression.SoundSteps.{LeadsOn}
use Rattle.php_grammar.proofs.expression.Soundness.{every_step_leads, BeginsFrom, reading_begins_from}
use Rattle.php_grammar.proofs.expression.Steps.{released_step}
use Rattle.php_grammar.proofs.expression.Appended.{spell_append}
use Rattle.php_grammar_laws.proofs.Appends.{Appends}

-- ---- a `yield` alone at the end

seated_bare : (b : Bool) (s : OpenForms) (x : Form) → ends_bare x ≡ false → ends_bare (seated b s x) ≡ false
seated_bare false s x h = h
seated_bare true [] x h = h
seated_bare true (instance_of_open l ∷ s) x h = refl
seated_bare true (f ∷ s) x h = h

all_not_bare : (s : OpenForms) (e : Form) → ends_bare e ≡ false → ends_bare (completed_all s e) ≡ false
all_not_bare [] e h = h
all_not_bare (f ∷ s) e h = all_not_bare s (seated (is_call_at f) s (completed f e)) (seated_bare (is_call_at f) s (completed f e) (completed_bare f e h))

-- ---- halting

-- The tree is proper, is spelled by what was read and is missing, and ends with no `yield` alone but in front of what may
-- stand behind one.
pub record HaltsInside (m : State) (w : List Symbol) (r : Reading) : Type 0 where
  pub proper : Proper r.tree
  pub spelled : spell r.tree [] ≡ symbols_so_far m r.missing
  pub unread : r.unread ≡ w
  pub bare : ends_bare r.tree ≡ true → is_last w [] ≡ true

no_front : (v w : List Symbol) → [] ≡ v ++ w → v ≡ []
no_front [] w h = refl
no_front (t ∷ v) w h = cc

false_true : (b : Bool) → b ≡ false → b ≡ true → ⊥
false_true true h g = cc
false_true false h g = cc

-- from where it halts at the end of all symbols
from_end : (m : State) (w : List Symbol) → IsSoundState m → ends_bare (halt m []).tree ≡ false → HaltsInside m w (record { tree = (halt m []).tree; missing = (halt m []).missing; unread = w })
from_end m w h not_bare =
    let b : BeginsFrom m [] (read_from m []) = reading_begins_from [] m h in
    let none : b.read ≡ [] = no_front b.read (halt m []).unread b.whole in
    record {
      proper = b.proper;
      spelled = b.spelled ∙ ap (λ v. symbols_so_far m (v ++ (halt m []).missing)) none;
      unread = refl;
      bare = λ is. absurd (false_true (ends_bare (halt m []).tree) not_bare is);
    }

last_none : (w v : List Symbol) → is_last w v ≡ true → v ≡ []
last_none [] v is = cc
last_none (t ∷ w) [] is = refl
last_none (t ∷ w) (x ∷ v) is = cc

yield_inside : (b : Bool) (s : OpenForms) (w : List Symbol) → is_last w (missing_end s) ≡ b → IsSoundState (past_yield s) → HaltsInside (past_yield s) w (halt_yield b s w)
yield_inside true s w is h =
    let none : missing_end s ≡ [] = last_none w (missing_end s) is in
    record {
      proper = completed_all_bare s (yield_nothing tt) (record { proper = tt; near = h.0; sound = h.1; seats = seats_by s (yield_nothing tt) refl }) none;
      spelled = completed_all_spells s (yield_nothing tt);
      unread = refl;
      bare = λ x. ap (is_last w) (sym none) ∙ is;
    }
yield_inside false s w is h = from_end (past_yield s) w h (all_not_bare (yield_open ∷ s) any refl)

static_inside : (s : OpenForms) (w : List Symbol) → IsSoundState (past_static s) → HaltsInside (past_static s) w (halt_static s w)
static_inside [] w h = from_end (past_static []) w h refl
static_inside (instance_of_open l ∷ s) w h = from_end (past_static (instance_of_open l ∷ s)) w h (all_not_bare s (instance_of_static l tt) refl)
static_inside (f ∷ s) w h = from_end (past_static (f ∷ s)) w h (all_not_bare (f ∷ s) _ refl)

pub halts_inside : (m : State) (w : List Symbol) → IsSoundState m → HaltsInside m w (halt m w)
halts_inside (expects s) w h = from_end (expects s) w h (all_not_bare s any refl)
halts_inside (holds e s) w h = from_end (holds e s) w h (all_not_bare s e h.1.not_bare)
halts_inside (holds_call e s) w h = from_end (holds_call e s) w h (all_not_bare s (append e) refl)
halts_inside (due_enclosed enclosure s) w h = from_end (due_enclosed enclosure s) w h (all_not_bare (enclosed_open enclosure ∷ s) any refl)
halts_inside (due_listed listing s) w h = from_end (due_listed listing s) w h (all_not_bare (items_open (of_list listing) no_items plain ∷ s) any refl)
halts_inside (past_items g items s) w h = from_end (past_items g items s) w h (all_not_bare (items_open g items plain ∷ s) any refl)
halts_inside (past_value g items k s) w h = from_end (past_value g items k s) w h (all_not_bare (items_open g items (keyed k) ∷ s) any refl)
halts_inside (past_exit s) w h = from_end (past_exit s) w h (all_not_bare s (exit tt) refl)
halts_inside (past_exit_paren s) w h = from_end (past_exit_paren s) w h (all_not_bare (enclosed_open exiting ∷ s) any refl)
halts_inside (past_static s) w h = static_inside s w h
halts_inside (past_static_colons s) w h = from_end (past_static_colons s) w h (all_not_bare s (static_member tt any_member) refl)
halts_inside (past_template pieces s) w h = from_end (past_template pieces s) w h (all_not_bare s (template tt pieces) refl)
halts_inside (past_index e s) w h = from_end (past_index e s) w h (all_not_bare (index_open e ∷ s) any refl)
halts_inside (past_arrow arrow e s) w h = from_end (past_arrow arrow e s) w h (all_not_bare s (selected e arrow any_member) refl)
halts_inside (past_new s) w h = from_end (past_new s) w h (all_not_bare s (new tt (class_found (from tt []))) refl)
halts_inside (past_class class s) w h = from_end (past_class class s) w h (all_not_bare s (new tt class) refl)
halts_inside (past_step steps s) w h = from_end (past_step steps s) w h (all_not_bare s (new tt (class_found (step_property steps (named tt [])))) refl)
halts_inside (past_question c s) w h = from_end (past_question c s) w h (all_not_bare (then_open c ∷ s) any refl)
halts_inside (past_assign l s) w h = from_end (past_assign l s) w h (all_not_bare (assign_open (by_value setting.Plain) l ∷ s) any refl)
halts_inside (past_yield s) w h = yield_inside (is_last w (missing_end s)) s w refl h

-- ---- a `yield` that would take an `=>`

right_some : (op : Binary) → 0 < right (binary_row op)
right_some binary_op.Power = omega arith
right_some _ = omega arith

-- Where nothing is missing and an `=>` can't go on, no `yield` at the end would take it.
abbrev NoArrow : OpenForms → Form → Type 0
NoArrow s e = missing_end s ≡ [] → takes_arrow e ≡ false → goes_on e s (closes ender.DoubleArrow) ≡ None → takes_arrow (completed_all s e) ≡ false

released_on : (f : OpenForm) (s : OpenForms) (e : Form) → 0 < ends_at true f → goes_on e (f ∷ s) (closes ender.DoubleArrow) ≡ None → goes_on (completed f e) s (closes ender.DoubleArrow) ≡ None
released_on f s e low h = sym (released_step f s e (closes ender.DoubleArrow) low) ∙ h

all_no_arrow : (s : OpenForms) (e : Form) → NoArrow s e
all_no_arrow [] e none free h = free
all_no_arrow (enclosed_open enclosure ∷ s) e none free h = cc
all_no_arrow (items_open g items lead ∷ s) e none free h = cc
all_no_arrow (index_open a ∷ s) e none free h = cc
all_no_arrow (computed_open a ∷ s) e none free h = cc
all_no_arrow (step_open steps ∷ s) e none free h = cc
all_no_arrow (part_open pieces ∷ s) e none free h = cc
all_no_arrow (then_open c ∷ s) e none free h = cc
all_no_arrow (else_open c a ∷ s) e none free h = all_no_arrow s (choice c a e) none free (released_on (else_open c a) s e (omega arith) h)
all_no_arrow (short_open c ∷ s) e none free h = all_no_arrow s (short_choice c e) none free (released_on (short_open c) s e (omega arith) h)
all_no_arrow (prefix_open op ∷ s) e none free h = all_no_arrow s (prefix tt op e) none free (released_on (prefix_open op) s e (omega arith) h)
all_no_arrow (binary_open op l ∷ s) e none free h = all_no_arrow s (binary op l e) none free (released_on (binary_open op l) s e (right_some op) h)
all_no_arrow (instance_of_open l ∷ s) e none free h = all_no_arrow s (instance_of l e) none refl (released_on (instance_of_open l) s e (omega arith) h)
all_no_arrow (assign_open how l ∷ s) e none free h = all_no_arrow s (assign how l e) none free (released_on (assign_open how l) s e (omega arith) h)
all_no_arrow (yield_open ∷ s) e none free h = cc
all_no_arrow (yield_value_open k ∷ s) e none free h = all_no_arrow s (yield_pair tt k e) none free (released_on (yield_value_open k) s e (omega arith) h)

arrow_is : (x : Continuation) → is_arrow x ≡ true → x ≡ closes ender.DoubleArrow
arrow_is (draws d) h = cc
arrow_is (closes ender.DoubleArrow) h = refl
arrow_is (closes c) h = cc
arrow_is neither h = cc

abbrev IsSomeState : Option State → Type 0
IsSomeState None = ⊥
IsSomeState (Some x) = Unit {0}

picked_none : (b : Bool) (o p : Option State) → IsSomeState o → pick b o p ≡ None → p ≡ None
picked_none true (Some x) p is h = cc
picked_none true None p is h = absurd is
picked_none false o p is h = h

class_alone : (class : Class Nothing) (s : OpenForms) → class_step class s (closes ender.DoubleArrow) ≡ None → goes_on (new tt class) s (closes ender.DoubleArrow) ≡ None
class_alone (class_name spot text) s h = h
class_alone (class_static spot) s h = h
class_alone (class_found steps) s h = h

yield_bare : (x : Continuation) → ends_yield x ≡ true → is_arrow x ≡ false
yield_bare (draws d) e = refl
yield_bare (closes ender.DoubleArrow) e = cc
yield_bare (closes ender.Paren) e = refl
yield_bare (closes ender.Bracket) e = refl
yield_bare (closes ender.Brace) e = refl
yield_bare (closes ender.Comma) e = refl
yield_bare (closes ender.Colon) e = refl
yield_bare (closes ender.Semicolon) e = refl
yield_bare (closes ender.EndPart) e = refl
yield_bare neither e = refl

last_ends : (t : Symbol) (v : List Symbol) → is_last (t ∷ []) v ≡ true → ends_yield (continuation t) ≡ true
last_ends t [] h = h
last_ends t (x ∷ v) h = cc

static_no_arrow : (s : OpenForms) (t : Symbol) → (halt_static s (t ∷ [])).missing ≡ [] → static_step s (closes ender.DoubleArrow) ≡ None → takes_arrow (halt_static s (t ∷ [])).tree ≡ false
static_no_arrow [] t none h = cc
static_no_arrow (instance_of_open l ∷ s) t none h = all_no_arrow s (instance_of_static l tt) none refl h
static_no_arrow (f ∷ s) t none h = cc

yield_no_arrow : (b : Bool) (s : OpenForms) (t : Symbol) → is_last (t ∷ []) (missing_end s) ≡ b → is_arrow (continuation t) ≡ true → (halt_yield b s (t ∷ [])).missing ≡ []
    → takes_arrow (halt_yield b s (t ∷ [])).tree ≡ false
yield_no_arrow true s t is arrow none = absurd (false_true (is_arrow (continuation t)) (yield_bare (continuation t) (last_ends t (missing_end s) is)) arrow)
yield_no_arrow false s t is arrow none = cc

no_arrow_before : (m : State) (t : Symbol) → IsSoundState m → advance m t ≡ None → (halt m (t ∷ [])).missing ≡ [] → is_arrow (continuation t) ≡ true → takes_arrow (halt m (t ∷ [])).tree ≡ false
no_arrow_before (holds e s) t h stuck none arrow = all_no_arrow s e none h.1.no_arrow (ap (goes_on e s) (sym (arrow_is (continuation t) arrow)) ∙ stuck)
no_arrow_before (past_exit s) t h stuck none arrow =
    all_no_arrow s (exit tt) none refl
    (ap (goes_on (exit tt) s) (sym (arrow_is (continuation t) arrow)) ∙ picked_none (is_paren t) (Some (past_exit_paren s)) (goes_on (exit tt) s (continuation t)) tt stuck)
no_arrow_before (past_static s) t h stuck none arrow = static_no_arrow s t none (ap (static_step s) (sym (arrow_is (continuation t) arrow)) ∙ stuck)
no_arrow_before (past_class class s) t h stuck none arrow =
    all_no_arrow s (new tt class) none refl (class_alone class s (ap (class_step class s) (sym (arrow_is (continuation t) arrow)) ∙ stuck))
no_arrow_before (past_yield s) t h stuck none arrow = yield_no_arrow (is_last (t ∷ []) (missing_end s)) s t refl arrow none
no_arrow_before (expects s) t h stuck none arrow = cc
no_arrow_before (due_enclosed enclosure s) t h stuck none arrow = cc
no_arrow_before _ t h stuck none arrow = cc

-- ---- whole, or not

-- an expression that is whole in front of a symbol, which ends it
pub record WholeBefore (t : Symbol) (e : Form) : Type 0 where
  pub proper : Proper e
  pub no_arrow : is_arrow (continuation t) ≡ true → takes_arrow e ≡ false
  pub bare : ends_bare e ≡ true → ends_yield (continuation t) ≡ true

whole_spelled : (m : State) (e : Form) → Appends (symbols_so_far m) → spell e [] ≡ symbols_so_far m [] → (w : List Symbol) → symbols_so_far m w ≡ spell e w
whole_spelled m e a is w = a.at [] w ∙ ap (λ u. u ++ w) (sym is) ∙ sym (spell_append e [] w)

-- the states in which an expression is read, with what stands for the symbols so far
pub record IsInner (m : State) : Type 0 where
  pub sound : IsSoundState m
  pub appends : Appends (symbols_so_far m)

ended_by : {M : Type 0} (P : Option M → Type 0) (m : State) (t : Symbol) (ended : Form → Option M) (tree : Form) (missing : List Symbol)
    → (missing ≡ [] → P (ended tree)) → P None → P (if_some (if_nothing missing tree) ended)
ended_by P m t ended tree [] h none = h refl
ended_by P m t ended tree (x ∷ missing) h none = none

through_by : {M : Type 0} (P : Option M → Type 0) (m : State) (t : Symbol) (on : State → M) (ended : Form → Option M) (o : Option State) → advance m t ≡ o → LeadsOn m t o → IsInner m
    → ((n : State) → IsInner n → ((w : List Symbol) → symbols_so_far m (t ∷ w) ≡ symbols_so_far n w) → P (Some (on n)))
    → ((e : Form) → WholeBefore t e → ((w : List Symbol) → symbols_so_far m w ≡ spell e w) → P (ended e)) → P None
    → P (either (if_some o (λ n. Some (on n))) (if_some (whole_before m t) ended))
through_by P m t on ended (Some n) is leads h goes ends none =
    goes n (record { sound = leads.0; appends = record { at = λ v w. sym (leads.1 (v ++ w)) ∙ h.appends.at (t ∷ v) w ∙ ap (λ u. u ++ w) (leads.1 v) } }) leads.1
through_by P m t on ended None is leads h goes ends none =
    let inside : HaltsInside m (t ∷ []) (halt m (t ∷ [])) = halts_inside m (t ∷ []) h.sound in
    ended_by P m t ended (halt m (t ∷ [])).tree (halt m (t ∷ [])).missing
    (λ nothing. ends (halt m (t ∷ [])).tree (record { proper = inside.proper; no_arrow = no_arrow_before m t h.sound is nothing; bare = inside.bare })
    (whole_spelled m (halt m (t ∷ [])).tree h.appends (inside.spelled ∙ ap (symbols_so_far m) nothing)))
    none

-- A symbol behind an expression inside goes on with it, or ends it.
pub through_leads : {M : Type 0} (P : Option M → Type 0) (m : State) (t : Symbol) (on : State → M) (ended : Form → Option M) → IsInner m
    → ((n : State) → IsInner n → ((w : List Symbol) → symbols_so_far m (t ∷ w) ≡ symbols_so_far n w) → P (Some (on n)))
    → ((e : Form) → WholeBefore t e → ((w : List Symbol) → symbols_so_far m w ≡ spell e w) → P (ended e)) → P None → P (through_expression m t on ended)
through_leads P m t on ended h goes ends none = through_by P m t on ended (advance m t) refl (every_step_leads m t h.sound) h goes ends none
