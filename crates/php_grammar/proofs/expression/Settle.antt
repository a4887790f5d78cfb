-- The forms that a symbol ends.
use Rattle.std.proofs.Common.{◌≡◌, ◌≤◌, ◌<◌, inl, ℕ, Bool, true, false, List, [], ◌∷◌, refl, sym, ◌∙◌, ap, subst, arith, ltb-true, ltb-false}
use Rattle.std.specs.Prelude.{nat_lt}
use Rattle.std.proofs.lemmas.Bool.{le-ltb}
use Rattle.php_ast.specs.Symbol.{Symbol}
use Rattle.php_ast.specs.expression.Tree.{prefix, count, binary, instance_of, instance_of_static, choice, short_choice, assign, yield_nothing, yield_value, yield_pair}
use Rattle.php_ast.specs.expression.Spelling.{spell}
use Rattle.php_ast.specs.expression.Proper.{takes_arrow, ends_bare, power}
use Rattle.php_grammar.specs.expression.Machine.{Form, OpenForm, enclosed_open, items_open, index_open, computed_open, step_open, part_open, then_open, instance_of_open, yield_open, OpenForms, least_power_at, least_power, ends_at, completed, opening_part, opening_parts, Reached, pick, released}
use Rattle.php_grammar.proofs.expression.Sound.{IsFitting}
use Rattle.php_grammar.proofs.expression.Fill.{completed_proper, completed_power, completed_spells, without_end, without_end_call, call_seat, seats_by, binary_bound}

abbrev pub ends_top : Bool → OpenForms → ℕ
ends_top arrow [] = 0
ends_top arrow (f ∷ s) = ends_at arrow f

pub record IsReleased (arrow : Bool) (n : ℕ) (s : OpenForms) (e : Form) (d : Reached) : Type 0 where
  pub fits : IsFitting d.tree d.stack
  pub low : ends_top arrow d.stack ≤ n
  pub no_arrow : arrow ≡ true → takes_arrow e ≡ false → takes_arrow d.tree ≡ false
  pub bare_is : ends_bare d.tree ≡ ends_bare e
  pub same : (w : List Symbol) → opening_parts s (spell e w) ≡ opening_parts d.stack (spell d.tree w)

pub ends_level : (arrow : Bool) (f : OpenForm) → ends_at arrow f ≤ least_power_at f
ends_level false f = omega arith
ends_level true yield_open = omega arith
ends_level true _ = omega arith

-- what a form without an end of its own says of its end is what the tree in it says
arrow_in : (f : OpenForm) (e : Form) → 0 < ends_at true f → takes_arrow e ≡ false → takes_arrow (completed f e) ≡ false
arrow_in (enclosed_open enclosure) e h a = absurd (omega arith)
arrow_in (items_open g items lead) e h a = absurd (omega arith)
arrow_in (index_open x) e h a = absurd (omega arith)
arrow_in (computed_open x) e h a = absurd (omega arith)
arrow_in (step_open steps) e h a = absurd (omega arith)
arrow_in (part_open pieces) e h a = absurd (omega arith)
arrow_in (then_open c) e h a = absurd (omega arith)
arrow_in (instance_of_open l) e h a = refl
arrow_in yield_open e h a = absurd (omega arith)
arrow_in _ e h a = a

operand_bare : (e : Form) → 90 ≤ power e → ends_bare e ≡ false
operand_bare (prefix spot op e) h = absurd (omega arith)
operand_bare (count e way) h = refl
operand_bare (binary op l r) h = absurd (omega (arith, binary_bound op))
operand_bare (instance_of l r) h = refl
operand_bare (instance_of_static l spot) h = refl
operand_bare (choice c a b) h = absurd (omega arith)
operand_bare (short_choice c b) h = absurd (omega arith)
operand_bare (assign how l r) h = absurd (omega arith)
operand_bare (yield_nothing spot) h = absurd (omega arith)
operand_bare (yield_value spot v) h = absurd (omega arith)
operand_bare (yield_pair spot k v) h = absurd (omega arith)
operand_bare _ h = refl

bare_in : (f : OpenForm) (e : Form) → 0 < least_power_at f → least_power_at f ≤ power e → ends_bare (completed f e) ≡ ends_bare e
bare_in (enclosed_open enclosure) e h p = absurd (omega arith)
bare_in (items_open g items lead) e h p = absurd (omega arith)
bare_in (index_open x) e h p = absurd (omega arith)
bare_in (computed_open x) e h p = absurd (omega arith)
bare_in (step_open steps) e h p = absurd (omega arith)
bare_in (part_open pieces) e h p = absurd (omega arith)
bare_in (then_open c) e h p = absurd (omega arith)
bare_in (instance_of_open l) e h p = sym (operand_bare e p)
bare_in _ e h p = refl

is_released_if : (b arrow : Bool) (n : ℕ) (f : OpenForm) (s : OpenForms) (e : Form) → nat_lt n (ends_at arrow f) ≡ b → IsFitting e (f ∷ s)
    → (IsFitting (completed f e) s → IsReleased arrow n s (completed f e) (released arrow n s (completed f e)))
    → IsReleased arrow n (f ∷ s) e (pick b (released arrow n s (completed f e)) (record { tree = e; stack = f ∷ s }))
is_released_if false arrow n f s e is h below = record {
  fits = h;
  low = ltb-false n (ends_at arrow f) is;
  no_arrow = λ a t. t;
  bare_is = refl;
  same = λ w. refl;
}
is_released_if true arrow n f s e is h below =
    let lt : n < ends_at arrow f = ltb-true n (ends_at arrow f) is in
    let on : 0 < least_power_at f = omega (arith, ends_level arrow f) in
    let fits : IsFitting (completed f e) s = record {
      proper = completed_proper f s e h.sound.0 h.near h.proper h.seats (inl on);
      near = subst (λ k. least_power s ≤ k) (sym (completed_power f e)) h.sound.1;
      sound = h.sound.2;
      seats = seats_by s (completed f e) (call_seat f e (without_end_call f on));
    } in
    let r = below fits in
    record {
      fits = r.fits;
      low = r.low;
      no_arrow = λ a t. r.no_arrow a (arrow_in f e (subst (λ x. 0 < ends_at x f) a (omega arith)) t);
      bare_is = r.bare_is ∙ bare_in f e on h.near;
      same = λ w. ap (opening_parts s) (ap (λ v. opening_part f (spell e v)) (sym (without_end f w on)) ∙ sym (completed_spells f e w)) ∙ r.same w;
    }

pub is_released : (arrow : Bool) (n : ℕ) (s : OpenForms) (e : Form) → IsFitting e s → IsReleased arrow n s e (released arrow n s e)
is_released arrow n [] e h = record { fits = h; low = omega arith; no_arrow = λ a t. t; bare_is = refl; same = λ w. refl }
is_released arrow n (f ∷ s) e h = is_released_if (nat_lt n (ends_at arrow f)) arrow n f s e refl h (is_released arrow n s (completed f e))

-- a symbol that draws tightly enough ends no form
pub releases_none : (arrow : Bool) (n : ℕ) (s : OpenForms) (e : Form) → ends_top arrow s ≤ n → released arrow n s e ≡ record { tree = e; stack = s }
releases_none arrow n [] e h = refl
releases_none arrow n (f ∷ s) e h =
    ap (λ b. pick b (released arrow n s (completed f e)) (record { tree = e; stack = f ∷ s })) (le-ltb n (ends_at arrow f) h)

pub kept_power : (s : OpenForms) → ends_top false s ≤ least_power s
kept_power [] = omega arith
kept_power (f ∷ s) = omega arith
