-- One number says what the list of the powers at the end of a tree says.
use Rattle.std.proofs.Common.{◌≡◌, ◌≢◌, ◌≤◌, ◌<◌, inl, inr, ◌↔◌, ◌==◌, ℕ, suc, Bool, true, false, if◌then◌else◌, refl, sym, ◌∙◌, ap, subst, arith}
use Rattle.std.proofs.lemmas.Bool.Decides.{eqb_tells}
use Rattle.php_ast.specs.declared.operator.Binary.{Binary}
use Rattle.php_ast.specs.expression.Tree.{prefix, count, binary, instance_of, instance_of_static, choice, short_choice, assign, yield_nothing, yield_value, yield_pair, leaf}
use Rattle.php_ast.specs.declared.power.Grouping.{Grouping}
use Rattle.php_ast.specs.declared.power.Grouping.TheVariants.{ToLeft, ToRight, Ungrouped}
use Rattle.php_ast.specs.Power.{is_left, binary_row, prefix_power}
use Rattle.php_ast.specs.expression.Proper.{power, ends, edge, edge_of, right_of, Proper}
use Rattle.php_grammar.specs.expression.Machine.{Form}
use Rattle.php_grammar.specs.expression.Rules.{ending_powers, AllAbove, IsFree, chosen, operand_before, RuleRight, RulePrefix, PowersAgree}
use Rattle.php_grammar.proofs.expression.Fill.{prefix_bound, binary_bound, edge_bounds}

-- ---- a tree of a higher power

above_to : (e : Form) (p : ℕ) → Proper e → p < power e → p < ends e → AllAbove p (ending_powers e)
above_to (prefix spot op e) p h near low = (omega arith, above_to e p h.1 (omega (arith, h.0)) (omega arith))
above_to (binary op l r) p h near low = (near, above_to r p h.3 (omega (arith, h.1, edge_bounds op)) (omega arith))
above_to (instance_of l r) p h near low = (low, tt)
above_to (instance_of_static l spot) p h near low = (low, tt)
above_to (choice c a b) p h near low = (near, above_to b p h.5 (omega (arith, h.2)) (omega arith))
above_to (short_choice c b) p h near low = (near, above_to b p h.3 (omega (arith, h.1)) (omega arith))
above_to (assign how l r) p h near low = (omega arith, above_to r p h.3 (omega (arith, h.1)) (omega arith))
above_to (yield_nothing spot) p h near low = (low, tt)
above_to (yield_value spot v) p h near low = (omega arith, above_to v p h.1 (omega (arith, h.0)) (omega arith))
above_to (yield_pair spot k v) p h near low = (omega arith, above_to v p h.4 (omega (arith, h.2)) (omega arith))
above_to _ p h near low = tt

above_from : (e : Form) (p : ℕ) → p < 50 → Proper e → p < power e → AllAbove p (ending_powers e) → p < ends e
above_from (prefix spot op e) p small h near a = omega (arith, a.0, above_from e p small h.1 (omega (arith, h.0, a.0)) a.1)
above_from (binary op l r) p small h near a = omega (arith, edge_bounds op, above_from r p small h.3 (omega (arith, h.1, edge_bounds op)) a.1)
above_from (instance_of l r) p small h near a = a.0
above_from (instance_of_static l spot) p small h near a = a.0
above_from (choice c x b) p small h near a = omega (arith, above_from b p small h.5 (omega (arith, h.2)) a.1)
above_from (short_choice c b) p small h near a = omega (arith, above_from b p small h.3 (omega (arith, h.1)) a.1)
above_from (assign how l r) p small h near a = omega (arith, a.0, above_from r p small h.3 (omega (arith, h.1, a.0)) a.1)
above_from (yield_nothing spot) p small h near a = a.0
above_from (yield_value spot v) p small h near a = omega (arith, a.0, above_from v p small h.1 (omega (arith, h.0, a.0)) a.1)
above_from (yield_pair spot k v) p small h near a = omega (arith, a.0, above_from v p small h.4 (omega (arith, h.2, a.0)) a.1)
above_from _ p small h near a = omega arith

-- ---- the left side

-- a tree of a higher power, which is no run of the same one
higher : (e : Form) (p : ℕ) → p < 50 → Proper e → p < power e → (p < ends e) ↔ AllAbove p (ending_powers e)
higher e p small h near = (above_to e p h near, above_from e p small h near)

edge_left : (op : Binary) → is_left (binary_row op).grouping ≡ true → edge (binary_row op) ≡ suc (binary_row op).power
edge_left op h = left_by (binary_row op).grouping (binary_row op).power h
  where
    left_by : (g : Grouping) (p : ℕ) → is_left g ≡ true → edge_of g p ≡ suc p
    left_by ToLeft p h = refl
    left_by ToRight p h = cc
    left_by Ungrouped p h = cc

edge_other : (op : Binary) → is_left (binary_row op).grouping ≡ false → edge (binary_row op) ≡ (binary_row op).power
edge_other op h = other_by (binary_row op).grouping (binary_row op).power h
  where
    other_by : (g : Grouping) (p : ℕ) → is_left g ≡ false → edge_of g p ≡ p
    other_by ToLeft p h = cc
    other_by ToRight p h = refl
    other_by Ungrouped p h = refl

-- behind a run of the same power
same_power : (b : Bool) (op : Binary) (l r : Form) → is_left (binary_row op).grouping ≡ b → Proper (binary op l r)
    → ((binary_row op).power < ends (binary op l r)) ↔ AllAbove (binary_row op).power (ending_powers (chosen (if b then true else false) r (binary op l r)))
same_power true op l r is h = (
  (λ low. above_to r (binary_row op).power h.3 (omega (arith, h.1, edge_bounds op, edge_left op is)) (omega arith)),
  (λ a. omega (arith, edge_left op is, above_from r (binary_row op).power (omega (arith, binary_bound op)) h.3 (omega (arith, h.1, edge_bounds op, edge_left op is)) a)),
)
same_power false op l r is h = ((λ low. absurd (omega (arith, edge_other op is))), (λ a. absurd (omega (arith, a.0))))

if_none : (b : Bool) → (if b then false else false) ≡ false
if_none true = refl
if_none false = refl

-- behind one of another power
other_power : (p : ℕ) (op : Binary) (l r : Form) → p < 50 → p ≢ (binary_row op).power → Proper (binary op l r)
    → (p < ends (binary op l r)) ↔ AllAbove p (ending_powers (binary op l r))
other_power p op l r small apart h = (
  (λ low. let ne : p ≢ (binary_row op).power = apart in above_to (binary op l r) p h (omega (arith, edge_bounds op, ne)) low),
  (λ a. above_from (binary op l r) p small h a.0 a),
)

binary_on_left : (p : ℕ) (op : Binary) (l r : Form) → p < 50 → Proper (binary op l r)
    → (p < ends (binary op l r)) ↔ AllAbove p (ending_powers (operand_before p (binary op l r)))
binary_on_left p op l r small h = elim (eqb_tells p (binary_row op).power) [
  | inl same ↦ equal_case p op l r same.0 same.1 h
  | inr apart ↦ apart_case p op l r apart.0 small apart.1 h
]
  where
    equal_case : (p : ℕ) (op : Binary) (l r : Form) → (p == (binary_row op).power) ≡ true → p ≡ (binary_row op).power → Proper (binary op l r)
        → (p < ends (binary op l r)) ↔ AllAbove p (ending_powers (operand_before p (binary op l r)))
    equal_case p op l r test is h =
        let at : ((binary_row op).power < ends (binary op l r)) ↔ AllAbove (binary_row op).power (ending_powers (chosen (if (is_left (binary_row op).grouping) then true else false) r (binary op l r)))
        = same_power (is_left (binary_row op).grouping) op l r refl h in
        let P : Bool → Type 0 = λ b. (p < ends (binary op l r)) ↔ AllAbove p (ending_powers (chosen (if (is_left (binary_row op).grouping) then b else false) r (binary op l r))) in
        let Q : ℕ → Type 0 = λ n. (n < ends (binary op l r)) ↔ AllAbove n (ending_powers (chosen (if (is_left (binary_row op).grouping) then true else false) r (binary op l r))) in
        subst P (sym test) (subst Q (sym is) at)

    apart_case : (p : ℕ) (op : Binary) (l r : Form) → (p == (binary_row op).power) ≡ false → p < 50 → p ≢ (binary_row op).power → Proper (binary op l r)
        → (p < ends (binary op l r)) ↔ AllAbove p (ending_powers (operand_before p (binary op l r)))
    apart_case p op l r test small apart h =
        let P : Bool → Type 0 = λ b. (p < ends (binary op l r)) ↔ AllAbove p (ending_powers (chosen b r (binary op l r))) in
        subst P (sym (ap (λ b. if (is_left (binary_row op).grouping) then b else false) test ∙ if_none (is_left (binary_row op).grouping))) (other_power p op l r small apart h)

choice_on_left : (p : ℕ) (c a b : Form) → p < 50 → Proper (choice c a b) → (p < ends (choice c a b)) ↔ AllAbove p (ending_powers (operand_before p (choice c a b)))
choice_on_left p c a b small h = elim (eqb_tells p 10) [
  | inl same ↦ (
      let P : Bool → Type 0 = λ x. (p < ends (choice c a b)) ↔ AllAbove p (ending_powers (chosen x b (choice c a b))) in
      let is : p ≡ 10 = same.1 in
      subst P (sym same.0) ((λ low. above_to b p h.5 (omega (arith, h.2, is)) (omega arith)), (λ x. omega (arith, is, above_from b p small h.5 (omega (arith, h.2, is)) x))))
  | inr apart ↦ (
      let P : Bool → Type 0 = λ x. (p < ends (choice c a b)) ↔ AllAbove p (ending_powers (chosen x b (choice c a b))) in
      let ne : p ≢ 10 = apart.1 in
      subst P (sym apart.0) ((λ low. above_to (choice c a b) p h (omega (arith, ne)) low), (λ x. above_from (choice c a b) p small h x.0 x)))
]

short_on_left : (p : ℕ) (c b : Form) → p < 50 → Proper (short_choice c b) → (p < ends (short_choice c b)) ↔ AllAbove p (ending_powers (operand_before p (short_choice c b)))
short_on_left p c b small h = elim (eqb_tells p 10) [
  | inl same ↦ (
      let P : Bool → Type 0 = λ x. (p < ends (short_choice c b)) ↔ AllAbove p (ending_powers (chosen x b (short_choice c b))) in
      let is : p ≡ 10 = same.1 in
      subst P (sym same.0) ((λ low. above_to b p h.3 (omega (arith, h.1, is)) (omega arith)), (λ x. omega (arith, is, above_from b p small h.3 (omega (arith, h.1, is)) x))))
  | inr apart ↦ (
      let P : Bool → Type 0 = λ x. (p < ends (short_choice c b)) ↔ AllAbove p (ending_powers (chosen x b (short_choice c b))) in
      let ne : p ≢ 10 = apart.1 in
      subst P (sym apart.0) ((λ low. above_to (short_choice c b) p h (omega (arith, ne)) low), (λ x. above_from (short_choice c b) p small h x.0 x)))
]

on_left : (p : ℕ) (l : Form) → p < 50 → Proper l → (p < ends l) ↔ AllAbove p (ending_powers (operand_before p l))
on_left p (binary op l r) small h = binary_on_left p op l r small h
on_left p (choice c a b) small h = choice_on_left p c a b small h
on_left p (short_choice c b) small h = short_on_left p c b small h
on_left p (instance_of l r) small h = ((λ low. (low, tt)), (λ a. a.0))
on_left p (instance_of_static l spot) small h = ((λ low. (low, tt)), (λ a. a.0))
on_left p (prefix spot op e) small h = higher (prefix spot op e) p small h small
on_left p (count e way) small h = higher (count e way) p small h small
on_left p (assign how l r) small h = higher (assign how l r) p small h small
on_left p (yield_nothing spot) small h = higher (yield_nothing spot) p small h small
on_left p (yield_value spot v) small h = higher (yield_value spot v) p small h small
on_left p (yield_pair spot k v) small h = higher (yield_pair spot k v) p small h small
on_left p (leaf spot x) small h = higher (leaf spot x) p small h (omega arith)
on_left p e small h = ((λ low. tt), (λ a. omega arith))

-- ---- the right side

free_power : (e : Form) → IsFree e → 50 ≤ power e
free_power (binary op l r) h = absurd h
free_power (instance_of l r) h = absurd h
free_power (instance_of_static l spot) h = absurd h
free_power (choice c a b) h = absurd h
free_power (short_choice c b) h = absurd h
free_power _ h = omega arith

on_right : (g : Grouping) (p : ℕ) (r : Form) → p < 50 → (right_of g p ≤ power r) ↔ RuleRight g p r
on_right ToRight p r small = ((λ h. inr h), (λ h. elim h [ inl f ↦ omega (arith, free_power r f) | inr g ↦ g ]))
on_right ToLeft p r small = ((λ h. inr (omega arith)), (λ h. elim h [ inl f ↦ omega (arith, free_power r f) | inr g ↦ omega arith ]))
on_right Ungrouped p r small = ((λ h. inr (omega arith)), (λ h. elim h [ inl f ↦ omega (arith, free_power r f) | inr g ↦ omega arith ]))

on_prefix : (p : ℕ) (e : Form) → p < 50 → (p < power e) ↔ RulePrefix p e
on_prefix p e small = ((λ h. inr h), (λ h. elim h [ inl f ↦ omega (arith, free_power e f) | inr g ↦ g ]))

pub rules_agree : (l r : Form) → Proper l → PowersAgree l r
rules_agree l r h = record {
  binary_agrees = λ op. record {
    on_left = on_left (binary_row op).power l (omega (arith, binary_bound op)) h;
    on_right = on_right (binary_row op).grouping (binary_row op).power r (omega (arith, binary_bound op));
  };
  choice_agrees = record { on_left = on_left 10 l (omega arith) h; on_right = on_right ToLeft 10 r (omega arith) };
  instance_of_agrees = on_left 36 l (omega arith) h;
  assign_agrees = on_right ToRight 8 r (omega arith);
  prefix_agrees = λ op. on_prefix (prefix_power op) r (omega (arith, prefix_bound op));
  yield_agrees = on_prefix 7 r (omega arith);
}
