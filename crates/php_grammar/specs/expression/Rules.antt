-- The rules of powers as they are said of lists of operators. `Proper` says the same in one number a
-- tree, `ends`; that the two agree is a law.
use Rattle.std.specs.Prelude.{◌≤◌, ◌<◌, ◌⊎◌, ◌↔◌, ◌==◌, ℕ, Bool, true, false, if◌then◌else◌, List, [], ◌∷◌}
use Rattle.php_ast.specs.declared.operator.Binary.{Binary}
use Rattle.php_ast.specs.declared.operator.Prefix.{Prefix}
use Rattle.php_ast.specs.expression.Tree.{Tree, prefix, binary, instance_of, instance_of_static, choice, short_choice, assign, yield_nothing, yield_value, yield_pair}
use Rattle.php_ast.specs.declared.power.Grouping.{Grouping}
use Rattle.php_ast.specs.declared.power.Grouping.TheVariants.{ToRight}
use Rattle.php_ast.specs.declared.power.Row.{Row}
use Rattle.php_ast.specs.Power.{is_left, binary_row, choice_row, instance_of_row, assign_row, prefix_power, yield_power}
use Rattle.php_ast.specs.expression.Proper.{open_yield, power, FitsLeft, FitsRight, Proper}
use Rattle.php_grammar.specs.expression.Machine.{Form}

-- The powers of the operators whose last operand ends the tree, taken inwards. Of `instanceof` it is its power alone.
-- A `yield` alone counts as less than every operator, since none stands behind it.
abbrev pub ending_powers : {S : Type 0} → Tree S → List ℕ
ending_powers (prefix spot op e) = prefix_power op ∷ ending_powers e
ending_powers (binary op l r) = (binary_row op).power ∷ ending_powers r
ending_powers (instance_of l r) = instance_of_row.power ∷ []
ending_powers (instance_of_static l spot) = instance_of_row.power ∷ []
ending_powers (choice c a b) = choice_row.power ∷ ending_powers b
ending_powers (short_choice c b) = choice_row.power ∷ ending_powers b
ending_powers (assign how l r) = assign_row.power ∷ ending_powers r
ending_powers (yield_nothing spot) = open_yield ∷ []
ending_powers (yield_value spot v) = yield_power ∷ ending_powers v
ending_powers (yield_pair spot k v) = yield_power ∷ ending_powers v
ending_powers _ = []

abbrev pub AllAbove : ℕ → List ℕ → Type 0
AllAbove p [] = Unit {0}
AllAbove p (q ∷ qs) = (p < q) × AllAbove p qs

-- an operand, a form with `++` or `--` behind it, a prefix operator, an assignment
abbrev pub IsFree : {S : Type 0} → Tree S → Type 0
IsFree (binary op l r) = ⊥
IsFree (instance_of l r) = ⊥
IsFree (instance_of_static l spot) = ⊥
IsFree (choice c a b) = ⊥
IsFree (short_choice c b) = ⊥
IsFree _ = Unit {0}

abbrev pub same_run : ℕ → Row → Bool
same_run p row = if is_left row.grouping then p == row.power else false

abbrev pub chosen : {S : Type 0} → Bool → Tree S → Tree S → Tree S
chosen true last whole = last
chosen false last whole = whole

-- The operand that stands before an operator of this power: the last one of a run of that power, which
-- is one node, else the whole left side.
abbrev pub operand_before : {S : Type 0} → ℕ → Tree S → Tree S
operand_before p (binary op l r) = chosen (same_run p (binary_row op)) r (binary op l r)
operand_before p (choice c a b) = chosen (same_run p choice_row) b (choice c a b)
operand_before p (short_choice c b) = chosen (same_run p choice_row) b (short_choice c b)
operand_before p e = e

-- The operand before the operator ends in higher powers alone.
abbrev pub RuleLeft : {S : Type 0} → Row → Tree S → Type 0
RuleLeft row l = AllAbove row.power (ending_powers (operand_before row.power l))

-- The right side is free, or its power is above the operator's, or not below it where operators of
-- that power group to the right.
abbrev pub RuleRight : {S : Type 0} → Grouping → ℕ → Tree S → Type 0
RuleRight ToRight p r = IsFree r ⊎ (p ≤ power r)
RuleRight _ p r = IsFree r ⊎ (p < power r)

-- the operand of a prefix operator
abbrev pub RulePrefix : {S : Type 0} → ℕ → Tree S → Type 0
RulePrefix p e = IsFree e ⊎ (p < power e)

-- the two forms of the rules agree at a row of the table
pub record Agrees (row : Row) (l r : Form) : Type 0 where
  pub on_left : FitsLeft row l ↔ RuleLeft row l
  pub on_right : FitsRight row r ↔ RuleRight row.grouping row.power r

pub record PowersAgree (l r : Form) : Type 0 where
  pub binary_agrees : (op : Binary) → Agrees (binary_row op) l r
  pub choice_agrees : Agrees choice_row l r
  pub instance_of_agrees : FitsLeft instance_of_row l ↔ RuleLeft instance_of_row l
  pub assign_agrees : FitsRight assign_row r ↔ RuleRight assign_row.grouping assign_row.power r
  pub prefix_agrees : (op : Prefix) → (prefix_power op < power r) ↔ RulePrefix (prefix_power op) r
  pub yield_agrees : (yield_power < power r) ↔ RulePrefix yield_power r

abbrev pub RulesAgree : Type 0
RulesAgree = (l r : Form) → Proper l → PowersAgree l r
