-- What the machine of open forms comes to where nesting is limited: it reads symbols up to the first one that can't
-- go on, or that is nested too deep.
use Rattle.std.specs.Prelude.{◌≡◌, ◌≤◌, ◌<◌, ◌⊎◌, ℕ, suc, ◌+◌, Bool, true, false, nat_lt, Option, Some, None, List, [], ◌∷◌}
use Rattle.php_ast.specs.expression.Proper.{free}
use Rattle.php_ast.specs.Symbol.{Symbol}
use Rattle.php_grammar.specs.expression.Role.{strength_of}
use Rattle.php_grammar.specs.expression.Machine.{Form, OpenForms, State, least_power_at, least_power, advance, Reading, halt}
use Rattle.php_grammar.specs.expression.Depth.{depth, depth_at}
use Rattle.php_grammar.specs.expression.Laws.{head_continuation}

pub data Outcome : Type 0 where
  -- a tree, and the symbols behind it
  whole : Form → List Symbol → Outcome
  -- something is missing in front of these symbols
  short : List Symbol → Outcome
  -- the first of these symbols is nested too deep
  deep : List Symbol → Outcome

abbrev pub outcome_of : List Symbol → Form → List Symbol → Outcome
outcome_of [] e w = whole e w
outcome_of (t ∷ missing) e w = short w

abbrev pub outcome : Reading → Outcome
outcome r = outcome_of r.missing r.tree r.unread

abbrev pub stepped : Option State → Bool → (State → Outcome) → Outcome → List Symbol → Outcome
stepped None too_deep go_on halted w = halted
stepped (Some m) true go_on halted w = deep w
stepped (Some m) false go_on halted w = go_on m

-- where symbols may be nested as deep as a number
abbrev pub walk : ℕ → State → List Symbol → Outcome
walk n m [] = outcome (halt m [])
walk n m (t ∷ w) = stepped (advance m t) (nat_lt n (depth_at m t)) (λ x. walk n x w) (outcome (halt m (t ∷ w))) (t ∷ w)

-- ---- what a part of the parser does

-- Behind `instanceof` no operator is open.
abbrev pub IsOrderly : OpenForms → Type 0
IsOrderly [] = Unit {0}
IsOrderly (f ∷ s) = ((least_power_at f ≡ 0) ⊎ (least_power s ≤ free)) × IsOrderly s

-- Among all open forms that go on with every operator of a power of at least `least`, and in which `room` levels
-- of nesting are left, their own one too, the machine goes from one state before some symbols to another state
-- before others.
pub record Leads (room least : ℕ) (from : OpenForms → State) (w : List Symbol) (to : OpenForms → State) (v : List Symbol) : Type 0 where
  pub same : (n : ℕ) (s : OpenForms) → IsOrderly s → least_power s ≤ least → depth s + room ≡ suc n → walk n (from s) w ≡ walk n (to s) v

-- stopped by a symbol that is too deep, or by one that can't go on
abbrev pub stopped : Bool → List Symbol → Outcome
stopped true v = deep v
stopped false v = short v

-- likewise it stops in front of these symbols
pub record Halts (too_deep : Bool) (room least : ℕ) (from : OpenForms → State) (w v : List Symbol) : Type 0 where
  pub same : (n : ℕ) (s : OpenForms) → IsOrderly s → least_power s ≤ least → depth s + room ≡ suc n → walk n (from s) w ≡ stopped too_deep v

abbrev pub head_strength : List Symbol → ℕ
head_strength w = strength_of (head_continuation w)

-- Behind this tree the first of these symbols draws less than a number, or too tightly for the tree.
abbrev pub Rests : ℕ → ℕ → List Symbol → Type 0
Rests least edge w = (head_strength w < least) ⊎ (edge ≤ head_strength w)
