-- What a part of the parser does to a walk of the machine of statements, which reads symbols up to the first one that can't
-- go on, or that is nested too deep.
use Rattle.std.specs.Prelude.{◌≡◌, ℕ, zero, suc, ◌+◌, Bool, true, false, nat_lt, List, [], ◌∷◌}
use Rattle.php_ast.specs.Symbol.{Symbol}
use Rattle.php_ast.specs.statement.Tree.{Statement}
use Rattle.php_grammar.specs.expression.Role.{beginning, Beginning, at_nothing}
use Rattle.php_grammar.specs.expression.Machine.{Nothing, Form, expects}
use Rattle.php_grammar.specs.statement.Role.{Ending, no_ending, ending}
use Rattle.php_grammar.specs.statement.Forms.{Around, ExpressionPlace, StatementState}
use Rattle.php_grammar.specs.statement.Machine.{filled}
use Rattle.php_grammar.specs.statement.Depth.{statement_depth, begin_depth, place_depth}
use Rattle.php_grammar_laws.specs.Walks.{OutcomeOf, short, deep, stepped, walk_statement}
use Rattle.php_parse_operands.specs.Walk as inner
use Rattle.php_parse_operands.specs.Walk.{walk}

abbrev pub StatementOutcome : Type 0
StatementOutcome = OutcomeOf (Statement Nothing)

-- ---- what a part of the parser does

-- Among all open forms around which there is room for so many levels of nesting, counted by `depth`, the machine goes
-- from one state before some symbols to another state before others.
pub record Leads (depth : Around → ℕ) (room : ℕ) (from : Around → StatementState) (w : List Symbol) (to : Around → StatementState) (v : List Symbol) : Type 0 where
  pub same : (n : ℕ) (o : Around) → depth o + room ≡ suc n → walk_statement n (from o) w ≡ walk_statement n (to o) v

-- stopped by a symbol that is too deep, or by one that can't go on
abbrev pub stopped : {A : Type 0} → Bool → List Symbol → OutcomeOf A
stopped true v = deep v
stopped false v = short v

-- likewise it stops in front of these symbols
pub record Halts (too_deep : Bool) (depth : Around → ℕ) (room : ℕ) (from : Around → StatementState) (w v : List Symbol) : Type 0 where
  pub same : (n : ℕ) (o : Around) → depth o + room ≡ suc n → walk_statement n (from o) w ≡ stopped too_deep v

-- in front of the first of these symbols, where a statement is due
abbrev pub depth_before : List Symbol → Around → ℕ
depth_before [] o = statement_depth o
depth_before (t ∷ w) o = begin_depth o t

-- ---- an expression inside

-- what an expression comes to where no level of nesting is left
abbrev pub sunk : Beginning → List Symbol → inner.Outcome
sunk at_nothing w = inner.short w
sunk _ w = inner.deep w

abbrev pub sunk_here : List Symbol → inner.Outcome
sunk_here [] = inner.short []
sunk_here (t ∷ w) = sunk (beginning t) (t ∷ w)

-- where so many levels are left
abbrev pub expression_outcome : ℕ → List Symbol → inner.Outcome
expression_outcome zero w = sunk_here w
expression_outcome (suc n) w = walk n (expects []) w

-- how the first of some symbols ends an expression in a statement
abbrev pub head_ending : List Symbol → Ending
head_ending [] = no_ending
head_ending (t ∷ v) = ending t

-- behind an expression at a place of a statement, in front of these symbols
abbrev pub walk_behind : ℕ → ExpressionPlace → Form → Around → List Symbol → StatementOutcome
walk_behind n place e o [] = short []
walk_behind n place e o (t ∷ v) =
    stepped (filled place e o (ending t)) (nat_lt n (place_depth place (statement_depth o))) (λ x. walk_statement n x v) (short (t ∷ v)) (t ∷ v)
