-- What a part of the parser does, by what the machine of scripts comes to where nesting is limited.
use Rattle.std.specs.Prelude.{◌≡◌, ◌≢◌, ℕ, suc, Bool, true, false, List, []}
use Rattle.php_ast.specs.Symbol.{Symbol}
use Rattle.php_ast.specs.declaration.Tree.{Script}
use Rattle.php_grammar.specs.expression.Machine.{Nothing}
use Rattle.php_grammar.specs.declaration.ScriptMachine.{ScriptState}
use Rattle.php_grammar_laws.specs.Walks.{OutcomeOf, whole, short, deep, walk_script}

-- Where so many levels of nesting are left, that of the script too, the machine goes from one state before some symbols to
-- another state before others.
pub record Leads (room : ℕ) (from : ScriptState) (w : List Symbol) (to : ScriptState) (v : List Symbol) : Type 0 where
  pub same : (n : ℕ) → room ≡ suc n → walk_script n from w ≡ walk_script n to v

-- A walk stops in front of these symbols: of one that is too deep, or of one that can't go on. A script may be whole there,
-- but it isn't all.
abbrev pub StopsBefore : Bool → List Symbol → OutcomeOf (Script Nothing) → Type 0
StopsBefore true v (deep u) = u ≡ v
StopsBefore false v (short u) = u ≡ v
StopsBefore false v (whole a u) = (u ≡ v) × (v ≢ [])
StopsBefore _ v _ = ⊥

-- likewise it stops in front of these symbols
pub record Halts (too_deep : Bool) (room : ℕ) (from : ScriptState) (w v : List Symbol) : Type 0 where
  pub same : (n : ℕ) → room ≡ suc n → StopsBefore too_deep v (walk_script n from w)
