-- What a part of the parser does, by what a machine comes to where nesting is limited: the machine of members, of functions,
-- of expressions or of scripts.
use Rattle.std.specs.Prelude.{◌≡◌, ℕ, suc, Bool, true, false, List}
use Rattle.php_ast.specs.Symbol.{Symbol}
use Rattle.php_grammar_laws.specs.Walks.{OutcomeOf, short, deep}

-- Where so many levels of nesting are left, that of the first symbol too, the machine goes from one state before some
-- symbols to another state before others.
pub record Leads {M A : Type 0} (walk : ℕ → M → List Symbol → OutcomeOf A) (room : ℕ) (from : M) (w : List Symbol) (to : M) (v : List Symbol) : Type 0 where
  pub same : (n : ℕ) → room ≡ suc n → walk n from w ≡ walk n to v

-- stopped by a symbol that is too deep, or by one that can't go on
abbrev pub stopped : {A : Type 0} → Bool → List Symbol → OutcomeOf A
stopped true v = deep v
stopped false v = short v

-- likewise it stops in front of these symbols
pub record Halts {M A : Type 0} (walk : ℕ → M → List Symbol → OutcomeOf A) (too_deep : Bool) (room : ℕ) (from : M) (w v : List Symbol) : Type 0 where
  pub same : (n : ℕ) → room ≡ suc n → walk n from w ≡ stopped too_deep v
