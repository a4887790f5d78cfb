-- What a part of the parser does, by what the machine of signatures comes to where nesting is limited.
use Rattle.std.specs.Prelude.{◌≡◌, ℕ, suc, Bool, true, false, List}
use Rattle.php_ast.specs.Symbol.{Symbol}
use Rattle.php_ast.specs.declaration.Tree.{Signature}
use Rattle.php_grammar.specs.expression.Machine.{Nothing}
use Rattle.php_grammar.specs.declaration.SignatureMachine.{SignatureState}
use Rattle.php_grammar_laws.specs.Walks.{OutcomeOf, short, deep, walk_signature}

-- Where so many levels of nesting are left, that of the signature too, the machine goes from one state before some symbols
-- to another state before others.
pub record Leads (room : ℕ) (from : SignatureState) (w : List Symbol) (to : SignatureState) (v : List Symbol) : Type 0 where
  pub same : (n : ℕ) → room ≡ suc n → walk_signature n from w ≡ walk_signature n to v

-- stopped by a symbol that is too deep, or by one that can't go on
abbrev pub stopped : Bool → List Symbol → OutcomeOf (Signature Nothing)
stopped true v = deep v
stopped false v = short v

-- likewise it stops in front of these symbols
pub record Halts (too_deep : Bool) (room : ℕ) (from : SignatureState) (w v : List Symbol) : Type 0 where
  pub same : (n : ℕ) → room ≡ suc n → walk_signature n from w ≡ stopped too_deep v
