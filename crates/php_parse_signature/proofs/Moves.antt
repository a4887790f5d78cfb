-- How the machine of signatures moves, where nesting is limited.
use Rattle.std.proofs.Common.{◌≡◌, ◌≤◌, ◌<◌, ℕ, zero, suc, Bool, Some, None, List, ◌∷◌, ◌∙◌, ap, arith}
use Rattle.std.specs.Prelude.{nat_lt}
use Rattle.std.proofs.lemmas.Bool.{lt-ltb, le-ltb}
use Rattle.php_token.specs.Token.{Token}
use Rattle.php_ast.specs.Symbol.{Symbol}
use Rattle.php_grammar.specs.declaration.SignatureMachine.{SignatureState, advance_signature, halt_signature}
use Rattle.php_grammar.specs.declaration.Depth.{signature_depth_at}
use Rattle.php_reader.specs.declared.fail.Stop.{Stop}
use Rattle.php_reader.specs.declared.fail.Stop.TheVariants.{Syntax, TooDeep, NoMemory}
use Rattle.php_grammar_laws.specs.Walks.{deep, outcome, stepped, walk_signature}
use Rattle.php_parse_signature.specs.Walk.{Leads, Halts, stopped}
use Rattle.php_parse_signature.specs.Answer.{Fails}

-- ---- one symbol

pub go : (n : ℕ) (m to : SignatureState) (t : Symbol) (w : List Symbol) → advance_signature m t ≡ Some to → signature_depth_at m t ≤ n → walk_signature n m (t ∷ w) ≡ walk_signature n to w
go n m to t w is shallow =
    ap (λ o. stepped o (nat_lt n (signature_depth_at m t)) (λ x. walk_signature n x w) (outcome (halt_signature m (t ∷ w))) (t ∷ w)) is
    ∙ ap (λ b. stepped (Some to) b (λ x. walk_signature n x w) (outcome (halt_signature m (t ∷ w))) (t ∷ w)) (le-ltb n (signature_depth_at m t) shallow)

pub sinks : (n : ℕ) (m to : SignatureState) (t : Symbol) (w : List Symbol) → advance_signature m t ≡ Some to → n < signature_depth_at m t → walk_signature n m (t ∷ w) ≡ deep (t ∷ w)
sinks n m to t w is below =
    ap (λ o. stepped o (nat_lt n (signature_depth_at m t)) (λ x. walk_signature n x w) (outcome (halt_signature m (t ∷ w))) (t ∷ w)) is
    ∙ ap (λ b. stepped (Some to) b (λ x. walk_signature n x w) (outcome (halt_signature m (t ∷ w))) (t ∷ w)) (lt-ltb n (signature_depth_at m t) below)

pub sticks : (n : ℕ) (m : SignatureState) (t : Symbol) (w : List Symbol) → advance_signature m t ≡ None → walk_signature n m (t ∷ w) ≡ outcome (halt_signature m (t ∷ w))
sticks n m t w is = ap (λ o. stepped o (nat_lt n (signature_depth_at m t)) (λ x. walk_signature n x w) (outcome (halt_signature m (t ∷ w))) (t ∷ w)) is

-- ---- chains

pub leads : {room : ℕ} {from to : SignatureState} {w v u : List Symbol} (mid : SignatureState) → Leads room from w mid v → Leads room mid v to u → Leads room from w to u
leads mid a b = record { same = λ n is. a.same n is ∙ b.same n is }

pub leads_halts : {too_deep : Bool} {room : ℕ} {from : SignatureState} {w v u : List Symbol} (mid : SignatureState)
    → Leads room from w mid v → Halts too_deep room mid v u → Halts too_deep room from w u
leads_halts mid a b = record { same = λ n is. a.same n is ∙ b.same n is }

-- in parentheses
pub nested : {room : ℕ} {from to : SignatureState} {w v : List Symbol} → 2 ≤ room → ((n : ℕ) → room ≡ suc (suc n) → walk_signature (suc n) from w ≡ walk_signature (suc n) to v) → Leads room from w to v
nested {room} {from} {to} {w} {v} low h = record { same = nested_by }
  where
    nested_by : (n : ℕ) → room ≡ suc n → walk_signature n from w ≡ walk_signature n to v
    nested_by zero is = absurd (omega arith)
    nested_by (suc n) is = h n is

pub nested_halts : {room : ℕ} (too_deep : Bool) {from : SignatureState} {w v : List Symbol} → 2 ≤ room → ((n : ℕ) → room ≡ suc (suc n) → walk_signature (suc n) from w ≡ stopped too_deep v) → Halts too_deep room from w v
nested_halts {room} too_deep {from} {w} {v} low h = record { same = nested_by }
  where
    nested_by : (n : ℕ) → room ≡ suc n → walk_signature n from w ≡ stopped too_deep v
    nested_by zero is = absurd (omega arith)
    nested_by (suc n) is = h n is

-- a failure behind what was read
pub later : {room : ℕ} {from : SignatureState} {x w : List Symbol} (tokens : List Token) (at start : ℕ) (mid : SignatureState) (e : Stop) → at ≤ start
    → Leads room from x mid w → Fails room mid w tokens start e → Fails room from x tokens at e
later tokens at start mid (Syntax k) ahead a r = record { halts = leads_halts mid a r.halts; ahead = omega (arith, r.ahead); within = r.within }
later tokens at start mid (TooDeep k) ahead a r = record { halts = leads_halts mid a r.halts; ahead = omega (arith, r.ahead); within = r.within }
later tokens at start mid NoMemory ahead a r = tt
