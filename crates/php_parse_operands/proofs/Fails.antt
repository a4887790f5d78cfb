-- Failures further on.
use Rattle.std.proofs.Common.{◌≡◌, ◌≤◌, ◌⊎◌, inl, ℕ, ◌+◌, ◌-◌, List, ◌∷◌, arith}
use Rattle.php_token.specs.Token.{Token}
use Rattle.php_reader.specs.declared.limit.TheConstants.{LEAST_POWER}
use Rattle.php_ast.specs.expression.Proper.{free}
use Rattle.php_ast.specs.Symbol.{Symbol}
use Rattle.php_grammar.specs.expression.Machine.{OpenForm, OpenForms, State, expects, least_power_at}
use Rattle.php_grammar.specs.expression.Depth.{deepened}
use Rattle.php_reader.specs.declared.fail.Stop.{Stop}
use Rattle.php_reader.specs.declared.fail.Stop.TheVariants.{Syntax, TooDeep, NoMemory}
use Rattle.php_parse_operands.specs.Walk.{Leads}
use Rattle.php_parse_operands.specs.Answer.{Fails}
use Rattle.php_parse_operands.proofs.Moves.{leads_halts, inside_halts, weaken_halts}

-- behind what was read
pub later : {room least : ℕ} {from : OpenForms → State} {x w : List Symbol} (tokens : List Token) (at behind : ℕ) (mid : OpenForms → State) (e : Stop) → at ≤ behind
    → Leads room least from x mid w → Fails room least mid w tokens behind e → Fails room least from x tokens at e
later tokens at behind mid (Syntax k) ahead a r = record { halts = leads_halts mid a r.halts; ahead = omega (arith, r.ahead); within = r.within }
later tokens at behind mid (TooDeep k) ahead a r = record { halts = leads_halts mid a r.halts; ahead = omega (arith, r.ahead); within = r.within }
later tokens at behind mid NoMemory ahead a r = tt

-- inside an open form
pub within : {room least : ℕ} {from : OpenForms → State} {x w : List Symbol} (tokens : List Token) (at behind inner inner_least : ℕ) (f : OpenForm) (e : Stop) → at ≤ behind
    → (least_power_at f ≡ 0) ⊎ (least ≤ free) → least_power_at f ≤ inner_least → ((d : ℕ) → deepened f d + inner ≡ d + room)
    → Leads room least from x (λ s. expects (f ∷ s)) w → Fails inner inner_least (λ s. expects s) w tokens behind e → Fails room least from x tokens at e
within {room} {least} tokens at behind inner inner_least f (Syntax k) ahead seat low deeper a r =
    record { halts = leads_halts (λ s. expects (f ∷ s)) a (inside_halts inner inner_least f seat low deeper r.halts); ahead = omega (arith, r.ahead); within = r.within }
within {room} {least} tokens at behind inner inner_least f (TooDeep k) ahead seat low deeper a r =
    record { halts = leads_halts (λ s. expects (f ∷ s)) a (inside_halts inner inner_least f seat low deeper r.halts); ahead = omega (arith, r.ahead); within = r.within }
within tokens at behind inner inner_least f NoMemory ahead seat low deeper a r = tt

-- one expression between two tokens
pub between : {room least : ℕ} {from : OpenForms → State} {x w : List Symbol} (tokens : List Token) (at behind : ℕ) (f : OpenForm) (e : Stop) → at ≤ behind → 1 ≤ room
    → least_power_at f ≡ 0 → ((d : ℕ) → deepened f d ≡ 1 + d)
    → Leads room least from x (λ s. expects (f ∷ s)) w → Fails (room - 1) LEAST_POWER (λ s. expects s) w tokens behind e → Fails room least from x tokens at e
between {room} tokens at behind f e ahead deep own deeper a r =
    within tokens at behind (room - 1) LEAST_POWER f e ahead (inl own) (omega arith) (λ d. omega (arith, deeper d)) a r

-- fewer open forms
pub fewer : (room least higher : ℕ) (from : OpenForms → State) (x : List Symbol) (tokens : List Token) (at : ℕ) (e : Stop) → least ≤ higher
    → Fails room higher from x tokens at e → Fails room least from x tokens at e
fewer room least higher from x tokens at (Syntax k) h r = record { halts = weaken_halts h r.halts; ahead = r.ahead; within = r.within }
fewer room least higher from x tokens at (TooDeep k) h r = record { halts = weaken_halts h r.halts; ahead = r.ahead; within = r.within }
fewer room least higher from x tokens at NoMemory h r = tt
