-- Failures further on.
use Rattle.std.proofs.Common.{◌≡◌, ◌≤◌, ℕ, ◌+◌, true, false, List, arith}
use Rattle.php_token.specs.Token.{Token}
use Rattle.php_ast.specs.Symbol.{Symbol}
use Rattle.php_grammar.specs.statement.Forms.{Around, ExpressionPlace, StatementState}
use Rattle.php_grammar.specs.statement.Machine.{expected}
use Rattle.php_grammar.specs.statement.Depth.{statement_depth, place_depth}
use Rattle.php_reader.specs.Seen.{rest}
use Rattle.php_reader.specs.declared.fail.Stop.{Stop}
use Rattle.php_reader.specs.declared.fail.Stop.TheVariants.{Syntax, TooDeep, NoMemory}
use Rattle.php_parse_simple.specs.Walk.{Leads}
use Rattle.php_parse_simple.specs.Answer.{Fails, FailsInside}
use Rattle.php_parse_simple.proofs.Moves.{leads_halts}
use Rattle.php_parse_simple.proofs.Inside.{read_halts}

-- behind what was read
pub later : {depth : Around → ℕ} {room : ℕ} {from : Around → StatementState} {x w : List Symbol} (tokens : List Token) (at behind : ℕ) (mid : Around → StatementState) (e : Stop) → at ≤ behind
    → Leads depth room from x mid w → Fails depth room mid w tokens behind e → Fails depth room from x tokens at e
later tokens at behind mid (Syntax k) ahead a r = record { halts = leads_halts mid a r.halts; ahead = omega (arith, r.ahead); within = r.within }
later tokens at behind mid (TooDeep k) ahead a r = record { halts = leads_halts mid a r.halts; ahead = omega (arith, r.ahead); within = r.within }
later tokens at behind mid NoMemory ahead a r = tt

-- where an expression is due
pub failed : (depth : Around → ℕ) (room : ℕ) (place : ExpressionPlace) (within : ℕ) (tokens : List Token) (behind : ℕ) (e : Stop) → ((o : Around) → place_depth place (statement_depth o) + within ≡ depth o + room)
    → FailsInside within tokens behind e → Fails depth room (λ o. expected place o) (rest tokens behind) tokens behind e
failed depth room place within tokens behind (Syntax k) same r = record { halts = read_halts false place within same r.halts; ahead = r.ahead; within = r.within }
failed depth room place within tokens behind (TooDeep k) same r = record { halts = read_halts true place within same r.halts; ahead = r.ahead; within = r.within }
failed depth room place within tokens behind NoMemory same r = tt

-- counted from further outside
pub outwards : (depth other : Around → ℕ) (room within : ℕ) (from : Around → StatementState) (x : List Symbol) (tokens : List Token) (at : ℕ) (e : Stop) → ((o : Around) → other o + within ≡ depth o + room)
    → Fails other within from x tokens at e → Fails depth room from x tokens at e
outwards depth other room within from x tokens at (Syntax k) same r = record { halts = record { same = λ n o is. r.halts.same n o (omega (arith, same o)) }; ahead = r.ahead; within = r.within }
outwards depth other room within from x tokens at (TooDeep k) same r = record { halts = record { same = λ n o is. r.halts.same n o (omega (arith, same o)) }; ahead = r.ahead; within = r.within }
outwards depth other room within from x tokens at NoMemory same r = tt
