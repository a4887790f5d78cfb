-- Answers behind what was read before.
use Rattle.std.proofs.Common.{◌≡◌, ◌≢◌, ◌≤◌, ℕ, false, None, Result, Ok, Err, List, [], ◌∷◌, refl, ap, arith}
use Rattle.php_token.specs.Token.{Token}
use Rattle.php_ast.specs.Symbol.{Symbol}
use Rattle.php_ast.specs.expression.Tree.{colons}
use Rattle.php_grammar.specs.expression.Role.{Continuation, draws, continuation, by_select, at_static, at_nothing, beginning}
use Rattle.php_ast.specs.expression.Proper.{free}
use Rattle.php_grammar.specs.expression.Machine.{OpenForms, State, expects, past_static, instance_of_open, least_power, start, static_step, started}
use Rattle.php_grammar.specs.expression.Laws.{head_continuation}
use Rattle.php_reader.specs.declared.fail.Stop.{Stop}
use Rattle.php_parse_operands.specs.declared.read.Read.{Read}
use Rattle.php_parse_operands.specs.Walk.{Leads, Halts, walk, short, deep}
use Rattle.php_reader.specs.Seen.{head_beginning}
use Rattle.php_parse_operands.specs.Answer.{Answers}
use Rattle.php_parse_operands.proofs.Moves.{leads, leads_halts, move, sticks}
use Rattle.php_parse_operands.proofs.Fails.{later}

pub behind : {room least : ℕ} {from : OpenForms → State} {x w : List Symbol} (below : ℕ) (tokens : List Token) (start at place : ℕ) (mid : OpenForms → State) (r : Result Read Stop) → at ≤ place
    → Leads room least from x mid w → Answers room least below mid w tokens start place r → Answers room least below from x tokens start at r
behind below tokens start at place mid (Ok r) ahead a found = record {
  form = found.form;
  spans = found.spans;
  reads = leads mid a found.reads;
  edge_is = found.edge_is;
  rests = found.rests;
  follows = found.follows;
  bare = found.bare;
  ahead = omega (arith, found.ahead);
  within = found.within;
  deep = found.deep;
}
behind below tokens start at place mid (Err e) ahead a fails = later tokens at place mid e ahead a fails

-- ---- `static` with no `::` behind it

static_by : (n : ℕ) (s : OpenForms) (x : Continuation) → least_power s ≤ free → x ≢ draws (by_select colons) → static_step s x ≡ None
static_by n [] (draws (by_select colons)) low h = absurd (h refl)
static_by n [] _ low h = refl
static_by n (instance_of_open l ∷ s) x low h = absurd (omega arith)
static_by n (_ ∷ s) (draws (by_select colons)) low h = absurd (h refl)
static_by n (_ ∷ s) _ low h = refl

static_short : (n : ℕ) (s : OpenForms) (v : List Symbol) → least_power s ≤ free → head_continuation v ≢ draws (by_select colons) → walk n (past_static s) v ≡ short v
static_short n [] [] low h = refl
static_short n (instance_of_open l ∷ s) v low h = absurd (omega arith)
static_short n (_ ∷ s) [] low h = refl
static_short n [] (t ∷ w) low h = sticks n (past_static []) t w (static_by n [] (continuation t) low h)
static_short n (f ∷ s) (t ∷ w) low h = sticks n (past_static (f ∷ s)) t w (static_by n (f ∷ s) (continuation t) low h)

pub static_alone : {room : ℕ} {x w : List Symbol} (t : Symbol) → x ≡ t ∷ w → beginning t ≡ at_static → head_continuation w ≢ draws (by_select colons) → 1 ≤ room
    → Halts false room free (λ s. expects s) x w
static_alone {room} {x} {w} t is begins alone some =
    leads_halts (λ s. past_static s) (move t is (λ s near. ap (λ b. started b s) begins) (λ n s near at. omega arith))
    (record { same = λ n s whole near at. static_short n s w (omega arith) alone })

-- ---- nothing begins here

nothing_in : (n : ℕ) (s : OpenForms) (v : List Symbol) → head_beginning v ≡ at_nothing → walk n (expects s) v ≡ short v
nothing_in n s [] h = refl
nothing_in n s (t ∷ w) h = sticks n (expects s) t w (ap (λ b. started b s) h)

pub nothing : {room least : ℕ} {v : List Symbol} → head_beginning v ≡ at_nothing → Halts false room least (λ s. expects s) v v
nothing {room} {least} {v} h = record { same = λ n s whole near at. nothing_in n s v h }
