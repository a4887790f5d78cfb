-- How the machine of scripts moves, where nesting is limited.
use Rattle.std.proofs.Common.{◌≡◌, ◌≤◌, ℕ, Bool, true, false, Some, None, List, ◌∷◌, refl, sym, ◌∙◌, ap, subst, arith}
use Rattle.std.specs.Prelude.{nat_lt}
use Rattle.std.proofs.lemmas.Bool.{le-ltb}
use Rattle.php_token.specs.Token.{Token}
use Rattle.php_ast.specs.Symbol.{Symbol}
use Rattle.php_grammar.specs.declaration.ScriptMachine.{ScriptState, advance_script, halt_script}
use Rattle.php_grammar.specs.declaration.Depth.{script_depth_at}
use Rattle.php_reader.specs.declared.fail.Stop.{Stop}
use Rattle.php_reader.specs.declared.fail.Stop.TheVariants.{Syntax, TooDeep, NoMemory}
use Rattle.php_grammar_laws.specs.Walks.{short, outcome, stepped, walk_script}
use Rattle.php_parse_script.specs.Walk.{Leads, StopsBefore, Halts}
use Rattle.php_parse_script.specs.Answer.{Fails}

-- ---- one symbol

pub go : (n : ℕ) (m to : ScriptState) (t : Symbol) (w : List Symbol) → advance_script m t ≡ Some to → script_depth_at m t ≤ n → walk_script n m (t ∷ w) ≡ walk_script n to w
go n m to t w is shallow =
    ap (λ o. stepped o (nat_lt n (script_depth_at m t)) (λ x. walk_script n x w) (outcome (halt_script m (t ∷ w))) (t ∷ w)) is
    ∙ ap (λ b. stepped (Some to) b (λ x. walk_script n x w) (outcome (halt_script m (t ∷ w))) (t ∷ w)) (le-ltb n (script_depth_at m t) shallow)

pub sticks : (n : ℕ) (m : ScriptState) (t : Symbol) (w : List Symbol) → advance_script m t ≡ None → walk_script n m (t ∷ w) ≡ outcome (halt_script m (t ∷ w))
sticks n m t w is = ap (λ o. stepped o (nat_lt n (script_depth_at m t)) (λ x. walk_script n x w) (outcome (halt_script m (t ∷ w))) (t ∷ w)) is

-- one symbol outside of all braces
pub move : {room : ℕ} {from to : ScriptState} {x w : List Symbol} (t : Symbol) → x ≡ t ∷ w → advance_script from t ≡ Some to → script_depth_at from t ≡ 0 → Leads room from x to w
move {room} {from} {to} {x} {w} t is on low = record { same = λ n h. ap (walk_script n from) is ∙ go n from to t w on (omega (arith, low)) }

-- ---- chains

pub leads : {room : ℕ} {from to : ScriptState} {w v u : List Symbol} (mid : ScriptState) → Leads room from w mid v → Leads room mid v to u → Leads room from w to u
leads mid a b = record { same = λ n is. a.same n is ∙ b.same n is }

pub stays : {room : ℕ} {from : ScriptState} {w : List Symbol} → Leads room from w from w
stays = record { same = λ n is. refl }

pub stays_at : {room : ℕ} {from : ScriptState} (w v : List Symbol) → w ≡ v → Leads room from w from v
stays_at {room} {from} w v is = record { same = λ n h. ap (walk_script n from) is }

pub leads_halts : {room : ℕ} {from : ScriptState} {w v u : List Symbol} (too_deep : Bool) (mid : ScriptState) → Leads room from w mid v → Halts too_deep room mid v u → Halts too_deep room from w u
leads_halts {room} {from} {w} {v} {u} too_deep mid a b = record { same = λ n is. subst (StopsBefore too_deep u) (sym (a.same n is)) (b.same n is) }

-- a failure behind what was read
pub later : {room : ℕ} {from : ScriptState} {x w : List Symbol} (tokens : List Token) (at start : ℕ) (mid : ScriptState) (e : Stop) → at ≤ start
    → Leads room from x mid w → Fails room mid w tokens start e → Fails room from x tokens at e
later tokens at start mid (Syntax k) ahead a r = record { halts = leads_halts false mid a r.halts; ahead = omega (arith, r.ahead); within = r.within }
later tokens at start mid (TooDeep k) ahead a r = record { halts = leads_halts true mid a r.halts; ahead = omega (arith, r.ahead); within = r.within }
later tokens at start mid NoMemory ahead a r = tt

-- ---- where something is missing

pub lacking : {room : ℕ} {from : ScriptState} {w : List Symbol} → ((n : ℕ) → walk_script n from w ≡ short w) → Halts false room from w w
lacking {room} {from} {w} h = record { same = λ n is. subst (StopsBefore false w) (sym (h n)) refl }
