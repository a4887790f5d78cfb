-- A machine of expressions inside another machine: what the reading of an expression says is what the outer machine
-- does with it.
use Rattle.std.proofs.Common.{◌≡◌, Bool, true, false, Option, Some, None, List, [], ◌∷◌, refl, sym, ◌∙◌, ap, subst}
use Rattle.php_ast.specs.Symbol.{Symbol}
use Rattle.php_ast.specs.expression.Spelling.{spell}
use Rattle.php_ast.specs.expression.Proper.{Proper}
use Rattle.php_grammar.specs.expression.Machine.{Form, instance_of_open, OpenForms, State, expects, holds, holds_call, due_enclosed, due_listed, past_static, past_yield, missing_end, advance, Reading, halt_static, is_last, halt_yield, halt, or_halt, read_from}
use Rattle.php_grammar.specs.expression.Laws.{EndsBefore}
use Rattle.php_grammar.specs.Run.{either, if_some, ReadingOf, if_nothing, or_halted, run_of, whole_before, through_expression}
use Rattle.php_grammar.proofs.expression.LawProofs.{halt_unread, reads_back}
use Rattle.php_grammar.proofs.Machines.{same_head, same_tail}

-- ---- what halts in front of a symbol doesn't look behind it

pub record Alike (a b : Reading) : Type 0 where
  pub tree : a.tree ≡ b.tree
  pub missing : a.missing ≡ b.missing

static_alike : (s : OpenForms) (v w : List Symbol) → Alike (halt_static s v) (halt_static s w)
static_alike [] v w = record { tree = refl; missing = refl }
static_alike (instance_of_open l ∷ s) v w = record { tree = refl; missing = refl }
static_alike (f ∷ s) v w = record { tree = refl; missing = refl }

yield_alike : (b : Bool) (s : OpenForms) (v w : List Symbol) → Alike (halt_yield b s v) (halt_yield b s w)
yield_alike true s v w = record { tree = refl; missing = refl }
yield_alike false s v w = record { tree = refl; missing = refl }

pub last_alike : (t : Symbol) (v missing : List Symbol) → is_last (t ∷ v) missing ≡ is_last (t ∷ []) missing
last_alike t v [] = refl
last_alike t v (x ∷ xs) = refl

pub halts_alike : (m : State) (t : Symbol) (v : List Symbol) → Alike (halt m (t ∷ v)) (halt m (t ∷ []))
halts_alike (past_static s) t v = static_alike s (t ∷ v) (t ∷ [])
halts_alike (past_yield s) t v =
    subst (λ b. Alike (halt_yield b s (t ∷ v)) (halt_yield (is_last (t ∷ []) (missing_end s)) s (t ∷ []))) (sym (last_alike t v (missing_end s)))
    (yield_alike (is_last (t ∷ []) (missing_end s)) s (t ∷ v) (t ∷ []))
halts_alike (expects s) t v = record { tree = refl; missing = refl }
halts_alike (holds e s) t v = record { tree = refl; missing = refl }
halts_alike (holds_call e s) t v = record { tree = refl; missing = refl }
halts_alike (due_enclosed enclosure s) t v = record { tree = refl; missing = refl }
halts_alike (due_listed listing s) t v = record { tree = refl; missing = refl }
halts_alike _ t v = record { tree = refl; missing = refl }

whole_if : (missing : List Symbol) (tree e : Form) → missing ≡ [] → tree ≡ e → if_nothing missing tree ≡ Some e
whole_if [] tree e h is = ap Some is
whole_if (t ∷ w) tree e h is = cc

pub whole_here : (m : State) (t : Symbol) (v : List Symbol) (e : Form) → halt m (t ∷ v) ≡ record { tree = e; missing = []; unread = t ∷ v } → whole_before m t ≡ Some e
whole_here m t v e h =
    let same : Alike (halt m (t ∷ v)) (halt m (t ∷ [])) = halts_alike m t v in
    whole_if (halt m (t ∷ [])).missing (halt m (t ∷ [])).tree e (sym same.missing ∙ ap (λ r. r.missing) h) (sym same.tree ∙ ap (λ r. r.tree) h)

-- ---- an expression inside

-- how a machine reads an expression: the states in which it does so, and what it does with the expression before a symbol
pub record Reader (M : Type 0) (step : M → Symbol → Option M) : Type 0 where
  pub on : State → M
  pub ended : Symbol → Form → Option M
  pub steps : (m : State) (t : Symbol) → step (on m) t ≡ through_expression m t on (ended t)

through_by : {M A : Type 0} (step : M → Symbol → Option M) (stop : M → List Symbol → ReadingOf A) (r : Reader M step) (o : Option State) (m : State) (x : Symbol) (w : List Symbol) (e : Form)
    (t : Symbol) (v : List Symbol) (n : M) → r.ended t e ≡ Some n
    → ((k : State) → read_from k w ≡ record { tree = e; missing = []; unread = t ∷ v } → run_of step stop (r.on k) w ≡ run_of step stop n v)
    → or_halt o (λ k. read_from k w) (halt m (x ∷ w)) ≡ record { tree = e; missing = []; unread = t ∷ v }
    → or_halted (either (if_some o (λ k. Some (r.on k))) (if_some (whole_before m x) (r.ended x))) (λ k. run_of step stop k w) (stop (r.on m) (x ∷ w)) ≡ run_of step stop n v
through_by step stop r (Some k) m x w e t v n is next h = next k h
through_by step stop r None m x w e t v n is next h =
    let all : x ∷ w ≡ t ∷ v = sym (halt_unread m (x ∷ w)) ∙ ap (λ u. u.unread) h in
    let first : x ≡ t = same_head x t w v all in
    let rest : w ≡ v = same_tail x t w v all in
    let whole : whole_before m x ≡ Some e = whole_here m x w e (h ∙ ap (λ u. record { tree = e; missing = []; unread = u }) (sym all)) in
    ap (λ u. or_halted (if_some u (r.ended x)) (λ k. run_of step stop k w) (stop (r.on m) (x ∷ w))) whole
    ∙ ap (λ u. or_halted u (λ k. run_of step stop k w) (stop (r.on m) (x ∷ w))) (ap (λ y. r.ended y e) first ∙ is) ∙ ap (run_of step stop n) rest

pub through : {M A : Type 0} (step : M → Symbol → Option M) (stop : M → List Symbol → ReadingOf A) (r : Reader M step) (w : List Symbol) (m : State) (e : Form) (t : Symbol) (v : List Symbol) (n : M)
    → r.ended t e ≡ Some n → read_from m w ≡ record { tree = e; missing = []; unread = t ∷ v } → run_of step stop (r.on m) w ≡ run_of step stop n v
through step stop r [] m e t v n is h = let none : [] ≡ t ∷ v = sym (halt_unread m []) ∙ ap (λ u. u.unread) h in cc
through step stop r (x ∷ w) m e t v n is h =
    ap (λ u. or_halted u (λ k. run_of step stop k w) (stop (r.on m) (x ∷ w))) (r.steps m x)
    ∙ through_by step stop r (advance m x) m x w e t v n is (λ k. through step stop r w k e t v n is) h

-- A spelled expression is read inside, up to the symbol that ends it.
pub expression_read : {M A : Type 0} (step : M → Symbol → Option M) (stop : M → List Symbol → ReadingOf A) (r : Reader M step) (e : Form) (t : Symbol) (v : List Symbol) (n : M)
    → Proper e → EndsBefore e (t ∷ v) → r.ended t e ≡ Some n → run_of step stop (r.on (expects [])) (spell e (t ∷ v)) ≡ run_of step stop n v
expression_read step stop r e t v n p h is = through step stop r (spell e (t ∷ v)) (expects []) e t v n is (reads_back e (t ∷ v) p h)
