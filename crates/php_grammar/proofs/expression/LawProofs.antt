-- The laws of the grammar of expressions.
use Rattle.std.proofs.Common.{◌≡◌, ◌≢◌, ◌≤◌, inl, ℕ, Bool, true, false, Option, Some, None, List, [], ◌∷◌, ◌++◌, map, length, refl, sym, ◌∙◌, ap, subst, arith, append_assoc, length-append}
use Rattle.php_token.specs.declared.kind.Punct.TheVariants as mark
use Rattle.php_ast.specs.Symbol.{Symbol, symbol, punct}
use Rattle.php_token.specs.Token.{Token}
use Rattle.php_ast.specs.expression.Tree.{Tree}
use Rattle.php_ast.specs.expression.View.{Note}
use Rattle.php_ast.specs.expression.Placed.{noted, no_notes, form_of, notes_of}
use Rattle.php_ast.specs.expression.Spelling.{spell}
use Rattle.php_ast.specs.expression.Proper.{Proper}
use Rattle.php_grammar.specs.expression.Role.{Continuation, draws, closes, neither, continuation, strength_of}
use Rattle.php_grammar.specs.expression.Machine.{Form, instance_of_open, OpenForms, State, expects, holds, holds_call, due_enclosed, due_listed, past_static, past_yield, missing_end, goes_on, advance, halt_static, is_last, halt_yield, halt, or_halt, read_from, read}
use Rattle.php_grammar.specs.expression.Laws.{Spells, BeginsExpression, BeginsWith, EndsBefore, head_continuation, IsSpelled}
use Rattle.php_grammar.proofs.expression.Soundness.{BeginsFrom, reading_begins_from}
use Rattle.php_grammar.proofs.expression.Trees.{ends_positive}
use Rattle.php_grammar.proofs.expression.Steps.{after_low}
use Rattle.php_grammar.proofs.expression.ReadBack.{Follows, draw_some, spelling_read}
use Rattle.php_ast.specs.expression.Nesting.{nests}
use Rattle.php_grammar.specs.expression.Depth.{depth_at, noting, depths_read}
use Rattle.php_grammar.proofs.expression.TraceBack.{spelling_depths}
use Rattle.php_grammar.proofs.expression.Appended.{spell_append}
use Rattle.php_grammar.proofs.expression.Notes.{again}

pub reading_begins : (w : List Symbol) → BeginsWith w (read w)
reading_begins w =
    let b : BeginsFrom (expects []) w (read w) = reading_begins_from w (expects []) tt in
    record { proper = b.proper; done = b.read; whole = b.whole; spelled = b.spelled }

-- ---- reading back

-- with nothing open, what draws nothing ends a reading
goes_nowhere : (x : Continuation) (e : Form) → strength_of x ≡ 0 → goes_on e [] x ≡ None
goes_nowhere (draws d) e h = absurd (omega (arith, draw_some d))
goes_nowhere (closes c) e h = refl
goes_nowhere neither e h = refl

halts_whole : (e : Form) (v : List Symbol) → strength_of (head_continuation v) ≡ 0 → read_from (holds e []) v ≡ record { tree = e; missing = []; unread = v }
halts_whole e [] h = refl
halts_whole e (t ∷ w) h = ap (λ o. or_halt o (λ n. read_from n w) (halt (holds e []) (t ∷ w))) (goes_nowhere (continuation t) e h)

ends_follows : (e : Form) (v : List Symbol) → EndsBefore e v → Follows e [] v
ends_follows e [] h = record { low = ends_positive e; arrow = λ a. cc; bare = λ b. let x : false ≡ true = h.after_bare b in cc }
ends_follows e (t ∷ v) h = record {
  low = omega (arith, ends_positive e, h.draws_nothing);
  arrow = h.no_arrow;
  bare = λ b. record { ends_it = h.after_bare b; joins = inl refl };
}

pub reads_back : (e : Form) (v : List Symbol) → Proper e → EndsBefore e v → read (spell e v) ≡ record { tree = e; missing = []; unread = v }
reads_back e v p h =
    spelling_read e [] v p (omega arith) (ends_follows e v h) ∙ ap (λ m. read_from m v) (after_low e [] (omega arith)) ∙ halts_whole e v h.draws_nothing

-- ---- one tree

-- a `;` ends every expression

semicolon_ends : (e : Form) → EndsBefore e (punct mark.Semicolon ∷ [])
semicolon_ends e = record { draws_nothing = refl; no_arrow = λ a. cc; after_bare = λ b. refl }

ended_read : (e : Form) (w : List Symbol) → Spells e w → read (w ++ punct mark.Semicolon ∷ []) ≡ record { tree = e; missing = []; unread = punct mark.Semicolon ∷ [] }
ended_read e w h =
    ap (λ u. read (u ++ punct mark.Semicolon ∷ [])) (sym h.1) ∙ ap read (sym (spell_append e [] (punct mark.Semicolon ∷ [])))
    ∙ reads_back e (punct mark.Semicolon ∷ []) h.0 (semicolon_ends e)

pub one_form : (a b : Form) (w : List Symbol) → Spells a w → Spells b w → a ≡ b
one_form a b w p q = ap (λ o. o.tree) (sym (ended_read a w p) ∙ ended_read b w q)

-- ---- what lacks something spells nothing

pub unfinished : (w v : List Symbol) (e : Form) → Spells e w → EndsBefore e v → (read (w ++ v)).missing ≢ [] → ⊥
unfinished w v e h ends lacks =
    lacks (ap (λ u. (read (u ++ v)).missing) (sym h.1) ∙ ap (λ u. (read u).missing) (sym (spell_append e [] v)) ∙ ap (λ o. o.missing) (reads_back e v h.0 ends))

-- ---- the exact place

static_left : (s : OpenForms) (w : List Symbol) → (halt_static s w).unread ≡ w
static_left [] w = refl
static_left (instance_of_open l ∷ s) w = refl
static_left (f ∷ s) w = refl

yield_left : (b : Bool) (s : OpenForms) (w : List Symbol) → (halt_yield b s w).unread ≡ w
yield_left true s w = refl
yield_left false s w = refl

pub halt_unread : (m : State) (w : List Symbol) → (halt m w).unread ≡ w
halt_unread (past_static s) w = static_left s w
halt_unread (past_yield s) w = yield_left (is_last w (missing_end s)) s w
halt_unread (expects s) w = refl
halt_unread (holds e s) w = refl
halt_unread (holds_call e s) w = refl
halt_unread (due_enclosed enclosure s) w = refl
halt_unread (due_listed listing s) w = refl
halt_unread _ w = refl

left_by : (o : Option State) (m : State) (t : Symbol) (w : List Symbol) → ((n : State) → length (read_from n w).unread ≤ length w)
    → length (or_halt o (λ n. read_from n w) (halt m (t ∷ w))).unread ≤ length (t ∷ w)
left_by None m t w h = omega (arith, ap length (halt_unread m (t ∷ w)))
left_by (Some n) m t w h = omega (arith, h n)

left_length : (w : List Symbol) (m : State) → length (read_from m w).unread ≤ length w
left_length [] m = omega (arith, ap length (halt_unread m []))
left_length (t ∷ w) m = left_by (advance m t) m t w (left_length w)

-- where a reading stops doesn't depend on what stands behind that place
here_by : (o : Option State) (m : State) (t : Symbol) (v x : List Symbol) → (or_halt o (λ n. read_from n v) (halt m (t ∷ v))).unread ≡ t ∷ v
    → (or_halt o (λ n. read_from n x) (halt m (t ∷ x))).unread ≡ t ∷ x
here_by None m t v x h = halt_unread m (t ∷ x)
here_by (Some n) m t v x h = let e : length (read_from n v).unread ≡ length (t ∷ v) = ap length h in absurd (omega (arith, e, left_length v n))

there_by : (o : Option State) (m : State) (y t : Symbol) (done v x : List Symbol) → (or_halt o (λ n. read_from n (done ++ t ∷ v)) (halt m (y ∷ done ++ t ∷ v))).unread ≡ t ∷ v
    → ((n : State) → (read_from n (done ++ t ∷ v)).unread ≡ t ∷ v → (read_from n (done ++ t ∷ x)).unread ≡ t ∷ x)
    → (or_halt o (λ n. read_from n (done ++ t ∷ x)) (halt m (y ∷ done ++ t ∷ x))).unread ≡ t ∷ x
there_by (Some n) m y t done v x h below = below n h
there_by None m y t done v x h below =
    let e : length (y ∷ (done ++ t ∷ v)) ≡ length (t ∷ v) = ap length (sym (halt_unread m (y ∷ (done ++ t ∷ v))) ∙ h) in
    absurd (omega (arith, e, length-append done (t ∷ v)))

stops_there : (done : List Symbol) (m : State) (t : Symbol) (v x : List Symbol) → (read_from m (done ++ t ∷ v)).unread ≡ t ∷ v → (read_from m (done ++ t ∷ x)).unread ≡ t ∷ x
stops_there [] m t v x h = here_by (advance m t) m t v x h
stops_there (y ∷ done) m t v x h = there_by (advance m y) m y t done v x h (λ n. stops_there done n t v x)

pub stops_exactly : (w done : List Symbol) (t : Symbol) (v : List Symbol) → w ≡ done ++ t ∷ v → (read w).unread ≡ t ∷ v → BeginsExpression (done ++ t ∷ []) → ⊥
stops_exactly w done t v is h b =
    let end : List Symbol = punct mark.Semicolon ∷ [] in
    let same : ((done ++ t ∷ []) ++ b.rest) ++ end ≡ done ++ t ∷ (b.rest ++ end) =
    ap (λ u. u ++ end) (append_assoc done (t ∷ []) b.rest) ∙ append_assoc done (t ∷ b.rest) end in
    let back : (read (done ++ t ∷ (b.rest ++ end))).unread ≡ end =
    ap (λ u. (read u).unread) (sym same) ∙ ap (λ o. o.unread) (ended_read b.tree ((done ++ t ∷ []) ++ b.rest) b.spelled) in
    let stops : (read (done ++ t ∷ (b.rest ++ end))).unread ≡ t ∷ (b.rest ++ end) =
    stops_there done (expects []) t v (b.rest ++ end) (subst (λ u. (read u).unread ≡ t ∷ v) is h) in
    let lengths : length (t ∷ (b.rest ++ end)) ≡ length end = ap length (sym stops ∙ back) in
    omega (arith, lengths, length-append b.rest end)

-- ---- trees with notes

pub one_tree : (tokens : List Token) (at : ℕ) (w : List Token) (a b : Tree Note) → IsSpelled tokens at a w → IsSpelled tokens at b w → a ≡ b
one_tree tokens at w a b p q =
    let same : form_of a ≡ form_of b = one_form (form_of a) (form_of b) (map symbol w) p.spelled q.spelled in
    sym p.placed ∙ sym (again no_notes (notes_of tokens) 0 at a) ∙ ap (noted (notes_of tokens) at) same ∙ again no_notes (notes_of tokens) 0 at b ∙ q.placed

-- ---- nesting

counts_nothing : (e : Form) (v : List Symbol) → strength_of (head_continuation v) ≡ 0 → depths_read (holds e []) v ≡ []
counts_nothing e [] h = refl
counts_nothing e (t ∷ w) h = ap (λ o. noting o (depth_at (holds e []) t) (λ n. depths_read n w)) (goes_nowhere (continuation t) e h)

pub nesting_agrees : (e : Form) (v : List Symbol) → Proper e → EndsBefore e v → depths_read (expects []) (spell e v) ≡ nests e 0 []
nesting_agrees e v p h =
    spelling_depths e [] v p (omega arith) (ends_follows e v h)
    ∙ ap (nests e 0) (ap (λ m. depths_read m v) (after_low e [] (omega arith)) ∙ counts_nothing e v h.draws_nothing)
