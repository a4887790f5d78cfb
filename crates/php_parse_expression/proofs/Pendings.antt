-- Operators that wait for their right sides.
use Rattle.std.proofs.Common.{◌≡◌, ◌≤◌, ◌<◌, ℕ, suc, min, true, Result, Ok, Err, List, [], ◌∷◌, ◌++◌, length, refl, sym, ◌∙◌, ap, subst, arith, inr}
use Rattle.php_token.specs.Token.{Token}
use Rattle.php_ast.specs.Symbol.{Symbol}
use Rattle.php_ast.specs.expression.Proper.{edge, ends, right, free}
use Rattle.php_ast.specs.expression.View.{view}
use Rattle.php_grammar.specs.expression.Role.{ends_yield}
use Rattle.php_grammar.specs.expression.Laws.{head_continuation}
use Rattle.php_grammar.specs.expression.Machine.{OpenForms, State, expects, holds, completed}
use Rattle.php_reader.specs.declared.fail.Stop.{Stop}
use Rattle.php_parse_operands.specs.declared.read.Read.{Read}
use Rattle.php_parse_expression.specs.declared.pending.Between.{Between}
use Rattle.php_parse_expression.specs.declared.pending.Between.TheVariants as between
use Rattle.php_parse_expression.specs.declared.pending.Pending.{Pending}
use Rattle.php_parse_expression.specs.declared.pending.Onward.{Onward}
use Rattle.php_parse_expression.specs.declared.pending.Onward.TheVariants as onward
use Rattle.php_parse_expression.specs.BetweenView.{row_between}
use Rattle.php_reader.specs.RoleView.{next_view}
use Rattle.php_reader.specs.Seen.{rest, Follows}
use Rattle.php_parse_operands.specs.Walk.{Leads, Rests}
use Rattle.php_parse_operands.specs.Answer.{Fails, Found}
use Rattle.php_parse_expression.specs.Climb.{Completes, Waits, LeadsOn, Pends}
use Rattle.php_parse_operands.proofs.Moves.{leads, weaken}
use Rattle.php_parse_expression.proofs.Joins.{right_bounds}
use Rattle.php_parse_prefixes.proofs.Fronts.{operator_reads, operator_rests}
use Rattle.php_parse_operands.proofs.Fails.{later, within}
use Rattle.php_parse_prefixes.proofs.Founds.{behind}

pub row_bounds : (b : Between) → (0 < right (row_between b)) × (right (row_between b) ≤ free)
row_bounds (between.Binary op) = let b = right_bounds op in (b.0, b.1)
row_bounds between.ShortChoice = (omega arith, omega arith)
row_bounds (between.Choice middle) = (omega arith, omega arith)

-- an operator that waits, and its right side
pub closes : {room least : ℕ} {from : OpenForms → State} {w : List Symbol} (tokens : List Token) (start at next : ℕ) (p : Pending) (right_side r : Read) → least ≤ free → at ≤ next
    → Waits room least from w tokens start p next → Found room (right (row_between p.between)) (right (row_between p.between)) (λ s. expects s) (rest tokens next) tokens next next right_side
    → Completes p right_side r → Found room least free from w tokens start at r
closes {room} {least} {from} {w} tokens start at next p right_side r low ahead a f c =
    let b = row_bounds p.between in
    let q = a.shown (view right_side.expr) f.form right_side.next f.spans in
    record {
      form = completed a.form f.form;
      spans = record { shown = c.shown ∙ q.shown; sized = q.sized ∙ sym c.next_is };
      reads = subst (λ k. Leads room least from w (λ s. holds (completed a.form f.form) s) (rest tokens k)) (sym c.next_is)
          (operator_reads a.form f.form room (right (row_between p.between)) low (omega (arith, b.0, a.right_is)) (omega (arith, b.1, a.right_is)) (sym a.right_is) (λ h. a.arrow) (λ d. omega (arith, a.as_deep d)) a.reads f.reads f.rests);
      edge_is = a.ends_is f.form ∙ ap (min (edge (row_between p.between))) f.edge_is ∙ sym c.edge_is;
      rests = subst (λ k. Rests free (ends (completed a.form f.form)) (rest tokens k)) (sym c.next_is)
          (operator_rests a.form f.form (right (row_between p.between)) (rest tokens right_side.next) (omega (arith, b.0, a.right_is)) (omega (arith, b.1, a.right_is)) (sym a.right_is) f.rests);
      follows = subst (λ k. Follows tokens k (next_view r.behind)) (sym c.next_is) (subst (λ n. Follows tokens right_side.next (next_view n)) (sym c.behind_is) f.follows);
      bare = λ h. subst (λ k. ends_yield (head_continuation (rest tokens k)) ≡ true) (sym c.next_is) (f.bare (sym (a.bare_is f.form) ∙ h));
      ahead = omega (arith, f.ahead, c.next_is);
      within = omega (arith, f.within, c.next_is);
      deep = f.deep;
    }

-- among operators of more powers
pub opened : {room : ℕ} (tokens : List Token) (at least : ℕ) (r : Read) → least ≤ free → Found room free free (λ s. expects s) (rest tokens at) tokens at at r → Found room least free (λ s. expects s) (rest tokens at) tokens at at r
opened tokens at least r low f = record {
  form = f.form;
  spans = f.spans;
  reads = weaken low f.reads;
  edge_is = f.edge_is;
  rests = f.rests;
  follows = f.follows;
  bare = f.bare;
  ahead = f.ahead;
  within = f.within;
  deep = f.deep;
}

-- where no operator goes on
pub settled : {room : ℕ} (tokens : List Token) (at least : ℕ) (r : Read) → (Rests free r.edge (rest tokens r.next) → Rests least r.edge (rest tokens r.next)) → Found room least free (λ s. expects s) (rest tokens at) tokens at at r
    → Found room least least (λ s. expects s) (rest tokens at) tokens at at r
settled tokens at least r sees f = record {
  form = f.form;
  spans = f.spans;
  reads = f.reads;
  edge_is = f.edge_is;
  rests = subst (λ k. Rests free k (rest tokens r.next) → Rests least k (rest tokens r.next)) (sym f.edge_is) sees f.rests;
  follows = f.follows;
  bare = f.bare;
  ahead = f.ahead;
  within = f.within;
  deep = f.deep;
}

pub waits_behind : {room least : ℕ} {from : OpenForms → State} {x w : List Symbol} (tokens : List Token) (start : ℕ) (mid : OpenForms → State) (p : Pending) (next : ℕ)
    → Leads room least from x mid w → Waits room least mid w tokens start p next → Waits room least from x tokens start p next
waits_behind tokens start mid p next a h = record {
  form = h.form;
  reads = leads mid a h.reads;
  least_is = h.least_is;
  right_is = h.right_is;
  as_deep = h.as_deep;
  arrow = h.arrow;
  shown = h.shown;
  ends_is = h.ends_is;
  bare_is = h.bare_is;
  ahead = h.ahead;
  within = h.within;
}

pub onward_behind : {room least : ℕ} {from : OpenForms → State} {x w : List Symbol} (tokens : List Token) (start at place : ℕ) (mid : OpenForms → State) (r : Result Onward Stop) → at ≤ place
    → Leads room least from x mid w → LeadsOn room least mid w tokens start place r → LeadsOn room least from x tokens start at r
onward_behind tokens start at place mid (Ok (onward.Behind r)) ahead a h = behind free tokens start at place mid (Ok r) ahead a h
onward_behind tokens start at place mid (Ok (onward.Inside p next)) ahead a h = (waits_behind tokens start mid p next a h.0, omega (arith, h.1))
onward_behind tokens start at place mid (Err e) ahead a h = later tokens at place mid e ahead a h

-- ---- lists of them

pub pends_push : (room least : ℕ) (tokens : List Token) (at : ℕ) (ps : List Pending) (p : Pending) (inner inner_at next : ℕ) → Pends room least tokens at ps inner inner_at
    → Waits room inner (λ s. expects s) (rest tokens inner_at) tokens inner_at p next → Pends room least tokens at (ps ++ p ∷ []) (right (row_between p.between)) next
pends_push room least tokens at [] p inner inner_at next h waits =
    record { next = next; waits = subst (λ k. Waits room least (λ s. expects s) (rest tokens k) tokens k p next) (sym h.1) (subst (λ k. Waits room k (λ s. expects s) (rest tokens inner_at) tokens inner_at p next) (sym h.0) waits); more = (refl, refl) }
pends_push room least tokens at (q ∷ ps) p inner inner_at next h waits =
    record { next = h.next; waits = h.waits; more = pends_push room (right (row_between q.between)) tokens h.next ps p inner inner_at next h.more waits }

pub record Popped (room least : ℕ) (tokens : List Token) (at : ℕ) (ps : List Pending) (p : Pending) (inner inner_at : ℕ) : Type 0 where
  pub outer_at : ℕ
  pub pends : Pends room least tokens at ps p.least outer_at
  pub waits : Waits room p.least (λ s. expects s) (rest tokens outer_at) tokens outer_at p inner_at
  pub inner_is : right (row_between p.between) ≡ inner
  pub low : p.least ≤ free
  pub some : 1 ≤ p.least

pub pends_pop : (room least : ℕ) (tokens : List Token) (at : ℕ) (ps : List Pending) (p : Pending) (inner inner_at : ℕ) → 1 ≤ least → least ≤ free → Pends room least tokens at (ps ++ p ∷ []) inner inner_at
    → Popped room least tokens at ps p inner inner_at
pends_pop room least tokens at [] p inner inner_at some low h = record {
  outer_at = at;
  pends = (sym h.waits.least_is, refl);
  waits = subst (λ k. Waits room p.least (λ s. expects s) (rest tokens at) tokens at p k) h.more.1 (subst (λ k. Waits room k (λ s. expects s) (rest tokens at) tokens at p h.next) (sym h.waits.least_is) h.waits);
  inner_is = h.more.0;
  low = omega (arith, h.waits.least_is);
  some = omega (arith, h.waits.least_is);
}
pends_pop room least tokens at (q ∷ ps) p inner inner_at some low h =
    let b = row_bounds q.between in
    let r = pends_pop room (right (row_between q.between)) tokens h.next ps p inner inner_at (omega (arith, b.0)) b.1 h.more in
    record {
      outer_at = r.outer_at;
      pends = record { next = h.next; waits = h.waits; more = r.pends };
      waits = r.waits;
      inner_is = r.inner_is;
      low = r.low;
      some = r.some;
    }

-- a failure inside them
pub pends_fail : (room least : ℕ) (tokens : List Token) (at : ℕ) (ps : List Pending) (inner inner_at : ℕ) (e : Stop) → least ≤ free → Pends room least tokens at ps inner inner_at
    → Fails room inner (λ s. expects s) (rest tokens inner_at) tokens inner_at e → Fails room least (λ s. expects s) (rest tokens at) tokens at e
pends_fail room least tokens at [] inner inner_at e low h f =
    subst (λ k. Fails room least (λ s. expects s) (rest tokens k) tokens k e) (sym h.1) (subst (λ k. Fails room k (λ s. expects s) (rest tokens inner_at) tokens inner_at e) (sym h.0) f)
pends_fail room least tokens at (p ∷ ps) inner inner_at e low h f =
    let w = h.waits in
    within tokens at h.next room (right (row_between p.between)) w.form e (omega (arith, w.ahead)) (inr (omega arith)) (omega (arith, w.right_is)) (λ d. omega (arith, w.as_deep d)) w.reads
    (pends_fail room (right (row_between p.between)) tokens h.next ps inner inner_at e ((row_bounds p.between).1) h.more f)

pub length_push : (ps new : List Pending) (p : Pending) → new ≡ ps ++ p ∷ [] → length new ≡ suc (length ps)
length_push [] new p h = ap length h
length_push (q ∷ ps) new p h = ap length h ∙ ap (λ n. suc n) (length_push ps (ps ++ p ∷ []) p refl)
