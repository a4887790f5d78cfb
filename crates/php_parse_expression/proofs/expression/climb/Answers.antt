use Rattle.std.proofs.Common.{◌++◌, ◌∷◌, [], arith, sym, subst}
use Rattle.std.proofs.lemmas.Result.{err_from_is_err_and}
use Rattle.php_grammar.specs.expression.Machine.{expects, holds}
use Rattle.php_ast.specs.expression.Proper.{right, free}
use Rattle.php_parse_expression.specs.BetweenView.{row_between}
use Rattle.php_reader.specs.Seen.{rest}
use Rattle.php_parse_operands.specs.Answer.{Found}
use Rattle.php_parse_expression.specs.Climb.{Pends}
use Rattle.php_parse_operands.proofs.Fails.{later, fewer}
use Rattle.php_parse_expression.proofs.Pendings.{row_bounds, closes, opened, settled, waits_behind, pends_push, pends_pop, pends_fail, length_push}
use Rattle.php_parse_expression.proofs.expression.climb.Goals as goal

pub returns-in_err-longer-in-Some : goal.returns-in_err-longer-in-Some
returns-in_err-longer-in-Some g c =
    let v = c.loop-op.invariant in
    let q = err_from_is_err_and c.from_residual-in_err-longer-in-Some.result c.from_residual-in_err-longer-in-Some.ensures.1 in
    rw (q.1, q.2) (pends_fail c.args.parser.now.reader.room c.args.least c.args.parser.now.reader.tokens.now c.args.at c.loop-op.pending c.loop-op.inner v.inner_at c.in_err-longer-in-Some.field-0.0 c.requires.small v.pends
    (later c.args.parser.now.reader.tokens.now v.inner_at c.loop-op.read.next (λ s. holds v.found.form s) c.in_err-longer-in-Some.field-0.0 (omega (arith, v.found.ahead)) v.found.reads
    (c.in_err-longer-in-Some.ensures v.found.form v.inner_at v.found.spans v.found.edge_is)))

pub returns-in_err-read-in-Inside : goal.returns-in_err-read-in-Inside
returns-in_err-read-in-Inside g c =
    let v = c.loop-op.invariant in
    let outer = c.in-Inside.outer in
    let next = c.in-Inside.next in
    let k = (rw c.in-Inside.is at c.in_ok-longer-in-Some.ensures) v.found.form v.inner_at v.found.spans v.found.edge_is in
    let w = waits_behind c.args.parser.now.reader.tokens.now v.inner_at (λ s. holds v.found.form s) c.in-Inside.outer c.in-Inside.next v.found.reads k.0 in
    let q = err_from_is_err_and c.from_residual-in_err-read-in-Inside.result c.from_residual-in_err-read-in-Inside.ensures.1 in
    rw (q.1, q.2) (pends_fail c.args.parser.now.reader.room c.args.least c.args.parser.now.reader.tokens.now c.args.at (c.loop-op.pending ++ c.in-Inside.outer ∷ []) (right (row_between c.in-Inside.outer.between)) c.in-Inside.next c.in_err-read-in-Inside.field-0.0 c.requires.small
    (pends_push c.args.parser.now.reader.room c.args.least c.args.parser.now.reader.tokens.now c.args.at c.loop-op.pending c.in-Inside.outer c.loop-op.inner v.inner_at c.in-Inside.next v.pends w)
    (fewer c.args.parser.now.reader.room (right (row_between c.in-Inside.outer.between)) free (λ s. expects s) (rest c.args.parser.now.reader.tokens.now c.in-Inside.next) c.args.parser.now.reader.tokens.now c.in-Inside.next c.in_err-read-in-Inside.field-0.0
    ((row_bounds c.in-Inside.outer.between).1) c.in_err-read-in-Inside.ensures))

pub loop-op-preserved-in-Inside : goal.loop-op-preserved-in-Inside
loop-op-preserved-in-Inside g c =
    let v = c.loop-op.invariant in
    let b = row_bounds c.in-Inside.outer.between in
    let k = (rw c.in-Inside.is at c.in_ok-longer-in-Some.ensures) v.found.form v.inner_at v.found.spans v.found.edge_is in
    let w = waits_behind c.args.parser.now.reader.tokens.now v.inner_at (λ s. holds v.found.form s) c.in-Inside.outer c.in-Inside.next v.found.reads k.0 in
    record {
      inner_at = c.in-Inside.next;
      pends = subst (λ ps. Pends c.args.parser.now.reader.room c.args.least c.args.parser.now.reader.tokens.now c.args.at ps c.right-inner.result c.in-Inside.next) (sym c.in_ok-push-in-Inside.ensures.ok)
          (subst (λ n. Pends c.args.parser.now.reader.room c.args.least c.args.parser.now.reader.tokens.now c.args.at (c.loop-op.pending ++ c.in-Inside.outer ∷ []) n c.in-Inside.next) (sym c.right-inner.ensures)
          (pends_push c.args.parser.now.reader.room c.args.least c.args.parser.now.reader.tokens.now c.args.at c.loop-op.pending c.in-Inside.outer c.loop-op.inner v.inner_at c.in-Inside.next v.pends w));
      found = opened c.args.parser.now.reader.tokens.now c.in-Inside.next c.right-inner.result c.in_ok-read-in-Inside.read (omega (arith, c.right-inner.ensures, b.1)) c.in_ok-read-in-Inside.ensures;
      some = omega (arith, c.right-inner.ensures, b.0);
      most = omega (arith, c.right-inner.ensures, b.1);
    }

pub loop-op-preserved : goal.loop-op-preserved
loop-op-preserved g c =
    let v = c.loop-op.invariant in
    let p = pends_pop c.args.parser.now.reader.room c.args.least c.args.parser.now.reader.tokens.now c.args.at c.pop.new.self c.in-Some-pop.outer c.loop-op.inner v.inner_at c.requires.some c.requires.small
    (subst (λ ps. Pends c.args.parser.now.reader.room c.args.least c.args.parser.now.reader.tokens.now c.args.at ps c.loop-op.inner v.inner_at) c.in-Some-pop.ensures v.pends) in
    let f = settled c.args.parser.now.reader.tokens.now v.inner_at c.loop-op.inner c.loop-op.read ((rw c.in-None.is at c.operator_of.ensures) _ _ v.found.follows) v.found in
    record {
      inner_at = p.outer_at;
      pends = p.pends;
      found = closes c.args.parser.now.reader.tokens.now p.outer_at p.outer_at v.inner_at c.in-Some-pop.outer c.loop-op.read c.in_ok-read-in-Some-pop.read p.low (omega (arith, p.waits.ahead)) p.waits
          (subst (λ n. Found c.args.parser.now.reader.room n n (λ s. expects s) (rest c.args.parser.now.reader.tokens.now v.inner_at) c.args.parser.now.reader.tokens.now v.inner_at v.inner_at c.loop-op.read) (sym p.inner_is) f) c.in_ok-read-in-Some-pop.ensures;
      some = p.some;
      most = p.low;
    }

pub operator-requires-clause-here : goal.operator-requires-clause-here
operator-requires-clause-here g c = (c.in-Some.ensures c.args.parser.now.reader.tokens.now c.loop-op.read.next c.loop-op.invariant.found.follows).0

pub operator-requires-clause-near : goal.operator-requires-clause-near
operator-requires-clause-near g c = (c.in-Some.ensures c.args.parser.now.reader.tokens.now c.loop-op.read.next c.loop-op.invariant.found.follows).1

pub operator-requires-clause-low : goal.operator-requires-clause-low
operator-requires-clause-low g c = (c.in-Some.ensures c.args.parser.now.reader.tokens.now c.loop-op.read.next c.loop-op.invariant.found.follows).2

pub loop-op-smaller-in-Inside : goal.loop-op-smaller-in-Inside
loop-op-smaller-in-Inside g c =
    let v = c.loop-op.invariant in
    let k = (rw c.in-Inside.is at c.in_ok-longer-in-Some.ensures) v.found.form v.inner_at v.found.spans v.found.edge_is in
    let r = c.in_ok-read-in-Inside.ensures in
    omega (arith, k.1, k.0.within, r.ahead, r.within, length_push c.loop-op.pending _ c.in-Inside.outer c.in_ok-push-in-Inside.ensures.ok)
