use Rattle.std.proofs.Common.{◌∙◌, map, refl, ap, arith}
use Rattle.std.proofs.lemmas.Result.{err_from_is_err_and}
use Rattle.php_ast.specs.expression.Tree.{none, and, plain}
use Rattle.php_ast.specs.expression.View.{view, values_from}
use Rattle.php_build.specs.Flat.{are_flat, shape}
use Rattle.php_build.proofs.Flats.{all_push}
use Rattle.php_grammar.specs.statement.Forms.{as_value}
use Rattle.php_grammar.specs.statement.Machine.{expected, filled}
use Rattle.php_reader.specs.Seen.{rest}
use Rattle.php_parse_simple.specs.Walk.{walk_behind}
use Rattle.php_parse_simple.proofs.Bridge.{passed}
use Rattle.php_parse_simple.proofs.Fails.{later, failed}
use Rattle.php_parse_simple.proofs.Inside.{expression_walk, read_leads}
use Rattle.php_parse_simple.proofs.Moves.{leads}
use Rattle.php_parse_simple.proofs.Named.{values_more}
use Rattle.php_parse_simple.proofs.values.values.Goals as goal

pub loop-items-init : goal.loop-items-init
loop-items-init c = record {
  items = none;
  shown = ap (λ l. values_from none (map view l)) c.new-items.ensures;
  sized = omega arith;
  reads = λ values. record { same = λ n o is. refl };
  within = c.requires;
  flat = ap are_flat c.new-items.ensures;
}

pub returns-in_err-read : goal.returns-in_err-read
returns-in_err-read c =
    let v = c.loop-items.invariant in
    let q = err_from_is_err_and c.from_residual.result c.from_residual.ensures.1 in
    rw (q.1, q.2) (λ values. later c.args.reader.now.tokens.now c.args.at c.loop-items.next (λ o. expected (as_value values v.items) o) c.in_err-read.field-0.0 (omega (arith, v.sized)) (v.reads values)
    (failed _ _ (as_value values v.items) c.args.reader.now.room c.args.reader.now.tokens.now c.loop-items.next c.in_err-read.field-0.0 (λ o. refl) c.in_err-read.ensures))

pub returns-then-not-ends : goal.returns-then-not-ends
returns-then-not-ends c =
    let v = c.loop-items.invariant in
    let r = c.in_ok-read.ensures in
    record {
      items = v.items;
      last = r.form;
      shown = values_more c.args.reader.now.tokens.now c.args.at c.loop-items.next v.items r.form c.loop-items.items _ _ c.in_ok-push.ensures.ok v.shown v.sized r.spans.shown;
      sized = omega (arith, v.sized, r.spans.sized);
      reads = λ values n o is. (v.reads values).same n o is ∙ expression_walk n c.args.reader.now.room (as_value values v.items) o (rest c.args.reader.now.tokens.now c.loop-items.next) is
          ∙ ap (passed (λ f u. walk_behind n (as_value values v.items) f o u)) r.reads;
      no_comma = c.if-not-ends.ensures.no refl;
      ahead = omega (arith, v.sized, r.ahead);
      within = r.within;
      some = r.some;
      flat = all_push (λ s. s.flat) shape c.loop-items.items _ _ c.in_ok-push.ensures.ok v.flat c.in_ok-read.read.flat;
    }

pub loop-items-preserved : goal.loop-items-preserved
loop-items-preserved c =
    let v = c.loop-items.invariant in
    let r = c.in_ok-read.ensures in
    let e = c.if-not-ends.ensures.yes refl in
    record {
      items = and v.items plain r.form;
      shown = values_more c.args.reader.now.tokens.now c.args.at c.loop-items.next v.items r.form c.loop-items.items _ _ c.in_ok-push.ensures.ok v.shown v.sized r.spans.shown;
      sized = omega (arith, v.sized, r.spans.sized);
      reads = λ values. leads (λ o. expected (as_value values v.items) o) (v.reads values)
          (read_leads (as_value values v.items) c.args.reader.now.room r.form e.token (λ o. expected (as_value values (and v.items plain r.form)) o) (λ o. refl) r.some r.reads e.stands.is (λ o. ap (filled (as_value values v.items) r.form o) e.role_is));
      within = omega (arith, e.stands.within);
      flat = all_push (λ s. s.flat) shape c.loop-items.items _ _ c.in_ok-push.ensures.ok v.flat c.in_ok-read.read.flat;
    }

pub loop-items-smaller : goal.loop-items-smaller
loop-items-smaller c =
    let r = c.in_ok-read.ensures in
    let e = c.if-not-ends.ensures.yes refl in
    omega (arith, r.ahead, e.stands.within)
