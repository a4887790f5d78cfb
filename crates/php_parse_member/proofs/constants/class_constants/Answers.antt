use Rattle.std.proofs.Common.{refl, ap, arith}
use Rattle.std.proofs.lemmas.Result.{err_from_is_err_and}
use Rattle.std.specs.List.{list_all}
use Rattle.php_ast.specs.expression.Placed.{notes_of}
use Rattle.php_ast.specs.statement.Tree.{empty, then_also}
use Rattle.php_ast.specs.statement.View.{sequence}
use Rattle.php_ast.specs.declaration.Tree.{class_constants}
use Rattle.php_ast.specs.declaration.Placed.{size_class_constant, noted_class_constant}
use Rattle.php_ast.specs.declaration.View.{class_constant_view}
use Rattle.php_flat.specs.Declarations.{is_flat_class_constant}
use Rattle.php_grammar.specs.declaration.MemberMachine.{due_constant, past_member, constant_end}
use Rattle.php_parse_simple.proofs.Named.{sequence_more}
use Rattle.php_parse_member.proofs.Moves.{leads, leads_halts, later}
use Rattle.php_parse_member.proofs.Ends.{constant_ends, constant_unended}
use Rattle.php_flat.proofs.Lists.{all_with}
use Rattle.php_parse_member.proofs.constants.class_constants.Goals as goal

pub loop-constants-init : goal.loop-constants-init
loop-constants-init c = record {
  items = empty;
  spans = record { shown_is = ap (sequence class_constant_view) c.new-constants.ensures; sized = omega arith };
  flat = ap (list_all is_flat_class_constant) c.new-constants.ensures;
  reads = λ ms. record { same = λ n is. refl };
  ahead = omega arith;
  within = c.requires.within;
}

pub returns-in_err-read : goal.returns-in_err-read
returns-in_err-read c =
    let v = c.loop-constants.invariant in
    let q = err_from_is_err_and c.from_residual.result c.from_residual.ensures.1 in
    rw (q.1, q.2) (λ ms. later c.args.reader.now.tokens.now c.args.at c.loop-constants.next (due_constant ms v.items) c.in_err-read.field-0.0 v.ahead (v.reads ms) (c.in_err-read.ensures ms v.items))

pub returns-then-ends : goal.returns-then-ends
returns-then-ends c =
    let v = c.loop-constants.invariant in
    let r = c.in_ok-read.ensures in
    let e = c.if-ends.ensures.yes refl in
    record {
      items = then_also v.items r.form;
      shown = sequence_more class_constant_view size_class_constant (noted_class_constant (notes_of c.args.reader.now.tokens.now)) c.args.at c.loop-constants.next v.items r.form c.loop-constants.constants _ _ c.in_ok-push.ensures.ok v.spans r.shown;
      sized = omega (arith, v.spans.sized, r.sized);
      reads = λ ms. leads (due_constant ms v.items) (v.reads ms)
          (constant_ends ms v.items (then_also v.items r.form) e.token (past_member (class_constants ms (then_also v.items r.form))) (r.reads ms v.items) e.stands.is (ap (constant_end ms (then_also v.items r.form)) e.role_is));
      ahead = omega (arith, v.ahead, r.ahead);
      within = omega (arith, e.stands.within);
    }

pub returns-then-not-ends : goal.returns-then-not-ends
returns-then-not-ends c =
    let v = c.loop-constants.invariant in
    let r = c.in_ok-read.ensures in
    λ ms. record {
      halts = leads_halts (due_constant ms v.items) (v.reads ms) (constant_unended ms v.items (then_also v.items r.form) (r.reads ms v.items) (c.if-not-ends.ensures.no refl) (c.if-ends.ensures.no refl));
      ahead = omega (arith, v.ahead, r.ahead);
      within = r.within;
    }

pub loop-constants-preserved : goal.loop-constants-preserved
loop-constants-preserved c =
    let v = c.loop-constants.invariant in
    let r = c.in_ok-read.ensures in
    let e = c.if-not-ends.ensures.yes refl in
    record {
      items = then_also v.items r.form;
      spans = record {
        shown_is = sequence_more class_constant_view size_class_constant (noted_class_constant (notes_of c.args.reader.now.tokens.now)) c.args.at c.loop-constants.next v.items r.form c.loop-constants.constants _ _ c.in_ok-push.ensures.ok v.spans r.shown;
        sized = omega (arith, v.spans.sized, r.sized);
      };
      flat = all_with is_flat_class_constant c.loop-constants.constants _ _ c.in_ok-push.ensures.ok v.flat c.in_ok-read.read.flat;
      reads = λ ms. leads (due_constant ms v.items) (v.reads ms)
          (constant_ends ms v.items (then_also v.items r.form) e.token (due_constant ms (then_also v.items r.form)) (r.reads ms v.items) e.stands.is (ap (constant_end ms (then_also v.items r.form)) e.role_is));
      ahead = omega (arith, v.ahead, r.ahead);
      within = omega (arith, e.stands.within);
    }

pub loop-constants-smaller : goal.loop-constants-smaller
loop-constants-smaller c =
    let r = c.in_ok-read.ensures in
    let e = c.if-not-ends.ensures.yes refl in
    omega (arith, r.ahead, e.stands.within)
