use Rattle.std.proofs.Common.{◌+◌, refl, ap, arith}
use Rattle.std.proofs.lemmas.Result.{err_from_is_err_and}
use Rattle.php_ast.specs.expression.Placed.{notes_of}
use Rattle.php_ast.specs.statement.Tree.{empty, then_also, constants}
use Rattle.php_ast.specs.statement.View.{constant_view, sequence}
use Rattle.php_ast.specs.statement.Placed.{size_constant, noted_constant}
use Rattle.std.specs.List.{list_all}
use Rattle.php_flat.specs.Statements.{is_flat_constant}
use Rattle.php_grammar.specs.statement.Role.{at_constants}
use Rattle.php_grammar.specs.statement.Forms.{as_constant, of_constants, due_name, done}
use Rattle.php_grammar.specs.statement.Machine.{filled}
use Rattle.php_parse_simple.proofs.Fails.{later}
use Rattle.php_flat.proofs.Lists.{all_with}
use Rattle.php_parse_simple.proofs.Moves.{leads, leads_halts}
use Rattle.php_parse_simple.proofs.Plain.{begins}
use Rattle.php_parse_simple.proofs.Named.{sequence_more, constants_lead, constants_halt, constants_spans}
use Rattle.php_parse_simple.proofs.names.constants.Goals as goal

pub loop-items-init : goal.loop-items-init
loop-items-init c =
    let h = c.requires.here in
    record {
      constants = empty;
      spans = record { shown_is = ap (sequence constant_view) c.new-items.ensures; sized = omega arith };
      reads = begins at_constants h.token h.stands.is h.role_is (λ o. refl) (λ o. refl) c.requires.some;
      within = omega (arith, h.stands.within);
      flat = ap (list_all is_flat_constant) c.new-items.ensures;
    }

pub returns-in_err-entry : goal.returns-in_err-entry
returns-in_err-entry c =
    let v = c.loop-items.invariant in
    let q = err_from_is_err_and c.from_residual.result c.from_residual.ensures.1 in
    rw (q.1, q.2) (later c.args.reader.now.tokens.now c.args.at c.loop-items.next (λ o. due_name (of_constants v.constants) o) c.in_err-entry.field-0.0 (omega (arith, v.spans.sized)) v.reads (c.in_err-entry.ensures v.constants))

pub returns-then-ends : goal.returns-then-ends
returns-then-ends c =
    let v = c.loop-items.invariant in
    let r = c.in_ok-entry.ensures in
    let e = c.if-ends.ensures.yes refl in
    let all = then_also v.constants r.constant in
    record {
      form = constants tt all;
      spans = constants_spans c.args.reader.now.tokens.now _ _ _ all c.args.at _ c.constants_statement.ensures.shown c.spot.ensures
          (sequence_more constant_view size_constant (noted_constant (notes_of c.args.reader.now.tokens.now)) (c.args.at + 1) c.loop-items.next v.constants r.constant c.loop-items.items _ _ c.in_ok-push.ensures.ok v.spans r.shown) (omega (arith, v.spans.sized, r.sized));
      reads = leads (λ o. due_name (of_constants v.constants) o) v.reads
          (constants_lead v.constants r.constant e.token (λ o. done (constants tt all) o) c.requires.some (r.reads v.constants) e.stands.is (λ o. ap (filled (as_constant v.constants r.constant.name) r.constant.value o) e.role_is));
      ahead = omega (arith, v.spans.sized, r.ahead);
      within = omega (arith, e.stands.within);
    }

pub returns-then-not-ends : goal.returns-then-not-ends
returns-then-not-ends c =
    let v = c.loop-items.invariant in
    let r = c.in_ok-entry.ensures in
    record {
      halts = leads_halts (λ o. due_name (of_constants v.constants) o) v.reads (constants_halt v.constants r.constant (r.reads v.constants) (c.if-not-ends.ensures.no refl) (c.if-ends.ensures.no refl));
      ahead = omega (arith, v.spans.sized, r.ahead);
      within = r.within;
    }

pub loop-items-preserved : goal.loop-items-preserved
loop-items-preserved c =
    let v = c.loop-items.invariant in
    let r = c.in_ok-entry.ensures in
    let e = c.if-not-ends.ensures.yes refl in
    let all = then_also v.constants r.constant in
    record {
      constants = all;
      spans = record {
        shown_is = sequence_more constant_view size_constant (noted_constant (notes_of c.args.reader.now.tokens.now)) (c.args.at + 1) c.loop-items.next v.constants r.constant c.loop-items.items _ _ c.in_ok-push.ensures.ok v.spans r.shown;
        sized = omega (arith, v.spans.sized, r.sized);
      };
      reads = leads (λ o. due_name (of_constants v.constants) o) v.reads
          (constants_lead v.constants r.constant e.token (λ o. due_name (of_constants all) o) c.requires.some (r.reads v.constants) e.stands.is (λ o. ap (filled (as_constant v.constants r.constant.name) r.constant.value o) e.role_is));
      within = omega (arith, e.stands.within);
      flat = all_with is_flat_constant c.loop-items.items _ _ c.in_ok-push.ensures.ok v.flat r.flat;
    }

pub constants_statement-requires : goal.constants_statement-requires
constants_statement-requires c =
    let v = c.loop-items.invariant in
    let r = c.in_ok-entry.ensures in
    all_with is_flat_constant c.loop-items.items _ _ c.in_ok-push.ensures.ok v.flat r.flat
