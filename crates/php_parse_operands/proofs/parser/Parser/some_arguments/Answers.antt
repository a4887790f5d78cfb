use Rattle.std.proofs.Common.{◌∷◌}
use Rattle.std.proofs.Common.{refl, arith, ap}
use Rattle.std.proofs.lemmas.Result.{err_from_is_err_and}
use Rattle.php_parse_operands.proofs.Fails.{later}
use Rattle.php_ast.specs.expression.Tree.{none, and}
use Rattle.php_grammar.specs.expression.Machine.{holds, past_items, items_open}
use Rattle.php_parse_operands.proofs.Moves.{leads, leads_halts}
use Rattle.php_parse_operands.proofs.Listings.{comma_reads, paren_reads, item_unclosed, paren_halts, arguments_paren, arguments_no_array}
use Rattle.php_parse_operands.proofs.ListNotes.{arguments_more}
use Rattle.std.proofs.Common.{map}
use Rattle.php_ast.specs.expression.View.{arguments_from, view}
use Rattle.php_ast.specs.expression.Parts.{argument_with}
use Rattle.php_build.specs.Flat.{shape, argument_flat, are_flat_arguments}
use Rattle.php_build.proofs.Flats.{all_push}
use Rattle.php_parse_operands.proofs.parser.Parser.some_arguments.Goals as goal

pub loop-items-init : goal.loop-items-init
loop-items-init g c = record {
  items = none;
  shown = ap (λ l. arguments_from none (map (argument_with view) l)) c.new-items.ensures;
  sized = omega arith;
  flat = ap are_flat_arguments c.new-items.ensures;
  reads = λ h is. record { same = λ n s whole near at. refl };
  no_end = c.requires.no_end;
  seen = c.requires.seen;
  within = c.requires.within;
}

pub returns-in_err-entry : goal.returns-in_err-entry
returns-in_err-entry g c =
    let v = c.loop-items.invariant in
    let q = err_from_is_err_and c.from_residual.result c.from_residual.ensures.1 in
    rw (q.1, q.2) (λ h is. later c.args.self.now.reader.tokens.now c.args.at c.loop-items.next (λ s. past_items h v.items s) c.in_err-entry.field-0.0 (omega (arith, v.sized)) (v.reads h is) (c.in_err-entry.ensures h v.items is))

pub returns-then-closed_by : goal.returns-then-closed_by
returns-then-closed_by g c =
    let v = c.loop-items.invariant in
    let i = c.in_ok-entry.ensures in
    let e = c.if-closed_by.ensures.yes refl _ _ i.follows in
    record {
      items = and v.items i.lead i.form;
      spans = record {
        shown = arguments_more c.args.self.now.reader.tokens.now c.args.at c.loop-items.next v.items i.lead i.form c.loop-items.items _ _ c.in_ok-push.ensures.ok v.shown v.sized i.shown;
        sized = omega (arith, v.sized, i.sized);
      };
      flat = all_push argument_flat (argument_with shape) c.loop-items.items _ _ c.in_ok-push.ensures.ok v.flat i.flat;
      reads = λ h is. leads (λ s. past_items h v.items s) (v.reads h is) (leads (λ s. holds i.form (items_open h v.items i.lead ∷ s)) (i.reads h v.items is)
          (paren_reads e.token h v.items i.lead i.form e.stands.is e.role_is (arguments_paren h is) i.deep));
      ahead = omega (arith, v.sized, i.ahead);
      within = omega (arith, e.stands.within);
    }

pub returns-then-not-closed_by : goal.returns-then-not-closed_by
returns-then-not-closed_by g c = λ h is.
    let v = c.loop-items.invariant in
    let i = c.in_ok-entry.ensures in
    record {
      halts = leads_halts (λ s. past_items h v.items s) (v.reads h is) (leads_halts (λ s. holds i.form (items_open h v.items i.lead ∷ s)) (i.reads h v.items is)
          (item_unclosed h v.items i.lead i.form i.rests (record {
            no_comma = c.if-not-closed_by.ensures.no refl _ _ i.follows;
            no_paren = λ a. c.if-closed_by.ensures.no refl _ _ i.follows;
            no_bracket = λ a. let b = arguments_paren h is in cc;
            no_key = λ a. let b = arguments_no_array h is in cc;
          })));
      ahead = omega (arith, v.sized, i.ahead);
      within = i.within;
    }

pub returns-then-ended_by : goal.returns-then-ended_by
returns-then-ended_by g c = λ h is.
    let v = c.loop-items.invariant in
    let i = c.in_ok-entry.ensures in
    let e = c.if-not-closed_by.ensures.yes refl _ _ i.follows in
    let p = c.if-ended_by.ensures.yes refl _ _ c.due_at-due.ensures.marks in
    record {
      halts = leads_halts (λ s. past_items h v.items s) (v.reads h is) (leads_halts (λ s. holds i.form (items_open h v.items i.lead ∷ s)) (i.reads h v.items is)
          (leads_halts (λ s. past_items h (and v.items i.lead i.form) s) (comma_reads e.token h v.items i.lead i.form e.stands.is e.role_is i.deep)
          (paren_halts p.token h (and v.items i.lead i.form) is refl p.stands.is p.role_is)));
      ahead = omega (arith, v.sized, i.ahead);
      within = omega (arith, p.stands.within);
    }

pub loop-items-preserved : goal.loop-items-preserved
loop-items-preserved g c =
    let v = c.loop-items.invariant in
    let i = c.in_ok-entry.ensures in
    let e = c.if-not-closed_by.ensures.yes refl _ _ i.follows in
    record {
      items = and v.items i.lead i.form;
      shown = arguments_more c.args.self.now.reader.tokens.now c.args.at c.loop-items.next v.items i.lead i.form c.loop-items.items _ _ c.in_ok-push.ensures.ok v.shown v.sized i.shown;
      sized = omega (arith, v.sized, i.sized);
      flat = all_push argument_flat (argument_with shape) c.loop-items.items _ _ c.in_ok-push.ensures.ok v.flat i.flat;
      reads = λ h is. leads (λ s. past_items h v.items s) (v.reads h is) (leads (λ s. holds i.form (items_open h v.items i.lead ∷ s)) (i.reads h v.items is)
          (comma_reads e.token h v.items i.lead i.form e.stands.is e.role_is i.deep));
      no_end = c.if-ended_by.ensures.no refl _ _ c.due_at-due.ensures.marks;
      seen = record { starts = c.due_at-due.ensures.starts; marks = c.due_at-due.ensures.marks };
      within = omega (arith, e.stands.within);
    }

pub loop-items-smaller : goal.loop-items-smaller
loop-items-smaller g c =
    let i = c.in_ok-entry.ensures in
    let e = c.if-not-closed_by.ensures.yes refl _ _ i.follows in
    omega (arith, i.ahead, e.stands.within)

pub overflow_add-result : goal.overflow_add-result
overflow_add-result g c = let e = c.if-closed_by.ensures.yes refl _ _ c.in_ok-entry.ensures.follows in omega (arith, e.stands.fits)

pub overflow_add-next : goal.overflow_add-next
overflow_add-next g c = let e = c.if-not-closed_by.ensures.yes refl _ _ c.in_ok-entry.ensures.follows in omega (arith, e.stands.fits)
