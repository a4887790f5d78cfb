use Rattle.std.proofs.Common.{◌∷◌}
use Rattle.std.proofs.Common.{◌∙◌, refl, arith, ap, sym}
use Rattle.std.proofs.lemmas.Result.{err_from_is_err_and}
use Rattle.php_parse_operands.proofs.Fails.{later}
use Rattle.php_grammar.specs.expression.Role.{closes}
use Rattle.php_ast.specs.expression.Tree.{none, and, skip, array}
use Rattle.php_grammar.specs.expression.Machine.{holds, past_items, items_open, of_list, ended_items}
use Rattle.php_parse_operands.proofs.Moves.{leads, leads_halts}
use Rattle.php_parse_operands.proofs.Listings.{comma_reads, array_reads, item_unclosed, missing_reads, missing_halts, end_reads, end_halts}
use Rattle.php_parse_operands.proofs.ListNotes.{items_more, items_skip, ended_spans, grown_some, shut_array}
use Rattle.std.proofs.Common.{map}
use Rattle.php_ast.specs.expression.View.{items_from, view}
use Rattle.php_parse_operands.specs.ListAnswer.{no_items}
use Rattle.php_ast.specs.expression.Parts.{item_with}
use Rattle.php_build.specs.Flat.{shape, item_flat, are_flat_items}
use Rattle.php_build.proofs.Flats.{all_push, ended_flat}
use Rattle.php_parse_operands.proofs.parser.Parser.items.Goals as goal

pub loop-form-init : goal.loop-form-init
loop-form-init g c = record {
  items = none;
  shown = ap (λ l. items_from none (map (item_with view) l)) c.new-items.ensures;
  sized = omega arith;
  flat = ap are_flat_items c.new-items.ensures;
  none_is = sym (ap no_items c.new-items.ensures);
  reads = record { same = λ n s whole near at. refl };
  within = c.requires.within;
}

pub returns-then-self-eq1 : goal.returns-then-self-eq1
returns-then-self-eq1 g c =
    let v = c.loop-form.invariant in
    let e = c.if-ended_by.ensures.yes refl _ _ c.due_at-due.ensures.marks in
    record {
      halts = leads_halts (λ s. past_items (of_list (array c.args.form)) v.items s) v.reads (end_halts e.token c.args.form v.items e.stands.is (e.role_is ∙ ap closes c.closer_of.ensures) c.if-self-eq1.true);
      ahead = omega (arith, v.sized);
      within = v.within;
    }

pub returns-then-ended_by : goal.returns-then-ended_by
returns-then-ended_by g c =
    let v = c.loop-form.invariant in
    let e = c.if-ended_by.ensures.yes refl _ _ c.due_at-due.ensures.marks in
    let deep = c.args.self.now.deep in
    record {
      items = ended_items v.items;
      spans = ended_spans c.args.self.now.reader.tokens.now c.args.at c.loop-form.next v.items c.loop-form.items _ v.none_is v.shown v.sized c.in_ok-ended.ensures.none c.in_ok-ended.ensures.some;
      flat = ended_flat c.loop-form.items _ v.flat c.in_ok-ended.ensures.none c.in_ok-ended.ensures.some;
      reads = leads (λ s. past_items (of_list (array c.args.form)) v.items s) v.reads (end_reads e.token c.args.form v.items e.stands.is (e.role_is ∙ ap closes c.closer_of.ensures) (omega arith));
      ahead = omega (arith, v.sized);
      within = omega (arith, e.stands.within);
    }

pub returns-then-self-eq1-2 : goal.returns-then-self-eq1-2
returns-then-self-eq1-2 g c =
    let v = c.loop-form.invariant in
    let e = c.if-ended_by-2.ensures.yes refl _ _ c.due_at-due.ensures.marks in
    record {
      halts = leads_halts (λ s. past_items (of_list (array c.args.form)) v.items s) v.reads (missing_halts e.token c.args.form v.items e.stands.is e.role_is c.if-self-eq1-2.true);
      ahead = omega (arith, v.sized);
      within = v.within;
    }

pub loop-form-preserved-then-ended_by-2 : goal.loop-form-preserved-then-ended_by-2
loop-form-preserved-then-ended_by-2 g c =
    let v = c.loop-form.invariant in
    let e = c.if-ended_by-2.ensures.yes refl _ _ c.due_at-due.ensures.marks in
    let deep = c.args.self.now.deep in
    record {
      items = skip v.items;
      shown = items_skip c.args.self.now.reader.tokens.now c.args.at v.items c.loop-form.items _ c.in_ok-push.ensures.ok v.shown;
      sized = omega (arith, v.sized);
      flat = all_push item_flat (item_with shape) c.loop-form.items _ _ c.in_ok-push.ensures.ok v.flat refl;
      none_is = sym (grown_some c.loop-form.items _ _ c.in_ok-push.ensures.ok);
      reads = leads (λ s. past_items (of_list (array c.args.form)) v.items s) v.reads (missing_reads e.token c.args.form v.items e.stands.is e.role_is (omega arith));
      within = omega (arith, e.stands.within);
    }

pub returns-in_err-entry : goal.returns-in_err-entry
returns-in_err-entry g c =
    let v = c.loop-form.invariant in
    let q = err_from_is_err_and c.from_residual-in_err-entry.result c.from_residual-in_err-entry.ensures.1 in
    rw (q.1, q.2) (later c.args.self.now.reader.tokens.now c.args.at c.loop-form.next (λ s. past_items (of_list (array c.args.form)) v.items s) c.in_err-entry.field-0.0 (omega (arith, v.sized)) v.reads (c.in_err-entry.ensures v.items))

pub returns-then-closed_by : goal.returns-then-closed_by
returns-then-closed_by g c =
    let v = c.loop-form.invariant in
    let i = c.in_ok-entry.ensures in
    let e = c.if-closed_by.ensures.yes refl _ _ i.follows in
    record {
      items = and v.items i.lead i.form;
      spans = record {
        shown = items_more c.args.self.now.reader.tokens.now c.args.at c.loop-form.next v.items i.lead i.form c.loop-form.items _ _ c.in_ok-push-2.ensures.ok v.shown v.sized i.shown;
        sized = omega (arith, v.sized, i.sized);
      };
      flat = all_push item_flat (item_with shape) c.loop-form.items _ _ c.in_ok-push-2.ensures.ok v.flat i.flat;
      reads = leads (λ s. past_items (of_list (array c.args.form)) v.items s) v.reads (leads (λ s. holds i.form (items_open (of_list (array c.args.form)) v.items i.lead ∷ s)) (i.reads v.items)
          (array_reads e.token c.args.form v.items i.lead i.form e.stands.is (e.role_is ∙ ap closes c.closer_of-else-ended_by-2.ensures) i.deep));
      ahead = omega (arith, v.sized, i.ahead);
      within = omega (arith, e.stands.within);
    }

pub returns-then-not-closed_by : goal.returns-then-not-closed_by
returns-then-not-closed_by g c =
    let v = c.loop-form.invariant in
    let i = c.in_ok-entry.ensures in
    record {
      halts = leads_halts (λ s. past_items (of_list (array c.args.form)) v.items s) v.reads (leads_halts (λ s. holds i.form (items_open (of_list (array c.args.form)) v.items i.lead ∷ s)) (i.reads v.items)
          (item_unclosed (of_list (array c.args.form)) v.items i.lead i.form i.rests
          (shut_array c.args.form i.lead _ (c.if-not-closed_by.ensures.no refl _ _ i.follows) (λ h. c.if-closed_by.ensures.no refl _ _ i.follows (h ∙ ap closes (sym c.closer_of-else-ended_by-2.ensures))) i.no_key)));
      ahead = omega (arith, v.sized, i.ahead);
      within = i.within;
    }

pub loop-form-preserved : goal.loop-form-preserved
loop-form-preserved g c =
    let v = c.loop-form.invariant in
    let i = c.in_ok-entry.ensures in
    let e = c.if-not-closed_by.ensures.yes refl _ _ i.follows in
    record {
      items = and v.items i.lead i.form;
      shown = items_more c.args.self.now.reader.tokens.now c.args.at c.loop-form.next v.items i.lead i.form c.loop-form.items _ _ c.in_ok-push-2.ensures.ok v.shown v.sized i.shown;
      sized = omega (arith, v.sized, i.sized);
      flat = all_push item_flat (item_with shape) c.loop-form.items _ _ c.in_ok-push-2.ensures.ok v.flat i.flat;
      none_is = sym (grown_some c.loop-form.items _ _ c.in_ok-push-2.ensures.ok);
      reads = leads (λ s. past_items (of_list (array c.args.form)) v.items s) v.reads (leads (λ s. holds i.form (items_open (of_list (array c.args.form)) v.items i.lead ∷ s)) (i.reads v.items)
          (comma_reads e.token (of_list (array c.args.form)) v.items i.lead i.form e.stands.is e.role_is i.deep));
      within = omega (arith, e.stands.within);
    }

pub loop-form-smaller-then-ended_by-2 : goal.loop-form-smaller-then-ended_by-2
loop-form-smaller-then-ended_by-2 g c = let e = c.if-ended_by-2.ensures.yes refl _ _ c.due_at-due.ensures.marks in omega (arith, e.stands.within)

pub loop-form-smaller : goal.loop-form-smaller
loop-form-smaller g c =
    let i = c.in_ok-entry.ensures in
    let e = c.if-not-closed_by.ensures.yes refl _ _ i.follows in
    omega (arith, i.ahead, e.stands.within)

pub overflow_add-result : goal.overflow_add-result
overflow_add-result g c = let e = c.if-ended_by.ensures.yes refl _ _ c.due_at-due.ensures.marks in omega (arith, e.stands.fits)

pub overflow_add-next : goal.overflow_add-next
overflow_add-next g c = let e = c.if-ended_by-2.ensures.yes refl _ _ c.due_at-due.ensures.marks in omega (arith, e.stands.fits)

pub overflow_add-result-then-closed_by : goal.overflow_add-result-then-closed_by
overflow_add-result-then-closed_by g c = let e = c.if-closed_by.ensures.yes refl _ _ c.in_ok-entry.ensures.follows in omega (arith, e.stands.fits)

pub overflow_add-next-else-ended_by-2 : goal.overflow_add-next-else-ended_by-2
overflow_add-next-else-ended_by-2 g c = let e = c.if-not-closed_by.ensures.yes refl _ _ c.in_ok-entry.ensures.follows in omega (arith, e.stands.fits)

pub item-requires-clause-seen : goal.item-requires-clause-seen
item-requires-clause-seen g c = record { starts = c.due_at-due.ensures.starts; marks = c.due_at-due.ensures.marks }
