use Rattle.std.proofs.Common.{◌∷◌}
use Rattle.std.proofs.Common.{◌+◌, ◌∙◌, refl, arith, ap}
use Rattle.std.proofs.lemmas.Result.{err_from_is_err_and}
use Rattle.php_parse_operands.proofs.Fails.{between}
use Rattle.php_ast.specs.expression.Tree.{and, plain, reference, array}
use Rattle.php_ast.specs.expression.Placed.{noted, notes_of}
use Rattle.php_grammar.specs.expression.Machine.{of_list, holds, items_open}
use Rattle.php_parse_operands.proofs.Moves.{leads}
use Rattle.php_parse_operands.proofs.Listings.{reference_opens, reference_halts, item_opens, item_in, key_reads}
use Rattle.php_parse_operands.proofs.ListNotes.{item_keyed}
use Rattle.php_parse_operands.proofs.parser.Parser.item.Goals as goal

pub returns-then-self-eq1 : goal.returns-then-self-eq1
returns-then-self-eq1 g c = λ items.
    let o = c.if-is_reference.ensures _ _ c.requires.seen.marks in
    record { halts = reference_halts o.token (of_list (array c.args.form)) items o.stands.is o.role_is refl c.if-self-eq1.true; ahead = omega arith; within = c.requires.within }

pub returns-in_err-expr : goal.returns-in_err-expr
returns-in_err-expr g c =
    let o = c.if-is_reference.ensures _ _ c.requires.seen.marks in
    let deep = c.args.self.now.deep in
    let q = err_from_is_err_and c.from_residual.result c.from_residual.ensures.1 in
    rw (q.1, q.2) (λ items. between c.args.self.now.reader.tokens.now c.args.at (c.args.at + 1) (items_open (of_list (array c.args.form)) items reference) c.in_err-expr.field-0.0 (omega arith) c.args.self.now.deep refl (λ d. refl)
    (reference_opens o.token (of_list (array c.args.form)) items o.stands.is o.role_is refl (omega arith)) c.in_err-expr.ensures)

pub returns-then-is_reference : goal.returns-then-is_reference
returns-then-is_reference g c =
    let o = c.if-is_reference.ensures _ _ c.requires.seen.marks in
    let r = c.in_ok-expr.ensures in
    let deep = c.args.self.now.deep in
    record {
      lead = reference;
      form = r.form;
      shown = λ xs. ap (and xs reference) r.spans.shown;
      sized = r.spans.sized;
      flat = c.in_ok-expr.field-0.flat;
      reads = λ items. item_in (of_list (array c.args.form)) items reference r.form (reference_opens o.token (of_list (array c.args.form)) items o.stands.is o.role_is refl (omega arith)) r.reads deep;
      rests = r.rests;
      follows = r.follows;
      no_key = λ a. cc;
      deep = omega (arith, r.deep);
      ahead = omega (arith, r.ahead);
      within = r.within;
    }

pub returns-in_err-expr-2 : goal.returns-in_err-expr-2
returns-in_err-expr-2 g c =
    let q = err_from_is_err_and c.from_residual-in_err-expr-2.result c.from_residual-in_err-expr-2.ensures.1 in
    rw (q.1, q.2) (λ items. between c.args.self.now.reader.tokens.now c.args.at c.args.at (items_open (of_list (array c.args.form)) items plain) c.in_err-expr-2.field-0.0 (omega arith) c.args.self.now.deep refl (λ d. refl)
    (item_opens c.args.form items (c.if-is_reference.ensures _ _ c.requires.seen.marks) c.requires.no_comma c.requires.no_end) c.in_err-expr-2.ensures)

pub returns-then-closed_by : goal.returns-then-closed_by
returns-then-closed_by g c =
    let r = c.in_ok-expr-2.ensures in
    let e = c.if-closed_by.ensures.yes refl _ _ r.follows in
    item_keyed c.args.form c.args.self.now.reader c.args.at c.in_ok-expr-2.field-0.next r.form _ _ r.spans r.deep (omega (arith, r.ahead))
    (λ items. leads (λ s. holds r.form (items_open (of_list (array c.args.form)) items plain ∷ s))
    (item_in (of_list (array c.args.form)) items plain r.form (item_opens c.args.form items (c.if-is_reference.ensures _ _ c.requires.seen.marks) c.requires.no_comma c.requires.no_end) r.reads c.args.self.now.deep)
    (key_reads e.token c.args.form items r.form e.stands.is e.role_is (omega (arith, r.deep))))
    c.keyed.ensures

pub returns : goal.returns
returns g c =
    let r = c.in_ok-expr-2.ensures in
    record {
      lead = plain;
      form = r.form;
      shown = λ xs. ap (and xs plain) (r.spans.shown ∙ ap (λ k. noted (notes_of c.args.self.now.reader.tokens.now) k r.form) (omega arith));
      sized = omega (arith, r.spans.sized);
      flat = c.in_ok-expr-2.field-0.flat;
      reads = λ items. item_in (of_list (array c.args.form)) items plain r.form (item_opens c.args.form items (c.if-is_reference.ensures _ _ c.requires.seen.marks) c.requires.no_comma c.requires.no_end) r.reads c.args.self.now.deep;
      rests = r.rests;
      follows = r.follows;
      no_key = λ a. c.if-closed_by.ensures.no refl _ _ r.follows;
      deep = omega (arith, r.deep);
      ahead = omega (arith, r.ahead);
      within = r.within;
    }

pub overflow_add-next : goal.overflow_add-next
overflow_add-next g c = let e = c.if-closed_by.ensures.yes refl _ _ c.in_ok-expr-2.ensures.follows in omega (arith, e.stands.fits)

pub keyed-requires-clause-within : goal.keyed-requires-clause-within
keyed-requires-clause-within g c = let e = c.if-closed_by.ensures.yes refl _ _ c.in_ok-expr-2.ensures.follows in omega (arith, e.stands.within)

pub overflow_add-at : goal.overflow_add-at
overflow_add-at g c = let o = c.if-is_reference.ensures c.args.self.now.reader.tokens.now c.args.at c.requires.seen.marks in omega (arith, o.stands.fits)

pub deeper-requires-clause-within : goal.deeper-requires-clause-within
deeper-requires-clause-within g c = let o = c.if-is_reference.ensures c.args.self.now.reader.tokens.now c.args.at c.requires.seen.marks in omega (arith, o.stands.within)
