use Rattle.std.proofs.Common.{◌+◌, ◌∙◌, refl, arith, ap}
use Rattle.std.proofs.lemmas.Result.{err_from_is_err_and}
use Rattle.php_parse_operands.proofs.Fails.{between}
use Rattle.php_ast.specs.expression.View.{view}
use Rattle.php_ast.specs.expression.Tree.{and, keyed, keyed_reference, array}
use Rattle.php_ast.specs.expression.Placed.{noted, notes_of}
use Rattle.php_grammar.specs.expression.Machine.{of_list, items_open}
use Rattle.php_reader.proofs.Items.{ampersand_shown, no_ampersand}
use Rattle.php_parse_operands.proofs.Enters.{value_enters}
use Rattle.php_parse_operands.proofs.Listings.{keyed_reference_opens, item_in}
use Rattle.php_build.proofs.Flats.{both}
use Rattle.php_parse_operands.proofs.parser.Parser.keyed.Goals as goal

pub returns-in_err-expr : goal.returns-in_err-expr
returns-in_err-expr g c =
    let o = ampersand_shown _ _ (c.if-is_reference.ensures _ _ c.due_at-due.ensures.marks) in
    let q = err_from_is_err_and c.from_residual.result c.from_residual.ensures.1 in
    rw (q.1, q.2) (λ form items k. between c.args.self.now.reader.tokens.now c.args.at (c.args.at + 1) (items_open (of_list (array form)) items (keyed_reference k)) c.in_err-expr.field-0.0 (omega arith) c.args.self.now.deep refl (λ d. refl)
    (keyed_reference_opens o.token form items k o.stands.is o.role_is c.requires.deep) c.in_err-expr.ensures)

pub returns-then-is_reference : goal.returns-then-is_reference
returns-then-is_reference g c =
    let o = ampersand_shown _ _ (c.if-is_reference.ensures _ _ c.due_at-due.ensures.marks) in
    let r = c.in_ok-expr.ensures in
    record {
      lead = λ k. keyed_reference k;
      form = r.form;
      lead_size = 1;
      shown = λ xs k start is. ap (λ z. and xs (keyed_reference z) (view c.in_ok-expr.field-0.expr)) is ∙ ap (and xs (keyed_reference (noted (notes_of c.args.self.now.reader.tokens.now) start k))) r.spans.shown;
      lead_sized = λ k. omega arith;
      keyed = λ k. refl;
      sized = r.spans.sized;
      flat = both c.requires.flat c.in_ok-expr.field-0.flat;
      reads = λ form items k. item_in (of_list (array form)) items (keyed_reference k) r.form (keyed_reference_opens o.token form items k o.stands.is o.role_is c.requires.deep) r.reads c.args.self.now.deep;
      rests = r.rests;
      follows = r.follows;
      ahead = omega (arith, r.ahead);
      within = r.within;
    }

pub returns-in_err-expr-2 : goal.returns-in_err-expr-2
returns-in_err-expr-2 g c =
    let q = err_from_is_err_and c.from_residual-in_err-expr-2.result c.from_residual-in_err-expr-2.ensures.1 in
    rw (q.1, q.2) (λ form items k. between c.args.self.now.reader.tokens.now c.args.at c.args.at (items_open (of_list (array form)) items (keyed k)) c.in_err-expr-2.field-0.0 (omega arith) c.args.self.now.deep refl (λ d. refl)
    (value_enters (of_list (array form)) items k (no_ampersand _ (c.if-is_reference.ensures _ _ c.due_at-due.ensures.marks))) c.in_err-expr-2.ensures)

pub returns : goal.returns
returns g c =
    let r = c.in_ok-expr-2.ensures in
    record {
      lead = λ k. keyed k;
      form = r.form;
      lead_size = 0;
      shown = λ xs k start is. ap (λ z. and xs (keyed z) (view c.in_ok-expr-2.field-0.expr)) is ∙ ap (and xs (keyed (noted (notes_of c.args.self.now.reader.tokens.now) start k))) (r.spans.shown ∙ ap (λ n. noted (notes_of c.args.self.now.reader.tokens.now) n r.form) (omega arith));
      lead_sized = λ k. omega arith;
      keyed = λ k. refl;
      sized = omega (arith, r.spans.sized);
      flat = both c.requires.flat c.in_ok-expr-2.field-0.flat;
      reads = λ form items k. item_in (of_list (array form)) items (keyed k) r.form (value_enters (of_list (array form)) items k (no_ampersand _ (c.if-is_reference.ensures _ _ c.due_at-due.ensures.marks))) r.reads c.args.self.now.deep;
      rests = r.rests;
      follows = r.follows;
      ahead = omega (arith, r.ahead);
      within = r.within;
    }

pub overflow_add-at : goal.overflow_add-at
overflow_add-at g c = let o = c.if-is_reference.ensures c.args.self.now.reader.tokens.now c.args.at c.due_at-due.ensures.marks in omega (arith, o.stands.fits)

pub deeper-requires-clause-within : goal.deeper-requires-clause-within
deeper-requires-clause-within g c = let o = c.if-is_reference.ensures c.args.self.now.reader.tokens.now c.args.at c.due_at-due.ensures.marks in omega (arith, o.stands.within)
