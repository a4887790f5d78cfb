use Rattle.std.proofs.Common.{◌+◌, ◌∙◌, refl, arith, ap}
use Rattle.std.proofs.lemmas.Result.{err_from_is_err_and}
use Rattle.php_parse_operands.proofs.Fails.{between}
use Rattle.php_ast.specs.expression.Tree as tree
use Rattle.php_ast.specs.expression.Tree.{plain, spread}
use Rattle.php_ast.specs.expression.Placed.{noted, notes_of}
use Rattle.php_grammar.specs.expression.Machine.{items_open}
use Rattle.php_parse_operands.proofs.Listings.{spread_opens, spread_halts, argument_opens, item_in}
use Rattle.php_parse_operands.proofs.parser.Parser.argument.Goals as goal

pub returns-then-self-eq1 : goal.returns-then-self-eq1
returns-then-self-eq1 g c = λ h items is.
    let o = c.if-is_spread.ensures _ _ c.requires.seen.marks in
    record { halts = spread_halts o.token h items o.stands.is o.role_is is c.if-self-eq1.true; ahead = omega arith; within = c.requires.within }

pub returns-in_err-expr : goal.returns-in_err-expr
returns-in_err-expr g c =
    let o = c.if-is_spread.ensures _ _ c.requires.seen.marks in
    let deep = c.args.self.now.deep in
    let q = err_from_is_err_and c.from_residual.result c.from_residual.ensures.1 in
    rw (q.1, q.2) (λ h items is. between c.args.self.now.reader.tokens.now c.args.at (c.args.at + 1) (items_open h items spread) c.in_err-expr.field-0.0 (omega arith) c.args.self.now.deep refl (λ d. refl)
    (spread_opens o.token h items o.stands.is o.role_is is (omega arith)) c.in_err-expr.ensures)

pub returns-then-is_spread : goal.returns-then-is_spread
returns-then-is_spread g c =
    let o = c.if-is_spread.ensures _ _ c.requires.seen.marks in
    let r = c.in_ok-expr.ensures in
    let deep = c.args.self.now.deep in
    record {
      lead = spread;
      form = r.form;
      shown = λ xs. ap (tree.and xs tree.spread) r.spans.shown;
      sized = r.spans.sized;
      flat = c.in_ok-expr.field-0.flat;
      reads = λ h items is. item_in h items spread r.form (spread_opens o.token h items o.stands.is o.role_is is (omega arith)) r.reads (omega arith);
      rests = r.rests;
      follows = r.follows;
      deep = omega (arith, r.deep);
      ahead = omega (arith, r.ahead);
      within = r.within;
    }

pub returns-in_err-expr-2 : goal.returns-in_err-expr-2
returns-in_err-expr-2 g c =
    let q = err_from_is_err_and c.from_residual-in_err-expr-2.result c.from_residual-in_err-expr-2.ensures.1 in
    rw (q.1, q.2) (λ h items is. between c.args.self.now.reader.tokens.now c.args.at c.args.at (items_open h items plain) c.in_err-expr-2.field-0.0 (omega arith) c.args.self.now.deep refl (λ d. refl)
    (argument_opens h items is (c.if-is_spread.ensures _ _ c.requires.seen.marks) c.requires.no_end) c.in_err-expr-2.ensures)

pub returns : goal.returns
returns g c =
    let r = c.in_ok-expr-2.ensures in
    record {
      lead = plain;
      form = r.form;
      shown = λ xs. ap (tree.and xs tree.plain) (r.spans.shown ∙ ap (λ k. noted (notes_of c.args.self.now.reader.tokens.now) k r.form) (omega arith));
      sized = omega (arith, r.spans.sized);
      flat = c.in_ok-expr-2.field-0.flat;
      reads = λ h items is. item_in h items plain r.form (argument_opens h items is (c.if-is_spread.ensures _ _ c.requires.seen.marks) c.requires.no_end) r.reads c.args.self.now.deep;
      rests = r.rests;
      follows = r.follows;
      deep = omega (arith, r.deep);
      ahead = omega (arith, r.ahead);
      within = r.within;
    }

pub overflow_add-at : goal.overflow_add-at
overflow_add-at g c = let o = c.if-is_spread.ensures c.args.self.now.reader.tokens.now c.args.at c.requires.seen.marks in omega (arith, o.stands.fits)

pub deeper-requires-clause-within : goal.deeper-requires-clause-within
deeper-requires-clause-within g c = let o = c.if-is_spread.ensures c.args.self.now.reader.tokens.now c.args.at c.requires.seen.marks in omega (arith, o.stands.within)
