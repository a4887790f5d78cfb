use Rattle.std.proofs.Common.{◌+◌, refl, arith, ap, ◌∙◌}
use Rattle.std.proofs.lemmas.Result.{err_from_is_err_and}
use Rattle.php_grammar.specs.expression.Machine.{enclosed_open}
use Rattle.php_parse_operands.proofs.Fails.{between}
use Rattle.php_ast.specs.expression.Tree.{exiting, enclosed, exit, exit_empty}
use Rattle.php_parse_operands.proofs.Productions.{exit_reads, exit_opens, exit_empty_reads, exit_empty_halts, enclosed_reads, enclosed_unclosed, enclosed_spans}
use Rattle.php_token.specs.declared.kind.Punct.TheVariants as mark
use Rattle.php_ast.specs.Symbol.{punct}
use Rattle.php_grammar.specs.declared.closer.Closer.TheVariants as ender
use Rattle.php_grammar.specs.expression.Role.{closes, draws, by_call, is_paren, is_right_paren}
use Rattle.php_grammar.proofs.expression.Roles.{paren_says, right_paren_says}
use Rattle.php_reader.proofs.Items.{shows_one, tests_none}
use Rattle.php_parse_operands.proofs.parser.Parser.exit.Goals as goal

pub returns-then-not-opens_arguments : goal.returns-then-not-opens_arguments
returns-then-not-opens_arguments g c =
    let o = c.requires.here in
    record {
      form = exit tt;
      spans = record { shown = c.exit_expr.ensures.shown ∙ ap exit c.spot.ensures; sized = omega arith };
      reads = exit_reads o.token o.stands.is o.role_is (tests_none is_paren (draws by_call) (punct mark.LeftParen) _ paren_says refl (c.if-not-opens_arguments.ensures _ _ c.next_at-behind.ensures)) c.args.self.now.deep;
      edge_is = refl;
      opened = omega arith;
      no_call = refl;
      follows = c.next_at-behind.ensures;
      ahead = omega arith;
      within = omega (arith, o.stands.within);
    }

pub returns-then-self-eq1 : goal.returns-then-self-eq1
returns-then-self-eq1 g c =
    let o = c.requires.here in
    let p = shows_one is_paren (draws by_call) (punct mark.LeftParen) _ _ (λ t h. h) refl (c.if-not-opens_arguments.ensures _ _ c.next_at-behind.ensures) in
    let e = shows_one is_right_paren (closes ender.Paren) (punct mark.RightParen) _ _ (λ t h. h) refl (c.if-ended_by.ensures.yes refl _ _ c.due_at-due.ensures.marks) in
    record {
      halts = exit_empty_halts o.token p.token e.token o.stands.is o.role_is p.stands.is p.role_is e.stands.is e.role_is c.if-self-eq1.true;
      ahead = omega arith;
      within = omega (arith, e.stands.within);
    }

pub returns-then-ended_by : goal.returns-then-ended_by
returns-then-ended_by g c =
    let o = c.requires.here in
    let p = shows_one is_paren (draws by_call) (punct mark.LeftParen) _ _ (λ t h. h) refl (c.if-not-opens_arguments.ensures _ _ c.next_at-behind.ensures) in
    let e = shows_one is_right_paren (closes ender.Paren) (punct mark.RightParen) _ _ (λ t h. h) refl (c.if-ended_by.ensures.yes refl _ _ c.due_at-due.ensures.marks) in
    record {
      form = exit_empty tt;
      spans = record { shown = c.exit_empty_expr.ensures.shown ∙ ap exit_empty c.spot-then-ended_by.ensures; sized = omega arith };
      reads = exit_empty_reads o.token p.token e.token o.stands.is o.role_is p.stands.is p.role_is e.stands.is e.role_is (omega arith);
      edge_is = refl;
      opened = omega arith;
      no_call = refl;
      follows = c.next_at.ensures;
      ahead = omega arith;
      within = omega (arith, e.stands.within);
    }

pub returns-in_err-inside : goal.returns-in_err-inside
returns-in_err-inside g c =
    let o = c.requires.here in
    let p = shows_one is_paren (draws by_call) (punct mark.LeftParen) _ _ (λ t h. h) refl (c.if-not-opens_arguments.ensures _ _ c.next_at-behind.ensures) in
    let q = err_from_is_err_and c.from_residual.result c.from_residual.ensures.1 in
    rw (q.1, q.2) (between c.args.self.now.reader.tokens.now c.args.at (c.args.at + 1 + 1) (enclosed_open exiting) c.in_err-inside.field-0.0 (omega arith) c.args.self.now.deep refl (λ d. refl)
    (exit_opens o.token p.token o.stands.is o.role_is p.stands.is p.role_is (tests_none is_right_paren (closes ender.Paren) (punct mark.RightParen) _ right_paren_says refl (c.if-ended_by.ensures.no refl _ _ c.due_at-due.ensures.marks)) c.args.self.now.deep) c.in_err-inside.ensures)

pub returns-then-not-closed_by : goal.returns-then-not-closed_by
returns-then-not-closed_by g c =
    let r = c.in_ok-inside.ensures in
    let o = c.requires.here in
    let p = shows_one is_paren (draws by_call) (punct mark.LeftParen) _ _ (λ t h. h) refl (c.if-not-opens_arguments.ensures _ _ c.next_at-behind.ensures) in
    let deep = c.args.self.now.deep in
    record {
      halts = enclosed_unclosed exiting deep (exit_opens o.token p.token o.stands.is o.role_is p.stands.is p.role_is (tests_none is_right_paren (closes ender.Paren) (punct mark.RightParen) _ right_paren_says refl (c.if-ended_by.ensures.no refl _ _ c.due_at-due.ensures.marks)) deep) r.reads r.rests (c.if-not-closed_by.ensures.no refl _ _ r.follows);
      ahead = omega (arith, r.ahead);
      within = r.within;
    }

pub returns : goal.returns
returns g c =
    let r = c.in_ok-inside.ensures in
    let o = c.requires.here in
    let p = shows_one is_paren (draws by_call) (punct mark.LeftParen) _ _ (λ t h. h) refl (c.if-not-opens_arguments.ensures _ _ c.next_at-behind.ensures) in
    let e = c.if-not-closed_by.ensures.yes refl _ _ r.follows in
    let deep = c.args.self.now.deep in
    record {
      form = enclosed tt exiting r.form;
      spans = enclosed_spans c.args.self.now.reader.tokens.now exiting _ _ _ r.form c.args.at _ _ c.in_ok-exit_with_expr.ensures.shown c.spot-2.ensures r.spans (omega arith);
      reads = enclosed_reads exiting e.token (exit_opens o.token p.token o.stands.is o.role_is p.stands.is p.role_is (tests_none is_right_paren (closes ender.Paren) (punct mark.RightParen) _ right_paren_says refl (c.if-ended_by.ensures.no refl _ _ c.due_at-due.ensures.marks)) deep) r.reads r.deep e.stands.is e.role_is;
      edge_is = refl;
      opened = omega arith;
      no_call = refl;
      follows = c.next_at-2.ensures;
      ahead = omega (arith, r.ahead);
      within = omega (arith, e.stands.within);
    }

pub overflow_add-result-2 : goal.overflow_add-result-2
overflow_add-result-2 g c = let e = c.if-not-closed_by.ensures.yes refl _ _ c.in_ok-inside.ensures.follows in omega (arith, e.stands.fits)

pub overflow_add-inside : goal.overflow_add-inside
overflow_add-inside g c = let e = c.if-not-closed_by.ensures.yes refl _ _ c.in_ok-inside.ensures.follows in omega (arith, e.stands.fits)

pub overflow_add-paren-2 : goal.overflow_add-paren-2
overflow_add-paren-2 g c = let p = c.if-not-opens_arguments.ensures c.args.self.now.reader.tokens.now (c.args.at + 1) c.next_at-behind.ensures in omega (arith, p.stands.fits)

pub overflow_add-result : goal.overflow_add-result
overflow_add-result g c = let p = c.if-not-opens_arguments.ensures c.args.self.now.reader.tokens.now (c.args.at + 1) c.next_at-behind.ensures in omega (arith, p.stands.fits)

pub overflow_add-paren-3 : goal.overflow_add-paren-3
overflow_add-paren-3 g c = let p = c.if-not-opens_arguments.ensures c.args.self.now.reader.tokens.now (c.args.at + 1) c.next_at-behind.ensures in omega (arith, p.stands.fits)

pub overflow_add-result-then-ended_by : goal.overflow_add-result-then-ended_by
overflow_add-result-then-ended_by g c = let e = c.if-ended_by.ensures.yes refl c.args.self.now.reader.tokens.now (c.args.at + 1 + 1) c.due_at-due.ensures.marks in omega (arith, e.stands.fits)

pub overflow_add-result-then-ended_by-2 : goal.overflow_add-result-then-ended_by-2
overflow_add-result-then-ended_by-2 g c = let e = c.if-ended_by.ensures.yes refl c.args.self.now.reader.tokens.now (c.args.at + 1 + 1) c.due_at-due.ensures.marks in omega (arith, e.stands.fits)

pub overflow_add-paren-then-ended_by : goal.overflow_add-paren-then-ended_by
overflow_add-paren-then-ended_by g c = let e = c.if-ended_by.ensures.yes refl c.args.self.now.reader.tokens.now (c.args.at + 1 + 1) c.due_at-due.ensures.marks in omega (arith, e.stands.fits)

pub overflow_add-paren-then-ended_by-2 : goal.overflow_add-paren-then-ended_by-2
overflow_add-paren-then-ended_by-2 g c = let e = c.if-ended_by.ensures.yes refl c.args.self.now.reader.tokens.now (c.args.at + 1 + 1) c.due_at-due.ensures.marks in omega (arith, e.stands.fits)

pub deeper_begun-requires-clause-within : goal.deeper_begun-requires-clause-within
deeper_begun-requires-clause-within g c = let p = c.if-not-opens_arguments.ensures c.args.self.now.reader.tokens.now (c.args.at + 1) c.next_at-behind.ensures in omega (arith, p.stands.within)
