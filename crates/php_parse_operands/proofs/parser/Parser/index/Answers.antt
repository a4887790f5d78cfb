use Rattle.std.proofs.Common.{◌+◌, refl, arith}
use Rattle.std.proofs.lemmas.Result.{err_from_is_err_and}
use Rattle.php_ast.specs.expression.Tree.{append, index}
use Rattle.php_grammar.specs.expression.Machine.{index_open}
use Rattle.php_parse_operands.proofs.Fails.{between}
use Rattle.php_parse_operands.proofs.Trails.{append_reads, append_halts, index_opens, index_reads, index_unclosed, index_spans}
use Rattle.php_token.specs.declared.kind.Punct.TheVariants as mark
use Rattle.php_ast.specs.Symbol.{punct}
use Rattle.php_grammar.specs.declared.closer.Closer.TheVariants as ender
use Rattle.php_grammar.specs.expression.Role.{closes, is_right_bracket}
use Rattle.php_grammar.proofs.expression.Roles.{right_bracket_says}
use Rattle.php_reader.proofs.Items.{shows_one, tests_none}
use Rattle.php_parse_operands.proofs.parser.Parser.index.Goals as goal

pub returns-then-self-eq1 : goal.returns-then-self-eq1
returns-then-self-eq1 g c = λ f start sized low.
    let o = c.requires.here in
    let e = shows_one is_right_bracket (closes ender.Bracket) (punct mark.RightBracket) _ _ (λ t h. h) refl (c.if-ended_by.ensures.yes refl _ _ c.due_at-due.ensures.marks) in
    record { halts = append_halts o.token e.token f o.stands.is o.role_is low e.stands.is e.role_is c.if-self-eq1.true; ahead = omega arith; within = omega (arith, e.stands.within) }

pub returns-then-ended_by : goal.returns-then-ended_by
returns-then-ended_by g c = λ f start sized low.
    let o = c.requires.here in
    let e = shows_one is_right_bracket (closes ender.Bracket) (punct mark.RightBracket) _ _ (λ t h. h) refl (c.if-ended_by.ensures.yes refl _ _ c.due_at-due.ensures.marks) in
    let deep = c.args.self.now.deep in
    record {
      form = append f;
      spans = record { shown = refl; sized = omega arith };
      reads = append_reads o.token e.token f o.stands.is o.role_is low e.stands.is e.role_is (omega arith);
      ends_is = refl;
      call_is = refl;
      ahead = omega arith;
      within = omega (arith, e.stands.within);
    }

pub returns-in_err-expr : goal.returns-in_err-expr
returns-in_err-expr g c = λ f start sized low.
    let o = c.requires.here in
    let q = err_from_is_err_and c.from_residual.result c.from_residual.ensures.1 in
    rw (q.1, q.2) (between c.args.self.now.reader.tokens.now c.args.at (c.args.at + 1) (index_open f) c.in_err-expr.field-0.0 (omega arith) c.args.self.now.deep refl (λ d. refl)
    (index_opens o.token f o.stands.is o.role_is low (tests_none is_right_bracket (closes ender.Bracket) (punct mark.RightBracket) _ right_bracket_says refl (c.if-ended_by.ensures.no refl _ _ c.due_at-due.ensures.marks)) c.args.self.now.deep) c.in_err-expr.ensures)

pub returns-then-not-closed_by : goal.returns-then-not-closed_by
returns-then-not-closed_by g c = λ f start sized low.
    let o = c.requires.here in
    let r = c.in_ok-expr.ensures in
    let deep = c.args.self.now.deep in
    record {
      halts = index_unclosed f r.form (index_opens o.token f o.stands.is o.role_is low (tests_none is_right_bracket (closes ender.Bracket) (punct mark.RightBracket) _ right_bracket_says refl (c.if-ended_by.ensures.no refl _ _ c.due_at-due.ensures.marks)) deep) r.reads deep r.rests (c.if-not-closed_by.ensures.no refl _ _ r.follows);
      ahead = omega (arith, r.ahead);
      within = r.within;
    }

pub returns : goal.returns
returns g c = λ f start sized low.
    let o = c.requires.here in
    let r = c.in_ok-expr.ensures in
    let e = c.if-not-closed_by.ensures.yes refl _ _ r.follows in
    let deep = c.args.self.now.deep in
    record {
      form = index f r.form;
      spans = index_spans c.args.self.now.reader.tokens.now f r.form _ start c.args.at _ _ sized r.spans refl;
      reads = index_reads f r.form e.token (index_opens o.token f o.stands.is o.role_is low (tests_none is_right_bracket (closes ender.Bracket) (punct mark.RightBracket) _ right_bracket_says refl (c.if-ended_by.ensures.no refl _ _ c.due_at-due.ensures.marks)) deep) r.reads r.deep e.stands.is e.role_is;
      ends_is = refl;
      call_is = refl;
      ahead = omega (arith, r.ahead);
      within = omega (arith, e.stands.within);
    }

pub overflow_add-result-2 : goal.overflow_add-result-2
overflow_add-result-2 g c = let e = c.if-not-closed_by.ensures.yes refl _ _ c.in_ok-expr.ensures.follows in omega (arith, e.stands.fits)

pub overflow_add-result : goal.overflow_add-result
overflow_add-result g c = let e = c.if-ended_by.ensures.yes refl c.args.self.now.reader.tokens.now (c.args.at + 1) c.due_at-due.ensures.marks in omega (arith, e.stands.fits)
