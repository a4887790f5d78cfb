use Rattle.std.proofs.Common.{◌+◌, refl, arith}
use Rattle.std.proofs.lemmas.Result.{err_from_is_err_and}
use Rattle.php_ast.specs.statement.Tree.{while}
use Rattle.php_grammar.specs.statement.Role.{at_while}
use Rattle.php_grammar.specs.statement.Forms.{while_head, while_loop, past_loop}
use Rattle.php_grammar.specs.statement.Machine.{headed}
use Rattle.php_parse_simple.proofs.Fails.{later}
use Rattle.php_parse_simple.proofs.Moves.{leads}
use Rattle.php_parse_simple.proofs.Plain.{begins}
use Rattle.php_parse_statement.proofs.Looping.{while_spans}
use Rattle.php_parse_statement.proofs.parser.Parser.while_loop.Goals as goal

pub returns-in_err-test : goal.returns-in_err-test
returns-in_err-test g c =
    let h = c.requires in
    let q = err_from_is_err_and c.from_residual.result c.from_residual.ensures.1 in
    rw (q.1, q.2) (later c.args.self.now.reader.tokens.now c.args.at (c.args.at + 1) (λ o. headed while_head o) c.in_err-test.field-0.0 (omega arith)
    (begins at_while h.token h.stands.is h.role_is (λ o. refl) (λ o. refl) c.args.self.now.deep) (c.in_err-test.ensures while_head))

pub returns-in_err-body : goal.returns-in_err-body
returns-in_err-body g c =
    let h = c.requires in
    let e = c.in_ok-test.ensures in
    let q = err_from_is_err_and c.from_residual-in_err-body.result c.from_residual-in_err-body.ensures.1 in
    rw (q.1, q.2) (later c.args.self.now.reader.tokens.now c.args.at _ (λ o. past_loop (while_loop e.form) o) c.in_err-body.field-0.0 (omega (arith, e.ahead))
    (leads (λ o. headed while_head o) (begins at_while h.token h.stands.is h.role_is (λ o. refl) (λ o. refl) c.args.self.now.deep) (e.reads while_head))
    (c.in_err-body.ensures (while_loop e.form) refl))

pub returns : goal.returns
returns g c =
    let h = c.requires in
    let e = c.in_ok-test.ensures in
    let r = c.in_ok-body.ensures in
    record {
      form = while tt e.form r.body;
      spans = while_spans c.args.self.now.reader.tokens.now _ _ _ _ e.form r.body c.args.at _ _ c.while_statement.ensures.shown c.spot.ensures e.shown e.sized r.shown r.sized;
      reads = leads (λ o. past_loop (while_loop e.form) o)
          (leads (λ o. headed while_head o) (begins at_while h.token h.stands.is h.role_is (λ o. refl) (λ o. refl) c.args.self.now.deep) (e.reads while_head))
          (r.reads (while_loop e.form) refl);
      ahead = omega (arith, e.ahead, r.ahead);
      within = r.within;
    }

pub while_statement-requires-clause-test : goal.while_statement-requires-clause-test
while_statement-requires-clause-test g c = c.in_ok-test.ensures.flat

pub while_statement-requires-clause-body : goal.while_statement-requires-clause-body
while_statement-requires-clause-body g c = c.in_ok-body.ensures.flat
