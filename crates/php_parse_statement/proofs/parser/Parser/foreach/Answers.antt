use Rattle.std.proofs.Common.{◌+◌, [], ◌∷◌, refl, arith}
use Rattle.std.proofs.lemmas.Result.{err_from_is_err_and}
use Rattle.php_ast.specs.statement.Tree.{foreach}
use Rattle.php_grammar.specs.statement.Role.{at_foreach, left_paren}
use Rattle.php_grammar.specs.statement.Forms.{as_walked, due, foreach_loop, past_loop}
use Rattle.php_grammar.specs.statement.Machine.{expected}
use Rattle.php_parse_simple.proofs.Fails.{later}
use Rattle.php_parse_simple.proofs.Moves.{leads}
use Rattle.php_parse_simple.proofs.Plain.{begins}
use Rattle.php_parse_simple.proofs.Targets.{foreach_spans}
use Rattle.php_parse_statement.proofs.parser.Parser.foreach.Goals as goal

pub returns-in_err-head : goal.returns-in_err-head
returns-in_err-head g c =
    let h = c.requires in
    let q = err_from_is_err_and c.from_residual.result c.from_residual.ensures.1 in
    rw (q.1, q.2) (later c.args.self.now.reader.tokens.now c.args.at (c.args.at + 1) (λ o. due (left_paren ∷ []) (expected as_walked o)) c.in_err-head.field-0.0 (omega arith)
    (begins at_foreach h.token h.stands.is h.role_is (λ o. refl) (λ o. refl) c.args.self.now.deep) c.in_err-head.ensures)

pub returns-in_err-body : goal.returns-in_err-body
returns-in_err-body g c =
    let h = c.requires in
    let f = c.in_ok-head.ensures in
    let q = err_from_is_err_and c.from_residual-in_err-body.result c.from_residual-in_err-body.ensures.1 in
    rw (q.1, q.2) (later c.args.self.now.reader.tokens.now c.args.at _ (λ o. past_loop (foreach_loop f.walked f.key f.value) o) c.in_err-body.field-0.0 (omega (arith, f.ahead))
    (leads (λ o. due (left_paren ∷ []) (expected as_walked o)) (begins at_foreach h.token h.stands.is h.role_is (λ o. refl) (λ o. refl) c.args.self.now.deep) f.reads)
    (c.in_err-body.ensures (foreach_loop f.walked f.key f.value) refl))

pub returns : goal.returns
returns g c =
    let h = c.requires in
    let f = c.in_ok-head.ensures in
    let r = c.in_ok-body.ensures in
    record {
      form = foreach tt f.walked f.key f.value r.body;
      spans = foreach_spans c.args.self.now.reader.tokens.now _ _ _ _ _ _ f.walked f.key f.value r.body c.args.at _ _ c.foreach_statement.ensures.shown c.spot.ensures f.walked_shown f.key_shown f.value_shown f.sized r.shown r.sized;
      reads = leads (λ o. past_loop (foreach_loop f.walked f.key f.value) o)
          (leads (λ o. due (left_paren ∷ []) (expected as_walked o)) (begins at_foreach h.token h.stands.is h.role_is (λ o. refl) (λ o. refl) c.args.self.now.deep) f.reads)
          (r.reads (foreach_loop f.walked f.key f.value) refl);
      ahead = omega (arith, f.ahead, r.ahead);
      within = r.within;
    }

pub foreach_statement-requires-clause-head : goal.foreach_statement-requires-clause-head
foreach_statement-requires-clause-head g c = c.in_ok-head.ensures.flat

pub foreach_statement-requires-clause-body : goal.foreach_statement-requires-clause-body
foreach_statement-requires-clause-body g c = c.in_ok-body.ensures.flat
