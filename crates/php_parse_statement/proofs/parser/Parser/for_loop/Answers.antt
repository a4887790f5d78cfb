use Rattle.std.proofs.Common.{◌+◌, [], ◌∷◌, refl, arith}
use Rattle.std.proofs.lemmas.Result.{err_from_is_err_and}
use Rattle.php_ast.specs.statement.Tree.{for}
use Rattle.php_grammar.specs.statement.Role.{at_for, left_paren}
use Rattle.php_grammar.specs.statement.Forms.{of_starts, due, due_value, for_loop, past_loop}
use Rattle.php_parse_simple.proofs.Fails.{later}
use Rattle.php_parse_simple.proofs.Moves.{leads}
use Rattle.php_parse_simple.proofs.Plain.{begins}
use Rattle.php_parse_simple.proofs.Targets.{for_spans}
use Rattle.php_parse_statement.proofs.parser.Parser.for_loop.Goals as goal

pub returns-in_err-head : goal.returns-in_err-head
returns-in_err-head g c =
    let h = c.requires in
    let q = err_from_is_err_and c.from_residual.result c.from_residual.ensures.1 in
    rw (q.1, q.2) (later c.args.self.now.reader.tokens.now c.args.at (c.args.at + 1) (λ o. due (left_paren ∷ []) (due_value of_starts o)) c.in_err-head.field-0.0 (omega arith)
    (begins at_for h.token h.stands.is h.role_is (λ o. refl) (λ o. refl) c.args.self.now.deep) c.in_err-head.ensures)

pub returns-in_err-body : goal.returns-in_err-body
returns-in_err-body g c =
    let h = c.requires in
    let f = c.in_ok-head.ensures in
    let q = err_from_is_err_and c.from_residual-in_err-body.result c.from_residual-in_err-body.ensures.1 in
    rw (q.1, q.2) (later c.args.self.now.reader.tokens.now c.args.at _ (λ o. past_loop (for_loop f.starts f.tests f.steps) o) c.in_err-body.field-0.0 (omega (arith, f.sized))
    (leads (λ o. due (left_paren ∷ []) (due_value of_starts o)) (begins at_for h.token h.stands.is h.role_is (λ o. refl) (λ o. refl) c.args.self.now.deep) f.reads)
    (c.in_err-body.ensures (for_loop f.starts f.tests f.steps) refl))

pub returns : goal.returns
returns g c =
    let h = c.requires in
    let f = c.in_ok-head.ensures in
    let r = c.in_ok-body.ensures in
    record {
      form = for tt f.starts f.tests f.steps r.body;
      spans = for_spans c.args.self.now.reader.tokens.now _ _ _ _ _ _ f.starts f.tests f.steps r.body c.args.at _ _ c.for_statement.ensures.shown c.spot.ensures f.starts_shown f.tests_shown f.steps_shown f.sized r.shown r.sized;
      reads = leads (λ o. past_loop (for_loop f.starts f.tests f.steps) o)
          (leads (λ o. due (left_paren ∷ []) (due_value of_starts o)) (begins at_for h.token h.stands.is h.role_is (λ o. refl) (λ o. refl) c.args.self.now.deep) f.reads)
          (r.reads (for_loop f.starts f.tests f.steps) refl);
      ahead = omega (arith, f.sized, r.ahead);
      within = r.within;
    }

pub for_statement-requires-clause-head : goal.for_statement-requires-clause-head
for_statement-requires-clause-head g c = c.in_ok-head.ensures.flat

pub for_statement-requires-clause-body : goal.for_statement-requires-clause-body
for_statement-requires-clause-body g c = c.in_ok-body.ensures.flat
