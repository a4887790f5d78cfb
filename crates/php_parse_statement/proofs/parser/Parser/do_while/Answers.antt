use Rattle.std.proofs.Common.{◌+◌, ◌∙◌, [], ◌∷◌, refl, ap, arith}
use Rattle.php_ast.specs.statement.View.{statement_view}
use Rattle.std.proofs.lemmas.Result.{err_from_is_err_and}
use Rattle.php_ast.specs.statement.Tree.{do_while}
use Rattle.php_flat.specs.Statements.{is_flat_statement}
use Rattle.php_grammar.specs.statement.Role.{at_do, fixed_semicolon}
use Rattle.php_grammar.specs.statement.Forms.{do_head, do_open, due_statement, done}
use Rattle.php_grammar.specs.statement.Machine.{headed, before_semicolon}
use Rattle.php_parse_simple.proofs.Fails.{later}
use Rattle.php_parse_simple.proofs.Moves.{leads, leads_halts, due_halts, due_outside}
use Rattle.php_parse_simple.proofs.Plain.{begins}
use Rattle.php_parse_statement.proofs.Looping.{do_halts, do_on, do_spans}
use Rattle.php_parse_statement.proofs.parser.Parser.do_while.Goals as goal

pub returns-in_err-body : goal.returns-in_err-body
returns-in_err-body g c =
    let h = c.requires in
    let q = err_from_is_err_and c.from_residual.result c.from_residual.ensures.1 in
    rw (q.1, q.2) (later c.args.self.now.reader.tokens.now c.args.at (c.args.at + 1) (λ o. due_statement (do_open ∷ o)) c.in_err-body.field-0.0 (omega arith)
    (begins at_do h.token h.stands.is h.role_is (λ o. refl) (λ o. refl) c.args.self.now.deep) (c.in_err-body.ensures do_open refl))

pub returns-then-not-sees_after : goal.returns-then-not-sees_after
returns-then-not-sees_after g c =
    let h = c.requires in
    let r = c.in_ok-body.ensures in
    record {
      halts = leads_halts (λ o. done r.form (do_open ∷ o)) (leads (λ o. due_statement (do_open ∷ o)) (begins at_do h.token h.stands.is h.role_is (λ o. refl) (λ o. refl) c.args.self.now.deep) (r.reads do_open refl))
          (do_halts r.form (c.if-not-sees_after.ensures.no refl));
      ahead = omega (arith, r.ahead);
      within = r.within;
    }

pub returns-in_err-test : goal.returns-in_err-test
returns-in_err-test g c =
    let h = c.requires in
    let r = c.in_ok-body.ensures in
    let w = c.if-not-sees_after.ensures.yes refl in
    let q = err_from_is_err_and c.from_residual-in_err-test.result c.from_residual-in_err-test.ensures.1 in
    rw (q.1, q.2) (later c.args.self.now.reader.tokens.now c.args.at _ (λ o. headed (do_head r.form) o) c.in_err-test.field-0.0 (omega (arith, r.ahead))
    (leads (λ o. done r.form (do_open ∷ o)) (leads (λ o. due_statement (do_open ∷ o)) (begins at_do h.token h.stands.is h.role_is (λ o. refl) (λ o. refl) c.args.self.now.deep) (r.reads do_open refl))
    (do_on r.form w.token w.stands.is w.role_is c.args.self.now.deep))
    (c.in_err-test.ensures (do_head r.form)))

pub returns-then-not-sees : goal.returns-then-not-sees
returns-then-not-sees g c =
    let h = c.requires in
    let r = c.in_ok-body.ensures in
    let w = c.if-not-sees_after.ensures.yes refl in
    let e = c.in_ok-test.ensures in
    record {
      halts = leads_halts (λ o. before_semicolon (do_while tt r.form e.form) o)
          (leads (λ o. headed (do_head r.form) o)
          (leads (λ o. done r.form (do_open ∷ o)) (leads (λ o. due_statement (do_open ∷ o)) (begins at_do h.token h.stands.is h.role_is (λ o. refl) (λ o. refl) c.args.self.now.deep) (r.reads do_open refl))
          (do_on r.form w.token w.stands.is w.role_is c.args.self.now.deep))
          (e.reads (do_head r.form)))
          (due_halts fixed_semicolon [] (λ o. done (do_while tt r.form e.form) o) c.if-not-sees.ensures);
      ahead = omega (arith, r.ahead, e.ahead);
      within = e.within;
    }

pub returns : goal.returns
returns g c =
    let h = c.requires in
    let r = c.in_ok-body.ensures in
    let w = c.if-not-sees_after.ensures.yes refl in
    let e = c.in_ok-test.ensures in
    let m = c.if-not-sees.ensures in
    record {
      form = do_while tt r.form e.form;
      spans = do_spans c.args.self.now.reader.tokens.now _ _ _ _ r.form e.form c.args.at _ _ c.do_while_statement.ensures.shown c.spot.ensures
          (ap statement_view c.in_ok-inside.ensures ∙ r.spans.shown) r.spans.sized e.shown e.sized;
      reads = leads (λ o. before_semicolon (do_while tt r.form e.form) o)
          (leads (λ o. headed (do_head r.form) o)
          (leads (λ o. done r.form (do_open ∷ o)) (leads (λ o. due_statement (do_open ∷ o)) (begins at_do h.token h.stands.is h.role_is (λ o. refl) (λ o. refl) c.args.self.now.deep) (r.reads do_open refl))
          (do_on r.form w.token w.stands.is w.role_is c.args.self.now.deep))
          (e.reads (do_head r.form)))
          (due_outside fixed_semicolon [] (λ o. done (do_while tt r.form e.form) o) m.token m.stands.is m.role_is (λ o. refl) (λ d. refl) c.args.self.now.deep);
      ahead = omega (arith, r.ahead, e.ahead);
      within = omega (arith, m.stands.within);
    }

pub do_while_statement-requires-clause-body : goal.do_while_statement-requires-clause-body
do_while_statement-requires-clause-body g c = ap is_flat_statement c.in_ok-inside.ensures ∙ c.in_ok-body.body.flat

pub do_while_statement-requires-clause-test : goal.do_while_statement-requires-clause-test
do_while_statement-requires-clause-test g c = c.in_ok-test.ensures.flat
