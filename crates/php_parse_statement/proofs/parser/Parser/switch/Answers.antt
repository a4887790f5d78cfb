use Rattle.std.proofs.Common.{◌+◌, refl, ap, arith}
use Rattle.std.proofs.lemmas.Result.{err_from_is_err_and}
use Rattle.php_ast.specs.statement.Tree.{switch, no_case}
use Rattle.php_grammar.specs.statement.Role.{at_switch}
use Rattle.php_grammar.specs.statement.Forms.{switch_head, past_switch, due_case}
use Rattle.php_grammar.specs.statement.Machine.{headed}
use Rattle.php_parse_simple.proofs.Fails.{later}
use Rattle.php_parse_simple.proofs.Moves.{leads, leads_halts}
use Rattle.php_parse_simple.proofs.Plain.{begins}
use Rattle.php_parse_statement.proofs.Cases.{cases_open, cases_within, switch_halts, switch_spans}
use Rattle.php_parse_statement.proofs.parser.Parser.switch.Goals as goal

pub returns-in_err-head : goal.returns-in_err-head
returns-in_err-head g c =
    let h = c.requires in
    let q = err_from_is_err_and c.from_residual.result c.from_residual.ensures.1 in
    rw (q.1, q.2) (later c.args.self.now.reader.tokens.now c.args.at (c.args.at + 1) (λ o. headed switch_head o) c.in_err-head.field-0.0 (omega arith)
    (begins at_switch h.token h.stands.is h.role_is (λ o. refl) (λ o. refl) c.args.self.now.deep) (c.in_err-head.ensures switch_head))

pub returns-in_default : goal.returns-in_default
returns-in_default g c =
    let h = c.requires in
    let t = c.in_ok-head.ensures in
    let s = c.in_default.ensures in
    record {
      halts = leads_halts (λ o. past_switch t.form o) (leads (λ o. headed switch_head o) (begins at_switch h.token h.stands.is h.role_is (λ o. refl) (λ o. refl) c.args.self.now.deep) (t.reads switch_head)) (switch_halts t.form s.0 s.1);
      ahead = omega (arith, t.ahead);
      within = t.within;
    }

pub enclosed_cases-requires : goal.enclosed_cases-requires
enclosed_cases-requires g c = omega (arith, cases_within c.args.self.now.reader.tokens.now c.in_ok-head.head.next c.in-Some.form c.in-Some.ensures)

pub returns-in_err-list : goal.returns-in_err-list
returns-in_err-list g c =
    let h = c.requires in
    let t = c.in_ok-head.ensures in
    let q = err_from_is_err_and c.from_residual-in_err-list.result c.from_residual-in_err-list.ensures.1 in
    rw (q.1, q.2) (later c.args.self.now.reader.tokens.now c.args.at _ (λ o. due_case t.form c.in-Some.form no_case o) c.in_err-list.field-0.0 (omega (arith, t.ahead))
    (leads (λ o. past_switch t.form o) (leads (λ o. headed switch_head o) (begins at_switch h.token h.stands.is h.role_is (λ o. refl) (λ o. refl) c.args.self.now.deep) (t.reads switch_head))
    (cases_open c.args.self.now.reader.tokens.now c.in_ok-head.head.next c.args.self.now.reader.room t.form c.in-Some.form c.in-Some.ensures c.args.self.now.deep))
    (c.in_err-list.ensures t.form))

pub returns : goal.returns
returns g c =
    let h = c.requires in
    let t = c.in_ok-head.ensures in
    let r = c.in_ok-list.ensures in
    record {
      form = switch tt t.form c.in-Some.form r.cases;
      spans = switch_spans c.args.self.now.reader.tokens.now _ _ _ _ t.form c.in-Some.form r.cases c.args.at _ _ c.switch_statement.ensures.shown c.spot.ensures t.shown t.sized r.shown r.sized;
      reads = leads (λ o. due_case t.form c.in-Some.form no_case o)
          (leads (λ o. past_switch t.form o) (leads (λ o. headed switch_head o) (begins at_switch h.token h.stands.is h.role_is (λ o. refl) (λ o. refl) c.args.self.now.deep) (t.reads switch_head))
          (cases_open c.args.self.now.reader.tokens.now c.in_ok-head.head.next c.args.self.now.reader.room t.form c.in-Some.form c.in-Some.ensures c.args.self.now.deep))
          (r.reads t.form);
      ahead = omega (arith, t.ahead, r.sized);
      within = r.within;
    }

pub switch_statement-requires-clause-value : goal.switch_statement-requires-clause-value
switch_statement-requires-clause-value g c = c.in_ok-head.ensures.flat

pub switch_statement-requires-clause-cases : goal.switch_statement-requires-clause-cases
switch_statement-requires-clause-cases g c = c.in_ok-list.ensures.flat
