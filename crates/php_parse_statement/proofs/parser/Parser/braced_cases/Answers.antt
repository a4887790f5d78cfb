use Rattle.std.proofs.Common.{refl, arith}
use Rattle.std.proofs.lemmas.Result.{err_from_is_err_and}
use Rattle.php_ast.specs.declared.statement.SwitchForm.TheVariants as switch_form
use Rattle.php_grammar.specs.statement.Forms.{due_case}
use Rattle.php_parse_simple.proofs.Moves.{leads, leads_halts}
use Rattle.php_parse_statement.proofs.Cases.{braces_end, braces_sink, braces_halt}
use Rattle.php_parse_statement.proofs.parser.Parser.braced_cases.Goals as goal

pub returns-in_err-list : goal.returns-in_err-list
returns-in_err-list g c =
    let q = err_from_is_err_and c.from_residual.result c.from_residual.ensures.1 in
    rw (q.1, q.2) (λ e. c.in_err-list.ensures e switch_form.Braces)

pub returns-then-not-sees_after : goal.returns-then-not-sees_after
returns-then-not-sees_after g c =
    let f = c.in_ok-list.ensures in
    let v = f.so_far in
    rw c.drop_cases.ensures (λ e. record {
      halts = leads_halts (λ o. due_case e switch_form.Braces v.cases o) (v.reads e switch_form.Braces) (braces_halt e v.cases f.no_case_word f.no_default (c.if-not-sees_after.ensures.no refl));
      ahead = omega (arith, v.sized);
      within = v.within;
    })

pub returns-then-self-eq1 : goal.returns-then-self-eq1
returns-then-self-eq1 g c =
    let f = c.in_ok-list.ensures in
    let v = f.so_far in
    let s = c.if-not-sees_after.ensures.yes refl in
    rw c.drop_cases-then-self-eq1.ensures (λ e. record {
      halts = leads_halts (λ o. due_case e switch_form.Braces v.cases o) (v.reads e switch_form.Braces) (braces_sink e v.cases s.token s.stands.is s.role_is c.if-self-eq1.true);
      ahead = omega (arith, v.sized);
      within = v.within;
    })

pub returns : goal.returns
returns g c =
    let f = c.in_ok-list.ensures in
    let v = f.so_far in
    let s = c.if-not-sees_after.ensures.yes refl in
    record {
      cases = v.cases;
      shown = v.shown;
      sized = omega (arith, v.sized);
      reads = λ e. leads (λ o. due_case e switch_form.Braces v.cases o) (v.reads e switch_form.Braces) (braces_end e v.cases s.token s.stands.is s.role_is (omega (arith, c.args.self.now.deep, c.if-self-eq1.false)));
      within = omega (arith, s.stands.within);
      flat = v.flat;
    }
