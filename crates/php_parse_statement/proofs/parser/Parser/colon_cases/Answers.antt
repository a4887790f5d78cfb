use Rattle.std.proofs.Common.{[], refl, arith}
use Rattle.std.proofs.lemmas.Result.{err_from_is_err_and}
use Rattle.php_ast.specs.declared.statement.SwitchForm.TheVariants as switch_form
use Rattle.php_ast.specs.statement.Tree.{switch}
use Rattle.php_grammar.specs.statement.Role.{fixed_semicolon}
use Rattle.php_grammar.specs.statement.Forms.{due_case, done}
use Rattle.php_grammar.specs.statement.Machine.{before_semicolon}
use Rattle.php_parse_simple.proofs.Moves.{leads, leads_halts, due_halts, due_outside}
use Rattle.php_parse_statement.proofs.Cases.{colon_ends, colon_halts}
use Rattle.php_parse_statement.proofs.parser.Parser.colon_cases.Goals as goal

pub returns-in_err-list : goal.returns-in_err-list
returns-in_err-list g c =
    let q = err_from_is_err_and c.from_residual.result c.from_residual.ensures.1 in
    rw (q.1, q.2) (λ e. c.in_err-list.ensures e switch_form.Colon)

pub returns-then-not-sees_after : goal.returns-then-not-sees_after
returns-then-not-sees_after g c =
    let f = c.in_ok-list.ensures in
    let v = f.so_far in
    rw c.drop_cases.ensures (λ e. record {
      halts = leads_halts (λ o. due_case e switch_form.Colon v.cases o) (v.reads e switch_form.Colon) (colon_halts e v.cases f.no_case_word f.no_default (c.if-not-sees_after.ensures.no refl));
      ahead = omega (arith, v.sized);
      within = v.within;
    })

pub returns-then-not-sees : goal.returns-then-not-sees
returns-then-not-sees g c =
    let f = c.in_ok-list.ensures in
    let v = f.so_far in
    let s = c.if-not-sees_after.ensures.yes refl in
    rw c.drop_cases-then-not-sees.ensures (λ e. record {
      halts = leads_halts (λ o. before_semicolon (switch tt e switch_form.Colon v.cases) o)
          (leads (λ o. due_case e switch_form.Colon v.cases o) (v.reads e switch_form.Colon) (colon_ends e v.cases s.token s.stands.is s.role_is c.args.self.now.deep))
          (due_halts fixed_semicolon [] (λ o. done (switch tt e switch_form.Colon v.cases) o) c.if-not-sees.ensures);
      ahead = omega (arith, v.sized);
      within = omega (arith, s.stands.within);
    })

pub returns : goal.returns
returns g c =
    let f = c.in_ok-list.ensures in
    let v = f.so_far in
    let s = c.if-not-sees_after.ensures.yes refl in
    let m = c.if-not-sees.ensures in
    record {
      cases = v.cases;
      shown = v.shown;
      sized = omega (arith, v.sized);
      reads = λ e. leads (λ o. before_semicolon (switch tt e switch_form.Colon v.cases) o)
          (leads (λ o. due_case e switch_form.Colon v.cases o) (v.reads e switch_form.Colon) (colon_ends e v.cases s.token s.stands.is s.role_is c.args.self.now.deep))
          (due_outside fixed_semicolon [] (λ o. done (switch tt e switch_form.Colon v.cases) o) m.token m.stands.is m.role_is (λ o. refl) (λ d. refl) c.args.self.now.deep);
      within = omega (arith, m.stands.within);
      flat = v.flat;
    }
