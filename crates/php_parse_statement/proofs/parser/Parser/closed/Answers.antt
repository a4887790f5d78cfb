use Rattle.std.proofs.Common.{[], refl, arith}
use Rattle.php_grammar.specs.statement.Role.{fixed_semicolon}
use Rattle.php_grammar.specs.statement.Forms.{done}
use Rattle.php_grammar.specs.statement.Machine.{before_semicolon}
use Rattle.php_parse_simple.specs.RoleView.{after_view}
use Rattle.php_parse_simple.proofs.Moves.{leads, leads_halts, due_halts, due_outside}
use Rattle.php_parse_statement.proofs.Lists.{list_unended, list_outside}
use Rattle.php_parse_statement.proofs.parser.Parser.closed.Goals as goal

pub returns-then-not-sees_after : goal.returns-then-not-sees_after
returns-then-not-sees_after g c = λ list ss a ends out none. record {
  halts = list_unended list ss c.requires.ended (none (c.if-not-sees_after.ensures.no refl));
  ahead = omega arith;
  within = c.requires.within;
}

pub returns-then-not-sees : goal.returns-then-not-sees
returns-then-not-sees g c =
    let e = c.if-not-sees_after.ensures.yes refl in
    λ list ss a ends out none. record {
      halts = leads_halts (λ o. before_semicolon a o) (list_outside list ss e.token (after_view c.args.word) (λ o. before_semicolon a o) e.stands.is e.role_is out ends c.args.self.now.deep)
          (due_halts fixed_semicolon [] (λ o. done a o) c.if-not-sees.ensures);
      ahead = omega arith;
      within = omega (arith, e.stands.within);
    }

pub returns : goal.returns
returns g c =
    let e = c.if-not-sees_after.ensures.yes refl in
    let m = c.if-not-sees.ensures in
    record {
      reads = λ list ss a ends out. leads (λ o. before_semicolon a o) (list_outside list ss e.token (after_view c.args.word) (λ o. before_semicolon a o) e.stands.is e.role_is out ends c.args.self.now.deep)
          (due_outside fixed_semicolon [] (λ o. done a o) m.token m.stands.is m.role_is (λ o. refl) (λ d. refl) c.args.self.now.deep);
      two = omega arith;
      within = omega (arith, m.stands.within);
    }
