use Rattle.std.proofs.Common.{refl, arith}
use Rattle.php_ast.specs.expression.Tree.{step_property}
use Rattle.php_parse_operands.proofs.Makes.{step_reads, step_halts, step_shown}
use Rattle.php_parse_operands.proofs.parser.Parser.property_step.Goals as goal

pub returns-in_default : goal.returns-in_default
returns-in_default g c = λ steps.
    let o = c.requires.here in
    record { halts = step_halts o.token steps o.stands.is o.role_is (rw c.in_default.is at c.in_ok-word.ensures) c.args.self.now.deep; ahead = omega arith; within = omega (arith, o.stands.within) }

pub returns : goal.returns
returns g c =
    let o = c.requires.here in
    let m = rw c.in-Some.is at c.in_ok-word.ensures in
    record {
      more = λ steps. step_property steps m.0;
      shown = λ steps start sized. step_shown c.args.self.now.reader.tokens.now steps _ m.0 start c.args.at sized m.2;
      sized = λ steps. omega arith;
      flat = refl;
      reads = λ steps. step_reads o.token m.1.token steps m.0 o.stands.is o.role_is m.1.stands.is m.1.role_is c.args.self.now.deep;
      ahead = omega arith;
      within = omega (arith, m.1.stands.within);
    }
