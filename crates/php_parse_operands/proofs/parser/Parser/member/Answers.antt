use Rattle.std.proofs.Common.{refl, arith}
use Rattle.php_ast.specs.expression.Tree.{colons, selected}
use Rattle.php_parse_operands.proofs.Trails.{member_reads, member_halts, selected_spans}
use Rattle.php_parse_operands.proofs.parser.Parser.member.Goals as goal

pub returns-in_default : goal.returns-in_default
returns-in_default g c = λ f start sized low.
    let o = c.requires.here in
    record { halts = member_halts o.token f o.stands.is o.role_is low (rw c.in_default.is at c.in_ok-member.ensures) c.args.self.now.deep; ahead = omega arith; within = omega (arith, o.stands.within) }

pub returns : goal.returns
returns g c = λ f start sized low.
    let o = c.requires.here in
    let m = rw c.in-Some.is at c.in_ok-member.ensures in
    record {
      form = selected f colons m.0;
      spans = selected_spans c.args.self.now.reader.tokens.now f colons _ m.0 start c.args.at sized m.2;
      reads = member_reads o.token m.1.token f m.0 o.stands.is o.role_is low m.1.stands.is m.1.role_is c.args.self.now.deep;
      ends_is = refl;
      call_is = refl;
      ahead = omega arith;
      within = omega (arith, m.1.stands.within);
    }
