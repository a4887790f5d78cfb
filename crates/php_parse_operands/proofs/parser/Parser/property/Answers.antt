use Rattle.std.proofs.Common.{refl, arith, ◌∙◌}
use Rattle.php_ast.specs.expression.Tree.{thin, selected}
use Rattle.php_ast.specs.expression.Placed.{noted, notes_of}
use Rattle.php_parse_operands.proofs.Trails.{property_reads, property_halts, selected_spans}
use Rattle.php_parse_operands.proofs.parser.Parser.property.Goals as goal

pub returns-in_default : goal.returns-in_default
returns-in_default g c = λ f start sized low.
    let o = c.requires.here in
    record { halts = property_halts o.token f o.stands.is o.role_is low c.requires.no_brace (rw c.in_default.is at c.in_ok-member.ensures) c.args.self.now.deep; ahead = omega arith; within = omega (arith, o.stands.within) }

pub returns : goal.returns
returns g c = λ f start sized low.
    let o = c.requires.here in
    let m = rw c.in-Some.is at c.in_ok-member.ensures in
    let s = selected_spans c.args.self.now.reader.tokens.now f thin _ m.0 start c.args.at sized m.2 in
    record {
      form = selected f thin m.0;
      spans = record { shown = c.property_suffix.ensures.shown (noted (notes_of c.args.self.now.reader.tokens.now) start f) ∙ s.shown; sized = s.sized };
      reads = property_reads o.token m.1.token f m.0 o.stands.is o.role_is low m.1.stands.is c.requires.no_brace m.1.role_is c.args.self.now.deep;
      ends_is = refl;
      call_is = refl;
      ahead = omega arith;
      within = omega (arith, m.1.stands.within);
    }
