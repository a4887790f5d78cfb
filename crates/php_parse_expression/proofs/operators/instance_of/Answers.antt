use Rattle.std.proofs.Common.{◌+◌, ◌∙◌, refl, arith, ap, sym}
use Rattle.php_token.specs.Token.{token_at}
use Rattle.php_ast.specs.expression.Tree.{instance_of_static}
use Rattle.php_reader.specs.RoleView.{opening_view}
use Rattle.php_parse_operands.proofs.Heads.{follows_head}
use Rattle.php_parse_expression.proofs.Joins.{instance_opens, static_instance_reads, no_operand, static_instance_spans, instance_rests}
use Rattle.php_parse_expression.proofs.operators.instance_of.Goals as goal

pub returns-in_default : goal.returns-in_default
returns-in_default g c = λ least near f start spans is.
    let o = c.requires.here in
    record {
      halts = no_operand f (instance_opens o.token f o.stands.is o.role_is near (omega arith) c.args.parser.now.deep) (rw c.in_default.is at c.opening_at.ensures);
      ahead = omega arith;
      within = omega (arith, o.stands.within);
    }

pub returns : goal.returns
returns g c = λ least near f start spans is.
    let o = c.requires.here in
    let b = c.in-Some.ensures in
    let a = rw c.in-Some-static_alone.is at c.static_alone.ensures in
    record {
      form = instance_of_static f tt;
      spans = static_instance_spans c.args.parser.now.reader.tokens.now _ _ _ f start c.args.left.next c.in_ok-instance_of_static_expr.ensures.shown c.spot.ensures spans;
      reads = static_instance_reads f b.token near (instance_opens o.token f o.stands.is o.role_is near (omega arith) c.args.parser.now.deep) b.stands.is
          (b.role_is ∙ ap (λ k. opening_view k (token_at c.args.parser.now.reader.tokens.now (c.args.left.next + 1)).text) a.0) (λ e. a.1 (sym (follows_head c.args.parser.now.reader.tokens.now (c.args.left.next + 1 + 1) _ a.2) ∙ e)) c.args.parser.now.deep;
      edge_is = sym c.instance_of_edge.ensures;
      rests = instance_rests (instance_of_static f tt) _ refl;
      follows = a.2;
      bare = λ h. cc;
      ahead = omega arith;
      within = omega (arith, b.stands.within);
      deep = c.args.parser.now.deep;
    }
