use Rattle.std.proofs.Common.{◌∙◌, Some, None, refl, ap, arith}
use Rattle.php_ast.specs.expression.Tree as tree
use Rattle.php_grammar.specs.statement.Machine.{named_here}
use Rattle.php_grammar.specs.declaration.MemberMachine.{past_first_word, past_colons}
use Rattle.php_parse_member.proofs.Moves.{leads, leads_halts}
use Rattle.php_parse_member.proofs.Ruled.{name_is, first_reads, colons_read, second_reads, second_lacks}
use Rattle.php_parse_member.proofs.Shown.{plain_shown, word_moved}
use Rattle.php_parse_member.proofs.rules.named_head.Goals as goal

pub returns-then-not-sees_colons : goal.returns-then-not-sees_colons
returns-then-not-sees_colons c =
    let s = c.requires.named in
    record {
      origin = None;
      word = tree.named tt s.0;
      origin_shown = refl;
      word_shown = c.plain_word.ensures ∙ plain_shown c.args.reader.now.tokens.now c.args.at _ s.0 s.2;
      sized = omega arith;
      reads = λ rules. first_reads rules (tree.named tt s.0) s.1.token _ s.1.stands.is (name_is s.1.token s.0 s.1.role_is) c.requires.deep;
      no_class = c.if-not-sees_colons.ensures;
      within = omega (arith, s.1.stands.within);
    }

pub returns-in_default : goal.returns-in_default
returns-in_default c =
    let s = c.requires.named in
    let o = c.if-not-sees_colons.ensures in
    λ rules. record {
      halts = leads_halts (past_colons rules (named_here s.0))
          (leads (past_first_word rules (tree.named tt s.0)) (first_reads rules (tree.named tt s.0) s.1.token _ s.1.stands.is (name_is s.1.token s.0 s.1.role_is) c.requires.deep)
          (colons_read rules s.0 o.token _ o.stands.is o.role_is c.requires.deep))
          (second_lacks rules (named_here s.0) (rw c.in_default.is at c.in_ok-method.ensures));
      ahead = omega arith;
      within = omega (arith, o.stands.within);
    }

pub returns : goal.returns
returns c =
    let s = c.requires.named in
    let o = c.if-not-sees_colons.ensures in
    let m = rw c.in-Some.is at c.in_ok-method.ensures in
    record {
      origin = Some (named_here s.0);
      word = m.0;
      origin_shown = ap Some s.2;
      word_shown = word_moved c.args.reader.now.tokens.now _ _ _ m.0 m.2 (omega arith);
      sized = omega arith;
      reads = λ rules. leads (past_colons rules (named_here s.0))
          (leads (past_first_word rules (tree.named tt s.0)) (first_reads rules (tree.named tt s.0) s.1.token _ s.1.stands.is (name_is s.1.token s.0 s.1.role_is) c.requires.deep)
          (colons_read rules s.0 o.token _ o.stands.is o.role_is c.requires.deep))
          (second_reads rules (named_here s.0) m.0 m.1.token _ m.1.stands.is m.1.role_is c.requires.deep);
      no_class = tt;
      within = omega (arith, m.1.stands.within);
    }
