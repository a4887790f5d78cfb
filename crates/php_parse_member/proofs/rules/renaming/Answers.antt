use Rattle.std.proofs.Common.{arith}
use Rattle.php_ast.specs.declaration.Tree.{renames}
use Rattle.php_grammar.specs.declaration.MemberMachine.{past_as}
use Rattle.php_parse_member.specs.RuleAnswer.{past_head, past_tail}
use Rattle.php_parse_member.proofs.Moves.{leads, leads_halts}
use Rattle.php_parse_member.proofs.Ruled.{as_reads, tail_ends, tail_unended}
use Rattle.php_parse_member.proofs.Shown.{renaming_shown}
use Rattle.php_parse_member.proofs.rules.renaming.Goals as goal

pub returns-then-not-sees : goal.returns-then-not-sees
returns-then-not-sees c =
    let h = c.requires.head in
    let o = c.requires.here in
    let t = c.in_ok-tail.ensures in
    λ rules. record {
      halts = leads_halts (past_tail rules h.origin h.word c.in_ok-tail.tail.seen t.alias)
          (leads (past_as rules h.origin h.word) (leads (past_head rules h.origin h.word) (h.reads rules) (as_reads rules h.origin h.word o.token _ o.stands.is o.role_is c.requires.deep)) (t.reads rules h.origin h.word))
          (tail_unended rules h.origin h.word c.in_ok-tail.tail.seen t.alias t.no_alias c.if-not-sees.ensures);
      ahead = omega (arith, h.sized, t.sized);
      within = t.within;
    }

pub returns : goal.returns
returns c =
    let h = c.requires.head in
    let o = c.requires.here in
    let t = c.in_ok-tail.ensures in
    let e = c.if-not-sees.ensures in
    record {
      form = renames tt h.origin h.word c.in_ok-tail.tail.seen t.alias;
      shown = renaming_shown c.args.reader.now.tokens.now c.args.at _ _ _ _ _ _ h.origin h.word t.alias c.spot.ensures h.origin_shown h.word_shown t.shown (omega (arith, h.sized));
      sized = omega (arith, h.sized, t.sized);
      reads = λ rules. leads (past_tail rules h.origin h.word c.in_ok-tail.tail.seen t.alias)
          (leads (past_as rules h.origin h.word) (leads (past_head rules h.origin h.word) (h.reads rules) (as_reads rules h.origin h.word o.token _ o.stands.is o.role_is c.requires.deep)) (t.reads rules h.origin h.word))
          (tail_ends rules h.origin h.word c.in_ok-tail.tail.seen t.alias e.token _ e.stands.is t.no_alias e.role_is c.requires.deep);
      ahead = omega (arith, h.sized, t.sized);
      within = omega (arith, e.stands.within);
    }
