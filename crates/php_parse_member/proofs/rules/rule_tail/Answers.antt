use Rattle.std.proofs.Common.{Some, None, ap, arith}
use Rattle.php_parse_member.specs.RuleAnswer.{past_tail}
use Rattle.php_parse_member.proofs.Moves.{leads}
use Rattle.php_parse_member.proofs.Ruled.{tail_seen, tail_unseen, alias_reads}
use Rattle.php_parse_member.proofs.Shown.{word_moved}
use Rattle.php_parse_member.proofs.rules.rule_tail.Goals as goal

pub returns-in-Some : goal.returns-in-Some
returns-in-Some c =
    let m = rw c.in-Some.is at c.in_ok-alias.ensures in
    record {
      alias = Some m.0;
      shown = ap Some (word_moved c.args.reader.now.tokens.now _ _ _ m.0 m.2 (omega (arith, c.past_visibility-place.ensures)));
      sized = omega (arith, c.past_visibility-place.ensures);
      reads = λ rules origin w. leads (past_tail rules origin w c.visibility_at-seen.result None)
          (tail_seen c.args.reader.now.tokens.now c.args.at _ c.args.reader.now.room rules origin w c.visibility_at-seen.result c.requires.deep c.past_visibility-place.ensures c.visibility_at-seen.ensures)
          (alias_reads rules origin w m.0 c.visibility_at-seen.result m.1.token _ m.1.stands.is
          (tail_unseen c.args.reader.now.tokens.now c.args.at _ c.visibility_at-seen.result c.past_visibility-place.ensures c.visibility_at-seen.ensures) m.1.role_is c.requires.deep);
      no_alias = tt;
      within = omega (arith, m.1.stands.within);
    }
