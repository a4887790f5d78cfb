use Rattle.std.proofs.Common.{arith}
use Rattle.std.proofs.lemmas.Result.{err_from_is_err_and}
use Rattle.php_parse_member.specs.RuleAnswer.{past_head}
use Rattle.php_parse_member.proofs.Moves.{leads_halts}
use Rattle.php_parse_member.proofs.Ruled.{verb_lacks, other_verb}
use Rattle.php_parse_member.proofs.rules.rule.Goals as goal

pub returns-in_err-head : goal.returns-in_err-head
returns-in_err-head c =
    let q = err_from_is_err_and c.from_residual.result c.from_residual.ensures.1 in
    rw (q.1, q.2) c.in_err-head.ensures

pub returns-in_default : goal.returns-in_default
returns-in_default c =
    let h = c.in_ok-head.ensures in
    λ rules. record {
      halts = leads_halts (past_head rules h.origin h.word) (h.reads rules)
          (verb_lacks rules h.origin h.word (other_verb c.args.reader.now.tokens.now c.in_ok-head.head.next h.origin h.word c.verb_at.result c.verb_at.ensures h.no_class c.in_default.not-As c.in_default.not-InsteadOf));
      ahead = omega (arith, h.sized);
      within = h.within;
    }
