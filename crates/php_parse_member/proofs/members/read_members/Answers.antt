use Rattle.std.proofs.Common.{subst, arith}
use Rattle.php_parse_member.specs.Answer.{AnswersMembersIn}
use Rattle.php_parse_member.proofs.members.read_members.Goals as goal

pub returns : goal.returns
returns c = subst (λ k. AnswersMembersIn k c.args.reader.now.tokens.now c.args.at c.members_inside.result) (omega (arith, c.requires.deep)) c.members_inside.ensures
