use Rattle.std.proofs.Common.{arith}
use Rattle.php_token.specs.Token.{token_at}
use Rattle.php_grammar.specs.declaration.MemberMachine.{past_modifiers}
use Rattle.php_parse_member.proofs.Moves.{leads_halts}
use Rattle.php_parse_member.proofs.Steps.{none_begins, other_behind}
use Rattle.php_parse_member.proofs.member.behind.Goals as goal

pub returns-in_default : goal.returns-in_default
returns-in_default c =
    let b = c.requires.behind in
    record {
      halts = leads_halts (past_modifiers b.modifiers) b.reads
          (none_begins b.modifiers (other_behind c.args.reader.now.tokens.now c.args.place b.modifiers c.args.lead (token_at c.args.reader.now.tokens.now c.args.place).text c.requires.here c.requires.last
          c.in_default.not-Function c.in_default.not-Constants c.in_default.not-Use c.in_default.not-Variable));
      ahead = omega (arith, b.sized);
      within = b.within;
    }
