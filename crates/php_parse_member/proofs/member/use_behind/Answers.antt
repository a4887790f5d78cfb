use Rattle.std.proofs.Common.{arith}
use Rattle.php_grammar.specs.declaration.MemberMachine.{past_modifiers}
use Rattle.php_parse_member.proofs.Moves.{leads_halts}
use Rattle.php_parse_member.proofs.Steps.{none_begins, use_late, lead_is}
use Rattle.php_parse_member.proofs.member.use_behind.Goals as goal

pub returns-then-at-place : goal.returns-then-at-place
returns-then-at-place c =
    let b = c.requires.behind in
    record {
      halts = leads_halts (past_modifiers b.modifiers) b.reads (none_begins b.modifiers (use_late c.args.at c.args.place b.modifiers _ b.sized (omega arith) (lead_is c.args.reader.now.tokens.now c.args.place _ c.requires.here)));
      ahead = omega (arith, b.sized);
      within = b.within;
    }
