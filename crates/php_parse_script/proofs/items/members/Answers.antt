use Rattle.std.proofs.Common.{arith}
use Rattle.php_parse_script.proofs.Heads.{brace_halts}
use Rattle.php_parse_script.proofs.Inside.{braced}
use Rattle.php_parse_script.proofs.items.members.Goals as goal

pub returns-then-not-sees_members : goal.returns-then-not-sees_members
returns-then-not-sees_members c = λ items heading over. record {
  halts = brace_halts items heading _ c.if-not-sees_members.ensures over;
  ahead = omega arith;
  within = c.requires.within;
}

pub returns : goal.returns
returns c = braced c.args.reader.now c.args.at c.read_members.result c.if-not-sees_members.ensures c.read_members.ensures
