use Rattle.std.proofs.Common.{arith}
use Rattle.php_parse_member.proofs.Ruled.{end_sinks}
use Rattle.php_parse_member.proofs.traits.sunk.Goals as goal

pub returns-then-sees_right_brace : goal.returns-then-sees_right_brace
returns-then-sees_right_brace c =
    let e = c.if-sees_right_brace.ensures in
    λ rules. record { halts = end_sinks rules e.token _ e.stands.is e.role_is; ahead = omega arith; within = c.requires.within }
