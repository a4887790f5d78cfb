use Rattle.std.proofs.Common.{refl, arith}
use Rattle.php_parse_member.proofs.Routines.{ampersand_shown}
use Rattle.php_parse_member.proofs.functions.reference.Goals as goal

pub returns-then-sees_ampersand : goal.returns-then-sees_ampersand
returns-then-sees_ampersand c =
    let o = c.if-sees_ampersand.ensures in
    record { spelled = ampersand_shown c.args.tokens.now c.args.at o; sized = omega arith; absent = λ h. cc; within = omega (arith, o.stands.within) }

pub returns : goal.returns
returns c = record { spelled = refl; sized = omega arith; absent = λ h. c.if-sees_ampersand.ensures; within = c.requires.within }
