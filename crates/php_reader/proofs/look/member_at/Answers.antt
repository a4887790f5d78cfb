use Rattle.std.proofs.Common.{refl}
use Rattle.php_reader.proofs.Words.{variable_shown, word_member}
use Rattle.php_reader.proofs.look.member_at.Goals as goal

pub returns-then-sees_variable : goal.returns-then-sees_variable
returns-then-sees_variable c =
    let v = c.if-sees_variable.ensures.yes refl in
    variable_shown c.args.tokens.now c.args.at _ v.0 v.1 c.in_ok-name_at.ensures

pub returns-in-Some : goal.returns-in-Some
returns-in-Some c = word_member c.args.tokens.now c.args.at c.in-Some.word (rw c.in-Some.is at c.in_ok-word.ensures) (c.if-sees_variable.ensures.no refl)
