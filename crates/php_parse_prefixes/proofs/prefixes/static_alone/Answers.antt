use Rattle.std.proofs.Common.{◌+◌, refl, subst}
use Rattle.php_reader.specs.Seen.{Follows}
use Rattle.php_parse_prefixes.proofs.prefixes.static_alone.Goals as goal

pub returns-then-names_member : goal.returns-then-names_member
returns-then-names_member c = λ is. subst (λ x. Follows c.args.tokens.now (c.args.at + 1) x) (c.if-names_member.ensures.yes refl) c.next_at-behind.ensures
