use Rattle.std.proofs.Common.{None, refl, sym, ◌∙◌, ap, arith}
use Rattle.php_grammar.specs.statement.Role.{name_text}
use Rattle.php_parse_simple.specs.Answer.{head_text}
use Rattle.php_parse_member.proofs.Ruled.{first_reads, first_lacks, keyword_no_class}
use Rattle.php_parse_member.proofs.Shown.{word_moved}
use Rattle.php_parse_member.proofs.rules.keyword_head.Goals as goal

pub returns-in_default : goal.returns-in_default
returns-in_default c = λ rules. record { halts = first_lacks rules (rw c.in_default.is at c.in_ok-word.ensures) c.requires.no_end; ahead = omega arith; within = c.requires.within }

pub returns : goal.returns
returns c =
    let m = rw c.in-Some.is at c.in_ok-word.ensures in
    record {
      origin = None;
      word = m.0;
      origin_shown = refl;
      word_shown = word_moved c.args.reader.now.tokens.now _ _ _ m.0 m.2 (omega arith);
      sized = omega arith;
      reads = λ rules. first_reads rules m.0 m.1.token _ m.1.stands.is m.1.role_is c.requires.deep;
      no_class = keyword_no_class m.1.token m.0 _ (sym (ap (head_text name_text) m.1.stands.is) ∙ c.requires.unnamed) m.1.role_is;
      within = omega (arith, m.1.stands.within);
    }
