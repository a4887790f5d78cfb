use Rattle.std.proofs.Common.{◌∙◌}
use Rattle.php_forms.proofs.ClassLemmas.{further}
use Rattle.php_forms.proofs.class.check_further_words.Goals as goal

pub returns-else-is_empty : goal.returns-else-is_empty
returns-else-is_empty c = c.check_words.ensures ∙ further c.args.words.now c.args.met
