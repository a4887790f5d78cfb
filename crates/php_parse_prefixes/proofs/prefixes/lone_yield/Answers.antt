use Rattle.std.proofs.Common.{◌∙◌, refl, ap, sym}
use Rattle.php_reader.specs.RoleView.{mark_view}
use Rattle.php_reader.proofs.Items.{ends_shown}
use Rattle.php_parse_prefixes.proofs.Lone.{yields_mark, no_lone, ends_nothing}
use Rattle.php_parse_prefixes.proofs.prefixes.lone_yield.Goals as goal

pub returns-in_default : goal.returns-in_default
returns-in_default c = λ tokens at marks. no_lone tokens at c.args.mark (ends_nothing c.args.mark c.in_default.not-Ends) marks

pub returns-then-yields_nothing : goal.returns-then-yields_nothing
returns-then-yields_nothing c = λ tokens at marks. (ends_shown tokens at (mark_view c.args.mark) c.in-Ends.closer (ap mark_view c.in-Ends.is) marks, sym c.yields_nothing.ensures ∙ c.if-yields_nothing.true)

pub returns : goal.returns
returns c = λ tokens at marks. no_lone tokens at c.args.mark (ap (λ m. yields_mark (mark_view m)) c.in-Ends.is ∙ sym c.yields_nothing.ensures ∙ c.if-yields_nothing.false) marks
