use Rattle.std.proofs.Common.{sym, ◌∙◌}
use Rattle.php_glance.proofs.GlanceLemmas.{missing, there}
use Rattle.php_glance.proofs.glance.is_missing.Goals as goal

pub returns-clause-missing : goal.returns-clause-missing
returns-clause-missing c = λ t x e. missing c.args.value.now x e (sym c.is_nothing.ensures ∙ t)

pub returns-clause-there : goal.returns-clause-there
returns-clause-there c = λ t x e. there c.args.value.now x e (sym c.is_nothing.ensures ∙ t)
