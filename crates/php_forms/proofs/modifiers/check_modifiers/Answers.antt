use Rattle.std.proofs.Common.{ap}
use Rattle.php_forms.specs.Modifiers.{met_modifiers}
use Rattle.php_forms.proofs.modifiers.check_modifiers.Goals as goal

pub returns : goal.returns
unfolding met_modifiers
returns c = ap (λ w. w.first) c.go_over.ensures
