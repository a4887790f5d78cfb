use Rattle.std.proofs.Common.{None, ◌∙◌, ap}
use Rattle.php_ast.specs.declaration.View.{modifier_view}
use Rattle.php_ast.specs.statement.View.{sequence}
use Rattle.php_legality.specs.Lists.{elements}
use Rattle.php_forms.specs.Modifiers.{before_words}
use Rattle.php_forms.proofs.ModifierLemmas.{abstract_among}
use Rattle.php_forms.proofs.modifiers.is_abstract.Goals as goal

pub returns : goal.returns
returns c = ap (λ w. w.words.has_abstract) c.go_over.ensures ∙ abstract_among (elements (sequence modifier_view c.args.modifiers.now)) (before_words None)
