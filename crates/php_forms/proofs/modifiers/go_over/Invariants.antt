use Rattle.std.proofs.Common.{◌≡◌, map, drop}
use Rattle.php_ast.specs.declaration.View.{modifier_view}
use Rattle.php_forms.specs.Modifiers as spec
use Rattle.php_ast.specs.statement.View.{sequence}
use Rattle.php_legality.specs.Lists.{elements}
use Rattle.php_places.specs.Over.{over}
use Rattle.php_forms.proofs.modifiers.go_over.Given as goal

abbrev pub invariant-loop-modifier : goal.invariant-loop-modifier
invariant-loop-modifier l = over (spec.met_word) (map modifier_view (drop l.modifier-index l.modifiers)) l.worded ≡ over (spec.met_word) (elements (sequence modifier_view l.modifiers)) (spec.before_words l.fn.met)
