use Rattle.std.proofs.Common.{◌≡◌, map, drop}
use Rattle.php_ast.specs.declaration.View.{class_word_view}
use Rattle.php_forms.specs.ClassFaults as spec
use Rattle.php_ast.specs.statement.View.{sequence}
use Rattle.php_legality.specs.Lists.{elements}
use Rattle.php_places.specs.Over.{over}
use Rattle.php_forms.proofs.class.check_words.Given as goal

abbrev pub invariant-loop-word : goal.invariant-loop-word
invariant-loop-word l = over (spec.met_class_word) (map class_word_view (drop l.word-index l.words)) l.first ≡ over (spec.met_class_word) (map class_word_view l.words) (l.fn.met)
