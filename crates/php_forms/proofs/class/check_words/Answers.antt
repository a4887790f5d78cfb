use Rattle.std.proofs.Common.{map, length, ◌≤◌, arith, ap, sym, ◌∙◌}
use Rattle.php_ast.specs.declaration.View.{class_word_view}
use Rattle.php_forms.specs.ClassFaults as spec
use Rattle.php_legality.proofs.SequenceLemmas.{elements_are}
use Rattle.php_places.specs.Over.{over}
use Rattle.php_places.proofs.Lists.{step_over, end_over}
use Rattle.php_forms.proofs.WordLemmas.{get_same}
use Rattle.php_forms.proofs.class.check_words.Goals as goal

pub loop-word-preserved : goal.loop-word-preserved
loop-word-preserved c =
    step_over (spec.met_class_word) class_word_view c.args.words.now c.loop-word.word-index _ _ _ _ c.loop-word-test.true (get_same c.args.words.now c.loop-word.word-index _ c.loop-word-test.true) c.loop-word.invariant c.fault_if-first.ensures

pub returns : goal.returns
returns c =
    let past : length c.args.words.now ≤ c.loop-word.word-index = omega arith in
    end_over (spec.met_class_word) class_word_view c.args.words.now c.loop-word.word-index _ _ past c.loop-word.invariant
