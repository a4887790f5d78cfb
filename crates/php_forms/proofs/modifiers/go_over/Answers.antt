use Rattle.std.proofs.Common.{map, length, ◌≤◌, arith, ap, sym, ◌∙◌}
use Rattle.php_ast.specs.declaration.View.{modifier_view}
use Rattle.php_forms.specs.Modifiers as spec
use Rattle.php_legality.proofs.SequenceLemmas.{elements_are}
use Rattle.php_places.specs.Over.{over}
use Rattle.php_places.proofs.Lists.{step_over, end_over}
use Rattle.php_forms.proofs.WordLemmas.{get_same}
use Rattle.php_forms.proofs.modifiers.go_over.Goals as goal

pub loop-modifier-init : goal.loop-modifier-init
loop-modifier-init c =
    ap (λ w. over spec.met_word (map modifier_view c.args.modifiers.now) (record { first = c.args.met; words = w })) c.no_words.ensures
    ∙ ap (λ ys. over spec.met_word ys (spec.before_words c.args.met)) (sym (elements_are modifier_view c.args.modifiers.now))

pub loop-modifier-preserved : goal.loop-modifier-preserved
loop-modifier-preserved c =
    step_over (spec.met_word) modifier_view c.args.modifiers.now c.loop-modifier.modifier-index _ _ _ _ c.loop-modifier-test.true (get_same c.args.modifiers.now c.loop-modifier.modifier-index _ c.loop-modifier-test.true) c.loop-modifier.invariant c.check_word-worded.ensures

pub returns : goal.returns
returns c =
    let past : length c.args.modifiers.now ≤ c.loop-modifier.modifier-index = omega arith in
    end_over (spec.met_word) modifier_view c.args.modifiers.now c.loop-modifier.modifier-index _ _ past c.loop-modifier.invariant
