use Rattle.std.proofs.Common.{sym, ◌∙◌, ap, subst, arith, add-one}
use Rattle.php_memplain_changes.specs.Named.{has_name, NoneBefore}
use Rattle.php_memplain_changes.proofs.NameLemmas.{none_yet, none_on, first_at, none_so_far}
use Rattle.php_memplain_changes.proofs.named.variable_place.Goals as goal

pub loop-at-init : goal.loop-at-init
loop-at-init c = none_yet (has_name c.args.name) c.args.variables.now.items

pub returns-then-is_named-clause-some : goal.returns-then-is_named-clause-some
returns-then-is_named-clause-some c =
    first_at (has_name c.args.name) c.args.variables.now.items c.loop-at.at c.index-variable.result.now c.loop-at.invariant (let ok = c.args.variables.now.ok in omega (arith, c.loop-at-test.true, c.len.ensures))
    (ap (has_name c.args.name) (sym c.index-variable.ensures) ∙ sym c.is_named.ensures ∙ c.if-is_named.true)

pub loop-at-preserved : goal.loop-at-preserved
loop-at-preserved c =
    subst (NoneBefore (has_name c.args.name) c.args.variables.now.items) (sym (add-one c.loop-at.at))
    (none_on (has_name c.args.name) c.args.variables.now.items c.loop-at.at c.index-variable.result.now c.loop-at.invariant (let ok = c.args.variables.now.ok in omega (arith, c.loop-at-test.true, c.len.ensures))
    (ap (has_name c.args.name) (sym c.index-variable.ensures) ∙ sym c.is_named.ensures ∙ c.if-is_named.false))

pub returns-clause-none : goal.returns-clause-none
returns-clause-none c = none_so_far (has_name c.args.name) c.args.variables.now.items c.loop-at.at (let ok = c.args.variables.now.ok in omega (arith, c.loop-at-test.false, c.len.ensures)) c.loop-at.invariant
