use Rattle.std.proofs.Common.{arith}
use Rattle.php_memplain_blocks.proofs.ForgetLemmas.{passed_none, passed_on, stands, not_there}
use Rattle.php_memplain_blocks.proofs.names.variable_place.Goals as goal

pub loop-at-init : goal.loop-at-init
loop-at-init c = passed_none c.args.name c.args.variables.now.items

pub returns-then-variable-name-clause-some : goal.returns-then-variable-name-clause-some
returns-then-variable-name-clause-some c =
    stands c.args.name c.args.variables.now.items c.loop-at.at c.loop-at.invariant c.index-variable.result.now (let ok = c.args.variables.now.ok in omega (arith, c.loop-at-test.true, c.len.ensures)) c.index-variable.ensures (omega (arith, c.if-variable-name.true))

pub loop-at-preserved : goal.loop-at-preserved
loop-at-preserved c =
    passed_on c.args.name c.args.variables.now.items c.loop-at.at c.loop-at.invariant c.index-variable.result.now (let ok = c.args.variables.now.ok in omega (arith, c.loop-at-test.true, c.len.ensures)) c.index-variable.ensures (λ e. omega (arith, e, c.if-variable-name.false))

pub returns-clause-none : goal.returns-clause-none
returns-clause-none c = not_there c.args.name c.args.variables.now.items c.loop-at.at c.loop-at.invariant (let ok = c.args.variables.now.ok in omega (arith, c.loop-at-test.false, c.len.ensures))
