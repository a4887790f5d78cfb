use Rattle.std.proofs.Common.{◌≡◌, ◌≤◌, refl, subst, arith}
use Rattle.std.specs.Prelude.{Ok, Some, None}
use Rattle.php_memplain_cells.specs.Seen.{stores_seen}
use Rattle.php_memplain_copy.specs.Walking.{Start}
use Rattle.php_memplain_walk.specs.Way.{StepIs}
use Rattle.php_memplain_walk.proofs.WayLemmas.{begin, way_begun}
use Rattle.php_memplain_walk.proofs.copying.copy_array.Goals as goal

pub loop-turn-init : goal.loop-turn-init
loop-turn-init c = (
  λ before others can. begin before c.args.root.now (record { source = c.args.source; levels = c.args.levels; stores = stores_seen c.args.stores.now }) others c.args.stores.now c.args.objects.now.items c.args.log.now _ can c.has_rising_serials.ensures refl refl refl c.new.ensures.items refl c.new-2.ensures.items,
  omega arith,
)

pub step-requires : goal.step-requires
step-requires c = (c.requires.0, (_, (c.requires.1.0, c.loop-turn.invariant.0 c.requires.0 c.requires.1.0 c.requires.1.1)))

pub returns-in-Ok-Some-clause-copy : goal.returns-in-Ok-Some-clause-copy
returns-in-Ok-Some-clause-copy c = λ before others can.
    let start : Start = record { source = c.args.source; levels = c.args.levels; stores = stores_seen c.args.stores.now } in
    subst (λ r. StepIs before c.args.root.now start others (Ok r) c.step.new.self c.step.new.stores c.step.new.objects.items c.step.new.log) c.in-Ok-Some.field-0-is
    (c.in-Ok-Some.ensures.step before start others (c.loop-turn.invariant.0 before others can))

pub returns-in-Err-clause-copy : goal.returns-in-Err-clause-copy
returns-in-Err-clause-copy c = λ before others can.
    let start : Start = record { source = c.args.source; levels = c.args.levels; stores = stores_seen c.args.stores.now } in
    c.in-Err.ensures.step before start others (c.loop-turn.invariant.0 before others can)

pub loop-turn-preserved : goal.loop-turn-preserved
loop-turn-preserved c = (
  λ before others can. (
      let start : Start = record { source = c.args.source; levels = c.args.levels; stores = stores_seen c.args.stores.now } in
      subst (λ r. StepIs before c.args.root.now start others (Ok r) c.step.new.self c.step.new.stores c.step.new.objects.items c.step.new.log) c.in-Ok-None.field-0-is
      (c.in-Ok-None.ensures.step before start others (c.loop-turn.invariant.0 before others can))),
  omega (arith, c.loop-turn.invariant.1, c.step.ensures.made),
)

pub returns-clause-copy : goal.returns-clause-copy
returns-clause-copy c = λ before others can. way_begun before c.args.root.now _ others c.loop-turn.stores c.loop-turn.objects.items c.loop-turn.log c.loop-turn.copying (c.loop-turn.invariant.0 before others can)
