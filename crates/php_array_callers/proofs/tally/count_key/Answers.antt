use Rattle.std.proofs.Common.{ap}
use Rattle.std.specs.Prelude.{is_some}
use Rattle.php_entries.specs.Changes.{with_value_under}
use Rattle.php_array_callers.proofs.CallerLemmas.{set_value-values}
use Rattle.php_array_callers.proofs.tally.count_key.Goals as goal

pub returns-in-Some-clause-counted : goal.returns-in-Some-clause-counted
returns-in-Some-clause-counted c =
    let l = c.args.tally.now in
    let times = c.saturating_add.result in
    (set_value-values l (with_value_under l c.args.key times) c.args.key times (c.get_mut.ensures.sets (ap is_some c.in-Some.is) times)).0

pub returns-in-Some-clause-others : goal.returns-in-Some-clause-others
returns-in-Some-clause-others c =
    let l = c.args.tally.now in
    let times = c.saturating_add.result in
    (set_value-values l (with_value_under l c.args.key times) c.args.key times (c.get_mut.ensures.sets (ap is_some c.in-Some.is) times)).1

pub returns-clause-counted : goal.returns-clause-counted
returns-clause-counted c = (set_value-values c.args.tally.now c.set.new.self c.args.key 1 c.in_ok-set.ensures.set.1).0

pub returns-clause-others : goal.returns-clause-others
returns-clause-others c = (set_value-values c.args.tally.now c.set.new.self c.args.key 1 c.in_ok-set.ensures.set.1).1
