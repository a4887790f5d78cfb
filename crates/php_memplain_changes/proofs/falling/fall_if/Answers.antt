use Rattle.std.proofs.Common.{ℕ, [], sym, ◌∙◌, ap, subst}
use Rattle.std.specs.Prelude.{Option}
use Rattle.php_memdef.specs.Writes.{let_fall_if}
use Rattle.php_memplain_cells.specs.Memory.{memory_seen, IsCountedWith}
use Rattle.php_memplain_changes.specs.Taken.{in_hand}
use Rattle.php_memplain_changes.proofs.FallLemmas.{link_fallen}
use Rattle.php_memplain_changes.proofs.falling.fall_if.Goals as goal

pub returns-in-Some-clause-seen : goal.returns-in-Some-clause-seen
returns-in-Some-clause-seen c = c.fall.ensures.seen ∙ ap (let_fall_if (memory_seen c.args.cells.now) c.args.block) (sym c.in-Some.is)

pub returns-in-Some-clause-counted : goal.returns-in-Some-clause-counted
returns-in-Some-clause-counted c =
    link_fallen c.args.cells.now c.fall.new.cells c.args.block c.in-Some.store c.fall.ensures.stores c.fall.ensures.objects c.fall.ensures.seen
    (subst (λ (o : Option ℕ). IsCountedWith c.args.cells.now (in_hand o) []) c.in-Some.is c.requires.counted)

pub returns-in-None-clause-seen : goal.returns-in-None-clause-seen
returns-in-None-clause-seen c = ap (let_fall_if (memory_seen c.args.cells.now) c.args.block) (sym c.in-None.is)

pub returns-in-None-clause-counted : goal.returns-in-None-clause-counted
returns-in-None-clause-counted c = subst (λ (o : Option ℕ). IsCountedWith c.args.cells.now (in_hand o) []) c.in-None.is c.requires.counted
