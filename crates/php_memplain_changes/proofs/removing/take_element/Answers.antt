use Rattle.std.proofs.Common.{sym, ◌∙◌, ap}
use Rattle.php_memdef.specs.declared.place.Place.{Place}
use Rattle.php_memplain_cells.specs.Memory.{memory_seen}
use Rattle.php_memplain_places.specs.Spots.{spot_seen}
use Rattle.php_memplain_changes.proofs.RemoveLemmas.{found_good, removed_around, as_removed}
use Rattle.php_memplain_changes.proofs.NameLemmas.{nothing_taken}
use Rattle.php_memplain_changes.proofs.removing.take_element.Goals as goal

pub remove_at-requires-clause-there : goal.remove_at-requires-clause-there
remove_at-requires-clause-there c = found_good (memory_seen c.args.cells.now) c.requires.closed _ (spot_seen c.in-Some-find.spot) (sym c.in-Some-find.ensures)

pub returns-in-Some-find-clause-ok : goal.returns-in-Some-find-clause-ok
returns-in-Some-find-clause-ok c =
    as_removed c.args.cells.now c.remove_at.new.cells c.remove_at.result _ _ c.remove_at.ensures
    (λ b. removed_around (memory_seen c.args.cells.now) b c.args.at.now c.in_ok-around.around.base c.pop.new.self c.in-Some.step _
    (ap (λ (p : Place). p.base) c.in_ok-around.ensures)
    (ap (λ (p : Place). p.path) (sym c.in_ok-around.ensures) ∙ c.in-Some.ensures.last)
    c.in-Some-find.ensures)

pub returns-clause-ok : goal.returns-clause-ok
returns-clause-ok c =
    nothing_taken c.args.cells.now _ c.requires.counted
    (λ b. removed_around (memory_seen c.args.cells.now) b c.args.at.now c.in_ok-around.around.base c.pop.new.self c.in-Some.step _
    (ap (λ (p : Place). p.base) c.in_ok-around.ensures)
    (ap (λ (p : Place). p.path) (sym c.in_ok-around.ensures) ∙ c.in-Some.ensures.last)
    c.in-None.ensures)
