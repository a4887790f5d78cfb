use Rattle.std.proofs.Common.{sym, ap, subst}
use Rattle.std.specs.Prelude.{Option}
use Rattle.php_memdef.specs.Places.{Spot, find_place}
use Rattle.php_memdef.specs.Writes.{last_removed_at}
use Rattle.php_memplain_cells.specs.Memory.{memory_seen}
use Rattle.php_memplain_places.specs.Spots.{spot_seen}
use Rattle.php_memplain_changes.specs.Taken.{Takes}
use Rattle.php_memplain_changes.proofs.RemoveLemmas.{found_good}
use Rattle.php_memplain_changes.proofs.NameLemmas.{nothing_taken}
use Rattle.php_memplain_changes.proofs.removing.take_last.Goals as goal

pub pop_at-requires-clause-there : goal.pop_at-requires-clause-there
pop_at-requires-clause-there c = found_good (memory_seen c.args.cells.now) c.requires.closed c.args.at.now (spot_seen c.in-Some.spot) (sym c.in-Some.ensures)

pub returns-in-Some : goal.returns-in-Some
returns-in-Some c =
    subst (λ (o : Option Spot). Takes c.args.cells.now c.pop_at.new.cells c.pop_at.result (λ b. last_removed_at o (memory_seen c.args.cells.now) b)) c.in-Some.ensures c.pop_at.ensures

pub returns-in-None : goal.returns-in-None
returns-in-None c =
    let m = memory_seen c.args.cells.now in
    nothing_taken c.args.cells.now (λ b. last_removed_at (find_place m c.args.at.now) m b) c.requires.counted (λ b. ap (λ (o : Option Spot). last_removed_at o m b) c.in-None.ensures)
