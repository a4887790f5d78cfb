use Rattle.std.proofs.Common.{sym, ◌∙◌}
use Rattle.php_memdef.specs.Places.{base_spot}
use Rattle.php_memplain_cells.specs.Memory.{memory_seen}
use Rattle.php_memplain_places.specs.Spots.{spot_seen}
use Rattle.php_memplain_writes.proofs.FindLemmas.{place_found, all_steps, all_end}
use Rattle.php_memplain_writes.proofs.way.go_along.Goals as goal

pub returns-in-Some : goal.returns-in-Some
returns-in-Some c =
    let m = memory_seen c.args.cells.now in
    let p = c.args.place.now in
    let found = place_found m p (spot_seen c.in-Some.spot) (sym c.in-Some.ensures) in
    record {
      steps = c.len.ensures ∙ all_steps m p.path (base_spot m p.base) (spot_seen c.in-Some.spot) found;
      end = all_end m p.path (base_spot m p.base) (spot_seen c.in-Some.spot) found;
    }

pub returns : goal.returns
returns c = record { steps = c.meets-steps.ensures.steps; end = c.in_ok-end.ensures }
