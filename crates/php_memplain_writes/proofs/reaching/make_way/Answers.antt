use Rattle.std.proofs.Common.{refl, sym, ap, arith}
use Rattle.std.specs.Prelude.{option_map}
use Rattle.php_memplain_cells.specs.Memory.{memory_seen}
use Rattle.php_memplain_places.specs.Spots.{spot_seen}
use Rattle.php_memplain_writes.proofs.EndLemmas.{base_missing, way_stops, way_found}
use Rattle.php_memplain_writes.proofs.reaching.make_way.Goals as goal

pub make_base-requires-clause-missing : goal.make_base-requires-clause-missing
make_base-requires-clause-missing c = base_missing (memory_seen c.args.cells.now) c.args.place.now c.args.way c.requires.way (sym (ap (option_map spot_seen) c.in-None.is))

pub make_element-requires-clause-stops : goal.make_element-requires-clause-stops
make_element-requires-clause-stops c = way_stops (memory_seen c.args.cells.now) c.args.place.now c.args.way c.requires.way c.requires.whole.closed (spot_seen c.in-Some.spot) (sym (ap (option_map spot_seen) c.in-Some.is))

pub returns-else-way-len-clause-making : goal.returns-else-way-len-clause-making
returns-else-way-len-clause-making c = (way_found (memory_seen c.args.cells.now) c.args.place.now c.args.way c.requires.way c.requires.whole.closed (spot_seen c.in-Some.spot) (sym (ap (option_map spot_seen) c.in-Some.is)) (omega (arith, c.len.ensures, c.if-way-len.false)), refl)
