use Rattle.std.proofs.Common.{sym, ◌∙◌, ap, arith}
use Rattle.std.specs.Prelude.{option_map}
use Rattle.php_memdef.specs.declared.place.Base.{Base}
use Rattle.php_memdef.specs.Places.{base_spot}
use Rattle.php_memplain_cells.specs.Memory.{memory_seen}
use Rattle.php_memplain_places.specs.Spots.{spot_seen}
use Rattle.php_memplain_writes.proofs.FindLemmas.{few_steps, one_more}
use Rattle.php_memplain_writes.proofs.EndLemmas.{base_missing, way_stops}
use Rattle.php_memplain_writes.proofs.binding.bind_way.Goals as goal

pub bind_new_base-requires-clause-missing : goal.bind_new_base-requires-clause-missing
bind_new_base-requires-clause-missing c =
    ap (λ (b : Base). base_spot (memory_seen c.args.cells.now) b) (sym c.requires.front.base)
    ∙ base_missing (memory_seen c.args.cells.now) c.args.front.now c.args.way c.requires.way (sym (ap (option_map spot_seen) c.in-None.is))

pub bind_new_base-requires-clause-some : goal.bind_new_base-requires-clause-some
bind_new_base-requires-clause-some c = omega (arith, one_more c.args.place.now c.args.front.now c.requires.front)

pub bind_element_at-requires-clause-within : goal.bind_element_at-requires-clause-within
bind_element_at-requires-clause-within c =
    let m = memory_seen c.args.cells.now in
    let q = c.args.front.now in
    omega (arith, c.requires.way.steps, few_steps m q.path (base_spot m q.base))

pub bind_element_at-requires-clause-stops : goal.bind_element_at-requires-clause-stops
bind_element_at-requires-clause-stops c = way_stops (memory_seen c.args.cells.now) c.args.front.now c.args.way c.requires.way c.requires.whole.closed (spot_seen c.in-Some.spot) (sym (ap (option_map spot_seen) c.in-Some.is))
