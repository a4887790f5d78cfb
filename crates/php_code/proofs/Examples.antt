-- What the examples come to: each line is computed.
use Rattle.std.proofs.Common.{refl}
use Rattle.std.specs.Fmt.{digits}
use Rattle.php_entries.specs.Changes.{set_value, append_value, remove_key, pop_entry}
use Rattle.php_memdef.specs.Holders.{holders, object_holders}
use Rattle.php_memdef.specs.Copies.{copied}
use Rattle.php_memdef.specs.Places.{find_place, walk}
use Rattle.php_memdef.specs.Reading.{reading}
use Rattle.php_memdef.specs.Temporaries.{enter, leave, push, push_array, pass, turn, drop_top, copy, settle}
use Rattle.php_memdef.specs.Writes.{assign, shed}
use Rattle.php_memdef.specs.Releases.{fall}
use Rattle.php_actions.specs.Effect.{effect}
use Rattle.php_actions.specs.Frames.{landed, unserved}
use Rattle.php_actions.specs.Plan.{plan, truth}
use Rattle.php_code.specs.Examples.{CodeExamples}

pub code_examples : CodeExamples
unfolding digits set_value append_value remove_key pop_entry holders object_holders copied find_place walk reading enter leave push push_array pass turn drop_top copy settle assign shed fall effect landed unserved plan truth
code_examples = record {
  writes = refl;
  passes_over = refl;
  chooses_first = refl;
  chooses_second = refl;
  goes_back_with_a_tick = refl;
  no_code = refl;
  break_is_served = refl;
  outside_is_not_served = refl;
  return_is_not_served = refl;
  target_before_its_range_is_not_taken = refl;
}
