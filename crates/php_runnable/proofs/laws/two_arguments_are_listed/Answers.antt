use Rattle.std.proofs.Common.{refl}
use Rattle.php_entries.specs.Changes.{append_value}
use Rattle.php_memdef.specs.Places.{find_place, walk}
use Rattle.php_memdef.specs.Temporaries.{enter, push, push_array}
use Rattle.php_memdef.specs.Writes.{assign}
use Rattle.php_runnable.proofs.laws.two_arguments_are_listed.Goals as goal

pub returns : goal.returns
unfolding enter push push_array assign walk find_place append_value
returns c = record { file = refl; word = refl; no_more = refl; count = refl; writes = refl }
