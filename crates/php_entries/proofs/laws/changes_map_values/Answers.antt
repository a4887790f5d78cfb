use Rattle.php_entries.proofs.MapLemmas.{entry_at-map, entry_after-map, set_value-map, append_value-map, remove_key-map, pop_entry-map}
use Rattle.php_entries.proofs.laws.changes_map_values.Goals as goal

pub returns-clause-at : goal.returns-clause-at
returns-clause-at g c = entry_at-map

pub returns-clause-after : goal.returns-clause-after
returns-clause-after g c = entry_after-map

pub returns-clause-set : goal.returns-clause-set
returns-clause-set g c = set_value-map

pub returns-clause-append : goal.returns-clause-append
returns-clause-append g c = append_value-map

pub returns-clause-remove : goal.returns-clause-remove
returns-clause-remove g c = remove_key-map

pub returns-clause-pop : goal.returns-clause-pop
returns-clause-pop g c = pop_entry-map
