use Rattle.php_entries.proofs.SoundLemmas.{no_entries-sound, set_value-sound, append_value-sound, remove_key-sound, pop_entry-sound, with_values-sound}
use Rattle.php_entries.proofs.laws.changes_keep_sound.Goals as goal

pub returns-clause-none : goal.returns-clause-none
returns-clause-none g c = no_entries-sound

pub returns-clause-set : goal.returns-clause-set
returns-clause-set g c = set_value-sound

pub returns-clause-append : goal.returns-clause-append
returns-clause-append g c = append_value-sound

pub returns-clause-remove : goal.returns-clause-remove
returns-clause-remove g c = remove_key-sound

pub returns-clause-pop : goal.returns-clause-pop
returns-clause-pop g c = pop_entry-sound

pub returns-clause-values : goal.returns-clause-values
returns-clause-values g c = with_values-sound
