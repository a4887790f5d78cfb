use Rattle.std.proofs.Common.{ℕ, sym, ◌∙◌, ap}
use Rattle.std.specs.Prelude.{option_map}
use Rattle.php_entries.specs.Listing.{Entry}
use Rattle.php_array.specs.Answers.{shown_entry}
use Rattle.php_memplain_places.proofs.views.first_behind.Goals as goal

pub returns-in-Some : goal.returns-in-Some
returns-in-Some c = ap (option_map (λ (e : Entry ℕ). (e.serial, e.key))) (sym (sym c.entry_after.ensures ∙ ap (option_map shown_entry) c.in-Some.is))

pub returns-in-None : goal.returns-in-None
returns-in-None c = ap (option_map (λ (e : Entry ℕ). (e.serial, e.key))) (sym (sym c.entry_after.ensures ∙ ap (option_map shown_entry) c.in-None.is))
