-- Words that a run can have as its arguments.
use Rattle.std.specs.Prelude.{ℕ, ◌≤◌, List, length}
use Rattle.std.specs.List.{All}
use Rattle.php_entries.specs.Listing.{ENTRY_LIMIT}
use Rattle.php_memdef.specs.Sound.{IsShort}

-- no more of them than an array has entries, and each one a string that isn't too long
pub record AreArguments (words : List (List ℕ)) : Type 0 where
  pub few : length words ≤ ENTRY_LIMIT
  pub short : All IsShort words
