-- What an array ends as, where a reference to one of its values was handed out for writing.
use Rattle.std.specs.Prelude.{Option}
use Rattle.std.specs.Borrow.{LendsIf, Fml, RattleType, MutBor}
use Rattle.php_value.specs.declared.key.Key.{Key}
use Rattle.php_entries.specs.Listing.{Listing}
use Rattle.php_entries.specs.Changes.{with_value_under}
use Rattle.php_array.specs.contracts.entries.Entries.{the_row}

-- the key has the value that was last written through r, and all else stays; at `None` all stays
abbrev pub lends_value : (T : RattleType) → MutBor (Listing T.Denot) → Key → Option (MutBor T.Denot) → Fml
lends_value T array k r = LendsIf (the_row T) T array r (with_value_under array.now k) array.now
