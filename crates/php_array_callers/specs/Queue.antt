-- The front of an array.
use Rattle.std.specs.Prelude.{List, [], ◌∷◌, Option, Some, None}
use Rattle.php_entries.specs.Listing.{Entry}

abbrev pub first_value : {T : Type 0} → List (Entry T) → Option T
first_value [] = None
first_value (e ∷ es) = Some e.value
