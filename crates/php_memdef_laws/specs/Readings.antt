-- What reading gives in memories that differ in the numbers of their stores alone.
use Rattle.std.specs.Prelude.{ℕ}
use Rattle.php_memdef.specs.Reading.{Reading, gives, throws}
use Rattle.php_memdef.specs.Alike.{renamed_content}

abbrev pub renamed_reading : (ℕ → ℕ) → Reading → Reading
renamed_reading to (gives c) = gives (renamed_content to c)
renamed_reading to (throws kind) = throws kind
