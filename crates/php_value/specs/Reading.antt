-- How a number is read byte by byte. Only private contracts speak of it.
use Rattle.std.specs.Prelude.{Bool, true, false, Option, Some, None}
use Rattle.php_value.specs.declared.form.ByteKind.{ByteKind}
use Rattle.php_value.specs.declared.form.ByteKind.TheVariants.{Blank, Sign, Digit, Point, Mark}
use Rattle.php_value.specs.declared.form.Place.{Place}
use Rattle.php_value.specs.declared.form.Place.TheVariants.{Start, Signed, Whole, PointFirst, Fraction, Marked, MarkedSigned, Exponent}

-- where a byte leads from a place, if a number can go on with it
abbrev pub place_after : Place → ByteKind → Option Place
place_after Start Blank = Some Start
place_after Start Sign = Some Signed
place_after Start Digit = Some Whole
place_after Start Point = Some PointFirst
place_after Signed Digit = Some Whole
place_after Signed Point = Some PointFirst
place_after Whole Digit = Some Whole
place_after Whole Point = Some Fraction
place_after Whole Mark = Some Marked
place_after PointFirst Digit = Some Fraction
place_after Fraction Digit = Some Fraction
place_after Fraction Mark = Some Marked
place_after Marked Sign = Some MarkedSigned
place_after Marked Digit = Some Exponent
place_after MarkedSigned Digit = Some Exponent
place_after Exponent Digit = Some Exponent
place_after p k = None

-- what was read at this place is a number
abbrev pub ends_number : Place → Bool
ends_number Whole = true
ends_number Fraction = true
ends_number Exponent = true
ends_number p = false
