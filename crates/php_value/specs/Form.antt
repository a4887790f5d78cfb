-- What a text is as a number. What a number may look like is said of the kinds of its bytes.
use Rattle.std.specs.Prelude.{ℕ, suc, Bool, true, false, ◌==◌, ◌&&◌, ◌||◌, List, [], ◌∷◌, map, take, length, ℤ, Option, Some, None, if◌then◌else◌}
use Rattle.std.specs.Char.{is_ascii_digit}
use Rattle.php_value.specs.declared.form.ByteKind.{ByteKind}
use Rattle.php_value.specs.declared.form.ByteKind.TheVariants.{Blank, Sign, Digit, Point, Mark, Other}
use Rattle.php_value.specs.declared.form.Form.{Form}
use Rattle.php_value.specs.declared.form.Form.TheVariants.{None as NoNumber, Int, LeadInt, Float, LeadFloat}
use Rattle.php_value.specs.Decimal.{written_int}

-- space, tab, line feed, vertical tab, form feed and carriage return
abbrev pub is_blank : ℕ → Bool
is_blank c = c == 32 || c == 9 || c == 10 || c == 11 || c == 12 || c == 13

-- `+` and `-` are signs, `.` is a point, and `e` and `E` mark an exponent
abbrev pub kind_of : ℕ → ByteKind
kind_of c =
    if is_blank c then Blank
    else if c == 43 || c == 45 then Sign
    else if is_ascii_digit c then Digit
    else if c == 46 then Point
    else if c == 69 || c == 101 then Mark
    else Other

-- digits and nothing else: maybe none, or at least one
abbrev pub is_all_digits : List ByteKind → Bool
is_all_digits [] = true
is_all_digits (Digit ∷ ks) = is_all_digits ks
is_all_digits (k ∷ ks) = false

abbrev pub is_digits : List ByteKind → Bool
is_digits (Digit ∷ ks) = is_all_digits ks
is_digits ks = false

-- without the blanks, the sign or the point that it may have there
abbrev pub without_blanks : List ByteKind → List ByteKind
without_blanks (Blank ∷ ks) = without_blanks ks
without_blanks ks = ks

abbrev pub without_sign : List ByteKind → List ByteKind
without_sign (Sign ∷ ks) = ks
without_sign ks = ks

abbrev pub without_point : List ByteKind → List ByteKind
without_point [] = []
without_point (Point ∷ ks) = ks
without_point (k ∷ ks) = k ∷ without_point ks

-- what stands before the first mark of an exponent
abbrev pub before_mark : List ByteKind → List ByteKind
before_mark [] = []
before_mark (Mark ∷ ks) = []
before_mark (k ∷ ks) = k ∷ before_mark ks

-- behind the first mark, where there is one, stand an optional sign and digits
abbrev pub has_exponent_digits : List ByteKind → Bool
has_exponent_digits [] = true
has_exponent_digits (Mark ∷ ks) = is_digits (without_sign ks)
has_exponent_digits (k ∷ ks) = has_exponent_digits ks

-- digits with at most one point before, between or behind them, and maybe an exponent
abbrev pub is_unsigned_number : List ByteKind → Bool
is_unsigned_number ks = is_digits (without_point (before_mark ks)) && has_exponent_digits ks

-- blanks, an optional sign and such a number
abbrev pub is_number : List ByteKind → Bool
is_number ks = is_unsigned_number (without_sign (without_blanks ks))

abbrev pub longer : Option ℕ → Bool → Option ℕ
longer (Some n) b = Some (suc n)
longer None true = Some 0
longer None false = None

-- the length of the longest prefix that passes the test, where one passes
abbrev pub longest_prefix : (List ByteKind → Bool) → List ByteKind → Option ℕ
longest_prefix test [] = if test [] then Some 0 else None
longest_prefix test (k ∷ ks) = longer (longest_prefix (λ js. test (k ∷ js)) ks) (test [])

-- the bytes behind the leading blanks
abbrev pub behind_blanks : List ℕ → List ℕ
behind_blanks [] = []
behind_blanks (c ∷ cs) = if is_blank c then behind_blanks cs else c ∷ cs

-- the form of a text that begins with this integer, or with a number that is none, and that is this number as a whole or not
abbrev pub form_of_number : Option ℤ → Bool → Form
form_of_number (Some z) true = Int z
form_of_number (Some z) false = LeadInt z
form_of_number None true = Float
form_of_number None false = LeadFloat

abbrev pub form_by_prefix : List ℕ → Option ℕ → Form
form_by_prefix t None = NoNumber
form_by_prefix t (Some n) = form_of_number (written_int (behind_blanks (take n t))) (n == length t)

-- The longest prefix that is a number decides. It is an integer where it has no point and no exponent and fits.
abbrev pub form_of : List ℕ → Form
form_of t = form_by_prefix t (longest_prefix is_number (map kind_of t))
