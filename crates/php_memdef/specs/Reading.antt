-- Reading a place as a value: what is missing is null, a string gives a byte, and some steps throw.
use Rattle.std.specs.Prelude.{ℕ, suc, ◌-◌, nat_lt, Bool, true, false, cond, List, [], ◌∷◌, length, Option, Some, None, ℤ, pos, negsuc, slice_get}
use Rattle.php_value.specs.declared.key.Key.{Key}
use Rattle.php_value.specs.declared.key.Key.TheVariants.{Int, Str}
use Rattle.php_value.specs.declared.form.Form.{Form}
use Rattle.php_value.specs.declared.form.Form.TheVariants as form
use Rattle.php_value.specs.declared.error_kind.ErrorKind.{ErrorKind}
use Rattle.php_value.specs.Form.{form_of}
use Rattle.php_memdef.specs.declared.place.Step.{Step}
use Rattle.php_memdef.specs.declared.place.Step.TheVariants.{At, Push}
use Rattle.php_memdef.specs.declared.place.Place.{Place}
use Rattle.php_memdef.specs.Contents.{Content, null, truth, int, text, array, object, Mem, content_of}
use Rattle.php_memdef.specs.Copies.{Copy, copied}
use Rattle.php_memdef.specs.Places.{step_store, base_spot}
use Rattle.php_memdef.specs.Views.{content_if_found}

-- the kinds of error that reading throws

abbrev pub bad_offset : ErrorKind
bad_offset = record { 0 = 20 }

abbrev pub not_an_array : ErrorKind
not_an_array = record { 0 = 8 }

-- what was read so far, or what it throws
pub data Reading : Type 0 where
  gives : (content : Content) → Reading
  throws : (kind : ErrorKind) → Reading

-- how a place is read: quietly, as `isset`, `empty` and `??` do, or not
pub data Manner : Type 0 where
  loud : Manner
  quiet : Manner

-- what is thrown where a read isn't quiet, and null where it is
abbrev pub thrown : Manner → ErrorKind → Reading
thrown loud kind = throws kind
thrown quiet kind = gives null

abbrev pub offset_of_form : Form → Option ℤ
offset_of_form form.None = None
offset_of_form (form.Int z) = Some z
offset_of_form (form.LeadInt z) = None
offset_of_form form.Float = None
offset_of_form form.LeadFloat = None

-- the offset that a key is in a string: an int, or a text that is one as a whole
abbrev pub offset_of : Key → Option ℤ
offset_of (Int z) = Some z
offset_of (Str bytes) = offset_of_form (form_of bytes)

-- the place of an offset in so many bytes; a negative one counts from the end
abbrev pub place_of_offset : ℕ → ℤ → Option ℕ
place_of_offset n (pos k) = cond (nat_lt k n) (Some k) None
place_of_offset n (negsuc k) = cond (nat_lt k n) (Some (n - suc k)) None

-- a byte as a text; where there is none, the empty text, and null to a quiet read
abbrev pub byte_read : Manner → Option ℕ → Reading
byte_read manner (Some byte) = gives (text (byte ∷ []))
byte_read loud None = gives (text [])
byte_read quiet None = gives null

abbrev pub byte_at : List ℕ → Option ℕ → Option ℕ
byte_at bytes None = None
byte_at bytes (Some k) = slice_get bytes k

abbrev pub offset_read : Manner → List ℕ → Option ℤ → Reading
offset_read manner bytes None = thrown manner bad_offset
offset_read manner bytes (Some z) = byte_read manner (byte_at bytes (place_of_offset (length bytes) z))

abbrev pub content_if : Mem → Option ℕ → Content
content_if m None = null
content_if m (Some s) = content_of m s

-- the element of a key
abbrev pub element_read : Manner → Mem → Content → Key → Reading
element_read manner m null k = gives null
element_read manner m (truth b) k = gives null
element_read manner m (int i) k = gives null
element_read manner m (text bytes) k = offset_read manner bytes (offset_of k)
element_read manner m (array t) k = gives (content_if m (step_store t (At k)))
element_read manner m (object h) k = thrown manner not_an_array

-- an append can't be read, quietly or not
abbrev pub step_read : Manner → Mem → Reading → Step → Reading
step_read manner m (throws kind) step = throws kind
step_read manner m (gives c) Push = throws bad_offset
step_read manner m (gives c) (At k) = element_read manner m c k

abbrev pub read_along : Manner → Mem → Reading → List Step → Reading
read_along manner m r [] = r
read_along manner m r (step ∷ path) = read_along manner m (step_read manner m r step) path

abbrev pub content_or_null : Option Content → Content
content_or_null None = null
content_or_null (Some c) = c

-- the content that a read comes to, before it is copied
unfoldable pub reading : Manner → Mem → Place → Reading
reading manner m p = read_along manner m (gives (content_or_null (content_if_found m (base_spot m p.base)))) p.path

-- a value that was read, with the stores that its copy made; or what reading throws
pub data Value : Type 0 where
  read_as : (copy : Copy Content) → Value
  read_throws : (kind : ErrorKind) → Value

abbrev pub value_of_reading : Mem → Reading → Value
value_of_reading m (gives c) = read_as (copied m c)
value_of_reading m (throws kind) = read_throws kind

-- the value that reading a place gives
unfoldable pub read : Manner → Mem → Place → Value
read manner m p = value_of_reading m (reading manner m p)

abbrev pub is_set_reading : Reading → Bool
is_set_reading (gives null) = false
is_set_reading (gives (truth b)) = true
is_set_reading (gives (int i)) = true
is_set_reading (gives (text bytes)) = true
is_set_reading (gives (array t)) = true
is_set_reading (gives (object h)) = true
is_set_reading (throws kind) = false

-- a place is set where a quiet read finds it and it isn't null
abbrev pub is_set : Mem → Place → Bool
is_set m p = is_set_reading (reading quiet m p)
