-- Values of all kinds in one memory, and how each compares with each.
use Rattle.std.specs.Prelude.{◌≡◌, ℕ, ◌+◌, true, false, List, [], ◌∷◌, map, Option, Some, None, pos, negsuc, codes, Ok, Err}
use Rattle.php_value.specs.declared.error_kind.TheConstants.ErrorKind.{NESTING_TOO_DEEP, OBJECT_AGAINST_STRING}
use Rattle.php_value.specs.declared.fault.Fault.TheVariants.{FloatNeeded}
use Rattle.php_value.specs.declared.fault.Stopped.TheVariants.{Fault as Ends, Throws}
use Rattle.php_value.specs.declared.key.Key.{Key}
use Rattle.php_value.specs.declared.key.Key.TheVariants as key
use Rattle.php_value.specs.declared.ordering.Order.TheVariants.{Less, Same, More, Apart}
use Rattle.php_entries.specs.Listing.{Entry}
use Rattle.php_memdef.specs.declared.place.Seen.TheVariants.{Public}
use Rattle.php_memdef.specs.Contents.{Content, null, truth, int, text, array, object, Property, Object, Mem, content_of}
use Rattle.php_compare.specs.Outcomes.{Compared, Identified}
use Rattle.php_compare.specs.Ordering.{order_in}
use Rattle.php_compare.specs.Identity.{same_in}

abbrev pub entries_from : ℕ → List (Key × ℕ) → List (Entry ℕ)
entries_from serial [] = []
entries_from serial ((k, s) ∷ ks) = record { serial = serial; key = k; value = s } ∷ entries_from (serial + 1) ks

-- the array with these keys, each with the number of its element's store
abbrev pub array_of : List (Key × ℕ) → Content
array_of ks = array (record { entries = entries_from 1 ks; next_key = 9; next_serial = 9 })

abbrev pub properties_of : List (List ℕ × ℕ) → List Property
properties_of [] = []
properties_of ((name, s) ∷ ps) = record { name = record { name = name; seen = Public }; store = s } ∷ properties_of ps

-- an object of a class with these public properties
abbrev pub object_with : ℕ → List (List ℕ × ℕ) → Option Object
object_with class ps = Some (record { class = class; properties = properties_of ps; finishing = false; spent = false; frame = None })

abbrev pub holding : List Content → List (Option Object) → Mem
holding cs os = record { stores = map Some cs; objects = os; blocks = []; statics = []; next_object = 9 }

-- the values, each under its number

abbrev pub values : List Content
values =
    null ∷
    truth false ∷
    truth true ∷
    int (pos 0) ∷
    int (negsuc 0) ∷
    int (pos 12) ∷
    text [] ∷
    text (codes "0") ∷
    text (codes "abc") ∷
    text (codes "12") ∷
    text (codes " 12") ∷
    text (codes "1e1") ∷
    text (codes "12x") ∷
    array_of ([]) ∷
    array_of ((key.Int (pos 0), 5) ∷ []) ∷
    array_of ((key.Str (codes "a"), 5) ∷ []) ∷
    array_of ((key.Int (pos 0), 5) ∷ (key.Int (pos 1), 8) ∷ []) ∷
    array_of ((key.Str (codes "x"), 5) ∷ (key.Str (codes "y"), 3) ∷ []) ∷
    array_of ((key.Str (codes "y"), 5) ∷ (key.Str (codes "x"), 3) ∷ []) ∷
    array_of ((key.Str (codes "y"), 3) ∷ (key.Str (codes "x"), 5) ∷ []) ∷
    array_of ((key.Int (pos 0), 20) ∷ []) ∷
    object 1 ∷
    object 2 ∷
    object 3 ∷
    object 4 ∷
    object 5 ∷
    object 6 ∷
    object 7 ∷
    object 8 ∷ []

abbrev pub objects_there : List (Option Object)
objects_there =
    None ∷
    object_with 7 ((codes "p", 5) ∷ []) ∷
    object_with 7 ((codes "p", 5) ∷ []) ∷
    object_with 8 ((codes "p", 5) ∷ []) ∷
    object_with 7 ((codes "p", 3) ∷ []) ∷
    object_with 7 ((codes "p", 5) ∷ (codes "q", 3) ∷ []) ∷
    object_with 7 ((codes "q", 5) ∷ []) ∷
    object_with 7 ((codes "p", 27) ∷ []) ∷
    object_with 7 ((codes "p", 28) ∷ []) ∷ []

abbrev pub samples : Mem
samples = holding values objects_there

abbrev pub orders_with : ℕ → List Compared
orders_with n = map (λ d. order_in samples (content_of samples n) d) values

abbrev pub identities_with : ℕ → List Identified
identities_with n = map (λ d. same_in samples (content_of samples n) d) values

-- the outcomes in short: less, same, more, apart; a float would be needed; an object with a string; nesting
abbrev pub lt : Compared
lt = Ok Less

abbrev pub eq : Compared
eq = Ok Same

abbrev pub gt : Compared
gt = Ok More

abbrev pub ap : Compared
ap = Ok Apart

abbrev pub fl : Compared
fl = Err (Ends FloatNeeded)

abbrev pub ob : Compared
ob = Err (Throws OBJECT_AGAINST_STRING)

abbrev pub ne : Compared
ne = Err (Throws NESTING_TOO_DEEP)

-- identical, not identical, nesting
abbrev pub yes : Identified
yes = Ok true

abbrev pub no : Identified
no = Ok false

abbrev pub deep : Identified
deep = Err (Throws NESTING_TOO_DEEP)

-- each value, on the left, with all of them in their order
pub record OrderTable : Type 0 where
  pub nothing : orders_with 0 ≡ eq ∷ eq ∷ lt ∷ eq ∷ lt ∷ lt ∷ eq ∷ lt ∷ lt ∷ lt ∷ lt ∷ lt ∷ lt ∷ eq ∷ lt ∷ lt ∷ lt ∷ lt ∷ lt ∷ lt ∷ lt ∷ lt ∷ lt ∷ lt ∷ lt ∷ lt ∷ lt ∷ lt ∷ lt ∷ []
  pub false_value : orders_with 1 ≡ eq ∷ eq ∷ lt ∷ eq ∷ lt ∷ lt ∷ eq ∷ eq ∷ lt ∷ lt ∷ lt ∷ lt ∷ lt ∷ eq ∷ lt ∷ lt ∷ lt ∷ lt ∷ lt ∷ lt ∷ lt ∷ lt ∷ lt ∷ lt ∷ lt ∷ lt ∷ lt ∷ lt ∷ lt ∷ []
  pub true_value : orders_with 2 ≡ gt ∷ gt ∷ eq ∷ gt ∷ eq ∷ eq ∷ gt ∷ gt ∷ eq ∷ eq ∷ eq ∷ eq ∷ eq ∷ gt ∷ eq ∷ eq ∷ eq ∷ eq ∷ eq ∷ eq ∷ eq ∷ eq ∷ eq ∷ eq ∷ eq ∷ eq ∷ eq ∷ eq ∷ eq ∷ []
  pub zero : orders_with 3 ≡ eq ∷ eq ∷ lt ∷ eq ∷ gt ∷ lt ∷ eq ∷ eq ∷ eq ∷ lt ∷ lt ∷ fl ∷ lt ∷ lt ∷ lt ∷ lt ∷ lt ∷ lt ∷ lt ∷ lt ∷ lt ∷ lt ∷ lt ∷ lt ∷ lt ∷ lt ∷ lt ∷ lt ∷ lt ∷ []
  pub minus_one : orders_with 4 ≡ gt ∷ gt ∷ eq ∷ lt ∷ eq ∷ lt ∷ lt ∷ lt ∷ lt ∷ lt ∷ lt ∷ fl ∷ lt ∷ lt ∷ lt ∷ lt ∷ lt ∷ lt ∷ lt ∷ lt ∷ lt ∷ lt ∷ lt ∷ lt ∷ lt ∷ lt ∷ lt ∷ lt ∷ lt ∷ []
  pub twelve : orders_with 5 ≡ gt ∷ gt ∷ eq ∷ gt ∷ gt ∷ eq ∷ gt ∷ gt ∷ gt ∷ eq ∷ eq ∷ fl ∷ eq ∷ lt ∷ lt ∷ lt ∷ lt ∷ lt ∷ lt ∷ lt ∷ lt ∷ lt ∷ lt ∷ lt ∷ lt ∷ lt ∷ lt ∷ lt ∷ lt ∷ []
  pub empty_text : orders_with 6 ≡ eq ∷ eq ∷ lt ∷ eq ∷ gt ∷ lt ∷ eq ∷ lt ∷ lt ∷ lt ∷ lt ∷ lt ∷ lt ∷ lt ∷ lt ∷ lt ∷ lt ∷ lt ∷ lt ∷ lt ∷ lt ∷ ob ∷ ob ∷ ob ∷ ob ∷ ob ∷ ob ∷ ob ∷ ob ∷ []
  pub zero_text : orders_with 7 ≡ gt ∷ eq ∷ lt ∷ eq ∷ gt ∷ lt ∷ gt ∷ eq ∷ lt ∷ lt ∷ lt ∷ fl ∷ lt ∷ lt ∷ lt ∷ lt ∷ lt ∷ lt ∷ lt ∷ lt ∷ lt ∷ ob ∷ ob ∷ ob ∷ ob ∷ ob ∷ ob ∷ ob ∷ ob ∷ []
  pub letters : orders_with 8 ≡ gt ∷ gt ∷ eq ∷ eq ∷ gt ∷ lt ∷ gt ∷ gt ∷ eq ∷ gt ∷ gt ∷ gt ∷ gt ∷ lt ∷ lt ∷ lt ∷ lt ∷ lt ∷ lt ∷ lt ∷ lt ∷ ob ∷ ob ∷ ob ∷ ob ∷ ob ∷ ob ∷ ob ∷ ob ∷ []
  pub twelve_text : orders_with 9 ≡ gt ∷ gt ∷ eq ∷ gt ∷ gt ∷ eq ∷ gt ∷ gt ∷ lt ∷ eq ∷ eq ∷ fl ∷ lt ∷ lt ∷ lt ∷ lt ∷ lt ∷ lt ∷ lt ∷ lt ∷ lt ∷ ob ∷ ob ∷ ob ∷ ob ∷ ob ∷ ob ∷ ob ∷ ob ∷ []
  pub blank_twelve : orders_with 10 ≡ gt ∷ gt ∷ eq ∷ gt ∷ gt ∷ eq ∷ gt ∷ gt ∷ lt ∷ eq ∷ eq ∷ fl ∷ lt ∷ lt ∷ lt ∷ lt ∷ lt ∷ lt ∷ lt ∷ lt ∷ lt ∷ ob ∷ ob ∷ ob ∷ ob ∷ ob ∷ ob ∷ ob ∷ ob ∷ []
  pub float_text : orders_with 11 ≡ gt ∷ gt ∷ eq ∷ fl ∷ fl ∷ fl ∷ gt ∷ fl ∷ lt ∷ fl ∷ fl ∷ eq ∷ gt ∷ lt ∷ lt ∷ lt ∷ lt ∷ lt ∷ lt ∷ lt ∷ lt ∷ ob ∷ ob ∷ ob ∷ ob ∷ ob ∷ ob ∷ ob ∷ ob ∷ []
  pub twelve_and_more : orders_with 12 ≡ gt ∷ gt ∷ eq ∷ gt ∷ gt ∷ eq ∷ gt ∷ gt ∷ lt ∷ gt ∷ gt ∷ lt ∷ eq ∷ lt ∷ lt ∷ lt ∷ lt ∷ lt ∷ lt ∷ lt ∷ lt ∷ ob ∷ ob ∷ ob ∷ ob ∷ ob ∷ ob ∷ ob ∷ ob ∷ []
  pub empty : orders_with 13 ≡ eq ∷ eq ∷ lt ∷ gt ∷ gt ∷ gt ∷ gt ∷ gt ∷ gt ∷ gt ∷ gt ∷ gt ∷ gt ∷ eq ∷ lt ∷ lt ∷ lt ∷ lt ∷ lt ∷ lt ∷ lt ∷ lt ∷ lt ∷ lt ∷ lt ∷ lt ∷ lt ∷ lt ∷ lt ∷ []
  pub list_of_one : orders_with 14 ≡ gt ∷ gt ∷ eq ∷ gt ∷ gt ∷ gt ∷ gt ∷ gt ∷ gt ∷ gt ∷ gt ∷ gt ∷ gt ∷ gt ∷ eq ∷ ap ∷ lt ∷ lt ∷ lt ∷ lt ∷ lt ∷ lt ∷ lt ∷ lt ∷ lt ∷ lt ∷ lt ∷ lt ∷ lt ∷ []
  pub keyed : orders_with 15 ≡ gt ∷ gt ∷ eq ∷ gt ∷ gt ∷ gt ∷ gt ∷ gt ∷ gt ∷ gt ∷ gt ∷ gt ∷ gt ∷ gt ∷ ap ∷ eq ∷ lt ∷ lt ∷ lt ∷ lt ∷ ap ∷ lt ∷ lt ∷ lt ∷ lt ∷ lt ∷ lt ∷ lt ∷ lt ∷ []
  pub list_of_two : orders_with 16 ≡ gt ∷ gt ∷ eq ∷ gt ∷ gt ∷ gt ∷ gt ∷ gt ∷ gt ∷ gt ∷ gt ∷ gt ∷ gt ∷ gt ∷ gt ∷ gt ∷ eq ∷ ap ∷ ap ∷ ap ∷ gt ∷ lt ∷ lt ∷ lt ∷ lt ∷ lt ∷ lt ∷ lt ∷ lt ∷ []
  pub x_first : orders_with 17 ≡ gt ∷ gt ∷ eq ∷ gt ∷ gt ∷ gt ∷ gt ∷ gt ∷ gt ∷ gt ∷ gt ∷ gt ∷ gt ∷ gt ∷ gt ∷ gt ∷ ap ∷ eq ∷ gt ∷ eq ∷ gt ∷ lt ∷ lt ∷ lt ∷ lt ∷ lt ∷ lt ∷ lt ∷ lt ∷ []
  pub y_first : orders_with 18 ≡ gt ∷ gt ∷ eq ∷ gt ∷ gt ∷ gt ∷ gt ∷ gt ∷ gt ∷ gt ∷ gt ∷ gt ∷ gt ∷ gt ∷ gt ∷ gt ∷ ap ∷ gt ∷ eq ∷ gt ∷ gt ∷ lt ∷ lt ∷ lt ∷ lt ∷ lt ∷ lt ∷ lt ∷ lt ∷ []
  pub y_first_again : orders_with 19 ≡ gt ∷ gt ∷ eq ∷ gt ∷ gt ∷ gt ∷ gt ∷ gt ∷ gt ∷ gt ∷ gt ∷ gt ∷ gt ∷ gt ∷ gt ∷ gt ∷ ap ∷ eq ∷ lt ∷ eq ∷ gt ∷ lt ∷ lt ∷ lt ∷ lt ∷ lt ∷ lt ∷ lt ∷ lt ∷ []
  pub endless : orders_with 20 ≡ gt ∷ gt ∷ eq ∷ gt ∷ gt ∷ gt ∷ gt ∷ gt ∷ gt ∷ gt ∷ gt ∷ gt ∷ gt ∷ gt ∷ gt ∷ ap ∷ lt ∷ lt ∷ lt ∷ lt ∷ ne ∷ lt ∷ lt ∷ lt ∷ lt ∷ lt ∷ lt ∷ lt ∷ lt ∷ []
  pub first : orders_with 21 ≡ gt ∷ gt ∷ eq ∷ gt ∷ gt ∷ gt ∷ ob ∷ ob ∷ ob ∷ ob ∷ ob ∷ ob ∷ ob ∷ gt ∷ gt ∷ gt ∷ gt ∷ gt ∷ gt ∷ gt ∷ gt ∷ eq ∷ eq ∷ ap ∷ gt ∷ lt ∷ ap ∷ lt ∷ lt ∷ []
  pub equal : orders_with 22 ≡ gt ∷ gt ∷ eq ∷ gt ∷ gt ∷ gt ∷ ob ∷ ob ∷ ob ∷ ob ∷ ob ∷ ob ∷ ob ∷ gt ∷ gt ∷ gt ∷ gt ∷ gt ∷ gt ∷ gt ∷ gt ∷ eq ∷ eq ∷ ap ∷ gt ∷ lt ∷ ap ∷ lt ∷ lt ∷ []
  pub of_another_class : orders_with 23 ≡ gt ∷ gt ∷ eq ∷ gt ∷ gt ∷ gt ∷ ob ∷ ob ∷ ob ∷ ob ∷ ob ∷ ob ∷ ob ∷ gt ∷ gt ∷ gt ∷ gt ∷ gt ∷ gt ∷ gt ∷ gt ∷ ap ∷ ap ∷ eq ∷ ap ∷ ap ∷ ap ∷ ap ∷ ap ∷ []
  pub smaller : orders_with 24 ≡ gt ∷ gt ∷ eq ∷ gt ∷ gt ∷ gt ∷ ob ∷ ob ∷ ob ∷ ob ∷ ob ∷ ob ∷ ob ∷ gt ∷ gt ∷ gt ∷ gt ∷ gt ∷ gt ∷ gt ∷ gt ∷ lt ∷ lt ∷ ap ∷ eq ∷ lt ∷ ap ∷ lt ∷ lt ∷ []
  pub larger : orders_with 25 ≡ gt ∷ gt ∷ eq ∷ gt ∷ gt ∷ gt ∷ ob ∷ ob ∷ ob ∷ ob ∷ ob ∷ ob ∷ ob ∷ gt ∷ gt ∷ gt ∷ gt ∷ gt ∷ gt ∷ gt ∷ gt ∷ gt ∷ gt ∷ ap ∷ gt ∷ eq ∷ gt ∷ gt ∷ gt ∷ []
  pub otherwise_named : orders_with 26 ≡ gt ∷ gt ∷ eq ∷ gt ∷ gt ∷ gt ∷ ob ∷ ob ∷ ob ∷ ob ∷ ob ∷ ob ∷ ob ∷ gt ∷ gt ∷ gt ∷ gt ∷ gt ∷ gt ∷ gt ∷ gt ∷ ap ∷ ap ∷ ap ∷ ap ∷ lt ∷ eq ∷ ap ∷ ap ∷ []
  pub looped : orders_with 27 ≡ gt ∷ gt ∷ eq ∷ gt ∷ gt ∷ gt ∷ ob ∷ ob ∷ ob ∷ ob ∷ ob ∷ ob ∷ ob ∷ gt ∷ gt ∷ gt ∷ gt ∷ gt ∷ gt ∷ gt ∷ gt ∷ gt ∷ gt ∷ ap ∷ gt ∷ lt ∷ ap ∷ eq ∷ ne ∷ []
  pub looped_too : orders_with 28 ≡ gt ∷ gt ∷ eq ∷ gt ∷ gt ∷ gt ∷ ob ∷ ob ∷ ob ∷ ob ∷ ob ∷ ob ∷ ob ∷ gt ∷ gt ∷ gt ∷ gt ∷ gt ∷ gt ∷ gt ∷ gt ∷ gt ∷ gt ∷ ap ∷ gt ∷ lt ∷ ap ∷ ne ∷ eq ∷ []

pub record IdentityTable : Type 0 where
  pub nothing : identities_with 0 ≡ yes ∷ no ∷ no ∷ no ∷ no ∷ no ∷ no ∷ no ∷ no ∷ no ∷ no ∷ no ∷ no ∷ no ∷ no ∷ no ∷ no ∷ no ∷ no ∷ no ∷ no ∷ no ∷ no ∷ no ∷ no ∷ no ∷ no ∷ no ∷ no ∷ []
  pub false_value : identities_with 1 ≡ no ∷ yes ∷ no ∷ no ∷ no ∷ no ∷ no ∷ no ∷ no ∷ no ∷ no ∷ no ∷ no ∷ no ∷ no ∷ no ∷ no ∷ no ∷ no ∷ no ∷ no ∷ no ∷ no ∷ no ∷ no ∷ no ∷ no ∷ no ∷ no ∷ []
  pub true_value : identities_with 2 ≡ no ∷ no ∷ yes ∷ no ∷ no ∷ no ∷ no ∷ no ∷ no ∷ no ∷ no ∷ no ∷ no ∷ no ∷ no ∷ no ∷ no ∷ no ∷ no ∷ no ∷ no ∷ no ∷ no ∷ no ∷ no ∷ no ∷ no ∷ no ∷ no ∷ []
  pub zero : identities_with 3 ≡ no ∷ no ∷ no ∷ yes ∷ no ∷ no ∷ no ∷ no ∷ no ∷ no ∷ no ∷ no ∷ no ∷ no ∷ no ∷ no ∷ no ∷ no ∷ no ∷ no ∷ no ∷ no ∷ no ∷ no ∷ no ∷ no ∷ no ∷ no ∷ no ∷ []
  pub minus_one : identities_with 4 ≡ no ∷ no ∷ no ∷ no ∷ yes ∷ no ∷ no ∷ no ∷ no ∷ no ∷ no ∷ no ∷ no ∷ no ∷ no ∷ no ∷ no ∷ no ∷ no ∷ no ∷ no ∷ no ∷ no ∷ no ∷ no ∷ no ∷ no ∷ no ∷ no ∷ []
  pub twelve : identities_with 5 ≡ no ∷ no ∷ no ∷ no ∷ no ∷ yes ∷ no ∷ no ∷ no ∷ no ∷ no ∷ no ∷ no ∷ no ∷ no ∷ no ∷ no ∷ no ∷ no ∷ no ∷ no ∷ no ∷ no ∷ no ∷ no ∷ no ∷ no ∷ no ∷ no ∷ []
  pub empty_text : identities_with 6 ≡ no ∷ no ∷ no ∷ no ∷ no ∷ no ∷ yes ∷ no ∷ no ∷ no ∷ no ∷ no ∷ no ∷ no ∷ no ∷ no ∷ no ∷ no ∷ no ∷ no ∷ no ∷ no ∷ no ∷ no ∷ no ∷ no ∷ no ∷ no ∷ no ∷ []
  pub zero_text : identities_with 7 ≡ no ∷ no ∷ no ∷ no ∷ no ∷ no ∷ no ∷ yes ∷ no ∷ no ∷ no ∷ no ∷ no ∷ no ∷ no ∷ no ∷ no ∷ no ∷ no ∷ no ∷ no ∷ no ∷ no ∷ no ∷ no ∷ no ∷ no ∷ no ∷ no ∷ []
  pub letters : identities_with 8 ≡ no ∷ no ∷ no ∷ no ∷ no ∷ no ∷ no ∷ no ∷ yes ∷ no ∷ no ∷ no ∷ no ∷ no ∷ no ∷ no ∷ no ∷ no ∷ no ∷ no ∷ no ∷ no ∷ no ∷ no ∷ no ∷ no ∷ no ∷ no ∷ no ∷ []
  pub twelve_text : identities_with 9 ≡ no ∷ no ∷ no ∷ no ∷ no ∷ no ∷ no ∷ no ∷ no ∷ yes ∷ no ∷ no ∷ no ∷ no ∷ no ∷ no ∷ no ∷ no ∷ no ∷ no ∷ no ∷ no ∷ no ∷ no ∷ no ∷ no ∷ no ∷ no ∷ no ∷ []
  pub blank_twelve : identities_with 10 ≡ no ∷ no ∷ no ∷ no ∷ no ∷ no ∷ no ∷ no ∷ no ∷ no ∷ yes ∷ no ∷ no ∷ no ∷ no ∷ no ∷ no ∷ no ∷ no ∷ no ∷ no ∷ no ∷ no ∷ no ∷ no ∷ no ∷ no ∷ no ∷ no ∷ []
  pub float_text : identities_with 11 ≡ no ∷ no ∷ no ∷ no ∷ no ∷ no ∷ no ∷ no ∷ no ∷ no ∷ no ∷ yes ∷ no ∷ no ∷ no ∷ no ∷ no ∷ no ∷ no ∷ no ∷ no ∷ no ∷ no ∷ no ∷ no ∷ no ∷ no ∷ no ∷ no ∷ []
  pub twelve_and_more : identities_with 12 ≡ no ∷ no ∷ no ∷ no ∷ no ∷ no ∷ no ∷ no ∷ no ∷ no ∷ no ∷ no ∷ yes ∷ no ∷ no ∷ no ∷ no ∷ no ∷ no ∷ no ∷ no ∷ no ∷ no ∷ no ∷ no ∷ no ∷ no ∷ no ∷ no ∷ []
  pub empty : identities_with 13 ≡ no ∷ no ∷ no ∷ no ∷ no ∷ no ∷ no ∷ no ∷ no ∷ no ∷ no ∷ no ∷ no ∷ yes ∷ no ∷ no ∷ no ∷ no ∷ no ∷ no ∷ no ∷ no ∷ no ∷ no ∷ no ∷ no ∷ no ∷ no ∷ no ∷ []
  pub list_of_one : identities_with 14 ≡ no ∷ no ∷ no ∷ no ∷ no ∷ no ∷ no ∷ no ∷ no ∷ no ∷ no ∷ no ∷ no ∷ no ∷ yes ∷ no ∷ no ∷ no ∷ no ∷ no ∷ no ∷ no ∷ no ∷ no ∷ no ∷ no ∷ no ∷ no ∷ no ∷ []
  pub keyed : identities_with 15 ≡ no ∷ no ∷ no ∷ no ∷ no ∷ no ∷ no ∷ no ∷ no ∷ no ∷ no ∷ no ∷ no ∷ no ∷ no ∷ yes ∷ no ∷ no ∷ no ∷ no ∷ no ∷ no ∷ no ∷ no ∷ no ∷ no ∷ no ∷ no ∷ no ∷ []
  pub list_of_two : identities_with 16 ≡ no ∷ no ∷ no ∷ no ∷ no ∷ no ∷ no ∷ no ∷ no ∷ no ∷ no ∷ no ∷ no ∷ no ∷ no ∷ no ∷ yes ∷ no ∷ no ∷ no ∷ no ∷ no ∷ no ∷ no ∷ no ∷ no ∷ no ∷ no ∷ no ∷ []
  pub x_first : identities_with 17 ≡ no ∷ no ∷ no ∷ no ∷ no ∷ no ∷ no ∷ no ∷ no ∷ no ∷ no ∷ no ∷ no ∷ no ∷ no ∷ no ∷ no ∷ yes ∷ no ∷ no ∷ no ∷ no ∷ no ∷ no ∷ no ∷ no ∷ no ∷ no ∷ no ∷ []
  pub y_first : identities_with 18 ≡ no ∷ no ∷ no ∷ no ∷ no ∷ no ∷ no ∷ no ∷ no ∷ no ∷ no ∷ no ∷ no ∷ no ∷ no ∷ no ∷ no ∷ no ∷ yes ∷ no ∷ no ∷ no ∷ no ∷ no ∷ no ∷ no ∷ no ∷ no ∷ no ∷ []
  pub y_first_again : identities_with 19 ≡ no ∷ no ∷ no ∷ no ∷ no ∷ no ∷ no ∷ no ∷ no ∷ no ∷ no ∷ no ∷ no ∷ no ∷ no ∷ no ∷ no ∷ no ∷ no ∷ yes ∷ no ∷ no ∷ no ∷ no ∷ no ∷ no ∷ no ∷ no ∷ no ∷ []
  pub endless : identities_with 20 ≡ no ∷ no ∷ no ∷ no ∷ no ∷ no ∷ no ∷ no ∷ no ∷ no ∷ no ∷ no ∷ no ∷ no ∷ no ∷ no ∷ no ∷ no ∷ no ∷ no ∷ deep ∷ no ∷ no ∷ no ∷ no ∷ no ∷ no ∷ no ∷ no ∷ []
  pub first : identities_with 21 ≡ no ∷ no ∷ no ∷ no ∷ no ∷ no ∷ no ∷ no ∷ no ∷ no ∷ no ∷ no ∷ no ∷ no ∷ no ∷ no ∷ no ∷ no ∷ no ∷ no ∷ no ∷ yes ∷ no ∷ no ∷ no ∷ no ∷ no ∷ no ∷ no ∷ []
  pub equal : identities_with 22 ≡ no ∷ no ∷ no ∷ no ∷ no ∷ no ∷ no ∷ no ∷ no ∷ no ∷ no ∷ no ∷ no ∷ no ∷ no ∷ no ∷ no ∷ no ∷ no ∷ no ∷ no ∷ no ∷ yes ∷ no ∷ no ∷ no ∷ no ∷ no ∷ no ∷ []
  pub of_another_class : identities_with 23 ≡ no ∷ no ∷ no ∷ no ∷ no ∷ no ∷ no ∷ no ∷ no ∷ no ∷ no ∷ no ∷ no ∷ no ∷ no ∷ no ∷ no ∷ no ∷ no ∷ no ∷ no ∷ no ∷ no ∷ yes ∷ no ∷ no ∷ no ∷ no ∷ no ∷ []
  pub smaller : identities_with 24 ≡ no ∷ no ∷ no ∷ no ∷ no ∷ no ∷ no ∷ no ∷ no ∷ no ∷ no ∷ no ∷ no ∷ no ∷ no ∷ no ∷ no ∷ no ∷ no ∷ no ∷ no ∷ no ∷ no ∷ no ∷ yes ∷ no ∷ no ∷ no ∷ no ∷ []
  pub larger : identities_with 25 ≡ no ∷ no ∷ no ∷ no ∷ no ∷ no ∷ no ∷ no ∷ no ∷ no ∷ no ∷ no ∷ no ∷ no ∷ no ∷ no ∷ no ∷ no ∷ no ∷ no ∷ no ∷ no ∷ no ∷ no ∷ no ∷ yes ∷ no ∷ no ∷ no ∷ []
  pub otherwise_named : identities_with 26 ≡ no ∷ no ∷ no ∷ no ∷ no ∷ no ∷ no ∷ no ∷ no ∷ no ∷ no ∷ no ∷ no ∷ no ∷ no ∷ no ∷ no ∷ no ∷ no ∷ no ∷ no ∷ no ∷ no ∷ no ∷ no ∷ no ∷ yes ∷ no ∷ no ∷ []
  pub looped : identities_with 27 ≡ no ∷ no ∷ no ∷ no ∷ no ∷ no ∷ no ∷ no ∷ no ∷ no ∷ no ∷ no ∷ no ∷ no ∷ no ∷ no ∷ no ∷ no ∷ no ∷ no ∷ no ∷ no ∷ no ∷ no ∷ no ∷ no ∷ no ∷ yes ∷ no ∷ []
  pub looped_too : identities_with 28 ≡ no ∷ no ∷ no ∷ no ∷ no ∷ no ∷ no ∷ no ∷ no ∷ no ∷ no ∷ no ∷ no ∷ no ∷ no ∷ no ∷ no ∷ no ∷ no ∷ no ∷ no ∷ no ∷ no ∷ no ∷ no ∷ no ∷ no ∷ no ∷ yes ∷ []
