-- Places in arrays and unions of arrays as actions, on small data. What they come to is proved by computing.
use Rattle.std.specs.Prelude.{◌≡◌, ◌+◌, ℕ, nat_lt, true, List, [], ◌∷◌, length, map, Option, Some, None, pos, codes}
use Rattle.php_value.specs.declared.fault.Fault.TheVariants as fault
use Rattle.php_value.specs.declared.key.Key.{Key}
use Rattle.php_value.specs.declared.key.Key.TheVariants as key
use Rattle.php_value.specs.declared.op.Op.TheVariants as op
use Rattle.php_value.specs.declared.scalar.Scalar.TheVariants as scalar
use Rattle.php_entries.specs.Listing.{Entry, Listing, ENTRY_LIMIT, SERIAL_LIMIT, KEY_LIMIT, no_entries}
use Rattle.php_memdef.specs.Contents.{Content, int, array, Item, value, content_of}
use Rattle.php_memdef.specs.Temporaries.{with_temps}
use Rattle.php_memdef.specs.Writes.{assign}
use Rattle.php_actions.specs.declared.action.Action.TheVariants as action
use Rattle.php_actions.specs.declared.places.PlaceAction.TheVariants as places
use Rattle.php_actions.specs.declared.place_form.BaseForm.TheVariants as base
use Rattle.php_actions.specs.declared.place_form.StepForm.{StepForm}
use Rattle.php_actions.specs.declared.place_form.StepForm.TheVariants as steps
use Rattle.php_actions.specs.declared.place_form.PlaceForm.{PlaceForm}
use Rattle.php_actions.specs.declared.operators.OperatorAction.TheVariants as operators
use Rattle.php_actions.specs.declared.ending.Ending.TheVariants as ending
use Rattle.php_actions.specs.Data.{Frame, Data, with_mem}
use Rattle.php_actions.specs.Effect.{effect}
use Rattle.php_actions.specs.Start.{variable_place}
use Rattle.php_actions.specs.Steps as step
use Rattle.php_actions.specs.Operators.{keys_of, keys_lacking, united}
use Rattle.php_actions.specs.Examples.{facts, standing, data_of, ending_of, temps_if, falling_if, throws_error, number, no_value, empty_array, int_scalar, $x, $x_at, reads_as, assigned_to}

-- ---- places

abbrev pub fixed : ℕ → StepForm
fixed n = steps.Fixed (int_scalar n)

abbrev pub named : List ℕ → StepForm
named name = steps.Fixed (scalar.Str name)

-- how a place is read behind an action
abbrev pub read_if : PlaceForm → Option Data → Option (List Item)
read_if form None = None
read_if form (Some d) = reads_as form d

-- `$x[key][key] = value`, where the value stands on top of the keys
abbrev pub assigned_under_two : List Item → Option Data
assigned_under_two ts = data_of (assigned_to ($x_at (steps.Evaluated ∷ steps.Evaluated ∷ [])) (standing ts))

-- `$x[key]["a"] = value`
abbrev pub assigned_under_one : List Item → Option Data
assigned_under_one ts = data_of (assigned_to ($x_at (steps.Evaluated ∷ named (codes "a") ∷ [])) (standing ts))

-- an element of a temporary
abbrev pub element_of_standing : PlaceForm
element_of_standing = record { base = base.Standing; steps = steps.Evaluated ∷ [] }

-- data in which $x holds an array
abbrev pub holding : Listing ℕ → List Item → Data
holding t ts =
    let d = with_mem (standing []) (assign (with_temps (standing []).mem 0 (value (array t) ∷ [])) 0 (variable_place 0 2 [])).0 in
    with_mem d (with_temps d.mem 0 ts)

-- ---- arrays

abbrev pub zero_key : Key
zero_key = key.Int (pos 0)

-- of two keys, and the stores of their elements
abbrev pub two_under : Key → ℕ → Key → ℕ → Listing ℕ
two_under k s l t = record { entries = record { serial = 1; key = k; value = s } ∷ record { serial = 2; key = l; value = t } ∷ []; next_key = 1; next_serial = 3 }

-- a run with the stores of `[0 => 5, "a" => 6]` and of `[0 => 7, "b" => 8]`
abbrev pub stored : List Item → Data
stored ts = with_mem (standing ts) (record (standing ts).mem { stores = Some (int (pos 5)) ∷ Some (int (pos 6)) ∷ Some (int (pos 7)) ∷ Some (int (pos 8)) ∷ [] })

abbrev pub left : Item
left = value (array (two_under zero_key 0 (key.Str (codes "a")) 1))

abbrev pub right : Item
right = value (array (two_under zero_key 2 (key.Str (codes "b")) 3))

abbrev pub union : Option Data
union = data_of (effect facts (action.Operator (operators.Operate op.Add)) (stored (right ∷ left ∷ [])))

-- its elements are in three new stores
abbrev pub both : Item
both =
    value
    (array (record {
      entries = record { serial = 1; key = zero_key; value = 4 } ∷ record { serial = 2; key = key.Str (codes "a"); value = 5 } ∷ record { serial = 3; key = key.Str (codes "b"); value = 6 } ∷ [];
      next_key = 1;
      next_serial = 4;
    }))

abbrev pub contents_if : List ℕ → Option Data → Option (List Content)
contents_if ns None = None
contents_if ns (Some d) = Some (map (λ n. content_of d.mem n) ns)

pub record ArrayExamples : Type 0 where
  -- of two keys the lower one comes first
  pub lower_key_is_first : read_if ($x_at (fixed 0 ∷ fixed 1 ∷ [])) (assigned_under_two (number 6 ∷ number 1 ∷ number 0 ∷ [])) ≡ Some (number 6 ∷ number 6 ∷ [])
  pub upper_key_is_second : read_if ($x_at (fixed 1 ∷ fixed 0 ∷ [])) (assigned_under_two (number 6 ∷ number 1 ∷ number 0 ∷ [])) ≡ Some (no_value ∷ number 6 ∷ [])
  pub keys_go : temps_if (assigned_under_two (number 6 ∷ number 1 ∷ number 0 ∷ number 9 ∷ [])) ≡ Some (number 6 ∷ number 9 ∷ [])
  pub fixed_key_takes_nothing : temps_if (assigned_under_one (number 6 ∷ number 1 ∷ number 9 ∷ [])) ≡ Some (number 6 ∷ number 9 ∷ [])
  pub fixed_key_is_second : read_if ($x_at (fixed 1 ∷ named (codes "a") ∷ [])) (assigned_under_one (number 6 ∷ number 1 ∷ [])) ≡ Some (number 6 ∷ number 6 ∷ [])
  pub text_in_the_form_of_an_int : read_if ($x_at (named (codes "1") ∷ named (codes "a") ∷ [])) (assigned_under_one (number 6 ∷ number 1 ∷ [])) ≡ Some (number 6 ∷ number 6 ∷ [])
  pub element_of_a_temporary : reads_as element_of_standing (stored (number 0 ∷ right ∷ number 9 ∷ [])) ≡ Some (number 7 ∷ number 9 ∷ [])
  pub its_base_falls : falling_if (data_of (effect facts (action.Place (places.Read element_of_standing)) (stored (number 0 ∷ right ∷ [])))) ≡ Some (right ∷ [])
  pub element_without_its_base : reads_as element_of_standing (stored (number 0 ∷ [])) ≡ None
  pub replaced_array_falls : falling_if (data_of (assigned_to $x (holding no_entries (number 6 ∷ [])))) ≡ Some (empty_array ∷ [])
  pub nothing_is_replaced : falling_if (data_of (assigned_to ($x_at (fixed 0 ∷ [])) (holding no_entries (number 6 ∷ [])))) ≡ Some []
  pub no_key_is_left : ending_of (assigned_to ($x_at (steps.Append ∷ [])) (holding (record no_entries { next_key = KEY_LIMIT }) (number 6 ∷ []))) ≡ throws_error (codes "Error") (codes "Cannot append: no key is left")
  pub no_serial_is_left : ending_of (assigned_to ($x_at (fixed 0 ∷ [])) (holding (record no_entries { next_serial = SERIAL_LIMIT }) (number 6 ∷ []))) ≡ Some (ending.Fatal fault.ArrayLimit 1)
  pub union_keeps_the_left_elements : temps_if union ≡ Some (both ∷ [])
  pub elements_are_copied : contents_if (4 ∷ 5 ∷ 6 ∷ []) union ≡ Some (int (pos 5) ∷ int (pos 6) ∷ int (pos 8) ∷ [])
  pub left_array_falls_first : falling_if union ≡ Some (left ∷ right ∷ [])

-- a union of more entries than an array may have
abbrev pub UnionIsTooLarge : Type 0
UnionIsTooLarge =
    (x y : Listing ℕ) (f : Frame) (d : Data) → nat_lt ENTRY_LIMIT (length (keys_of x.entries) + length (keys_lacking x y.entries)) ≡ true → united x y f d ≡ step.fault fault.ArrayLimit f d
