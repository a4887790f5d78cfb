-- What hangs up a store where a base is missing.
use Rattle.std.specs.Prelude.{ℕ, [], ◌∷◌, ◌++◌, Some, unwrap_or}
use Rattle.php_memdef.specs.declared.place.PropName.{PropName}
use Rattle.php_memdef.specs.Numbered.{Numbered, numbered, with_numbered}
use Rattle.php_memdef.specs.Contents.{Scope, Object, Mem, no_object}

abbrev pub variable_added : ℕ → ℕ → Scope → Scope
variable_added n s f = record f { variables = f.variables ++ record { name = n; store = s } ∷ [] }

abbrev pub property_added : PropName → ℕ → Object → Object
property_added p s o = record o { properties = o.properties ++ record { name = p; store = s } ∷ [] }

abbrev pub property_added_at : PropName → ℕ → Numbered Object → ℕ → Numbered Object
property_added_at p s os h = with_numbered os h (Some (property_added p s (unwrap_or (numbered os h) no_object)))

abbrev pub with_static : Mem → ℕ → ℕ → Mem
with_static m i s = record m { statics = with_numbered m.statics i (Some s) }
