-- Legal scripts, and the first fault of one that isn't.
use Rattle.std.specs.Prelude.{Option, Some, List, [], ◌∷◌, map, flat_map}
use Rattle.php_ast.specs.expression.View.{Note}
use Rattle.php_ast.specs.declaration.Tree.{Item, Script}
use Rattle.php_legality.specs.declared.kind.Kind.{Kind}
use Rattle.php_legality.specs.declared.kind.Kind.TheVariants as kind
use Rattle.php_legality.specs.declared.fault.Fault.{Fault}
use Rattle.php_legality.specs.Lists.{elements, Has}
use Rattle.php_legality.specs.First.{fault_at, IsFirst}
use Rattle.php_legality.specs.Rows.{no_place, bad_break, jump_from_finally, duplicate, no_constant, bad_list, bad_use, too_many_names}

-- where a kind of fault stands in a script
unfoldable pub places_of : Kind → List (Item Note) → List Note
places_of kind.NoPlace items = no_place items
places_of kind.BadBreak items = bad_break items
places_of kind.JumpFromFinally items = jump_from_finally items
places_of kind.Duplicate items = duplicate items
places_of kind.NoConstant items = no_constant items
places_of kind.BadList items = bad_list items
places_of kind.BadUse items = bad_use items
places_of kind.TooManyNames items = too_many_names items

-- the faults of a kind, and those of several kinds
abbrev pub faults_of : List (Item Note) → Kind → List Fault
faults_of items kind_of = map (fault_at kind_of) (places_of kind_of items)

abbrev pub faults_of_kinds : List Kind → List (Item Note) → List Fault
faults_of_kinds kinds items = flat_map (faults_of items) kinds

abbrev pub all_kinds : List Kind
all_kinds = kind.NoPlace ∷ kind.BadBreak ∷ kind.JumpFromFinally ∷ kind.Duplicate ∷ kind.NoConstant ∷ kind.BadList ∷ kind.BadUse ∷ kind.TooManyNames ∷ []

-- A fault of this kind stands at the token with this note.
abbrev pub HasFault : Script Note → Kind → Note → Type 0
HasFault script kind_of at = Has (places_of kind_of (elements script)) at

-- It has no fault of any kind.
abbrev pub IsLegal : Script Note → Type 0
IsLegal script = (kind_of : Kind) (at : Note) → HasFault script kind_of at → ⊥

-- the first fault of these kinds, or that there is none
abbrev pub IsFirstOf : List Kind → Script Note → Option Fault → Type 0
IsFirstOf kinds script found = IsFirst (faults_of_kinds kinds (elements script)) found

-- It stands at the least place at which any fault stands, and goes first among those there.
abbrev pub IsFirstFault : Script Note → Fault → Type 0
IsFirstFault script fault = IsFirstOf all_kinds script (Some fault)
