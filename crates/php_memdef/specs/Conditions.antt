-- When each call of a memory may be made.
use Rattle.std.specs.Prelude.{◌≡◌, ◌≢◌, ℕ, ◌<◌, ◌≤◌, List, [], ◌∷◌, ◌++◌, length, Option, Some, IsSome}
use Rattle.php_value.specs.declared.scalar.Scalar.{Scalar}
use Rattle.php_value.specs.declared.scalar.Scalar.TheVariants as scalar
use Rattle.php_memdef.specs.declared.place.Base.{Base}
use Rattle.php_memdef.specs.declared.place.Base.TheVariants.{Var, Property, Static, Temp}
use Rattle.php_memdef.specs.declared.place.Step.{Step}
use Rattle.php_memdef.specs.declared.place.Step.TheVariants.{At, Push}
use Rattle.php_memdef.specs.declared.place.Place.{Place}
use Rattle.php_memdef.specs.Numbered.{numbered}
use Rattle.php_memdef.specs.Contents.{Content, text, object, value, link, Mem, scope_of, object_of}
use Rattle.php_memdef.specs.Places.{nth_item}
use Rattle.php_memdef.specs.Views.{found}
use Rattle.php_memdef.specs.Sound.{IsInt, IsShort, IsKeyWithin}

abbrev pub IsBlock : Mem → ℕ → Type 0
IsBlock m b = IsSome (numbered m.blocks b)

abbrev pub IsObject : Mem → ℕ → Type 0
IsObject m h = IsSome (numbered m.objects h)

-- there is room for one more temporary
abbrev pub HasRoom : Mem → ℕ → Type 0
HasRoom m b = length (scope_of m b).temps < (scope_of m b).room

-- fewer items have fallen than there is room for
abbrev pub HasFallingRoom : Mem → ℕ → Type 0
HasFallingRoom m b = length (scope_of m b).falling < (scope_of m b).room

abbrev pub HasTemp : Mem → ℕ → Type 0
HasTemp m b = 0 < length (scope_of m b).temps

abbrev pub HasValueOnTop : Mem → ℕ → Type 0
HasValueOnTop m b = (c : Content) × (nth_item (scope_of m b).temps 0 ≡ Some (value c))

abbrev pub HasLinkOnTop : Mem → ℕ → Type 0
HasLinkOnTop m b = (s : ℕ) × (nth_item (scope_of m b).temps 0 ≡ Some (link s))

abbrev pub HasHandleOnTop : Mem → ℕ → Type 0
HasHandleOnTop m b = (h : ℕ) × (nth_item (scope_of m b).temps 0 ≡ Some (value (object h)))

-- what a place begins with is there; a variable, a property or a static may be missing itself
abbrev pub IsBase : Mem → Base → Type 0
IsBase m (Var b n) = IsBlock m b.0
IsBase m (Property h p) = IsObject m h.0 × IsShort p.name
IsBase m (Static i) = Unit {0}
IsBase m (Temp b n) = IsBlock m b.0 × (n < length (scope_of m b.0).temps)

-- the keys of a path are within their limits
abbrev pub AreStepsWithin : List Step → Type 0
AreStepsWithin [] = Unit {0}
AreStepsWithin (At k ∷ path) = IsKeyWithin k × AreStepsWithin path
AreStepsWithin (Push ∷ path) = AreStepsWithin path

abbrev pub IsPlace : Mem → Place → Type 0
IsPlace m p = IsBase m p.base × AreStepsWithin p.path

-- the base isn't the top temporary of the block
abbrev pub IsBelowTop : ℕ → Base → Type 0
IsBelowTop b (Var c n) = Unit {0}
IsBelowTop b (Property h p) = Unit {0}
IsBelowTop b (Static i) = Unit {0}
IsBelowTop b (Temp c n) = c.0 ≡ b → 0 < n

-- something is named by the path where the base is a temporary, and also where it is a static

abbrev pub HasStep : List Step → Type 0
HasStep [] = ⊥
HasStep (step ∷ path) = Unit {0}

abbrev pub IsPointed : Base → List Step → Type 0
IsPointed (Var b n) path = Unit {0}
IsPointed (Property h p) path = Unit {0}
IsPointed (Static i) path = Unit {0}
IsPointed (Temp b n) path = HasStep path

abbrev pub IsRemovable : Base → List Step → Type 0
IsRemovable (Var b n) path = Unit {0}
IsRemovable (Property h p) path = Unit {0}
IsRemovable (Static i) path = HasStep path
IsRemovable (Temp b n) path = HasStep path

-- a temporary is a place with a store only where it is a link
abbrev pub IsLinkable : Mem → Base → List Step → Type 0
IsLinkable m (Var b n) path = Unit {0}
IsLinkable m (Property h p) path = Unit {0}
IsLinkable m (Static i) path = Unit {0}
IsLinkable m (Temp b n) [] = (s : ℕ) × (nth_item (scope_of m b.0).temps n ≡ Some (link s))
IsLinkable m (Temp b n) (step ∷ path) = Unit {0}

-- what is pushed is within its limits: an int of 64 bits, a string that isn't too long
abbrev pub IsScalarWithin : Scalar → Type 0
IsScalarWithin scalar.Null = Unit {0}
IsScalarWithin (scalar.Bool b) = Unit {0}
IsScalarWithin (scalar.Int i) = IsInt i
IsScalarWithin (scalar.Str bytes) = IsShort bytes

-- nothing is left in the block, and no object waits for it
pub record CanLeave (b : ℕ) (m : Mem) : Type 0 where
  pub block : IsBlock m b
  pub no_variables : (scope_of m b).variables ≡ []
  pub no_temps : (scope_of m b).temps ≡ []
  pub no_falling : (scope_of m b).falling ≡ []
  pub no_frame : (h : ℕ) → (object_of m h).frame ≢ Some b

pub record CanPush (b : ℕ) (v : Scalar) (m : Mem) : Type 0 where
  pub block : IsBlock m b
  pub room : HasRoom m b
  pub within : IsScalarWithin v

pub record CanPushArray (b : ℕ) (m : Mem) : Type 0 where
  pub block : IsBlock m b
  pub room : HasRoom m b

pub record CanCopy (b : ℕ) (from : Place) (m : Mem) : Type 0 where
  pub block : IsBlock m b
  pub room : HasRoom m b
  pub place : IsPlace m from

pub record CanAssign (b : ℕ) (to : Place) (m : Mem) : Type 0 where
  pub block : IsBlock m b
  pub top : HasValueOnTop m b
  pub place : IsPlace m to
  pub below_top : IsBelowTop b to.base

pub record CanLink (b : ℕ) (from : Place) (m : Mem) : Type 0 where
  pub block : IsBlock m b
  pub room : HasRoom m b
  pub place : IsPlace m from
  pub linkable : IsLinkable m from.base from.path

pub record CanBind (b : ℕ) (to : Place) (m : Mem) : Type 0 where
  pub block : IsBlock m b
  pub top : HasLinkOnTop m b
  pub place : IsPlace m to
  pub below_top : IsBelowTop b to.base
  pub pointed : IsPointed to.base to.path

pub record CanSettle (b : ℕ) (m : Mem) : Type 0 where
  pub block : IsBlock m b
  pub top : HasLinkOnTop m b
  pub falling_room : HasFallingRoom m b

-- so many temporaries are there
pub record CanTurn (b n : ℕ) (m : Mem) : Type 0 where
  pub block : IsBlock m b
  pub enough : n ≤ length (scope_of m b).temps

-- a text stands at the place and one on top, and both together aren't too long
pub record CanAppend (b : ℕ) (to : Place) (m : Mem) : Type 0 where
  pub block : IsBlock m b
  pub place : IsPlace m to
  pub below_top : IsBelowTop b to.base
  pub before : List ℕ
  pub behind : List ℕ
  pub there : found m to ≡ Some (text before)
  pub top : nth_item (scope_of m b).temps 0 ≡ Some (value (text behind))
  pub short : IsShort (before ++ behind)

pub record CanPass (from to : ℕ) (m : Mem) : Type 0 where
  pub from_block : IsBlock m from
  pub to_block : IsBlock m to
  pub top : HasTemp m from
  pub room : HasRoom m to

pub record CanUnset (b : ℕ) (at : Place) (m : Mem) : Type 0 where
  pub block : IsBlock m b
  pub place : IsPlace m at
  pub removable : IsRemovable at.base at.path

pub record CanUnsetLast (b : ℕ) (at : Place) (m : Mem) : Type 0 where
  pub block : IsBlock m b
  pub place : IsPlace m at

pub record CanForget (b : ℕ) (m : Mem) : Type 0 where
  pub block : IsBlock m b
  pub falling_room : HasFallingRoom m b

pub record CanDropTop (b : ℕ) (m : Mem) : Type 0 where
  pub block : IsBlock m b
  pub top : HasTemp m b
  pub falling_room : HasFallingRoom m b

pub record CanPushObject (b h : ℕ) (m : Mem) : Type 0 where
  pub block : IsBlock m b
  pub object : IsObject m h
  pub room : HasRoom m b

pub record CanMakeObject (b : ℕ) (m : Mem) : Type 0 where
  pub block : IsBlock m b
  pub room : HasRoom m b

pub record CanClone (b : ℕ) (m : Mem) : Type 0 where
  pub block : IsBlock m b
  pub top : HasHandleOnTop m b

-- the frame is a block that waits in no other object
pub record CanAttach (h : ℕ) (frame : Option ℕ) (m : Mem) : Type 0 where
  pub object : IsObject m h
  pub frame_live : (b : ℕ) → frame ≡ Some b → IsBlock m b
  pub frame_apart : (b g : ℕ) → frame ≡ Some b → (object_of m g).frame ≡ Some b → g ≡ h
