-- What holds of every memory that the operations lead to.
use Rattle.std.specs.Prelude.{◌≡◌, ℕ, ◌<◌, ◌≤◌, false, nat_eq, ℤ, FitsSigned, List, [], ◌∷◌, length, Some, IsSome}
use Rattle.std.specs.Int.{w64}
use Rattle.php_value.specs.declared.key.Key.{Key}
use Rattle.php_value.specs.declared.key.Key.TheVariants.{Int, Str}
use Rattle.php_entries.specs.Listing.{Entry}
use Rattle.php_entries.specs.Soundness.{IsSound as IsSoundListing}
use Rattle.php_memdef.specs.declared.place.PropName.{PropName}
use Rattle.php_memdef.specs.Numbered.{numbered}
use Rattle.php_memdef.specs.Contents.{Content, null, truth, int, text, array, object, Item, value, link, Variable, Scope, Property, Object, Mem, object_of}
use Rattle.php_memdef.specs.Holders.{stores_of_content, stores_of_object, stores_of_scope, holders, object_holders}
use Rattle.php_memdef.specs.Places.{prop_name_eq}
use Rattle.php_memdef.specs.Objects.{OBJECT_LIMIT}

-- the most bytes of a string
abbrev pub TEXT_LIMIT : ℕ
TEXT_LIMIT = 16777216

abbrev pub IsShort : List ℕ → Type 0
IsShort bytes = length bytes ≤ TEXT_LIMIT

-- an int of 64 bits
abbrev pub IsInt : ℤ → Type 0
IsInt i = FitsSigned w64 i

-- a key within its limits
abbrev pub IsKeyWithin : Key → Type 0
IsKeyWithin (Int i) = IsInt i
IsKeyWithin (Str bytes) = IsShort bytes

abbrev pub AreKeysWithin : List (Entry ℕ) → Type 0
AreKeysWithin [] = Unit {0}
AreKeysWithin (e ∷ es) = IsKeyWithin e.key × AreKeysWithin es

abbrev pub IsSoundContent : Content → Type 0
IsSoundContent null = Unit {0}
IsSoundContent (truth b) = Unit {0}
IsSoundContent (int i) = IsInt i
IsSoundContent (text bytes) = IsShort bytes
IsSoundContent (array t) = IsSoundListing t × AreKeysWithin t.entries
IsSoundContent (object h) = Unit {0}

abbrev pub AreSoundItems : List Item → Type 0
AreSoundItems [] = Unit {0}
AreSoundItems (value c ∷ is) = IsSoundContent c × AreSoundItems is
AreSoundItems (link s ∷ is) = AreSoundItems is

-- what falls and is released: a null, a bool, an int or a string is dropped at once and joins no list
abbrev pub IsSoundFallen : Content → Type 0
IsSoundFallen null = ⊥
IsSoundFallen (truth b) = ⊥
IsSoundFallen (int i) = ⊥
IsSoundFallen (text bytes) = ⊥
IsSoundFallen (array t) = IsSoundContent (array t)
IsSoundFallen (object h) = Unit {0}

abbrev pub AreSoundFalling : List Item → Type 0
AreSoundFalling [] = Unit {0}
AreSoundFalling (value c ∷ is) = IsSoundFallen c × AreSoundFalling is
AreSoundFalling (link s ∷ is) = AreSoundFalling is

abbrev pub HasNoVariable : ℕ → List Variable → Type 0
HasNoVariable n [] = Unit {0}
HasNoVariable n (v ∷ vs) = (nat_eq n v.name ≡ false) × HasNoVariable n vs

abbrev pub AreVariablesDistinct : List Variable → Type 0
AreVariablesDistinct [] = Unit {0}
AreVariablesDistinct (v ∷ vs) = HasNoVariable v.name vs × AreVariablesDistinct vs

abbrev pub HasNoProperty : PropName → List Property → Type 0
HasNoProperty n [] = Unit {0}
HasNoProperty n (p ∷ ps) = (prop_name_eq n p.name ≡ false) × HasNoProperty n ps

abbrev pub ArePropertiesDistinct : List Property → Type 0
ArePropertiesDistinct [] = Unit {0}
ArePropertiesDistinct (p ∷ ps) = HasNoProperty p.name ps × ArePropertiesDistinct ps

abbrev pub AreNamesShort : List Property → Type 0
AreNamesShort [] = Unit {0}
AreNamesShort (p ∷ ps) = IsShort p.name.name × AreNamesShort ps

pub record IsSoundScope (f : Scope) : Type 0 where
  pub variables_distinct : AreVariablesDistinct f.variables
  pub temps : AreSoundItems f.temps
  pub falling : AreSoundFalling f.falling
  pub temps_within : length f.temps ≤ f.room

pub record IsSoundObject (o : Object) : Type 0 where
  pub properties_distinct : ArePropertiesDistinct o.properties
  pub names_short : AreNamesShort o.properties

abbrev pub Every : (ℕ → Type 0) → List ℕ → Type 0
Every P [] = Unit {0}
Every P (s ∷ ss) = P s × Every P ss

abbrev pub IsLive : Mem → ℕ → Type 0
IsLive m s = IsSome (numbered m.stores s)

-- every store that is named is there
pub record IsClosed (m : Mem) : Type 0 where
  pub stores : (s : ℕ) (c : Content) → numbered m.stores s ≡ Some c → Every (IsLive m) (stores_of_content c)
  pub objects : (h : ℕ) (o : Object) → numbered m.objects h ≡ Some o → Every (IsLive m) (stores_of_object o)
  pub blocks : (b : ℕ) (f : Scope) → numbered m.blocks b ≡ Some f → Every (IsLive m) (stores_of_scope f)
  pub statics : (i s : ℕ) → numbered m.statics i ≡ Some s → IsLive m s

-- what is there has a holder, and objects that have one are there
pub record IsHeld (m : Mem) : Type 0 where
  pub stores : (s : ℕ) → IsSome (numbered m.stores s) → 0 < holders m s
  pub objects_live : (h : ℕ) → 0 < object_holders m h → IsSome (numbered m.objects h)
  pub objects_held : (h : ℕ) → IsSome (numbered m.objects h) → 0 < object_holders m h

-- each part is as it should be
pub record IsFormed (m : Mem) : Type 0 where
  pub frames_live : (h b : ℕ) → (object_of m h).frame ≡ Some b → IsSome (numbered m.blocks b)
  -- no two objects have one frame
  pub frames_apart : (g h b : ℕ) → (object_of m g).frame ≡ Some b → (object_of m h).frame ≡ Some b → g ≡ h
  pub contents : (s : ℕ) (c : Content) → numbered m.stores s ≡ Some c → IsSoundContent c
  pub objects : (h : ℕ) (o : Object) → numbered m.objects h ≡ Some o → IsSoundObject o
  pub scopes : (b : ℕ) (f : Scope) → numbered m.blocks b ≡ Some f → IsSoundScope f
  pub object_numbers : (h : ℕ) → IsSome (numbered m.objects h) → h < m.next_object
  pub next_object_within : m.next_object ≤ OBJECT_LIMIT

pub record IsSound (m : Mem) : Type 0 where
  pub closed : IsClosed m
  pub held : IsHeld m
  pub formed : IsFormed m
