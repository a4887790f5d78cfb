-- What a memory is made of, from a content up to the whole.
use Rattle.std.specs.Prelude.{ℕ, Bool, false, List, [], Option, None, unwrap_or, ℤ}
use Rattle.php_entries.specs.Listing.{Listing}
use Rattle.php_memdef.specs.declared.place.PropName.{PropName}
use Rattle.php_memdef.specs.Numbered.{Numbered, numbered}

-- what a store holds; the value of an array's entry is the number of the store that it points to
pub data Content : Type 0 where
  null : Content
  truth : (b : Bool) → Content
  int : (i : ℤ) → Content
  text : (bytes : List ℕ) → Content
  array : (elements : Listing ℕ) → Content
  object : (number : ℕ) → Content

-- a temporary or a falling item: a content, or a link to a store
pub data Item : Type 0 where
  value : (content : Content) → Item
  link : (store : ℕ) → Item

pub record Variable : Type 0 where
  pub name : ℕ
  pub store : ℕ

-- what a block holds: its variables in the order of their making, its temporaries (the top first),
-- the room for these, and what has fallen in it and isn't released yet (the next first)
pub record Scope : Type 0 where
  pub variables : List Variable
  pub temps : List Item
  pub room : ℕ
  pub falling : List Item

pub record Property : Type 0 where
  pub name : PropName
  pub store : ℕ

-- an object: the number of its class, its properties in order, whether it has a destructor to be
-- run, whether that was run, and the block of the generator's frame that waits in it
pub record Object : Type 0 where
  pub class : ℕ
  pub properties : List Property
  pub finishing : Bool
  pub spent : Bool
  pub frame : Option ℕ

pub record Mem : Type 0 where
  pub stores : Numbered Content
  pub objects : Numbered Object
  pub blocks : Numbered Scope
  pub statics : Numbered ℕ
  pub next_object : ℕ

-- the memory in which nothing was made yet
abbrev pub fresh : Mem
fresh = record { stores = []; objects = []; blocks = []; statics = []; next_object = 1 }

abbrev pub no_scope : Scope
no_scope = record { variables = []; temps = []; room = 0; falling = [] }

abbrev pub no_object : Object
no_object = record { class = 0; properties = []; finishing = false; spent = false; frame = None }

-- the content of a store, what a block holds, an object, each by its number
abbrev pub content_of : Mem → ℕ → Content
content_of m s = unwrap_or (numbered m.stores s) null

abbrev pub scope_of : Mem → ℕ → Scope
scope_of m b = unwrap_or (numbered m.blocks b) no_scope

abbrev pub object_of : Mem → ℕ → Object
object_of m h = unwrap_or (numbered m.objects h) no_object
