-- Memories in which nothing was made yet, and memories that two machines leave alike.
use Rattle.std.specs.Prelude.{◌≡◌, ℕ, List, [], ◌∷◌, Option, Some, None, option_map}
use Rattle.php_memdef.specs.Numbered.{numbered}
use Rattle.php_memdef.specs.Contents.{null, truth, int, text, array, object, Item, value, link, Variable, Scope, Object, Mem}
use Rattle.php_memdef.specs.Alike.{map_if, renamed_content, renamed_items, renamed_object}

-- nothing is there, and the first object will be 1
pub record IsFresh (m : Mem) : Type 0 where
  pub stores : (s : ℕ) → numbered m.stores s ≡ None
  pub objects : (h : ℕ) → numbered m.objects h ≡ None
  pub blocks : (b : ℕ) → numbered m.blocks b ≡ None
  pub statics : (i : ℕ) → numbered m.statics i ≡ None
  pub next_object : m.next_object ≡ 1

-- temporaries without those that are a null, a bool, an int or a string
abbrev pub resting_temps : List Item → List Item
resting_temps [] = []
resting_temps (value null ∷ is) = resting_temps is
resting_temps (value (truth b) ∷ is) = resting_temps is
resting_temps (value (int i) ∷ is) = resting_temps is
resting_temps (value (text bytes) ∷ is) = resting_temps is
resting_temps (value (array t) ∷ is) = value (array t) ∷ resting_temps is
resting_temps (value (object h) ∷ is) = value (object h) ∷ resting_temps is
resting_temps (link s ∷ is) = link s ∷ resting_temps is

-- the block without its room, unless nothing is left in it
abbrev pub resting_scope : List Variable → List Item → List Item → Option Scope
resting_scope [] [] [] = None
resting_scope vs ts fs = Some (record { variables = vs; temps = ts; room = 0; falling = fs })

abbrev pub resting_scope_if : Option Scope → Option Scope
resting_scope_if None = None
resting_scope_if (Some f) = resting_scope f.variables (resting_temps f.temps) f.falling

abbrev pub resting : Mem → ℕ → Option Scope
resting m b = resting_scope_if (numbered m.blocks b)

abbrev pub renamed_names : (ℕ → ℕ) → (ℕ → ℕ) → List Variable → List Variable
renamed_names name store [] = []
renamed_names name store (v ∷ vs) = record { name = name v.name; store = store v.store } ∷ renamed_names name store vs

abbrev pub renamed_rest : (ℕ → ℕ) → (ℕ → ℕ) → Scope → Scope
renamed_rest name store f = record f { variables = renamed_names name store f.variables; temps = renamed_items store f.temps; falling = renamed_items store f.falling }

abbrev pub renamed_frame : (ℕ → ℕ) → (ℕ → ℕ) → Object → Object
renamed_frame block store o = record (renamed_object store o) { frame = option_map block o.frame }

-- numbers are taken to others one to one
pub record Renaming : Type 0 where
  pub to : ℕ → ℕ
  pub back : ℕ → ℕ
  pub back_to : (n : ℕ) → back (to n) ≡ n
  pub to_back : (n : ℕ) → to (back n) ≡ n

-- the same but for the numbers of stores, blocks and statics and the names of variables, when rooms,
-- temporaries that need no release, and then empty blocks are left out
pub record EqualAtRest (m n : Mem) : Type 0 where
  pub store : Renaming
  pub block : Renaming
  pub static : Renaming
  pub name : Renaming
  pub stores : (s : ℕ) → numbered n.stores (store.to s) ≡ map_if (renamed_content store.to) (numbered m.stores s)
  pub objects : (h : ℕ) → numbered n.objects h ≡ map_if (renamed_frame block.to store.to) (numbered m.objects h)
  pub blocks : (b : ℕ) → resting n (block.to b) ≡ map_if (renamed_rest name.to store.to) (resting m b)
  pub statics : (i : ℕ) → numbered n.statics (static.to i) ≡ map_if store.to (numbered m.statics i)
  pub next_object : n.next_object ≡ m.next_object
