-- Memories that differ in the numbers of their stores alone.
use Rattle.std.specs.Prelude.{◌≡◌, ℕ, List, [], ◌∷◌, Option, Some, None}
use Rattle.php_entries.specs.Changes.{map_listing}
use Rattle.php_memdef.specs.Numbered.{numbered}
use Rattle.php_memdef.specs.Contents.{Content, null, truth, int, text, array, object, Item, value, link, Variable, Scope, Property, Object, Mem}

abbrev pub map_if : {X Y : Type 0} → (X → Y) → Option X → Option Y
map_if f None = None
map_if f (Some x) = Some (f x)

module _ (to : ℕ → ℕ) where
  -- the same with other numbers for the stores

  abbrev pub renamed_content : Content → Content
  renamed_content null = null
  renamed_content (truth b) = truth b
  renamed_content (int i) = int i
  renamed_content (text bytes) = text bytes
  renamed_content (array t) = array (map_listing to t)
  renamed_content (object h) = object h

  abbrev pub renamed_item : Item → Item
  renamed_item (value c) = value (renamed_content c)
  renamed_item (link s) = link (to s)

  abbrev pub renamed_items : List Item → List Item
  renamed_items [] = []
  renamed_items (i ∷ is) = renamed_item i ∷ renamed_items is

  abbrev pub renamed_variables : List Variable → List Variable
  renamed_variables [] = []
  renamed_variables (v ∷ vs) = record v { store = to v.store } ∷ renamed_variables vs

  abbrev pub renamed_scope : Scope → Scope
  renamed_scope f = record f { variables = renamed_variables f.variables; temps = renamed_items f.temps; falling = renamed_items f.falling }

  abbrev pub renamed_properties : List Property → List Property
  renamed_properties [] = []
  renamed_properties (p ∷ ps) = record p { store = to p.store } ∷ renamed_properties ps

  abbrev pub renamed_object : Object → Object
  renamed_object o = record o { properties = renamed_properties o.properties }

-- `to`, which `back` undoes, takes the stores of the first memory one to one to those of the
-- second, and makes the second of the first
pub record IsRenamed (to back : ℕ → ℕ) (m n : Mem) : Type 0 where
  pub back_to : (s : ℕ) → back (to s) ≡ s
  pub to_back : (t : ℕ) → to (back t) ≡ t
  pub stores : (s : ℕ) → numbered n.stores (to s) ≡ map_if (renamed_content to) (numbered m.stores s)
  pub objects : (h : ℕ) → numbered n.objects h ≡ map_if (renamed_object to) (numbered m.objects h)
  pub blocks : (b : ℕ) → numbered n.blocks b ≡ map_if (renamed_scope to) (numbered m.blocks b)
  pub statics : (i : ℕ) → numbered n.statics i ≡ map_if to (numbered m.statics i)
  pub next_object : n.next_object ≡ m.next_object

pub record Alike (m n : Mem) : Type 0 where
  pub to : ℕ → ℕ
  pub back : ℕ → ℕ
  pub renamed : IsRenamed to back m n
