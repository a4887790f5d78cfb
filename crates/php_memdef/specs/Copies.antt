-- The copy that reading a value makes. It is made at once and whole: a memory that puts it off has
-- to show what this gives.
use Rattle.std.specs.Prelude.{ℕ, zero, suc, Bool, true, false, List, [], ◌∷◌, length}
use Rattle.php_entries.specs.Listing.{Entry}
use Rattle.php_memdef.specs.Numbered.{Numbered, with_next, live_count}
use Rattle.php_memdef.specs.Contents.{Content, null, truth, int, text, array, object, Property, Mem, content_of}
use Rattle.php_memdef.specs.Holders.{is_shared}

-- something that was copied, and the stores with those that were made for it
pub record Copy (X : Type 0) : Type 0 where
  pub stores : Numbered Content
  pub made : X

abbrev pub Copier : Type 0
Copier = Numbered Content → Content → Copy Content

abbrev pub in_new_store : Copy Content → Copy ℕ
in_new_store c = record { stores = with_next c.stores c.made; made = length c.stores }

-- the store for the copy of what names this one: an alias keeps it, and anything else gets a new
-- store with the copy of its content
abbrev pub copied_store_if : Bool → Copier → Mem → Numbered Content → ℕ → Copy ℕ
copied_store_if true copier m stores s = record { stores = stores; made = s }
copied_store_if false copier m stores s = in_new_store (copier stores (content_of m s))

abbrev pub copied_store : Copier → Mem → Numbered Content → ℕ → Copy ℕ
copied_store copier m stores s = copied_store_if (is_shared m s) copier m stores s

abbrev pub copied_entries : Copier → Mem → Numbered Content → List (Entry ℕ) → Copy (List (Entry ℕ))
copied_entries copier m stores [] = record { stores = stores; made = [] }
copied_entries copier m stores (e ∷ es) =
    let first = copied_store copier m stores e.value in
    let rest = copied_entries copier m first.stores es in
    record { stores = rest.stores; made = record e { value = first.made } ∷ rest.made }

-- the copy of a content, so many levels down
abbrev pub copied_deep : ℕ → Mem → Copier
copied_deep zero m stores c = record { stores = stores; made = c }
copied_deep (suc n) m stores null = record { stores = stores; made = null }
copied_deep (suc n) m stores (truth b) = record { stores = stores; made = truth b }
copied_deep (suc n) m stores (int i) = record { stores = stores; made = int i }
copied_deep (suc n) m stores (text bytes) = record { stores = stores; made = text bytes }
copied_deep (suc n) m stores (array t) =
    let copied = copied_entries (copied_deep n m) m stores t.entries in
    record { stores = copied.stores; made = array (record t { entries = copied.made }) }
copied_deep (suc n) m stores (object h) = record { stores = stores; made = object h }

-- the copier of a memory: arrays that aren't aliases lie no deeper in each other than there are stores
abbrev pub copier_of : Mem → Copier
copier_of m = copied_deep (live_count m.stores) m

-- the copy of a content: an array keeps its keys, serials, next key and next serial, and each of
-- its elements is copied, but for those that are aliases; anything else is its own copy
unfoldable pub copied : Mem → Content → Copy Content
copied m c = copier_of m m.stores c

-- the copy of an object's properties, by the same rule
abbrev pub copied_properties : Copier → Mem → Numbered Content → List Property → Copy (List Property)
copied_properties copier m stores [] = record { stores = stores; made = [] }
copied_properties copier m stores (p ∷ ps) =
    let first = copied_store copier m stores p.store in
    let rest = copied_properties copier m first.stores ps in
    record { stores = rest.stores; made = record p { store = first.made } ∷ rest.made }
