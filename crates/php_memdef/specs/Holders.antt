-- Who holds a store or an object, counted over the whole memory.
use Rattle.std.specs.Prelude.{ℕ, ◌+◌, Bool, nat_eq, nat_le, cond, List, [], ◌∷◌, ◌++◌, length}
use Rattle.php_entries.specs.Listing.{Entry, count_of}
use Rattle.php_memdef.specs.Numbered.{total}
use Rattle.php_memdef.specs.Contents.{Content, null, truth, int, text, array, object, Item, value, link, Variable, Scope, Property, Object, Mem}

-- how often a number stands in a list
abbrev pub times : ℕ → List ℕ → ℕ
times s [] = 0
times s (x ∷ xs) = cond (nat_eq s x) 1 0 + times s xs

abbrev pub stores_of_entries : List (Entry ℕ) → List ℕ
stores_of_entries [] = []
stores_of_entries (e ∷ es) = e.value ∷ stores_of_entries es

-- the stores that a content names
abbrev pub stores_of_content : Content → List ℕ
stores_of_content null = []
stores_of_content (truth b) = []
stores_of_content (int i) = []
stores_of_content (text bytes) = []
stores_of_content (array t) = stores_of_entries t.entries
stores_of_content (object h) = []

abbrev pub stores_of_item : Item → List ℕ
stores_of_item (value c) = stores_of_content c
stores_of_item (link s) = s ∷ []

abbrev pub stores_of_items : List Item → List ℕ
stores_of_items [] = []
stores_of_items (i ∷ is) = stores_of_item i ++ stores_of_items is

abbrev pub stores_of_variables : List Variable → List ℕ
stores_of_variables [] = []
stores_of_variables (v ∷ vs) = v.store ∷ stores_of_variables vs

abbrev pub stores_of_scope : Scope → List ℕ
stores_of_scope f = stores_of_variables f.variables ++ (stores_of_items f.temps ++ stores_of_items f.falling)

abbrev pub stores_of_properties : List Property → List ℕ
stores_of_properties [] = []
stores_of_properties (p ∷ ps) = p.store ∷ stores_of_properties ps

abbrev pub stores_of_object : Object → List ℕ
stores_of_object o = stores_of_properties o.properties

-- how many variables, entries, properties, statics, temporaries and falling items name a store
unfoldable pub holders : Mem → ℕ → ℕ
holders m s =
    total (λ c. times s (stores_of_content c)) m.stores
    + (total (λ o. times s (stores_of_object o)) m.objects
    + (total (λ f. times s (stores_of_scope f)) m.blocks
    + total (λ t. times s (t ∷ [])) m.statics))

-- the store has two holders or more, so the variables, elements and properties there are aliases
abbrev pub is_shared : Mem → ℕ → Bool
is_shared m s = nat_le 2 (holders m s)

-- the objects whose handle a content is
abbrev pub handles_of_content : Content → List ℕ
handles_of_content null = []
handles_of_content (truth b) = []
handles_of_content (int i) = []
handles_of_content (text bytes) = []
handles_of_content (array t) = []
handles_of_content (object h) = h ∷ []

abbrev pub handles_of_items : List Item → List ℕ
handles_of_items [] = []
handles_of_items (value c ∷ is) = handles_of_content c ++ handles_of_items is
handles_of_items (link s ∷ is) = handles_of_items is

abbrev pub handles_of_scope : Scope → List ℕ
handles_of_scope f = handles_of_items f.temps ++ handles_of_items f.falling

-- how many stores, temporaries and falling items have the object's handle as their content
unfoldable pub object_holders : Mem → ℕ → ℕ
object_holders m h = total (λ c. times h (handles_of_content c)) m.stores + total (λ f. times h (handles_of_scope f)) m.blocks

abbrev pub entries_of_content : Content → ℕ
entries_of_content null = 0
entries_of_content (truth b) = 0
entries_of_content (int i) = 0
entries_of_content (text bytes) = 0
entries_of_content (array t) = count_of t
entries_of_content (object h) = 0

abbrev pub entries_of_items : List Item → ℕ
entries_of_items [] = 0
entries_of_items (value c ∷ is) = entries_of_content c + entries_of_items is
entries_of_items (link s ∷ is) = entries_of_items is

abbrev pub links_of_items : List Item → ℕ
links_of_items [] = 0
links_of_items (value c ∷ is) = links_of_items is
links_of_items (link s ∷ is) = 1 + links_of_items is

abbrev pub vslots_of_scope : Scope → ℕ
vslots_of_scope f = entries_of_items f.temps + (entries_of_items f.falling + links_of_items f.falling)

-- the number of all entries of arrays, all properties and all falling links
unfoldable pub vslots : Mem → ℕ
vslots m = total entries_of_content m.stores + (total (λ o. length o.properties) m.objects + total vslots_of_scope m.blocks)
