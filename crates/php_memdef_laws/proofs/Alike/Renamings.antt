-- The same with other numbers for the stores.
use Rattle.std.proofs.Common.{◌≡◌, ℕ, List, [], ◌∷◌, ◌++◌, refl, ◌∙◌, ap}
use Rattle.php_entries.specs.Listing.{Entry}
use Rattle.php_entries.specs.Changes.{map_entry, map_entries}
use Rattle.php_memdef.specs.Contents.{Content, null, truth, int, text, array, object, Item, value, link, Variable, Scope, Property, Object}
use Rattle.php_memdef.specs.Holders.{stores_of_entries, stores_of_content, stores_of_item, stores_of_items, stores_of_variables, stores_of_scope, stores_of_properties, stores_of_object}
use Rattle.php_memdef.specs.Sound.{Every}
use Rattle.php_memdef.specs.Alike.{renamed_content, renamed_item, renamed_items, renamed_variables, renamed_scope, renamed_properties, renamed_object}

pub Every-append : (P : ℕ → Type 0) (xs ys : List ℕ) → Every P xs → Every P ys → Every P (xs ++ ys)
Every-append P [] ys p q = q
Every-append P (x ∷ xs) ys p q = (p.0, Every-append P xs ys p.1 q)

pub Every-front : (P : ℕ → Type 0) (xs ys : List ℕ) → Every P (xs ++ ys) → Every P xs
Every-front P [] ys p = tt
Every-front P (x ∷ xs) ys p = (p.0, Every-front P xs ys p.1)

pub Every-back : (P : ℕ → Type 0) (xs ys : List ℕ) → Every P (xs ++ ys) → Every P ys
Every-back P [] ys p = p
Every-back P (x ∷ xs) ys p = Every-back P xs ys p.1

pub Every-weaken : (P Q : ℕ → Type 0) → ((s : ℕ) → P s → Q s) → (xs : List ℕ) → Every P xs → Every Q xs
Every-weaken P Q h [] p = tt
Every-weaken P Q h (x ∷ xs) p = (h x p.0, Every-weaken P Q h xs p.1)

pub Every-always : (P : ℕ → Type 0) → ((s : ℕ) → P s) → (xs : List ℕ) → Every P xs
Every-always P h [] = tt
Every-always P h (x ∷ xs) = (h x, Every-always P h xs)

-- where two renamings agree on what is named, they make the same

module _ (f g : ℕ → ℕ) where
  pub entries-agree : (es : List (Entry ℕ)) → Every (λ s. f s ≡ g s) (stores_of_entries es) → map_entries f es ≡ map_entries g es
  entries-agree [] p = refl
  entries-agree (e ∷ es) p = ap (λ s. record { serial = e.serial; key = e.key; value = s } ∷ map_entries f es) p.0 ∙ ap (λ fs. map_entry g e ∷ fs) (entries-agree es p.1)

  pub content-agree : (c : Content) → Every (λ s. f s ≡ g s) (stores_of_content c) → renamed_content f c ≡ renamed_content g c
  content-agree null p = refl
  content-agree (truth b) p = refl
  content-agree (int i) p = refl
  content-agree (text bytes) p = refl
  content-agree (array t) p = ap (λ es. array (record { entries = es; next_key = t.next_key; next_serial = t.next_serial })) (entries-agree t.entries p)
  content-agree (object h) p = refl

  pub item-agree : (i : Item) → Every (λ s. f s ≡ g s) (stores_of_item i) → renamed_item f i ≡ renamed_item g i
  item-agree (value c) p = ap value (content-agree c p)
  item-agree (link s) p = ap link p.0

  pub items-agree : (is : List Item) → Every (λ s. f s ≡ g s) (stores_of_items is) → renamed_items f is ≡ renamed_items g is
  items-agree [] p = refl
  items-agree (i ∷ is) p =
      ap (λ j. j ∷ renamed_items f is) (item-agree i (Every-front _ (stores_of_item i) (stores_of_items is) p))
      ∙ ap (λ js. renamed_item g i ∷ js) (items-agree is (Every-back _ (stores_of_item i) (stores_of_items is) p))

  pub variables-agree : (vs : List Variable) → Every (λ s. f s ≡ g s) (stores_of_variables vs) → renamed_variables f vs ≡ renamed_variables g vs
  variables-agree [] p = refl
  variables-agree (v ∷ vs) p = ap (λ s. record v { store = s } ∷ renamed_variables f vs) p.0 ∙ ap (λ ws. record v { store = g v.store } ∷ ws) (variables-agree vs p.1)

  pub properties-agree : (ps : List Property) → Every (λ s. f s ≡ g s) (stores_of_properties ps) → renamed_properties f ps ≡ renamed_properties g ps
  properties-agree [] p = refl
  properties-agree (x ∷ ps) p = ap (λ s. record x { store = s } ∷ renamed_properties f ps) p.0 ∙ ap (λ ws. record x { store = g x.store } ∷ ws) (properties-agree ps p.1)

  pub object-agree : (o : Object) → Every (λ s. f s ≡ g s) (stores_of_object o) → renamed_object f o ≡ renamed_object g o
  object-agree o p = ap (λ ps. record o { properties = ps }) (properties-agree o.properties p)

  pub scope-agree : (x : Scope) → Every (λ s. f s ≡ g s) (stores_of_scope x) → renamed_scope f x ≡ renamed_scope g x
  scope-agree x p =
      let vs = stores_of_variables x.variables in
      let ts = stores_of_items x.temps in
      let fs = stores_of_items x.falling in
      let q : Every (λ s. f s ≡ g s) (ts ++ fs) = Every-back (λ s. f s ≡ g s) vs (ts ++ fs) p in
      ap (λ ws. record x { variables = ws; temps = renamed_items f x.temps; falling = renamed_items f x.falling }) (variables-agree x.variables (Every-front _ vs (ts ++ fs) p))
      ∙ ap (λ ws. record x { variables = renamed_variables g x.variables; temps = ws; falling = renamed_items f x.falling }) (items-agree x.temps (Every-front _ ts fs q))
      ∙ ap (λ ws. record x { variables = renamed_variables g x.variables; temps = renamed_items g x.temps; falling = ws }) (items-agree x.falling (Every-back _ ts fs q))

-- one renaming behind another

module _ (f g : ℕ → ℕ) where
  pub entries-twice : (es : List (Entry ℕ)) → map_entries g (map_entries f es) ≡ map_entries (λ s. g (f s)) es
  entries-twice [] = refl
  entries-twice (e ∷ es) = ap (λ fs. map_entry (λ s. g (f s)) e ∷ fs) (entries-twice es)

  pub content-twice : (c : Content) → renamed_content g (renamed_content f c) ≡ renamed_content (λ s. g (f s)) c
  content-twice null = refl
  content-twice (truth b) = refl
  content-twice (int i) = refl
  content-twice (text bytes) = refl
  content-twice (array t) = ap (λ es. array (record { entries = es; next_key = t.next_key; next_serial = t.next_serial })) (entries-twice t.entries)
  content-twice (object h) = refl

  pub items-twice : (is : List Item) → renamed_items g (renamed_items f is) ≡ renamed_items (λ s. g (f s)) is
  items-twice [] = refl
  items-twice (value c ∷ is) = ap (λ d. value d ∷ renamed_items g (renamed_items f is)) (content-twice c) ∙ ap (λ js. value (renamed_content (λ s. g (f s)) c) ∷ js) (items-twice is)
  items-twice (link s ∷ is) = ap (λ js. link (g (f s)) ∷ js) (items-twice is)

  pub variables-twice : (vs : List Variable) → renamed_variables g (renamed_variables f vs) ≡ renamed_variables (λ s. g (f s)) vs
  variables-twice [] = refl
  variables-twice (v ∷ vs) = ap (λ ws. record v { store = g (f v.store) } ∷ ws) (variables-twice vs)

  pub properties-twice : (ps : List Property) → renamed_properties g (renamed_properties f ps) ≡ renamed_properties (λ s. g (f s)) ps
  properties-twice [] = refl
  properties-twice (p ∷ ps) = ap (λ ws. record p { store = g (f p.store) } ∷ ws) (properties-twice ps)

  pub object-twice : (o : Object) → renamed_object g (renamed_object f o) ≡ renamed_object (λ s. g (f s)) o
  object-twice o = ap (λ ps. record o { properties = ps }) (properties-twice o.properties)

  pub scope-twice : (x : Scope) → renamed_scope g (renamed_scope f x) ≡ renamed_scope (λ s. g (f s)) x
  scope-twice x =
      ap (λ ws. record x { variables = ws; temps = renamed_items g (renamed_items f x.temps); falling = renamed_items g (renamed_items f x.falling) }) (variables-twice x.variables)
      ∙ ap (λ ws. record x { variables = renamed_variables (λ s. g (f s)) x.variables; temps = ws; falling = renamed_items g (renamed_items f x.falling) }) (items-twice x.temps)
      ∙ ap (λ ws. record x { variables = renamed_variables (λ s. g (f s)) x.variables; temps = renamed_items (λ s. g (f s)) x.temps; falling = ws }) (items-twice x.falling)

-- every number kept

pub entries-kept : (es : List (Entry ℕ)) → map_entries (λ s. s) es ≡ es
entries-kept [] = refl
entries-kept (e ∷ es) = ap (λ fs. e ∷ fs) (entries-kept es)

pub content-kept : (c : Content) → renamed_content (λ s. s) c ≡ c
content-kept null = refl
content-kept (truth b) = refl
content-kept (int i) = refl
content-kept (text bytes) = refl
content-kept (array t) = ap (λ es. array (record { entries = es; next_key = t.next_key; next_serial = t.next_serial })) (entries-kept t.entries)
content-kept (object h) = refl

pub items-kept : (is : List Item) → renamed_items (λ s. s) is ≡ is
items-kept [] = refl
items-kept (value c ∷ is) = ap (λ d. value d ∷ renamed_items (λ s. s) is) (content-kept c) ∙ ap (λ js. value c ∷ js) (items-kept is)
items-kept (link s ∷ is) = ap (λ js. link s ∷ js) (items-kept is)

pub variables-kept : (vs : List Variable) → renamed_variables (λ s. s) vs ≡ vs
variables-kept [] = refl
variables-kept (v ∷ vs) = ap (λ ws. v ∷ ws) (variables-kept vs)

pub properties-kept : (ps : List Property) → renamed_properties (λ s. s) ps ≡ ps
properties-kept [] = refl
properties-kept (p ∷ ps) = ap (λ ws. p ∷ ws) (properties-kept ps)

pub object-kept : (o : Object) → renamed_object (λ s. s) o ≡ o
object-kept o = ap (λ ps. record o { properties = ps }) (properties-kept o.properties)

pub scope-kept : (x : Scope) → renamed_scope (λ s. s) x ≡ x
scope-kept x =
    ap (λ ws. record x { variables = ws; temps = renamed_items (λ s. s) x.temps; falling = renamed_items (λ s. s) x.falling }) (variables-kept x.variables)
    ∙ ap (λ ws. record x { temps = ws; falling = renamed_items (λ s. s) x.falling }) (items-kept x.temps)
    ∙ ap (λ ws. record x { falling = ws }) (items-kept x.falling)
