-- A block whose list of what falls is changed more than once.
use Rattle.std.proofs.Common.{◌≡◌, ℕ, ◌+◌, ◌<◌, List, [], ◌∷◌, ◌++◌, refl, sym, ◌∙◌, ap, arith, inl, inr, cond}
use Rattle.std.specs.Prelude.{Bool, true, false, Some, None, unwrap_or}
use Rattle.std.proofs.lemmas.Bool.{le-leb, lt-leb}
use Rattle.std.proofs.lemmas.Bool.Decides.{eqb_tells}
use Rattle.php_memdef.specs.Numbered.{numbered, with_numbered}
use Rattle.php_memdef.specs.Contents.{Item, value, object, Object, Scope, Mem, no_scope, content_of, scope_of, object_of}
use Rattle.php_memdef.specs.Holders.{times, stores_of_properties, stores_of_object, holders, object_holders}
use Rattle.php_memdef.specs.Places.{with_scope, with_object}
use Rattle.php_memdef.specs.Temporaries.{with_falling, fallen}
use Rattle.php_memdef.specs.Releases.{property_links, link_dropped, is_held, is_object_held}
use Rattle.php_memdef_laws.proofs.NumberedLemmas.{numbered-with_same}
use Rattle.php_memdef_laws.proofs.Held.Parts.{item_times, item_handles, items_times, items_handles, fallen_times, fallen_handles, holders-with_store, handles-with_store, holders-with_object, handles-with_object, holders-with_falling, handles-with_falling}
use Rattle.php_memdef_laws.proofs.Held.Releases.{property_links_times, property_links_handles}
use Rattle.php_memplain_cells.proofs.SlotLemmas.{with_same, with_twice}

module _ (m : Mem) (b : ℕ) where
  pub scope_again : (f : Scope) → scope_of (with_scope m b f) b ≡ f
  scope_again f = ap (λ o. unwrap_or o no_scope) (numbered-with_same m.blocks b (Some f))

  pub scope_twice : (f g : Scope) → with_scope (with_scope m b f) b g ≡ with_scope m b g
  scope_twice f g = ap (λ bs. record m { blocks = bs }) (with_twice m.blocks b (Some f) (Some g))

  pub falling_again : (xs : List Item) → scope_of (with_falling m b xs) b ≡ record (scope_of m b) { falling = xs }
  falling_again xs = scope_again (record (scope_of m b) { falling = xs })

  pub falling_twice : (xs ys : List Item) → with_falling (with_falling m b xs) b ys ≡ with_falling m b ys
  falling_twice xs ys =
      ap (λ (f : Scope). with_scope (with_falling m b xs) b (record f { falling = ys })) (falling_again xs)
      ∙ scope_twice (record (scope_of m b) { falling = xs }) (record (scope_of m b) { falling = ys })

  pub falling_same : (f : Scope) → numbered m.blocks b ≡ Some f → (xs : List Item) → (scope_of m b).falling ≡ xs → with_falling m b xs ≡ m
  falling_same f e xs h =
      ap (λ ys. with_falling m b ys) (sym h)
      ∙ ap (λ (g : Scope). with_scope m b g) (ap (λ o. unwrap_or o no_scope) e)
      ∙ ap (λ bs. record m { blocks = bs }) (with_same m.blocks b f e)

  pub link_again : (more : Bool) (rest : List Item) (s : ℕ) → link_dropped more (with_falling m b rest) b rest s ≡ link_dropped more m b rest s
  link_again true rest s = falling_twice rest rest
  link_again false rest s =
      ap (λ (n : Mem). record n { stores = with_numbered m.stores s None }) (falling_twice rest (fallen (value (content_of m s)) ++ rest))

pub held_true : (m : Mem) (s : ℕ) → 0 < holders m s → is_held m s ≡ true
held_true m s h = le-leb 1 (holders m s) h

pub held_false : (m : Mem) (s : ℕ) → holders m s ≡ 0 → is_held m s ≡ false
held_false m s h = lt-leb 1 (holders m s) (omega (arith, h))

pub object_held_true : (m : Mem) (s : ℕ) → 0 < object_holders m s → is_object_held m s ≡ true
object_held_true m s h = le-leb 1 (object_holders m s) h

pub object_held_false : (m : Mem) (s : ℕ) → object_holders m s ≡ 0 → is_object_held m s ≡ false
object_held_false m s h = lt-leb 1 (object_holders m s) (omega (arith, h))

pub times_one : (k : ℕ) → times k (k ∷ []) ≡ 1
times_one k = elim (eqb_tells k k) [
  | inl d ↦ ap (λ t. cond t 1 0 + 0) d.0
  | inr d ↦ absurd (d.1 refl)
]

-- a store that goes hands what it holds to what falls

module _ (m : Mem) (b k : ℕ) where
  pub gone_holders : (x : ℕ) → holders (link_dropped false m b (scope_of m b).falling k) x ≡ holders m x
  gone_holders x =
      let n : Mem = record m { stores = with_numbered m.stores k None } in
      let is = fallen (value (content_of m k)) ++ (scope_of m b).falling in
      omega (arith, holders-with_store m x k None, holders-with_falling n x b is, items_times x (fallen (value (content_of m k))) (scope_of m b).falling, fallen_times x (value (content_of m k)))

  pub gone_handles : (x : ℕ) → object_holders (link_dropped false m b (scope_of m b).falling k) x ≡ object_holders m x
  gone_handles x =
      let n : Mem = record m { stores = with_numbered m.stores k None } in
      let is = fallen (value (content_of m k)) ++ (scope_of m b).falling in
      omega (arith, handles-with_store m x k None, handles-with_falling n x b is, items_handles x (fallen (value (content_of m k))) (scope_of m b).falling, fallen_handles x (value (content_of m k)))

-- an object whose handle comes back in front of what falls, and which has the same properties

module _ (m : Mem) (b h : ℕ) (o : Object) (same : o.properties ≡ (object_of m h).properties) where
  abbrev pub put_back : Mem
  put_back = with_object (with_falling m b (value (object h) ∷ (scope_of m b).falling)) h o

  pub back_holders : (x : ℕ) → holders put_back x ≡ holders m x
  back_holders x =
      let n = with_falling m b (value (object h) ∷ (scope_of m b).falling) in
      let e : times x (stores_of_object o) ≡ times x (stores_of_object (object_of m h)) = ap (λ ps. times x (stores_of_properties ps)) same in
      omega (arith, e, holders-with_object n x h (Some o), holders-with_falling m x b (value (object h) ∷ (scope_of m b).falling), item_times x (value (object h)) (scope_of m b).falling)

  pub back_handles : (x : ℕ) → object_holders put_back x ≡ object_holders m x + times x (h ∷ [])
  back_handles x =
      omega (arith, handles-with_object (with_falling m b (value (object h) ∷ (scope_of m b).falling)) x h (Some o), handles-with_falling m x b (value (object h) ∷ (scope_of m b).falling), item_handles x (value (object h)) (scope_of m b).falling)

-- an object that goes hands its properties to what falls

module _ (m : Mem) (b h : ℕ) where
  abbrev pub without_it : Mem
  without_it = with_falling (record m { objects = with_numbered m.objects h None }) b (property_links (object_of m h).properties ++ (scope_of m b).falling)

  pub without_holders : (x : ℕ) → holders without_it x ≡ holders m x
  without_holders x =
      let n : Mem = record m { objects = with_numbered m.objects h None } in
      let ps = (object_of m h).properties in
      let is = property_links ps ++ (scope_of m b).falling in
      omega (arith, holders-with_object m x h None, holders-with_falling n x b is, items_times x (property_links ps) (scope_of m b).falling, property_links_times x ps)

  pub without_handles : (x : ℕ) → object_holders without_it x ≡ object_holders m x
  without_handles x =
      let n : Mem = record m { objects = with_numbered m.objects h None } in
      let ps = (object_of m h).properties in
      let is = property_links ps ++ (scope_of m b).falling in
      omega (arith, handles-with_object m x h None, handles-with_falling n x b is, items_handles x (property_links ps) (scope_of m b).falling, property_links_handles x ps)
