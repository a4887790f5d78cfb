-- A release leads from a memory in which every named store is there to such a memory: a store goes
-- only where nothing names it any more.
use Rattle.std.proofs.Common.{◌≡◌, ◌≢◌, ℕ, zero, suc, ◌+◌, ◌<◌, ◌≤◌, List, [], ◌∷◌, ◌++◌, refl, sym, ◌∙◌, ap, subst, arith, inl, inr, cond}
use Rattle.std.specs.Prelude.{Bool, true, false, ◌&&◌, not, nat_eq, Option, Some, None, is_some, unwrap_or}
use Rattle.std.proofs.lemmas.Bool.{leb-false}
use Rattle.std.proofs.lemmas.Bool.Decides.{eqb_tells}
use Rattle.php_entries.specs.Listing.{Entry}
use Rattle.php_memdef.specs.Numbered.{Numbered, numbered, with_numbered, weight_if, total}
use Rattle.php_memdef.specs.Contents.{Content, null, truth, int, text, array, object, Item, value, link, Property, Scope, Object, Mem, content_of, scope_of, object_of}
use Rattle.php_memdef.specs.Holders.{times, stores_of_entries, stores_of_content, stores_of_item, stores_of_items, stores_of_variables, stores_of_scope, stores_of_properties, stores_of_object, holders}
use Rattle.php_memdef.specs.Temporaries.{with_falling, fallen}
use Rattle.php_memdef.specs.Releases.{entry_links, property_links, Turn, goes_on, stops, link_dropped, object_removed, object_released, handle_dropped, is_held, is_object_held, item_released, first_released, turn, fall_after, fall_within, turns, fall}
use Rattle.php_memdef.specs.Sound.{Every, IsLive, IsClosed}
use Rattle.php_memdef_laws.proofs.NumberedLemmas.{numbered-with_same, numbered-with_other, all-with}
use Rattle.php_memdef_laws.proofs.Alike.Renamings.{Every-front, Every-back}
use Rattle.php_memdef_laws.proofs.Closed.Parts.{content-closed, object-closed, falling-closed, with_object-closed}
use Rattle.php_memdef_laws.proofs.Closed.Temporaries.{scope_named, items_joined, fallen_named, with_falling-closed}

-- what nothing counts isn't named

pub weight-within : {X : Type 0} (weight : X → ℕ) (xs : Numbered X) (n : ℕ) (x : X) → numbered xs n ≡ Some x → weight x ≤ total weight xs
weight-within weight [] n x e = absurd (no e)
  where
    no : None ≡ Some x → ⊥
    no e = cc
weight-within weight (y ∷ xs) zero x e = let h : weight_if weight y ≡ weight x = ap (weight_if weight) e in omega (arith, h)
weight-within weight (y ∷ xs) (suc n) x e = omega (arith, weight-within weight xs n x e)

counted : (s x : ℕ) (xs : List ℕ) (b : Bool) → nat_eq s x ≡ b → times s (x ∷ xs) ≡ cond b 1 0 + times s xs
counted s x xs b e = ap (λ c. cond c 1 0 + times s xs) e

not_named : (s : ℕ) (xs : List ℕ) → times s xs ≡ 0 → Every (λ x. x ≢ s) xs
not_named s [] h = tt
not_named s (x ∷ xs) h = elim (eqb_tells s x) [
  | inl e ↦ absurd (omega (arith, h, counted s x xs true e.0))
  | inr e ↦ ((λ d. e.1 (sym d)), not_named s xs (omega (arith, h, counted s x xs false e.0)))
]

-- nothing in the memory names the store
record IsUnnamed (m : Mem) (s : ℕ) : Type 0 where
  stores : (t : ℕ) (c : Content) → numbered m.stores t ≡ Some c → Every (λ x. x ≢ s) (stores_of_content c)
  objects : (t : ℕ) (o : Object) → numbered m.objects t ≡ Some o → Every (λ x. x ≢ s) (stores_of_object o)
  blocks : (t : ℕ) (f : Scope) → numbered m.blocks t ≡ Some f → Every (λ x. x ≢ s) (stores_of_scope f)
  statics : (t x : ℕ) → numbered m.statics t ≡ Some x → x ≢ s

unnamed : (m : Mem) (s : ℕ) → holders m s ≡ 0 → IsUnnamed m s
unfolding holders
unnamed m s h = record {
  stores = λ t c e. not_named s (stores_of_content c) (omega (arith, h, weight-within (λ c. times s (stores_of_content c)) m.stores t c e));
  objects = λ t o e. not_named s (stores_of_object o) (omega (arith, h, weight-within (λ o. times s (stores_of_object o)) m.objects t o e));
  blocks = λ t f e. not_named s (stores_of_scope f) (omega (arith, h, weight-within (λ f. times s (stores_of_scope f)) m.blocks t f e));
  statics = λ t x e. (not_named s (x ∷ []) (omega (arith, h, weight-within (λ t. times s (t ∷ [])) m.statics t x e))).0;
}

both : (P Q R : ℕ → Type 0) → ((x : ℕ) → P x → Q x → R x) → (xs : List ℕ) → Every P xs → Every Q xs → Every R xs
both P Q R f [] p q = tt
both P Q R f (x ∷ xs) p q = (f x p.0 q.0, both P Q R f xs p.1 q.1)

-- what holds of what a change puts there, and of all else, holds of all afterwards
all-with_others : {X : Type 0} (P : X → Type 0) (xs : Numbered X) (k : ℕ) (o : Option X) → ((x : X) → o ≡ Some x → P x) → ((n : ℕ) (x : X) → n ≢ k → numbered xs n ≡ Some x → P x) → (n : ℕ) (x : X) → numbered (with_numbered xs k o) n ≡ Some x → P x
all-with_others P xs k o new old n x h = elim (eqb_tells n k) [
  | inl e ↦ new x (sym (ap (numbered (with_numbered xs k o)) e.1 ∙ numbered-with_same xs k o) ∙ h)
  | inr e ↦ old n x e.1 (sym (numbered-with_other xs k n o e.1) ∙ h)
]

content_there : (P : ℕ → Type 0) (o : Option Content) → ((c : Content) → o ≡ Some c → Every P (stores_of_content c)) → Every P (stores_of_content (unwrap_or o null))
content_there P None h = tt
content_there P (Some c) h = h c refl

-- the store goes, and the items fall instead of what has fallen
abbrev gone : Mem → ℕ → ℕ → List Item → Mem
gone m b s items = with_falling (record m { stores = with_numbered m.stores s None }) b items

module _ (m : Mem) (closed : IsClosed m) (b : ℕ) (rest : List Item) (named : Every (IsLive m) (stores_of_items rest)) (s : ℕ) (free : holders (with_falling m b rest) s ≡ 0) where
  unnamed_before : IsUnnamed (with_falling m b rest) s
  unnamed_before = unnamed (with_falling m b rest) s free

  closed_before : IsClosed (with_falling m b rest)
  closed_before = with_falling-closed m closed b rest named

  still_live : (items : List Item) (x : ℕ) → IsLive m x → x ≢ s → IsLive (gone m b s items) x
  still_live items x h ne = ap is_some (numbered-with_other m.stores s x None ne) ∙ h

  all_live : (items : List Item) (xs : List ℕ) → Every (IsLive m) xs → Every (λ x. x ≢ s) xs → Every (IsLive (gone m b s items)) xs
  all_live items xs p q = both (IsLive m) (λ x. x ≢ s) (IsLive (gone m b s items)) (still_live items) xs p q

  scope_before : numbered (with_falling m b rest).blocks b ≡ Some (record (scope_of m b) { falling = rest })
  scope_before = numbered-with_same m.blocks b (Some (record (scope_of m b) { falling = rest }))

  scope_live : (items : List Item) → Every (IsLive (gone m b s items)) (stores_of_scope (record (scope_of m b) { falling = rest }))
  scope_live items = let f = record (scope_of m b) { falling = rest } in all_live items (stores_of_scope f) (closed_before.blocks b f scope_before) (unnamed_before.blocks b f scope_before)

  content_live : (items : List Item) → Every (IsLive (gone m b s items)) (stores_of_content (content_of m s))
  content_live items =
      all_live items (stores_of_content (content_of m s)) (content-closed m closed s)
      (content_there (λ x. x ≢ s) (numbered m.stores s) (λ c e. unnamed_before.stores s c e))

  pub store_gone-closed : IsClosed (gone m b s (fallen (value (content_of m s)) ++ rest))
  store_gone-closed =
      let items = fallen (value (content_of m s)) ++ rest in
      let n = gone m b s items in
      let f : Scope = record (scope_of m b) { falling = rest } in
      let vs = stores_of_variables f.variables in
      let ts = stores_of_items f.temps in
      let fs = stores_of_items rest in
      let all = scope_live items in
      let behind = Every-back (IsLive n) vs (ts ++ fs) all in
      record {
        stores = λ t c e. all-with (λ c. Every (IsLive n) (stores_of_content c)) m.stores s None (λ x d. absurd (nothing x d)) (λ i x d. all_live items (stores_of_content x) (closed.stores i x d) (unnamed_before.stores i x d)) t c e;
        objects = λ t o e. all_live items (stores_of_object o) (closed.objects t o e) (unnamed_before.objects t o e);
        blocks =
            all-with_others (λ f. Every (IsLive n) (stores_of_scope f)) m.blocks b (Some (record (scope_of m b) { falling = items }))
            (λ x d. let same : record (scope_of m b) { falling = items } ≡ x = cc in subst (λ (f : Scope). Every (IsLive n) (stores_of_scope f)) same
            (scope_named (IsLive n) (record (scope_of m b) { falling = items }) (Every-front (IsLive n) vs (ts ++ fs) all) (Every-front (IsLive n) ts fs behind)
            (items_joined (IsLive n) (fallen (value (content_of m s))) rest (fallen_named (IsLive n) (value (content_of m s)) (content_live items)) (Every-back (IsLive n) ts fs behind))))
            (λ t x ne d. let old : numbered (with_falling m b rest).blocks t ≡ Some x = numbered-with_other m.blocks b t (Some f) ne ∙ d in all_live items (stores_of_scope x) (closed.blocks t x d) (unnamed_before.blocks t x old));
        statics = λ t x e. still_live items x (closed.statics t x e) (unnamed_before.statics t x e);
      }
    where
      nothing : (x : Content) → None ≡ Some x → ⊥
      nothing x d = cc

-- each turn

entry_links_named : (P : ℕ → Type 0) (es : List (Entry ℕ)) → Every P (stores_of_entries es) → Every P (stores_of_items (entry_links es))
entry_links_named P [] h = tt
entry_links_named P (e ∷ es) h = (h.0, entry_links_named P es h.1)

property_links_named : (P : ℕ → Type 0) (ps : List Property) → Every P (stores_of_properties ps) → Every P (stores_of_items (property_links ps))
property_links_named P [] h = tt
property_links_named P (p ∷ ps) h = (h.0, property_links_named P ps h.1)

abbrev TurnClosed : Turn → Type 0
TurnClosed (goes_on m) = IsClosed m
TurnClosed (stops m answer) = IsClosed m

module _ (m : Mem) (closed : IsClosed m) (b : ℕ) (rest : List Item) (named : Every (IsLive m) (stores_of_items rest)) where
  link_dropped-closed : (held : Bool) (s : ℕ) → is_held (with_falling m b rest) s ≡ held → IsClosed (link_dropped held m b rest s)
  link_dropped-closed true s e = with_falling-closed m closed b rest named
  link_dropped-closed false s e = store_gone-closed m closed b rest named s (let few : holders (with_falling m b rest) s < 1 = leb-false 1 (holders (with_falling m b rest) s) e in omega (arith, few))

  object_gone-closed : (h : ℕ) (o : Object) → Every (IsLive m) (stores_of_object o) → IsClosed (with_falling (record m { objects = with_numbered m.objects h None }) b (property_links o.properties ++ rest))
  object_gone-closed h o k =
      let n : Mem = record m { objects = with_numbered m.objects h None } in
      let p : IsClosed n = record {
        stores = closed.stores;
        objects = all-with (λ o. Every (IsLive m) (stores_of_object o)) m.objects h None (λ x d. absurd (nothing x d)) closed.objects;
        blocks = closed.blocks;
        statics = closed.statics;
      } in
      with_falling-closed n p b (property_links o.properties ++ rest) (items_joined (IsLive n) (property_links o.properties) rest (property_links_named (IsLive n) o.properties k) named)
    where
      nothing : (x : Object) → None ≡ Some x → ⊥
      nothing x d = cc

  object_removed-closed : (f : Option ℕ) (o : Object) → Every (IsLive m) (stores_of_object o) → (h : ℕ) → TurnClosed (object_removed f o m b rest h)
  object_removed-closed (Some f) o k h = with_object-closed m closed h (record o { frame = None }) k
  object_removed-closed None o k h = object_gone-closed h o k

  object_released-closed : (due : Bool) (o : Object) → Every (IsLive m) (stores_of_object o) → (h : ℕ) → TurnClosed (object_released due o m b rest h)
  object_released-closed true o k h = with_object-closed m closed h (record o { spent = true }) k
  object_released-closed false o k h = object_removed-closed o.frame o k h

  handle_dropped-closed : (held : Bool) (o : Object) → Every (IsLive m) (stores_of_object o) → (h : ℕ) → TurnClosed (handle_dropped held o m b rest h)
  handle_dropped-closed true o k h = with_falling-closed m closed b rest named
  handle_dropped-closed false o k h = object_released-closed (o.finishing && not o.spent) o k h

  item_released-closed : (i : Item) → Every (IsLive m) (stores_of_item i) → TurnClosed (item_released i m b rest)
  item_released-closed (link s) k = link_dropped-closed (is_held (with_falling m b rest) s) s refl
  item_released-closed (value null) k = with_falling-closed m closed b rest named
  item_released-closed (value (truth x)) k = with_falling-closed m closed b rest named
  item_released-closed (value (int i)) k = with_falling-closed m closed b rest named
  item_released-closed (value (text bytes)) k = with_falling-closed m closed b rest named
  item_released-closed (value (array t)) k = with_falling-closed m closed b (entry_links t.entries ++ rest) (items_joined (IsLive m) (entry_links t.entries) rest (entry_links_named (IsLive m) t.entries k) named)
  item_released-closed (value (object h)) k = handle_dropped-closed (is_object_held (with_falling m b rest) h) (object_of m h) (object-closed m closed h) h

first_released-closed : (m : Mem) → IsClosed m → (b : ℕ) (is : List Item) → Every (IsLive m) (stores_of_items is) → TurnClosed (first_released is m b)
first_released-closed m closed b [] h = closed
first_released-closed m closed b (i ∷ rest) h = item_released-closed m closed b rest (Every-back (IsLive m) (stores_of_item i) (stores_of_items rest) h) i (Every-front (IsLive m) (stores_of_item i) (stores_of_items rest) h)

turn-closed : (m : Mem) → IsClosed m → (b : ℕ) → TurnClosed (turn m b)
turn-closed m closed b = first_released-closed m closed b (scope_of m b).falling (falling-closed m closed b)

fall_within-closed : (k : ℕ) (m : Mem) → IsClosed m → (b : ℕ) → IsClosed (fall_within k m b).0
fall_within-closed zero m closed b = closed
fall_within-closed (suc k) m closed b = after (turn m b) (turn-closed m closed b) (λ n c. fall_within-closed k n c b)
  where
    after : (t : Turn) → TurnClosed t → ((n : Mem) → IsClosed n → IsClosed (fall_within k n b).0) → IsClosed (fall_after t (λ n. fall_within k n b)).0
    after (goes_on n) c go_on = go_on n c
    after (stops n answer) c go_on = c

pub fall-closed : (m : Mem) → IsClosed m → (b : ℕ) → IsClosed (fall m b).0
unfolding fall
fall-closed m closed b = fall_within-closed (suc (turns m b)) m closed b
