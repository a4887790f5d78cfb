-- The operations lead from memories in which every named store is there to such memories.
use Rattle.std.proofs.Common.{◌≡◌, ℕ, zero, suc, ◌+◌, List, [], ◌∷◌, ◌++◌, refl, sym, subst}
use Rattle.std.specs.Prelude.{Option, Some, None}
use Rattle.php_value.specs.declared.scalar.Scalar.{Scalar}
use Rattle.php_value.specs.declared.scalar.Scalar.TheVariants as scalar
use Rattle.php_entries.specs.Listing.{no_entries}
use Rattle.php_memdef.specs.declared.place.Place.{Place}
use Rattle.php_memdef.specs.Contents.{Content, null, truth, int, text, array, object, Item, value, link, Variable, Scope, Mem, no_scope, content_of, scope_of}
use Rattle.php_memdef.specs.Holders.{stores_of_content, stores_of_item, stores_of_items, stores_of_variables, stores_of_scope}
use Rattle.php_memdef.specs.Copies.{Copy, copied}
use Rattle.php_memdef.specs.Places.{Spot, content_at, with_scope, find_place}
use Rattle.php_memdef.specs.Temporaries.{content_of_scalar, with_temps, with_falling, pushed, rest_of, popped, top_of, top, with_top, turned, turn, reserve, fallen, let_fall, enter, leave, push, push_array, push_object, pass, drop_top, pushed_copy, copy_of_spot, copy, settled, settle}
use Rattle.php_memdef.specs.Sound.{Every, IsLive, IsClosed}
use Rattle.php_memdef_laws.proofs.NumberedLemmas.{all-with}
use Rattle.php_memdef_laws.proofs.Alike.Renamings.{Every-append, Every-front, Every-back}
use Rattle.php_memdef_laws.proofs.Alike.Memories.{Alike-refl}
use Rattle.php_memdef_laws.proofs.Closed.Parts.{content-closed, variables-closed, temps-closed, falling-closed, content_at-closed, with_scope-closed}
use Rattle.php_memdef_laws.proofs.Alike.Copies.{copiers-alike, start_of_making}
use Rattle.php_memdef_laws.proofs.Alike.Walks.{top_link-live}

pub scope_named : (P : ℕ → Type 0) (f : Scope) → Every P (stores_of_variables f.variables) → Every P (stores_of_items f.temps) → Every P (stores_of_items f.falling) → Every P (stores_of_scope f)
scope_named P f vs ts fs = Every-append P (stores_of_variables f.variables) (stores_of_items f.temps ++ stores_of_items f.falling) vs (Every-append P (stores_of_items f.temps) (stores_of_items f.falling) ts fs)

pub items_joined : (P : ℕ → Type 0) (is js : List Item) → Every P (stores_of_items is) → Every P (stores_of_items js) → Every P (stores_of_items (is ++ js))
items_joined P [] js h k = k
items_joined P (i ∷ is) js h k = Every-append P (stores_of_item i) (stores_of_items (is ++ js)) (Every-front P (stores_of_item i) (stores_of_items is) h) (items_joined P is js (Every-back P (stores_of_item i) (stores_of_items is) h) k)

one_item : (P : ℕ → Type 0) (i : Item) → Every P (stores_of_item i) → Every P (stores_of_items (i ∷ []))
one_item P i h = Every-append P (stores_of_item i) [] h tt

pub fallen_named : (P : ℕ → Type 0) (i : Item) → Every P (stores_of_item i) → Every P (stores_of_items (fallen i))
fallen_named P (link s) h = h
fallen_named P (value null) h = tt
fallen_named P (value (truth b)) h = tt
fallen_named P (value (int i)) h = tt
fallen_named P (value (text bytes)) h = tt
fallen_named P (value (array t)) h = one_item P (value (array t)) h
fallen_named P (value (object k)) h = tt

rest_named : (P : ℕ → Type 0) (is : List Item) → Every P (stores_of_items is) → Every P (stores_of_items (rest_of is))
rest_named P [] h = tt
rest_named P (i ∷ is) h = Every-back P (stores_of_item i) (stores_of_items is) h

turned_named : (P : ℕ → Type 0) (n : ℕ) (is before : List Item) → Every P (stores_of_items is) → Every P (stores_of_items before) → Every P (stores_of_items (turned n is before))
turned_named P zero is before h k = items_joined P before is k h
turned_named P (suc n) [] before h k = k
turned_named P (suc n) (i ∷ is) before h k = turned_named P n is (i ∷ before) (Every-back P (stores_of_item i) (stores_of_items is) h) (Every-append P (stores_of_item i) (stores_of_items before) (Every-front P (stores_of_item i) (stores_of_items is) h) k)

top_named : (P : ℕ → Type 0) (is : List Item) → Every P (stores_of_items is) → Every P (stores_of_item (top_of is))
top_named P [] h = tt
top_named P (i ∷ is) h = Every-front P (stores_of_item i) (stores_of_items is) h

module _ (m : Mem) (closed : IsClosed m) where
  pub with_temps-closed : (b : ℕ) (is : List Item) → Every (IsLive m) (stores_of_items is) → IsClosed (with_temps m b is)
  with_temps-closed b is h = with_scope-closed m closed b (record (scope_of m b) { temps = is }) (scope_named (IsLive m) (record (scope_of m b) { temps = is }) (variables-closed m closed b) h (falling-closed m closed b))

  pub with_falling-closed : (b : ℕ) (is : List Item) → Every (IsLive m) (stores_of_items is) → IsClosed (with_falling m b is)
  with_falling-closed b is h = with_scope-closed m closed b (record (scope_of m b) { falling = is }) (scope_named (IsLive m) (record (scope_of m b) { falling = is }) (variables-closed m closed b) (temps-closed m closed b) h)

  pub with_variables-closed : (b : ℕ) (vs : List Variable) → Every (IsLive m) (stores_of_variables vs) → IsClosed (with_scope m b (record (scope_of m b) { variables = vs }))
  with_variables-closed b vs h = with_scope-closed m closed b (record (scope_of m b) { variables = vs }) (scope_named (IsLive m) (record (scope_of m b) { variables = vs }) h (temps-closed m closed b) (falling-closed m closed b))

  pub pushed-closed : (b : ℕ) (i : Item) → Every (IsLive m) (stores_of_item i) → IsClosed (pushed m b i)
  pushed-closed b i h = with_temps-closed b (i ∷ (scope_of m b).temps) (Every-append (IsLive m) (stores_of_item i) (stores_of_items (scope_of m b).temps) h (temps-closed m closed b))

  pub popped-closed : (b : ℕ) → IsClosed (popped m b)
  popped-closed b = with_temps-closed b (rest_of (scope_of m b).temps) (rest_named (IsLive m) (scope_of m b).temps (temps-closed m closed b))

  pub top-live : (b : ℕ) → Every (IsLive m) (stores_of_item (top m b))
  top-live b = top_named (IsLive m) (scope_of m b).temps (temps-closed m closed b)

  pub let_fall-closed : (b : ℕ) (i : Item) → Every (IsLive m) (stores_of_item i) → IsClosed (let_fall m b i)
  let_fall-closed b i h = with_falling-closed b ((scope_of m b).falling ++ fallen i) (items_joined (IsLive m) (scope_of m b).falling (fallen i) (falling-closed m closed b) (fallen_named (IsLive m) i h))

scalar_names : (v : Scalar) → stores_of_content (content_of_scalar v) ≡ []
scalar_names scalar.Null = refl
scalar_names (scalar.Bool b) = refl
scalar_names (scalar.Int i) = refl
scalar_names (scalar.Str bytes) = refl

module _ (m : Mem) (closed : IsClosed m) where
  pub enter-closed : (b room : ℕ) → IsClosed (enter m b room)
  unfolding enter
  enter-closed b room = with_scope-closed m closed b (record no_scope { room = room }) tt

  pub leave-closed : (b : ℕ) → IsClosed (leave m b)
  unfolding leave
  leave-closed b = record {
    stores = closed.stores;
    objects = closed.objects;
    blocks = all-with (λ f. Every (IsLive m) (stores_of_scope f)) m.blocks b None (λ x e. absurd (nothing x e)) closed.blocks;
    statics = closed.statics;
  }
    where
      nothing : (x : Scope) → None ≡ Some x → ⊥
      nothing x e = cc

  pub push-closed : (b : ℕ) (v : Scalar) → IsClosed (push m b v)
  unfolding push
  push-closed b v = pushed-closed m closed b (value (content_of_scalar v)) (subst (λ (xs : List ℕ). Every (IsLive m) xs) (sym (scalar_names v)) tt)

  pub push_array-closed : (b : ℕ) → IsClosed (push_array m b)
  unfolding push_array
  push_array-closed b = pushed-closed m closed b (value (array no_entries)) tt

  pub push_object-closed : (b h : ℕ) → IsClosed (push_object m b h)
  unfolding push_object
  push_object-closed b h = pushed-closed m closed b (value (object h)) tt

  pub text_on_top-closed : (b : ℕ) (bytes : List ℕ) → IsClosed (with_top m b (value (text bytes)))
  text_on_top-closed b bytes = with_temps-closed m closed b (value (text bytes) ∷ rest_of (scope_of m b).temps) (rest_named (IsLive m) (scope_of m b).temps (temps-closed m closed b))

  pub turn-closed : (b n : ℕ) → IsClosed (turn m b n)
  unfolding turn
  turn-closed b n = with_temps-closed m closed b (turned n (scope_of m b).temps []) (turned_named (IsLive m) n (scope_of m b).temps [] (temps-closed m closed b) tt)

  pub reserve-closed : (b n : ℕ) → IsClosed (reserve m b n)
  unfolding reserve
  reserve-closed b n = with_scope-closed m closed b (record (scope_of m b) { room = (scope_of m b).room + n }) (scope_named (IsLive m) (record (scope_of m b) { room = (scope_of m b).room + n }) (variables-closed m closed b) (temps-closed m closed b) (falling-closed m closed b))

  pub pass-closed : (b c : ℕ) → IsClosed (pass m b c)
  unfolding pass
  pass-closed b c = pushed-closed (popped m b) (popped-closed m closed b) c (top m b) (top-live m closed b)

  pub drop_top-closed : (b : ℕ) → IsClosed (drop_top m b)
  unfolding drop_top
  drop_top-closed b = let_fall-closed (popped m b) (popped-closed m closed b) b (top m b) (top-live m closed b)

-- a copy of a content that names what is there

pub record CopyClosed (m : Mem) (c : Copy Content) : Type 0 where
  pub closed : IsClosed (record m { stores = c.stores })
  pub live : (s : ℕ) → IsLive m s → IsLive (record m { stores = c.stores }) s
  pub named : Every (IsLive (record m { stores = c.stores })) (stores_of_content c.made)

module _ (m : Mem) (closed : IsClosed m) where
  pub copied-closed : (c : Content) → Every (IsLive m) (stores_of_content c) → CopyClosed m (copied m c)
  unfolding copied
  copied-closed c h =
      let a = Alike-refl m in
      let p = copiers-alike a.to m m a.back a.renamed closed m.stores m.stores (start_of_making a.to m m a.back a.renamed closed) c h in
      record { closed = p.on.making.closed; live = p.on.making.extends.live; named = p.live }

  pub pushed_copy-closed : (b : ℕ) (c : Content) → Every (IsLive m) (stores_of_content c) → IsClosed (pushed_copy m b c)
  pushed_copy-closed b c h = let p = copied-closed c h in pushed-closed (record m { stores = (copied m c).stores }) p.closed b (value (copied m c).made) p.named

  copy_of_spot-closed : (o : Option Spot) (b : ℕ) → IsClosed (copy_of_spot o m b).0
  copy_of_spot-closed None b = closed
  copy_of_spot-closed (Some spot) b = pushed_copy-closed b (content_at m spot) (content_at-closed m closed spot)

  pub copy-closed : (b : ℕ) (p : Place) → IsClosed (copy m b p).0
  unfolding copy
  copy-closed b p = copy_of_spot-closed (find_place m p) b

  settled-closed : (i : Item) → ((s : ℕ) → i ≡ link s → IsLive m s) → (b : ℕ) → IsClosed (settled i m b)
  settled-closed (value c) h b = closed
  settled-closed (link s) h b =
      let x = copied m (content_of m s) in
      let p = copied-closed (content_of m s) (content-closed m closed s) in
      let m' : Mem = record m { stores = x.stores } in
      let q = popped-closed m' p.closed b in
      let_fall-closed (pushed (popped m' b) b (value x.made)) (pushed-closed (popped m' b) q b (value x.made) p.named) b (link s) (p.live s (h s refl), tt)

  pub settle-closed : (b : ℕ) → IsClosed (settle m b)
  unfolding settle
  settle-closed b = settled-closed (top m b) (top_link-live m m closed (Alike-refl m) b) b
