-- The operations on blocks and temporaries keep what is there held.
use Rattle.std.proofs.Common.{◌≡◌, ℕ, ◌+◌, List, [], ◌∷◌, refl, sym, ap, subst, arith, inl, inr, cond}
use Rattle.std.specs.Prelude.{None, unwrap_or}
use Rattle.std.proofs.lemmas.Bool.Decides.{eqb_tells}
use Rattle.php_value.specs.declared.scalar.Scalar.{Scalar}
use Rattle.php_value.specs.declared.scalar.Scalar.TheVariants as scalar
use Rattle.php_entries.specs.Listing.{no_entries}
use Rattle.php_memdef.specs.Numbered.{numbered}
use Rattle.php_memdef.specs.Contents.{text, array, object, Item, value, Scope, Mem, no_scope, scope_of}
use Rattle.php_memdef.specs.Holders.{times, stores_of_content, stores_of_item, stores_of_scope, handles_of_content, handles_of_scope}
use Rattle.php_memdef.specs.Places.{with_scope}
use Rattle.php_memdef.specs.Temporaries.{content_of_scalar, pushed, popped, top, with_top, turn, reserve, let_fall, enter, push, push_array, push_object, pass, drop_top}
use Rattle.php_memdef.specs.Sound.{IsLive, IsHeld}
use Rattle.php_memdef.specs.Conditions.{IsObject}
use Rattle.php_memdef_laws.proofs.Held.Parts.{held_after, same_there, handles_of_item, holders-with_scope, handles-with_scope, holders-with_top, handles-with_top, holders-turned, handles-turned, holders-pushed, handles-pushed, holders-popped, handles-popped, holders-let_fall, handles-let_fall}

scalar_names : (s : ℕ) (v : Scalar) → times s (stores_of_content (content_of_scalar v)) ≡ 0
scalar_names s scalar.Null = refl
scalar_names s (scalar.Bool b) = refl
scalar_names s (scalar.Int i) = refl
scalar_names s (scalar.Str bytes) = refl

scalar_handles : (s : ℕ) (v : Scalar) → times s (handles_of_content (content_of_scalar v)) ≡ 0
scalar_handles s scalar.Null = refl
scalar_handles s (scalar.Bool b) = refl
scalar_handles s (scalar.Int i) = refl
scalar_handles s (scalar.Str bytes) = refl

module _ (m : Mem) where
  turned_stores : (b n s : ℕ) → IsLive (turn m b n) s → IsLive m s
  unfolding turn
  turned_stores b n s h = h

  turned_objects : (b n h : ℕ) → IsObject (turn m b n) h → IsObject m h
  unfolding turn
  turned_objects b n h e = e

  objects_turned : (b n h : ℕ) → IsObject m h → IsObject (turn m b n) h
  unfolding turn
  objects_turned b n h e = e

module _ (m : Mem) (held : IsHeld m) where
  pub enter-held : (b room : ℕ) → numbered m.blocks b ≡ None → IsHeld (enter m b room)
  unfolding enter
  enter-held b room free =
      let f : Scope = record no_scope { room = room } in
      let n = with_scope m b f in
      let names = λ (s : ℕ). holders-with_scope m s b f in
      let handles = λ (s : ℕ). handles-with_scope m s b f in
      let was : scope_of m b ≡ no_scope = ap (λ o. unwrap_or o no_scope) free in
      held_after m n held (same_there m n (λ s h. h) (λ s. (let e : times s (stores_of_scope (scope_of m b)) ≡ 0 = ap (λ x. times s (stores_of_scope x)) was in omega (arith, names s, e))) (λ h e. e) (λ h e. e)
      (λ h. (let e : times h (handles_of_scope (scope_of m b)) ≡ 0 = ap (λ x. times h (handles_of_scope x)) was in omega (arith, handles h, e))))

  pushed_held : (b : ℕ) (i : Item) → ((h : ℕ) → times h (handles_of_item i) ≡ 0) → IsHeld (pushed m b i)
  pushed_held b i none = held_after m (pushed m b i) held (same_there m (pushed m b i) (λ s h. h) (λ s. omega (arith, holders-pushed m s b i)) (λ h e. e) (λ h e. e) (λ h. omega (arith, handles-pushed m h b i, none h)))

  pub push-held : (b : ℕ) (v : Scalar) → IsHeld (push m b v)
  unfolding push
  push-held b v = pushed_held b (value (content_of_scalar v)) (λ h. scalar_handles h v)

  pub push_array-held : (b : ℕ) → IsHeld (push_array m b)
  unfolding push_array
  push_array-held b = pushed_held b (value (array no_entries)) (λ h. refl)

  pub push_object-held : (b h : ℕ) → IsObject m h → IsHeld (push_object m b h)
  unfolding push_object
  push_object-held b h live =
      let n = pushed m b (value (object h)) in
      held_after m n held (record {
        stores = λ s e. inl e;
        more = λ s e. omega (arith, holders-pushed m s b (value (object h)));
        objects = λ k e. inl e;
        more_handles = λ k e. omega (arith, handles-pushed m k b (value (object h)));
        handles = λ k some. elim (eqb_tells k h) [
          | inl e ↦ inr (subst (λ (j : ℕ). IsObject m j) (sym e.1) live)
          | inr e ↦ inl (let none : times k (h ∷ []) ≡ 0 = ap (λ x. cond x 1 0 + 0) e.0 in omega (arith, some, handles-pushed m k b (value (object h)), none))
        ];
        objects_stay = λ k e some. e;
      })

  pub text_on_top-held : (b : ℕ) (before bytes : List ℕ) → top m b ≡ value (text before) → IsHeld (with_top m b (value (text bytes)))
  text_on_top-held b before bytes e =
      let n = with_top m b (value (text bytes)) in
      let i : Item = value (text bytes) in
      let none : (s : ℕ) → times s (stores_of_item (top m b)) ≡ 0 = λ s. ap (λ j. times s (stores_of_item j)) e in
      let no_handle : (h : ℕ) → times h (handles_of_item (top m b)) ≡ 0 = λ h. ap (λ j. times h (handles_of_item j)) e in
      held_after m n held (same_there m n (λ s h. h) (λ s. omega (arith, holders-with_top m s b i, none s)) (λ h e. e) (λ h e. e) (λ h. omega (arith, handles-with_top m h b i, no_handle h)))

  pub turn-held : (b n : ℕ) → IsHeld (turn m b n)
  turn-held b n = held_after m (turn m b n) held (same_there m (turn m b n) (turned_stores m b n) (λ s. omega (arith, holders-turned m s b n)) (turned_objects m b n) (objects_turned m b n) (λ h. handles-turned m h b n))

  pub reserve-held : (b n : ℕ) → IsHeld (reserve m b n)
  unfolding reserve
  reserve-held b n =
      let f : Scope = record (scope_of m b) { room = (scope_of m b).room + n } in
      let k = with_scope m b f in
      held_after m k held (same_there m k (λ s h. h) (λ s. omega (arith, holders-with_scope m s b f)) (λ h e. e) (λ h e. e) (λ h. omega (arith, handles-with_scope m h b f)))

  pub pass-held : (b c : ℕ) → IsHeld (pass m b c)
  unfolding pass
  pass-held b c =
      let n = pushed (popped m b) c (top m b) in
      held_after m n held (same_there m n (λ s h. h) (λ s. omega (arith, holders-popped m s b, holders-pushed (popped m b) s c (top m b))) (λ h e. e) (λ h e. e) (λ h. omega (arith, handles-popped m h b, handles-pushed (popped m b) h c (top m b))))

  pub drop_top-held : (b : ℕ) → IsHeld (drop_top m b)
  unfolding drop_top
  drop_top-held b =
      let n = let_fall (popped m b) b (top m b) in
      held_after m n held (same_there m n (λ s h. h) (λ s. omega (arith, holders-popped m s b, holders-let_fall (popped m b) s b (top m b))) (λ h e. e) (λ h e. e) (λ h. omega (arith, handles-popped m h b, handles-let_fall (popped m b) h b (top m b))))
