-- What a caller learns from the definition of ordered entries.
use Rattle.std.proofs.Common.{◌≡◌, inl, inr, ℕ, List, [], ◌∷◌, ◌++◌, length, drop, replicate, refl, sym, ◌∙◌, ap, Some, None}
use Rattle.std.specs.Prelude.{Bool, true, false, cond, Option, option_map, find, nat_lt, pos, Result, Ok, Err, IfOk}
use Rattle.std.proofs.lemmas.Bool.{cases_Bool, lt-ltb}
use Rattle.php_value.specs.declared.key.Key.{Key}
use Rattle.php_value.specs.declared.key.Key.TheVariants.{Int}
use Rattle.php_entries.specs.Keys.{key_eq}
use Rattle.php_entries.specs.Listing.{Entry, Listing, entry_at, value_at, entry_after, is_full, is_at_limit}
use Rattle.php_entries.specs.Changes.{Grown, with_entry, with_value, without_key, value_set, entry_added, value_appended, set_value, append_value, remove_key, with_values, entries_with, map_entries, map_listing}
use Rattle.php_entries.specs.Soundness.{IsSound, DoSerialsRise}
use Rattle.php_entries.proofs.KeyLemmas.{key_eq-true, key_eq-self, key_eq-sym_false}

pub IfOk-map : {A E : Type 0} {P Q : A → Type 0} (r : Result A E) → IfOk r P → ((x : A) → P x → Q x) → IfOk r Q
IfOk-map (Ok x) p f = f x p
IfOk-map (Err e) p f = p

module _ {T : Type 0} where
  added : (b : Bool) (l m : Listing T) (k : Key) (v : T) → entry_added b l k v ≡ Grown m → m ≡ with_entry l k v
  added true l m k v is = cc
  added false l m k v is = cc

  appended : (b : Bool) (l m : Listing T) (v : T) → value_appended b l v ≡ Grown m → m ≡ with_entry l (Int (pos l.next_key)) v
  appended true l m v is = cc
  appended false l m v is = added (is_at_limit l) l m (Int (pos l.next_key)) v is

  -- the entries after a value was appended
  pub append_value-entries : (l m : Listing T) (v : T) → append_value l v ≡ Grown m → m.entries ≡ l.entries ++ record { serial = l.next_serial; key = Int (pos l.next_key); value = v } ∷ []
  unfolding append_value
  append_value-entries l m v is = ap (λ (n : Listing T). n.entries) (appended (is_full l) l m v is)

  abbrev value_in : Key → List (Entry T) → Option T
  value_in q es = option_map (λ (e : Entry T). e.value) (find (λ (e : Entry T). key_eq q e.key) es)

  in-cons : (b : Bool) (e : Entry T) (q : Key) (es : List (Entry T)) → key_eq q e.key ≡ b → value_in q (e ∷ es) ≡ cond b (Some e.value) (value_in q es)
  in-cons true e q es is = ap (λ (b : Bool). option_map (λ (x : Entry T). x.value) (cond b (Some e) (find (λ (x : Entry T). key_eq q x.key) es))) is
  in-cons false e q es is = ap (λ (b : Bool). option_map (λ (x : Entry T). x.value) (cond b (Some e) (find (λ (x : Entry T). key_eq q x.key) es))) is

  -- another value under a key
  with_value-same : (k : Key) (v : T) (es : List (Entry T)) (e : Entry T) → find (λ (x : Entry T). key_eq k x.key) es ≡ Some e → value_in k (with_value k v es) ≡ Some v
  with_value-same k v [] e is = cc
  with_value-same k v (x ∷ es) e is =
      elim (cases_Bool (key_eq k x.key)) [
        | inl same ↦
            ap (λ (b : Bool). value_in k (cond b (record x { value = v } ∷ es) (x ∷ with_value k v es))) same
            ∙ in-cons true (record x { value = v }) k es same
        | inr apart ↦
            ap (λ (b : Bool). value_in k (cond b (record x { value = v } ∷ es) (x ∷ with_value k v es))) apart
            ∙ in-cons false x k (with_value k v es) apart
            ∙ with_value-same k v es e (sym (ap (λ (b : Bool). cond b (Some x) (find (λ (y : Entry T). key_eq k y.key) es)) apart) ∙ is)
      ]

  with_value-others : (k : Key) (v : T) (q : Key) (es : List (Entry T)) → key_eq k q ≡ false → value_in q (with_value k v es) ≡ value_in q es
  with_value-others k v q [] apart = refl
  with_value-others k v q (x ∷ es) apart =
      elim (cases_Bool (key_eq k x.key)) [
        | inl same ↦ (
            let other : key_eq q x.key ≡ false = ap (key_eq q) (sym (key_eq-true k x.key same)) ∙ key_eq-sym_false k q apart in
            ap (λ (b : Bool). value_in q (cond b (record x { value = v } ∷ es) (x ∷ with_value k v es))) same
            ∙ in-cons false (record x { value = v }) q es other
            ∙ sym (in-cons false x q es other))
        | inr different ↦
            ap (λ (b : Bool). value_in q (cond b (record x { value = v } ∷ es) (x ∷ with_value k v es))) different
            ∙ in-cons (key_eq q x.key) x q (with_value k v es) refl
            ∙ ap (cond (key_eq q x.key) (Some x.value)) (with_value-others k v q es apart)
            ∙ sym (in-cons (key_eq q x.key) x q es refl)
      ]

  -- one more entry at the end
  push-same : (k : Key) (es : List (Entry T)) (e : Entry T) → e.key ≡ k → find (λ (x : Entry T). key_eq k x.key) es ≡ None → value_in k (es ++ e ∷ []) ≡ Some e.value
  push-same k [] e is none = in-cons true e k [] (ap (key_eq k) is ∙ key_eq-self k)
  push-same k (x ∷ es) e is none =
      elim (cases_Bool (key_eq k x.key)) [
        | inl same ↦ (let bad = sym (ap (λ (b : Bool). cond b (Some x) (find (λ (y : Entry T). key_eq k y.key) es)) same) ∙ none in cc)
        | inr apart ↦
            in-cons false x k (es ++ e ∷ []) apart
            ∙ push-same k es e is (sym (ap (λ (b : Bool). cond b (Some x) (find (λ (y : Entry T). key_eq k y.key) es)) apart) ∙ none)
      ]

  push-others : (q : Key) (es : List (Entry T)) (e : Entry T) → key_eq q e.key ≡ false → value_in q (es ++ e ∷ []) ≡ value_in q es
  push-others q [] e apart = in-cons false e q [] apart
  push-others q (x ∷ es) e apart =
      in-cons (key_eq q x.key) x q (es ++ e ∷ []) refl
      ∙ ap (cond (key_eq q x.key) (Some x.value)) (push-others q es e apart)
      ∙ sym (in-cons (key_eq q x.key) x q es refl)

  set-found : (o : Option (Entry T)) (l m : Listing T) (k : Key) (v : T) → entry_at l k ≡ o → value_set o l k v ≡ Grown m → (value_at m k ≡ Some v) × ((q : Key) → key_eq k q ≡ false → value_at m q ≡ value_at l q)
  set-found (Some e) l m k v found is =
      let same : record l { entries = with_value k v l.entries } ≡ m = cc in (
        ap (λ (n : Listing T). value_at n k) (sym same) ∙ with_value-same k v l.entries e found,
        λ q apart. ap (λ (n : Listing T). value_at n q) (sym same) ∙ with_value-others k v q l.entries apart,
      )
  set-found None l m k v found is =
      let same = added (is_at_limit l) l m k v is in
      let e : Entry T = record { serial = l.next_serial; key = k; value = v } in (
        ap (λ (n : Listing T). value_at n k) same ∙ push-same k l.entries e refl found,
        λ q apart. ap (λ (n : Listing T). value_at n q) same ∙ push-others q l.entries e (key_eq-sym_false k q apart),
      )

  -- the value of a key that was set, and the values of the others
  pub set_value-values : (l m : Listing T) (k : Key) (v : T) → set_value l k v ≡ Grown m → (value_at m k ≡ Some v) × ((q : Key) → key_eq k q ≡ false → value_at m q ≡ value_at l q)
  unfolding set_value
  set_value-values l m k v is = set-found (entry_at l k) l m k v refl is

  -- the first entry of all, taken out
  pub remove_key-first : (l : Listing T) (e : Entry T) → IsSound l → entry_after l 0 ≡ Some e → (remove_key l e.key).entries ≡ drop 1 l.entries
  unfolding remove_key
  remove_key-first l e sound first = by l.entries sound.serials_rise first
    where
      by : (es : List (Entry T)) → DoSerialsRise 0 es l.next_serial → find (λ (x : Entry T). nat_lt 0 x.serial) es ≡ Some e → without_key e.key es ≡ drop 1 es
      by [] rise is = cc
      by (x ∷ es) rise is =
          let here : Some x ≡ Some e = sym (ap (λ (b : Bool). cond b (Some x) (find (λ (y : Entry T). nat_lt 0 y.serial) es)) (lt-ltb 0 x.serial rise.0)) ∙ is in
          let same : x ≡ e = cc in
          ap (λ (y : Entry T). without_key y.key (x ∷ es)) (sym same)
          ∙ ap (λ (b : Bool). cond b es (x ∷ without_key x.key es)) (key_eq-self x.key)

entries_with-zeros : (es : List (Entry ℕ)) → entries_with {T = ℕ} {U = ℕ} es (replicate (length es) 0) ≡ map_entries (λ (n : ℕ). 0) es
entries_with-zeros [] = refl
entries_with-zeros (e ∷ es) = ap (λ (rest : List (Entry ℕ)). record { serial = e.serial; key = e.key; value = 0 } ∷ rest) (entries_with-zeros es)

-- zeros in place of all values
pub with_values-zeros : (l : Listing ℕ) → with_values {T = ℕ} {U = ℕ} l (replicate (length l.entries) 0) ≡ map_listing (λ (n : ℕ). 0) l
unfolding with_values
with_values-zeros l = ap (λ (es : List (Entry ℕ)). record { entries = es; next_key = l.next_key; next_serial = l.next_serial }) (entries_with-zeros l.entries)
