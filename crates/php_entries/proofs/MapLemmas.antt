-- A change of mapped values is the change of the values, mapped.
use Rattle.std.proofs.Common.{◌≡◌, ℕ, suc, ◌+◌, List, [], ◌∷◌, ◌++◌, length, refl, sym, ◌∙◌, ap, Some, None}
use Rattle.std.specs.Prelude.{Bool, true, false, cond, ◌||◌, Option, option_map, find, nat_lt, nat_le, pos}
use Rattle.php_value.specs.declared.key.Key.{Key}
use Rattle.php_value.specs.declared.key.Key.TheVariants.{Int}
use Rattle.php_entries.specs.Keys.{key_eq, next_key_above, next_key_without}
use Rattle.php_entries.specs.Listing.{Entry, Listing, entry_at, entry_after, last_of, is_full, is_at_limit, ENTRY_LIMIT, SERIAL_LIMIT}
use Rattle.php_entries.specs.Changes.{Grown, with_entry, with_value, without_key, without_last, value_set, entry_added, value_appended, set_value, append_value, remove_key, popped, pop_entry, map_entry, map_entries, map_listing, map_growth}

module _ {T U : Type 0} (f : T → U) where
  find-map_entries : (p : ℕ → Key → Bool) (es : List (Entry T)) → find (λ e. p e.serial e.key) (map_entries f es) ≡ option_map (map_entry f) (find (λ e. p e.serial e.key) es)
  find-map_entries p [] = refl
  find-map_entries p (e ∷ es) =
      elim (p e.serial e.key) as (λ b. cond b (Some (map_entry f e)) (find (λ x. p x.serial x.key) (map_entries f es)) ≡ option_map (map_entry f) (cond b (Some e) (find (λ x. p x.serial x.key) es))) [
        | true ↦ refl
        | false ↦ find-map_entries p es
      ]

  pub entry_at-map : (l : Listing T) (k : Key) → entry_at (map_listing f l) k ≡ option_map (map_entry f) (entry_at l k)
  entry_at-map l k = find-map_entries (λ serial key. key_eq k key) l.entries

  pub entry_after-map : (l : Listing T) (serial : ℕ) → entry_after (map_listing f l) serial ≡ option_map (map_entry f) (entry_after l serial)
  entry_after-map l serial = find-map_entries (λ n key. nat_lt serial n) l.entries

  length-map_entries : (es : List (Entry T)) → length (map_entries f es) ≡ length es
  length-map_entries [] = refl
  length-map_entries (e ∷ es) = ap (λ n. suc n) (length-map_entries es)

  map_entries-append : (xs ys : List (Entry T)) → map_entries f (xs ++ ys) ≡ map_entries f xs ++ map_entries f ys
  map_entries-append [] ys = refl
  map_entries-append (x ∷ xs) ys = ap (λ (rest : List (Entry U)). map_entry f x ∷ rest) (map_entries-append xs ys)

  map_entries-with_value : (k : Key) (v : T) (es : List (Entry T)) → map_entries f (with_value k v es) ≡ with_value k (f v) (map_entries f es)
  map_entries-with_value k v [] = refl
  map_entries-with_value k v (e ∷ es) =
      elim (key_eq k e.key) as (λ b. map_entries f (cond b (record e { value = v } ∷ es) (e ∷ with_value k v es)) ≡ cond b (record (map_entry f e) { value = f v } ∷ map_entries f es) (map_entry f e ∷ with_value k (f v) (map_entries f es))) [
        | true ↦ refl
        | false ↦ ap (λ (rest : List (Entry U)). map_entry f e ∷ rest) (map_entries-with_value k v es)
      ]

  map_entries-without_key : (k : Key) (es : List (Entry T)) → map_entries f (without_key k es) ≡ without_key k (map_entries f es)
  map_entries-without_key k [] = refl
  map_entries-without_key k (e ∷ es) =
      elim (key_eq k e.key) as (λ b. map_entries f (cond b es (e ∷ without_key k es)) ≡ cond b (map_entries f es) (map_entry f e ∷ without_key k (map_entries f es))) [
        | true ↦ refl
        | false ↦ ap (λ (rest : List (Entry U)). map_entry f e ∷ rest) (map_entries-without_key k es)
      ]

  map_entries-without_last : (es : List (Entry T)) → map_entries f (without_last es) ≡ without_last (map_entries f es)
  map_entries-without_last [] = refl
  map_entries-without_last (x ∷ []) = refl
  map_entries-without_last (x ∷ y ∷ es) = ap (λ (rest : List (Entry U)). map_entry f x ∷ rest) (map_entries-without_last (y ∷ es))

  last_of-map : (es : List (Entry T)) → last_of (map_entries f es) ≡ option_map (map_entry f) (last_of es)
  last_of-map [] = refl
  last_of-map (x ∷ []) = refl
  last_of-map (x ∷ y ∷ es) = last_of-map (y ∷ es)

  is_at_limit-map : (l : Listing T) → is_at_limit (map_listing f l) ≡ is_at_limit l
  is_at_limit-map l = ap (λ n. nat_le ENTRY_LIMIT n || nat_le SERIAL_LIMIT l.next_serial) (length-map_entries l.entries)

  with_entry-map : (l : Listing T) (k : Key) (v : T) → with_entry (map_listing f l) k (f v) ≡ map_listing f (with_entry l k v)
  with_entry-map l k v =
      ap (λ (es : List (Entry U)). record { entries = es; next_key = next_key_above k l.next_key; next_serial = l.next_serial + 1 })
      (sym (map_entries-append l.entries (record { serial = l.next_serial; key = k; value = v } ∷ [])))

  entry_added-map : (b : Bool) (l : Listing T) (k : Key) (v : T) → entry_added b (map_listing f l) k (f v) ≡ map_growth f (entry_added b l k v)
  entry_added-map true l k v = refl
  entry_added-map false l k v = ap Grown (with_entry-map l k v)

  entry_added-map_limit : (l : Listing T) (k : Key) (v : T) → entry_added (is_at_limit (map_listing f l)) (map_listing f l) k (f v) ≡ map_growth f (entry_added (is_at_limit l) l k v)
  entry_added-map_limit l k v =
      ap (λ (b : Bool). entry_added b (map_listing f l) k (f v)) (is_at_limit-map l) ∙ entry_added-map (is_at_limit l) l k v

  value_set-map : (o : Option (Entry T)) (l : Listing T) (k : Key) (v : T) → value_set (option_map (map_entry f) o) (map_listing f l) k (f v) ≡ map_growth f (value_set o l k v)
  value_set-map None l k v = entry_added-map_limit l k v
  value_set-map (Some e) l k v =
      ap (λ (es : List (Entry U)). Grown (record { entries = es; next_key = l.next_key; next_serial = l.next_serial })) (sym (map_entries-with_value k v l.entries))

  pub set_value-map : (l : Listing T) (k : Key) (v : T) → set_value (map_listing f l) k (f v) ≡ map_growth f (set_value l k v)
  unfolding set_value
  set_value-map l k v =
      ap (λ (o : Option (Entry U)). value_set o (map_listing f l) k (f v)) (entry_at-map l k) ∙ value_set-map (entry_at l k) l k v

  value_appended-map : (b : Bool) (l : Listing T) (v : T) → value_appended b (map_listing f l) (f v) ≡ map_growth f (value_appended b l v)
  value_appended-map true l v = refl
  value_appended-map false l v = entry_added-map_limit l (Int (pos l.next_key)) v

  pub append_value-map : (l : Listing T) (v : T) → append_value (map_listing f l) (f v) ≡ map_growth f (append_value l v)
  unfolding append_value
  append_value-map l v = value_appended-map (is_full l) l v

  pub remove_key-map : (l : Listing T) (k : Key) → remove_key (map_listing f l) k ≡ map_listing f (remove_key l k)
  unfolding remove_key
  remove_key-map l k =
      ap (λ (es : List (Entry U)). record { entries = es; next_key = l.next_key; next_serial = l.next_serial }) (sym (map_entries-without_key k l.entries))

  popped-map : (o : Option (Entry T)) (l : Listing T) → popped (option_map (map_entry f) o) (map_listing f l) ≡ map_listing f (popped o l)
  popped-map None l = refl
  popped-map (Some e) l =
      ap (λ (es : List (Entry U)). record { entries = es; next_key = next_key_without e.key l.next_key; next_serial = l.next_serial }) (sym (map_entries-without_last l.entries))

  pub pop_entry-map : (l : Listing T) → pop_entry (map_listing f l) ≡ map_listing f (pop_entry l)
  unfolding pop_entry
  pop_entry-map l = ap (λ (o : Option (Entry U)). popped o (map_listing f l)) (last_of-map l.entries) ∙ popped-map (last_of l.entries) l
