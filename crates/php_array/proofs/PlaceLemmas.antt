-- Slots by their places.
use Rattle.std.proofs.Common.{◌≡◌, ◌<◌, ◌≤◌, ℕ, zero, suc, List, [], ◌∷◌, ◌++◌, length, refl, sym, ◌∙◌, ap, arith, Some, None}
use Rattle.std.specs.Prelude.{Bool, not, Option, slice_index_or, slice_set, IsSome, is_some, true, false, option_copied}
use Rattle.std.specs.Borrow.{Bor}
use Rattle.php_entries.specs.Listing.{Entry}
use Rattle.php_array.specs.Slots.{serial_of, stored_in, stored_at, serial_at, vacated, revalued, with_value_at}
use Rattle.php_array.specs.Slot.{Slot, Hole, Live}

-- where a test finds nothing, nothing is there
pub not_some : {A : Type 0} (o : Option A) → is_some o ≡ false → o ≡ None
not_some None h = refl
not_some (Some x) h = cc

not_true : (b : Bool) → not b ≡ true → b ≡ false
not_true true h = cc
not_true false h = refl

module _ {T : Type 0} where
  -- what is stored at a place is there
  pub stored-within : (i : ℕ) (ss : List (Slot T)) → IsSome (stored_at i ss) → i < length ss
  stored-within i [] h = cc
  stored-within zero (s ∷ ss) h = omega arith
  stored-within (suc i) (s ∷ ss) h = let below = stored-within i ss h in omega arith

  -- the slot at a place
  pub stored_at-get : (i : ℕ) (ss : List (Slot T)) (d : Slot T) → i < length ss → stored_at i ss ≡ stored_in (slice_index_or ss i d)
  stored_at-get i [] d h = absurd (omega arith)
  stored_at-get zero (s ∷ ss) d h = refl
  stored_at-get (suc i) (s ∷ ss) d h = stored_at-get i ss d (omega arith)

  pub serial_at-get : (i : ℕ) (ss : List (Slot T)) (d : Slot T) → i < length ss → serial_at i ss ≡ serial_of (slice_index_or ss i d)
  serial_at-get i [] d h = absurd (omega arith)
  serial_at-get zero (s ∷ ss) d h = refl
  serial_at-get (suc i) (s ∷ ss) d h = serial_at-get i ss d (omega arith)

  -- nothing is stored past the end
  pub stored_at-past : (i : ℕ) (ss : List (Slot T)) → length ss ≤ i → stored_at i ss ≡ None
  stored_at-past i [] h = refl
  stored_at-past zero (s ∷ ss) h = absurd (omega arith)
  stored_at-past (suc i) (s ∷ ss) h = stored_at-past i ss (omega arith)

  stored_at-last : (front : List (Slot T)) (last : Slot T) → stored_at (length front) (front ++ last ∷ []) ≡ stored_in last
  stored_at-last [] last = refl
  stored_at-last (s ∷ front) last = stored_at-last front last

  not_some-slot : (s : Slot T) → is_some (stored_in s) ≡ false → stored_in s ≡ None
  not_some-slot s h = not_some (stored_in s) h

  pub last-hole : (ss front : List (Slot T)) (last : Slot T) (n : ℕ) (live : Bool) → ss ≡ front ++ last ∷ [] → n ≡ length front → live ≡ is_some (stored_at n ss) → not live ≡ true → stored_in last ≡ None
  last-hole ss front last n live split n_is live_is hole =
      not_some-slot last (
      ap is_some (sym (stored_at-last front last))
      ∙ ap (λ m. is_some (stored_at m (front ++ last ∷ []))) (sym n_is)
      ∙ ap (λ (xs : List (Slot T)). is_some (stored_at n xs)) (sym split)
      ∙ sym live_is
      ∙ not_true live hole)
