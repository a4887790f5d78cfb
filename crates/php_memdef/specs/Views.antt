-- What a memory shows without being changed.
use Rattle.std.specs.Prelude.{◌≡◌, ℕ, suc, ◌+◌, Bool, true, false, List, [], ◌∷◌, length, Option, Some, None, option_map}
use Rattle.php_value.specs.declared.key.Key.{Key}
use Rattle.php_entries.specs.Listing.{Entry, Listing, count_of, entry_after}
use Rattle.php_memdef.specs.declared.place.Step.{Step}
use Rattle.php_memdef.specs.declared.place.Place.{Place}
use Rattle.php_memdef.specs.declared.answer.Peek.{Peek}
use Rattle.php_memdef.specs.declared.answer.Peek.TheVariants.{Absent, Null, Bool as Truth, Int, Str, Arr, Obj}
use Rattle.php_memdef.specs.Contents.{Content, null, truth, int, text, array, object, Item, value, link, Mem, scope_of}
use Rattle.php_memdef.specs.Holders.{is_shared}
use Rattle.php_memdef.specs.Places.{Spot, stored, standing, nth_item, content_at, elements_of, next_spot, base_spot, find_place}

abbrev pub content_if_found : Mem → Option Spot → Option Content
content_if_found m None = None
content_if_found m (Some spot) = Some (content_at m spot)

-- what a place holds, where it isn't missing
abbrev pub found : Mem → Place → Option Content
found m p = content_if_found m (find_place m p)

-- the look shows what was found
abbrev pub Shows : Peek → Option Content → Type 0
Shows Absent o = o ≡ None
Shows Null o = o ≡ Some null
Shows (Truth b) o = o ≡ Some (truth b)
Shows (Int i) o = o ≡ Some (int i)
Shows (Str t) o = o ≡ Some (text t.now)
Shows (Arr n) o = (t : Listing ℕ) × (o ≡ Some (array t)) × (n ≡ count_of t)
Shows (Obj h) o = o ≡ Some (object h.0)

abbrev pub elements_if_found : Option Content → Option (Listing ℕ)
elements_if_found None = None
elements_if_found (Some c) = elements_of c

abbrev pub entry_if_later : Option (Listing ℕ) → ℕ → Option (ℕ × Key)
entry_if_later None serial = None
entry_if_later (Some t) serial = option_map (λ (e : Entry ℕ). (e.serial, e.key)) (entry_after t serial)

-- serial and key of the first entry with a greater serial in the array at a place
abbrev pub later_entry : Mem → Place → ℕ → Option (ℕ × Key)
later_entry m p serial = entry_if_later (elements_if_found (found m p)) serial

abbrev pub is_spot_shared : Mem → Option Spot → Bool
is_spot_shared m None = false
is_spot_shared m (Some (stored s)) = is_shared m s
is_spot_shared m (Some (standing b n)) = false

-- the place has a store that something else points to as well
abbrev pub is_aliased : Mem → Place → Bool
is_aliased m p = is_spot_shared m (find_place m p)

abbrev pub temps_count : Mem → ℕ → ℕ
temps_count m b = length (scope_of m b).temps

abbrev pub is_link_item : Option Item → Bool
is_link_item None = false
is_link_item (Some (value c)) = false
is_link_item (Some (link s)) = true

-- the n-th temporary is there and is a link
abbrev pub is_link : Mem → ℕ → ℕ → Bool
is_link m b n = is_link_item (nth_item (scope_of m b).temps n)

-- how far a path leads

abbrev pub counted_if : Option Spot → ℕ → ℕ
counted_if None n = 0
counted_if (Some spot) n = suc n

-- how many steps of a path lead somewhere
abbrev pub steps_along : Mem → Option Spot → List Step → ℕ
steps_along m spot [] = 0
steps_along m spot (step ∷ path) = counted_if (next_spot m spot step) (steps_along m (next_spot m spot step) path)

abbrev pub spot_or : Option Spot → Option Spot → Option Spot
spot_or None before = before
spot_or (Some spot) before = Some spot

-- where the last of them leads
abbrev pub end_along : Mem → Option Spot → List Step → Option Spot
end_along m spot [] = spot
end_along m spot (step ∷ path) = spot_or (end_along m (next_spot m spot step) path) spot

-- how many steps lead somewhere from a place's base, and what stands where they end; nothing does
-- where the base is missing

abbrev pub steps_met : Mem → Place → ℕ
steps_met m p = steps_along m (base_spot m p.base) p.path

abbrev pub end_met : Mem → Place → Option Content
end_met m p = content_if_found m (end_along m (base_spot m p.base) p.path)

-- what a write along a path costs at most: its steps, and the entries of the arrays that it meets

abbrev pub count_if : Option (Listing ℕ) → ℕ
count_if None = 0
count_if (Some t) = count_of t

abbrev pub cost_along : Mem → Option Spot → List Step → ℕ
cost_along m spot [] = 0
cost_along m spot (step ∷ path) = 1 + (count_if (elements_if_found (content_if_found m spot)) + cost_along m (next_spot m spot step) path)

abbrev pub cost_of : Mem → Place → ℕ
cost_of m p = cost_along m (base_spot m p.base) p.path
