-- Reading: alike memories give the same, and what is found is what is read.
use Rattle.std.proofs.Common.{◌≡◌, ℕ, List, [], ◌∷◌, length, refl, sym, ◌∙◌, ap}
use Rattle.std.specs.Prelude.{Option, Some, None, ℤ}
use Rattle.php_value.specs.declared.key.Key.{Key}
use Rattle.php_memdef.specs.declared.place.Step.{Step}
use Rattle.php_memdef.specs.declared.place.Step.TheVariants.{At, Push}
use Rattle.php_memdef.specs.declared.place.Place.{Place}
use Rattle.php_memdef.specs.Contents.{Content, null, truth, int, text, array, object, Mem}
use Rattle.php_memdef.specs.Places.{Spot, stored, content_at, elements_of, step_store, step_store_if, stored_if, spot_along, base_spot, find_place}
use Rattle.php_memdef.specs.Reading.{Reading, gives, throws, Manner, loud, quiet, offset_read, offset_of, byte_read, byte_at, place_of_offset, content_if, element_read, step_read, read_along, content_or_null, reading}
use Rattle.php_memdef.specs.Views.{content_if_found, found}
use Rattle.php_memdef.specs.Alike.{map_if, renamed_content, IsRenamed}
use Rattle.php_memdef_laws.specs.Readings.{renamed_reading}
use Rattle.php_memdef_laws.proofs.Alike.Memories.{content_of-renamed}
use Rattle.php_memdef_laws.proofs.Alike.Places.{renamed_spot, step_store-renamed, content_at-renamed, base_spot-renamed}

-- alike memories

module _ (to : ℕ → ℕ) where
  byte-renamed : (manner : Manner) (o : Option ℕ) → byte_read manner o ≡ renamed_reading to (byte_read manner o)
  byte-renamed manner (Some byte) = refl
  byte-renamed loud None = refl
  byte-renamed quiet None = refl

  offset-renamed : (manner : Manner) (bytes : List ℕ) (o : Option ℤ) → offset_read manner bytes o ≡ renamed_reading to (offset_read manner bytes o)
  offset-renamed loud bytes None = refl
  offset-renamed quiet bytes None = refl
  offset-renamed manner bytes (Some z) = byte-renamed manner (byte_at bytes (place_of_offset (length bytes) z))

module _ (to back : ℕ → ℕ) (m n : Mem) (r : IsRenamed to back m n) where
  content_if-renamed : (o : Option ℕ) → content_if n (map_if to o) ≡ renamed_content to (content_if m o)
  content_if-renamed None = refl
  content_if-renamed (Some s) = content_of-renamed to back m n r s

  element-renamed : (manner : Manner) (c : Content) (k : Key) → element_read manner n (renamed_content to c) k ≡ renamed_reading to (element_read manner m c k)
  element-renamed manner null k = refl
  element-renamed manner (truth b) k = refl
  element-renamed manner (int i) k = refl
  element-renamed manner (text bytes) k = offset-renamed to manner bytes (offset_of k)
  element-renamed manner (array t) k = ap (λ o. gives (content_if n o)) (step_store-renamed to t (At k)) ∙ ap gives (content_if-renamed (step_store t (At k)))
  element-renamed loud (object h) k = refl
  element-renamed quiet (object h) k = refl

  step-renamed : (manner : Manner) (x : Reading) (step : Step) → step_read manner n (renamed_reading to x) step ≡ renamed_reading to (step_read manner m x step)
  step-renamed manner (throws kind) step = refl
  step-renamed manner (gives c) Push = refl
  step-renamed manner (gives c) (At k) = element-renamed manner c k

  along-renamed : (manner : Manner) (x : Reading) (path : List Step) → read_along manner n (renamed_reading to x) path ≡ renamed_reading to (read_along manner m x path)
  along-renamed manner x [] = refl
  along-renamed manner x (step ∷ path) = ap (λ y. read_along manner n y path) (step-renamed manner x step) ∙ along-renamed manner (step_read manner m x step) path

  first-renamed : (o : Option Spot) → content_or_null (content_if_found n (map_if (renamed_spot to) o)) ≡ renamed_content to (content_or_null (content_if_found m o))
  first-renamed None = refl
  first-renamed (Some spot) = content_at-renamed to back m n r spot

  pub reading-renamed : (manner : Manner) (p : Place) → reading manner n p ≡ renamed_reading to (reading manner m p)
  unfolding reading
  reading-renamed manner p =
      ap (λ o. read_along manner n (gives (content_or_null (content_if_found n o))) p.path) (base_spot-renamed to back m n r p.base)
      ∙ ap (λ c. read_along manner n (gives c) p.path) (first-renamed (base_spot m p.base))
      ∙ along-renamed manner (gives (content_or_null (content_if_found m (base_spot m p.base)))) p.path

-- what is found

module _ (manner : Manner) (m : Mem) where
  nothing_along : (path : List Step) → spot_along m None path ≡ None
  nothing_along [] = refl
  nothing_along (step ∷ path) = nothing_along path

  nothing_found : (path : List Step) (c : Content) → content_if_found m (spot_along m None path) ≡ Some c → ⊥
  nothing_found path c e = no (sym (ap (content_if_found m) (nothing_along path)) ∙ e)
    where
      no : None ≡ Some c → ⊥
      no e = cc

  same_content : (x c : Content) → Some x ≡ Some c → x ≡ c
  same_content x c e = cc

  along-found : (path : List Step) (spot : Spot) (c : Content) → content_if_found m (spot_along m (Some spot) path) ≡ Some c → read_along manner m (gives (content_at m spot)) path ≡ gives c
  along-found [] spot c e = ap gives (same_content (content_at m spot) c e)
  along-found (step ∷ path) spot c e = behind (content_at m spot) step e (λ next d. along-found path next c d)
    where
      behind : (x : Content) (step : Step) → content_if_found m (spot_along m (stored_if (step_store_if (elements_of x) step)) path) ≡ Some c → ((next : Spot) → content_if_found m (spot_along m (Some next) path) ≡ Some c → read_along manner m (gives (content_at m next)) path ≡ gives c) → read_along manner m (step_read manner m (gives x) step) path ≡ gives c
      behind null step e go_on = absurd (nothing_found path c e)
      behind (truth b) step e go_on = absurd (nothing_found path c e)
      behind (int i) step e go_on = absurd (nothing_found path c e)
      behind (text bytes) step e go_on = absurd (nothing_found path c e)
      behind (object h) step e go_on = absurd (nothing_found path c e)
      behind (array t) Push e go_on = absurd (nothing_found path c e)
      behind (array t) (At k) e go_on = entry (step_store t (At k)) e
        where
          entry : (o : Option ℕ) → content_if_found m (spot_along m (stored_if o) path) ≡ Some c → read_along manner m (gives (content_if m o)) path ≡ gives c
          entry None e = absurd (nothing_found path c e)
          entry (Some s) e = go_on (stored s) e

  from_base : (o : Option Spot) (path : List Step) (c : Content) → content_if_found m (spot_along m o path) ≡ Some c → read_along manner m (gives (content_or_null (content_if_found m o))) path ≡ gives c
  from_base None path c e = absurd (nothing_found path c e)
  from_base (Some spot) path c e = along-found path spot c e

  pub reading-found : (p : Place) (c : Content) → found m p ≡ Some c → reading manner m p ≡ gives c
  unfolding reading find_place
  reading-found p c e = from_base (base_spot m p.base) p.path c e
