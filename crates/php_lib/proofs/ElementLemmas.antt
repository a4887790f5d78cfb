-- One turn of the walk over two arrays.
use Rattle.std.proofs.Common.{◌≡◌, ℕ, refl, sym, ◌∙◌, ap, List, [], ◌∷◌, length, Option, Some, None, Ok, Err, arith}
use Rattle.std.specs.Prelude.{Bool, true, false, option_map}
use Rattle.php_value.specs.declared.fault.Stopped.{Stopped}
use Rattle.php_value.specs.declared.key.Key.{Key}
use Rattle.php_value.specs.declared.ordering.Order.{Order}
use Rattle.php_value.specs.Comparison.{is_same}
use Rattle.php_entries.specs.Keys.{key_eq}
use Rattle.php_entries.specs.Listing.{Entry, Listing, entry_at, value_at}
use Rattle.php_entries.proofs.KeyLemmas.{key_eq-true}
use Rattle.php_memdef.specs.declared.place.Place.{Place}
use Rattle.php_memdef.specs.Contents.{Content, array, Mem, content_of}
use Rattle.php_memdef.specs.Sound.{IsSound}
use Rattle.php_memdef.specs.Views.{found, elements_if_found, entry_if_later, later_entry}
use Rattle.php_compare.specs.Outcomes.{Compared, Identified, unless_same, and_then}
use Rattle.php_compare.specs.Ordering.{order_nested, order_of_pairs, element_pairs}
use Rattle.php_compare.specs.Identity.{same_nested, same_entries}
use Rattle.php_compare.specs.Places.{or_null, content_there}
use Rattle.php_lib.specs.Answers.{ComesTo}
use Rattle.php_lib.specs.Comparing.{under, order_of_found}
use Rattle.php_lib.proofs.WalkLemmas.{later, later_all, Turn, turn, over}
use Rattle.php_lib.proofs.PlaceLemmas.{found_under, found_sound}
use Rattle.php_lib.proofs.OutcomeLemmas.{comes_along, stops_first, decides_first, goes_on, pair_first, stops_before}

turn_at : (m : Mem) (p : Place) (s : Listing ℕ) (serial next : ℕ) (k : Key) → IsSound m → found m p ≡ Some (array s) → Some (next, k) ≡ later_entry m p serial → Turn s serial next k
turn_at m p s serial next k sound e h = turn s serial next k (found_sound m p (array s) e sound).0 (sym (h ∙ ap (λ (o : Option Content). entry_if_later (elements_if_found o) serial) e))

pub over_at : (m : Mem) (p : Place) (s : Listing ℕ) (serial : ℕ) → found m p ≡ Some (array s) → None ≡ later_entry m p serial → later serial s.entries ≡ []
over_at m p s serial e h = over s serial (sym (h ∙ ap (λ (o : Option Content). entry_if_later (elements_if_found o) serial) e))

pub all_later : (m : Mem) (p : Place) (s : Listing ℕ) → IsSound m → found m p ≡ Some (array s) → later 0 s.entries ≡ s.entries
all_later m p s sound e = later_all 0 s.entries s.next_serial ((found_sound m p (array s) e sound).0).serials_rise

element_there : (m : Mem) (p : Place) (s : Listing ℕ) (k : Key) (x : Entry ℕ) → found m p ≡ Some (array s) → entry_at s k ≡ Some x → found m (under p k) ≡ Some (content_of m x.value)
element_there m p s k x e h = found_under m p k s e ∙ ap (λ (o : Option (Entry ℕ)). option_map (content_of m) (option_map (λ (y : Entry ℕ). y.value) o)) h

-- p and q hold the arrays s and t, and after a serial comes the next one with its key
module _ (m : Mem) (n : ℕ) (p q : Place) (s t : Listing ℕ) (serial next : ℕ) (k : Key) (sound : IsSound m) (left_is : found m p ≡ Some (array s)) (right_is : found m q ≡ Some (array t)) (shown : Some (next, k) ≡ later_entry m p serial) where
  abbrev inner : Content → Content → Compared
  inner = order_nested m n

  abbrev rest : ℕ → Compared
  rest from = order_of_pairs inner m (element_pairs (later from s.entries) t)

  step : rest serial ≡ unless_same (order_of_found inner (found m (under p k)) (found m (under q k))) (rest next)
  step =
      let now : Turn s serial next k = turn_at m p s serial next k sound left_is shown in
      let x : Entry ℕ = now.entry in
      let left = sym (element_there m p s k x left_is now.has_key) in
      let right = sym (found_under m q k t right_is ∙ ap (λ (y : Key). option_map (content_of m) (value_at t y)) (sym now.key_is)) in
      ap (λ (es : List (Entry ℕ)). order_of_pairs inner m (element_pairs es t)) now.is_first
      ∙ pair_first inner m x.value (value_at t x.key) (element_pairs (later next s.entries) t)
      ∙ λ i. unless_same (order_of_found inner (left i) (right i)) (rest next)

  -- the two places of the walk, once they have gone on
  module _ (l r pl pr : Place) (l_is : l ≡ p) (r_is : r ≡ q) (pl_is : pl ≡ under l k) (pr_is : pr ≡ under r k) (over_all : order_of_pairs inner m (element_pairs s.entries t) ≡ rest serial) where
    abbrev told : Compared
    told = order_of_found inner (found m pl) (found m pr)

    all : order_of_pairs inner m (element_pairs s.entries t) ≡ unless_same told (rest next)
    all =
        let at_left : under p k ≡ pl = sym (pl_is ∙ ap (λ (x : Place). under x k) l_is) in
        let at_right : under q k ≡ pr = sym (pr_is ∙ ap (λ (x : Place). under x k) r_is) in
        over_all ∙ step ∙ λ i. unless_same (order_of_found inner (found m (at_left i)) (found m (at_right i))) (rest next)

    pub element_decides : (o : Order) → Ok o ≡ told → is_same o ≡ false → Ok o ≡ order_of_pairs inner m (element_pairs s.entries t)
    element_decides o h d = decides_first o told (rest next) h d ∙ sym all

    pub element_stops : (e : Stopped) → ComesTo {A = Order} (Err e) told → ComesTo {A = Order} (Err e) (order_of_pairs inner m (element_pairs s.entries t))
    element_stops e h = comes_along (Err e) (unless_same told (rest next)) (order_of_pairs inner m (element_pairs s.entries t)) (stops_first e told (rest next) h) (sym all)

    pub element_same : (o : Order) → Ok o ≡ told → is_same o ≡ true → order_of_pairs inner m (element_pairs s.entries t) ≡ rest next
    element_same o h d = all ∙ goes_on o told (rest next) h d

-- the entry that comes next on either side
module _ (m : Mem) (n : ℕ) (p q : Place) (s t : Listing ℕ) (at_left at_right next_left next_right : ℕ) (k j : Key) (sound : IsSound m) (left_is : found m p ≡ Some (array s)) (right_is : found m q ≡ Some (array t)) (shown_left : Some (next_left, k) ≡ later_entry m p at_left) (shown_right : Some (next_right, j) ≡ later_entry m q at_right) where
  abbrev within : Content → Content → Identified
  within = same_nested m n

  abbrev all_same : Identified
  all_same = same_entries within m s.entries t.entries

  abbrev rest_same : ℕ → ℕ → Identified
  rest_same x y = same_entries within m (later x s.entries) (later y t.entries)

  pub other_key : key_eq k j ≡ false → all_same ≡ rest_same at_left at_right → Ok false ≡ all_same
  other_key d over_all =
      let l : Turn s at_left next_left k = turn_at m p s at_left next_left k sound left_is shown_left in
      let r : Turn t at_right next_right j = turn_at m q t at_right next_right j sound right_is shown_right in
      let keys : key_eq l.entry.key r.entry.key ≡ false = (λ i. key_eq (l.key_is i) (r.key_is i)) ∙ d in
      sym (over_all ∙ (λ i. same_entries within m (l.is_first i) (r.is_first i)) ∙ ap (λ (b : Bool). and_then (Ok b) (and_then (within (content_of m l.entry.value) (content_of m r.entry.value)) (rest_same next_left next_right))) keys)

  pub as_many_left : length (later at_left s.entries) ≡ length (later at_right t.entries) → length (later next_left s.entries) ≡ length (later next_right t.entries)
  as_many_left h =
      let l : Turn s at_left next_left k = turn_at m p s at_left next_left k sound left_is shown_left in
      let r : Turn t at_right next_right j = turn_at m q t at_right next_right j sound right_is shown_right in
      let a : length (later at_left s.entries) ≡ length (l.entry ∷ later next_left s.entries) = ap (length {A = Entry ℕ}) l.is_first in
      let b : length (later at_right t.entries) ≡ length (r.entry ∷ later next_right t.entries) = ap (length {A = Entry ℕ}) r.is_first in
      omega (arith, a, b, h)

  module _ (l r pl pr : Place) (l_is : l ≡ p) (r_is : r ≡ q) (pl_is : pl ≡ under l k) (pr_is : pr ≡ under r k) (keys : key_eq k j ≡ true) (over_all : all_same ≡ rest_same at_left at_right) where
    abbrev told_same : Identified
    told_same = within (content_there m pl) (content_there m pr)

    all_by_first : all_same ≡ and_then told_same (rest_same next_left next_right)
    all_by_first =
        let x : Turn s at_left next_left k = turn_at m p s at_left next_left k sound left_is shown_left in
        let y : Turn t at_right next_right j = turn_at m q t at_right next_right j sound right_is shown_right in
        let one_key : key_eq x.entry.key y.entry.key ≡ true = (λ i. key_eq (x.key_is i) (y.key_is i)) ∙ keys in
        let same_key : j ≡ k = sym (key_eq-true k j keys) in
        let left_place : pl ≡ under p k = pl_is ∙ ap (λ (z : Place). under z k) l_is in
        let right_place : pr ≡ under q j = pr_is ∙ ap (λ (z : Place). under z k) r_is ∙ ap (λ (z : Key). under q z) (sym same_key) in
        let left : content_of m x.entry.value ≡ content_there m pl = sym (ap (λ (z : Place). content_there m z) left_place ∙ ap or_null (element_there m p s k x.entry left_is x.has_key)) in
        let right : content_of m y.entry.value ≡ content_there m pr = sym (ap (λ (z : Place). content_there m z) right_place ∙ ap or_null (element_there m q t j y.entry right_is y.has_key)) in
        over_all
        ∙ (λ i. same_entries within m (x.is_first i) (y.is_first i))
        ∙ ap (λ (b : Bool). and_then (Ok b) (and_then (within (content_of m x.entry.value) (content_of m y.entry.value)) (rest_same next_left next_right))) one_key
        ∙ λ i. and_then (within (left i) (right i)) (rest_same next_left next_right)

    pub value_differs : Ok false ≡ told_same → Ok false ≡ all_same
    value_differs h = sym (all_by_first ∙ sym (ap (λ (w : Identified). and_then w (rest_same next_left next_right)) h))

    pub value_stops : (e : Stopped) → ComesTo {A = Bool} (Err e) told_same → ComesTo {A = Bool} (Err e) all_same
    value_stops e h = comes_along (Err e) (and_then told_same (rest_same next_left next_right)) all_same (stops_before e told_same (rest_same next_left next_right) h) (sym all_by_first)

    pub value_same : Ok true ≡ told_same → all_same ≡ rest_same next_left next_right
    value_same h = all_by_first ∙ sym (ap (λ (w : Identified). and_then w (rest_same next_left next_right)) h)

pub none_to_match : (m : Mem) (p q : Place) (s t : Listing ℕ) (at_left at_right next : ℕ) (k : Key) → IsSound m → found m p ≡ Some (array s) → found m q ≡ Some (array t) → Some (next, k) ≡ later_entry m p at_left → None ≡ later_entry m q at_right → length (later at_left s.entries) ≡ length (later at_right t.entries) → ⊥
none_to_match m p q s t at_left at_right next k sound e f h none many =
    let l : Turn s at_left next k = turn_at m p s at_left next k sound e h in
    let a : length (later at_left s.entries) ≡ length (l.entry ∷ later next s.entries) = ap (length {A = Entry ℕ}) l.is_first in
    let b : length (later at_right t.entries) ≡ 0 = ap (length {A = Entry ℕ}) (over_at m q t at_right f none) in
    omega (arith, a, b, many)

empty_list : (es : List (Entry ℕ)) → 0 ≡ length es → es ≡ []
empty_list [] h = refl
empty_list (e ∷ es) h = absurd (omega (arith, h))

pub none_left : (m : Mem) (n : ℕ) (p q : Place) (s t : Listing ℕ) (at_left at_right : ℕ) → found m p ≡ Some (array s) → None ≡ later_entry m p at_left → length (later at_left s.entries) ≡ length (later at_right t.entries) → same_entries (same_nested m n) m s.entries t.entries ≡ same_entries (same_nested m n) m (later at_left s.entries) (later at_right t.entries) → Ok true ≡ same_entries (same_nested m n) m s.entries t.entries
none_left m n p q s t at_left at_right e none many over_all =
    let left : later at_left s.entries ≡ [] = over_at m p s at_left e none in
    let right : later at_right t.entries ≡ [] = empty_list (later at_right t.entries) (sym (ap (length {A = Entry ℕ}) left) ∙ many) in
    sym (over_all ∙ λ i. same_entries (same_nested m n) m (left i) (right i))
