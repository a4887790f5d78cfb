-- Maps of keys, and what an index finds.
use Rattle.std.proofs.Common.{◌≡◌, ◌≤◌, ◌⊎◌, inl, inr, ℕ, ◌+◌, ◌-◌, List, [], ◌∷◌, ◌++◌, length, take, refl, sym, ◌∙◌, ap, subst, arith, Some, None, add-one}
use Rattle.std.specs.Prelude.{Bool, true, false, cond, Option, option_map, is_some, IsSome, nat_le, pos, negsuc, Result, Ok, Err, OnOk, OnErr, find}
use Rattle.std.specs.Map.{lookup}
use Rattle.std.proofs.lemmas.Bool.{cases_Bool, cases_order, false≢true, leb-true}
use Rattle.php_value.specs.declared.key.Key.{Key}
use Rattle.php_value.specs.declared.key.Key.TheVariants.{Int, Str}
use Rattle.php_value.specs.contracts.key.KeyPartialEq.TheImpl as impl
use Rattle.php_entries.specs.Keys.{key_eq}
use Rattle.php_entries.specs.Listing.{Entry}
use Rattle.php_entries.specs.Soundness.{AreKeysDistinct}
use Rattle.php_array.specs.Index.{place_in, candidate, SetsPlace, ForgetsKey, IsIndexed}
use Rattle.php_array.specs.declared.key_index.KeyIndex.{KeyIndex}
use Rattle.php_array.specs.declared.key_index.KeyIndex.TheVariants.{Packed, Hashed}
use Rattle.php_array.specs.Slots.{serial_of, entries_in, place_of, live_place, stored_at, vacated, HoldsSame}
use Rattle.php_array.specs.Slot.{Slot, Hole, Live}
use Rattle.php_entries.proofs.KeyLemmas.{key_eq-true, key_eq-self}
use Rattle.php_array.proofs.PlaceLemmas.{stored_at-past}
use Rattle.php_array.proofs.SlotLemmas.{stored-place_of, place_of-take_live, place_of-take_hole, place_of-stored, place_of-vacated, place_of-push, stored_at-vacated, stored_at-push, HoldsSame-hole, place_of-none, place_of-find}

-- the derived comparison of keys is the definition's
pub derived_eq : (a b : Key) → (impl.eq-value).it a b ≡ key_eq a b
derived_eq (Int i) (Int j) = refl
derived_eq (Str s) (Str t) = refl
derived_eq (Int i) (Str t) = refl
derived_eq (Str s) (Int j) = refl

pub lookup_same : {X : Type 0} (k : Key) (ps : List (Key × X)) → lookup ((impl.eq-value).it k) ps ≡ lookup (key_eq k) ps
lookup_same k [] = refl
lookup_same {X} k (p ∷ ps) =
    ap (λ (b : Bool). cond b (Some p.1) (lookup ((impl.eq-value).it k) ps)) (derived_eq k p.0)
    ∙ ap (λ (o : Option X). cond (key_eq k p.0) (Some p.1) o) (lookup_same k ps)

-- an update of a map of keys, by the definition's comparison
pub SetsPlace-updates : (old new : List (Key × ℕ)) (k : Key) (w : Option ℕ) → ((q : Key) → lookup ((impl.eq-value).it q) new ≡ cond ((impl.eq-value).it k q) w (lookup ((impl.eq-value).it q) old)) → SetsPlace old new k w
SetsPlace-updates old new k w h q =
    sym (lookup_same q new)
    ∙ h q
    ∙ ap (λ (b : Bool). cond b w (lookup ((impl.eq-value).it q) old)) (derived_eq k q)
    ∙ ap (λ (o : Option ℕ). cond (key_eq k q) w o) (lookup_same q old)

-- the first, or the second where there is no first
abbrev pub first_some : Option ℕ → Option ℕ → Option ℕ
first_some None p = p
first_some (Some i) p = Some i

first_some-cond : (b : Bool) (i : ℕ) (o p : Option ℕ) → cond b (Some i) (first_some o p) ≡ first_some (cond b (Some i) o) p
first_some-cond true i o p = refl
first_some-cond false i o p = refl

first_some-there : (o p : Option ℕ) → is_some p ≡ true → is_some (first_some o p) ≡ true
first_some-there None p h = h
first_some-there (Some i) p h = refl

pub first_some-all : (o p : Option ℕ) → is_some p ≡ is_some o → first_some o p ≡ o
first_some-all None None h = refl
first_some-all None (Some i) h = cc
first_some-all (Some i) p h = refl

module _ {T : Type 0} (ss : List (Slot T)) (i : ℕ) where
  -- a map of the keys before a place, with the key that stands there
  pub collected_live : (old new : List (Key × ℕ)) (e : Entry T) → AreKeysDistinct (entries_in ss) → stored_at i ss ≡ Some e → SetsPlace old new e.key (Some i) → ((k : Key) → place_in old k ≡ place_of k (take i ss)) → (k : Key) → place_in new k ≡ place_of k (take (i + 1) ss)
  collected_live old new e distinct there sets h k =
      sets k
      ∙ ap (cond (key_eq e.key k) (Some i)) (h k)
      ∙ sym (place_of-take_live k i ss e distinct there)
      ∙ ap (λ n. place_of k (take n ss)) (sym (add-one i))

  pub collected_hole : (old : Key → Option ℕ) → stored_at i ss ≡ None → ((k : Key) → old k ≡ place_of k (take i ss)) → (k : Key) → old k ≡ place_of k (take (i + 1) ss)
  collected_hole old none h k = h k ∙ sym (place_of-take_hole k i ss none) ∙ ap (λ n. place_of k (take n ss)) (sym (add-one i))

  -- a map whose keys before a place are renewed, with the key that stands there
  pub renewed_live : (first : Key → Option ℕ) (old new : List (Key × ℕ)) (e : Entry T) → AreKeysDistinct (entries_in ss) → stored_at i ss ≡ Some e → SetsPlace old new e.key (Some i) → ((k : Key) → place_in old k ≡ first_some (place_of k (take i ss)) (first k)) → (k : Key) → place_in new k ≡ first_some (place_of k (take (i + 1) ss)) (first k)
  renewed_live first old new e distinct there sets h k =
      sets k
      ∙ ap (cond (key_eq e.key k) (Some i)) (h k)
      ∙ first_some-cond (key_eq e.key k) i (place_of k (take i ss)) (first k)
      ∙ ap (λ (o : Option ℕ). first_some o (first k)) (sym (place_of-take_live k i ss e distinct there) ∙ ap (λ n. place_of k (take n ss)) (sym (add-one i)))

  pub renewed_hole : (first old : Key → Option ℕ) → stored_at i ss ≡ None → ((k : Key) → old k ≡ first_some (place_of k (take i ss)) (first k)) → (k : Key) → old k ≡ first_some (place_of k (take (i + 1) ss)) (first k)
  renewed_hole first old none h k =
      h k ∙ ap (λ (o : Option ℕ). first_some o (first k)) (sym (place_of-take_hole k i ss none) ∙ ap (λ n. place_of k (take n ss)) (sym (add-one i)))

  pub renewed_there : (first : Key → Option ℕ) (old : List (Key × ℕ)) (e : Entry T) → AreKeysDistinct (entries_in ss) → stored_at i ss ≡ Some e → ((k : Key) → is_some (first k) ≡ is_some (place_of k ss)) → ((k : Key) → place_in old k ≡ first_some (place_of k (take i ss)) (first k)) → IsSome (place_in old e.key)
  renewed_there first old e distinct there same h =
      let some : is_some (first e.key) ≡ true = same e.key ∙ ap is_some (stored-place_of ss i e distinct there) in
      ap is_some (h e.key) ∙ first_some-there (place_of e.key (take i ss)) (first e.key) some

-- a key tells its place, so no other key tells the same
packed-key : (first n : ℕ) (k : Key) → candidate (Packed first) k ≡ Some n → k ≡ Int (pos (first + n))
packed-key first n (Int (pos k)) is =
    elim (cases_Bool (nat_le first k)) [
      | inl le ↦ (
          let value : Some (k - first) ≡ Some n = sym (ap (λ (b : Bool). cond b (Some (k - first)) None) le) ∙ is in
          let equal : k - first ≡ n = cc in
          let above : first ≤ k = leb-true first k le in
          let sum : k ≡ first + n = omega arith in
          ap (λ (m : ℕ). Int (pos m)) sum)
      | inr gt ↦ (let bad = sym (ap (λ (b : Bool). cond b (Some (k - first)) None) gt) ∙ is in cc)
    ]
packed-key first n (Int (negsuc k)) is = cc
packed-key first n (Str s) is = cc

live_place-same : {T : Type 0} (o : Option ℕ) (xs ys : List (Slot T)) → ((i : ℕ) → is_some (stored_at i ys) ≡ is_some (stored_at i xs)) → live_place o ys ≡ live_place o xs
live_place-same None xs ys same = refl
live_place-same (Some i) xs ys same = ap (λ (b : Bool). cond b (Some i) None) (same i)

module _ {T : Type 0} where
  -- what the index finds is where the key's entry stands
  pub IsIndexed-live : (index : KeyIndex) (ss : List (Slot T)) → IsIndexed index ss → (k : Key) → live_place (candidate index k) ss ≡ place_of k ss
  IsIndexed-live (Packed first) ss h k = h k
  IsIndexed-live (Hashed places) ss h k = by (place_of k ss) refl
    where
      by : (o : Option ℕ) → place_of k ss ≡ o → live_place (candidate (Hashed places) k) ss ≡ place_of k ss
      by None is = ap (λ (o : Option ℕ). live_place o ss) (h k ∙ is) ∙ sym is
      by (Some i) is =
          let there = place_of-stored k ss i is in
          ap (λ (o : Option ℕ). live_place o ss) (h k ∙ is)
          ∙ ap (λ (o : Option (Entry T)). cond (is_some o) (Some i) None) there.1
          ∙ sym is

  -- slots with the same keys at the same places
  pub IsIndexed-same : (index : KeyIndex) (old new : List (Slot T)) → ((i : ℕ) → is_some (stored_at i new) ≡ is_some (stored_at i old)) → ((k : Key) → place_of k new ≡ place_of k old) → IsIndexed index old → IsIndexed index new
  IsIndexed-same (Packed first) old new stored places h = λ k. live_place-same (candidate (Packed first) k) old new stored ∙ h k ∙ sym (places k)
  IsIndexed-same (Hashed map) old new stored places h = λ k. h k ∙ sym (places k)

  pub IsIndexed-HoldsSame : (index : KeyIndex) (old new : List (Slot T)) → HoldsSame old new → IsIndexed index old → IsIndexed index new
  IsIndexed-HoldsSame index old new same h = IsIndexed-same index old new (λ i. ap is_some (same.stored i)) same.places h

  live_place-vacated : (o : Option ℕ) (i : ℕ) (ss : List (Slot T)) → (o ≡ Some i → ⊥) → live_place o (vacated i ss) ≡ live_place o ss
  live_place-vacated None i ss apart = refl
  live_place-vacated (Some j) i ss apart =
      ap (λ (o : Option (Entry T)). cond (is_some o) (Some j) None) ((stored_at-vacated i j ss).1 (λ e. apart (ap Some (sym e))))

  live_place-some : (o : Option ℕ) (i : ℕ) (ss : List (Slot T)) → live_place o ss ≡ Some i → o ≡ Some i
  live_place-some None i ss h = cc
  live_place-some (Some j) i ss h =
      elim (cases_Bool (is_some (stored_at j ss))) [
        | inl there ↦ sym (ap (λ (b : Bool). cond b (Some j) None) there) ∙ h
        | inr none ↦ (let bad = sym (ap (λ (b : Bool). cond b (Some j) None) none) ∙ h in cc)
      ]

  -- an entry that is taken out, and its key that is forgotten
  pub IsIndexed-vacated : (old new : KeyIndex) (k : Key) (i : ℕ) (ss : List (Slot T)) → ForgetsKey old new k → AreKeysDistinct (entries_in ss) → place_of k ss ≡ Some i → IsIndexed old ss → IsIndexed new (vacated i ss)
  IsIndexed-vacated (Packed first) new k i ss forgets distinct is h =
      subst (λ (index : KeyIndex). IsIndexed index (vacated i ss)) (sym forgets) (λ q.
      elim (cases_Bool (key_eq k q)) [
        | inl same ↦ (
            let own : candidate (Packed first) q ≡ Some i =
            live_place-some (candidate (Packed first) q) i ss (h q ∙ ap (λ (x : Key). place_of x ss) (sym (key_eq-true k q same)) ∙ is) in
            ap (λ (o : Option ℕ). live_place o (vacated i ss)) own
            ∙ ap (λ (o : Option (Entry T)). cond (is_some o) (Some i) None) (stored_at-vacated i i ss).0
            ∙ sym (place_of-vacated k ss i distinct is q ∙ ap (λ (b : Bool). cond b None (place_of q ss)) same))
        | inr apart ↦ (
            let other : candidate (Packed first) q ≡ Some i → ⊥ = λ (own : candidate (Packed first) q ≡ Some i).
            let there = place_of-stored k ss i is in
            let at_q : place_of q ss ≡ Some i =
            sym (h q) ∙ ap (λ (o : Option ℕ). live_place o ss) own ∙ ap (λ (o : Option (Entry T)). cond (is_some o) (Some i) None) there.1 in
            let there_q = place_of-stored q ss i at_q in
            let same_entry : Some there.0 ≡ Some there_q.0 = sym there.1 ∙ there_q.1 in
            let same_key : k ≡ q = sym there.2 ∙ (let e : there.0 ≡ there_q.0 = cc in ap (λ (x : Entry T). x.key) e) ∙ there_q.2 in
            false≢true (sym apart ∙ ap (key_eq k) (sym same_key) ∙ key_eq-self k) in
            live_place-vacated (candidate (Packed first) q) i ss other
            ∙ h q
            ∙ sym (place_of-vacated k ss i distinct is q ∙ ap (λ (b : Bool). cond b None (place_of q ss)) apart))
      ])
  IsIndexed-vacated (Hashed places) new k i ss forgets distinct is h =
      subst (λ (index : KeyIndex). IsIndexed index (vacated i ss)) (sym forgets.1) (λ q.
      forgets.2 q
      ∙ ap (cond (key_eq k q) None) (h q)
      ∙ sym (place_of-vacated k ss i distinct is q))

  vacated-last : (ss : List (Slot T)) (s : Slot T) → vacated (length ss) (ss ++ s ∷ []) ≡ ss ++ Hole (serial_of s) ∷ []
  vacated-last [] s = refl
  vacated-last (x ∷ ss) s = ap (λ (rest : List (Slot T)). x ∷ rest) (vacated-last ss s)

  -- the last entry that is taken out
  pub IsIndexed-popped : (old new : KeyIndex) (e : Entry T) (ss : List (Slot T)) → ForgetsKey old new e.key → AreKeysDistinct (entries_in (ss ++ Live e ∷ [])) → IsIndexed old (ss ++ Live e ∷ []) → IsIndexed new ss
  IsIndexed-popped old new e ss forgets distinct h =
      let all = ss ++ Live e ∷ [] in
      let place = stored-place_of all (length ss) e distinct ((stored_at-push 0 ss (Live e)).1) in
      let left = IsIndexed-vacated old new e.key (length ss) all forgets distinct place h in
      IsIndexed-HoldsSame new (ss ++ Hole e.serial ∷ []) ss (HoldsSame-hole ss (Hole e.serial) refl) (subst (λ (xs : List (Slot T)). IsIndexed new xs) (vacated-last ss (Live e)) left)

  live_place-push : (o : Option ℕ) (ss : List (Slot T)) (s : Slot T) → (o ≡ Some (length ss) → ⊥) → live_place o (ss ++ s ∷ []) ≡ live_place o ss
  live_place-push None ss s apart = refl
  live_place-push (Some j) ss s apart =
      let at = stored_at-push j ss s in
      elim (cases_order j (length ss)) [
        | inl same ↦ absurd (apart (ap Some same))
        | inr rest ↦ elim rest [
          | inl below ↦ ap (λ (o : Option (Entry T)). cond (is_some o) (Some j) None) (at.0 below)
          | inr above ↦ ap (λ (o : Option (Entry T)). cond (is_some o) (Some j) None) (at.2 above ∙ sym (stored_at-past j ss (omega arith)))
        ]
      ]

  -- a further entry whose key tells its place
  pub IsIndexed-packed_push : (first : ℕ) (ss : List (Slot T)) (e : Entry T) → place_of e.key ss ≡ None → candidate (Packed first) e.key ≡ Some (length ss) → IsIndexed (Packed first) ss → IsIndexed (Packed first) (ss ++ Live e ∷ [])
  IsIndexed-packed_push first ss e none own h q =
      elim (cases_Bool (key_eq e.key q)) [
        | inl same ↦
            ap (λ (x : Key). live_place (candidate (Packed first) x) (ss ++ Live e ∷ [])) (sym (key_eq-true e.key q same))
            ∙ ap (λ (o : Option ℕ). live_place o (ss ++ Live e ∷ [])) own
            ∙ ap (λ (o : Option (Entry T)). cond (is_some o) (Some (length ss)) None) ((stored_at-push 0 ss (Live e)).1)
            ∙ sym (place_of-push q ss e none ∙ ap (λ (b : Bool). cond b (Some (length ss)) (place_of q ss)) same)
        | inr apart ↦ (
            let other : candidate (Packed first) q ≡ Some (length ss) → ⊥ = λ (at : candidate (Packed first) q ≡ Some (length ss)).
            let equal : e.key ≡ q = packed-key first (length ss) e.key own ∙ sym (packed-key first (length ss) q at) in
            false≢true (sym apart ∙ ap (key_eq e.key) (sym equal) ∙ key_eq-self e.key) in
            live_place-push (candidate (Packed first) q) ss (Live e) other
            ∙ h q
            ∙ sym (place_of-push q ss e none ∙ ap (λ (b : Bool). cond b (Some (length ss)) (place_of q ss)) apart))
      ]

  -- a further entry whose key is put into the map
  pub SetsPlace-push : (old new : List (Key × ℕ)) (ss : List (Slot T)) (e : Entry T) → place_of e.key ss ≡ None → SetsPlace old new e.key (Some (length ss)) → ((k : Key) → place_in old k ≡ place_of k ss) → (k : Key) → place_in new k ≡ place_of k (ss ++ Live e ∷ [])
  SetsPlace-push old new ss e none sets h k =
      sets k ∙ ap (cond (key_eq e.key k) (Some (length ss))) (h k) ∙ sym (place_of-push k ss e none)

-- whatever the index, no slots hold no entry
pub IsIndexed-no_slots : (T : Type 0) (first : ℕ) → IsIndexed {T = T} (Packed first) []
IsIndexed-no_slots T first = λ k. nothing (candidate (Packed first) k)
  where
    nothing : (o : Option ℕ) → live_place {T = T} o [] ≡ None
    nothing None = refl
    nothing (Some i) = refl

module _ {T : Type 0} where
  -- an index after the key of a further entry was put in
  pub pushed_packed : (first new_first n : ℕ) (ss : List (Slot T)) (k : Key) → IsIndexed (Packed first) ss → place_of k ss ≡ None → candidate (Packed new_first) k ≡ Some n → n ≡ length ss → (n ≡ 0) ⊎ (new_first ≡ first) → (e : Entry T) → e.key ≡ k → IsIndexed (Packed new_first) (ss ++ Live e ∷ [])
  pushed_packed first new_first n ss k h none own len kept e is =
      IsIndexed-packed_push new_first ss e (ap (λ (q : Key). place_of q ss) is ∙ none) (ap (candidate (Packed new_first)) is ∙ own ∙ ap Some len) (
      elim kept [
        | inl empty ↦ (let no_slots : ss ≡ [] = no_items ss (sym len ∙ empty) in subst (λ (xs : List (Slot T)). IsIndexed (Packed new_first) xs) (sym no_slots) (IsIndexed-no_slots T new_first))
        | inr same ↦ subst (λ (f : ℕ). IsIndexed (Packed f) ss) (sym same) h
      ])
    where
      no_items : (xs : List (Slot T)) → length xs ≡ 0 → xs ≡ []
      no_items [] h = refl
      no_items (x ∷ xs) h = absurd (omega arith)

  pub pushed_hashed : (old new : List (Key × ℕ)) (n : ℕ) (ss : List (Slot T)) (k : Key) → ((q : Key) → place_in old q ≡ place_of q ss) → place_of k ss ≡ None → SetsPlace old new k (Some n) → n ≡ length ss → (e : Entry T) → e.key ≡ k → (q : Key) → place_in new q ≡ place_of q (ss ++ Live e ∷ [])
  pushed_hashed old new n ss k h none sets len e is =
      SetsPlace-push old new ss e (ap (λ (q : Key). place_of q ss) is ∙ none)
      (λ q. sets q ∙ ap (λ (x : Key). cond (key_eq x q) (Some n) (place_in old q)) (sym is) ∙ ap (λ m. cond (key_eq e.key q) (Some m) (place_in old q)) len)
      h

pub OnOk-map : {A E : Type 0} {P Q : Type 0} (r : Result A E) → OnOk r P → (P → Q) → OnOk r Q
OnOk-map (Ok x) p f = f p
OnOk-map (Err e) p f = p

pub OnErr-map : {A E : Type 0} {P Q : Type 0} (r : Result A E) → OnErr r P → (P → Q) → OnErr r Q
OnErr-map (Ok x) p f = p
OnErr-map (Err e) p f = f p

module _ {T : Type 0} (index : KeyIndex) (ss : List (Slot T)) (k : Key) (h : IsIndexed index ss) where
  -- what stands at the place that the index has for a key
  pub candidate-none : candidate index k ≡ None → place_of k ss ≡ None
  candidate-none none = sym (IsIndexed-live index ss h k) ∙ ap (λ (o : Option ℕ). live_place o ss) none

  pub candidate-hole : (i : ℕ) → candidate index k ≡ Some i → stored_at i ss ≡ None → place_of k ss ≡ None
  candidate-hole i own none =
      sym (IsIndexed-live index ss h k)
      ∙ ap (λ (o : Option ℕ). live_place o ss) own
      ∙ ap (λ (o : Option (Entry T)). cond (is_some o) (Some i) None) none

  pub candidate-live : (i : ℕ) (e : Entry T) → candidate index k ≡ Some i → stored_at i ss ≡ Some e → place_of k ss ≡ Some i
  candidate-live i e own there =
      sym (IsIndexed-live index ss h k)
      ∙ ap (λ (o : Option ℕ). live_place o ss) own
      ∙ ap (λ (o : Option (Entry T)). cond (is_some o) (Some i) None) there

  pub candidate-find : (i : ℕ) (o : Option (Entry T)) → candidate index k ≡ Some i → stored_at i ss ≡ o → o ≡ find (λ (e : Entry T). key_eq k e.key) (entries_in ss)
  candidate-find i None own there = sym (place_of-none k ss (candidate-hole i own there))
  candidate-find i (Some e) own there = sym (place_of-find k ss i e (candidate-live i e own there) there)
