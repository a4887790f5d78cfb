-- A walk over the entries of a sound array: what comes after a serial, and what is left behind it.
use Rattle.std.proofs.Common.{◌≡◌, inl, inr, ℕ, ◌<◌, ◌≤◌, refl, sym, ◌∙◌, ap, List, [], ◌∷◌, Option, Some, None, arith, subst}
use Rattle.std.specs.Prelude.{Bool, true, false, nat_lt, cond, option_map, find}
use Rattle.std.proofs.lemmas.Bool.{cases_Bool, ltb-true}
use Rattle.std.proofs.lemmas.Bool.Decides.{nat_tests}
use Rattle.php_value.specs.declared.key.Key.{Key}
use Rattle.php_entries.specs.Keys.{key_eq}
use Rattle.php_entries.specs.Listing.{Entry, Listing, entry_at}
use Rattle.php_entries.specs.Soundness.{HasNoKey, AreKeysDistinct, DoSerialsRise, IsSound as IsSoundListing}
use Rattle.php_entries.proofs.KeyLemmas.{key_eq-self, key_eq-sym_false}
use Rattle.php_memdef.specs.Sound.{AreKeysWithin, IsKeyWithin}
use Rattle.php_memdef.specs.Views.{entry_if_later}

-- the entries with a greater serial, from the first of them on
abbrev pub later : ℕ → List (Entry ℕ) → List (Entry ℕ)
later s [] = []
later s (e ∷ es) = cond (nat_lt s e.serial) (e ∷ es) (later s es)

lt-test : (x y : ℕ) → x < y → nat_lt x y ≡ true
lt-test x y h = grind (arith, nat_tests)

ge-test : (x y : ℕ) → y ≤ x → nat_lt x y ≡ false
ge-test x y h = grind (arith, nat_tests)

later_here : (s : ℕ) (e : Entry ℕ) (es : List (Entry ℕ)) → nat_lt s e.serial ≡ true → later s (e ∷ es) ≡ e ∷ es
later_here s e es t = ap (λ (b : Bool). cond b (e ∷ es) (later s es)) t

later_behind : (s : ℕ) (e : Entry ℕ) (es : List (Entry ℕ)) → nat_lt s e.serial ≡ false → later s (e ∷ es) ≡ later s es
later_behind s e es t = ap (λ (b : Bool). cond b (e ∷ es) (later s es)) t

pub later_all : (from : ℕ) (es : List (Entry ℕ)) (to : ℕ) → DoSerialsRise from es to → later from es ≡ es
later_all from [] to h = refl
later_all from (e ∷ es) to h = later_here from e es (lt-test from e.serial h.0)

-- what a search for a later entry finds is the first of the later ones

find_here : (s : ℕ) (f : Entry ℕ) (es : List (Entry ℕ)) → nat_lt s f.serial ≡ true → find (λ g. nat_lt s g.serial) (f ∷ es) ≡ Some f
find_here s f es t = ap (λ (b : Bool). cond b (Some f) (find (λ g. nat_lt s g.serial) es)) t

find_behind : (s : ℕ) (f : Entry ℕ) (es : List (Entry ℕ)) → nat_lt s f.serial ≡ false → find (λ g. nat_lt s g.serial) (f ∷ es) ≡ find (λ g. nat_lt s g.serial) es
find_behind s f es t = ap (λ (b : Bool). cond b (Some f) (find (λ g. nat_lt s g.serial) es)) t

same_entry : (f e : Entry ℕ) → Some f ≡ Some e → f ≡ e
same_entry f e h = cc

no_entry : (e : Entry ℕ) → None ≡ Some e → ⊥
no_entry e h = cc

some_entry : (e : Entry ℕ) → Some e ≡ None → ⊥
some_entry e h = cc

pub none_later : (s : ℕ) (es : List (Entry ℕ)) → find (λ g. nat_lt s g.serial) es ≡ None → later s es ≡ []
none_later s [] h = refl
none_later s (f ∷ es) h = elim (cases_Bool (nat_lt s f.serial)) [
  | inl t ↦ absurd (some_entry f (sym (find_here s f es t) ∙ h))
  | inr t ↦ later_behind s f es t ∙ none_later s es (sym (find_behind s f es t) ∙ h)
]

pub is_above : (s : ℕ) (es : List (Entry ℕ)) (e : Entry ℕ) → find (λ g. nat_lt s g.serial) es ≡ Some e → s < e.serial
is_above s [] e h = absurd (no_entry e h)
is_above s (f ∷ es) e h = elim (cases_Bool (nat_lt s f.serial)) [
  | inl t ↦ subst (λ (g : Entry ℕ). s < g.serial) (same_entry f e (sym (find_here s f es t) ∙ h)) (ltb-true s f.serial t)
  | inr t ↦ is_above s es e (sym (find_behind s f es t) ∙ h)
]

-- each entry of a list whose serials rise is above the bound
above_bound : (from s : ℕ) (es : List (Entry ℕ)) (to : ℕ) (e : Entry ℕ) → DoSerialsRise from es to → find (λ g. nat_lt s g.serial) es ≡ Some e → from < e.serial
above_bound from s [] to e rise h = absurd (no_entry e h)
above_bound from s (f ∷ es) to e rise h = elim (cases_Bool (nat_lt s f.serial)) [
  | inl t ↦ subst (λ (g : Entry ℕ). from < g.serial) (same_entry f e (sym (find_here s f es t) ∙ h)) rise.0
  | inr t ↦ (let below : f.serial < e.serial = above_bound f.serial s es to e rise.2 (sym (find_behind s f es t) ∙ h) in let first : from < f.serial = rise.0 in omega arith)
]

pub is_below : (from s : ℕ) (es : List (Entry ℕ)) (to : ℕ) (e : Entry ℕ) → DoSerialsRise from es to → find (λ g. nat_lt s g.serial) es ≡ Some e → e.serial < to
is_below from s [] to e rise h = absurd (no_entry e h)
is_below from s (f ∷ es) to e rise h = elim (cases_Bool (nat_lt s f.serial)) [
  | inl t ↦ subst (λ (g : Entry ℕ). g.serial < to) (same_entry f e (sym (find_here s f es t) ∙ h)) rise.1
  | inr t ↦ is_below f.serial s es to e rise.2 (sym (find_behind s f es t) ∙ h)
]

pub first_later : (from s : ℕ) (es : List (Entry ℕ)) (to : ℕ) (e : Entry ℕ) → DoSerialsRise from es to → find (λ g. nat_lt s g.serial) es ≡ Some e → later s es ≡ e ∷ later e.serial es
first_later from s [] to e rise h = absurd (no_entry e h)
first_later from s (f ∷ es) to e rise h = elim (cases_Bool (nat_lt s f.serial)) [
  | inl t ↦ later_here s f es t ∙ subst (λ (g : Entry ℕ). f ∷ es ≡ g ∷ later g.serial (f ∷ es)) (same_entry f e (sym (find_here s f es t) ∙ h)) (ap (λ (gs : List (Entry ℕ)). f ∷ gs) (sym (later_behind f.serial f es (ge-test f.serial f.serial (omega arith)) ∙ later_all f.serial es to rise.2)))
  | inr t ↦ (let found = sym (find_behind s f es t) ∙ h in let below : f.serial < e.serial = above_bound f.serial s es to e rise.2 found in later_behind s f es t ∙ first_later f.serial s es to e rise.2 found ∙ ap (λ (gs : List (Entry ℕ)). e ∷ gs) (sym (later_behind e.serial f es (ge-test e.serial f.serial (omega arith)))))
]

-- an entry that a walk comes to is the one of its key

has_no_key : (k : Key) (s : ℕ) (es : List (Entry ℕ)) (e : Entry ℕ) → HasNoKey k es → find (λ g. nat_lt s g.serial) es ≡ Some e → key_eq k e.key ≡ false
has_no_key k s [] e none h = absurd (no_entry e h)
has_no_key k s (f ∷ es) e none h = elim (cases_Bool (nat_lt s f.serial)) [
  | inl t ↦ subst (λ (g : Entry ℕ). key_eq k g.key ≡ false) (same_entry f e (sym (find_here s f es t) ∙ h)) none.0
  | inr t ↦ has_no_key k s es e none.1 (sym (find_behind s f es t) ∙ h)
]

key_here : (k : Key) (f : Entry ℕ) (es : List (Entry ℕ)) → key_eq k f.key ≡ true → find (λ g. key_eq k g.key) (f ∷ es) ≡ Some f
key_here k f es t = ap (λ (b : Bool). cond b (Some f) (find (λ g. key_eq k g.key) es)) t

key_behind : (k : Key) (f : Entry ℕ) (es : List (Entry ℕ)) → key_eq k f.key ≡ false → find (λ g. key_eq k g.key) (f ∷ es) ≡ find (λ g. key_eq k g.key) es
key_behind k f es t = ap (λ (b : Bool). cond b (Some f) (find (λ g. key_eq k g.key) es)) t

pub found_by_key : (s : ℕ) (es : List (Entry ℕ)) (e : Entry ℕ) → AreKeysDistinct es → find (λ g. nat_lt s g.serial) es ≡ Some e → find (λ g. key_eq e.key g.key) es ≡ Some e
found_by_key s [] e distinct h = absurd (no_entry e h)
found_by_key s (f ∷ es) e distinct h = elim (cases_Bool (nat_lt s f.serial)) [
  | inl t ↦ subst (λ (g : Entry ℕ). find (λ x. key_eq g.key x.key) (f ∷ es) ≡ Some g) (same_entry f e (sym (find_here s f es t) ∙ h)) (key_here f.key f es (key_eq-self f.key))
  | inr t ↦ (let found = sym (find_behind s f es t) ∙ h in key_behind e.key f es (key_eq-sym_false f.key e.key (has_no_key f.key s es e distinct.0 found)) ∙ found_by_key s es e distinct.1 found)
]

pub key_within : (s : ℕ) (es : List (Entry ℕ)) (e : Entry ℕ) → AreKeysWithin es → find (λ g. nat_lt s g.serial) es ≡ Some e → IsKeyWithin e.key
key_within s [] e within h = absurd (no_entry e h)
key_within s (f ∷ es) e within h = elim (cases_Bool (nat_lt s f.serial)) [
  | inl t ↦ subst (λ (g : Entry ℕ). IsKeyWithin g.key) (same_entry f e (sym (find_here s f es t) ∙ h)) within.0
  | inr t ↦ key_within s es e within.1 (sym (find_behind s f es t) ∙ h)
]

-- the entry with the next serial

abbrev pub serial_and_key : Entry ℕ → ℕ × Key
serial_and_key e = (e.serial, e.key)

pub record Turn (s : Listing ℕ) (serial next : ℕ) (k : Key) : Type 0 where
  pub entry : Entry ℕ
  pub is_first : later serial s.entries ≡ entry ∷ later next s.entries
  pub key_is : entry.key ≡ k
  pub has_key : entry_at s k ≡ Some entry
  pub is_found : find (λ (g : Entry ℕ). nat_lt serial g.serial) s.entries ≡ Some entry
  pub serial_is : entry.serial ≡ next

turn_of : (s : Listing ℕ) (serial next : ℕ) (k : Key) (o : Option (Entry ℕ)) → IsSoundListing s → find (λ (g : Entry ℕ). nat_lt serial g.serial) s.entries ≡ o → option_map serial_and_key o ≡ Some (next, k) → Turn s serial next k
turn_of s serial next k None sound f h = absurd (let no : ⊥ = cc in no)
turn_of s serial next k (Some e) sound f h =
    let pair : (e.serial, e.key) ≡ (next, k) = cc in
    let at : e.serial ≡ next = ap (λ (p : ℕ × Key). p.0) pair in
    let key : e.key ≡ k = ap (λ (p : ℕ × Key). p.1) pair in
    record {
      entry = e;
      is_first = subst (λ (n : ℕ). later serial s.entries ≡ e ∷ later n s.entries) at (first_later 0 serial s.entries s.next_serial e sound.serials_rise f);
      key_is = key;
      has_key = subst (λ (x : Key). find (λ (g : Entry ℕ). key_eq x g.key) s.entries ≡ Some e) key (found_by_key serial s.entries e sound.keys_distinct f);
      is_found = f;
      serial_is = at;
    }

pub turn : (s : Listing ℕ) (serial next : ℕ) (k : Key) → IsSoundListing s → entry_if_later (Some s) serial ≡ Some (next, k) → Turn s serial next k
turn s serial next k sound h = turn_of s serial next k (find (λ (g : Entry ℕ). nat_lt serial g.serial) s.entries) sound refl h

over_of : (s : Listing ℕ) (serial : ℕ) (o : Option (Entry ℕ)) → find (λ (g : Entry ℕ). nat_lt serial g.serial) s.entries ≡ o → option_map serial_and_key o ≡ None → later serial s.entries ≡ []
over_of s serial None f h = none_later serial s.entries f
over_of s serial (Some e) f h = absurd (let no : ⊥ = cc in no)

pub over : (s : Listing ℕ) (serial : ℕ) → entry_if_later (Some s) serial ≡ None → later serial s.entries ≡ []
over s serial h = over_of s serial (find (λ (g : Entry ℕ). nat_lt serial g.serial) s.entries) refl h
