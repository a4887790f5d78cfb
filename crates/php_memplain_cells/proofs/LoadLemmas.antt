-- What is left of an array whose elements are released one after another.
use Rattle.std.proofs.Common.{◌≡◌, ℕ, ◌<◌, ◌≤◌, List, [], ◌∷◌, refl, sym, ◌∙◌, ap, arith}
use Rattle.std.specs.Prelude.{Bool, true, false, nat_lt, if◌then◌else◌, Some, None, find}
use Rattle.std.proofs.lemmas.Bool.{ltb-true, ltb-false}
use Rattle.php_entries.specs.Listing.{Entry}
use Rattle.php_entries.specs.Soundness.{DoSerialsRise}
use Rattle.php_memplain_cells.specs.Seen.{later}
use Rattle.php_memplain_cells.proofs.SlotLemmas.{no_some}

abbrev after : ℕ → Entry ℕ → Bool
after p e = nat_lt p e.serial

some_same : {x y : Entry ℕ} → Some y ≡ Some x → y ≡ x
some_same e = cc

-- all entries are behind a serial that is below theirs
pub later_all : (from : ℕ) (es : List (Entry ℕ)) (to : ℕ) → DoSerialsRise from es to → later from es ≡ es
later_all from [] to h = refl
later_all from (e ∷ es) to h = by_test (nat_lt from e.serial) refl
  where
    by_test : (b : Bool) → nat_lt from e.serial ≡ b → (if b then e ∷ es else later from es) ≡ e ∷ es
    by_test true t = refl
    by_test false t = absurd (let below : from < e.serial = h.0 in omega (arith, below, ltb-false from e.serial t))

pub later_none : (p : ℕ) (es : List (Entry ℕ)) → find (after p) es ≡ None → later p es ≡ []
later_none p [] h = refl
later_none p (e ∷ es) h = by_test (nat_lt p e.serial) refl (later_none p es)
  where
    by_test : (b : Bool) → nat_lt p e.serial ≡ b → (find (after p) es ≡ None → later p es ≡ []) → (if b then e ∷ es else later p es) ≡ []
    by_test true t go_on = absurd (no_some (sym h ∙ ap (λ b. if b then Some e else find (after p) es) t))
    by_test false t go_on = go_on (sym (ap (λ b. if b then Some e else find (after p) es) t) ∙ h)

-- the first entry behind a serial, and then those behind its own
pub record FirstLater (p : ℕ) (es : List (Entry ℕ)) (x : Entry ℕ) : Type 0 where
  pub below : p < x.serial
  pub left : later p es ≡ x ∷ later x.serial es

pub later_first : (p from : ℕ) (es : List (Entry ℕ)) (to : ℕ) (x : Entry ℕ) → DoSerialsRise from es to → find (after p) es ≡ Some x → FirstLater p es x
later_first p from [] to x h e = absurd (no_some e)
later_first p from (y ∷ es) to x h e = by_test (nat_lt p y.serial) refl (later_first p y.serial es to x h.2)
  where
    itself : (s : ℕ) → (if nat_lt s s then y ∷ es else later s es) ≡ later s es
    itself s = by_self (nat_lt s s) refl
      where
        by_self : (b : Bool) → nat_lt s s ≡ b → (if b then y ∷ es else later s es) ≡ later s es
        by_self true t = absurd (omega (arith, ltb-true s s t))
        by_self false t = refl

    passed : (s : ℕ) → y.serial ≤ p → p < s → (if nat_lt s y.serial then y ∷ es else later s es) ≡ later s es
    passed s g l = by_order (nat_lt s y.serial) refl
      where
        by_order : (b : Bool) → nat_lt s y.serial ≡ b → (if b then y ∷ es else later s es) ≡ later s es
        by_order true t = absurd (omega (arith, g, l, ltb-true s y.serial t))
        by_order false t = refl

    by_test : (b : Bool) → nat_lt p y.serial ≡ b → (find (after p) es ≡ Some x → FirstLater p es x) → FirstLater p (y ∷ es) x
    by_test true t go_on =
        let same : y ≡ x = some_same (sym (ap (λ b. if b then Some y else find (after p) es) t) ∙ e) in
        record {
          below = (let up : y.serial ≡ x.serial = ap (λ (z : Entry ℕ). z.serial) same in omega (arith, up, ltb-true p y.serial t));
          left =
              ap (λ b. if b then y ∷ es else later p es) t
              ∙ ap (λ z. z ∷ es) same
              ∙ ap (λ zs. x ∷ zs) (sym (later_all y.serial es to h.2) ∙ sym (itself y.serial) ∙ ap (λ (z : Entry ℕ). later z.serial (y ∷ es)) same);
        }
    by_test false t go_on =
        let r = go_on (sym (ap (λ b. if b then Some y else find (after p) es) t) ∙ e) in
        record {
          below = r.below;
          left = ap (λ b. if b then y ∷ es else later p es) t ∙ r.left ∙ ap (λ zs. x ∷ zs) (sym (passed x.serial (ltb-false p y.serial t) r.below));
        }
