-- Temporaries that are there.
use Rattle.std.proofs.Common.{◌≡◌, ℕ, zero, suc, ◌<◌, true, List, [], ◌∷◌, length, Option, Some, None, refl, sym, ap, ◌∙◌, arith}
use Rattle.std.specs.Prelude.{is_some, unwrap_or}
use Rattle.php_memdef.specs.Numbered.{numbered}
use Rattle.php_memdef.specs.Contents.{Content, Item, Scope, Mem, no_scope, scope_of}
use Rattle.php_memdef.specs.Conditions.{IsPlace}
use Rattle.php_memdef.specs.Places.{nth_item, temp_spot, find_place}
use Rattle.php_memdef.specs.Views.{content_if_found}
use Rattle.php_memdef.specs.Meanings.{SomeMeant}
use Rattle.php_memdef.specs.declared.place.Place.{Place}
use Rattle.php_actions.specs.Steps.{temp, operand}
use Rattle.php_vm_actions.specs.Operands.{HasOperand}
use Rattle.std.proofs.Common.{subst, Ok}
use Rattle.std.specs.Prelude.{nat_lt}
use Rattle.php_value.specs.declared.scalar.Scalar.TheVariants as scalar
use Rattle.php_value.specs.Key.{bit_of}
use Rattle.php_entries.specs.Listing.{Listing, count_of}
use Rattle.php_memdef.specs.declared.answer.Peek.{Peek}
use Rattle.php_memdef.specs.declared.answer.Peek.TheVariants.{Absent, Null, Bool as Truth, Int, Str, Arr, Obj}
use Rattle.php_memdef.specs.Views.{Shows, found}
use Rattle.php_actions.specs.Contents.{has_entries, truth_of, is_null}
use Rattle.php_vm_actions.specs.Looks.{operand_seen, truth_seen, null_seen}
use Rattle.php_vm_actions.specs.Operands.{Sees}
use Rattle.php_vm_actions.specs.declared.operands.Operand.TheVariants as operand_is

some_same : {A : Type 0} {a b : A} → Some b ≡ Some a → a ≡ b
some_same h = cc

nth_within : (is : List Item) (n : ℕ) (i : Item) → nth_item is n ≡ Some i → n < length is
nth_within [] n i h = absurd (cc)
nth_within (j ∷ is) zero i h = omega arith
nth_within (j ∷ is) (suc n) i h = let r = nth_within is n i h in omega (arith, r)

there : (o : Option Scope) (n : ℕ) (i : Item) → nth_item (unwrap_or o no_scope).temps n ≡ Some i → is_some o ≡ true
there None n i h = absurd (cc)
there (Some f) n i h = refl

item_of : (m : Mem) (b n : ℕ) (o : Option Item) (x : Content) → content_if_found m (temp_spot b n o) ≡ Some x → (i : Item) × (o ≡ Some i)
item_of m b n None x h = absurd (cc)
item_of m b n (Some i) x h = (i, refl)

pub operand_place : (m : Mem) (b n : ℕ) (x : Content) → operand m b n ≡ Some x → IsPlace m (temp b n)
unfolding find_place
operand_place m b n x h =
    let i = item_of m b n (nth_item (scope_of m b).temps n) x h in
    ((there (numbered m.blocks b) n i.0 i.1, nth_within (scope_of m b).temps n i.0 i.1), tt)

pub operand_meant : (Means : Mem → Type 0) (b n : ℕ) (p : Place) → p ≡ temp b n → SomeMeant Means (HasOperand b n) → SomeMeant Means (λ m. IsPlace m p)
operand_meant Means b n p e (m, h, (x, k)) = (m, h, subst (λ q. IsPlace m q) (sym e) (operand_place m b n x k))

-- ---- what is seen

entries_counted : (t : Listing ℕ) (n : ℕ) → n ≡ count_of t → has_entries t ≡ nat_lt 0 n
entries_counted t n e = ap (λ k. nat_lt 0 k) (sym e)

sees_of : (look : Peek) (x : Content) → Shows look (Some x) → Sees (operand_seen look) x
sees_of Absent x h = absurd (cc)
sees_of Null x h = subst (Sees (operand_is.Scalar scalar.Null)) (some_same h) (record { scalar = refl; truth = refl; text = refl; number = refl; int = refl; array = refl })
sees_of (Truth b) x h = subst (Sees (operand_is.Scalar (scalar.Bool b))) (some_same h) (record { scalar = refl; truth = refl; text = refl; number = refl; int = refl; array = refl })
sees_of (Int i) x h = subst (Sees (operand_is.Scalar (scalar.Int i))) (some_same h) (record { scalar = refl; truth = refl; text = refl; number = refl; int = refl; array = refl })
sees_of (Str t) x h = subst (Sees (operand_is.Scalar (scalar.Str t.now))) (some_same h) (record { scalar = refl; truth = refl; text = refl; number = refl; int = refl; array = refl })
sees_of (Arr n) x h =
    let e = entries_counted h.0 n h.2 in
    subst (Sees (operand_is.Array (nat_lt 0 n))) (some_same h.1)
    (record { scalar = refl; truth = e; text = refl; number = refl; int = ap (λ b. Some (Ok (scalar.Int (bit_of b)))) e; array = refl })
sees_of (Obj h) x k = subst (Sees operand_is.Object) (some_same k) (record { scalar = refl; truth = refl; text = refl; number = refl; int = refl; array = refl })

truth_shown : (look : Peek) (x : Content) → Shows look (Some x) → truth_seen look ≡ truth_of x
truth_shown look x h = by look h (sees_of look x h)
  where
    by : (look : Peek) → Shows look (Some x) → Sees (operand_seen look) x → truth_seen look ≡ truth_of x
    by Absent h s = sym s.truth
    by Null h s = sym s.truth
    by (Truth b) h s = sym s.truth
    by (Int i) h s = sym s.truth
    by (Str t) h s = sym s.truth
    by (Arr n) h s = sym s.truth
    by (Obj o) h s = sym s.truth

null_shown : (look : Peek) (x : Content) → Shows look (Some x) → null_seen look ≡ is_null x
null_shown Absent x h = absurd (cc)
null_shown Null x h = ap is_null (some_same h)
null_shown (Truth b) x h = ap is_null (some_same h)
null_shown (Int i) x h = ap is_null (some_same h)
null_shown (Str t) x h = ap is_null (some_same h)
null_shown (Arr n) x h = ap is_null (some_same h.1)
null_shown (Obj o) x h = ap is_null (some_same h)

module _ (m : Mem) (b n : ℕ) (p : Place) (p_is : p ≡ temp b n) (look : Peek) (shows : Shows look (found m p)) (x : Content) (is : operand m b n ≡ Some x) where
  shows_it : Shows look (Some x)
  shows_it = subst (Shows look) (ap (λ q. found m q) p_is ∙ is) shows

  pub sees : Sees (operand_seen look) x
  sees = sees_of look x shows_it

  pub sees_truth : truth_seen look ≡ truth_of x
  sees_truth = truth_shown look x shows_it

  pub sees_null : null_seen look ≡ is_null x
  sees_null = null_shown look x shows_it
