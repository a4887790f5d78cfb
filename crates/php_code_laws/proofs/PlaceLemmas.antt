-- How much of the code lies behind a place.
use Rattle.std.proofs.Common.{◌≡◌, ℕ, zero, suc, ◌+◌, ◌<◌, ◌≤◌, Bool, true, false, cond, List, [], ◌∷◌, length, Option, Some, None, refl, sym, ap, ◌∙◌, arith}
use Rattle.std.specs.Prelude.{slice_get, nat_le}
use Rattle.std.proofs.lemmas.Bool.Decides.{nat_tests}
use Rattle.std.proofs.lemmas.Option.{slice_get_past}
use Rattle.php_frames.specs.declared.completion.Completion.{Completion}
use Rattle.php_frames.specs.declared.ranges.HandlerRange.{HandlerRange}
use Rattle.php_frames.specs.Served.{serves_at, handler_from, handler_of}
use Rattle.php_code.specs.declared.instr.Instr.{Instr}
use Rattle.php_code.specs.declared.program.Function.{Function}
use Rattle.php_code.specs.Code.{Place, place, target_of, range_at, served_at}

abbrev at_or : ℕ → Option Place → ℕ
at_or n None = n
at_or n (Some c) = c.at

abbrev pub ends_of : List HandlerRange → ℕ
ends_of [] = 0
ends_of (r ∷ rs) = r.to + ends_of rs

abbrev pub span_in : Option Function → ℕ
span_in None = 0
span_in (Some g) = length g.code + ends_of g.ranges

-- no instruction and no range is behind this
abbrev pub span : List Function → ℕ
span [] = 0
span (g ∷ gs) = span_in (Some g) + span gs

-- nothing stands in an empty list
nothing : {A : Type 0} (xs : List A) (n : ℕ) → xs ≡ [] → slice_get xs n ≡ None
nothing xs n e = slice_get_past xs n (omega (arith, ap length e))

pub span-of : (functions : List Function) (f : ℕ) → span_in (slice_get functions f) ≤ span functions
span-of [] f = let none : List Function = [] in omega (arith, ap span_in (nothing none f refl))
span-of (g ∷ gs) zero = omega arith
span-of (g ∷ gs) (suc f) = let h = span-of gs f in omega (arith, h)

-- ---- instructions

pub within : (is : List Instr) (p : ℕ) (i : Instr) → slice_get is p ≡ Some i → p < length is
within [] p i h = let none : List Instr = [] in let e = nothing none p refl in absurd (cc)
within (j ∷ is) zero i h = omega arith
within (j ∷ is) (suc p) i h = let t = within is p i h in omega (arith, t)

-- ---- ranges

range-end : (rs : List HandlerRange) (n : ℕ) (r : HandlerRange) → slice_get rs n ≡ Some r → r.to ≤ ends_of rs
range-end [] n r h = let none : List HandlerRange = [] in let e = nothing none n refl in absurd (cc)
range-end (q ∷ rs) zero r h = let e : q ≡ r = cc in omega (arith, ap (λ (x : HandlerRange). x.to) e)
range-end (q ∷ rs) (suc n) r h = let t = range-end rs n r h in omega (arith, t)

-- the range of a handler holds the place
record Held (rs : List HandlerRange) (n p k : ℕ) : Type 0 where
  number : ℕ
  range : HandlerRange
  is : k ≡ n + number
  there : slice_get rs number ≡ Some range
  before : p < range.to

before-end : (r : HandlerRange) (p : ℕ) (why : Completion) → serves_at r p why ≡ true → p < r.to
before-end r p why h = grind (arith, nat_tests)

handler-held : (rs : List HandlerRange) (n p : ℕ) (why : Completion) (k : ℕ) → handler_from rs n p why ≡ Some k → Held rs n p k
handler-held [] n p why k h = absurd (cc)
handler-held (r ∷ rs) n p why k h = by (handler-held rs (suc n) p why k) (serves_at r p why) refl h
  where
    by : (handler_from rs (suc n) p why ≡ Some k → Held rs (suc n) p k) → (t : Bool) → serves_at r p why ≡ t → cond t (Some n) (handler_from rs (suc n) p why) ≡ Some k
        → Held (r ∷ rs) n p k
    by rest true e h =
        let same : n ≡ k = cc in
        record { number = 0; range = r; is = omega (arith, same); there = refl; before = before-end r p why e }
    by rest false e h =
        let t = rest h in
        record { number = suc t.number; range = t.range; is = omega (arith, t.is); there = t.there; before = t.before }

target-ahead : (f p : ℕ) (r : HandlerRange) (c : Place) → p < r.to → target_of f (Some r) ≡ Some c → p < c.at
target-ahead f p r c before h = by (nat_le r.to r.target) refl h
  where
    by : (t : Bool) → nat_le r.to r.target ≡ t → cond t (Some (place f r.target)) None ≡ Some c → p < c.at
    by true e h =
        let far : r.to ≤ r.target = grind (arith, nat_tests) in
        let at : r.target ≡ c.at = ap (λ (o : Option Place). at_or 0 o) h in
        omega (arith, far, at, before)
    by false e h = absurd (cc)

-- where a completion is served lies ahead, and something of the function lies behind the place
pub served-ahead : (rs : List HandlerRange) (f p : ℕ) (why : Completion) (c : Place) → served_at rs f p why ≡ Some c → (p < ends_of rs) × (p < c.at)
served-ahead rs f p why c h = by (handler_of rs p why) refl h
  where
    by : (o : Option ℕ) → handler_of rs p why ≡ o → target_of f (range_at rs o) ≡ Some c → (p < ends_of rs) × (p < c.at)
    by None e h = absurd (cc)
    by (Some k) e h =
        let t = handler-held rs 0 p why k e in
        let number : k ≡ t.number = omega (arith, t.is) in
        let there : slice_get rs k ≡ Some t.range = ap (slice_get rs) number ∙ t.there in
        let end = range-end rs t.number t.range t.there in
        (omega (arith, end, t.before), target-ahead f p t.range c t.before (sym (ap (target_of f) there) ∙ h))
