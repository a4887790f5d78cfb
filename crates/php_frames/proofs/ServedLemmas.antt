-- The first range that serves a completion is the innermost one that does.
use Rattle.std.proofs.Common.{◌≡◌, ℕ, zero, suc, ◌+◌, ◌<◌, ◌≤◌, true, false, List, [], ◌∷◌, Option, Some, None, refl, sym, ap, ◌∙◌, subst, ⊎_elim, arith}
use Rattle.std.specs.Prelude.{nat_le, nat_lt, cond, slice_get, IfSome}
use Rattle.std.proofs.lemmas.Bool.{and_parts, cases_Bool, false≢true, leb-true, ltb-true}
use Rattle.php_frames.specs.declared.completion.Completion.{Completion}
use Rattle.php_frames.specs.declared.ranges.HandlerRange.{HandlerRange}
use Rattle.php_frames.specs.Served.{does_serve, holds_place, serves_at, handler_from, handler_of, IsWithin, MayPrecede, MayPrecedeAll, AreNested, IsNearest}

-- where a range serves, the place is in it
holds : (r : HandlerRange) (at : ℕ) (why : Completion) → serves_at r at why ≡ true → (r.from ≤ at) × (at < r.to)
holds r at why e =
    let p = and_parts (holds_place r at) (does_serve r.serves why) e in
    let q = and_parts (nat_le r.from at) (nat_lt at r.to) p.0 in
    (leb-true r.from at q.0, ltb-true at r.to q.1)

-- of two ranges that hold one place, the first one is within the second
within : (r q : HandlerRange) (at : ℕ) → (r.from ≤ at) × (at < r.to) → (q.from ≤ at) × (at < q.to) → MayPrecede r q → IsWithin r q
within r q at hr hq h =
    ⊎_elim
    (λ apart. absurd (let a = hr.1 in let b = hq.0 in omega (arith, apart, a, b)))
    (λ rest. ⊎_elim (λ apart. absurd (let a = hr.0 in let b = hq.1 in omega (arith, apart, a, b))) (λ inside. inside) rest)
    h

abbrev MayPrecedeIf : HandlerRange → Option HandlerRange → Type 0
MayPrecedeIf r None = Unit {0}
MayPrecedeIf r (Some q) = MayPrecede r q

MayPrecedeAll-get : (rs : List HandlerRange) (r : HandlerRange) (m : ℕ) (q : HandlerRange) → MayPrecedeAll r rs → slice_get rs m ≡ Some q → MayPrecede r q
MayPrecedeAll-get [] r m q h e = absurd cc
MayPrecedeAll-get (x ∷ rs) r zero q h e = subst (λ o. MayPrecedeIf r o) e h.0
MayPrecedeAll-get (x ∷ rs) r (suc m) q h e = MayPrecedeAll-get rs r m q h.1 e

-- the range of this number, counted from k, serves at the place and lies within each other one that does
abbrev Nearest : List HandlerRange → ℕ → ℕ → Completion → ℕ → Type 0
Nearest rs k at why n =
    (i : ℕ) × (k + i ≡ n) × (r : HandlerRange) × (slice_get rs i ≡ Some r) × (serves_at r at why ≡ true)
    × ((m : ℕ) (q : HandlerRange) → slice_get rs m ≡ Some q → serves_at q at why ≡ true → IsWithin r q)

abbrev NearestIf : List HandlerRange → ℕ → ℕ → Completion → Option ℕ → Type 0
NearestIf rs k at why None = Unit {0}
NearestIf rs k at why (Some n) = Nearest rs k at why n

-- each other range that serves lies around the one
abbrev AreAround : List HandlerRange → ℕ → Completion → HandlerRange → Type 0
AreAround rs at why r = (m : ℕ) (q : HandlerRange) → slice_get rs m ≡ Some q → serves_at q at why ≡ true → IsWithin r q

abbrev range_or : HandlerRange → Option HandlerRange → HandlerRange
range_or r None = r
range_or r (Some q) = q

around_first : (r : HandlerRange) (rs : List HandlerRange) (at : ℕ) (why : Completion) → MayPrecedeAll r rs → serves_at r at why ≡ true → AreAround (r ∷ rs) at why r
around_first r rs at why before e zero q f s = subst (λ x. IsWithin r x) (ap (range_or r) f) (omega arith, omega arith)
around_first r rs at why before e (suc m) q f s = within r q at (holds r at why e) (holds q at why s) (MayPrecedeAll-get rs r m q before f)

around_later : (r x : HandlerRange) (rs : List HandlerRange) (at : ℕ) (why : Completion) → serves_at x at why ≡ false → AreAround rs at why r → AreAround (x ∷ rs) at why r
around_later r x rs at why e around zero q f s = absurd (false≢true (sym (subst (λ y. serves_at y at why ≡ false) (ap (range_or x) f) e) ∙ s))
around_later r x rs at why e around (suc m) q f s = around m q f s

-- the first range serves
first_nearest : (r : HandlerRange) (rs : List HandlerRange) (k at : ℕ) (why : Completion) → MayPrecedeAll r rs → serves_at r at why ≡ true → Nearest (r ∷ rs) k at why k
first_nearest r rs k at why before e = (zero, omega arith, r, refl, e, around_first r rs at why before e)

-- it doesn't, so one behind it does, or none
later_nearest : (x : HandlerRange) (rs : List HandlerRange) (k at : ℕ) (why : Completion) (o : Option ℕ) → serves_at x at why ≡ false → NearestIf rs (suc k) at why o → NearestIf (x ∷ rs) k at why o
later_nearest x rs k at why None e h = tt
later_nearest x rs k at why (Some n) e h = (suc h.0, (let p = h.1 in omega (arith, p)), h.2, h.3, h.4, around_later h.2 x rs at why e h.5)

nearest_if : (rs : List HandlerRange) (k at : ℕ) (why : Completion) → AreNested rs → NearestIf rs k at why (handler_from rs k at why)
nearest_if [] k at why h = tt
nearest_if (r ∷ rs) k at why h =
    ⊎_elim
    (λ e. subst (λ b. NearestIf (r ∷ rs) k at why (cond b (Some k) (handler_from rs (suc k) at why))) (sym e) (first_nearest r rs k at why h.1.0 e))
    (λ e. subst (λ b. NearestIf (r ∷ rs) k at why (cond b (Some k) (handler_from rs (suc k) at why))) (sym e)
    (later_nearest r rs k at why (handler_from rs (suc k) at why) e (nearest_if rs (suc k) at why h.1.1)))
    (cases_Bool (serves_at r at why))

nearest_of : (rs : List HandlerRange) (at : ℕ) (why : Completion) (n : ℕ) → Nearest rs 0 at why n → IsNearest rs at why n
nearest_of rs at why n h =
    let place : h.0 ≡ n = (let e = h.1 in omega (arith, e)) in
    (h.2, subst (λ k. slice_get rs k ≡ Some h.2) place h.3, h.4, h.5)

nearest_if_some : (rs : List HandlerRange) (at : ℕ) (why : Completion) (o : Option ℕ) → NearestIf rs 0 at why o → IfSome o (λ n. IsNearest rs at why n)
nearest_if_some rs at why None h = tt
nearest_if_some rs at why (Some n) h = nearest_of rs at why n h

pub handler_of-nearest : (rs : List HandlerRange) (at : ℕ) (why : Completion) (o : Option ℕ) → AreNested rs → o ≡ handler_of rs at why → IfSome o (λ n. IsNearest rs at why n)
handler_of-nearest rs at why o nested e = nearest_if_some rs at why o (subst (λ u. NearestIf rs 0 at why u) (sym e) (nearest_if rs 0 at why nested))
