-- The top temporary leaves its block, whatever spot it goes to.
use Rattle.std.proofs.Common.{◌≡◌, ◌≢◌, ℕ, zero, suc, ◌-◌, ◌<◌, List, [], ◌∷◌, refl, sym, ◌∙◌, ap, arith, inl, inr}
use Rattle.std.specs.Prelude.{Option, Some, None, unwrap_or, cond}
use Rattle.std.proofs.lemmas.Bool.Decides.{eqb_tells}
use Rattle.php_memdef.specs.Numbered.{Numbered, with_numbered}
use Rattle.php_memdef.specs.Contents.{Content, Item, value, Scope, Mem, no_scope, scope_of}
use Rattle.php_memdef.specs.Places.{Spot, stored, standing, nth_item, with_nth_item, content_if, content_at, with_content, with_scope}
use Rattle.php_memdef.specs.Temporaries.{rest_of, popped}
use Rattle.php_memdef_laws.proofs.NumberedLemmas.{numbered-with_other}
use Rattle.php_memplain_cells.proofs.FallingLemmas.{scope_again, scope_twice}
use Rattle.php_memplain_writes.specs.Moving.{IsSpotBelow, spot_below}

nth_below : (is : List Item) (k : ℕ) → nth_item (rest_of is) k ≡ nth_item is (suc k)
nth_below [] k = refl
nth_below (i ∷ is) k = refl

with_below : (is : List Item) (k : ℕ) (j : Item) → with_nth_item (rest_of is) k j ≡ rest_of (with_nth_item is (suc k) j)
with_below [] k j = refl
with_below (i ∷ is) k j = refl

-- changes under two numbers
pub with_either : {X : Type 0} (xs : Numbered X) (b c : ℕ) (x y : Option X) → c ≢ b → with_numbered (with_numbered xs b x) c y ≡ with_numbered (with_numbered xs c y) b x
with_either [] zero zero x y ne = absurd (ne refl)
with_either [] zero (suc c) x y ne = refl
with_either [] (suc b) zero x y ne = refl
with_either [] (suc b) (suc c) x y ne = ap (λ ys. None ∷ ys) (with_either [] b c x y (λ e. ne (ap suc e)))
with_either (z ∷ xs) zero zero x y ne = absurd (ne refl)
with_either (z ∷ xs) zero (suc c) x y ne = refl
with_either (z ∷ xs) (suc b) zero x y ne = refl
with_either (z ∷ xs) (suc b) (suc c) x y ne = ap (λ ys. z ∷ ys) (with_either xs b c x y (λ e. ne (ap suc e)))

pub up_one : (k : ℕ) → 0 < k → k ≡ suc (k - 1)
up_one k some = omega (arith, some)

module _ (m : Mem) (b : ℕ) where
  without_top : Scope
  without_top = record (scope_of m b) { temps = rest_of (scope_of m b).temps }

  other_scope : (c : ℕ) → c ≢ b → (f : Scope) → scope_of (with_scope m b f) c ≡ scope_of m c
  other_scope c ne f = ap (λ o. unwrap_or o no_scope) (numbered-with_other m.blocks b c (Some f) ne)

  pub item_here : (k : ℕ) → nth_item (scope_of (popped m b) b).temps k ≡ nth_item (scope_of m b).temps (suc k)
  item_here k = ap (λ (x : Scope). nth_item x.temps k) (scope_again m b (record (scope_of m b) { temps = rest_of (scope_of m b).temps })) ∙ nth_below (scope_of m b).temps k

  pub item_there : (c k : ℕ) → c ≢ b → nth_item (scope_of (popped m b) c).temps k ≡ nth_item (scope_of m c).temps k
  item_there c k ne = ap (λ (x : Scope). nth_item x.temps k) (other_scope c ne (record (scope_of m b) { temps = rest_of (scope_of m b).temps }))

  content_here : (k : ℕ) → content_at (popped m b) (standing b k) ≡ content_at m (standing b (suc k))
  content_here k = ap (λ (x : Scope). content_if (nth_item x.temps k)) (scope_again m b (record (scope_of m b) { temps = rest_of (scope_of m b).temps })) ∙ ap content_if (nth_below (scope_of m b).temps k)

  content_there : (c k : ℕ) → c ≢ b → content_at (popped m b) (standing c k) ≡ content_at m (standing c k)
  content_there c k ne = ap (λ (x : Scope). content_if (nth_item x.temps k)) (other_scope c ne (record (scope_of m b) { temps = rest_of (scope_of m b).temps }))

  pub content_below : (spot : Spot) → IsSpotBelow b spot → content_at (popped m b) (spot_below b spot) ≡ content_at m spot
  content_below (stored s) h = refl
  content_below (standing c k) h = elim (eqb_tells c b) [
    | inl e ↦
        ap (λ t. content_at (popped m b) (cond t (standing c (k - 1)) (standing c k))) e.0
        ∙ ap (λ x. content_at (popped m b) (standing x (k - 1))) e.1
        ∙ content_here (k - 1)
        ∙ ap (λ x. content_at m (standing b x)) (sym (up_one k (h e.1)))
        ∙ ap (λ x. content_at m (standing x k)) (sym e.1)
    | inr e ↦ ap (λ t. content_at (popped m b) (cond t (standing c (k - 1)) (standing c k))) e.0 ∙ content_there c k e.1
  ]

  put_here : (k : ℕ) (c : Content) → with_content (popped m b) (standing b k) c ≡ popped (with_content m (standing b (suc k)) c) b
  put_here k c =
      let f = scope_of m b in
      let g : Scope = record f { temps = rest_of f.temps } in
      let h : Scope = record f { temps = with_nth_item f.temps (suc k) (value c) } in
      ap (λ (x : Scope). with_scope (popped m b) b (record x { temps = with_nth_item x.temps k (value c) })) (scope_again m b g)
      ∙ scope_twice m b g (record f { temps = with_nth_item (rest_of f.temps) k (value c) })
      ∙ ap (λ (is : List Item). with_scope m b (record f { temps = is })) (with_below f.temps k (value c))
      ∙ sym (ap (λ (x : Scope). with_scope (with_scope m b h) b (record x { temps = rest_of x.temps })) (scope_again m b h) ∙ scope_twice m b h (record f { temps = rest_of h.temps }))

  put_there : (d k : ℕ) (c : Content) → d ≢ b → with_content (popped m b) (standing d k) c ≡ popped (with_content m (standing d k) c) b
  put_there d k c ne =
      let f = scope_of m b in
      let g : Scope = record f { temps = rest_of f.temps } in
      let o = scope_of m d in
      let h : Scope = record o { temps = with_nth_item o.temps k (value c) } in
      ap (λ (x : Scope). with_scope (popped m b) d (record x { temps = with_nth_item x.temps k (value c) })) (other_scope d ne g)
      ∙ ap (λ bs. record m { blocks = bs }) (with_either m.blocks b d (Some g) (Some h) ne)
      ∙ sym (ap (λ (x : Scope). with_scope (with_scope m d h) b (record x { temps = rest_of x.temps })) (ap (λ o. unwrap_or o no_scope) (numbered-with_other m.blocks d b (Some h) (λ e. ne (sym e)))))

  pub put_below : (spot : Spot) → IsSpotBelow b spot → (c : Content) → with_content (popped m b) (spot_below b spot) c ≡ popped (with_content m spot c) b
  put_below (stored s) h c = refl
  put_below (standing d k) h c = elim (eqb_tells d b) [
    | inl e ↦
        ap (λ t. with_content (popped m b) (cond t (standing d (k - 1)) (standing d k)) c) e.0
        ∙ ap (λ x. with_content (popped m b) (standing x (k - 1)) c) e.1
        ∙ put_here (k - 1) c
        ∙ ap (λ x. popped (with_content m (standing b x) c) b) (sym (up_one k (h e.1)))
        ∙ ap (λ x. popped (with_content m (standing x k) c) b) (sym e.1)
    | inr e ↦ ap (λ t. with_content (popped m b) (cond t (standing d (k - 1)) (standing d k)) c) e.0 ∙ put_there d k c e.1
  ]
