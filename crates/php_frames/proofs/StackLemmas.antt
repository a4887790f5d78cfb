-- A list with another last item, seen from its end.
use Rattle.std.proofs.Common.{◌≡◌, ◌≢◌, ℕ, ◌+◌, ◌-◌, List, [], ◌∷◌, ◌++◌, length, refl, sym, ap, ◌∙◌, arith}
use Rattle.std.specs.Prelude.{reverse, drop, slice_set}
use Rattle.std.proofs.lemmas.List.{length-append, reverse-append, reverse-reverse}
use Rattle.std.proofs.Math.Seq.{set-append_seam}

module _ {X : Type 0} where
  set_last : (ys : List X) (n : ℕ) (y x : X) → n ≡ length (reverse ys) → reverse (slice_set (reverse ys ++ y ∷ []) n x) ≡ x ∷ ys
  set_last ys n y x e =
      ap (λ k. reverse (slice_set (reverse ys ++ y ∷ []) k x)) e
      ∙ ap reverse (set-append_seam (reverse ys) y [] x)
      ∙ reverse-append (reverse ys) (x ∷ [])
      ∙ ap (λ zs. x ∷ zs) (reverse-reverse ys)

  set_last_of : (zs xs : List X) (n : ℕ) (x : X) → reverse xs ≡ zs → zs ≢ [] → n ≡ length xs - 1 → reverse (slice_set xs n x) ≡ x ∷ drop 1 zs
  set_last_of [] xs n x e some h = absurd (some refl)
  set_last_of (y ∷ ys) xs n x e some h =
      let split : xs ≡ reverse ys ++ y ∷ [] = sym (reverse-reverse xs) ∙ ap reverse e ∙ reverse-append (y ∷ []) ys in
      let many : length xs ≡ length (reverse ys) + 1 = ap length split ∙ length-append (reverse ys) (y ∷ []) in
      ap (λ l. reverse (slice_set l n x)) split ∙ set_last ys n y x (omega (arith, h, many))

  -- the list with another last item, from its end
  pub reverse-set_last : (xs now : List X) (n : ℕ) (x : X) → now ≡ reverse xs → now ≢ [] → n ≡ length xs - 1 → reverse (slice_set xs n x) ≡ x ∷ drop 1 now
  reverse-set_last xs now n x e some h = set_last_of now xs n x (sym e) some h
