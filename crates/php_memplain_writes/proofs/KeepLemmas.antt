-- What a write's way leaves of blocks.
use Rattle.std.proofs.Common.{◌≡◌, ◌≢◌, ℕ, zero, suc, List, [], ◌∷◌, ◌++◌, length, refl, sym, ◌∙◌, ap, subst, inl, inr}
use Rattle.std.specs.Prelude.{Some, unwrap_or}
use Rattle.std.proofs.lemmas.Bool.Decides.{eqb_tells}
use Rattle.php_memdef.specs.declared.place.Base.{Base}
use Rattle.php_memdef.specs.declared.place.Base.TheVariants.{Var, Property as OfObject, Static, Temp}
use Rattle.php_memdef.specs.Numbered.{Numbered}
use Rattle.php_memdef.specs.Contents.{Content, Item, value, Scope, Mem, no_scope, scope_of}
use Rattle.php_memdef.specs.Places.{Spot, stored, standing, with_nth_item, with_content, with_scope}
use Rattle.php_memdef_laws.proofs.NumberedLemmas.{numbered-with_other, live-with}
use Rattle.php_memplain_cells.proofs.FallingLemmas.{scope_again}
use Rattle.php_memplain_writes.specs.Reached.{with_base}
use Rattle.php_memplain_writes.specs.Keeps.{HasValueFirst, KeepsBlocks}
use Rattle.php_memplain_writes.proofs.AgreeLemmas.{with_stores_of}

pub keeps_itself : (m : Mem) → KeepsBlocks m m
keeps_itself m = record { blocks = λ b h. h; room = λ b. refl; count = λ b. refl; values = λ b h. h }

module _ (m : Mem) (b : ℕ) (g : Scope) where
  scope_beside : (c : ℕ) → c ≢ b → scope_of (with_scope m b g) c ≡ scope_of m c
  scope_beside c ne = ap (λ o. unwrap_or o no_scope) (numbered-with_other m.blocks b c (Some g) ne)

  -- another scope with as many temporaries and as much room
  pub scope_keeps : g.room ≡ (scope_of m b).room → length g.temps ≡ length (scope_of m b).temps → (HasValueFirst (scope_of m b).temps → HasValueFirst g.temps) → KeepsBlocks m (with_scope m b g)
  scope_keeps room count top = record {
    blocks = λ c h. live-with m.blocks b g c h;
    room = λ c. elim (eqb_tells c b) [
      | inl e ↦ ap (λ x. (scope_of (with_scope m b g) x).room) e.1 ∙ ap (λ (f : Scope). f.room) (scope_again m b g) ∙ room ∙ sym (ap (λ x. (scope_of m x).room) e.1)
      | inr e ↦ ap (λ (f : Scope). f.room) (scope_beside c e.1)
    ];
    count = λ c. elim (eqb_tells c b) [
      | inl e ↦ ap (λ x. length (scope_of (with_scope m b g) x).temps) e.1 ∙ ap (λ (f : Scope). length f.temps) (scope_again m b g) ∙ count ∙ sym (ap (λ x. length (scope_of m x).temps) e.1)
      | inr e ↦ ap (λ (f : Scope). length f.temps) (scope_beside c e.1)
    ];
    values = λ c h. elim (eqb_tells c b) [
      | inl e ↦
          subst (λ x. HasValueFirst (scope_of (with_scope m b g) x).temps) (sym e.1)
          (subst (λ (f : Scope). HasValueFirst f.temps) (sym (scope_again m b g)) (top (subst (λ x. HasValueFirst (scope_of m x).temps) e.1 h)))
      | inr e ↦ subst (λ (f : Scope). HasValueFirst f.temps) (sym (scope_beside c e.1)) h
    ];
  }

pub base_keeps : (m : Mem) (base : Base) (xs : Numbered Content) (s : ℕ) → KeepsBlocks m (with_base base (with_stores_of m xs) s)
base_keeps m (Var b n) xs s =
    let f = scope_of m b.0 in
    let g : Scope = record f { variables = f.variables ++ record { name = n.0; store = s } ∷ [] } in
    let k = scope_keeps m b.0 g refl refl (λ h. h) in
    record { blocks = k.blocks; room = k.room; count = k.count; values = k.values }
base_keeps m (OfObject h p) xs s = record { blocks = λ b h. h; room = λ b. refl; count = λ b. refl; values = λ b h. h }
base_keeps m (Static i) xs s = record { blocks = λ b h. h; room = λ b. refl; count = λ b. refl; values = λ b h. h }
base_keeps m (Temp b n) xs s = record { blocks = λ b h. h; room = λ b. refl; count = λ b. refl; values = λ b h. h }

nth_count : (is : List Item) (k : ℕ) (j : Item) → length (with_nth_item is k j) ≡ length is
nth_count [] k j = refl
nth_count (i ∷ is) zero j = refl
nth_count (i ∷ is) (suc k) j = ap suc (nth_count is k j)

nth_first : (is : List Item) (k : ℕ) (c : Content) → HasValueFirst is → HasValueFirst (with_nth_item is k (value c))
nth_first [] k c h = h
nth_first (i ∷ is) zero c h = (c, refl)
nth_first (i ∷ is) (suc k) c h = h

pub content_keeps : (m : Mem) (spot : Spot) (xs : Numbered Content) (c : Content) → KeepsBlocks m (with_content (with_stores_of m xs) spot c)
content_keeps m (stored s) xs c = record { blocks = λ b h. h; room = λ b. refl; count = λ b. refl; values = λ b h. h }
content_keeps m (standing b k) xs c =
    let f = scope_of m b in
    let g : Scope = record f { temps = with_nth_item f.temps k (value c) } in
    let q = scope_keeps m b g refl (nth_count f.temps k (value c)) (nth_first f.temps k c) in
    record { blocks = q.blocks; room = q.room; count = q.count; values = q.values }
