-- What changes of one part of a memory make of the shapes of its blocks.
use Rattle.std.proofs.Common.{◌≡◌, ℕ, zero, suc, List, [], ◌∷◌, ◌++◌, refl, sym, ◌∙◌, ap, inl, inr, cond}
use Rattle.std.specs.Prelude.{true, false, Option, Some, None, is_some, unwrap_or}
use Rattle.std.proofs.lemmas.Bool.Decides.{eqb_tells}
use Rattle.php_entries.specs.Listing.{Listing}
use Rattle.php_memdef.specs.Numbered.{numbered, with_numbered}
use Rattle.php_memdef.specs.Contents.{Content, Item, value, link, Variable, Scope, Mem, no_scope, scope_of}
use Rattle.php_memdef.specs.Places.{Spot, stored, standing, nth_item, with_nth_item, content_if, content_at, with_content, with_scope, elements_of}
use Rattle.php_memdef.specs.Temporaries.{with_temps, with_falling, pushed, rest_of, popped, top_of, turned, let_fall}
use Rattle.php_memdef.specs.Conditions.{IsBlock}
use Rattle.php_memdef_laws.specs.Shapes.{is_link_itself, kinds, Shape, shape, with_one, rest_of_kinds, top_of_kinds, without_top, kinds_turned, in_block}
use Rattle.php_memdef_laws.proofs.NumberedLemmas.{numbered-with_same, numbered-with_other}
use Rattle.php_memdef_laws.proofs.Held.Writes.{IsReal}

-- kinds of temporaries

pub rest_kinds : (is : List Item) → kinds (rest_of is) ≡ rest_of_kinds (kinds is)
rest_kinds [] = refl
rest_kinds (i ∷ is) = refl

pub top_kind : (is : List Item) → is_link_itself (top_of is) ≡ top_of_kinds (kinds is)
top_kind [] = refl
top_kind (i ∷ is) = refl

joined_kinds : (is js : List Item) → kinds (is ++ js) ≡ kinds is ++ kinds js
joined_kinds [] js = refl
joined_kinds (i ∷ is) js = ap (λ ks. is_link_itself i ∷ ks) (joined_kinds is js)

pub turned_kinds : (n : ℕ) (is before : List Item) → kinds (turned n is before) ≡ kinds_turned n (kinds is) (kinds before)
turned_kinds zero is before = joined_kinds before is
turned_kinds (suc n) [] before = refl
turned_kinds (suc n) (i ∷ is) before = turned_kinds n is (i ∷ before)

nth_kinds : (is : List Item) (k : ℕ) (c d : Content) → nth_item is k ≡ Some (value d) → kinds (with_nth_item is k (value c)) ≡ kinds is
nth_kinds [] k c d e = refl
nth_kinds (i ∷ is) zero c d e = ap (λ t. t ∷ kinds is) (first i e)
  where
    first : (i : Item) → Some i ≡ Some (value d) → false ≡ is_link_itself i
    first (value x) e = refl
    first (link s) e = cc
nth_kinds (i ∷ is) (suc k) c d e = ap (λ ks. is_link_itself i ∷ ks) (nth_kinds is k c d e)

-- one block and the others

pub in_block-self : (b c : ℕ) (f : ℕ → Shape) → in_block b c (f b) (f c) ≡ f c
in_block-self b c f = elim (eqb_tells c b) [
  | inl e ↦ ap (λ t. cond t (f b) (f c)) e.0 ∙ ap f (sym e.1)
  | inr e ↦ ap (λ t. cond t (f b) (f c)) e.0
]

abbrev shape_from : Option Scope → Shape
shape_from o = record { there = is_some o; room = (unwrap_or o no_scope).room; temps = kinds (unwrap_or o no_scope).temps }

abbrev pub shape_of : Scope → Shape
shape_of f = record { there = true; room = f.room; temps = kinds f.temps }

pub shape-numbered : (m : Mem) (b : ℕ) (o : Option Scope) (c : ℕ) → shape (record m { blocks = with_numbered m.blocks b o }) c ≡ in_block b c (shape_from o) (shape m c)
shape-numbered m b o c = elim (eqb_tells c b) [
  | inl e ↦ ap (λ k. shape_from (numbered (with_numbered m.blocks b o) k)) e.1 ∙ ap shape_from (numbered-with_same m.blocks b o) ∙ sym (ap (λ t. cond t (shape_from o) (shape m c)) e.0)
  | inr e ↦ ap shape_from (numbered-with_other m.blocks b c o e.1) ∙ sym (ap (λ t. cond t (shape_from o) (shape m c)) e.0)
]

pub shape-with_scope : (m : Mem) (b : ℕ) (f : Scope) (c : ℕ) → shape (with_scope m b f) c ≡ in_block b c (shape_of f) (shape m c)
shape-with_scope m b f c = shape-numbered m b (Some f) c

-- every block looks the same
abbrev pub AllSame : Mem → Mem → Type 0
AllSame m n = (c : ℕ) → shape n c ≡ shape m c

pub same_trans : (l m n : Mem) → AllSame l m → AllSame m n → AllSame l n
same_trans l m n a b c = b c ∙ a c

pub block_stays : (m n : Mem) → AllSame m n → (b : ℕ) → IsBlock m b → IsBlock n b
block_stays m n a b h = ap (λ s. s.there) (a b) ∙ h

pub shape_there : (m : Mem) (b : ℕ) → IsBlock m b → shape_of (scope_of m b) ≡ shape m b
shape_there m b h = ap (λ t. record { there = t; room = (scope_of m b).room; temps = kinds (scope_of m b).temps }) (sym h)

module _ (m : Mem) (b : ℕ) where
  scope_same : (f : Scope) → shape_of f ≡ shape m b → AllSame m (with_scope m b f)
  scope_same f e c = shape-with_scope m b f c ∙ ap (λ s. in_block b c s (shape m c)) e ∙ in_block-self b c (shape m)

  pub with_falling-same : IsBlock m b → (is : List Item) → AllSame m (with_falling m b is)
  with_falling-same h is = scope_same (record (scope_of m b) { falling = is }) (shape_there m b h)

  pub let_fall-same : IsBlock m b → (i : Item) → AllSame m (let_fall m b i)
  let_fall-same h i = with_falling-same h _

  pub with_variables-same : IsBlock m b → (vs : List Variable) → AllSame m (with_scope m b (record (scope_of m b) { variables = vs }))
  with_variables-same h vs = scope_same (record (scope_of m b) { variables = vs }) (shape_there m b h)

  pub shape-with_temps : IsBlock m b → (is : List Item) (c : ℕ) → shape (with_temps m b is) c ≡ in_block b c (record (shape m b) { temps = kinds is }) (shape m c)
  shape-with_temps h is c = shape-with_scope m b (record (scope_of m b) { temps = is }) c ∙ ap (λ t. in_block b c (record { there = t; room = (scope_of m b).room; temps = kinds is }) (shape m c)) (sym h)

  pub shape-pushed : IsBlock m b → (i : Item) (c : ℕ) → shape (pushed m b i) c ≡ in_block b c (with_one (is_link_itself i) (shape m b)) (shape m c)
  shape-pushed h i c = shape-with_temps h (i ∷ (scope_of m b).temps) c

  pub shape-popped : IsBlock m b → (c : ℕ) → shape (popped m b) c ≡ in_block b c (without_top (shape m b)) (shape m c)
  shape-popped h c = shape-with_temps h (rest_of (scope_of m b).temps) c ∙ ap (λ ks. in_block b c (record (shape m b) { temps = ks }) (shape m c)) (rest_kinds (scope_of m b).temps)

  temp_there : (k : ℕ) (d : Content) → nth_item (scope_of m b).temps k ≡ Some (value d) → IsBlock m b
  temp_there k d e = by_cases (numbered m.blocks b) e
    where
      by_cases : (o : Option Scope) → nth_item (unwrap_or o no_scope).temps k ≡ Some (value d) → is_some o ≡ true
      by_cases None e = absurd (no e)
        where
          no : None ≡ Some (value d) → ⊥
          no e = cc
      by_cases (Some f) e = refl

  pub standing-same : (k : ℕ) (x d : Content) → nth_item (scope_of m b).temps k ≡ Some (value d) → AllSame m (with_content m (standing b k) x)
  standing-same k x d e =
      scope_same (record (scope_of m b) { temps = with_nth_item (scope_of m b).temps k (value x) })
      (ap (λ ks. record { there = true; room = (scope_of m b).room; temps = ks }) (nth_kinds (scope_of m b).temps k x d e) ∙ shape_there m b (temp_there k d e))

pub with_content-same : (m : Mem) (spot : Spot) → IsReal m spot → (x : Content) → AllSame m (with_content m spot x)
with_content-same m (stored s) real x = λ c. refl
with_content-same m (standing b k) real x = standing-same m b k x real.0 real.1

-- a spot where an array stands is a store or a temporary that holds it
pub real_array : (m : Mem) (spot : Spot) (t : Listing ℕ) → elements_of (content_at m spot) ≡ Some t → IsReal m spot
real_array m (stored s) t e = tt
real_array m (standing b k) t e = by_cases (nth_item (scope_of m b).temps k) e
  where
    by_cases : (o : Option Item) → elements_of (content_if o) ≡ Some t → (d : Content) × (o ≡ Some (value d))
    by_cases None e = absurd (no e)
      where
        no : None ≡ Some t → ⊥
        no e = cc
    by_cases (Some (link s)) e = absurd (no e)
      where
        no : None ≡ Some t → ⊥
        no e = cc
    by_cases (Some (value d)) e = (d, refl)

-- a change of one block of a memory that looks as another one did
pub in_block-same : (m n : Mem) → AllSame m n → (b c : ℕ) (f : Shape → Shape) → in_block b c (f (shape n b)) (shape n c) ≡ in_block b c (f (shape m b)) (shape m c)
in_block-same m n a b c f = ap (λ s. in_block b c (f s) (shape n c)) (a b) ∙ ap (λ s. in_block b c (f (shape m b)) s) (a c)
