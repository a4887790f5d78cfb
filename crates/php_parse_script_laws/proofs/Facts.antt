-- What a parser says with its answers, and that they exclude one another by it.
use Rattle.std.proofs.Common.{◌≡◌, ◌≤◌, ℕ, None, List, sym, ◌∙◌, ap}
use Rattle.php_grammar.specs.TooDeep.{first_too_deep}
use Rattle.php_parse_script_laws.proofs.Alone.{Further, Reached, Sunk, Shallow, same_reach, read_is_not_deep, syntax_is_not_deep, same_depth}
use Rattle.php_parse_script_laws.proofs.Results.{Excludes}

-- `end` is the place behind what is read, `line` the line of a place.
pub record Facts {S A X : Type 0} (spells : A → List S → Type 0) (nests : A → List ℕ) (d at count : ℕ) (front : ℕ → List S) (grows : (k j : ℕ) → k ≤ j → Further (front k) (front j))
    (line : ℕ → ℕ) (end : X → ℕ) (Is Flat : X → Type 0) (IsSyntax IsDeep : ℕ → ℕ → Type 0) : Type 0 where
  pub form : X → A
  pub read_reached : (x : X) → Is x → Reached spells nests d at count front grows (end x)
  pub read_spelled : (x : X) → Is x → spells (form x) (front (end x))
  pub read_shallow : (x : X) → Is x → first_too_deep d (nests (form x)) ≡ None
  pub one_tree : (x y : X) → Is x → Is y → Flat x → Flat y → end x ≡ end y → x ≡ y
  pub syntax_reached : (k l : ℕ) → IsSyntax k l → Reached spells nests d at count front grows k
  pub syntax_shallow : (k l : ℕ) → IsSyntax k l → Shallow spells nests d at count front grows k
  pub unspelled : (x : X) (k l : ℕ) → Is x → IsSyntax k l → end x ≡ k → ⊥
  pub syntax_line : (k l : ℕ) → IsSyntax k l → l ≡ line k
  pub sunk : (k l : ℕ) → IsDeep k l → Sunk spells nests d at count front grows k
  pub deep_line : (k l : ℕ) → IsDeep k l → l ≡ line k

pub excludes : {S A X : Type 0} (spells : A → List S → Type 0) (nests : A → List ℕ) (d at count : ℕ) (front : ℕ → List S) (grows : (k j : ℕ) → k ≤ j → Further (front k) (front j))
    (line : ℕ → ℕ) (end : X → ℕ) (Is Flat : X → Type 0) (IsSyntax IsDeep : ℕ → ℕ → Type 0)
    → Facts spells nests d at count front grows line end Is Flat IsSyntax IsDeep → Excludes Is Flat IsSyntax IsDeep
excludes spells nests d at count front grows line end Is Flat IsSyntax IsDeep f = record {
  one_read = λ x y a b p q. f.one_tree x y a b p q (same_reach spells nests d at count front grows (end x) (end y) (f.read_reached x a) (f.read_reached y b));
  no_syntax = λ x k l a b. f.unspelled x k l a b (same_reach spells nests d at count front grows (end x) k (f.read_reached x a) (f.syntax_reached k l b));
  no_deep = λ x k l a b. read_is_not_deep spells nests d at count front grows (end x) k (f.form x) (f.read_reached x a) (f.read_spelled x a) (f.read_shallow x a) (f.sunk k l b);
  one_syntax = λ k l j m a b.
      let place = same_reach spells nests d at count front grows k j (f.syntax_reached k l a) (f.syntax_reached j m b) in
      (place, f.syntax_line k l a ∙ ap line place ∙ sym (f.syntax_line j m b));
  not_both = λ k l j m a b. syntax_is_not_deep spells nests d at count front grows k j (f.syntax_reached k l a) (f.syntax_shallow k l a) (f.sunk j m b);
  one_deep = λ k l j m a b.
      let place = same_depth spells nests d at count front grows k j (f.sunk k l a) (f.sunk j m b) in
      (place, f.deep_line k l a ∙ ap line place ∙ sym (f.deep_line j m b));
}
