-- Appending to a text, in memories that differ in the numbers of their stores.
use Rattle.std.proofs.Common.{◌≡◌, ℕ, List, ◌++◌, refl, sym, ◌∙◌, ap, subst}
use Rattle.std.specs.Prelude.{Option, Some, None}
use Rattle.php_memdef.specs.declared.place.Place.{Place}
use Rattle.php_memdef.specs.Contents.{Content, null, truth, int, text, array, object, Item, value, link, Mem}
use Rattle.php_memdef.specs.Temporaries.{top, with_top}
use Rattle.php_memdef.specs.Writes.{assign, text_found, text_of_item, append}
use Rattle.php_memdef.specs.Views.{found}
use Rattle.php_memdef.specs.Sound.{IsClosed}
use Rattle.php_memdef.specs.Alike.{map_if, renamed_content, renamed_item, Alike}
use Rattle.php_memdef_laws.proofs.Alike.Scopes.{top-renamed, with_top-renamed}
use Rattle.php_memdef_laws.proofs.Alike.Views.{found-renamed}
use Rattle.php_memdef_laws.proofs.Alike.Walks.{assign-alike}
use Rattle.php_memdef_laws.proofs.Closed.Temporaries.{text_on_top-closed}

text_found-renamed : (to : ℕ → ℕ) (o : Option Content) → text_found (map_if (renamed_content to) o) ≡ text_found o
text_found-renamed to None = refl
text_found-renamed to (Some null) = refl
text_found-renamed to (Some (truth b)) = refl
text_found-renamed to (Some (int i)) = refl
text_found-renamed to (Some (text bytes)) = refl
text_found-renamed to (Some (array t)) = refl
text_found-renamed to (Some (object h)) = refl

text_of_item-renamed : (to : ℕ → ℕ) (i : Item) → text_of_item (renamed_item to i) ≡ text_of_item i
text_of_item-renamed to (link s) = refl
text_of_item-renamed to (value null) = refl
text_of_item-renamed to (value (truth b)) = refl
text_of_item-renamed to (value (int i)) = refl
text_of_item-renamed to (value (text bytes)) = refl
text_of_item-renamed to (value (array t)) = refl
text_of_item-renamed to (value (object h)) = refl

module _ (m n : Mem) (closed : IsClosed m) (a : Alike m n) where
  joined-alike : (b : ℕ) (p : Place) → text_found (found n p) ++ text_of_item (top n b) ≡ text_found (found m p) ++ text_of_item (top m b)
  joined-alike b p =
      let first : text_found (found n p) ≡ text_found (found m p) = ap text_found (found-renamed a.to a.back m n a.renamed p) ∙ text_found-renamed a.to (found m p) in
      let second : text_of_item (top n b) ≡ text_of_item (top m b) = ap text_of_item (top-renamed a.to a.back m n a.renamed b) ∙ text_of_item-renamed a.to (top m b) in
      ap (λ xs. xs ++ text_of_item (top n b)) first ∙ ap (λ ys. text_found (found m p) ++ ys) second

  assigned-alike : (b : ℕ) (p : Place) (bytes others : List ℕ) → others ≡ bytes → Alike (assign (with_top m b (value (text bytes))) b p).0 (assign (with_top n b (value (text others))) b p).0
  assigned-alike b p bytes others e =
      let r = with_top-renamed a.to a.back m n a.renamed b (value (text bytes)) in
      let before : Alike (with_top m b (value (text bytes))) (with_top n b (value (text bytes))) = record { to = a.to; back = a.back; renamed = r } in
      subst (λ (xs : List ℕ). Alike (assign (with_top m b (value (text bytes))) b p).0 (assign (with_top n b (value (text xs))) b p).0) (sym e) (assign-alike (with_top m b (value (text bytes))) (with_top n b (value (text bytes))) (text_on_top-closed m closed b bytes) before b p).0

  pub append-alike : (b : ℕ) (p : Place) → Alike (append m b p) (append n b p)
  unfolding append
  append-alike b p = assigned-alike b p (text_found (found m p) ++ text_of_item (top m b)) (text_found (found n p) ++ text_of_item (top n b)) (joined-alike b p)
