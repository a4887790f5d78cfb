-- The expressions of trees that are made or grow.
use Rattle.std.proofs.Common.{◌≡◌, ℕ, ℤ, List, [], ◌∷◌, ◌++◌, map, refl, sym, ◌∙◌, ap}
use Rattle.php_first_tree.specs.declared.Atom.{Atom}
use Rattle.php_first_tree.specs.declared.Atom.TheVariants.{Int, Variable, Group, rolls-Int, rolls-Variable, rolls-Group}
use Rattle.php_first_tree.specs.declared.Atom.TheOpen.{Atom-F}
use Rattle.php_first_tree.specs.declared.Atom.TheFolds.{fold-roll-Atom}
use Rattle.php_first_tree.specs.declared.Product.{Product}
use Rattle.php_first_tree.specs.declared.Sum.{Sum}
use Rattle.php_first_tree.specs.declared.Term.{Term}
use Rattle.php_first_tree.specs.Expression.{Expression, int, variable, group, times, product_from, product, joined, sum_from, atom_step, atom_view, term_parts, product_view, sum_view}

pub view_int : (n : ℤ) → atom_view (Int n) ≡ int n
view_int n = ap atom_view (sym (rolls-Int n)) ∙ fold-roll-Atom Expression atom_step (Atom-F.Int n)

pub view_variable : (k : ℕ) → atom_view (Variable k) ≡ variable k
view_variable k = ap atom_view (sym (rolls-Variable k)) ∙ fold-roll-Atom Expression atom_step (Atom-F.Variable k)

pub view_group : (s : Sum Atom) → atom_view (Group s) ≡ group (sum_view s)
view_group s = ap atom_view (sym (rolls-Group s)) ∙ fold-roll-Atom Expression atom_step (Atom-F.Group s)

pub map_push : {A B : Type 0} (f : A → B) (xs : List A) (x : A) → map f (xs ++ x ∷ []) ≡ map f xs ++ f x ∷ []
map_push f [] x = refl
map_push f (y ∷ xs) x = ap (λ v. f y ∷ v) (map_push f xs x)

factor_from : (left : Expression) (es : List Expression) (e : Expression) → product_from left (es ++ e ∷ []) ≡ times (product_from left es) e
factor_from left [] e = refl
factor_from left (x ∷ es) e = factor_from (times left x) es e

-- one more factor
pub factor : (first : Atom) (rest new : List Atom) (a : Atom) → new ≡ rest ++ a ∷ []
    → product_view (record { first = first; rest = new }) ≡ times (product_view (record { first = first; rest = rest })) (atom_view a)
factor first rest new a grown =
    ap (λ l. product_from (atom_view first) (map atom_view l)) grown ∙ ap (product_from (atom_view first)) (map_push atom_view rest a)
    ∙ factor_from (atom_view first) (map atom_view rest) (atom_view a)

term_from : (left : Expression) (ts : List (Term Expression)) (t : Term Expression) → sum_from left (ts ++ t ∷ []) ≡ joined (sum_from left ts) t.sign (product t.product)
term_from left [] t = refl
term_from left (x ∷ ts) t = term_from (joined left x.sign (product x.product)) ts t

-- one more term
pub term : (first : Product Atom) (rest new : List (Term Atom)) (t : Term Atom) → new ≡ rest ++ t ∷ []
    → sum_view (record { first = first; rest = new }) ≡ joined (sum_view (record { first = first; rest = rest })) t.sign (product_view t.product)
term first rest new t grown =
    ap (λ l. sum_from (product_view first) (map term_parts l)) grown ∙ ap (sum_from (product_view first)) (map_push term_parts rest t)
    ∙ term_from (product_view first) (map term_parts rest) (term_parts t)
