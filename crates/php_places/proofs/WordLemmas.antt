-- What stands behind an operand, or between two, is no name alone.
use Rattle.std.specs.Prelude.{◌==◌}
use Rattle.std.proofs.lemmas.Grind.{common_steps}
use Rattle.std.proofs.Common.{◌≡◌, ℕ, true, false, List, [], ◌∷◌, map, length, refl, sym, ◌∙◌, ap, arith}
use Rattle.php_ast.specs.declared.expression.Expr.{Expr}
use Rattle.php_ast.specs.declared.expression.Expr.TheVariants.{Chain, Run}
use Rattle.php_ast.specs.declared.expression.Suffix.{Suffix}
use Rattle.php_ast.specs.declared.expression.Suffix.TheVariants as suffix
use Rattle.php_ast.specs.declared.expression.Named.{Named}
use Rattle.php_ast.specs.declared.expression.Named.TheVariants as arrow
use Rattle.php_ast.specs.declared.expression.Link.{Link}
use Rattle.php_ast.specs.declared.expression.Link.TheVariants as link
use Rattle.php_ast.specs.expression.Tree.{Tree}
use Rattle.php_ast.specs.expression.View.{Note, view, with_suffix, with_suffixes, with_link, with_links, property_of}
use Rattle.php_ast.specs.expression.Parts.{suffix_with, link_with}
use Rattle.php_ast.proofs.Views.{view_chain, view_run}
use Rattle.php_legality.specs.Places.{first_note}
use Rattle.php_legality.specs.Rows.{inner_leaf}

property_leaf : (e : Tree Note) (n : Named (Tree Note)) → [] ≡ inner_leaf (property_of e n)
property_leaf e (arrow.Word w) = refl
property_leaf e (arrow.Variable n) = refl
property_leaf e (arrow.Computed k) = refl

pub suffix_leaf : (e : Tree Note) (x : Suffix (Tree Note)) → [] ≡ inner_leaf (with_suffix e x)
suffix_leaf e suffix.Append = refl
suffix_leaf e (suffix.Index k) = refl
suffix_leaf e (suffix.Property n) = property_leaf e n
suffix_leaf e (suffix.Member m) = refl
suffix_leaf e (suffix.Call arguments) = refl

suffixes_leaf : (e : Tree Note) (x : Suffix (Tree Note)) (xs : List (Suffix (Tree Note))) → [] ≡ inner_leaf (with_suffixes e (x ∷ xs))
suffixes_leaf e x [] = suffix_leaf e x
suffixes_leaf e x (y ∷ ys) = suffixes_leaf (with_suffix e x) y ys

link_leaf : (e : Tree Note) (x : Link (Tree Note)) → [] ≡ inner_leaf (with_link e x)
link_leaf e (link.Operator op r) = refl
link_leaf e (link.Choice a b) = refl
link_leaf e (link.ShortChoice b) = refl

links_leaf : (e : Tree Note) (x : Link (Tree Note)) (xs : List (Link (Tree Note))) → [] ≡ inner_leaf (with_links e (x ∷ xs))
links_leaf e x [] = link_leaf e x
links_leaf e x (y ∷ ys) = links_leaf (with_link e x) y ys

pub chain_leaf : (e : Expr) (suffixes : List (Suffix Expr)) → false ≡ (length suffixes == 0) → [] ≡ inner_leaf (view (Chain e suffixes))
chain_leaf e [] some = absurd (cc)
chain_leaf e (x ∷ xs) some = suffixes_leaf (view e) (suffix_with view x) (map (suffix_with view) xs) ∙ ap (λ t. inner_leaf t) (sym (view_chain e (x ∷ xs)))

pub run_leaf : (e : Expr) (links : List (Link Expr)) → false ≡ (length links == 0) → [] ≡ inner_leaf (view (Run e links))
run_leaf e [] some = absurd (cc)
run_leaf e (x ∷ xs) some = links_leaf (view e) (link_with view x) (map (link_with view) xs) ∙ ap (λ t. inner_leaf t) (sym (view_run e (x ∷ xs)))

-- ---- first tokens

property_first : (e : Tree Note) (n : Named (Tree Note)) → first_note (property_of e n) ≡ first_note e
property_first e (arrow.Word w) = refl
property_first e (arrow.Variable n) = refl
property_first e (arrow.Computed k) = refl

suffix_first : (e : Tree Note) (x : Suffix (Tree Note)) → first_note (with_suffix e x) ≡ first_note e
suffix_first e suffix.Append = refl
suffix_first e (suffix.Index k) = refl
suffix_first e (suffix.Property n) = property_first e n
suffix_first e (suffix.Member m) = refl
suffix_first e (suffix.Call arguments) = refl

suffixes_first : (e : Tree Note) (xs : List (Suffix (Tree Note))) → first_note (with_suffixes e xs) ≡ first_note e
suffixes_first e [] = refl
suffixes_first e (x ∷ xs) = suffixes_first (with_suffix e x) xs ∙ suffix_first e x

link_first : (e : Tree Note) (x : Link (Tree Note)) → first_note (with_link e x) ≡ first_note e
link_first e (link.Operator op r) = refl
link_first e (link.Choice a b) = refl
link_first e (link.ShortChoice b) = refl

links_first : (e : Tree Note) (xs : List (Link (Tree Note))) → first_note (with_links e xs) ≡ first_note e
links_first e [] = refl
links_first e (x ∷ xs) = links_first (with_link e x) xs ∙ link_first e x

pub chain_first : (e : Expr) (suffixes : List (Suffix Expr)) → first_note (view e) ≡ first_note (view (Chain e suffixes))
chain_first e xs = sym (suffixes_first (view e) (map (suffix_with view) xs)) ∙ ap (λ t. first_note t) (sym (view_chain e xs))

pub run_first : (e : Expr) (links : List (Link Expr)) → first_note (view e) ≡ first_note (view (Run e links))
run_first e xs = sym (links_first (view e) (map (link_with view) xs)) ∙ ap (λ t. first_note t) (sym (view_run e xs))
