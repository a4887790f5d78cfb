-- What stands behind an operand, or between two, is no integer.
use Rattle.std.specs.Prelude.{◌==◌}
use Rattle.std.proofs.lemmas.Grind.{common_steps}
use Rattle.std.proofs.Common.{◌≡◌, ℕ, true, false, Option, Some, None, List, [], ◌∷◌, map, length, refl, sym, ◌∙◌, ap, arith}
use Rattle.php_ast.specs.declared.expression.Expr.{Expr}
use Rattle.php_ast.specs.declared.expression.Expr.TheVariants.{Chain, Run}
use Rattle.php_ast.specs.declared.expression.Suffix.{Suffix}
use Rattle.php_ast.specs.declared.expression.Suffix.TheVariants as suffix
use Rattle.php_ast.specs.declared.expression.Named.{Named}
use Rattle.php_ast.specs.declared.expression.Named.TheVariants as arrow
use Rattle.php_ast.specs.declared.expression.Link.{Link}
use Rattle.php_ast.specs.declared.expression.Link.TheVariants as link
use Rattle.php_ast.specs.expression.Tree.{Tree}
use Rattle.php_ast.specs.expression.View.{Note, view, with_suffix, with_suffixes, with_link, with_links, property_of}
use Rattle.php_ast.specs.expression.Parts.{suffix_with, link_with}
use Rattle.php_ast.proofs.Views.{view_chain, view_run}
use Rattle.php_legality.specs.Rows.{level}

property_level : (e : Tree Note) (n : Named (Tree Note)) → 0 ≡ level (Some (property_of e n))
property_level e (arrow.Word w) = refl
property_level e (arrow.Variable n) = refl
property_level e (arrow.Computed k) = refl

suffix_level : (e : Tree Note) (x : Suffix (Tree Note)) → 0 ≡ level (Some (with_suffix e x))
suffix_level e suffix.Append = refl
suffix_level e (suffix.Index k) = refl
suffix_level e (suffix.Property n) = property_level e n
suffix_level e (suffix.Member m) = refl
suffix_level e (suffix.Call arguments) = refl

suffixes_level : (e : Tree Note) (xs : List (Suffix (Tree Note))) → 0 ≡ level (Some e) → 0 ≡ level (Some (with_suffixes e xs))
suffixes_level e [] none = none
suffixes_level e (x ∷ xs) none = suffixes_level (with_suffix e x) xs (suffix_level e x)

link_level : (e : Tree Note) (x : Link (Tree Note)) → 0 ≡ level (Some (with_link e x))
link_level e (link.Operator op r) = refl
link_level e (link.Choice a b) = refl
link_level e (link.ShortChoice b) = refl

links_level : (e : Tree Note) (xs : List (Link (Tree Note))) → 0 ≡ level (Some e) → 0 ≡ level (Some (with_links e xs))
links_level e [] none = none
links_level e (x ∷ xs) none = links_level (with_link e x) xs (link_level e x)

pub chain_level : (e : Expr) (suffixes : List (Suffix Expr)) → false ≡ (length suffixes == 0) → 0 ≡ level (Some (view (Chain e suffixes)))
chain_level e [] some = absurd (cc)
chain_level e (x ∷ xs) some =
    suffixes_level (with_suffix (view e) (suffix_with view x)) (map (suffix_with view) xs) (suffix_level (view e) (suffix_with view x))
    ∙ ap (λ t. level (Some t)) (sym (view_chain e (x ∷ xs)))

pub run_level : (e : Expr) (links : List (Link Expr)) → false ≡ (length links == 0) → 0 ≡ level (Some (view (Run e links)))
run_level e [] some = absurd (cc)
run_level e (x ∷ xs) some =
    links_level (with_link (view e) (link_with view x)) (map (link_with view) xs) (link_level (view e) (link_with view x))
    ∙ ap (λ t. level (Some t)) (sym (view_run e (x ∷ xs)))

-- a node with an empty list is the node inside it
pub empty_chain : (e : Expr) (suffixes : List (Suffix Expr)) → true ≡ (length suffixes == 0) → view e ≡ view (Chain e suffixes)
empty_chain e [] none = sym (view_chain e [])
empty_chain e (x ∷ xs) none = absurd (grind (arith, common_steps))

pub empty_run : (e : Expr) (links : List (Link Expr)) → true ≡ (length links == 0) → view e ≡ view (Run e links)
empty_run e [] none = sym (view_run e [])
empty_run e (x ∷ xs) none = absurd (grind (arith, common_steps))
