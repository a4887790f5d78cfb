-- An expression with suffixes or operators behind it is no variable.
use Rattle.std.proofs.Common.{◌≡◌, ◌≢◌, Bool, false, List, [], ◌∷◌, map, None, refl, sym, ◌∙◌, ap}
use Rattle.std.specs.Prelude.{IsTrue, ◌↔◌}
use Rattle.std.proofs.lemmas.Bool.{true≢false}
use Rattle.php_ast.proofs.Views.{view_chain, view_run}
use Rattle.php_ast.specs.declared.expression.Expr.{Expr}
use Rattle.php_ast.specs.declared.expression.Expr.TheVariants.{Chain, Run}
use Rattle.php_ast.specs.expression.Parts.{link_with, suffix_with}
use Rattle.php_ast.specs.declared.expression.Link.{Link}
use Rattle.php_ast.specs.declared.expression.Link.TheVariants as link
use Rattle.php_ast.specs.declared.expression.Suffix.{Suffix}
use Rattle.php_ast.specs.declared.expression.Suffix.TheVariants as suffix
use Rattle.php_ast.specs.declared.expression.Named.TheVariants as arrow
use Rattle.php_ast.specs.expression.Tree.{Tree}
use Rattle.php_ast.specs.expression.View.{Note, view, with_link, with_links, with_suffix, with_suffixes}
use Rattle.php_meaning.specs.Forms.{variable_name}

one_suffix : (e : Tree Note) (x : Suffix (Tree Note)) → variable_name (with_suffix e x) ≡ None
one_suffix e suffix.Append = refl
one_suffix e (suffix.Index k) = refl
one_suffix e (suffix.Property (arrow.Word w)) = refl
one_suffix e (suffix.Property (arrow.Variable n)) = refl
one_suffix e (suffix.Property (arrow.Computed k)) = refl
one_suffix e (suffix.Member m) = refl
one_suffix e (suffix.Call is) = refl

suffixes : (e : Tree Note) (xs : List (Suffix (Tree Note))) → variable_name e ≡ None → variable_name (with_suffixes e xs) ≡ None
suffixes e [] h = h
suffixes e (x ∷ xs) h = suffixes (with_suffix e x) xs (one_suffix e x)

pub no_variable_with_suffixes : (e : Tree Note) (xs : List (Suffix (Tree Note))) → xs ≢ [] → variable_name (with_suffixes e xs) ≡ None
no_variable_with_suffixes e [] h = absurd (h refl)
no_variable_with_suffixes e (x ∷ xs) h = suffixes (with_suffix e x) xs (one_suffix e x)

one_link : (e : Tree Note) (x : Link (Tree Note)) → variable_name (with_link e x) ≡ None
one_link e (link.Operator op r) = refl
one_link e (link.Choice a b) = refl
one_link e (link.ShortChoice b) = refl

links : (e : Tree Note) (xs : List (Link (Tree Note))) → variable_name e ≡ None → variable_name (with_links e xs) ≡ None
links e [] h = h
links e (x ∷ xs) h = links (with_link e x) xs (one_link e x)

pub no_variable_with_links : (e : Tree Note) (xs : List (Link (Tree Note))) → xs ≢ [] → variable_name (with_links e xs) ≡ None
no_variable_with_links e [] h = absurd (h refl)
no_variable_with_links e (x ∷ xs) h = links (with_link e x) xs (one_link e x)

not_empty : {A B : Type 0} (g : A → B) (b : Bool) (xs : List A) → IsTrue b ↔ (xs ≡ []) → b ≡ false → map g xs ≢ []
not_empty g b [] h e is = let t = h.1 refl in absurd (true≢false (sym t ∙ e))
not_empty g b (x ∷ xs) h e is = absurd (cc)

pub chain_is_none : (e : Expr) (xs : List (Suffix Expr)) (b : Bool) → IsTrue b ↔ (xs ≡ []) → b ≡ false → None ≡ variable_name (view (Chain e xs))
chain_is_none e xs b h is =
    sym (ap variable_name (view_chain e xs) ∙ no_variable_with_suffixes (view e) (map (suffix_with view) xs) (not_empty (suffix_with view) b xs h is))

pub run_is_none : (e : Expr) (xs : List (Link Expr)) (b : Bool) → IsTrue b ↔ (xs ≡ []) → b ≡ false → None ≡ variable_name (view (Run e xs))
run_is_none e xs b h is =
    sym (ap variable_name (view_run e xs) ∙ no_variable_with_links (view e) (map (link_with view) xs) (not_empty (link_with view) b xs h is))
