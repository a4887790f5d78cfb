-- The views of forms whose parts are lists.
use Rattle.std.proofs.Common.{◌≡◌, List, [], ◌∷◌, map, refl, sym, ◌∙◌, ap}
use Rattle.php_ast.specs.declared.spot.Name as rust_name
use Rattle.php_ast.specs.declared.spot.Word.{Word}
use Rattle.php_ast.specs.declared.operator.Binary.{Binary}
use Rattle.php_ast.specs.declared.expression.Expr.{Expr}
use Rattle.php_ast.specs.declared.expression.Expr.TheVariants.{Chain, Run, rolls-Chain, rolls-Run}
use Rattle.php_ast.specs.declared.expression.Expr.TheOpen.{Expr-F}
use Rattle.php_ast.specs.declared.expression.Expr.TheFolds.{fold-roll-Expr}
use Rattle.php_ast.specs.declared.expression.Suffix.{Suffix}
use Rattle.php_ast.specs.declared.expression.Suffix.TheVariants as suffix
use Rattle.php_ast.specs.declared.expression.Named.{Named}
use Rattle.php_ast.specs.declared.expression.Named.TheVariants as arrow
use Rattle.php_ast.specs.declared.expression.Member as behind_colons
use Rattle.php_ast.specs.declared.expression.Argument.{Argument}
use Rattle.php_ast.specs.declared.expression.Argument.TheVariants as argument
use Rattle.php_ast.specs.declared.expression.Link.{Link}
use Rattle.php_ast.specs.declared.expression.Link.TheVariants as link
use Rattle.php_ast.specs.expression.Tree.{Tree}
use Rattle.php_ast.specs.expression.View.{Note, view, view_step, with_suffixes, with_links}
use Rattle.php_ast.specs.expression.Parts.{named_with, suffix_with, argument_with, link_with}

pub map_same : {A B : Type 0} (f g : A → B) → ((x : A) → f x ≡ g x) → (xs : List A) → map f xs ≡ map g xs
map_same f g same [] = refl
map_same f g same (x ∷ xs) = ap (λ y. y ∷ map f xs) (same x) ∙ ap (λ ys. g x ∷ ys) (map_same f g same xs)

-- A function that does the same at each variant is the same.

pub link_same : (h : Link Expr → Link (Tree Note)) → ((op : Binary) (e : Expr) → h (link.Operator op e) ≡ link.Operator op (view e))
    → ((a b : Expr) → h (link.Choice a b) ≡ link.Choice (view a) (view b)) → ((b : Expr) → h (link.ShortChoice b) ≡ link.ShortChoice (view b))
    → (x : Link Expr) → h x ≡ link_with view x
link_same h p q r (link.Operator op e) = p op e
link_same h p q r (link.Choice a b) = q a b
link_same h p q r (link.ShortChoice b) = r b

argument_same : (h : Argument Expr → Argument (Tree Note)) → ((e : Expr) → h (argument.Value e) ≡ argument.Value (view e)) → ((e : Expr) → h (argument.Spread e) ≡ argument.Spread (view e))
    → (x : Argument Expr) → h x ≡ argument_with view x
argument_same h p q (argument.Value e) = p e
argument_same h p q (argument.Spread e) = q e

named_same : (h : Named Expr → Named (Tree Note)) → ((w : Word) → h (arrow.Word w) ≡ arrow.Word w) → ((n : rust_name.Name) → h (arrow.Variable n) ≡ arrow.Variable n)
    → ((e : Expr) → h (arrow.Computed e) ≡ arrow.Computed (view e)) → (x : Named Expr) → h x ≡ named_with view x
named_same h p q r (arrow.Word w) = p w
named_same h p q r (arrow.Variable n) = q n
named_same h p q r (arrow.Computed e) = r e

suffix_same : (h : Suffix Expr → Suffix (Tree Note)) (k : Named Expr → Named (Tree Note)) (g : Argument Expr → Argument (Tree Note))
    → h suffix.Append ≡ suffix.Append → ((e : Expr) → h (suffix.Index e) ≡ suffix.Index (view e))
    → ((n : Named Expr) → h (suffix.Property n) ≡ suffix.Property (k n)) → ((n : Named Expr) → k n ≡ named_with view n)
    → ((m : behind_colons.Member) → h (suffix.Member m) ≡ suffix.Member m)
    → ((arguments : List (Argument Expr)) → h (suffix.Call arguments) ≡ suffix.Call (map g arguments)) → ((x : Argument Expr) → g x ≡ argument_with view x)
    → (x : Suffix Expr) → h x ≡ suffix_with view x
suffix_same h k g p q r names s u each suffix.Append = p
suffix_same h k g p q r names s u each (suffix.Index e) = q e
suffix_same h k g p q r names s u each (suffix.Property n) = r n ∙ ap suffix.Property (names n)
suffix_same h k g p q r names s u each (suffix.Member m) = s m
suffix_same h k g p q r names s u each (suffix.Call arguments) = u arguments ∙ ap suffix.Call (map_same g (argument_with view) each arguments)

pub view_chain : (e : Expr) (suffixes : List (Suffix Expr)) → view (Chain e suffixes) ≡ with_suffixes (view e) (map (suffix_with view) suffixes)
view_chain e suffixes =
    ap view (sym (rolls-Chain e suffixes)) ∙ fold-roll-Expr (Tree Note) view_step (Expr-F.Chain e suffixes)
    ∙ ap (with_suffixes (view e))
    (map_same _ (suffix_with view)
    (suffix_same _ _ _ refl (λ k. refl) (λ n. refl) (named_same _ (λ w. refl) (λ v. refl) (λ k. refl)) (λ m. refl) (λ arguments. refl) (argument_same _ (λ k. refl) (λ k. refl)))
    suffixes)

pub view_run : (e : Expr) (links : List (Link Expr)) → view (Run e links) ≡ with_links (view e) (map (link_with view) links)
view_run e links =
    ap view (sym (rolls-Run e links)) ∙ fold-roll-Expr (Tree Note) view_step (Expr-F.Run e links)
    ∙ ap (with_links (view e)) (map_same _ (link_with view) (link_same _ (λ op k. refl) (λ a b. refl) (λ b. refl)) links)
