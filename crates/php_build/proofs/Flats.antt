-- Flat trees from their parts.
use Rattle.std.proofs.Common.{◌≡◌, Bool, true, false, not, ◌&&◌, nat_eq, List, [], ◌∷◌, ◌++◌, map, refl, sym, ◌∙◌, ap}
use Rattle.std.specs.List.{list_all}
use Rattle.std.proofs.lemmas.Bool.{eq-eqb, eqb-true}
use Rattle.php_ast.specs.declared.spot.Name as rust_name
use Rattle.php_ast.specs.declared.spot.Word.{Word}
use Rattle.php_ast.specs.declared.operator.Binary.{Binary}
use Rattle.php_ast.specs.declared.expression.Expr.{Expr}
use Rattle.php_ast.specs.declared.expression.Expr.TheVariants.{Chain, Run, rolls-Chain, rolls-Run}
use Rattle.php_ast.specs.declared.expression.Expr.TheOpen.{Expr-F}
use Rattle.php_ast.specs.declared.expression.Expr.TheFolds.{fold-roll-Expr}
use Rattle.php_ast.specs.declared.expression.Item.{Item}
use Rattle.php_ast.specs.declared.expression.Item.TheVariants as item
use Rattle.php_ast.specs.declared.expression.Argument.{Argument}
use Rattle.php_ast.specs.declared.expression.Argument.TheVariants as argument
use Rattle.php_ast.specs.declared.expression.Suffix.{Suffix}
use Rattle.php_ast.specs.declared.expression.Suffix.TheVariants as suffix
use Rattle.php_ast.specs.declared.expression.Named.{Named}
use Rattle.php_ast.specs.declared.expression.Named.TheVariants as arrow
use Rattle.php_ast.specs.declared.expression.Member as behind_colons
use Rattle.php_ast.specs.declared.expression.Link.{Link}
use Rattle.php_ast.specs.declared.expression.Link.TheVariants as link
use Rattle.php_ast.specs.expression.Parts.{item_with, argument_with, named_with, suffix_with, link_with}
use Rattle.php_build.specs.Flat.{Top, chain, Shape, shape, shape_step, unchained, item_flat, link_row, link_flat, has_power, is_some, chain_shape, run_shape, is_flat, is_flat_leaf, is_run_top, are_flat_items, are_flat_suffixes, is_flat_link, is_flat_run, starts_run}

-- ---- tests

pub both : {a b : Bool} → a ≡ true → b ≡ true → (a && b) ≡ true
both {a} {b} p q = cc

pub first_of : (a b : Bool) → (a && b) ≡ true → a ≡ true
first_of true b h = refl
first_of false b h = h

pub second_of : (a b : Bool) → (a && b) ≡ true → b ≡ true
second_of true b h = h
second_of false b h = cc

all_more : {A B : Type 0} (p : B → Bool) (f : A → B) (xs : List A) (x : A) → list_all p (map f xs) ≡ true → p (f x) ≡ true → list_all p (map f (xs ++ x ∷ [])) ≡ true
all_more p f [] x all one = both one refl
all_more p f (y ∷ xs) x all one = both (first_of (p (f y)) (list_all p (map f xs)) all) (all_more p f xs x (second_of (p (f y)) (list_all p (map f xs)) all) one)

-- one more element behind a list
pub all_push : {A B : Type 0} (p : B → Bool) (f : A → B) (xs new : List A) (x : A) → new ≡ xs ++ x ∷ [] → list_all p (map f xs) ≡ true → p (f x) ≡ true → list_all p (map f new) ≡ true
all_push p f xs new x grown all one = ap (λ l. list_all p (map f l)) grown ∙ all_more p f xs x all one

-- the items where a list ends
pub ended_flat : (xs new : List (Item Expr)) → are_flat_items xs ≡ true → (xs ≡ [] → new ≡ []) → ((xs ≡ [] → ⊥) → new ≡ xs ++ item.Missing ∷ []) → are_flat_items new ≡ true
ended_flat [] new all a b = ap are_flat_items (a refl)
ended_flat (x ∷ xs) new all a b = all_push item_flat (item_with shape) (x ∷ xs) new item.Missing (b (λ h. cc)) all refl

-- ---- the shapes of forms whose parts are lists

map_same : {A B : Type 0} (f g : A → B) → ((x : A) → f x ≡ g x) → (xs : List A) → map f xs ≡ map g xs
map_same f g same [] = refl
map_same f g same (x ∷ xs) = ap (λ y. y ∷ map f xs) (same x) ∙ ap (λ ys. g x ∷ ys) (map_same f g same xs)

-- A function that does the same at each variant is the same.

link_same : {A : Type 0} (f : Expr → A) (h : Link Expr → Link A) → ((op : Binary) (e : Expr) → h (link.Operator op e) ≡ link.Operator op (f e))
    → ((a b : Expr) → h (link.Choice a b) ≡ link.Choice (f a) (f b)) → ((b : Expr) → h (link.ShortChoice b) ≡ link.ShortChoice (f b))
    → (x : Link Expr) → h x ≡ link_with f x
link_same f h p q r (link.Operator op e) = p op e
link_same f h p q r (link.Choice a b) = q a b
link_same f h p q r (link.ShortChoice b) = r b

argument_same : {A : Type 0} (f : Expr → A) (h : Argument Expr → Argument A) → ((e : Expr) → h (argument.Value e) ≡ argument.Value (f e)) → ((e : Expr) → h (argument.Spread e) ≡ argument.Spread (f e))
    → (x : Argument Expr) → h x ≡ argument_with f x
argument_same f h p q (argument.Value e) = p e
argument_same f h p q (argument.Spread e) = q e

named_same : {A : Type 0} (f : Expr → A) (h : Named Expr → Named A) → ((w : Word) → h (arrow.Word w) ≡ arrow.Word w) → ((n : rust_name.Name) → h (arrow.Variable n) ≡ arrow.Variable n)
    → ((e : Expr) → h (arrow.Computed e) ≡ arrow.Computed (f e)) → (x : Named Expr) → h x ≡ named_with f x
named_same f h p q r (arrow.Word w) = p w
named_same f h p q r (arrow.Variable n) = q n
named_same f h p q r (arrow.Computed e) = r e

suffix_same : {A : Type 0} (f : Expr → A) (h : Suffix Expr → Suffix A) (k : Named Expr → Named A) (g : Argument Expr → Argument A)
    → h suffix.Append ≡ suffix.Append → ((e : Expr) → h (suffix.Index e) ≡ suffix.Index (f e))
    → ((n : Named Expr) → h (suffix.Property n) ≡ suffix.Property (k n)) → ((n : Named Expr) → k n ≡ named_with f n)
    → ((m : behind_colons.Member) → h (suffix.Member m) ≡ suffix.Member m)
    → ((arguments : List (Argument Expr)) → h (suffix.Call arguments) ≡ suffix.Call (map g arguments)) → ((x : Argument Expr) → g x ≡ argument_with f x)
    → (x : Suffix Expr) → h x ≡ suffix_with f x
suffix_same f h k g p q r names s u each suffix.Append = p
suffix_same f h k g p q r names s u each (suffix.Index e) = q e
suffix_same f h k g p q r names s u each (suffix.Property n) = r n ∙ ap suffix.Property (names n)
suffix_same f h k g p q r names s u each (suffix.Member m) = s m
suffix_same f h k g p q r names s u each (suffix.Call arguments) = u arguments ∙ ap suffix.Call (map_same g (argument_with f) each arguments)

pub shape_chain : (e : Expr) (suffixes : List (Suffix Expr)) → shape (Chain e suffixes) ≡ chain_shape (shape e) (map (suffix_with shape) suffixes)
shape_chain e suffixes =
    ap shape (sym (rolls-Chain e suffixes)) ∙ fold-roll-Expr Shape shape_step (Expr-F.Chain e suffixes)
    ∙ ap (chain_shape (shape e))
    (map_same _ (suffix_with shape)
    (suffix_same shape _ _ _ refl (λ k. refl) (λ n. refl) (named_same shape _ (λ w. refl) (λ v. refl) (λ k. refl)) (λ m. refl) (λ arguments. refl) (argument_same shape _ (λ k. refl) (λ k. refl)))
    suffixes)

pub shape_run : (e : Expr) (links : List (Link Expr)) → shape (Run e links) ≡ run_shape (shape e) (map (link_with shape) links)
shape_run e links =
    ap shape (sym (rolls-Run e links)) ∙ fold-roll-Expr Shape shape_step (Expr-F.Run e links)
    ∙ ap (run_shape (shape e)) (map_same _ (link_with shape) (link_same shape _ (λ op k. refl) (λ a b. refl) (λ b. refl)) links)

-- ---- chains

unchained_flat : (top : Top) (flat : Bool) → unchained top flat ≡ true → flat ≡ true
unchained_flat chain flat h = cc
unchained_flat _ flat h = h

pub leaf_flat : (e : Expr) → is_flat_leaf e ≡ true → is_flat e ≡ true
leaf_flat e h = unchained_flat (shape e).top (shape e).flat h

some_suffixes : (suffixes : List (Suffix Expr)) → (suffixes ≡ [] → ⊥) → is_some (map (suffix_with shape) suffixes) ≡ true
some_suffixes [] h = absurd (h refl)
some_suffixes (x ∷ suffixes) h = refl

pub chain_flat : (e first : Expr) (suffixes : List (Suffix Expr)) → e ≡ first → is_flat_leaf first ≡ true → are_flat_suffixes suffixes ≡ true → (suffixes ≡ [] → ⊥) → is_flat (Chain e suffixes) ≡ true
chain_flat e first suffixes is leaf all some = ap (λ s. s.flat) (shape_chain e suffixes) ∙ both (both (ap is_flat_leaf is ∙ leaf) (some_suffixes suffixes some)) all

-- ---- runs

same_row : (x : Link Expr) → link_row (link_with shape x) ≡ link_row x
same_row (link.Operator op e) = refl
same_row (link.Choice a b) = refl
same_row (link.ShortChoice b) = refl

same_power : (x y : Link Expr) → nat_eq (link_row x).power (link_row y).power ≡ true → has_power (link_row (link_with shape x)).power (link_with shape y) ≡ true
same_power x y h =
    eq-eqb (link_row (link_with shape y)).power (link_row (link_with shape x)).power
    (ap (λ r. r.power) (same_row y) ∙ sym (eqb-true (link_row x).power (link_row y).power h) ∙ ap (λ r. r.power) (sym (same_row x)))

pub run_flat : (e : Expr) (links : List (Link Expr)) → is_flat_run e links ≡ true → is_flat (Run e links) ≡ true
run_flat e links h = ap (λ s. s.flat) (shape_run e links) ∙ h

pub flat_run : (run e : Expr) (links : List (Link Expr)) → run ≡ Run e links → is_flat run ≡ true → is_flat_run e links ≡ true
flat_run run e links is h = ap (λ s. s.flat) (sym (shape_run e links)) ∙ ap is_flat (sym is) ∙ h

-- one more link of the same power
pub run_push : (e : Expr) (links new : List (Link Expr)) (x : Link Expr) → new ≡ links ++ x ∷ [] → is_flat_run e links ≡ true → starts_run (link_row x).power links ≡ true → is_flat_link x ≡ true → is_flat_run e new ≡ true
run_push e [] new x grown run same one = cc
run_push e (y ∷ links) new x grown run same one =
    let f = link_with shape in
    let power = (link_row (f y)).power in
    let begins = (shape e).flat && not (is_run_top power (shape e).top) in
    let all = list_all link_flat (map f (y ∷ links)) in
    let rest = list_all (has_power power) (map f links) in
    ap (is_flat_run e) grown
    ∙ both (both (first_of begins all (first_of (begins && all) rest run)) (all_more link_flat f (y ∷ links) x (second_of begins all (first_of (begins && all) rest run)) one))
    (all_more (has_power power) f links x (second_of (begins && all) rest run) (same_power y x same))
