-- Constant expressions and names among operands with suffixes, runs and lists of items.
use Rattle.std.specs.Prelude.{◌==◌}
use Rattle.std.proofs.Common.{◌≡◌, ℕ, Bool, true, false, ◌&&◌, Option, Some, None, List, [], ◌∷◌, map, length, get_or, refl, sym, ◌∙◌, ap, arith}
use Rattle.std.proofs.lemmas.Grind.{common_steps}
use Rattle.php_token.specs.declared.kind.Keyword.{Keyword}
use Rattle.php_ast.specs.declared.spot.Spot.{Spot}
use Rattle.php_ast.specs.declared.spot.Word.{Word}
use Rattle.php_ast.specs.declared.operator.ArrayForm.{ArrayForm}
use Rattle.php_ast.specs.declared.operator.ArrayForm.TheVariants as form
use Rattle.php_ast.specs.declared.expression.Expr.{Expr}
use Rattle.php_ast.specs.declared.expression.Expr.TheVariants.{Array, Chain, Run}
use Rattle.php_ast.specs.declared.expression.Item.{Item}
use Rattle.php_ast.specs.declared.expression.Item.TheVariants as item
use Rattle.php_ast.specs.declared.expression.Suffix.{Suffix}
use Rattle.php_ast.specs.declared.expression.Suffix.TheVariants as suffix
use Rattle.php_ast.specs.declared.expression.Named.{Named}
use Rattle.php_ast.specs.declared.expression.Named.TheVariants as arrow
use Rattle.php_ast.specs.declared.expression.Member.TheVariants as member
use Rattle.php_ast.specs.declared.expression.Link.{Link}
use Rattle.php_ast.specs.declared.expression.Link.TheVariants as link
use Rattle.php_ast.specs.expression.Tree.{Tree, Items, listed, array, none}
use Rattle.php_ast.specs.expression.View.{Note, spot_view, view, word_of, word_view, member_view, item_more, items_from, with_suffix, with_suffixes, with_link, with_links, property_of}
use Rattle.php_ast.specs.expression.Parts.{item_with, suffix_with, link_with}
use Rattle.php_ast.proofs.Views.{view_chain, view_run}
use Rattle.php_legality.specs.Constants.{is_name, is_word, is_constant, are_constant}
use Rattle.php_constants.proofs.Views.{view_array}
use Rattle.php_constants.specs.Elements.{is_constant_item, is_constant_link, is_constant_suffix, is_constant_access, is_constant_array, all_constant}

and_false : (b : Bool) → (b && false) ≡ false
and_false true = refl
and_false false = refl

and_true : (b : Bool) → (b && true) ≡ b
and_true true = refl
and_true false = refl

and_assoc : (a b c : Bool) → ((a && b) && c) ≡ (a && (b && c))
and_assoc true b c = refl
and_assoc false b c = refl

-- ---- names

property_name : (e : Tree Note) (n : Named (Tree Note)) → is_name (property_of e n) ≡ false
property_name e (arrow.Word w) = refl
property_name e (arrow.Variable n) = refl
property_name e (arrow.Computed k) = refl

suffix_name : (e : Tree Note) (x : Suffix (Tree Note)) → is_name (with_suffix e x) ≡ false
suffix_name e suffix.Append = refl
suffix_name e (suffix.Index k) = refl
suffix_name e (suffix.Property n) = property_name e n
suffix_name e (suffix.Member m) = refl
suffix_name e (suffix.Call arguments) = refl

suffixes_name : (e : Tree Note) (xs : List (Suffix (Tree Note))) → is_name e ≡ false → is_name (with_suffixes e xs) ≡ false
suffixes_name e [] plain = plain
suffixes_name e (x ∷ xs) plain = suffixes_name (with_suffix e x) xs (suffix_name e x)

link_name : (e : Tree Note) (x : Link (Tree Note)) → is_name (with_link e x) ≡ false
link_name e (link.Operator op r) = refl
link_name e (link.Choice a b) = refl
link_name e (link.ShortChoice b) = refl

links_name : (e : Tree Note) (xs : List (Link (Tree Note))) → is_name e ≡ false → is_name (with_links e xs) ≡ false
links_name e [] plain = plain
links_name e (x ∷ xs) plain = links_name (with_link e x) xs (link_name e x)

pub chain_name : (e : Expr) (suffixes : List (Suffix Expr)) → false ≡ (length suffixes == 0) → false ≡ is_name (view (Chain e suffixes))
chain_name e [] some = absurd (cc)
chain_name e (x ∷ xs) some =
    sym (suffixes_name (with_suffix (view e) (suffix_with view x)) (map (suffix_with view) xs) (suffix_name (view e) (suffix_with view x)))
    ∙ ap (λ t. is_name t) (sym (view_chain e (x ∷ xs)))

pub run_name : (e : Expr) (links : List (Link Expr)) → false ≡ (length links == 0) → false ≡ is_name (view (Run e links))
run_name e [] some = absurd (cc)
run_name e (x ∷ xs) some =
    sym (links_name (with_link (view e) (link_with view x)) (map (link_with view) xs) (link_name (view e) (link_with view x)))
    ∙ ap (λ t. is_name t) (sym (view_run e (x ∷ xs)))

-- a node with an empty list is the node inside it
pub empty_run : (e : Expr) (links : List (Link Expr)) → true ≡ (length links == 0) → view e ≡ view (Run e links)
empty_run e [] plain = sym (view_run e [])
empty_run e (x ∷ xs) plain = absurd (grind (arith, common_steps))

-- ---- suffixes

property_constant : (e : Tree Note) (n : Named (Tree Note)) → is_constant (property_of e n) ≡ false
property_constant e (arrow.Word w) = refl
property_constant e (arrow.Variable n) = refl
property_constant e (arrow.Computed k) = refl

-- behind what is no name
suffix_constant : (e : Tree Note) (x : Suffix (Tree Note)) → is_name e ≡ false → is_constant (with_suffix e x) ≡ false
suffix_constant e suffix.Append plain = refl
suffix_constant e (suffix.Index k) plain = refl
suffix_constant e (suffix.Property n) plain = property_constant e n
suffix_constant e (suffix.Member m) plain = ap (λ b. b && is_word (member_view m)) plain
suffix_constant e (suffix.Call arguments) plain = refl

suffixes_constant : (e : Tree Note) (x : Suffix (Tree Note)) (xs : List (Suffix (Tree Note))) → is_name e ≡ false → is_constant (with_suffixes (with_suffix e x) xs) ≡ false
suffixes_constant e x [] plain = suffix_constant e x plain
suffixes_constant e x (y ∷ xs) plain = suffixes_constant (with_suffix e x) y xs (suffix_name e x)

is_word_of : (keyword : Option Keyword) (w : Word) → is_word (word_of keyword w) ≡ true
is_word_of None w = refl
is_word_of (Some k) w = refl

named_constant : (e : Tree Note) (n : Named Expr) (m : Named (Tree Note)) → (is_name e && false) ≡ is_constant (property_of e m)
named_constant e n m = and_false (is_name e) ∙ sym (property_constant e m)

pub one_suffix : (e : Expr) (x : Suffix Expr) → (is_name (view e) && is_constant_suffix x) ≡ is_constant (with_suffix (view e) (suffix_with view x))
one_suffix e suffix.Append = and_false (is_name (view e))
one_suffix e (suffix.Index k) = and_false (is_name (view e))
one_suffix e (suffix.Property n) = named_constant (view e) n _
one_suffix e (suffix.Member (member.Word w)) = ap (λ b. is_name (view e) && b) (sym (is_word_of w.keyword w))
one_suffix e (suffix.Member (member.Variable n)) = refl
one_suffix e (suffix.Call arguments) = and_false (is_name (view e))

pub chain_of_none : (e : Expr) → is_constant (view e) ≡ is_constant (view (Chain e []))
chain_of_none e = ap (λ t. is_constant t) (sym (view_chain e []))

pub chain_of_one : (e : Expr) (x : Suffix Expr) → (is_name (view e) && is_constant_suffix x) ≡ is_constant (view (Chain e (x ∷ [])))
chain_of_one e x = one_suffix e x ∙ ap (λ t. is_constant t) (sym (view_chain e (x ∷ [])))

pub chain_of_more : (e : Expr) (x y : Suffix Expr) (xs : List (Suffix Expr)) → false ≡ is_constant (view (Chain e (x ∷ y ∷ xs)))
chain_of_more e x y xs =
    sym (suffixes_constant (with_suffix (view e) (suffix_with view x)) (suffix_with view y) (map (suffix_with view) xs) (suffix_name (view e) (suffix_with view x)))
    ∙ ap (λ t. is_constant t) (sym (view_chain e (x ∷ y ∷ xs)))

-- ---- runs

one_link : (e : Tree Note) (x : Link (Tree Note)) → is_constant (with_link e x) ≡ (is_constant e && is_constant_link x)
one_link e (link.Operator op r) = refl
one_link e (link.Choice a b) = and_assoc (is_constant e) (is_constant a) (is_constant b)
one_link e (link.ShortChoice b) = refl

links_constant : (e : Tree Note) (xs : List (Link (Tree Note))) → is_constant (with_links e xs) ≡ (is_constant e && all_constant is_constant_link xs)
links_constant e [] = sym (and_true (is_constant e))
links_constant e (x ∷ xs) =
    links_constant (with_link e x) xs ∙ ap (λ b. b && all_constant is_constant_link xs) (one_link e x)
    ∙ and_assoc (is_constant e) (is_constant_link x) (all_constant is_constant_link xs)

pub run_constant : (e : Expr) (links : List (Link Expr)) → (is_constant (view e) && all_constant is_constant_link (map (link_with view) links)) ≡ is_constant (view (Run e links))
run_constant e links = sym (links_constant (view e) (map (link_with view) links)) ∙ ap (λ t. is_constant t) (sym (view_run e links))

-- ---- items

one_item : (before : Items Note) (x : Item (Tree Note)) → are_constant (item_more before x) ≡ (are_constant before && is_constant_item x)
one_item before item.Missing = sym (and_true (are_constant before))
one_item before (item.Value e) = ap (λ b. b && is_constant e) (and_true (are_constant before))
one_item before (item.Reference e) = ap (λ b. b && is_constant e) (and_false (are_constant before)) ∙ sym (and_false (are_constant before))
one_item before (item.Keyed k e) = and_assoc (are_constant before) (is_constant k) (is_constant e)
one_item before (item.KeyedReference k e) = ap (λ b. b && is_constant e) (and_false (are_constant before)) ∙ sym (and_false (are_constant before))

pub items_constant : (before : Items Note) (xs : List (Item (Tree Note))) → are_constant (items_from before xs) ≡ (are_constant before && all_constant is_constant_item xs)
items_constant before [] = sym (and_true (are_constant before))
items_constant before (x ∷ xs) =
    items_constant (item_more before x) xs ∙ ap (λ b. b && all_constant is_constant_item xs) (one_item before x)
    ∙ and_assoc (are_constant before) (is_constant_item x) (all_constant is_constant_item xs)

-- ---- as the check asks

pub chain_access : (e : Expr) (suffixes : List (Suffix Expr)) → false ≡ (length suffixes == 0) → (is_name (view e) && is_constant_access suffixes) ≡ is_constant (view (Chain e suffixes))
chain_access e [] some = absurd (cc)
chain_access e (x ∷ []) some = chain_of_one e x
chain_access e (x ∷ y ∷ xs) some = and_false (is_name (view e)) ∙ chain_of_more e x y xs

pub one_alone : (xs : List (Suffix Expr)) (x : Suffix Expr) → length xs ≡ 1 → is_constant_suffix (get_or xs 0 x) ≡ is_constant_access xs
one_alone [] x one = absurd (omega arith)
one_alone (y ∷ []) x one = refl
one_alone (y ∷ z ∷ xs) x one = absurd (omega arith)

pub not_alone : (xs : List (Suffix Expr)) → (length xs ≡ 1 → ⊥) → false ≡ is_constant_access xs
not_alone [] more = refl
not_alone (y ∷ []) more = absurd (more refl)
not_alone (y ∷ z ∷ xs) more = refl

array_constant : (at : Note) (f : ArrayForm) (items : List (Item (Tree Note))) → is_constant_array f items ≡ is_constant (listed at (array f) (items_from none items))
array_constant at form.Brackets items = sym (items_constant none items)
array_constant at form.Array items = sym (items_constant none items)
array_constant at form.List items = refl

pub array_is_constant : (spot : Spot) (f : ArrayForm) (items : List (Item Expr)) → is_constant_array f (map (item_with view) items) ≡ is_constant (view (Array spot f items))
array_is_constant spot f items = array_constant (spot_view spot) f (map (item_with view) items) ∙ ap (λ t. is_constant t) (sym (view_array spot f items))
