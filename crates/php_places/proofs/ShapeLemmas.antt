-- What the program finds of an expression is what the definitions say.
use Rattle.std.specs.Prelude.{◌==◌}
use Rattle.std.proofs.lemmas.Grind.{common_steps}
use Rattle.std.proofs.Common.{◌≡◌, ℕ, Bool, true, false, ◌||◌, ◌&&◌, Option, Some, None, List, [], ◌∷◌, map, length, refl, sym, ◌∙◌, ap, arith}
use Rattle.php_token.specs.declared.kind.Keyword.{Keyword}
use Rattle.php_ast.specs.declared.spot.Spot.{Spot}
use Rattle.php_ast.specs.declared.spot.Word.{Word}
use Rattle.php_ast.specs.declared.operator.ArrayForm.{ArrayForm}
use Rattle.php_ast.specs.declared.operator.ArrayForm.TheVariants as form
use Rattle.php_ast.specs.declared.expression.Expr.{Expr}
use Rattle.php_ast.specs.declared.expression.Expr.TheVariants.{Array, Chain, Run}
use Rattle.php_ast.specs.declared.expression.Item.{Item}
use Rattle.php_ast.specs.declared.expression.Item.TheVariants as item
use Rattle.php_ast.specs.declared.expression.Suffix.{Suffix}
use Rattle.php_ast.specs.declared.expression.Suffix.TheVariants as suffix
use Rattle.php_ast.specs.declared.expression.Named.{Named}
use Rattle.php_ast.specs.declared.expression.Named.TheVariants as arrow
use Rattle.php_ast.specs.declared.expression.Member.TheVariants as member
use Rattle.php_ast.specs.declared.expression.Link.{Link}
use Rattle.php_ast.specs.declared.expression.Link.TheVariants as link
use Rattle.php_ast.specs.expression.Tree.{Tree, Items, none, listed, static_member, array, selected, colons}
use Rattle.php_ast.specs.expression.View.{Note, spot_view, view, word_of, member_view, item_more, items_from, with_suffix, with_suffixes, with_link, with_links, property_of}
use Rattle.php_ast.specs.expression.Parts.{item_with, named_with, suffix_with, link_with}
use Rattle.php_ast.proofs.Views.{view_chain, view_run}
use Rattle.php_legality.specs.Expressions as meant
use Rattle.php_legality.specs.Rows as rows
use Rattle.php_places.specs.declared.usage.Use.{Use}
use Rattle.php_places.specs.declared.usage.Use.TheVariants as usage
use Rattle.php_places.specs.declared.list.Found.{Found}
use Rattle.php_places.specs.declared.shape.Shape.{Shape}
use Rattle.php_places.specs.Over.{over}
use Rattle.php_places.specs.Uses.{use_view}
use Rattle.php_places.specs.Shapes as spec
use Rattle.php_places.proofs.Views.{view_array}

-- ---- items

abbrev found_in : Items Note → Found
found_in items = record {
  has_item = rows.has_item items;
  has_reference = rows.has_reference items;
  all = record { has_missing = rows.has_missing items; has_keyed = rows.has_keyed items; has_unkeyed = rows.has_unkeyed items };
  trimmed = record {
    has_missing = rows.has_missing (rows.without_last items);
    has_keyed = rows.has_keyed (rows.without_last items);
    has_unkeyed = rows.has_unkeyed (rows.without_last items);
  };
}

one_found : (before : Items Note) (x : Item Expr) → found_in (item_more before (item_with view x)) ≡ spec.look x (found_in before)
one_found before item.Missing = refl
one_found before (item.Value e) = refl
one_found before (item.Reference e) = refl
one_found before (item.Keyed k e) = refl
one_found before (item.KeyedReference k e) = refl

all_found : (before : Items Note) (xs : List (Item Expr)) → found_in (items_from before (map (item_with view) xs)) ≡ over spec.look xs (found_in before)
all_found before [] = refl
all_found before (x ∷ xs) = all_found (item_more before (item_with view x)) xs ∙ ap (over spec.look xs) (one_found before x)

-- ---- arrays and lists

array_shape : (at : Note) (f : ArrayForm) (items : Items Note) → spec.array f (found_in items) ≡ spec.shape_of (listed at (array f) items)
array_shape at form.Brackets items = refl
array_shape at form.Array items = refl
array_shape at form.List items = refl

pub shape_of_array : (spot : Spot) (f : ArrayForm) (items : List (Item Expr)) → spec.array f (over spec.look items spec.nothing) ≡ spec.shape_of (view (Array spot f items))
shape_of_array spot f items =
    ap (spec.array f) (sym (all_found none items)) ∙ array_shape (spot_view spot) f (items_from none (map (item_with view) items)) ∙ ap spec.shape_of (sym (view_array spot f items))

-- ---- suffixes

word_shape : (at : Note) (e : Tree Note) (keyword : Option Keyword) (w : Word) → spec.plain ≡ spec.shape_of (selected e colons (word_of keyword w))
word_shape at e None w = refl
word_shape at e (Some k) w = refl

static_word_shape : (at : Note) (keyword : Option Keyword) (w : Word) → spec.plain ≡ spec.shape_of (static_member at (word_of keyword w))
static_word_shape at None w = refl
static_word_shape at (Some k) w = refl

named_shape : (e : Tree Note) (n : Named (Tree Note)) → spec.place false false ≡ spec.shape_of (property_of e n)
named_shape e (arrow.Word w) = refl
named_shape e (arrow.Variable n) = refl
named_shape e (arrow.Computed k) = refl

one_suffix : (e : Tree Note) (x : Suffix Expr) → spec.shape_of (with_suffix e (suffix_with view x)) ≡ spec.after x (spec.shape_of e)
one_suffix e suffix.Append = refl
one_suffix e (suffix.Index k) = refl
one_suffix e (suffix.Property n) = sym (named_shape e (named_with view n))
one_suffix e (suffix.Member (member.Word w)) = sym (word_shape (record { place = 0; line = 0; text = [] }) e w.keyword w)
one_suffix e (suffix.Member (member.Variable n)) = refl
one_suffix e (suffix.Call arguments) = refl

all_suffixes : (e : Tree Note) (xs : List (Suffix Expr)) → spec.shape_of (with_suffixes e (map (suffix_with view) xs)) ≡ over spec.after xs (spec.shape_of e)
all_suffixes e [] = refl
all_suffixes e (x ∷ xs) = all_suffixes (with_suffix e (suffix_with view x)) xs ∙ ap (over spec.after xs) (one_suffix e x)

pub shape_of_chain : (e : Expr) (xs : List (Suffix Expr)) → over spec.after xs (spec.shape_of (view e)) ≡ spec.shape_of (view (Chain e xs))
shape_of_chain e xs = sym (all_suffixes (view e) xs) ∙ ap spec.shape_of (sym (view_chain e xs))

pub shape_of_static : (at : Note) (m : _) → spec.static_member m ≡ spec.shape_of (static_member at (member_view m))
shape_of_static at (member.Word w) = static_word_shape at w.keyword w
shape_of_static at (member.Variable n) = refl

-- ---- runs

link_shape : (e : Tree Note) (x : Link (Tree Note)) → spec.shape_of (with_link e x) ≡ spec.plain
link_shape e (link.Operator op r) = refl
link_shape e (link.Choice a b) = refl
link_shape e (link.ShortChoice b) = refl

links_shape : (e : Tree Note) (x : Link (Tree Note)) (xs : List (Link (Tree Note))) → spec.shape_of (with_links e (x ∷ xs)) ≡ spec.plain
links_shape e x [] = link_shape e x
links_shape e x (y ∷ ys) = links_shape (with_link e x) y ys

pub shape_of_run : (e : Expr) (links : List (Link Expr)) → false ≡ (length links == 0) → spec.plain ≡ spec.shape_of (view (Run e links))
shape_of_run e [] some = absurd (cc)
shape_of_run e (x ∷ xs) some = sym (links_shape (view e) (link_with view x) (map (link_with view) xs)) ∙ ap spec.shape_of (sym (view_run e (x ∷ xs)))

-- a node with an empty list is the node inside it
pub empty_run : (e : Expr) (links : List (Link Expr)) → true ≡ (length links == 0) → view e ≡ view (Run e links)
empty_run e [] plain = sym (view_run e [])
empty_run e (x ∷ xs) plain = absurd (grind (arith, common_steps))

pub empty_chain : (e : Expr) (suffixes : List (Suffix Expr)) → true ≡ (length suffixes == 0) → view e ≡ view (Chain e suffixes)
empty_chain e [] plain = sym (view_chain e [])
empty_chain e (x ∷ xs) plain = absurd (grind (arith, common_steps))

-- ---- what may be done

pub fits_is : (u : Use) (e : Tree Note) → spec.fits u (spec.shape_of e) ≡ rows.fits (use_view u) e
fits_is usage.Valued e = refl
fits_is usage.Assigned e = refl
fits_is usage.Changed e = refl
fits_is usage.Linked e = refl
fits_is usage.Removed e = refl
fits_is usage.Asked e = refl

pub bad_list_is : (u : Use) (e : Tree Note) → spec.is_bad_list u (spec.shape_of e) ≡ rows.is_bad_list (use_view u) e
bad_list_is usage.Valued e = refl
bad_list_is usage.Assigned e = refl
bad_list_is usage.Changed e = refl
bad_list_is usage.Linked e = refl
bad_list_is usage.Removed e = refl
bad_list_is usage.Asked e = refl
