-- From the expressions of the program to the trees of the grammar.
use Rattle.std.specs.Prelude.{ℕ, List, [], ◌∷◌, Option, Some, None}
use Rattle.php_token.specs.declared.kind.Keyword.{Keyword}
use Rattle.php_ast.specs.declared.spot.Spot.{Spot}
use Rattle.php_ast.specs.declared.spot.Word.{Word}
use Rattle.php_ast.specs.declared.expression.Expr.{Expr, fold-Expr}
use Rattle.php_ast.specs.declared.expression.Expr.TheOpen.{Expr-F}
use Rattle.php_ast.specs.declared.expression.Piece.{Piece}
use Rattle.php_ast.specs.declared.expression.Piece.TheVariants as piece
use Rattle.php_ast.specs.declared.expression.Item.{Item}
use Rattle.php_ast.specs.declared.expression.Item.TheVariants as item
use Rattle.php_ast.specs.declared.expression.Argument.{Argument}
use Rattle.php_ast.specs.declared.expression.Argument.TheVariants as argument
use Rattle.php_ast.specs.declared.expression.Suffix.{Suffix}
use Rattle.php_ast.specs.declared.expression.Suffix.TheVariants as suffix
use Rattle.php_ast.specs.declared.expression.Named as behind_arrow
use Rattle.php_ast.specs.declared.expression.Named.TheVariants as arrow
use Rattle.php_ast.specs.declared.expression.Member as behind_colons
use Rattle.php_ast.specs.declared.expression.Member.TheVariants as member
use Rattle.php_ast.specs.declared.expression.Class as behind_new
use Rattle.php_ast.specs.declared.expression.Class.TheVariants as class
use Rattle.php_ast.specs.declared.expression.ClassStep.{ClassStep}
use Rattle.php_ast.specs.declared.expression.ClassStep.TheVariants as class_step
use Rattle.php_ast.specs.declared.expression.Link.{Link}
use Rattle.php_ast.specs.declared.expression.Link.TheVariants as link
use Rattle.php_ast.specs.expression.Tree.{variable, int, string, name, magic, parentheses, emptiness, exiting, array, is_set, thin, colons, by_value, by_reference, Member, named, reserved, held}
use Rattle.php_ast.specs.expression.Tree.{Tree, leaf, template, enclosed, listed, exit, exit_empty, static_member, append, index, selected, computed, call, new, new_with, prefix, count, binary, instance_of, instance_of_static, choice, short_choice, assign, yield_nothing, yield_value, yield_pair}
use Rattle.php_ast.specs.expression.Tree.{Items, none, and, skip, plain, reference, spread, keyed, keyed_reference, Pieces, no_piece, bytes, value, Class, class_name, class_static, class_found, Steps, from, step_property, step_index}

-- What a tree notes of a token: its place among the tokens, from 0, its line, from 1, and of a keyword
-- in place of a name its text as it is written.
pub record Note : Type 0 where
  pub place : ℕ
  pub line : ℕ
  pub text : List ℕ

abbrev pub spot_view : Spot → Note
spot_view spot = record { place = spot.place; line = spot.line; text = [] }

abbrev pub word_of : Option Keyword → Word → Member Note
word_of None w = named (spot_view w.spot) w.text
word_of (Some keyword) w = reserved (record { place = w.spot.place; line = w.spot.line; text = w.text }) keyword

abbrev pub word_view : Word → Member Note
word_view w = word_of w.keyword w

-- ---- lists, behind what stands before

abbrev pub piece_more : Pieces Note → Piece (Tree Note) → Pieces Note
piece_more before (piece.Bytes text) = bytes before text
piece_more before (piece.Part e) = value before e

abbrev pub pieces_from : Pieces Note → List (Piece (Tree Note)) → Pieces Note
pieces_from before [] = before
pieces_from before (x ∷ xs) = pieces_from (piece_more before x) xs

abbrev pub item_more : Items Note → Item (Tree Note) → Items Note
item_more before item.Missing = skip before
item_more before (item.Value e) = and before plain e
item_more before (item.Reference e) = and before reference e
item_more before (item.Keyed k e) = and before (keyed k) e
item_more before (item.KeyedReference k e) = and before (keyed_reference k) e

abbrev pub items_from : Items Note → List (Item (Tree Note)) → Items Note
items_from before [] = before
items_from before (x ∷ xs) = items_from (item_more before x) xs

abbrev pub argument_more : Items Note → Argument (Tree Note) → Items Note
argument_more before (argument.Value e) = and before plain e
argument_more before (argument.Spread e) = and before spread e

abbrev pub arguments_from : Items Note → List (Argument (Tree Note)) → Items Note
arguments_from before [] = before
arguments_from before (x ∷ xs) = arguments_from (argument_more before x) xs

abbrev pub values_from : Items Note → List (Tree Note) → Items Note
values_from before [] = before
values_from before (e ∷ es) = values_from (and before plain e) es

-- ---- the class behind `new`

abbrev pub step_more : Steps Note → ClassStep (Tree Note) → Steps Note
step_more before (class_step.Property w) = step_property before (word_view w)
step_more before (class_step.Index e) = step_index before e

abbrev pub steps_from : Steps Note → List (ClassStep (Tree Note)) → Steps Note
steps_from before [] = before
steps_from before (x ∷ xs) = steps_from (step_more before x) xs

abbrev pub class_view : behind_new.Class (Tree Note) → Class Note
class_view (class.Name n) = class_name (spot_view n.spot) n.text
class_view (class.Static spot) = class_static (spot_view spot)
class_view (class.Variable n steps) = class_found (steps_from (from (spot_view n.spot) n.text) steps)

-- ---- suffixes and runs

abbrev pub member_view : behind_colons.Member → Member Note
member_view (member.Word w) = word_view w
member_view (member.Variable n) = held (spot_view n.spot) n.text

abbrev pub property_of : Tree Note → behind_arrow.Named (Tree Note) → Tree Note
property_of e (arrow.Word w) = selected e thin (word_view w)
property_of e (arrow.Variable n) = selected e thin (held (spot_view n.spot) n.text)
property_of e (arrow.Computed key) = computed e key

abbrev pub with_suffix : Tree Note → Suffix (Tree Note) → Tree Note
with_suffix e suffix.Append = append e
with_suffix e (suffix.Index key) = index e key
with_suffix e (suffix.Property named_by) = property_of e named_by
with_suffix e (suffix.Member m) = selected e colons (member_view m)
with_suffix e (suffix.Call arguments) = call e (arguments_from none arguments)

abbrev pub with_suffixes : Tree Note → List (Suffix (Tree Note)) → Tree Note
with_suffixes e [] = e
with_suffixes e (x ∷ xs) = with_suffixes (with_suffix e x) xs

abbrev pub with_link : Tree Note → Link (Tree Note) → Tree Note
with_link e (link.Operator op r) = binary op e r
with_link e (link.Choice a b) = choice e a b
with_link e (link.ShortChoice b) = short_choice e b

abbrev pub with_links : Tree Note → List (Link (Tree Note)) → Tree Note
with_links e [] = e
with_links e (x ∷ xs) = with_links (with_link e x) xs

-- ---- the whole

-- one node, whose parts are trees already
abbrev pub view_step : Expr-F (Tree Note) → Tree Note
view_step (Expr-F.Variable n) = leaf (spot_view n.spot) (variable n.text)
view_step (Expr-F.Int spot n) = leaf (spot_view spot) (int n)
view_step (Expr-F.Str spot text) = leaf (spot_view spot) (string text)
view_step (Expr-F.Name n) = leaf (spot_view n.spot) (name n.text)
view_step (Expr-F.StaticMember spot m) = static_member (spot_view spot) (member_view m)
view_step (Expr-F.Template spot pieces) = template (spot_view spot) (pieces_from no_piece pieces)
view_step (Expr-F.Group spot e) = enclosed (spot_view spot) parentheses e
view_step (Expr-F.Array spot form items) = listed (spot_view spot) (array form) (items_from none items)
view_step (Expr-F.IsSet spot es) = listed (spot_view spot) is_set (values_from none es)
view_step (Expr-F.Empty spot e) = enclosed (spot_view spot) emptiness e
view_step (Expr-F.Exit spot) = exit (spot_view spot)
view_step (Expr-F.ExitEmpty spot) = exit_empty (spot_view spot)
view_step (Expr-F.ExitWith spot e) = enclosed (spot_view spot) exiting e
view_step (Expr-F.Magic spot constant) = leaf (spot_view spot) (magic constant)
view_step (Expr-F.Chain e suffixes) = with_suffixes e suffixes
view_step (Expr-F.New spot c) = new (spot_view spot) (class_view c)
view_step (Expr-F.NewWith spot c arguments) = new_with (spot_view spot) (class_view c) (arguments_from none arguments)
view_step (Expr-F.Prefix spot op e) = prefix (spot_view spot) op e
view_step (Expr-F.Count e way) = count e way
view_step (Expr-F.Run e links) = with_links e links
view_step (Expr-F.Binary op l r) = binary op l r
view_step (Expr-F.InstanceOf l r) = instance_of l r
view_step (Expr-F.InstanceOfStatic l spot) = instance_of_static l (spot_view spot)
view_step (Expr-F.Assign op l r) = assign (by_value op) l r
view_step (Expr-F.AssignReference l r) = assign by_reference l r
view_step (Expr-F.YieldNothing spot) = yield_nothing (spot_view spot)
view_step (Expr-F.Yield spot v) = yield_value (spot_view spot) v
view_step (Expr-F.YieldPair spot k v) = yield_pair (spot_view spot) k v

abbrev pub view : Expr → Tree Note
view = fold-Expr (Tree Note) view_step
