-- Which expressions of the program are flat: what the limit of nesting doesn't count lies side by side in one list. Going down
-- such a tree takes no more steps than there is nesting.
use Rattle.std.specs.Prelude.{ℕ, nat_eq, Bool, true, false, not, ◌&&◌, List, [], ◌∷◌, map}
use Rattle.std.specs.List.{list_all}
use Rattle.php_ast.specs.declared.expression.Expr.{Expr, fold-Expr}
use Rattle.php_ast.specs.declared.expression.Expr.TheOpen.{Expr-F}
use Rattle.php_ast.specs.declared.expression.Piece.{Piece}
use Rattle.php_ast.specs.declared.expression.Piece.TheVariants as piece
use Rattle.php_ast.specs.declared.expression.Item.{Item}
use Rattle.php_ast.specs.declared.expression.Item.TheVariants as item
use Rattle.php_ast.specs.declared.expression.Argument.{Argument}
use Rattle.php_ast.specs.declared.expression.Argument.TheVariants as argument
use Rattle.php_ast.specs.declared.expression.Suffix.{Suffix}
use Rattle.php_ast.specs.declared.expression.Suffix.TheVariants as suffix
use Rattle.php_ast.specs.declared.expression.Named.{Named}
use Rattle.php_ast.specs.declared.expression.Named.TheVariants as arrow
use Rattle.php_ast.specs.declared.expression.Class.{Class}
use Rattle.php_ast.specs.declared.expression.Class.TheVariants as class
use Rattle.php_ast.specs.declared.expression.ClassStep.{ClassStep}
use Rattle.php_ast.specs.declared.expression.ClassStep.TheVariants as class_step
use Rattle.php_ast.specs.declared.expression.Link.{Link}
use Rattle.php_ast.specs.declared.expression.Link.TheVariants as link
use Rattle.php_ast.specs.declared.power.Row.{Row}
use Rattle.php_ast.specs.Power.{is_left, binary_row, choice_row}
use Rattle.php_ast.specs.expression.Parts.{piece_with, item_with, argument_with, suffix_with, step_with, class_with, link_with}

-- ---- what is known of a part

-- what an expression is at its top
pub data Top : Type 0 where
  -- an operand with its suffixes
  chain : Top
  -- operators of a power
  run : ℕ → Top
  other : Top

pub record Shape : Type 0 where
  pub flat : Bool
  pub top : Top

-- flat, and no chain
abbrev pub unchained : Top → Bool → Bool
unchained chain flat = false
unchained _ flat = flat

abbrev pub is_run_top : ℕ → Top → Bool
is_run_top power (run p) = nat_eq p power
is_run_top power _ = false

-- ---- parts of flat parts

abbrev pub piece_flat : Piece Shape → Bool
piece_flat (piece.Bytes text) = true
piece_flat (piece.Part e) = e.flat

abbrev pub item_flat : Item Shape → Bool
item_flat item.Missing = true
item_flat (item.Value e) = e.flat
item_flat (item.Reference e) = e.flat
item_flat (item.Keyed k e) = k.flat && e.flat
item_flat (item.KeyedReference k e) = k.flat && e.flat

abbrev pub argument_flat : Argument Shape → Bool
argument_flat (argument.Value e) = e.flat
argument_flat (argument.Spread e) = e.flat

abbrev pub named_flat : Named Shape → Bool
named_flat (arrow.Word w) = true
named_flat (arrow.Variable n) = true
named_flat (arrow.Computed e) = e.flat

abbrev pub suffix_flat : Suffix Shape → Bool
suffix_flat suffix.Append = true
suffix_flat (suffix.Index e) = e.flat
suffix_flat (suffix.Property n) = named_flat n
suffix_flat (suffix.Member m) = true
suffix_flat (suffix.Call arguments) = list_all argument_flat arguments

abbrev pub step_flat : ClassStep Shape → Bool
step_flat (class_step.Property w) = true
step_flat (class_step.Index e) = e.flat

abbrev pub class_flat : Class Shape → Bool
class_flat (class.Name n) = true
class_flat (class.Static spot) = true
class_flat (class.Variable n steps) = list_all step_flat steps

-- ---- chains and runs

-- the row of the operator of a link
abbrev pub link_row : {A : Type 0} → Link A → Row
link_row (link.Operator op e) = binary_row op
link_row (link.Choice a b) = choice_row
link_row (link.ShortChoice b) = choice_row

-- a link of flat parts, whose operator groups to the left
abbrev pub link_flat : Link Shape → Bool
link_flat (link.Operator op e) = is_left (binary_row op).grouping && e.flat
link_flat (link.Choice a b) = a.flat && b.flat
link_flat (link.ShortChoice b) = b.flat

abbrev pub has_power : ℕ → Link Shape → Bool
has_power power x = nat_eq (link_row x).power power

abbrev pub is_some : {A : Type 0} → List A → Bool
is_some [] = false
is_some (x ∷ xs) = true

-- one suffix or more, behind an operand that is no chain
abbrev pub chain_shape : Shape → List (Suffix Shape) → Shape
chain_shape e suffixes = record { flat = unchained e.top e.flat && is_some suffixes && list_all suffix_flat suffixes; top = chain }

-- one link or more, of one power, behind an operand that is no run of that power
abbrev pub run_shape : Shape → List (Link Shape) → Shape
run_shape e [] = record { flat = false; top = other }
run_shape e (x ∷ links) = record {
  flat = e.flat && not (is_run_top (link_row x).power e.top) && list_all link_flat (x ∷ links) && list_all (has_power (link_row x).power) links;
  top = run (link_row x).power;
}

-- ---- the whole

-- what is neither a chain nor a run
abbrev pub apart : Bool → Shape
apart flat = record { flat = flat; top = other }

-- one node, of whose parts the shapes are known
abbrev pub shape_step : Expr-F Shape → Shape
shape_step (Expr-F.Template spot pieces) = apart (list_all piece_flat pieces)
shape_step (Expr-F.Group spot e) = apart e.flat
shape_step (Expr-F.Array spot form items) = apart (list_all item_flat items)
shape_step (Expr-F.IsSet spot es) = apart (list_all (λ e. e.flat) es)
shape_step (Expr-F.Empty spot e) = apart e.flat
shape_step (Expr-F.ExitWith spot e) = apart e.flat
shape_step (Expr-F.Chain e suffixes) = chain_shape e suffixes
shape_step (Expr-F.New spot c) = apart (class_flat c)
shape_step (Expr-F.NewWith spot c arguments) = apart (class_flat c && list_all argument_flat arguments)
shape_step (Expr-F.Prefix spot op e) = apart e.flat
shape_step (Expr-F.Count e count) = apart e.flat
shape_step (Expr-F.Run e links) = run_shape e links
-- an operator that groups to the left is a link of a run
shape_step (Expr-F.Binary op l r) = apart (not (is_left (binary_row op).grouping) && l.flat && r.flat)
shape_step (Expr-F.InstanceOf l r) = apart (l.flat && r.flat)
shape_step (Expr-F.InstanceOfStatic l spot) = apart l.flat
shape_step (Expr-F.Assign op l r) = apart (l.flat && r.flat)
shape_step (Expr-F.AssignReference l r) = apart (l.flat && r.flat)
shape_step (Expr-F.Yield spot v) = apart v.flat
shape_step (Expr-F.YieldPair spot k v) = apart (k.flat && v.flat)
-- the others have no parts
shape_step _ = apart true

abbrev pub shape : Expr → Shape
shape = fold-Expr Shape shape_step

abbrev pub is_flat : Expr → Bool
is_flat e = (shape e).flat

-- flat, and no chain
abbrev pub is_flat_leaf : Expr → Bool
is_flat_leaf e = unchained (shape e).top (shape e).flat

abbrev pub is_run : ℕ → Expr → Bool
is_run power e = is_run_top power (shape e).top

-- ---- parts of the program's trees

abbrev pub are_flat : List Expr → Bool
are_flat es = list_all (λ e. e.flat) (map shape es)

abbrev pub is_flat_piece : Piece Expr → Bool
is_flat_piece x = piece_flat (piece_with shape x)

abbrev pub are_flat_pieces : List (Piece Expr) → Bool
are_flat_pieces xs = list_all piece_flat (map (piece_with shape) xs)

abbrev pub is_flat_item : Item Expr → Bool
is_flat_item x = item_flat (item_with shape x)

abbrev pub are_flat_items : List (Item Expr) → Bool
are_flat_items xs = list_all item_flat (map (item_with shape) xs)

abbrev pub is_flat_argument : Argument Expr → Bool
is_flat_argument x = argument_flat (argument_with shape x)

abbrev pub are_flat_arguments : List (Argument Expr) → Bool
are_flat_arguments xs = list_all argument_flat (map (argument_with shape) xs)

abbrev pub is_flat_suffix : Suffix Expr → Bool
is_flat_suffix x = suffix_flat (suffix_with shape x)

abbrev pub are_flat_suffixes : List (Suffix Expr) → Bool
are_flat_suffixes xs = list_all suffix_flat (map (suffix_with shape) xs)

abbrev pub is_flat_step : ClassStep Expr → Bool
is_flat_step x = step_flat (step_with shape x)

abbrev pub are_flat_steps : List (ClassStep Expr) → Bool
are_flat_steps xs = list_all step_flat (map (step_with shape) xs)

abbrev pub is_flat_class : Class Expr → Bool
is_flat_class c = class_flat (class_with shape c)

abbrev pub is_flat_link : Link Expr → Bool
is_flat_link x = link_flat (link_with shape x)

-- whether a first operand and links are a flat run
abbrev pub is_flat_run : Expr → List (Link Expr) → Bool
is_flat_run e links = (run_shape (shape e) (map (link_with shape) links)).flat

-- whether links are those of a run of a power
abbrev pub starts_run : ℕ → List (Link Expr) → Bool
starts_run power [] = false
starts_run power (x ∷ links) = nat_eq (link_row x).power power
