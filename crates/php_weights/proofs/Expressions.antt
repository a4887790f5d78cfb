-- How large an expression is: what a walk over it uses up, and that parts are less.
use Rattle.std.proofs.Common.{◌≡◌, ◌≤◌, ◌<◌, ℕ, zero, suc, ◌+◌, List, [], ◌∷◌, map, Some, slice_get, get_or, length, sym, refl, ap, ◌∙◌, arith}
use Rattle.std.specs.Option.{option_map}
use Rattle.std.proofs.lemmas.Option.{slice_get-map, slice_get-get_or}
use Rattle.php_ast.specs.declared.expression.Expr.{Expr, fold-Expr}
use Rattle.php_ast.specs.declared.expression.Expr.TheOpen.{Expr-F}
use Rattle.php_ast.specs.declared.expression.Piece.{Piece}
use Rattle.php_ast.specs.declared.expression.Piece.TheVariants as piece
use Rattle.php_ast.specs.declared.expression.Item.{Item}
use Rattle.php_ast.specs.declared.expression.Item.TheVariants as item
use Rattle.php_ast.specs.declared.expression.Argument.{Argument}
use Rattle.php_ast.specs.declared.expression.Argument.TheVariants as argument
use Rattle.php_ast.specs.declared.expression.Suffix.{Suffix}
use Rattle.php_ast.specs.declared.expression.Suffix.TheVariants as suffix
use Rattle.php_ast.specs.declared.expression.Named.{Named}
use Rattle.php_ast.specs.declared.expression.Named.TheVariants as arrow
use Rattle.php_ast.specs.declared.expression.Class.{Class}
use Rattle.php_ast.specs.declared.expression.Class.TheVariants as class
use Rattle.php_ast.specs.declared.expression.ClassStep.{ClassStep}
use Rattle.php_ast.specs.declared.expression.ClassStep.TheVariants as class_step
use Rattle.php_ast.specs.declared.expression.Link.{Link}
use Rattle.php_ast.specs.declared.expression.Link.TheVariants as link

-- the sum over the elements of a list
abbrev pub total : {A : Type 0} → (A → ℕ) → List A → ℕ
total f [] = 0
total f (x ∷ xs) = f x + total f xs

abbrev pub piece_weight : Piece ℕ → ℕ
piece_weight (piece.Bytes text) = 0
piece_weight (piece.Part e) = e

abbrev pub item_weight : Item ℕ → ℕ
item_weight item.Missing = 0
item_weight (item.Value e) = e
item_weight (item.Reference e) = e
item_weight (item.Keyed k e) = k + e
item_weight (item.KeyedReference k e) = k + e

abbrev pub argument_weight : Argument ℕ → ℕ
argument_weight (argument.Value e) = e
argument_weight (argument.Spread e) = e

abbrev pub named_weight : Named ℕ → ℕ
named_weight (arrow.Word w) = 0
named_weight (arrow.Variable n) = 0
named_weight (arrow.Computed e) = e

abbrev pub suffix_weight : Suffix ℕ → ℕ
suffix_weight suffix.Append = 0
suffix_weight (suffix.Index e) = e
suffix_weight (suffix.Property n) = named_weight n
suffix_weight (suffix.Member m) = 0
suffix_weight (suffix.Call arguments) = total argument_weight arguments + 1

abbrev pub step_weight : ClassStep ℕ → ℕ
step_weight (class_step.Property w) = 0
step_weight (class_step.Index e) = e

abbrev pub class_weight : Class ℕ → ℕ
class_weight (class.Name n) = 0
class_weight (class.Static spot) = 0
class_weight (class.Variable n steps) = total step_weight steps

abbrev pub link_weight : Link ℕ → ℕ
link_weight (link.Operator op e) = e
link_weight (link.Choice a b) = a + b
link_weight (link.ShortChoice b) = b

abbrev pub weight_step : Expr-F ℕ → ℕ
weight_step (Expr-F.Template spot pieces) = total piece_weight pieces + 1
weight_step (Expr-F.Group spot e) = e + 1
weight_step (Expr-F.Array spot form items) = total item_weight items + 1
weight_step (Expr-F.IsSet spot es) = total (λ n. n) es + 1
weight_step (Expr-F.Empty spot e) = e + 1
weight_step (Expr-F.ExitWith spot e) = e + 1
weight_step (Expr-F.Chain e suffixes) = e + total suffix_weight suffixes + 1
weight_step (Expr-F.New spot c) = class_weight c + 1
weight_step (Expr-F.NewWith spot c arguments) = class_weight c + total argument_weight arguments + 1
weight_step (Expr-F.Prefix spot op e) = e + 1
weight_step (Expr-F.Count e count) = e + 1
weight_step (Expr-F.Run e links) = e + total link_weight links + 1
weight_step (Expr-F.Binary op l r) = l + r + 1
weight_step (Expr-F.InstanceOf l r) = l + r + 1
weight_step (Expr-F.InstanceOfStatic l spot) = l + 1
weight_step (Expr-F.Assign op l r) = l + r + 1
weight_step (Expr-F.AssignReference l r) = l + r + 1
weight_step (Expr-F.Yield spot v) = v + 1
weight_step (Expr-F.YieldPair spot k v) = k + v + 1
weight_step _ = 0

abbrev pub weight : Expr → ℕ
weight = fold-Expr ℕ weight_step

-- ---- elements of lists

total_part : {A : Type 0} (f : A → ℕ) (xs : List A) (i : ℕ) (x : A) → slice_get xs i ≡ Some x → f x ≤ total f xs
total_part f [] i x h = absurd (cc)
total_part f (y ∷ xs) zero x h = let same : y ≡ x = cc in omega (arith, ap f same)
total_part f (y ∷ xs) (suc i) x h = let more = total_part f xs i x h in omega arith

-- the element that a loop takes at its turn, seen by a function, is no heavier than all
pub heavier : {A B : Type 0} (f : B → ℕ) (v : A → B) (xs ys : List A) (k : ℕ) (x : A) → ys ≡ xs → k < length ys → x ≡ get_or ys k x → f (v x) ≤ total f (map v xs)
heavier f v xs ys k x same within is =
    total_part f (map v xs) k (v x)
    (slice_get-map v xs k ∙ ap (λ zs. option_map v (slice_get zs k)) (sym same) ∙ ap (option_map v) (slice_get-get_or ys k x within ∙ ap Some (sym is)))

-- the element at a place likewise
pub part_weight : {A B : Type 0} (f : B → ℕ) (v : A → B) (xs : List A) (i : ℕ) (x : A) → i < length xs → x ≡ get_or xs i x → f (v x) ≤ total f (map v xs)
part_weight f v xs i x within is = heavier f v xs xs i x refl within is
