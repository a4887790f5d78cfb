-- A function at each expression in a part of an expression of the program.
use Rattle.std.specs.Prelude.{map}
use Rattle.php_ast.specs.declared.expression.Expr.{Expr}
use Rattle.php_ast.specs.declared.expression.Piece.{Piece}
use Rattle.php_ast.specs.declared.expression.Piece.TheVariants as piece
use Rattle.php_ast.specs.declared.expression.Item.{Item}
use Rattle.php_ast.specs.declared.expression.Item.TheVariants as item
use Rattle.php_ast.specs.declared.expression.Argument.{Argument}
use Rattle.php_ast.specs.declared.expression.Argument.TheVariants as argument
use Rattle.php_ast.specs.declared.expression.Suffix.{Suffix}
use Rattle.php_ast.specs.declared.expression.Suffix.TheVariants as suffix
use Rattle.php_ast.specs.declared.expression.Named.{Named}
use Rattle.php_ast.specs.declared.expression.Named.TheVariants as arrow
use Rattle.php_ast.specs.declared.expression.Class.{Class}
use Rattle.php_ast.specs.declared.expression.Class.TheVariants as class
use Rattle.php_ast.specs.declared.expression.ClassStep.{ClassStep}
use Rattle.php_ast.specs.declared.expression.ClassStep.TheVariants as class_step
use Rattle.php_ast.specs.declared.expression.Link.{Link}
use Rattle.php_ast.specs.declared.expression.Link.TheVariants as link

abbrev pub piece_with : {A : Type 0} → (Expr → A) → Piece Expr → Piece A
piece_with f (piece.Bytes text) = piece.Bytes text
piece_with f (piece.Part e) = piece.Part (f e)

abbrev pub item_with : {A : Type 0} → (Expr → A) → Item Expr → Item A
item_with f item.Missing = item.Missing
item_with f (item.Value e) = item.Value (f e)
item_with f (item.Reference e) = item.Reference (f e)
item_with f (item.Keyed k e) = item.Keyed (f k) (f e)
item_with f (item.KeyedReference k e) = item.KeyedReference (f k) (f e)

abbrev pub argument_with : {A : Type 0} → (Expr → A) → Argument Expr → Argument A
argument_with f (argument.Value e) = argument.Value (f e)
argument_with f (argument.Spread e) = argument.Spread (f e)

abbrev pub named_with : {A : Type 0} → (Expr → A) → Named Expr → Named A
named_with f (arrow.Word w) = arrow.Word w
named_with f (arrow.Variable n) = arrow.Variable n
named_with f (arrow.Computed e) = arrow.Computed (f e)

abbrev pub suffix_with : {A : Type 0} → (Expr → A) → Suffix Expr → Suffix A
suffix_with f suffix.Append = suffix.Append
suffix_with f (suffix.Index e) = suffix.Index (f e)
suffix_with f (suffix.Property n) = suffix.Property (named_with f n)
suffix_with f (suffix.Member m) = suffix.Member m
suffix_with f (suffix.Call arguments) = suffix.Call (map (argument_with f) arguments)

abbrev pub step_with : {A : Type 0} → (Expr → A) → ClassStep Expr → ClassStep A
step_with f (class_step.Property w) = class_step.Property w
step_with f (class_step.Index e) = class_step.Index (f e)

abbrev pub class_with : {A : Type 0} → (Expr → A) → Class Expr → Class A
class_with f (class.Name n) = class.Name n
class_with f (class.Static spot) = class.Static spot
class_with f (class.Variable n steps) = class.Variable n (map (step_with f) steps)

abbrev pub link_with : {A : Type 0} → (Expr → A) → Link Expr → Link A
link_with f (link.Operator op e) = link.Operator op (f e)
link_with f (link.Choice a b) = link.Choice (f a) (f b)
link_with f (link.ShortChoice b) = link.ShortChoice (f b)
