-- The same for the elements of lists in expressions of the program.
use Rattle.std.specs.Prelude.{Option, List, [], ◌∷◌}
use Rattle.php_ast.specs.declared.expression.Piece.{Piece}
use Rattle.php_ast.specs.declared.expression.Piece.TheVariants as piece
use Rattle.php_ast.specs.declared.expression.Item.{Item}
use Rattle.php_ast.specs.declared.expression.Item.TheVariants as item
use Rattle.php_ast.specs.declared.expression.Argument.{Argument}
use Rattle.php_ast.specs.declared.expression.Argument.TheVariants as argument
use Rattle.php_ast.specs.declared.expression.Suffix.{Suffix}
use Rattle.php_ast.specs.declared.expression.Suffix.TheVariants as suffix
use Rattle.php_ast.specs.declared.expression.Named.{Named}
use Rattle.php_ast.specs.declared.expression.Named.TheVariants as arrow
use Rattle.php_ast.specs.declared.expression.ClassStep.{ClassStep}
use Rattle.php_ast.specs.declared.expression.ClassStep.TheVariants as class_step
use Rattle.php_ast.specs.declared.expression.Link.{Link}
use Rattle.php_ast.specs.declared.expression.Link.TheVariants as link
use Rattle.php_ast.specs.expression.Tree.{Tree, Class}
use Rattle.php_ast.specs.expression.View.{Note}
use Rattle.php_legality.specs.declared.fault.Fault.{Fault}
use Rattle.php_legality.specs.declared.scope.Scope.{Scope}
use Rattle.php_legality.specs.Expressions.{Use, valued, changed}
use Rattle.php_legality.specs.Rows.{inner_class}
use Rattle.php_places.specs.Over.{over}
use Rattle.php_places.specs.Met.{at_words, access_words, met_used, met_class}

abbrev pub met_piece : Scope → Piece (Tree Note) → Option Fault → Option Fault
met_piece scope (piece.Bytes text) met = met
met_piece scope (piece.Part e) met = met_used scope valued e met

abbrev pub met_item : Scope → Use → Item (Tree Note) → Option Fault → Option Fault
met_item scope u item.Missing met = met
met_item scope u (item.Value e) met = met_used scope u e met
met_item scope u (item.Reference e) met = met_used scope changed e met
met_item scope u (item.Keyed k e) met = met_used scope u e (met_used scope valued k met)
met_item scope u (item.KeyedReference k e) met = met_used scope changed e (met_used scope valued k met)

abbrev pub met_argument : Scope → Argument (Tree Note) → Option Fault → Option Fault
met_argument scope (argument.Value e) met = met_used scope valued e met
met_argument scope (argument.Spread e) met = met_used scope valued e met

abbrev pub met_named : Scope → Named (Tree Note) → Option Fault → Option Fault
met_named scope (arrow.Word w) met = met
met_named scope (arrow.Variable n) met = met
met_named scope (arrow.Computed e) met = met_used scope valued e met

abbrev pub met_suffix : Scope → Suffix (Tree Note) → Option Fault → Option Fault
met_suffix scope suffix.Append met = met
met_suffix scope (suffix.Index e) met = met_used scope valued e met
met_suffix scope (suffix.Property n) met = met_named scope n met
met_suffix scope (suffix.Member m) met = met
met_suffix scope (suffix.Call arguments) met = over (met_argument scope) arguments met

-- an operand and its suffixes, of which there is one
abbrev pub met_chain : Scope → Tree Note → List (Suffix (Tree Note)) → Option Fault → Option Fault
met_chain scope e [] met = met
met_chain scope e (x ∷ xs) met = over (met_suffix scope) (x ∷ xs) (met_used scope valued e (at_words scope.in_class (access_words e x) met))

abbrev pub met_new : Scope → Class Note → Option Fault → Option Fault
met_new scope class met = met_class scope class (at_words scope.in_class (inner_class class) met)

abbrev pub met_step : Scope → ClassStep (Tree Note) → Option Fault → Option Fault
met_step scope (class_step.Property w) met = met
met_step scope (class_step.Index e) met = met_used scope valued e met

abbrev pub met_link : Scope → Link (Tree Note) → Option Fault → Option Fault
met_link scope (link.Operator op e) met = met_used scope valued e met
met_link scope (link.Choice a b) met = met_used scope valued b (met_used scope valued a met)
met_link scope (link.ShortChoice b) met = met_used scope valued b met
