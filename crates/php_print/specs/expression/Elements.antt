-- The spelling of one element of a list, and of a class behind `new`, in front of what follows.
use Rattle.std.specs.Prelude.{List, ◌∷◌}
use Rattle.php_token.specs.declared.kind.Keyword.TheVariants as word
use Rattle.php_token.specs.declared.kind.Punct.TheVariants as mark
use Rattle.php_ast.specs.declared.expression.Piece.{Piece}
use Rattle.php_ast.specs.declared.expression.Piece.TheVariants as piece
use Rattle.php_ast.specs.declared.expression.Item.{Item}
use Rattle.php_ast.specs.declared.expression.Item.TheVariants as item
use Rattle.php_ast.specs.declared.expression.Argument.{Argument}
use Rattle.php_ast.specs.declared.expression.Argument.TheVariants as argument
use Rattle.php_ast.specs.declared.expression.Suffix.{Suffix}
use Rattle.php_ast.specs.declared.expression.Suffix.TheVariants as suffix
use Rattle.php_ast.specs.declared.expression.Named.{Named}
use Rattle.php_ast.specs.declared.expression.Named.TheVariants as arrow
use Rattle.php_ast.specs.declared.expression.ClassStep.{ClassStep}
use Rattle.php_ast.specs.declared.expression.ClassStep.TheVariants as class_step
use Rattle.php_ast.specs.declared.expression.Link.{Link}
use Rattle.php_ast.specs.declared.expression.Link.TheVariants as link
use Rattle.php_ast.specs.declared.expression.Class as behind_new
use Rattle.php_ast.specs.Symbol as symbol
use Rattle.php_ast.specs.Symbol.{Symbol, keyword, punct}
use Rattle.php_ast.specs.Operators.{binary_symbol}
use Rattle.php_ast.specs.expression.Tree.{Tree, none}
use Rattle.php_ast.specs.expression.Spelling.{spell, spell_items, spell_class, member_symbol}
use Rattle.php_ast.specs.expression.View.{Note, word_view, member_view, arguments_from, class_view}

abbrev pub spell_piece : Piece (Tree Note) → List Symbol → List Symbol
spell_piece (piece.Bytes text) w = symbol.piece text ∷ w
spell_piece (piece.Part e) w = symbol.part ∷ spell e (symbol.end_part ∷ w)

abbrev pub spell_item : Item (Tree Note) → List Symbol → List Symbol
spell_item item.Missing w = w
spell_item (item.Value e) w = spell e w
spell_item (item.Reference e) w = punct mark.Ampersand ∷ spell e w
spell_item (item.Keyed k e) w = spell k (punct mark.DoubleArrow ∷ spell e w)
spell_item (item.KeyedReference k e) w = spell k (punct mark.DoubleArrow ∷ punct mark.Ampersand ∷ spell e w)

abbrev pub spell_argument : Argument (Tree Note) → List Symbol → List Symbol
spell_argument (argument.Value e) w = spell e w
spell_argument (argument.Spread e) w = punct mark.Ellipsis ∷ spell e w

abbrev pub spell_arguments : List (Argument (Tree Note)) → List Symbol → List Symbol
spell_arguments arguments w = punct mark.LeftParen ∷ spell_items (arguments_from none arguments) (punct mark.RightParen ∷ w)

abbrev pub spell_property : Named (Tree Note) → List Symbol → List Symbol
spell_property (arrow.Word name) w = punct mark.Arrow ∷ member_symbol (word_view name) ∷ w
spell_property (arrow.Variable name) w = punct mark.Arrow ∷ symbol.variable name.text ∷ w
spell_property (arrow.Computed key) w = punct mark.Arrow ∷ punct mark.LeftBrace ∷ spell key (punct mark.RightBrace ∷ w)

abbrev pub spell_suffix : Suffix (Tree Note) → List Symbol → List Symbol
spell_suffix suffix.Append w = punct mark.LeftBracket ∷ punct mark.RightBracket ∷ w
spell_suffix (suffix.Index key) w = punct mark.LeftBracket ∷ spell key (punct mark.RightBracket ∷ w)
spell_suffix (suffix.Property named_by) w = spell_property named_by w
spell_suffix (suffix.Member m) w = punct mark.DoubleColon ∷ member_symbol (member_view m) ∷ w
spell_suffix (suffix.Call arguments) w = spell_arguments arguments w

abbrev pub spell_link : Link (Tree Note) → List Symbol → List Symbol
spell_link (link.Operator op r) w = binary_symbol op ∷ spell r w
spell_link (link.Choice a b) w = punct mark.Question ∷ spell a (punct mark.Colon ∷ spell b w)
spell_link (link.ShortChoice b) w = punct mark.Question ∷ punct mark.Colon ∷ spell b w

abbrev pub spell_step : ClassStep (Tree Note) → List Symbol → List Symbol
spell_step (class_step.Property name) w = punct mark.Arrow ∷ member_symbol (word_view name) ∷ w
spell_step (class_step.Index e) w = punct mark.LeftBracket ∷ spell e (punct mark.RightBracket ∷ w)

-- `new` and its class
abbrev pub spell_new : behind_new.Class (Tree Note) → List Symbol → List Symbol
spell_new c w = keyword word.New ∷ spell_class (class_view c) w
