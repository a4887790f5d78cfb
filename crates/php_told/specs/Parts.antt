-- The parts of a form as the program has them, in lists.
use Rattle.std.specs.Prelude.{Bool, true, false, List, [], ◌∷◌, Option, None}
use Rattle.std.specs.Option.{option_or}
use Rattle.php_ast.specs.declared.expression.Piece.{Piece}
use Rattle.php_ast.specs.declared.expression.Piece.TheVariants as piece
use Rattle.php_ast.specs.declared.expression.Link.{Link}
use Rattle.php_ast.specs.declared.expression.Link.TheVariants as link
use Rattle.php_ast.specs.expression.Tree.{Tree}
use Rattle.php_ast.specs.expression.View.{Note}
use Rattle.php_memdef.specs.Deciders.{is_short}
use Rattle.php_told.specs.First.{is_told_operator, first_in}

-- what the first of them gives that gives anything
abbrev pub first_of : {A : Type 0} → (A → Option Note) → List A → Option Note
first_of each [] = None
first_of each (x ∷ xs) = option_or (each x) (first_of each xs)

abbrev pub is_short_piece : Piece (Tree Note) → Bool
is_short_piece (piece.Bytes text) = is_short text
is_short_piece (piece.Part e) = true

abbrev pub first_in_piece : Piece (Tree Note) → Option Note
first_in_piece (piece.Bytes text) = None
first_in_piece (piece.Part e) = first_in e

-- a further operand of a run
abbrev pub is_told_link : Link (Tree Note) → Bool
is_told_link (link.Operator op r) = is_told_operator op
is_told_link (link.Choice a b) = false
is_told_link (link.ShortChoice b) = false

-- of the right side of an operator; a choice isn't told, and nothing inside of it is looked at
abbrev pub first_in_link : Link (Tree Note) → Option Note
first_in_link (link.Operator op r) = first_in r
first_in_link (link.Choice a b) = None
first_in_link (link.ShortChoice b) = None
