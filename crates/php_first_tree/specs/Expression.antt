-- Expressions of the first language: what is computed, with products before sums and both from the left.
use Rattle.std.specs.Prelude.{ℕ, ℤ, List, [], ◌∷◌, map}
use Rattle.php_first_tree.specs.declared.Atom.{Atom, fold-Atom}
use Rattle.php_first_tree.specs.declared.Atom.TheOpen.{Atom-F}
use Rattle.php_first_tree.specs.declared.Product.{Product}
use Rattle.php_first_tree.specs.declared.Sum.{Sum}
use Rattle.php_first_tree.specs.declared.Term.{Term}
use Rattle.php_first_tree.specs.declared.Sign.{Sign}
use Rattle.php_first_tree.specs.declared.Sign.TheVariants.{Plus, Minus}
use Rattle.php_first_tree.specs.declared.Action.{Action}
use Rattle.php_first_tree.specs.declared.Action.TheVariants.{Assign, Echo, Inline, Empty}
use Rattle.php_first_tree.specs.declared.Part as tree_part
use Rattle.php_first_tree.specs.declared.Part.TheVariants.{Value, Text}
use Rattle.php_first_tree.specs.declared.Statement as tree

pub data Expression : Type 0 where
  int : ℤ → Expression
  variable : ℕ → Expression
  group : Expression → Expression
  times : Expression → Expression → Expression
  plus : Expression → Expression → Expression
  minus : Expression → Expression → Expression

-- a product so far, times further atoms
abbrev pub product_from : Expression → List Expression → Expression
product_from left [] = left
product_from left (atom ∷ atoms) = product_from (times left atom) atoms

abbrev pub product : Product Expression → Expression
product p = product_from p.first p.rest

-- a sum so far, and a further product behind its sign
abbrev pub joined : Expression → Sign → Expression → Expression
joined left Plus right = plus left right
joined left Minus right = minus left right

abbrev pub sum_from : Expression → List (Term Expression) → Expression
sum_from left [] = left
sum_from left (term ∷ terms) = sum_from (joined left term.sign (product term.product)) terms

abbrev pub sum : Sum Expression → Expression
sum s = sum_from (product s.first) s.rest

-- one level of an atom, with the expressions of its parts
abbrev pub atom_step : Atom-F Expression → Expression
atom_step (Atom-F.Int n) = int n
atom_step (Atom-F.Variable n) = variable n
atom_step (Atom-F.Group s) = group (sum s)

-- the expression that an atom stands for
abbrev pub atom_view : Atom → Expression
atom_view = fold-Atom Expression atom_step

abbrev pub product_parts : Product Atom → Product Expression
product_parts p = record { first = atom_view p.first; rest = map atom_view p.rest }

abbrev pub term_parts : Term Atom → Term Expression
term_parts t = record { sign = t.sign; product = product_parts t.product }

abbrev pub sum_parts : Sum Atom → Sum Expression
sum_parts s = record { first = product_parts s.first; rest = map term_parts s.rest }

-- the expression that a product, or a sum, stands for
abbrev pub product_view : Product Atom → Expression
product_view p = product (product_parts p)

abbrev pub sum_view : Sum Atom → Expression
sum_view s = sum (sum_parts s)

-- A part of an `echo`: the value of an expression, or the text of the token at a place.
pub data Part : Type 0 where
  value : Expression → Part
  text : ℕ → Part

-- What a statement does: it gives a variable a value, writes parts, writes the text of the token at a place, or does nothing.
pub data Command : Type 0 where
  assign : ℕ → Expression → Command
  echo : List Part → Command
  inline : ℕ → Command
  empty : Command

-- a statement, and the line of its first token
pub record Statement : Type 0 where
  pub line : ℕ
  pub command : Command

abbrev pub part_view : tree_part.Part → Part
part_view (Value s) = value (sum_view s)
part_view (Text at) = text at

abbrev pub command_view : Action → Command
command_view (Assign k s) = assign k (sum_view s)
command_view (Echo ps) = echo (map part_view ps)
command_view (Inline at) = inline at
command_view Empty = empty

abbrev pub statement_view : tree.Statement → Statement
statement_view s = record { line = s.line; command = command_view s.action }
