-- What a script with two arguments finds when it begins.
use Rattle.std.specs.Prelude.{◌≡◌, ℕ, pos, [], ◌∷◌, Option, Some, None, codes}
use Rattle.php_value.specs.declared.key.Key.TheVariants.{Int}
use Rattle.php_ast.specs.statement.Tree.{empty}
use Rattle.php_ast.specs.declaration.Tree.{Script}
use Rattle.php_ast.specs.expression.View.{Note}
use Rattle.php_memdef.specs.declared.place.Step.TheVariants.{At}
use Rattle.php_memdef.specs.Contents.{Content, text, int}
use Rattle.php_memdef.specs.Views.{found}
use Rattle.php_actions.specs.Data.{Data}
use Rattle.php_actions.specs.Start.{variable_place, first}
use Rattle.php_meaning.specs.Facts.{facts_of}

abbrev nothing : Script Note
nothing = empty

-- `a.php` is the script's file, and `z` stands behind its name
abbrev begun_with_two : Data
begun_with_two = first (facts_of nothing) 5 (codes "a.php" ∷ codes "z" ∷ []) 0

-- what `$argv` has under a key
abbrev under : ℕ → Option Content
under k = found begun_with_two.mem (variable_place 0 0 (At (Int (pos k)) ∷ []))

pub record AreListed : Type 0 where
  pub file : under 0 ≡ Some (text (codes "a.php"))
  pub word : under 1 ≡ Some (text (codes "z"))
  pub no_more : under 2 ≡ None
  -- `$argc`
  pub count : found begun_with_two.mem (variable_place 0 1 []) ≡ Some (int (pos 2))
  pub writes : begun_with_two.writes ≡ 3
