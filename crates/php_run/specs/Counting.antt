-- What the program finds where it counts.
use Rattle.std.specs.Prelude.{◌≡◌, ℕ, List, None, Some}
use Rattle.php_ast.specs.expression.View.{Note}
use Rattle.php_ast.specs.declaration.Tree.{Item}
use Rattle.php_run.specs.Checked.{functions, classes, first_class}
use Rattle.php_run.specs.declared.check.Tally.{Tally}
use Rattle.php_run.specs.declared.check.Tally.TheVariants.{Functions, Class}

-- there is no class, and so many functions
pub record HasNoClass (items : List (Item Note)) (count : ℕ) : Type 0 where
  pub none : first_class items ≡ None
  pub counted : functions items ≡ count
  pub no_class : classes items ≡ 0

-- the first class is on this line
pub record HasClassOn (items : List (Item Note)) (line : ℕ) : Type 0 where
  pub at : Note
  pub first : first_class items ≡ Some at
  pub on_line : at.line ≡ line

abbrev pub IsTally : List (Item Note) → Tally → Type 0
IsTally items (Functions count) = HasNoClass items count
IsTally items (Class line) = HasClassOn items line
