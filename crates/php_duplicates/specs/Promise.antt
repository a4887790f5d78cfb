-- What the check answers: the first duplicate of a script, by the definitions of legal scripts.
use Rattle.std.specs.Prelude.{Option, List, [], ◌∷◌}
use Rattle.php_ast.specs.expression.View.{Note}
use Rattle.php_ast.specs.declaration.Tree.{Script}
use Rattle.php_legality.specs.declared.kind.Kind.{Kind}
use Rattle.php_legality.specs.declared.kind.Kind.TheVariants as kind
use Rattle.php_legality.specs.declared.fault.Fault.{Fault}
use Rattle.php_legality.specs.Legality.{IsFirstOf}

abbrev pub duplicate_kinds : List Kind
duplicate_kinds = kind.Duplicate ∷ []

abbrev pub FirstDuplicate : Script Note → Option Fault → Type 0
FirstDuplicate script found = IsFirstOf duplicate_kinds script found
