-- What the check answers: the first token past the limit of different names, by the definitions of legal scripts.
use Rattle.std.specs.Prelude.{Option, List, [], ◌∷◌}
use Rattle.php_ast.specs.expression.View.{Note}
use Rattle.php_ast.specs.declaration.Tree.{Script}
use Rattle.php_legality.specs.declared.kind.Kind.{Kind}
use Rattle.php_legality.specs.declared.kind.Kind.TheVariants as kind
use Rattle.php_legality.specs.declared.fault.Fault.{Fault}
use Rattle.php_legality.specs.Legality.{IsFirstOf}

abbrev pub name_kinds : List Kind
name_kinds = kind.TooManyNames ∷ []

abbrev pub FirstNamePastLimit : Script Note → Option Fault → Type 0
FirstNamePastLimit script found = IsFirstOf name_kinds script found
