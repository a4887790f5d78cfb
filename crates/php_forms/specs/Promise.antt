-- What the check answers: the first fault of its four kinds in the script, by the definitions of legal scripts.
use Rattle.std.specs.Prelude.{Option, List, [], ◌∷◌}
use Rattle.php_ast.specs.expression.View.{Note}
use Rattle.php_ast.specs.declaration.Tree.{Script}
use Rattle.php_legality.specs.declared.kind.Kind.{Kind}
use Rattle.php_legality.specs.declared.kind.Kind.TheVariants as kind
use Rattle.php_legality.specs.declared.fault.Fault.{Fault}
use Rattle.php_legality.specs.Legality.{IsFirstOf}

abbrev pub form_kinds : List Kind
form_kinds = kind.NoPlace ∷ kind.NoConstant ∷ kind.BadList ∷ kind.BadUse ∷ []

abbrev pub FirstFormFault : Script Note → Option Fault → Type 0
FirstFormFault script found = IsFirstOf form_kinds script found
