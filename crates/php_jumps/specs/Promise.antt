-- What the check answers: the first fault of its two kinds in the script, by the definitions of legal scripts.
use Rattle.std.specs.Prelude.{Option, List, [], ◌∷◌}
use Rattle.php_ast.specs.expression.View.{Note}
use Rattle.php_ast.specs.declaration.Tree.{Script}
use Rattle.php_legality.specs.declared.kind.Kind.{Kind}
use Rattle.php_legality.specs.declared.kind.Kind.TheVariants as kind
use Rattle.php_legality.specs.declared.fault.Fault.{Fault}
use Rattle.php_legality.specs.Legality.{IsFirstOf}

abbrev pub jump_kinds : List Kind
jump_kinds = kind.BadBreak ∷ kind.JumpFromFinally ∷ []

abbrev pub FirstJumpFault : Script Note → Option Fault → Type 0
FirstJumpFault script found = IsFirstOf jump_kinds script found
