-- The answers that a script may get.
use Rattle.std.specs.Prelude.{◌≡◌, ℕ, Result, Ok, Err, Option, Some, None, IfOk, OnOk, IfErr}
use Rattle.php_ast.specs.declared.script.Script.{Script}
use Rattle.php_ast.specs.expression.View.{Note}
use Rattle.php_ast.specs.declaration.Tree as tree
use Rattle.php_ast.specs.declaration.View.{script_view}
use Rattle.php_legality.specs.declared.kind.Kind.{Kind}
use Rattle.php_legality.specs.declared.fault.Fault.{Fault}
use Rattle.php_legality.specs.Legality.{HasFault, IsLegal}
use Rattle.php_names.specs.declared.fail.NameFail.{NameFail}
use Rattle.php_names.specs.Fails.{fault_of, TellsFirst}

-- The three clauses of `check` hold of the answer.
abbrev pub IsAnswer : Script → Result Script NameFail → Type 0
IsAnswer script answer =
    IfOk answer (λ legal. legal ≡ script) × OnOk answer (IsLegal (script_view script)) × IfErr answer (TellsFirst (script_view script))

-- the kind of a fault, and the place of its token
abbrev pub without_line : Option Fault → Option (Kind × ℕ)
without_line None = None
without_line (Some fault) = Some (fault.kind, fault.spot.place)

-- what an answer tells besides the line: nothing where the script is legal
abbrev pub told : Result Script NameFail → Option (Kind × ℕ)
told (Ok legal) = None
told (Err failure) = without_line (fault_of failure)

-- Faults at one token have one line.
abbrev pub HasOneLine : tree.Script Note → Type 0
HasOneLine script = (k j : Kind) (a b : Note) → HasFault script k a → HasFault script j b → a.place ≡ b.place → a.line ≡ b.line
