-- The program that a script is compiled to.
use Rattle.std.specs.Prelude.{ℕ, List, [], ◌∷◌}
use Rattle.php_ast.specs.declaration.Tree.{Script}
use Rattle.php_ast.specs.expression.View.{Note}
use Rattle.php_code.specs.declared.program.Function.{Function}
use Rattle.php_code.specs.declared.program.Program.{Program}
use Rattle.php_meaning.specs.Slots.{script_names}
use Rattle.php_code.specs.declared.instr.Instr.{Instr}
use Rattle.php_meaning.specs.Facts.{facts_with}
use Rattle.php_meaning.specs.Heights.{peak_of_script}
use Rattle.php_compile.specs.StatementCode.{items_code}

-- a program of one function, the script's own part, with this code, in which so many temporaries stand at most
abbrev pub program_of : List Instr → ℕ → Program
program_of is peak = record { functions = record { code = is; ranges = [] } ∷ []; facts = facts_with peak }

abbrev pub script_function : Script Note → Function
script_function script = record { code = items_code (script_names script) script; ranges = [] }

abbrev pub compiled : Script Note → Program
compiled script = program_of (items_code (script_names script) script) (peak_of_script (script_names script) 0 script)
