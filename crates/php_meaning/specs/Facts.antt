-- The facts of a script.
use Rattle.std.specs.Prelude.{ℕ, ◌+◌, false, [], ◌∷◌, None}
use Rattle.php_ast.specs.declaration.Tree.{Script}
use Rattle.php_ast.specs.expression.View.{Note}
use Rattle.php_actions.specs.declared.facts.Facts.{Facts}
use Rattle.php_actions.specs.declared.facts.FunctionFact.{FunctionFact}
use Rattle.php_meaning.specs.Slots.{script_names}
use Rattle.php_meaning.specs.Heights.{peak_of_script}

-- beside what stands in its body a frame has a completion's value, what is thrown and its parts, and what a
-- call from within an action is given and answers
abbrev pub SPARE : ℕ
SPARE = 6

-- the script's own part, where so many temporaries stand in it at most
abbrev pub script_fact : ℕ → FunctionFact
script_fact peak = record {
  name = [];
  line = 1;
  params = [];
  required = 0;
  returns_link = false;
  result = None;
  room = peak + SPARE;
  has_this = false;
  is_strict = false;
  is_prelude = false;
}

abbrev pub facts_with : ℕ → Facts
facts_with peak = record { functions = script_fact peak ∷ []; statics = 0 }

abbrev pub facts_of : Script Note → Facts
facts_of script = facts_with (peak_of_script (script_names script) 0 script)
