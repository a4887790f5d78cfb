-- What the machine of functions and methods says of the symbols that it reads behind the word `function`, exactly.
use Rattle.std.specs.Prelude.{◌≡◌, ◌≢◌, true, Option, Some, None, List, [], ◌∷◌, ◌++◌}
use Rattle.php_token.specs.declared.kind.Punct.TheVariants as mark
use Rattle.php_ast.specs.Symbol.{Symbol, punct}
use Rattle.php_ast.specs.statement.Tree.{Statements}
use Rattle.php_ast.specs.statement.Spelling.{symbol_if}
use Rattle.php_ast.specs.declaration.Spelling.{spell_signature, spell_method_body}
use Rattle.php_ast.specs.declaration.Proper.{IsProperSignature, IsProperMethodBody}
use Rattle.php_grammar.specs.expression.Machine.{Nothing}
use Rattle.php_grammar.specs.Run.{ReadingOf, run_of}
use Rattle.php_grammar.specs.declaration.FunctionMachine.{FunctionForm, function_form, method_form, Routine, past_function, advance_function, halt_function}

-- ---- spelling and reading

-- `;` stands in place of a block in forms alone that allow it.
abbrev pub MayLack : {N : Type 0} → FunctionForm N → Option (Statements Nothing) → Type 0
MayLack form None = form.may_lack ≡ true
MayLack form (Some body) = Unit {0}

-- with the symbol that names it
abbrev pub spell_routine : {N : Type 0} → Symbol → Routine N → List Symbol → List Symbol
spell_routine called f w =
    symbol_if f.is_reference (punct mark.Ampersand) (called ∷ spell_signature f.signature (spell_method_body f.body w))

-- The symbols are those of a proper function behind its word.
pub record SpellsRoutine {N : Type 0} (form : FunctionForm N) (f : Routine N) (w : List Symbol) : Type 0 where
  pub name : Symbol
  pub named : form.name_of name ≡ Some f.name
  pub signature : IsProperSignature f.signature
  pub body : IsProperMethodBody f.body
  pub may_lack : MayLack form f.body
  pub spelled : spell_routine name f [] ≡ w

-- the symbols begin one
pub record BeginsRoutine {N : Type 0} (form : FunctionForm N) (w : List Symbol) : Type 0 where
  pub tree : Routine N
  pub rest : List Symbol
  pub spelled : SpellsRoutine form tree (w ++ rest)

-- the reading of what stands behind `function`
abbrev pub read_routine : {N : Type 0} → FunctionForm N → List Symbol → ReadingOf (Routine N)
read_routine form = run_of (advance_function form) (halt_function form) past_function

-- ---- laws

-- A proper function is spelled by what was read and what is missing; what was read and what is left are all the symbols.
pub record BeginsAsRoutine {N : Type 0} (form : FunctionForm N) (w : List Symbol) (r : ReadingOf (Routine N)) : Type 0 where
  pub done : List Symbol
  pub whole : w ≡ done ++ r.unread
  pub spelled : SpellsRoutine form r.tree (done ++ r.missing)

abbrev pub RoutineReadingBegins : {N : Type 0} → FunctionForm N → Type 0
RoutineReadingBegins form = (w : List Symbol) → BeginsAsRoutine form w (read_routine form w)

-- The spelling of a proper function is read back, in front of anything.
abbrev pub ReadsRoutinesBack : {N : Type 0} → FunctionForm N → Type 0
ReadsRoutinesBack {N} form =
    (f : Routine N) (w v : List Symbol) → SpellsRoutine form f w → read_routine form (w ++ v) ≡ record { tree = f; missing = []; unread = v }

abbrev pub OneRoutine : {N : Type 0} → FunctionForm N → Type 0
OneRoutine {N} form = (a b : Routine N) (w : List Symbol) → SpellsRoutine form a w → SpellsRoutine form b w → a ≡ b

-- Where something is missing, no function is spelled by what was read.
abbrev pub UnfinishedRoutine : {N : Type 0} → FunctionForm N → Type 0
UnfinishedRoutine {N} form = (w v : List Symbol) (f : Routine N) → SpellsRoutine form f w → (read_routine form (w ++ v)).missing ≢ [] → ⊥

-- The symbols read begin a function, and no longer do so with one more.
abbrev pub RoutineStopsExactly : {N : Type 0} → FunctionForm N → Type 0
RoutineStopsExactly form =
    (w done : List Symbol) (t : Symbol) (v : List Symbol) → w ≡ done ++ t ∷ v → (read_routine form w).unread ≡ t ∷ v → BeginsRoutine form (done ++ t ∷ []) → ⊥

-- of functions
abbrev pub FunctionReadingBegins : Type 0
FunctionReadingBegins = RoutineReadingBegins function_form

abbrev pub ReadsFunctionsBack : Type 0
ReadsFunctionsBack = ReadsRoutinesBack function_form

abbrev pub OneFunction : Type 0
OneFunction = OneRoutine function_form

abbrev pub UnfinishedFunction : Type 0
UnfinishedFunction = UnfinishedRoutine function_form

abbrev pub FunctionStopsExactly : Type 0
FunctionStopsExactly = RoutineStopsExactly function_form

-- of methods
abbrev pub MethodReadingBegins : Type 0
MethodReadingBegins = RoutineReadingBegins method_form

abbrev pub ReadsMethodsBack : Type 0
ReadsMethodsBack = ReadsRoutinesBack method_form

abbrev pub OneMethod : Type 0
OneMethod = OneRoutine method_form

abbrev pub UnfinishedMethod : Type 0
UnfinishedMethod = UnfinishedRoutine method_form

abbrev pub MethodStopsExactly : Type 0
MethodStopsExactly = RoutineStopsExactly method_form
