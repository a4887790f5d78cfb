-- The language that runs today: which tokens are scripts of it, what a run of one comes to, and what is owed to a legal
-- script. This file alone names that language; a machine for the whole language takes its place.
use Rattle.std.specs.Prelude.{◌≡◌, ℕ, Bool, true, ◌&&◌, nat_le, List, [], length, map, replicate, Option, Some, None, refl}
use Rattle.std.specs.List.{list_all}
use Rattle.php_value.specs.declared.fault.Fault.TheVariants as fault
use Rattle.php_token.specs.Token as whole
use Rattle.php_ast.specs.expression.View.{Note}
use Rattle.php_ast.specs.declaration.Tree as tree
use Rattle.php_first_forms.specs.Forms.{is_allowed, first_left_out}
use Rattle.php_first_tree.specs.Expression.{Statement, statement_view}
use Rattle.php_first_tree.specs.declared.Script.{Script}
use Rattle.php_first_tokens.specs.declared.token.Token.{Token}
use Rattle.php_first_tokens.specs.Lexemes.{AreFirst, names_in}
use Rattle.php_first_parse.specs.Spelling.{IsSpelling}
use Rattle.php_first_run.specs.Running.{texts_of, Outcome, Ending, completed, overflowed, cut_off, run}
use Rattle.php_first_run.specs.declared.value.Value.TheVariants.{Null}
use Rattle.php_first_run.specs.declared.walking.Stop.{Stop}
use Rattle.php_first_run.specs.declared.walking.Stop.TheVariants.{Done, Overflow, Cut, SinkFault}
use Rattle.php_run.specs.Answer.{Answer, not_yet, write_fault}
use Rattle.php_run.specs.Shown.{shown}
use Rattle.php_run.specs.Texts.{cut_off_text, overflow_text}
use Rattle.php_run.specs.declared.answer.Answer as program
use Rattle.php_run.specs.declared.report.Kind.TheVariants as kind
use Rattle.php_run.specs.declared.today.TheConstants.{MOST_VARIABLES}

-- ---- which tokens are a script

-- the names are few enough, and each is one that a variable may have
abbrev pub permits : List (List ℕ) → Bool
permits names = nat_le (length names) MOST_VARIABLES && list_all is_allowed names

-- The tokens of a file spell these statements over so many variables.
pub record IsScript (found : List whole.Token) (variables : ℕ) (statements : List Statement) : Type 0 where
  pub firsts : List Token
  pub first : AreFirst found firsts
  pub spelled : IsSpelling statements firsts
  pub counted : length (names_in found) ≡ variables
  pub permitted : permits (names_in found) ≡ true

-- A script was read, over so many variables and with these statements.
abbrev pub IsRead : Option Script → ℕ → List Statement → Type 0
IsRead None variables statements = ⊥
IsRead (Some script) variables statements = (script.variables ≡ variables) × (map statement_view script.statements ≡ statements)

-- ---- what a run comes to

-- the run of a script from its beginning, over the texts of its tokens: no ticks taken, and each variable null
abbrev pub run_of : List (List ℕ) → ℕ → ℕ → List Statement → Outcome
run_of texts allowance variables statements = run texts allowance 0 (replicate variables Null) statements

-- the answer to a run that came to its end
abbrev pub ended : Ending → ℕ → List ℕ → Answer
ended completed ticks output = record { kind = kind.Done; ticks = ticks; output = output; error = [] }
ended (overflowed line) ticks output =
    record { kind = kind.Fatal fault.Overflow; ticks = ticks; output = output; error = overflow_text line }
ended cut_off ticks output = record { kind = kind.Cut; ticks = ticks; output = output; error = cut_off_text }

abbrev pub answer_of : Outcome → Answer
answer_of outcome = ended outcome.ending outcome.ticks outcome.output

-- The program's answer to a run that stopped so, whatever was written.
abbrev pub IsAfter : Stop → ℕ → program.Answer → Type 0
IsAfter Done ticks a = (output : List ℕ) → shown a output ≡ ended completed ticks output
IsAfter (Overflow line) ticks a = (output : List ℕ) → shown a output ≡ ended (overflowed line) ticks output
IsAfter Cut ticks a = (output : List ℕ) → shown a output ≡ ended cut_off ticks output
IsAfter SinkFault ticks a = (output : List ℕ) → shown a output ≡ write_fault ticks output

-- ---- what is owed

-- the line of the first token of the first form that doesn't run yet, or 1 where there is none
abbrev pub line_of : Option Note → ℕ
line_of None = 1
line_of (Some at) = at.line

-- What is owed to a legal script with these tokens, with so many ticks allowed: its run, where the tokens are a script of the
-- language that runs today; else the refusal at the first form that doesn't run yet.
pub data IsOwedByScript (found : List whole.Token) (script : tree.Script Note) (allowance : ℕ) (owed : Answer) : Type 0 where
  runs : (variables : ℕ) (statements : List Statement) → IsScript found variables statements →
      owed ≡ answer_of (run_of (texts_of found) allowance variables statements) → IsOwedByScript found script allowance owed
  refused : ((variables : ℕ) (statements : List Statement) → IsScript found variables statements → ⊥) →
      owed ≡ not_yet (line_of (first_left_out script)) → IsOwedByScript found script allowance owed

-- a file with no statements
nothing_to_run : answer_of (run_of [] 0 0 []) ≡ record { kind = kind.Done; ticks = 0; output = []; error = [] }
nothing_to_run = refl

variable_limit : MOST_VARIABLES ≡ 65535
variable_limit = refl
