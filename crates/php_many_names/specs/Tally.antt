-- The tally of the names of a script: the different names and variables so far, and the first token past the limit.
use Rattle.std.specs.Prelude.{ℕ, ◌+◌, nat_lt, cond, Option, Some, None, List, [], ◌∷◌, ◌++◌, length, if◌then◌else◌}
use Rattle.std.specs.List.{list_any}
use Rattle.std.specs.Cmp.Lexicographic.{pointwise}
use Rattle.std.specs.Prelude.{nat_eq}
use Rattle.php_ast.specs.expression.View.{Note}
use Rattle.php_legality.specs.declared.kind.Kind.TheVariants as kind
use Rattle.php_legality.specs.declared.fault.Fault.{Fault}
use Rattle.php_legality.specs.First.{fault_at}
use Rattle.php_legality.specs.Rows.{most_names}

abbrev pub Texts : Type 0
Texts = List (List ℕ)

pub record Tally : Type 0 where
  pub names : Texts
  pub variables : Texts
  pub first : Option Fault

-- before the first token
abbrev pub nothing : Tally
nothing = record { names = []; variables = []; first = None }

-- one more text, where it is new
abbrev pub with_text : Texts → List ℕ → Texts
with_text ts text = if list_any (pointwise nat_eq text) ts then ts else ts ++ text ∷ []

-- the fault at a token that makes them so many
unfoldable pub past_limit : ℕ → Note → Option Fault
past_limit n at = cond (nat_lt most_names n) (Some (fault_at kind.TooManyNames at)) None

-- Behind the first token past the limit nothing counts.
abbrev name_behind : Option Fault → Texts → Texts → Note → List ℕ → Tally
name_behind (Some fault) names variables at text = record { names = names; variables = variables; first = Some fault }
name_behind None names variables at text = record {
  names = with_text names text;
  variables = variables;
  first = past_limit (length (with_text names text) + length variables) at;
}

abbrev variable_behind : Option Fault → Texts → Texts → Note → List ℕ → Tally
variable_behind (Some fault) names variables at text = record { names = names; variables = variables; first = Some fault }
variable_behind None names variables at text = record {
  names = names;
  variables = with_text variables text;
  first = past_limit (length names + length (with_text variables text)) at;
}

-- with one more name, and with one more variable
unfoldable pub with_name : Tally → Note → List ℕ → Tally
with_name tally at text = name_behind tally.first tally.names tally.variables at text

unfoldable pub with_variable : Tally → Note → List ℕ → Tally
with_variable tally at text = variable_behind tally.first tally.names tally.variables at text
