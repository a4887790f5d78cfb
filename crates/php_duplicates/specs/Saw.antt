-- The texts of names that have been seen, and the first duplicate.
use Rattle.std.specs.Prelude.{ℕ, Option, List, [], ◌∷◌, ◌++◌, nat_eq, if◌then◌else◌}
use Rattle.std.specs.List.{list_any}
use Rattle.std.specs.Str.{str_to_ascii_lowercase}
use Rattle.std.specs.Cmp.Lexicographic.{pointwise}
use Rattle.php_ast.specs.expression.View.{Note}
use Rattle.php_ast.specs.statement.Tree.{Name}
use Rattle.php_legality.specs.declared.kind.Kind.TheVariants as kind
use Rattle.php_legality.specs.declared.fault.Fault.{Fault}
use Rattle.php_legality.specs.Lists.{where_true}
use Rattle.php_legality.specs.First.{fault_at, first_from}
use Rattle.php_duplicates.specs.Over.{over}

abbrev pub Texts : Type 0
Texts = List (List ℕ)

pub record Saw : Type 0 where
  pub texts : Texts
  pub first : Option Fault

abbrev pub duplicate_at : Note → Fault
duplicate_at at = fault_at kind.Duplicate at

-- one more text, where it is new
abbrev pub with_text : Texts → List ℕ → Texts
with_text ts text = if list_any (pointwise nat_eq text) ts then ts else ts ++ text ∷ []

-- behind a name that counts as this text
unfoldable pub saw : Note → List ℕ → Saw → Saw
saw at text s = record {
  texts = with_text s.texts text;
  first = first_from s.first (where_true (list_any (pointwise nat_eq text) s.texts) (duplicate_at at));
}

-- behind a name in any letter case, and behind one as it is written
abbrev pub saw_alike : Name Note → Saw → Saw
saw_alike n s = saw n.note (str_to_ascii_lowercase n.text) s

abbrev pub saw_same : Name Note → Saw → Saw
saw_same n s = saw n.note n.text s

-- the first duplicate among elements that give names, behind what was met before
abbrev pub first_among : {A : Type 0} → (A → Saw → Saw) → List A → Option Fault → Option Fault
first_among each xs met = (over each xs (record { texts = []; first = met })).first
