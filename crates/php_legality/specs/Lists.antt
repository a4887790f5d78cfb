-- Words on sequences and lists of names.
use Rattle.std.specs.Prelude.{◌≡◌, ◌⊎◌, Bool, false, ◌||◌, cond, Option, Some, None, List, [], ◌∷◌, ◌++◌}
use Rattle.php_ast.specs.statement.Tree.{Sequence, empty, then_also}

-- the elements of a sequence, the first one first
abbrev pub elements : {A : Type 0} → Sequence A → List A
elements empty = []
elements (then_also xs x) = elements xs ++ x ∷ []

-- nothing, or the one element
abbrev pub where_some : {A B : Type 0} → (A → List B) → Option A → List B
where_some f None = []
where_some f (Some x) = f x

-- the element where the test gives true, and else nothing
abbrev pub where_true : {A : Type 0} → Bool → A → List A
where_true test x = cond test (x ∷ []) []

abbrev pub is_any : {A : Type 0} → (A → Bool) → List A → Bool
is_any test [] = false
is_any test (x ∷ xs) = test x || is_any test xs

-- those that are the same as one that stands before
abbrev pub repeated_behind : {A : Type 0} → (A → A → Bool) → List A → List A → List A
repeated_behind same before [] = []
repeated_behind same before (x ∷ xs) = where_true (is_any (same x) before) x ++ repeated_behind same (x ∷ before) xs

abbrev pub repeated : {A : Type 0} → (A → A → Bool) → List A → List A
repeated same xs = repeated_behind same [] xs

-- those that are the same as none that stands before
abbrev pub different_behind : {A : Type 0} → (A → A → Bool) → List A → List A → List A
different_behind same before [] = []
different_behind same before (x ∷ xs) = cond (is_any (same x) before) [] (x ∷ []) ++ different_behind same (x ∷ before) xs

abbrev pub different : {A : Type 0} → (A → A → Bool) → List A → List A
different same xs = different_behind same [] xs

-- The list has the element.
abbrev pub Has : {A : Type 0} → List A → A → Type 0
Has [] x = ⊥
Has (y ∷ ys) x = (y ≡ x) ⊎ Has ys x
