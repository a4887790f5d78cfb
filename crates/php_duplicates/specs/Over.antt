-- Elements one after the other.
use Rattle.std.specs.Prelude.{List, [], ◌∷◌}

abbrev pub over : {A V : Type 0} → (A → V → V) → List A → V → V
over each [] v = v
over each (x ∷ xs) v = over each xs (each x v)
