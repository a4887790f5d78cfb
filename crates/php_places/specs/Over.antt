-- Elements one after the other.
use Rattle.std.specs.Prelude.{List, [], ◌∷◌}

abbrev pub over : {A B : Type 0} → (A → B → B) → List A → B → B
over each [] met = met
over each (x ∷ xs) met = over each xs (each x met)
