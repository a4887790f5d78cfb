-- The slots that heads and values make.
use Rattle.std.specs.Prelude.{List, [], ◌∷◌, Option}
use Rattle.php_array.specs.Slot.{Slot, slot_of}
use Rattle.php_array.specs.declared.slots.Head.{Head}

module _ {T : Type 0} where
  -- each head with its value
  abbrev pub slots_of : List Head → List (Option T) → List (Slot T)
  slots_of [] vs = []
  slots_of (h ∷ hs) [] = []
  slots_of (h ∷ hs) (v ∷ vs) = slot_of h.serial h.key v ∷ slots_of hs vs
