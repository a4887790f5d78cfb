-- An object that was made, and whose handle is at hand.
use Rattle.std.specs.Prelude.{◌≡◌, ℕ, ◌+◌, ◌<◌, Bool, false, List, [], ◌∷◌, None}
use Rattle.php_memdef.specs.Contents.{Property, Object}
use Rattle.php_memdef.specs.Holders.{times}
use Rattle.php_memdef.specs.Objects.{OBJECT_LIMIT, with_new_object}
use Rattle.php_memplain_cells.specs.declared.cells.Cells.{Cells}
use Rattle.php_memplain_cells.specs.Counts.{count_of_object}
use Rattle.php_memplain_cells.specs.Memory.{memory_seen, IsCountedWith}

abbrev pub made_object : ℕ → Bool → List Property → Object
made_object class finishing properties = record { class = class; properties = properties; finishing = finishing; spent = false; frame = None }

-- an object came behind all others, and has one holder
pub record IsAppended (before : Cells) (o : Object) (n : ℕ) (now : Cells) : Type 0 where
  pub number : n ≡ (memory_seen before).next_object
  pub below : n < OBJECT_LIMIT
  pub seen : memory_seen now ≡ with_new_object (memory_seen before) o
  pub stores : now.stores ≡ before.stores
  pub counts : (h : ℕ) → count_of_object now.objects.items h ≡ count_of_object before.objects.items h + times h (n ∷ [])

pub record IsUnchanged (before now : Cells) : Type 0 where
  pub seen : memory_seen now ≡ memory_seen before
  pub stores : now.stores ≡ before.stores
  pub objects : now.objects.items ≡ before.objects.items

-- the memory has one more object, whose handle is at hand
pub record IsNew (before : Cells) (o : Object) (n : ℕ) (now : Cells) : Type 0 where
  pub number : n ≡ (memory_seen before).next_object
  pub below : n < OBJECT_LIMIT
  pub seen : memory_seen now ≡ with_new_object (memory_seen before) o
  pub counted : IsCountedWith now [] (n ∷ [])
