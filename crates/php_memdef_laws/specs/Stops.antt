-- What the answers of a release say of the memory that it leaves.
use Rattle.std.specs.Prelude.{◌≡◌, ◌≢◌, ℕ, true, List, [], ◌∷◌, Some}
use Rattle.php_memdef.specs.declared.answer.Fallen.{Fallen}
use Rattle.php_memdef.specs.declared.answer.Fallen.TheVariants.{Nothing, Destroy, Frame as FrameOf}
use Rattle.php_memdef.specs.Contents.{object, Item, value, Mem, scope_of, object_of}
use Rattle.php_memdef.specs.Conditions.{IsBlock, IsObject}

-- nothing is left that has fallen; or the object is there, its destructor counts as run, and it is the
-- first that falls; or the block is there and waits in no object any more
abbrev pub StopsFor : Fallen → ℕ → Mem → Type 0
StopsFor Nothing b m = (scope_of m b).falling ≡ []
StopsFor (Destroy h) b m = IsObject m h.0 × (((object_of m h.0).spent ≡ true) × ((rest : List Item) × ((scope_of m b).falling ≡ value (object h.0) ∷ rest)))
StopsFor (FrameOf f) b m = IsBlock m f.0 × ((g : ℕ) → (object_of m g).frame ≢ Some f.0)
