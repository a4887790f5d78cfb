use Rattle.std.specs.Prelude.{◌≡◌, ◌≢◌, ℕ, zero, suc, false, IsTrue, List, [], ◌∷◌, Option, Some, None, if◌then◌else◌}
use Rattle.std.specs.Str.{bytes_eq}

-- a file of a shelf
pub record File : Type 0 where
  pub name : List ℕ
  pub bytes : List ℕ

-- what stands under a name: the bytes of the first file of that name
abbrev pub file_of : List File → List ℕ → Option (List ℕ)
file_of [] name = None
file_of (file ∷ files) name = if bytes_eq name file.name then Some file.bytes else file_of files name

-- the file at this place has the name, and none before it has
abbrev pub IsFirstOf : List File → List ℕ → ℕ → Type 0
IsFirstOf [] name place = ⊥
IsFirstOf (file ∷ files) name zero = IsTrue (bytes_eq name file.name)
IsFirstOf (file ∷ files) name (suc place) = (bytes_eq name file.name ≡ false) × IsFirstOf files name place

-- the shelf tells its files, and none has the name
abbrev pub TellsNone : Option (List File) → List ℕ → Type 0
TellsNone told name = (files : List File) × (told ≡ Some files) × (file_of files name ≡ None)

-- the bytes stand under the name, and under each other name what stood there
pub record PutsFile (old new : List File) (name bytes : List ℕ) : Type 0 where
  pub there : file_of new name ≡ Some bytes
  pub others : (other : List ℕ) → other ≢ name → file_of new other ≡ file_of old other
