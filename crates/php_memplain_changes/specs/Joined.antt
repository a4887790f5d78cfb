-- The text at a spot with the text on top behind it.
use Rattle.std.specs.Prelude.{◌≡◌, ◌<◌, ◌++◌, ℕ, List, Some}
use Rattle.php_memdef.specs.Contents.{Content, text, Mem}
use Rattle.php_memdef.specs.Places.{Spot, stored, standing, content_at}
use Rattle.php_memdef.specs.Writes.{text_found}

abbrev pub IsText : Content → Type 0
IsText c = (bytes : List ℕ) × (c ≡ text bytes)

-- the spot isn't the top temporary of the block
abbrev pub IsBelowTopOf : ℕ → Spot → Type 0
IsBelowTopOf b (stored s) = Unit {0}
IsBelowTopOf b (standing c k) = c ≡ b → 0 < k

abbrev pub joined_at : Mem → ℕ → Spot → List ℕ
joined_at m b spot = text_found (Some (content_at m spot)) ++ text_found (Some (content_at m (standing b 0)))
