-- What is to be shown of each mode.
use Rattle.std.proofs.Common.{◌≡◌, ◌⊎◌, ℕ, ◌≤◌, Ok, Err}
use Rattle.php_lex_pieces.specs.Bytes.{Text}
use Rattle.php_lex.specs.Modes.{Mode}
use Rattle.php_lex.specs.Pieces.{Found}
use Rattle.php_lex_laws.specs.Longest.{Form, HasForm, given, Exception, IsNoPiece, fault_of, IsOtherFault, NoException}

-- what was found is at least n bytes long, and what the form gives where it has no more
abbrev pub Reaches : (mode : Mode) → ℕ → Form mode → Text → ℕ → Found → Type 0
Reaches mode line f text n (Ok p) = (n ≤ p.len) × (n ≡ p.len → p ≡ given mode f line text n)
Reaches mode line f text n (Err failed) = (e : Exception mode) × IsNoPiece mode e text

-- what was found has a form, or an exception stands there, or neither
abbrev pub Outcome : Mode → ℕ → Text → Found → Type 0
Outcome mode line text (Ok p) = (f : Form mode) × (HasForm mode f text p.len × (p ≡ given mode f line text p.len))
Outcome mode line text (Err failed) =
    ((e : Exception mode) × (IsNoPiece mode e text × (failed ≡ fault_of mode e line))) ⊎ (NoException mode text × IsOtherFault mode line failed)
