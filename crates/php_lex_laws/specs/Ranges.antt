-- What the first bytes of a text are.
use Rattle.std.specs.Prelude.{◌≡◌, [], ◌∷◌, ℕ, zero, suc, ◌<◌, Bool, true, false, ◌==◌, drop, slice_index}
use Rattle.php_lex_pieces.specs.Bytes.{Text, is_name_start, is_name_byte}

-- the first k bytes are of a class
abbrev pub AllIn : (ℕ → Bool) → Text → ℕ → Type 0
AllIn test text k = (i : ℕ) → i < k → test (slice_index text i) ≡ true

-- at none of the first k places the test holds
abbrev pub NoneAt : (Text → Bool) → Text → ℕ → Type 0
NoneAt test text k = (i : ℕ) → i < k → test (drop i text) ≡ false

-- the first place at which the test holds has k bytes before it
abbrev pub FirstAt : (Text → Bool) → Text → ℕ → Type 0
FirstAt test text k = NoneAt test text k × (test (drop k text) ≡ true)

-- the first k bytes are a name
abbrev pub IsName : Text → ℕ → Type 0
IsName text k = (0 < k) × ((is_name_start (slice_index text 0) ≡ true) × AllIn is_name_byte text k)

-- In the first k bytes no quote stands alone: each is behind a backslash that is not itself behind one. The last
-- backslash has its byte. The truth value says whether the byte before them is such a backslash.
abbrev pub IsRaw : Bool → Text → ℕ → Type 0
IsRaw is_escaped text zero = is_escaped ≡ false
IsRaw is_escaped [] (suc k) = ⊥
IsRaw true (b ∷ text) (suc k) = IsRaw false text k
IsRaw false (b ∷ text) (suc k) = ((b == 39) ≡ false) × IsRaw (b == 92) text k
