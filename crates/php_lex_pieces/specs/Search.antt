-- Places that a search may pass over.
use Rattle.std.specs.Prelude.{◌≡◌, ℕ, ◌+◌, ◌-◌, Bool, true, drop, slice_index}
use Rattle.php_lex_pieces.specs.Bytes.{Text, len_before}

-- a test that only a byte of the class can pass
abbrev pub Wants : (Text → Bool) → (ℕ → Bool) → Type 0
Wants test class = (t : Text) → test t ≡ true → class (slice_index t 0) ≡ true

-- no test that wants a byte of the class passes from `at` up to `to`
abbrev pub Skips : (ℕ → Bool) → Text → ℕ → ℕ → Type 0
Skips class text at to =
    (test : Text → Bool) → Wants test class → len_before test (drop at text) ≡ (to - at) + len_before test (drop to text)
