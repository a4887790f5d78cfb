-- Keys of an ordered array, and the next key that they leave.
use Rattle.std.specs.Prelude.{ℕ, ◌+◌, max, Bool, false, nat_eq, if◌then◌else◌, pos, negsuc}
use Rattle.std.specs.Ordering.{int_eq}
use Rattle.std.specs.Cmp.Lexicographic.{pointwise}
use Rattle.php_value.specs.declared.key.Key.{Key}
use Rattle.php_value.specs.declared.key.Key.TheVariants.{Int, Str}

-- two keys are one: the same int, or the same bytes
abbrev pub key_eq : Key → Key → Bool
key_eq (Int i) (Int j) = int_eq i j
key_eq (Str s) (Str t) = pointwise nat_eq s t
key_eq (Int i) (Str t) = false
key_eq (Str s) (Int j) = false

-- the next key once an entry with this key is made: above each int key that was used, and at least 0
abbrev pub next_key_above : Key → ℕ → ℕ
next_key_above (Int (pos k)) next = max next (k + 1)
next_key_above (Int (negsuc k)) next = next
next_key_above (Str s) next = next

-- the next key once this key is popped: the key itself where it was the last one given out, never below 0
abbrev pub next_key_without : Key → ℕ → ℕ
next_key_without (Int (pos k)) next = if nat_eq (k + 1) next then k else next
next_key_without (Int (negsuc k)) next = next
next_key_without (Str s) next = next
