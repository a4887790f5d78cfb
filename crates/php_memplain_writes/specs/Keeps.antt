-- What the way of a write leaves of blocks.
use Rattle.std.specs.Prelude.{◌≡◌, ℕ, List, length, Some}
use Rattle.php_memdef.specs.Contents.{Content, Item, value, Mem, scope_of}
use Rattle.php_memdef.specs.Places.{nth_item}
use Rattle.php_memdef.specs.Conditions.{IsBlock}

abbrev pub HasValueFirst : List Item → Type 0
HasValueFirst is = (c : Content) × (nth_item is 0 ≡ Some (value c))

-- blocks are there, with as many temporaries and as much room; what is a content on top is one
pub record KeepsBlocks (m n : Mem) : Type 0 where
  pub blocks : (b : ℕ) → IsBlock m b → IsBlock n b
  pub room : (b : ℕ) → (scope_of n b).room ≡ (scope_of m b).room
  pub count : (b : ℕ) → length (scope_of n b).temps ≡ length (scope_of m b).temps
  pub values : (b : ℕ) → HasValueFirst (scope_of m b).temps → HasValueFirst (scope_of n b).temps
