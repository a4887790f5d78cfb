use Rattle.std.specs.Prelude.{ℕ, List, Bool}
use Rattle.php_base.specs.Counts.{counted_up, is_listed}
use Rattle.php_base.specs.Files.{File}

-- a shelf in memory: its files, which calls of `fetch` fail, counted from 1, and its two counts
pub record ShelfState : Type 0 where
  pub files : List File
  pub failing : List ℕ
  pub fetches : ℕ
  pub faults : ℕ

-- the next call fails
abbrev pub fetch_fails : ShelfState → Bool
fetch_fails shelf = is_listed (counted_up shelf.fetches) shelf.failing
