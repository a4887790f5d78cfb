use Rattle.std.specs.Prelude.{ℕ}

-- what is told of a shelf of the host: its two counts
pub record ShelfCounts : Type 0 where
  pub fetches : ℕ
  pub faults : ℕ
