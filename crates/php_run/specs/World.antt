-- The outside of a call.
use Rattle.std.specs.Prelude.{ℕ, List, Option}
use Rattle.php_base.specs.Files.{File}
use Rattle.php_base.specs.Streams.{Stream}

-- the outside at one moment
pub record World : Type 0 where
  -- the files of the shelf, where it tells them, and its count of faults
  pub files : Option (List File)
  pub shelf_faults : ℕ
  pub out : Stream
  pub err : Stream
