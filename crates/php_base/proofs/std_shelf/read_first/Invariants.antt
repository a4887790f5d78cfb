use Rattle.std.proofs.Common.{◌≤◌, vec_len}
use Rattle.std.specs.Io.KnownBytes.{Consumes}
use Rattle.php_base.proofs.std_shelf.read_first.Given as goal

-- what was read so far is what the reader gave, and no more than was asked for
abbrev pub invariant-loop : goal.invariant-loop
invariant-loop g l = record {
  within : vec_len l.bytes ≤ l.limit;
  given : Consumes (g.F.Read.remaining l.fn.file) (g.F.Read.remaining l.file) l.bytes.items;
}
