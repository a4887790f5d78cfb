use Rattle.std.proofs.Common.{◌≡◌, ℕ, ap, arith}
use Rattle.std.specs.Prelude.{nat_le}
use Rattle.php_memdef.specs.Holders.{holders}
use Rattle.php_memplain_cells.specs.Counts.{holders_if, count_of_store}
use Rattle.php_memplain_cells.specs.Memory.{memory_seen, IsCounted}
use Rattle.php_memplain_cells.specs.declared.cells.Cells.{Cells}
use Rattle.php_memplain_places.proofs.views.is_shared.Goals as goal

count_is : (s : Cells) → IsCounted s → (k n : ℕ) → n ≡ count_of_store s.stores k → n ≡ holders (memory_seen s) k
count_is s counted k n e = omega (arith, e, counted.stores k)

pub returns-in-Some : goal.returns-in-Some
returns-in-Some c = ap (nat_le 2) (count_is c.args.cells.now c.requires c.args.store c.in-Some.cell.now.holders (ap holders_if c.in-Some.ensures))

pub returns-in-None : goal.returns-in-None
returns-in-None c = ap (nat_le 2) (count_is c.args.cells.now c.requires c.args.store 0 (ap holders_if c.in-None.ensures))
