use Rattle.std.proofs.Common.{◌≡◌, ◌≤◌, ℕ, List, length, drop}
use Rattle.std.specs.Prelude.{IsSome}
use Rattle.php_memdef.specs.Numbered.{numbered}
use Rattle.php_memplain_cells.specs.declared.cells.Cells.{Cells}
use Rattle.php_memplain_cells.specs.Seen.{stores_seen}
use Rattle.php_memplain_cells.specs.Counts.{count_of_store}
use Rattle.php_memplain_writes.specs.Chains.{ChainTo}
use Rattle.php_memplain_writes.specs.Making.{IsChained}
use Rattle.php_memplain_writes.proofs.making.chain_to.Given as goal

-- a store was made for each step from here on
abbrev pub invariant-loop-at : goal.invariant-loop-at
invariant-loop-at l = record {
  chain : ChainTo (stores_seen l.fn.stores) l.leaf (drop l.at l.path) (stores_seen l.stores) l.top;
  chained : (before : Cells) (owed : List ℕ) → IsChained before owed l.fn.stores l.fn.done.items l.leaf → IsChained before owed l.stores l.done.items l.top;
  counts : (j : ℕ) → IsSome (numbered (stores_seen l.fn.stores) j) → IsSome (numbered (stores_seen l.stores) j) × (count_of_store l.stores j ≡ count_of_store l.fn.stores j);
  behind : l.from ≤ l.at;
  within : l.at ≤ length l.path;
  made : l.fn.ledger.made ≤ l.ledger.made;
}

abbrev pub decreases-loop-at : goal.decreases-loop-at
decreases-loop-at l = l.at
