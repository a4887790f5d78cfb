use Rattle.std.proofs.Common.{◌≡◌, refl, ◌∙◌, ap, arith, map}
use Rattle.std.specs.Prelude.{None, option_map}
use Rattle.php_memplain_cells.specs.Seen.{store_seen}
use Rattle.php_memplain_cells.specs.Counts.{count_of_store, holders_if}
use Rattle.php_memplain_cells.proofs.SlotLemmas.{at_seen, set_seen, set_kept}
use Rattle.php_memplain_cells.proofs.stores.drop_link.Goals as goal

pub returns-then-index-gt1-clause-kept : goal.returns-then-index-gt1-clause-kept
returns-then-index-gt1-clause-kept c =
    let n : count_of_store c.args.stores.now c.args.store ≡ c.index.result.now.holders = ap holders_if c.index.ensures in
    (omega (arith, n, c.if-index-gt1.true), set_kept store_seen c.args.stores.now.slots c.args.store c.index_mut.result.now _ c.index_mut.ensures.value refl)

pub returns-clause-gone : goal.returns-clause-gone
returns-clause-gone c =
    let n : count_of_store c.args.stores.now c.args.store ≡ c.index.result.now.holders = ap holders_if c.index.ensures in (
      omega (arith, n, c.requires, c.if-index-gt1.false),
      at_seen store_seen c.args.stores.now.slots c.args.store ∙ ap (option_map store_seen) c.remove-cell.ensures.value,
      ap (map (option_map store_seen)) c.remove-cell.ensures.slots ∙ set_seen store_seen c.args.stores.now.slots c.args.store c.remove-cell.result None c.remove-cell.ensures.value,
    )
