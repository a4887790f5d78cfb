use Rattle.std.proofs.Common.{◌-◌, length, map, sym, ◌∙◌, ap, arith}
use Rattle.std.specs.Prelude.{Some, reverse}
use Rattle.php_memdef.specs.Contents as model
use Rattle.php_memdef.specs.Places.{with_nth_item}
use Rattle.php_memplain_cells.specs.Seen.{item_seen}
use Rattle.php_memplain_changes.proofs.SwapLemmas.{temp_of, set_reversed}
use Rattle.php_memplain_changes.proofs.swapping.swap_nth.Goals as goal

pub swap_value-requires : goal.swap_value-requires
swap_value-requires c = (c.requires.there.0, temp_of c.args.temps.now c.args.depth c.index-temps-place.result c.requires.within ∙ c.requires.there.1)

pub returns-clause-seen : goal.returns-clause-seen
returns-clause-seen c =
    set_reversed c.args.temps.now c.args.depth (length c.args.temps.now - 1 - c.args.depth) c.swap_value.new.item (omega (arith, c.requires.within))
    ∙ ap (λ (i : model.Item). with_nth_item (map item_seen (reverse c.args.temps.now)) c.args.depth i) c.swap_value.ensures.seen

pub returns-clause-before : goal.returns-clause-before
returns-clause-before c = sym (temp_of c.args.temps.now c.args.depth c.index-temps-place.result c.requires.within) ∙ ap Some (sym c.swap_value.ensures.before)
