use Rattle.std.proofs.Common.{map, sym, ◌∙◌, ap, arith}
use Rattle.std.specs.Prelude.{Some, reverse}
use Rattle.php_memdef.specs.Places.{with_nth_item}
use Rattle.php_memplain_cells.specs.declared.content.Item.{Item}
use Rattle.php_memplain_cells.specs.Seen.{item_seen}
use Rattle.php_memplain_content.proofs.TempLemmas.{temp_is}
use Rattle.php_memplain_writes.proofs.StandLemmas.{temp_within, temp_set}
use Rattle.php_memplain_writes.proofs.standing.swap_temp.Goals as goal

pub overflow_sub-place : goal.overflow_sub-place
overflow_sub-place c =
    let ok = c.args.temps.now.ok in
    let h = temp_within c.args.temps.now.items c.args.depth _ c.requires.1 in
    omega (arith, h, c.len.ensures)

pub overflow_sub-place-2 : goal.overflow_sub-place-2
overflow_sub-place-2 c =
    let ok = c.args.temps.now.ok in
    let h = temp_within c.args.temps.now.items c.args.depth _ c.requires.1 in
    omega (arith, h, c.len.ensures)

pub index_mut-requires : goal.index_mut-requires
index_mut-requires c =
    let ok = c.args.temps.now.ok in
    let h = temp_within c.args.temps.now.items c.args.depth _ c.requires.1 in
    omega (arith, h, c.len.ensures)

pub returns-clause-before : goal.returns-clause-before
returns-clause-before c =
    let ok = c.args.temps.now.ok in
    let h = temp_within c.args.temps.now.items c.args.depth _ c.requires.1 in
    sym (temp_is c.args.temps.now.items c.args.depth c.len.result c.index_mut.result.now (omega (arith, c.len.ensures)) (omega (arith, h, c.len.ensures)) c.index_mut.ensures.value)
    ∙ ap (λ (x : Item). Some (item_seen x)) (sym c.replace.ensures.value)

pub returns-clause-seen : goal.returns-clause-seen
returns-clause-seen c =
    let ok = c.args.temps.now.ok in
    let h = temp_within c.args.temps.now.items c.args.depth _ c.requires.1 in
    temp_set c.args.temps.now.items c.len.result c.args.depth c.replace.new.dest (omega (arith, c.len.ensures)) h
    ∙ ap (λ (x : Item). with_nth_item (map item_seen (reverse c.args.temps.now.items)) c.args.depth (item_seen x)) c.replace.ensures.after
