use Rattle.std.proofs.Common.{◌≡◌, ◌+◌, ◌-◌, List, length, map, take, drop, ◌++◌, ◌∙◌, ap, arith}
use Rattle.std.specs.Prelude.{reverse}
use Rattle.php_memdef.specs.Contents as model
use Rattle.php_memplain_cells.specs.declared.content.Item.{Item}
use Rattle.php_memplain_cells.specs.Seen.{item_seen, scope_seen}
use Rattle.php_memplain_blocks.proofs.TurnLemmas.{whole_slice, as_many, turned_is}
use Rattle.php_memplain_blocks.proofs.turning.turn_top.Goals as goal

pub returns : goal.returns
returns c =
    let f = c.args.block.now in
    let is = f.temps.items in
    let from = c.len.result - c.args.count in
    let e : from + c.args.count ≡ length is = (let ok = f.temps.ok in omega (arith, c.requires, c.len.ensures)) in
    let turns : c.reverse_behind.new.items ≡ take from is ++ reverse (drop from is) = c.reverse_behind.ensures ∙ ap (λ (js : List Item). take from js ++ reverse (drop from js)) c.as_mut_slice.ensures.value in
    let many : f.temps.len ≡ length c.reverse_behind.new.items = (let ok = f.temps.ok in omega (arith, ap length turns, as_many is from)) in
    ap (λ (js : List Item). record (scope_seen f) { temps = map item_seen (reverse js) }) (whole_slice c.reverse_behind.new.items (drop (length c.reverse_behind.new.items) is) f.temps.len many ∙ turns)
    ∙ ap (λ (js : List model.Item). record (scope_seen f) { temps = js }) (turned_is is c.args.count from e)
