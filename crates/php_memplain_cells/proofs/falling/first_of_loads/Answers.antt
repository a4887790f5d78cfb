use Rattle.std.proofs.Common.{◌++◌, sym, ◌∙◌, ap}
use Rattle.php_memplain_cells.specs.Seen.{load_items, loads_items}
use Rattle.php_memplain_cells.proofs.FirstLemmas.{array_gives_way}
use Rattle.php_memplain_cells.proofs.falling.first_of_loads.Goals as goal

pub returns-in-Whole : goal.returns-in-Whole
returns-in-Whole c =
    let rest = loads_items c.pop.new.self in
    array_gives_way c.in-Whole.entries _ _ rest
    (sym c.loop-load.invariant ∙ ap loads_items c.in-Some.ensures.some ∙ ap (λ l. load_items l ++ rest) c.in-Whole.is)
    (ap loads_items c.push.ensures ∙ ap (λ xs. xs ++ rest) c.of.ensures)
