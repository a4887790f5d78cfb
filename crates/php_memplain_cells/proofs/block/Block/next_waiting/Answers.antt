use Rattle.std.proofs.Common.{◌∷◌, ◌++◌, map, ◌∙◌, ap}
use Rattle.php_memdef.specs.Contents.{value}
use Rattle.php_memplain_cells.specs.Seen.{content_seen, item_seen, loads_items, handle_items}
use Rattle.php_memplain_cells.proofs.FirstLemmas.{array_gives_way, all_waits, one_waits}
use Rattle.php_memplain_cells.proofs.block.Block.next_waiting.Goals as goal

pub returns-in-Some-Value-Array-clause-first : goal.returns-in-Some-Value-Array-clause-first
returns-in-Some-Value-Array-clause-first c =
    let s = c.args.self.now in
    let rest = map item_seen c.pop_front.new.self.items in
    array_gives_way c.in-Some-Value-Array.entries _ _ rest
    (all_waits s.handle (loads_items s.loads) (map item_seen s.waiting.items) c.requires.handle c.requires.loads ∙ ap (map item_seen) c.in-Some-Value-Array.ensures.items
    ∙ ap (λ i. i ∷ rest) (ap item_seen c.in-Some-Value-Array.field-0-is ∙ ap (λ x. value (content_seen x)) c.in-Some-Value-Array.field-0-0-is))
    (ap (λ ls. handle_items s.handle ++ (loads_items ls ++ rest)) c.push.ensures
    ∙ one_waits s.handle (loads_items s.loads) rest _ c.requires.handle c.requires.loads
    ∙ ap (λ xs. xs ++ rest) c.of.ensures)
