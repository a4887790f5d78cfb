use Rattle.std.proofs.Common.{◌≡◌, ℕ, List, [], ◌∷◌, ◌++◌, sym, ◌∙◌, ap, arith}
use Rattle.std.specs.Prelude.{Some}
use Rattle.slab.specs.Slab.{get}
use Rattle.php_memdef.specs.declared.answer.Fallen.TheVariants.{Nothing}
use Rattle.php_memdef.specs.Contents.{Item, value, link, object, object_of}
use Rattle.php_memdef.specs.Holders.{times, stores_of_items, handles_of_items}
use Rattle.php_memdef.specs.Temporaries.{with_falling}
use Rattle.php_memdef.specs.Releases.{goes_on, stops, link_dropped, handle_dropped, is_held, is_object_held, first_released}
use Rattle.php_memdef_laws.proofs.Held.Parts.{item_times, item_handles, items_times, items_handles}
use Rattle.php_memplain_cells.specs.declared.block.Block.{Block}
use Rattle.php_memplain_cells.specs.declared.cells.Cells.{Cells}
use Rattle.php_memplain_cells.specs.Seen.{scope_seen}
use Rattle.php_memplain_cells.specs.Falls.{GivesWay}
use Rattle.php_memplain_cells.specs.Memory.{memory_seen, falling_in}
use Rattle.php_memplain_cells.proofs.FallingLemmas.{falling_same, falling_twice, link_again}
use Rattle.php_memplain_cells.proofs.MemoryLemmas.{block_there, counted_after, found_some}
use Rattle.php_memplain_cells.proofs.cells.Cells.release_one.Goals as goal

pub release_link-requires-clause-counted : goal.release_link-requires-clause-counted
release_link-requires-clause-counted c =
    let s = c.args.self.now in
    let t = c.take_first.new.self in
    let b = c.args.block in
    let k = c.in-Link.store in
    let rest = falling_in t b in
    let q = c.in-Link.ensures in
    counted_after s t b rest (k ∷ []) [] c.requires.counted q.stores q.objects q.memory
    (λ j. (let e : times j (stores_of_items (falling_in s b)) ≡ times j (stores_of_items (link k ∷ rest)) = ap (λ xs. times j (stores_of_items xs)) q.first in omega (arith, e, item_times j (link k) rest)))
    (λ j. (let e : times j (handles_of_items (falling_in s b)) ≡ times j (handles_of_items (link k ∷ rest)) = ap (λ xs. times j (handles_of_items xs)) q.first in omega (arith, e, item_handles j (link k) rest)))

pub release_handle-requires-clause-counted : goal.release_handle-requires-clause-counted
release_handle-requires-clause-counted c =
    let s = c.args.self.now in
    let t = c.take_first.new.self in
    let b = c.args.block in
    let h = c.in-Handle.number in
    let rest = falling_in t b in
    let q = c.in-Handle.ensures in
    counted_after s t b rest [] (h ∷ []) c.requires.counted q.stores q.objects q.memory
    (λ j. (let e : times j (stores_of_items (falling_in s b)) ≡ times j (stores_of_items (value (object h) ∷ rest)) = ap (λ xs. times j (stores_of_items xs)) q.first in omega (arith, e, item_times j (value (object h)) rest)))
    (λ j. (let e : times j (handles_of_items (falling_in s b)) ≡ times j (handles_of_items (value (object h) ∷ rest)) = ap (λ xs. times j (handles_of_items xs)) q.first in omega (arith, e, item_handles j (value (object h)) rest)))

-- nothing was there to be taken
nothing_seen : (s t : Cells) (b : ℕ) → (f : Block) → get s.blocks b ≡ Some f → falling_in s b ≡ [] → falling_in t b ≡ [] → memory_seen t ≡ with_falling (memory_seen s) b (falling_in t b) → memory_seen t ≡ memory_seen s
nothing_seen s t b f e old new seen = seen ∙ falling_same (memory_seen s) b (scope_seen f) (block_there s b f e) (falling_in t b) (old ∙ sym new)

pub returns-in-Nothing-clause-turn : goal.returns-in-Nothing-clause-turn
returns-in-Nothing-clause-turn c =
    let s = c.args.self.now in
    let b = c.args.block in
    let q = c.in-Nothing.ensures in
    let f = found_some (get s.blocks b) c.requires.block in
    ap (λ xs. first_released xs (memory_seen s) b) q.first.0 ∙ ap (λ n. stops n Nothing) (sym (nothing_seen s c.take_first.new.self b f.0 f.1 q.first.0 q.first.1 q.memory))

pub returns-in-Nothing-clause-counted : goal.returns-in-Nothing-clause-counted
returns-in-Nothing-clause-counted c =
    let s = c.args.self.now in
    let b = c.args.block in
    let q = c.in-Nothing.ensures in
    counted_after s c.take_first.new.self b (falling_in c.take_first.new.self b) [] [] c.requires.counted q.stores q.objects q.memory
    (λ j. (let e : times j (stores_of_items (falling_in s b)) ≡ times j (stores_of_items (falling_in c.take_first.new.self b)) = ap (λ xs. times j (stores_of_items xs)) (q.first.0 ∙ sym q.first.1) in omega (arith, e)))
    (λ j. (let e : times j (handles_of_items (falling_in s b)) ≡ times j (handles_of_items (falling_in c.take_first.new.self b)) = ap (λ xs. times j (handles_of_items xs)) (q.first.0 ∙ sym q.first.1) in omega (arith, e)))

-- what gives way to what it holds names what that names
gives_names : (j : ℕ) (old new : List Item) → (g : GivesWay old new) → times j (stores_of_items old) ≡ times j (stores_of_items new)
gives_names j old new g =
    let e : times j (stores_of_items old) ≡ times j (stores_of_items (g.first ∷ [] ++ g.rest)) = ap (λ xs. times j (stores_of_items xs)) g.stood in
    let d : times j (stores_of_items new) ≡ times j (stores_of_items (g.gives ++ g.rest)) = ap (λ xs. times j (stores_of_items xs)) g.comes in
    omega (arith, e, d, items_times j (g.first ∷ []) g.rest, items_times j g.gives g.rest, g.stores j)

gives_handles : (j : ℕ) (old new : List Item) → (g : GivesWay old new) → times j (handles_of_items old) ≡ times j (handles_of_items new)
gives_handles j old new g =
    let e : times j (handles_of_items old) ≡ times j (handles_of_items (g.first ∷ [] ++ g.rest)) = ap (λ xs. times j (handles_of_items xs)) g.stood in
    let d : times j (handles_of_items new) ≡ times j (handles_of_items (g.gives ++ g.rest)) = ap (λ xs. times j (handles_of_items xs)) g.comes in
    omega (arith, e, d, items_handles j (g.first ∷ []) g.rest, items_handles j g.gives g.rest, g.handles j)

pub returns-in-Passed-clause-counted : goal.returns-in-Passed-clause-counted
returns-in-Passed-clause-counted c =
    let s = c.args.self.now in
    let t = c.take_first.new.self in
    let b = c.args.block in
    let q = c.in-Passed.ensures in
    counted_after s t b (falling_in t b) [] [] c.requires.counted q.stores q.objects q.memory
    (λ j. omega (arith, gives_names j (falling_in s b) (falling_in t b) q.first))
    (λ j. omega (arith, gives_handles j (falling_in s b) (falling_in t b) q.first))

pub returns-in-Link-clause-turn : goal.returns-in-Link-clause-turn
returns-in-Link-clause-turn c =
    let s = c.args.self.now in
    let t = c.take_first.new.self in
    let b = c.args.block in
    let k = c.in-Link.store in
    let q = c.in-Link.ensures in
    let rest = falling_in t b in
    let m = memory_seen s in
    ap (λ xs. first_released xs m b) q.first
    ∙ ap goes_on (sym (link_again m b (is_held (with_falling m b rest) k) rest k) ∙ ap (λ n. link_dropped (is_held n k) n b rest k) (sym q.memory) ∙ sym c.release_link.ensures.memory)

pub returns-in-Handle-clause-turn : goal.returns-in-Handle-clause-turn
returns-in-Handle-clause-turn c =
    let s = c.args.self.now in
    let t = c.take_first.new.self in
    let b = c.args.block in
    let h = c.in-Handle.number in
    let q = c.in-Handle.ensures in
    let rest = falling_in t b in
    let m = memory_seen s in
    let f = found_some (get s.blocks b) c.requires.block in
    ap (λ xs. first_released xs m b) q.first
    ∙ ap (λ n. handle_dropped (is_object_held (with_falling m b rest) h) (object_of m h) n b rest h) (sym (falling_same m b (scope_seen f.0) (block_there s b f.0 f.1) (value (object h) ∷ rest) q.first) ∙ sym (falling_twice m b rest (value (object h) ∷ rest)))
    ∙ ap (λ n. handle_dropped (is_object_held n h) (object_of n h) (with_falling n b (value (object h) ∷ rest)) b rest h) (sym q.memory)
    ∙ c.release_handle.ensures.turn
