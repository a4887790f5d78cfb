-- An object has fewer holders than its count can tell.
use Rattle.std.proofs.Common.{◌≡◌, ℕ, zero, suc, ◌+◌, ◌*◌, ◌^◌, ◌<◌, ◌≤◌, List, [], ◌∷◌, ◌++◌, length, map, reverse, cond, refl, sym, ◌∙◌, ap, arith}
use Rattle.std.specs.Prelude.{Bool, true, false, nat_eq, Option, Some, None, option_map, is_some, count_by, drop}
use Rattle.std.proofs.Math.Nat.{suc-mul}
use Rattle.std.proofs.lemmas.List.{length-map, length-reverse}
use Rattle.std.proofs.lemmas.List.Recursion.{is_count_by}
use Rattle.slab.specs.Slab.{slab_len}
use Rattle.php_memdef.specs.Numbered.{weight_if, total}
use Rattle.php_memdef.specs.Contents.{Content, null, truth, int, text, array, object, Item, value, link}
use Rattle.php_memdef.specs.Holders.{times, handles_of_content, handles_of_items, handles_of_scope, object_holders}
use Rattle.php_memdef_laws.proofs.Held.Parts.{times-append, item_handles, items_handles}
use Rattle.php_memdef_laws.proofs.Held.Releases.{entry_links_handles, property_links_handles}
use Rattle.php_memplain_cells.specs.declared.load.Load.{Load}
use Rattle.php_memplain_cells.specs.declared.load.Load.TheVariants.{Whole, Elements as Begun, Properties}
use Rattle.php_memplain_cells.specs.declared.block.Block.{Block}
use Rattle.php_memplain_cells.specs.declared.cells.Cells.{Cells}
use Rattle.php_memplain_cells.specs.Seen.{item_seen, property_seen, store_seen, stores_seen, later, handle_items, load_items, loads_items, scope_seen}
use Rattle.php_memplain_cells.specs.Counts.{count_of_object}
use Rattle.php_memplain_cells.specs.Memory.{memory_seen, IsCountedWith}

-- how many slots have something
abbrev occupied : {X : Type 0} → List (Option X) → ℕ
occupied [] = 0
occupied (None ∷ xs) = occupied xs
occupied (Some x ∷ xs) = suc (occupied xs)

occupied_more : {X : Type 0} (x : Option X) (xs : List (Option X)) → occupied (x ∷ xs) ≡ cond (is_some x) (1 + occupied xs) (occupied xs)
occupied_more None xs = refl
occupied_more (Some x) xs = omega arith

occupied_count : {X : Type 0} (xs : List (Option X)) → occupied xs ≡ count_by is_some xs
occupied_count xs = is_count_by occupied is_some refl occupied_more xs

-- a sum of n numbers, each at most m, is at most n * m
total_within : {X Y : Type 0} (f : X → Y) (weight : Y → ℕ) (m : ℕ) → ((x : X) → weight (f x) ≤ m) → (xs : List (Option X)) → total weight (map (option_map f) xs) ≤ occupied xs * m
total_within f weight m each [] = omega arith
total_within f weight m each (None ∷ xs) = omega (arith, total_within f weight m each xs)
total_within f weight m each (Some x ∷ xs) = omega (arith, each x, total_within f weight m each xs, suc-mul (occupied xs) m)

-- a content, a list of items and a block hold an object so often

once : (h x : ℕ) → times h (x ∷ []) ≤ 1
once h x = by_test (nat_eq h x)
  where
    by_test : (b : Bool) → cond b 1 0 + 0 ≤ 1
    by_test true = omega arith
    by_test false = omega arith

content_within : (h : ℕ) (c : Content) → times h (handles_of_content c) ≤ 1
content_within h null = omega arith
content_within h (truth b) = omega arith
content_within h (int i) = omega arith
content_within h (text bytes) = omega arith
content_within h (array t) = omega arith
content_within h (object k) = once h k

items_within : (h : ℕ) (is : List Item) → times h (handles_of_items is) ≤ length is
items_within h [] = omega arith
items_within h (value c ∷ is) = omega (arith, item_handles h (value c) is, content_within h c, items_within h is)
items_within h (link s ∷ is) = omega (arith, items_within h is)

load_none : (h : ℕ) (l : Load) → times h (handles_of_items (load_items l)) ≡ 0
load_none h (Whole t) = refl
load_none h (Begun e) = entry_links_handles h (later e.passed e.entries.entries)
load_none h (Properties ps at) = property_links_handles h (map property_seen (drop at ps.items))

loads_none : (h : ℕ) (ls : List Load) → times h (handles_of_items (loads_items ls)) ≡ 0
loads_none h [] = refl
loads_none h (l ∷ ls) = omega (arith, items_handles h (load_items l) (loads_items ls), load_none h l, loads_none h ls)

handle_once : (h : ℕ) (o : Option ℕ) → times h (handles_of_items (handle_items o)) ≤ 1
handle_once h None = omega arith
handle_once h (Some k) = once h k

block_within : (h : ℕ) (f : Block) → times h (handles_of_scope (scope_seen f)) ≤ 18446744073709551615
block_within h f =
    let g = scope_seen f in
    let waiting = map item_seen f.waiting.items in
    let temps : length g.temps ≡ length f.temps.items = length-map (reverse f.temps.items) item_seen ∙ length-reverse f.temps.items in
    let waits : length waiting ≡ length f.waiting.items = length-map f.waiting.items item_seen in
    omega (
      arith,
      times-append h (handles_of_items g.temps) (handles_of_items g.falling),
      items_within h g.temps,
      temps,
      f.temps.ok.0,
      f.temps.ok.1,
      f.temps.small,
      items_handles h (handle_items f.handle) (loads_items f.loads ++ waiting),
      handle_once h f.handle,
      items_handles h (loads_items f.loads) waiting,
      loads_none h f.loads,
      items_within h waiting,
      waits,
      f.waiting.ok.0,
      f.waiting.small.0,
      f.waiting.small.1,
    )

module _ (s : Cells) (stores : slab_len s.stores < 2 ^ 64) (blocks : slab_len s.blocks < 2 ^ 64) where
  pub holders_fit : (h : ℕ) → object_holders (memory_seen s) h + 1 < 2 ^ 128
  unfolding object_holders
  holders_fit h =
      omega (
        arith,
        total_within store_seen (λ c. times h (handles_of_content c)) 1 (λ x. content_within h (store_seen x)) s.stores.slots,
        occupied_count s.stores.slots,
        stores,
        total_within scope_seen (λ f. times h (handles_of_scope f)) 18446744073709551615 (block_within h) s.blocks.slots,
        occupied_count s.blocks.slots,
        blocks,
      )

  -- so one holder more can be counted
  pub count_fits : IsCountedWith s [] [] → (h : ℕ) → count_of_object s.objects.items h + 1 < 2 ^ 128
  count_fits counted h = omega (arith, counted.objects h, holders_fit h)
