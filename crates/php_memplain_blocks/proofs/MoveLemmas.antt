-- Items that move, and the counts of what they name.
use Rattle.std.proofs.Common.{◌≡◌, ℕ, suc, ◌+◌, ◌<◌, List, [], ◌∷◌, ◌++◌, length, map, refl, sym, ◌∙◌, ap, subst, arith}
use Rattle.std.specs.Prelude.{Option, Some, None, option_map, unwrap_or, IsSome, is_some, reverse}
use Rattle.std.proofs.lemmas.List.{length-reverse}
use Rattle.std.proofs.Common.{length-append}
use Rattle.slab.specs.Slab.{get, with_value, ContainsKey}
use Rattle.php_value.specs.declared.scalar.Scalar.{Scalar}
use Rattle.php_value.specs.declared.scalar.Scalar.TheVariants as scalar
use Rattle.php_memdef.specs.Numbered.{numbered}
use Rattle.php_memdef.specs.Contents.{Item, link, Variable, Scope, Mem, no_scope, scope_of}
use Rattle.php_memdef.specs.Holders.{times, stores_of_content, stores_of_item, stores_of_items, stores_of_variables, stores_of_scope, handles_of_content, handles_of_items, handles_of_scope, holders, object_holders}
use Rattle.php_memdef.specs.Places.{with_scope}
use Rattle.php_memdef.specs.Temporaries.{content_of_scalar, leave, pushed, rest_of, popped, top, let_fall}
use Rattle.php_memdef.specs.Conditions.{IsBlock, HasRoom, HasFallingRoom, CanLeave}
use Rattle.php_memdef_laws.proofs.Held.Parts.{weight_of_scope, scope_times, scope_handles, items_times, items_handles, holders-with_scope, handles-with_scope, handles_of_item, holders-pushed, handles-pushed, holders-popped, handles-popped, holders-let_fall, handles-let_fall}
use Rattle.php_memplain_cells.specs.declared.block.Block.{Block}
use Rattle.php_memplain_cells.specs.declared.content.Item.{Item as Kept}
use Rattle.php_memplain_cells.specs.declared.cells.Cells.{Cells}
use Rattle.php_memplain_cells.specs.Seen.{item_seen, scope_seen, handle_items, loads_items, block_falling}
use Rattle.php_memplain_cells.specs.Counts.{count_of_store, count_of_object}
use Rattle.php_memplain_cells.specs.Memory.{memory_seen, IsCounted, IsCountedWith}
use Rattle.php_memdef_laws.proofs.NumberedLemmas.{total-with, live-with}
use Rattle.php_memplain_cells.proofs.SlotLemmas.{at_seen, with_same}
use Rattle.php_memplain_cells.proofs.FallingLemmas.{scope_again, scope_twice}
use Rattle.php_memplain_cells.proofs.MemoryLemmas.{scope_there, block_put, counted_by}

length_seen : (is : List Kept) → length (map item_seen is) ≡ length is
length_seen [] = refl
length_seen (i ∷ is) = ap suc (length_seen is)

some_behind : {X Y : Type 0} (f : X → Y) (o : Option X) → IsSome (option_map f o) → IsSome o
some_behind f None h = h
some_behind f (Some x) h = refl

-- a block that the memory has is in the slab
pub block_live : (s : Cells) (b : ℕ) → IsBlock (memory_seen s) b → ContainsKey s.blocks b
block_live s b h = some_behind scope_seen (get s.blocks b) (ap is_some (sym (at_seen scope_seen s.blocks.slots b)) ∙ h)

module _ (s : Cells) (b : ℕ) (f : Block) (e : get s.blocks b ≡ Some f) where
  -- a change of a block is that of the scope that is seen
  pub scope_changed : (g : Block) (change : Scope → Scope) → scope_seen g ≡ change (scope_seen f) → memory_seen (record s { blocks = with_value s.blocks b g }) ≡ with_scope (memory_seen s) b (change (scope_of (memory_seen s) b))
  scope_changed g change h = block_put s b f e g ∙ ap (with_scope (memory_seen s) b) (h ∙ ap change (sym (scope_there s b f e)))

  pub temps_length : length (scope_of (memory_seen s) b).temps ≡ length f.temps.items
  temps_length = ap (λ (x : Scope). length x.temps) (scope_there s b f e) ∙ length_seen (reverse f.temps.items) ∙ length-reverse f.temps.items

  pub room_there : HasRoom (memory_seen s) b → length f.temps.items < f.room
  room_there h = let room : (scope_of (memory_seen s) b).room ≡ f.room = ap (λ (x : Scope). x.room) (scope_there s b f e) in omega (arith, h, room, temps_length)

  pub waiting_room_there : HasFallingRoom (memory_seen s) b → length f.waiting.items < f.room
  waiting_room_there h =
      let room : (scope_of (memory_seen s) b).room ≡ f.room = ap (λ (x : Scope). x.room) (scope_there s b f e) in
      let all : length (scope_of (memory_seen s) b).falling ≡ length (block_falling f) = ap (λ (x : Scope). length x.falling) (scope_there s b f e) in
      let one : length (block_falling f) ≡ length (handle_items f.handle) + length (loads_items f.loads ++ map item_seen f.waiting.items) = length-append (handle_items f.handle) _ in
      let two : length (loads_items f.loads ++ map item_seen f.waiting.items) ≡ length (loads_items f.loads) + length (map item_seen f.waiting.items) = length-append (loads_items f.loads) _ in
      omega (arith, h, room, all, one, two, length_seen f.waiting.items)

module _ (s t : Cells) (b : ℕ) (st : t.stores ≡ s.stores) (os : t.objects ≡ s.objects) where
  same_stores : (k : ℕ) → count_of_store t.stores k ≡ count_of_store s.stores k
  same_stores k = ap (λ x. count_of_store x k) st

  same_objects : (h : ℕ) → count_of_object t.objects.items h ≡ count_of_object s.objects.items h
  same_objects h = ap (λ x. count_of_object x h) (ap (λ x. x.items) os)

  pub pushed_counted : (i : Item) → IsCountedWith s (stores_of_item i) (handles_of_item i) → memory_seen t ≡ pushed (memory_seen s) b i → IsCounted t
  pushed_counted i counted seen =
      counted_by t (pushed (memory_seen s) b i) [] [] seen
      (λ k. omega (arith, same_stores k, counted.stores k, holders-pushed (memory_seen s) k b i))
      (λ h. omega (arith, same_objects h, counted.objects h, handles-pushed (memory_seen s) h b i))

  pub popped_counted : IsCounted s → memory_seen t ≡ popped (memory_seen s) b → IsCountedWith t (stores_of_item (top (memory_seen s) b)) (handles_of_item (top (memory_seen s) b))
  popped_counted counted seen =
      counted_by t (popped (memory_seen s) b) (stores_of_item (top (memory_seen s) b)) (handles_of_item (top (memory_seen s) b)) seen
      (λ k. omega (arith, same_stores k, counted.stores k, holders-popped (memory_seen s) k b))
      (λ h. omega (arith, same_objects h, counted.objects h, handles-popped (memory_seen s) h b))

  pub fallen_counted : (i : Item) → IsCountedWith s (stores_of_item i) (handles_of_item i) → memory_seen t ≡ let_fall (memory_seen s) b i → IsCounted t
  fallen_counted i counted seen =
      counted_by t (let_fall (memory_seen s) b i) [] [] seen
      (λ k. omega (arith, same_stores k, counted.stores k, holders-let_fall (memory_seen s) k b i))
      (λ h. omega (arith, same_objects h, counted.objects h, handles-let_fall (memory_seen s) h b i))

-- a scalar names nothing

pub scalar_stores : (v : Scalar) → stores_of_content (content_of_scalar v) ≡ []
scalar_stores scalar.Null = refl
scalar_stores (scalar.Bool b) = refl
scalar_stores (scalar.Int i) = refl
scalar_stores (scalar.Str bytes) = refl

pub scalar_handles : (v : Scalar) → handles_of_content (content_of_scalar v) ≡ []
scalar_handles scalar.Null = refl
scalar_handles (scalar.Bool b) = refl
scalar_handles (scalar.Int i) = refl
scalar_handles (scalar.Str bytes) = refl

-- the counts of a memory in which nothing more is named
pub still_counted : (s : Cells) (ss hs : List ℕ) → ss ≡ [] → hs ≡ [] → IsCounted s → IsCountedWith s ss hs
still_counted s ss hs e f counted = subst (λ x. IsCountedWith s x hs) (sym e) (subst (λ x. IsCountedWith s [] x) (sym f) counted)

-- a block without its top temporary has the same room for what falls
pub falling_room_popped : (m : Mem) (b : ℕ) → HasFallingRoom m b → HasFallingRoom (popped m b) b
falling_room_popped m b h = subst (λ (x : Scope). length x.falling < x.room) (sym (scope_again m b (record (scope_of m b) { temps = rest_of (scope_of m b).temps }))) h

pub block_popped : (m : Mem) (b c : ℕ) → IsBlock m c → IsBlock (popped m b) c
block_popped m b c h = live-with m.blocks b (record (scope_of m b) { temps = rest_of (scope_of m b).temps }) c h

-- a block is left, or entered

pub left_counted : (s : Cells) (b : ℕ) (t : Cells) → IsCounted s → CanLeave b (memory_seen s) → t.stores ≡ s.stores → t.objects ≡ s.objects → memory_seen t ≡ leave (memory_seen s) b → IsCounted t
unfolding holders object_holders leave
left_counted s b t counted can st os seen =
    let m = memory_seen s in
    let f = scope_of m b in
    counted_by t (leave m b) [] [] seen
    (λ k. (
    let vs : times k (stores_of_variables f.variables) ≡ 0 = ap (λ x. times k (stores_of_variables x)) can.no_variables in
    let is : times k (stores_of_items f.temps) ≡ 0 = ap (λ x. times k (stores_of_items x)) can.no_temps in
    let fs : times k (stores_of_items f.falling) ≡ 0 = ap (λ x. times k (stores_of_items x)) can.no_falling in
    omega (arith, same_stores s t b st os k, counted.stores k, total-with (λ g. times k (stores_of_scope g)) m.blocks b None, weight_of_scope (λ g. times k (stores_of_scope g)) (numbered m.blocks b) refl, scope_times m k f, vs, is, fs)))
    (λ h. (
    let is : times h (handles_of_items f.temps) ≡ 0 = ap (λ x. times h (handles_of_items x)) can.no_temps in
    let fs : times h (handles_of_items f.falling) ≡ 0 = ap (λ x. times h (handles_of_items x)) can.no_falling in
    omega (arith, same_objects s t b st os h, counted.objects h, total-with (λ g. times h (handles_of_scope g)) m.blocks b None, weight_of_scope (λ g. times h (handles_of_scope g)) (numbered m.blocks b) refl, scope_handles m h f, is, fs)))

-- a change of a block that names what it named before
pub rescoped_counted : (s t : Cells) (b : ℕ) (g : Scope) → IsCounted s → t.stores ≡ s.stores → t.objects ≡ s.objects → memory_seen t ≡ with_scope (memory_seen s) b g → ((k : ℕ) → times k (stores_of_scope g) ≡ times k (stores_of_scope (scope_of (memory_seen s) b))) → ((h : ℕ) → times h (handles_of_scope g) ≡ times h (handles_of_scope (scope_of (memory_seen s) b))) → IsCounted t
rescoped_counted s t b g counted st os seen names handles =
    let m = memory_seen s in
    counted_by t (with_scope m b g) [] [] seen
    (λ k. omega (arith, same_stores s t b st os k, counted.stores k, holders-with_scope m k b g, names k))
    (λ h. omega (arith, same_objects s t b st os h, counted.objects h, handles-with_scope m h b g, handles h))

-- a variable goes, and its store falls

module _ (m : Mem) (b : ℕ) where
  -- the variables change first, and then the store falls
  pub gone_is : (vs : List Variable) (s : ℕ) → with_scope m b (record (scope_of m b) { variables = vs; falling = (scope_of m b).falling ++ link s ∷ [] }) ≡ let_fall (with_scope m b (record (scope_of m b) { variables = vs })) b (link s)
  gone_is vs s =
      sym (ap (λ (x : Scope). with_scope (with_scope m b (record (scope_of m b) { variables = vs })) b (record x { falling = x.falling ++ link s ∷ [] })) (scope_again m b (record (scope_of m b) { variables = vs }))
      ∙ scope_twice m b (record (scope_of m b) { variables = vs }) (record (scope_of m b) { variables = vs; falling = (scope_of m b).falling ++ link s ∷ [] }))

  pub gone_names : (vs : List Variable) (s k : ℕ) → times k (stores_of_variables vs) + times k (s ∷ []) ≡ times k (stores_of_variables (scope_of m b).variables) → times k (stores_of_scope (record (scope_of m b) { variables = vs; falling = (scope_of m b).falling ++ link s ∷ [] })) ≡ times k (stores_of_scope (scope_of m b))
  gone_names vs s k e =
      let f = scope_of m b in
      let g : Scope = record f { variables = vs; falling = f.falling ++ link s ∷ [] } in
      omega (arith, e, scope_times m k f, scope_times m k g, items_times k f.falling (link s ∷ []))

  pub gone_handles : (vs : List Variable) (s h : ℕ) → times h (handles_of_scope (record (scope_of m b) { variables = vs; falling = (scope_of m b).falling ++ link s ∷ [] })) ≡ times h (handles_of_scope (scope_of m b))
  gone_handles vs s h =
      let f = scope_of m b in
      let g : Scope = record f { variables = vs; falling = f.falling ++ link s ∷ [] } in
      omega (arith, scope_handles m h f, scope_handles m h g, items_handles h f.falling (link s ∷ []))

-- the scope that a block has, put there again
pub scope_same : (m : Mem) (b : ℕ) (f : Scope) → numbered m.blocks b ≡ Some f → with_scope m b (scope_of m b) ≡ m
scope_same m b f e = ap (λ (g : Scope). with_scope m b g) (ap (λ o. unwrap_or o no_scope) e) ∙ ap (λ bs. record m { blocks = bs }) (with_same m.blocks b f e)
