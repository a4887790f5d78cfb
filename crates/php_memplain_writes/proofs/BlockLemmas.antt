-- A block that changes, and items that leave it and fall in it.
use Rattle.std.proofs.Common.{◌≡◌, ℕ, suc, ◌+◌, ◌<◌, List, [], ◌∷◌, length, map, refl, sym, ◌∙◌, ap, arith}
use Rattle.std.specs.Prelude.{Option, Some, None, option_map, IsSome, is_some, reverse}
use Rattle.std.proofs.lemmas.List.{length-reverse}
use Rattle.slab.specs.Slab.{get, with_value, ContainsKey}
use Rattle.php_memdef.specs.Contents.{Content, Item, value, link, Scope, Mem, scope_of}
use Rattle.php_memdef.specs.Holders.{times, stores_of_content, stores_of_item, handles_of_content}
use Rattle.php_memdef.specs.Places.{Spot, stored, standing, nth_item, with_nth_item, content_at, with_content, with_scope}
use Rattle.php_memdef.specs.Sound.{IsLive}
use Rattle.php_memdef.specs.Temporaries.{pushed, popped, top_of, top, let_fall}
use Rattle.php_memdef.specs.Conditions.{IsBlock, HasRoom}
use Rattle.php_memdef.specs.Writes.{moved_in}
use Rattle.php_memdef_laws.proofs.NumberedLemmas.{live-with}
use Rattle.php_memdef_laws.proofs.Held.Parts.{holders-pushed, handles-pushed, holders-popped, handles-popped, holders-let_fall, handles-let_fall, handles_of_item}
use Rattle.php_memdef_laws.proofs.Held.Writes.{IsReal, holders-with_content, handles-with_content}
use Rattle.php_memplain_cells.specs.declared.block.Block.{Block}
use Rattle.php_memplain_cells.specs.declared.cells.Cells.{Cells}
use Rattle.php_memplain_cells.specs.Seen.{item_seen, store_seen, scope_seen}
use Rattle.php_memplain_cells.specs.declared.content.Item.{Item as Kept}
use Rattle.php_memplain_cells.specs.Counts.{count_of_store, count_of_object}
use Rattle.php_memplain_cells.specs.Memory.{memory_seen, IsCounted, IsCountedWith}
use Rattle.php_memplain_cells.proofs.SlotLemmas.{at_seen, with_same}
use Rattle.php_memplain_cells.proofs.MemoryLemmas.{block_there, scope_there, block_put, counted_by}
use Rattle.php_memplain_writes.specs.Moving.{IsSpotBelow, spot_below}
use Rattle.php_memplain_writes.proofs.WayLemmas.{none_some, same_some}
use Rattle.php_memplain_writes.proofs.MoveLemmas.{content_below, put_below}

some_behind : {X Y : Type 0} (f : X → Y) (o : Option X) → IsSome (option_map f o) → IsSome o
some_behind f None h = h
some_behind f (Some x) h = refl

-- a block that the memory has is in the slab
pub block_live : (s : Cells) (b : ℕ) → IsBlock (memory_seen s) b → ContainsKey s.blocks b
block_live s b h = some_behind scope_seen (get s.blocks b) (ap is_some (sym (at_seen scope_seen s.blocks.slots b)) ∙ h)

-- a change of a block is that of the scope that is seen
pub scope_changed : (s : Cells) (b : ℕ) (f : Block) → get s.blocks b ≡ Some f → (g : Block) (change : Scope → Scope) → scope_seen g ≡ change (scope_seen f) → memory_seen (record s { blocks = with_value s.blocks b g }) ≡ with_scope (memory_seen s) b (change (scope_of (memory_seen s) b))
scope_changed s b f e g change h = block_put s b f e g ∙ ap (with_scope (memory_seen s) b) (h ∙ ap change (sym (scope_there s b f e)))

module _ (s t : Cells) (st : (k : ℕ) → count_of_store t.stores k ≡ count_of_store s.stores k) (os : t.objects ≡ s.objects) where
  same_objects : (h : ℕ) → count_of_object t.objects.items h ≡ count_of_object s.objects.items h
  same_objects h = ap (λ x. count_of_object x h) (ap (λ x. x.items) os)

  -- the content on top is in hand
  pub value_popped : (b : ℕ) (c : Content) → value c ≡ top (memory_seen s) b → IsCounted s → memory_seen t ≡ popped (memory_seen s) b → IsCountedWith t (stores_of_content c) (handles_of_content c)
  value_popped b c is counted seen =
      let m = memory_seen s in
      counted_by t (popped m b) (stores_of_content c) (handles_of_content c) seen
      (λ k. (let it : times k (stores_of_content c) ≡ times k (stores_of_item (top m b)) = ap (λ i. times k (stores_of_item i)) is in omega (arith, st k, it, counted.stores k, holders-popped m k b)))
      (λ h. (let it : times h (handles_of_content c) ≡ times h (handles_of_item (top m b)) = ap (λ i. times h (handles_of_item i)) is in omega (arith, same_objects h, it, counted.objects h, handles-popped m h b)))

  -- a content in hand is put at a spot, and the one that stood there is in hand
  pub value_swapped : (spot : Spot) → IsReal (memory_seen s) spot → (c d : Content) → d ≡ content_at (memory_seen s) spot → IsCountedWith s (stores_of_content c) (handles_of_content c) → memory_seen t ≡ with_content (memory_seen s) spot c → IsCountedWith t (stores_of_content d) (handles_of_content d)
  value_swapped spot real c d is counted seen =
      let m = memory_seen s in
      counted_by t (with_content m spot c) (stores_of_content d) (handles_of_content d) seen
      (λ k. (let it : times k (stores_of_content d) ≡ times k (stores_of_content (content_at m spot)) = ap (λ x. times k (stores_of_content x)) is in omega (arith, st k, it, counted.stores k, holders-with_content k m spot real c)))
      (λ h. (let it : times h (handles_of_content d) ≡ times h (handles_of_content (content_at m spot)) = ap (λ x. times h (handles_of_content x)) is in omega (arith, same_objects h, it, counted.objects h, handles-with_content h m spot real c)))

  -- a content in hand falls
  pub value_fallen : (b : ℕ) (c : Content) → IsCountedWith s (stores_of_content c) (handles_of_content c) → memory_seen t ≡ let_fall (memory_seen s) b (value c) → IsCounted t
  value_fallen b c counted seen =
      let m = memory_seen s in
      counted_by t (let_fall m b (value c)) [] [] seen
      (λ k. omega (arith, st k, counted.stores k, holders-let_fall m k b (value c)))
      (λ h. omega (arith, same_objects h, counted.objects h, handles-let_fall m h b (value c)))

-- the three together, as the model does it
pub moved_is : (m : Mem) (b : ℕ) (spot : Spot) → IsSpotBelow b spot → (c d : Content) → value c ≡ top m b → d ≡ content_at (popped m b) (spot_below b spot) → let_fall (with_content (popped m b) (spot_below b spot) c) b (value d) ≡ moved_in (top m b) m b spot
moved_is m b spot below c d is before =
    ap (λ n. let_fall n b (value d)) (put_below m b spot below c)
    ∙ ap (λ x. let_fall (popped (with_content m spot c) b) b (value x)) (before ∙ content_below m b spot below)
    ∙ ap (λ i. moved_in i m b spot) is

pub first_value : (is : List Item) (c : Content) → nth_item is 0 ≡ Some (value c) → top_of is ≡ value c
first_value [] c e = absurd (none_some e)
first_value (i ∷ is) c e = same_some e

pub none_first : (is : List Item) (c : Content) → is ≡ [] → nth_item is 0 ≡ Some (value c) → ⊥
none_first is c e f = none_some (sym (ap (λ js. nth_item js 0) e) ∙ f)

pub room_there : (s : Cells) (b : ℕ) (f : Block) → get s.blocks b ≡ Some f → HasRoom (memory_seen s) b → length f.temps.items < f.room
room_there s b f e h =
    let room : (scope_of (memory_seen s) b).room ≡ f.room = ap (λ (x : Scope). x.room) (scope_there s b f e) in
    let count : length (scope_of (memory_seen s) b).temps ≡ length f.temps.items = ap (λ (x : Scope). length x.temps) (scope_there s b f e) ∙ length_seen (reverse f.temps.items) ∙ length-reverse f.temps.items in
    omega (arith, h, room, count)
  where
    length_seen : (is : List Kept) → length (map item_seen is) ≡ length is
    length_seen [] = refl
    length_seen (i ∷ is) = ap suc (length_seen is)

-- a block that looks as before
pub scope_kept : (s : Cells) (b : ℕ) (f : Block) → get s.blocks b ≡ Some f → (g : Block) → scope_seen g ≡ scope_seen f → memory_seen (record s { blocks = with_value s.blocks b g }) ≡ memory_seen s
scope_kept s b f e g same =
    block_put s b f e g ∙ ap (λ (x : Scope). with_scope (memory_seen s) b x) same ∙ ap (λ bs. record (memory_seen s) { blocks = bs }) (with_same (memory_seen s).blocks b (scope_seen f) (block_there s b f e))

some_before : {X Y : Type 0} (f : X → Y) (o : Option X) → IsSome o → IsSome (option_map f o)
some_before f None h = h
some_before f (Some x) h = refl

-- a block in the slab is there whatever content is put at a spot
pub block_there_after : (s : Cells) (b : ℕ) → ContainsKey s.blocks b → (spot : Spot) (c : Content) → IsBlock (with_content (memory_seen s) spot c) b
block_there_after s b h spot c = by_spot spot
  where
    here : IsBlock (memory_seen s) b
    here = ap is_some (at_seen scope_seen s.blocks.slots b) ∙ some_before scope_seen (get s.blocks b) h

    by_spot : (spot : Spot) → IsBlock (with_content (memory_seen s) spot c) b
    by_spot (stored k) = here
    by_spot (standing d k) = live-with (memory_seen s).blocks d (record (scope_of (memory_seen s) d) { temps = with_nth_item (scope_of (memory_seen s) d).temps k (value c) }) b here

pub store_there : (s : Cells) (k : ℕ) → IsLive (memory_seen s) k → ContainsKey s.stores k
store_there s k h = some_behind store_seen (get s.stores k) (ap is_some (sym (at_seen store_seen s.stores.slots k)) ∙ h)

-- a store gets a further holder, a link on top
pub link_pushed : (s t : Cells) (b k : ℕ) → ((j : ℕ) → count_of_store t.stores j ≡ count_of_store s.stores j + times j (k ∷ [])) → t.objects ≡ s.objects → IsCounted s → memory_seen t ≡ pushed (memory_seen s) b (link k) → IsCounted t
link_pushed s t b k more os counted seen =
    let m = memory_seen s in
    counted_by t (pushed m b (link k)) [] [] seen
    (λ j. omega (arith, more j, counted.stores j, holders-pushed m j b (link k)))
    (λ h. (let same : count_of_object t.objects.items h ≡ count_of_object s.objects.items h = ap (λ x. count_of_object x h) (ap (λ x. x.items) os) in omega (arith, same, counted.objects h, handles-pushed m h b (link k))))
