-- The handle of a clone in the place of another one, which falls.
use Rattle.std.proofs.Common.{◌≡◌, ℕ, ◌<◌, List, [], ◌∷◌, ◌++◌, length, map, reverse, refl, sym, ◌∙◌, ap, subst, arith}
use Rattle.std.specs.Prelude.{Option, Some, option_map, unwrap_or, is_some}
use Rattle.std.proofs.lemmas.List.{length-map, length-reverse}
use Rattle.slab.specs.Slab.{get, with_value, ContainsKey}
use Rattle.php_memdef.specs.Numbered.{numbered}
use Rattle.php_memdef.specs.Contents.{Item, value, object, Scope, Mem, no_scope, scope_of, object_of}
use Rattle.php_memdef.specs.Holders.{times, stores_of_item}
use Rattle.php_memdef.specs.Copies.{copier_of, copied_properties}
use Rattle.php_memdef.specs.Places.{nth_item, with_scope}
use Rattle.php_memdef.specs.Temporaries.{pushed, popped, rest_of, top_of, top, with_top, let_fall}
use Rattle.php_memdef.specs.Objects.{OBJECT_LIMIT, with_clone, clone_made, clone_of_top, clone_object}
use Rattle.php_memdef.specs.Alike.{IsRenamed, Alike}
use Rattle.php_memdef_laws.proofs.Alike.Scopes.{pushed-renamed, popped-renamed, let_fall-renamed}
use Rattle.php_memdef_laws.proofs.Held.Parts.{handles_of_item, holders-with_top, handles-with_top, holders-let_fall, handles-let_fall}
use Rattle.php_memplain_cells.specs.declared.block.Block.{Block}
use Rattle.php_memplain_cells.specs.declared.cells.Cells.{Cells}
use Rattle.php_memplain_cells.specs.Seen.{item_seen, scope_seen, stores_seen}
use Rattle.php_memplain_cells.specs.Counts.{count_of_store, count_of_object}
use Rattle.php_memplain_cells.specs.Memory.{memory_seen, IsCounted}
use Rattle.php_memplain_cells.proofs.SlotLemmas.{set_kept, at_same}
use Rattle.php_memplain_cells.proofs.FallingLemmas.{scope_again, scope_twice}
use Rattle.php_memplain_cells.proofs.MemoryLemmas.{scope_there, counted_by}
use Rattle.php_memdef.specs.Sound.{IsClosed}
use Rattle.php_memplain_copy.specs.Walking.{IsWhole}
use Rattle.php_memplain_content.specs.Copies.{IsBack}
use Rattle.php_memplain_objects.specs.Cloning.{IsCloned, IsCloneOnTop}
use Rattle.php_memplain_objects.proofs.MakeLemmas.{room_for_number}

pub same_item : {i j : Item} → Some i ≡ Some j → i ≡ j
same_item e = cc

pub first_is_top : (is : List Item) (i : Item) → nth_item is 0 ≡ Some i → top_of is ≡ i
first_is_top [] i e = absurd cc
first_is_top (j ∷ is) i e = same_item e

pub some_items : (is : List Item) (i : Item) → nth_item is 0 ≡ Some i → 0 < length is
some_items [] i e = absurd cc
some_items (j ∷ is) i e = omega arith

-- a block that has more room for what falls
module _ (s : Cells) (b : ℕ) (f g : Block) (e : get s.blocks b ≡ Some f) (same : scope_seen g ≡ scope_seen f) where
  abbrev mid : Cells
  mid = record s { blocks = with_value s.blocks b g }

  pub room_seen : memory_seen mid ≡ memory_seen s
  room_seen = ap (λ bs. record (memory_seen s) { blocks = bs }) (set_kept scope_seen s.blocks.slots b f g e same)

  room_counted : IsCounted s → IsCounted mid
  room_counted counted = counted_by mid (memory_seen s) [] [] room_seen counted.stores counted.objects

  pub room_whole : IsWhole s → IsWhole mid
  room_whole whole = record {
    counted = room_counted whole.counted;
    closed = subst IsClosed (sym room_seen) whole.closed;
    held = whole.held;
  }

  pub room_back : IsWhole s → IsBack s mid
  room_back whole = record {
    counted = room_counted whole.counted;
    stores = λ k. refl;
    seen = room_seen;
  }

  pub back_from_room : (t : Cells) → IsBack mid t → IsBack s t
  back_from_room t back = record {
    counted = back.counted;
    stores = back.stores;
    seen = back.seen ∙ ap (λ (m : Mem). record m { stores = stores_seen t.stores }) room_seen;
  }

replaced_is : (m : Mem) (b : ℕ) (i j : Item) → with_scope m b (record (scope_of m b) { temps = i ∷ rest_of (scope_of m b).temps; falling = (scope_of m b).falling ++ j ∷ [] }) ≡ with_scope (with_top m b i) b (record (scope_of (with_top m b i) b) { falling = (scope_of (with_top m b i) b).falling ++ j ∷ [] })
replaced_is m b i j =
    let f : Scope = record (scope_of m b) { temps = i ∷ rest_of (scope_of m b).temps } in
    sym (ap (λ (x : Scope). with_scope (with_top m b i) b (record x { falling = x.falling ++ j ∷ [] })) (scope_again m b f)
    ∙ scope_twice m b f (record f { falling = f.falling ++ j ∷ [] }))

swap_is : (m : Mem) (b : ℕ) (i : Item) → pushed (popped m b) b i ≡ with_top m b i
swap_is m b i =
    let f : Scope = record (scope_of m b) { temps = rest_of (scope_of m b).temps } in
    ap (λ (x : Scope). with_scope (popped m b) b (record x { temps = i ∷ x.temps })) (scope_again m b f)
    ∙ scope_twice m b f (record f { temps = i ∷ f.temps })

-- what the model makes of it
abbrev clone_on_top : Mem → ℕ → ℕ → ℕ → Mem
clone_on_top m b h n = let_fall (pushed (popped (with_clone m h (copied_properties (copier_of m) m m.stores (object_of m h).properties)) b) b (value (object n))) b (value (object h))

model_clones : (m : Mem) (b h n : ℕ) → top m b ≡ value (object h) → n ≡ m.next_object → n < OBJECT_LIMIT → clone_object m b ≡ (clone_on_top m b h n, Some n)
unfolding clone_object
model_clones m b h n is number below =
    ap (λ i. clone_of_top i m b) is
    ∙ ap (λ x. clone_made x m b h) (room_for_number m.next_object (subst (λ (k : ℕ). k < OBJECT_LIMIT) number below))
    ∙ ap (λ (k : ℕ). (clone_on_top m b h k, Some k)) (sym number)

module _ (s t w : Cells) (b h n : ℕ) (cloned : IsCloned s h n t) (blocks : t.blocks ≡ s.blocks) (is_top : top (memory_seen s) b ≡ value (object h))
    (onto : memory_seen w ≡ with_scope (memory_seen t) b (record (scope_of (memory_seen t) b) { temps = value (object n) ∷ rest_of (scope_of (memory_seen t) b).temps; falling = (scope_of (memory_seen t) b).falling ++ top_of (scope_of (memory_seen t) b).temps ∷ [] })) where
  top_there : top (memory_seen t) b ≡ value (object h)
  top_there = ap (λ bs. top_of (unwrap_or (numbered (map (option_map scope_seen) bs.slots) b) no_scope).temps) blocks ∙ is_top

  comes : memory_seen w ≡ let_fall (with_top (memory_seen t) b (value (object n))) b (value (object h))
  comes =
      let m = memory_seen t in
      onto
      ∙ ap (λ i. with_scope m b (record (scope_of m b) { temps = value (object n) ∷ rest_of (scope_of m b).temps; falling = (scope_of m b).falling ++ i ∷ [] })) top_there
      ∙ replaced_is m b (value (object n)) (value (object h))

  on_top_counted : w.stores ≡ t.stores → w.objects ≡ t.objects → IsCounted w
  on_top_counted stores objects =
      let m = memory_seen t in
      let p = with_top m b (value (object n)) in
      counted_by w (let_fall p b (value (object h))) [] [] comes
      (λ k. (
      let same : count_of_store w.stores k ≡ count_of_store t.stores k = ap (λ x. count_of_store x k) stores in
      let none : times k (stores_of_item (top m b)) ≡ 0 = ap (λ i. times k (stores_of_item i)) top_there in
      omega (arith, same, none, cloned.counted.stores k, holders-with_top m k b (value (object n)), holders-let_fall p k b (value (object h)))))
      (λ j. (
      let same : count_of_object w.objects.items j ≡ count_of_object t.objects.items j = ap (λ x. count_of_object x j) (ap (λ x. x.items) objects) in
      let it : times j (handles_of_item (top m b)) ≡ times j (h ∷ []) = ap (λ i. times j (handles_of_item i)) top_there in
      omega (arith, same, it, cloned.counted.objects j, handles-with_top m j b (value (object n)), handles-let_fall p j b (value (object h)))))

  on_top_alike : Alike (clone_on_top (memory_seen s) b h n) (memory_seen w)
  on_top_alike =
      let one = popped-renamed cloned.to cloned.back _ _ cloned.renamed b in
      let two = pushed-renamed cloned.to cloned.back _ _ one b (value (object n)) in
      let three = let_fall-renamed cloned.to cloned.back _ _ two b (value (object h)) in
      let same : let_fall (pushed (popped (memory_seen t) b) b (value (object n))) b (value (object h)) ≡ memory_seen w = ap (λ x. let_fall x b (value (object h))) (swap_is (memory_seen t) b (value (object n))) ∙ sym comes in
      record { to = cloned.to; back = cloned.back; renamed = subst (IsRenamed cloned.to cloned.back (clone_on_top (memory_seen s) b h n)) same three }

  pub on_top : (r : Cells) → memory_seen s ≡ memory_seen r → w.stores ≡ t.stores → w.objects ≡ t.objects → IsCloneOnTop r b n w
  on_top r same stores objects =
      let made = model_clones (memory_seen s) b h n is_top cloned.number cloned.below in
      record {
        counted = on_top_counted stores objects;
        alike = subst (λ x. Alike (clone_object x b).0 (memory_seen w)) same (subst (λ (p : Mem × Option ℕ). Alike p.0 (memory_seen w)) (sym made) on_top_alike);
        answer = ap (λ x. (clone_object x b).1) (sym same) ∙ ap (λ (p : Mem × Option ℕ). p.1) made;
      }

-- the block with more room is found again

found_again : {X : Type 0} {x y : X} → Some x ≡ Some y → y ≡ x
found_again e = cc

pub block_again : (s t : Cells) (b : ℕ) (f g found : Block) → get s.blocks b ≡ Some f → t.blocks ≡ with_value s.blocks b g → get t.blocks b ≡ Some found → found ≡ g
block_again s t b f g found e blocks there = found_again (sym (ap (λ bs. get bs b) blocks ∙ at_same s.blocks.slots b f (Some g) e) ∙ there)

pub block_live : (s t : Cells) (b : ℕ) (f g : Block) → get s.blocks b ≡ Some f → t.blocks ≡ with_value s.blocks b g → ContainsKey t.blocks b
block_live s t b f g e blocks = ap is_some (ap (λ bs. get bs b) blocks ∙ at_same s.blocks.slots b f (Some g) e)

-- a temporary is there
pub temps_there : (s : Cells) (b : ℕ) (f g : Block) (i : Item) → get s.blocks b ≡ Some f → scope_seen g ≡ scope_seen f → nth_item (scope_of (memory_seen s) b).temps 0 ≡ Some i → 0 < length g.temps.items
temps_there s b f g i e same first =
    let there : nth_item (scope_seen g).temps 0 ≡ Some i = ap (λ (x : Scope). nth_item x.temps 0) (same ∙ sym (scope_there s b f e)) ∙ first in
    let many : length (scope_seen g).temps ≡ length g.temps.items = length-map (reverse g.temps.items) item_seen ∙ length-reverse g.temps.items in
    omega (arith, many, some_items (scope_seen g).temps i there)
