use Rattle.std.proofs.Common.{◌≡◌, ℕ, ◌+◌, ◌<◌, List, [], ◌∷◌, ◌++◌, length, map, refl, sym, ◌∙◌, ap, arith}
use Rattle.std.specs.Prelude.{true, false, Option, Some, None, Box, unwrap_or}
use Rattle.std.specs.declared.alloc.Global.{Global}
use Rattle.std.specs.Global.{Vec}
use Rattle.slab.specs.Slab.{get, with_value}
use Rattle.php_memdef.specs.declared.answer.Fallen.TheVariants.{Destroy, Frame as FrameOf}
use Rattle.php_memdef.specs.Numbered.{numbered, with_numbered}
use Rattle.php_memdef.specs.Contents as model
use Rattle.php_memdef.specs.Contents.{Item, value, object, Mem, scope_of, object_of, no_object}
use Rattle.php_memdef.specs.Places.{with_object}
use Rattle.php_memdef.specs.Temporaries.{with_falling}
use Rattle.php_memdef.specs.Releases.{goes_on, stops, property_links, handle_dropped, object_released, object_removed, is_object_held}
use Rattle.php_memplain_cells.specs.declared.block.Block.{Block}
use Rattle.php_memplain_cells.specs.declared.load.Property.{Property}
use Rattle.php_memplain_cells.specs.declared.load.Load.{Load}
use Rattle.php_memplain_cells.specs.declared.load.Load.TheVariants.{Properties}
use Rattle.php_memplain_cells.specs.declared.objects.Object.{Object}
use Rattle.php_memplain_cells.specs.declared.cells.Cells.{Cells}
use Rattle.php_memplain_cells.specs.Seen.{item_seen, property_seen, loads_items, handle_items, objects_seen, scope_seen, block_falling}
use Rattle.php_memplain_cells.specs.Counts.{count_of_object, AreFewerHandles, AreSameHandles}
use Rattle.php_memplain_cells.specs.Dropped.{is_due}
use Rattle.php_memplain_cells.specs.Memory.{memory_seen, falling_in, IsCounted, IsCountedWith}
use Rattle.php_memplain_cells.proofs.FirstLemmas.{joined_thrice}
use Rattle.php_memplain_cells.proofs.FallingLemmas.{falling_same, falling_twice, object_held_true, object_held_false, times_one, back_holders, back_handles, without_it, without_holders, without_handles}
use Rattle.php_memplain_cells.proofs.MemoryLemmas.{block_there, scope_there, falls_put, found_some, counted_by}
use Rattle.php_memplain_cells.proofs.cells.Cells.release_handle.Goals as goal

-- a handle that is put in front of all else, where there is none
handle_back : (f : Block) (h : ℕ) → f.handle ≡ None → scope_seen (record f { handle = Some h }) ≡ record (scope_seen f) { falling = value (object h) ∷ block_falling f }
handle_back f h e = ap (λ x. record (scope_seen f) { falling = value (object h) ∷ (handle_items x ++ (loads_items f.loads ++ map item_seen f.waiting.items)) }) (sym e)

properties_fall : (f : Block) (ps : Vec Property) → f.handle ≡ None → (ls : List Load) → ls ≡ Properties ps 0 ∷ f.loads → scope_seen (record f { loads = ls }) ≡ record (scope_seen f) { falling = property_links (map property_seen ps.items) ++ block_falling f }
properties_fall f ps e ls d =
    ap (λ x. record (scope_seen f) { falling = handle_items f.handle ++ (loads_items x ++ map item_seen f.waiting.items) }) d
    ∙ ap (λ x. record (scope_seen f) { falling = handle_items x ++ ((property_links (map property_seen ps.items) ++ loads_items f.loads) ++ map item_seen f.waiting.items) }) e
    ∙ ap (λ xs. record (scope_seen f) { falling = xs }) (joined_thrice (property_links (map property_seen ps.items)) (loads_items f.loads) (map item_seen f.waiting.items))
    ∙ ap (λ x. record (scope_seen f) { falling = property_links (map property_seen ps.items) ++ (handle_items x ++ (loads_items f.loads ++ map item_seen f.waiting.items)) }) (sym e)

-- the handle of h was taken from in front of what falls in block b
module _ (s : Cells) (b h : ℕ) (f : Block) (e : get s.blocks b ≡ Some f) (counted : IsCountedWith s [] (h ∷ [])) (v : Vec (Option (Box Object Global))) (len : length v.items ≡ length s.objects.items) where
  abbrev whole : Mem
  whole = with_falling (memory_seen s) b (value (object h) ∷ falling_in s b)

  -- the memory with other objects
  abbrev changed : Cells
  changed = record s { objects = v }

  changed_seen : memory_seen changed ≡ record (memory_seen s) { objects = objects_seen v.items }
  changed_seen = ap (λ n. record (memory_seen s) { objects = objects_seen v.items; next_object = n + 1 }) len

  module _ (more : 1 < count_of_object s.objects.items h) (same : objects_seen v.items ≡ objects_seen s.objects.items) (fewer : AreFewerHandles s.objects.items v.items h) where
    held_seen : memory_seen changed ≡ memory_seen s
    held_seen = changed_seen ∙ ap (λ xs. record (memory_seen s) { objects = xs }) same

    held_turn : handle_dropped (is_object_held (memory_seen s) h) (object_of (memory_seen s) h) whole b (falling_in s b) h ≡ goes_on (memory_seen changed)
    held_turn =
        ap (λ x. handle_dropped x (object_of (memory_seen s) h) whole b (falling_in s b) h) (object_held_true (memory_seen s) h (omega (arith, more, counted.objects h, times_one h)))
        ∙ ap goes_on (falling_twice (memory_seen s) b (value (object h) ∷ falling_in s b) (falling_in s b) ∙ falling_same (memory_seen s) b (scope_seen f) (block_there s b f e) (falling_in s b) refl ∙ sym held_seen)

    held_counted : IsCounted changed
    held_counted = counted_by changed (memory_seen s) [] [] held_seen counted.stores (λ j. omega (arith, fewer j, counted.objects j))

  -- the last holder falls

  module _ (last : count_of_object s.objects.items h ≡ 1) (o : model.Object) (there : numbered (objects_seen s.objects.items) h ≡ Some o) where
    object_is : object_of (memory_seen s) h ≡ o
    object_is = ap (λ x. unwrap_or x no_object) there

    released : handle_dropped (is_object_held (memory_seen s) h) (object_of (memory_seen s) h) whole b (falling_in s b) h ≡ object_released (is_due o) o whole b (falling_in s b) h
    released =
        ap (λ x. handle_dropped x (object_of (memory_seen s) h) whole b (falling_in s b) h) (object_held_false (memory_seen s) h (omega (arith, last, counted.objects h, times_one h)))
        ∙ ap (λ (x : model.Object). object_released (is_due x) x whole b (falling_in s b) h) object_is

    -- it stays, changed, and its handle comes back
    module _ (p : model.Object) (after : objects_seen v.items ≡ with_numbered (objects_seen s.objects.items) h (Some p)) (same : p.properties ≡ o.properties) (counts : AreSameHandles s.objects.items v.items) (g : Block) (falls : scope_seen g ≡ record (scope_seen f) { falling = value (object h) ∷ block_falling f }) where
      abbrev back : Cells
      back = record changed { blocks = with_value s.blocks b g }

      back_seen : memory_seen back ≡ with_object whole h p
      back_seen =
          falls_put changed b f e g (value (object h) ∷ block_falling f) falls
          ∙ ap (λ n. with_falling n b (value (object h) ∷ block_falling f)) (changed_seen ∙ ap (λ xs. record (memory_seen s) { objects = xs }) after)
          ∙ ap (λ (x : model.Scope). with_object (with_falling (memory_seen s) b (value (object h) ∷ x.falling)) h p) (sym (scope_there s b f e))

      back_counted : IsCounted back
      back_counted =
          let kept : p.properties ≡ (object_of (memory_seen s) h).properties = same ∙ ap (λ (x : model.Object). x.properties) (sym object_is) in
          counted_by back (with_object whole h p) [] [] back_seen
          (λ k. omega (arith, counted.stores k, back_holders (memory_seen s) b h p kept k))
          (λ j. omega (arith, counts j, counted.objects j, back_handles (memory_seen s) b h p kept j))

    -- it goes, and its properties fall
    module _ (ps : List Property) (after : objects_seen v.items ≡ with_numbered (objects_seen s.objects.items) h None) (properties : o.properties ≡ map property_seen ps) (fewer : AreFewerHandles s.objects.items v.items h) (g : Block) (falls : scope_seen g ≡ record (scope_seen f) { falling = property_links (map property_seen ps) ++ block_falling f }) where
      abbrev left : Cells
      left = record changed { blocks = with_value s.blocks b g }

      left_seen : memory_seen left ≡ without_it (memory_seen s) b h
      left_seen =
          falls_put changed b f e g (property_links (map property_seen ps) ++ block_falling f) falls
          ∙ ap (λ n. with_falling n b (property_links (map property_seen ps) ++ block_falling f)) (changed_seen ∙ ap (λ xs. record (memory_seen s) { objects = xs }) after)
          ∙ ap (λ xs. with_falling (record (memory_seen s) { objects = with_numbered (objects_seen s.objects.items) h None }) b (property_links xs ++ block_falling f)) (sym properties ∙ ap (λ (x : model.Object). x.properties) (sym object_is))
          ∙ ap (λ (x : model.Scope). with_falling (record (memory_seen s) { objects = with_numbered (objects_seen s.objects.items) h None }) b (property_links (object_of (memory_seen s) h).properties ++ x.falling)) (sym (scope_there s b f e))

      left_counted : IsCounted left
      left_counted =
          counted_by left (without_it (memory_seen s) b h) [] [] left_seen
          (λ k. omega (arith, counted.stores k, without_holders (memory_seen s) b h k))
          (λ j. omega (arith, fewer j, counted.objects j, without_handles (memory_seen s) b h j))

      left_turn : is_due o ≡ false → o.frame ≡ None → object_released (is_due o) o whole b (falling_in s b) h ≡ goes_on (memory_seen left)
      left_turn due frame =
          ap (λ x. object_released x o whole b (falling_in s b) h) due
          ∙ ap (λ x. object_removed x o whole b (falling_in s b) h) frame
          ∙ ap (λ (n : Mem). goes_on (record n { objects = with_numbered (memory_seen s).objects h None })) (falling_twice (memory_seen s) b (value (object h) ∷ falling_in s b) (property_links o.properties ++ falling_in s b))
          ∙ ap (λ (x : model.Object). goes_on (with_falling (record (memory_seen s) { objects = with_numbered (memory_seen s).objects h None }) b (property_links x.properties ++ falling_in s b))) (sym object_is)
          ∙ ap goes_on (sym left_seen)

pub returns-in-Held-clause-turn : goal.returns-in-Held-clause-turn
returns-in-Held-clause-turn c =
    let s = c.args.self.now in
    let f = found_some (get s.blocks c.args.block) c.requires.block in
    let q = c.in-Held.ensures.dropped in
    held_turn s c.args.block c.args.number f.0 f.1 c.requires.counted c.drop_handle.new.objects c.in-Held.ensures.len q.0 q.1.0 q.1.1

pub returns-in-Held-clause-counted : goal.returns-in-Held-clause-counted
returns-in-Held-clause-counted c =
    let s = c.args.self.now in
    let f = found_some (get s.blocks c.args.block) c.requires.block in
    let q = c.in-Held.ensures.dropped in
    held_counted s c.args.block c.args.number f.0 f.1 c.requires.counted c.drop_handle.new.objects c.in-Held.ensures.len q.0 q.1.0 q.1.1

pub returns-in-Due-clause-turn : goal.returns-in-Due-clause-turn
returns-in-Due-clause-turn c =
    let s = c.args.self.now in
    let b = c.args.block in
    let h = c.args.number in
    let f = c.index_mut.result.now in
    let e = c.index_mut.ensures.value in
    let q = c.in-Due.ensures.dropped in
    let o = q.1.1.0 in
    let v = c.drop_handle.new.objects in
    let len = c.in-Due.ensures.len in
    let counted = c.requires.counted in
    let back = back_seen s b h f e counted v len q.0 o q.1.1.1.0.there (record o { spent = true }) q.1.1.1.0.after_it refl q.1.0 _ (handle_back f h (c.requires.handle f e)) in
    released s b h f e counted v len q.0 o q.1.1.1.0.there
    ∙ ap (λ x. object_released x o (with_falling (memory_seen s) b (value (object h) ∷ falling_in s b)) b (falling_in s b) h) q.1.1.1.1
    ∙ ap (λ n. stops n (Destroy (record { 0 = h }))) (sym back)

pub returns-in-Due-clause-counted : goal.returns-in-Due-clause-counted
returns-in-Due-clause-counted c =
    let s = c.args.self.now in
    let h = c.args.number in
    let f = c.index_mut.result.now in
    let e = c.index_mut.ensures.value in
    let q = c.in-Due.ensures.dropped in
    let o = q.1.1.0 in
    back_counted s c.args.block h f e c.requires.counted c.drop_handle.new.objects c.in-Due.ensures.len q.0 o q.1.1.1.0.there (record o { spent = true }) q.1.1.1.0.after_it refl q.1.0 _ (handle_back f h (c.requires.handle f e))

pub returns-in-Framed-clause-turn : goal.returns-in-Framed-clause-turn
returns-in-Framed-clause-turn c =
    let s = c.args.self.now in
    let b = c.args.block in
    let h = c.args.number in
    let f = c.index_mut-in-Framed.result.now in
    let e = c.index_mut-in-Framed.ensures.value in
    let q = c.in-Framed.ensures.dropped in
    let o = q.1.1.0 in
    let v = c.drop_handle.new.objects in
    let len = c.in-Framed.ensures.len in
    let counted = c.requires.counted in
    let w = with_falling (memory_seen s) b (value (object h) ∷ falling_in s b) in
    let back = back_seen s b h f e counted v len q.0 o q.1.1.1.0.there (record o { frame = None }) q.1.1.1.0.after_it refl q.1.0 _ (handle_back f h (c.requires.handle f e)) in
    released s b h f e counted v len q.0 o q.1.1.1.0.there
    ∙ ap (λ x. object_released x o w b (falling_in s b) h) q.1.1.1.1.0
    ∙ ap (λ x. object_removed x o w b (falling_in s b) h) q.1.1.1.1.1
    ∙ ap (λ n. stops n (FrameOf (record { 0 = c.in-Framed.frame }))) (sym back)

pub returns-in-Framed-clause-counted : goal.returns-in-Framed-clause-counted
returns-in-Framed-clause-counted c =
    let s = c.args.self.now in
    let h = c.args.number in
    let f = c.index_mut-in-Framed.result.now in
    let e = c.index_mut-in-Framed.ensures.value in
    let q = c.in-Framed.ensures.dropped in
    let o = q.1.1.0 in
    back_counted s c.args.block h f e c.requires.counted c.drop_handle.new.objects c.in-Framed.ensures.len q.0 o q.1.1.1.0.there (record o { frame = None }) q.1.1.1.0.after_it refl q.1.0 _ (handle_back f h (c.requires.handle f e))

pub returns-in-Gone-clause-turn : goal.returns-in-Gone-clause-turn
returns-in-Gone-clause-turn c =
    let s = c.args.self.now in
    let b = c.args.block in
    let h = c.args.number in
    let f = c.index_mut-in-Gone.result.now in
    let e = c.index_mut-in-Gone.ensures.value in
    let q = c.in-Gone.ensures.dropped in
    let o = q.1.1.0 in
    let t = q.1.1.1.0 in
    let v = c.drop_handle.new.objects in
    let len = c.in-Gone.ensures.len in
    let counted = c.requires.counted in
    released s b h f e counted v len q.0 o t.there
    ∙ left_turn s b h f e counted v len q.0 o t.there c.in-Gone.properties.items t.after_it q.1.1.1.1.1.1 q.1.0 _ (properties_fall f c.in-Gone.properties (c.requires.handle f e) _ c.push.ensures) q.1.1.1.1.0 q.1.1.1.1.1.0

pub returns-in-Gone-clause-counted : goal.returns-in-Gone-clause-counted
returns-in-Gone-clause-counted c =
    let s = c.args.self.now in
    let f = c.index_mut-in-Gone.result.now in
    let e = c.index_mut-in-Gone.ensures.value in
    let q = c.in-Gone.ensures.dropped in
    let o = q.1.1.0 in
    let t = q.1.1.1.0 in
    left_counted s c.args.block c.args.number f e c.requires.counted c.drop_handle.new.objects c.in-Gone.ensures.len q.0 o t.there c.in-Gone.properties.items t.after_it q.1.1.1.1.1.1 q.1.0 _ (properties_fall f c.in-Gone.properties (c.requires.handle f e) _ c.push.ensures)
