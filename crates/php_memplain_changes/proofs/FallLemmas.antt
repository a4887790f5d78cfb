-- A store that was taken out falls.
use Rattle.std.proofs.Common.{◌≡◌, ◌<◌, ℕ, [], ◌∷◌, refl, sym, ◌∙◌, ap, subst, arith}
use Rattle.std.specs.Prelude.{Option, Some, None, option_map, IsSome}
use Rattle.std.specs.VecDeque.{deque_len, deque_capacity}
use Rattle.slab.specs.Slab.{Slab, get, ContainsKey}
use Rattle.php_memdef.specs.Contents.{Mem, link}
use Rattle.php_memdef.specs.Temporaries.{let_fall}
use Rattle.php_memdef.specs.Writes.{let_fall_if}
use Rattle.php_memdef_laws.proofs.Held.Parts.{holders-let_fall, handles-let_fall}
use Rattle.php_memplain_cells.specs.declared.block.Block.{Block}
use Rattle.php_memplain_cells.specs.declared.cells.Cells.{Cells}
use Rattle.php_memplain_cells.specs.Counts.{count_of_store, count_of_object}
use Rattle.php_memplain_cells.specs.Memory.{memory_seen, IsCounted, IsCountedWith}
use Rattle.php_memplain_cells.proofs.MemoryLemmas.{counted_by}
use Rattle.php_memplain_changes.specs.Standing.{HasWaitingRoom, CanFallIn, AreWaitingKept}
use Rattle.php_memplain_changes.specs.Taken.{Takes, Becomes}
use Rattle.php_memplain_changes.proofs.SwapLemmas.{none_some, same_some}

module _ (s t : Cells) (st : t.stores ≡ s.stores) (os : t.objects ≡ s.objects) where
  same_stores : (k : ℕ) → count_of_store t.stores k ≡ count_of_store s.stores k
  same_stores k = ap (λ x. count_of_store x k) st

  same_objects : (h : ℕ) → count_of_object t.objects.items h ≡ count_of_object s.objects.items h
  same_objects h = ap (λ x. count_of_object x.items h) os

  -- a memory that looks as before
  pub counted_same : memory_seen t ≡ memory_seen s → IsCounted s → IsCounted t
  counted_same seen counted =
      counted_by t (memory_seen s) [] [] seen
      (λ k. same_stores k ∙ counted.stores k)
      (λ h. same_objects h ∙ counted.objects h)

pub link_fallen : (s t : Cells) (b x : ℕ) → t.stores ≡ s.stores → t.objects ≡ s.objects → memory_seen t ≡ let_fall (memory_seen s) b (link x) → IsCountedWith s (x ∷ []) [] → IsCounted t
link_fallen s t b x st os seen counted =
    counted_by t (let_fall (memory_seen s) b (link x)) [] [] seen
    (λ k. omega (arith, same_stores s t st os k, counted.stores k, holders-let_fall (memory_seen s) k b (link x)))
    (λ h. omega (arith, same_objects s t st os h, counted.objects h, handles-let_fall (memory_seen s) h b (link x)))

-- a block in which the same waits is there still, and has the same room

pub block_stays : (old new : Slab Block) (b : ℕ) → AreWaitingKept old new → ContainsKey old b → ContainsKey new b
block_stays old new b kept there = behind (get new b) (subst (λ o. IsSome o) (sym (kept b)) (before (get old b) there))
  where
    before : (o : Option Block) → IsSome o → IsSome (option_map (λ (f : Block). f.waiting) o)
    before None h = h
    before (Some f) h = refl

    behind : (o : Option Block) → IsSome (option_map (λ (f : Block). f.waiting) o) → IsSome o
    behind None h = h
    behind (Some f) h = refl

pub room_stays : (old new : Slab Block) (b : ℕ) → CanFallIn old b → AreWaitingKept old new → CanFallIn new b
room_stays old new b room kept g e = by_old (get old b) refl
  where
    by_old : (o : Option Block) → get old b ≡ o → HasWaitingRoom g
    by_old None f = absurd (none_some (sym (ap (option_map (λ (x : Block). x.waiting)) f) ∙ sym (kept b) ∙ ap (option_map (λ (x : Block). x.waiting)) e))
    by_old (Some x) f =
        let same : x.waiting ≡ g.waiting = same_some (sym (ap (option_map (λ (y : Block). y.waiting)) f) ∙ sym (kept b) ∙ ap (option_map (λ (y : Block). y.waiting)) e) in
        let place : HasWaitingRoom x = room x f in
        subst (λ w. deque_len w < deque_capacity w) same place

-- room was made, something was taken out, and it fell
pub taken_fell : (r s t u : Cells) (b : ℕ) (taken : Option ℕ) (after : ℕ → Mem) → Takes s t taken after → memory_seen u ≡ let_fall_if (memory_seen t) b taken → IsCounted u → Becomes u (after b)
taken_fell r s t u b taken after takes fell counted = record { seen = fell ∙ takes.seen b; counted = counted }
