-- What the writes come to.
use Rattle.std.proofs.Common.{◌≡◌, ◌<◌, ℕ, [], refl, sym, ◌∙◌, ap, subst, arith}
use Rattle.std.specs.Prelude.{Option, Some, None, option_map, IsSome}
use Rattle.std.specs.VecDeque.{deque_len, deque_capacity}
use Rattle.slab.specs.Slab.{Slab, get}
use Rattle.php_memdef.specs.declared.place.Place.{Place}
use Rattle.php_memdef.specs.declared.answer.Wrote.{Wrote}
use Rattle.php_memdef.specs.declared.answer.Wrote.TheVariants.{Done}
use Rattle.php_memdef.specs.Numbered.{numbered}
use Rattle.php_memdef.specs.Contents.{Mem, link}
use Rattle.php_memdef.specs.Places.{Spot, stored, reached, stopped, walk}
use Rattle.php_memdef.specs.Sound.{IsClosed}
use Rattle.php_memdef.specs.Temporaries.{pushed, top}
use Rattle.php_memdef.specs.Writes.{moved_in, assign, make_link}
use Rattle.php_memdef.specs.Alike.{Alike}
use Rattle.php_memplain_cells.specs.declared.block.Block.{Block}
use Rattle.php_memplain_cells.specs.declared.cells.Cells.{Cells}
use Rattle.php_memplain_cells.specs.Seen.{stores_seen}
use Rattle.php_memplain_cells.specs.Counts.{count_of_store, count_of_object, AreSameHandles}
use Rattle.php_memplain_cells.specs.Memory.{memory_seen, IsCounted}
use Rattle.php_memplain_cells.proofs.MemoryLemmas.{counted_by}
use Rattle.php_memplain_copy.specs.Walking.{IsWhole, with_stores}
use Rattle.php_memplain_copy.proofs.SameLemmas.{SameAt, same_alike}
use Rattle.php_memplain_content.specs.Copies.{IsBack}
use Rattle.php_memplain_writes.specs.Standing.{AreWaitingKept}
use Rattle.php_memplain_writes.specs.Moving.{HasFallingPlace, FallsIn}
use Rattle.php_memplain_writes.specs.Reached.{Reaches}
use Rattle.php_memplain_writes.specs.Comes.{ComesTo}
use Rattle.php_memplain_writes.proofs.WayLemmas.{none_some}
use Rattle.php_memplain_writes.proofs.ReachLemmas.{reaches_there, assign_done, assign_refused, link_done, link_refused}

-- a memory that looks as before

module _ (s t : Cells) (seen : memory_seen t ≡ memory_seen s) (st : t.stores ≡ s.stores) (os : t.objects ≡ s.objects) where
  same_count : (k : ℕ) → count_of_store t.stores k ≡ count_of_store s.stores k
  same_count k = ap (λ x. count_of_store x k) st

  pub counted_same : IsCounted s → IsCounted t
  counted_same counted =
      counted_by t (memory_seen s) [] [] seen
      (λ k. same_count k ∙ counted.stores k)
      (λ h. ap (λ x. count_of_object x h) (ap (λ x. x.items) os) ∙ counted.objects h)

  pub whole_same : IsWhole s → IsWhole t
  whole_same whole = record {
    counted = counted_same whole.counted;
    closed = subst IsClosed (sym seen) whole.closed;
    held = λ k live. (let there = whole.held k (subst (λ (m : Mem). IsSome (numbered m.stores k)) seen live) in omega (arith, there, same_count k));
  }

  pub back_same : IsWhole s → IsBack s t
  back_same whole = record {
    counted = counted_same whole.counted;
    stores = λ k. ap (λ (m : Mem). numbered m.stores k) seen;
    seen = seen ∙ ap (with_stores s) (ap stores_seen (sym st));
  }

pub back_from : (r s t : Cells) → memory_seen s ≡ memory_seen r → IsBack s t → IsBack r t
back_from r s t seen back = record {
  counted = back.counted;
  stores = λ k. back.stores k ∙ ap (λ (m : Mem). numbered m.stores k) seen;
  seen = back.seen ∙ ap (λ (m : Mem). record m { stores = stores_seen t.stores }) seen;
}

pub back_alike : (s t : Cells) → IsBack s t → Alike (memory_seen s) (memory_seen t)
back_alike s t back = same_alike (memory_seen s) (memory_seen t) same
  where
    same : SameAt (memory_seen s) (memory_seen t)
    same = record {
      stores = back.stores;
      objects = λ h. ap (λ (x : Mem). numbered x.objects h) back.seen;
      blocks = λ b. ap (λ (x : Mem). numbered x.blocks b) back.seen;
      statics = λ i. ap (λ (x : Mem). numbered x.statics i) back.seen;
      next_object = ap (λ (x : Mem). x.next_object) back.seen;
    }

-- the place for what falls stays
pub falls_kept : (old new : Slab Block) (b : ℕ) → FallsIn old b → AreWaitingKept old new → FallsIn new b
falls_kept old new b falls kept g e = by_old (get old b) refl
  where
    same_some : {X : Type 0} {x y : X} → Some x ≡ Some y → x ≡ y
    same_some e = cc

    by_old : (o : Option Block) → get old b ≡ o → HasFallingPlace g
    by_old None f = absurd (none_some (sym (ap (option_map (λ (x : Block). x.waiting)) f) ∙ sym (kept b) ∙ ap (option_map (λ (x : Block). x.waiting)) e))
    by_old (Some x) f =
        let same : x.waiting ≡ g.waiting = same_some (sym (ap (option_map (λ (x : Block). x.waiting)) f) ∙ sym (kept b) ∙ ap (option_map (λ (x : Block). x.waiting)) e) in
        let place : HasFallingPlace x = falls x f in
        subst (λ w. deque_len w < deque_capacity w) same place

-- the writes

module _ (m : Mem) (s : Cells) (seen : memory_seen s ≡ m) (b : ℕ) (p : Place) where
  pub assigned : (t u : Cells) (spot : Spot) → Reaches (memory_seen s) p.base p.path (memory_seen t) spot → IsCounted u → memory_seen u ≡ moved_in (top (memory_seen t) b) (memory_seen t) b spot → ComesTo u (assign m b p) Done
  assigned t u spot r counted is =
      let a = assign_done (memory_seen s) b p (memory_seen t) spot r in
      subst (λ n. ComesTo u (assign n b p) Done) seen
      (record { counted = counted; alike = subst (Alike (assign (memory_seen s) b p).0) (sym is) a.alike; same = sym a.answer })

  pub not_assigned : (t : Cells) (why : Wrote) → walk (memory_seen s) p.base p.path ≡ stopped why → IsBack s t → ComesTo t (assign m b p) why
  not_assigned t why e back =
      subst (λ n. ComesTo t (assign n b p) why) seen
      (subst (λ r. ComesTo t r why) (sym (assign_refused (memory_seen s) b p why e)) (record { counted = back.counted; alike = back_alike s t back; same = refl }))

  pub linked : (t u : Cells) (k : ℕ) → Reaches (memory_seen s) p.base p.path (memory_seen t) (stored k) → IsCounted u → memory_seen u ≡ pushed (memory_seen t) b (link k) → ComesTo u (make_link m b p) Done
  linked t u k r counted is =
      let a = link_done (memory_seen s) b p (memory_seen t) k r in
      subst (λ n. ComesTo u (make_link n b p) Done) seen
      (record { counted = counted; alike = subst (Alike (make_link (memory_seen s) b p).0) (sym is) a.alike; same = sym a.answer })

  pub not_linked : (t : Cells) (why : Wrote) → walk (memory_seen s) p.base p.path ≡ stopped why → IsBack s t → ComesTo t (make_link m b p) why
  not_linked t why e back =
      subst (λ n. ComesTo t (make_link n b p) why) seen
      (subst (λ r. ComesTo t r why) (sym (link_refused (memory_seen s) b p why e)) (record { counted = back.counted; alike = back_alike s t back; same = refl }))

  -- the place was there
  pub found_assigned : (t u : Cells) (spot : Spot) → walk (memory_seen s) p.base p.path ≡ reached (memory_seen s) spot → t ≡ s → IsCounted u → memory_seen u ≡ moved_in (top (memory_seen t) b) (memory_seen t) b spot → ComesTo u (assign m b p) Done
  found_assigned t u spot walks same counted is =
      assigned t u spot (subst (λ (x : Cells). Reaches (memory_seen s) p.base p.path (memory_seen x) spot) (sym same) (reaches_there (memory_seen s) p.base p.path spot walks)) counted is

  pub found_linked : (t u : Cells) (k : ℕ) → walk (memory_seen s) p.base p.path ≡ reached (memory_seen s) (stored k) → t ≡ s → IsCounted u → memory_seen u ≡ pushed (memory_seen t) b (link k) → ComesTo u (make_link m b p) Done
  found_linked t u k walks same counted is =
      linked t u k (subst (λ (x : Cells). Reaches (memory_seen s) p.base p.path (memory_seen x) (stored k)) (sym same) (reaches_there (memory_seen s) p.base p.path (stored k) walks)) counted is

-- the same where objects have as many holders as before
pub back_seen : (s t : Cells) → memory_seen t ≡ memory_seen s → t.stores ≡ s.stores → AreSameHandles s.objects.items t.objects.items → IsWhole s → IsBack s t
back_seen s t seen st same whole = record {
  counted =
      counted_by t (memory_seen s) [] [] seen
      (λ k. ap (λ x. count_of_store x k) st ∙ whole.counted.stores k)
      (λ h. same h ∙ whole.counted.objects h);
  stores = λ k. ap (λ (m : Mem). numbered m.stores k) seen;
  seen = seen ∙ ap (with_stores s) (ap stores_seen (sym st));
}
