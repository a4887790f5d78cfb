-- A call that does what the operation does, for each memory that is meant.
use Rattle.std.proofs.Common.{◌≡◌, [], sym, ◌∙◌, ap, subst}
use Rattle.php_memdef.specs.Contents.{Mem}
use Rattle.php_memdef.specs.Sound.{IsClosed}
use Rattle.php_memdef.specs.Alike.{Alike}
use Rattle.php_memdef.specs.Operations.{Operation, Can, Answer, run, effect, answer}
use Rattle.php_memdef.specs.Meanings.{SomeMeant, Keeps, Does, Answers}
use Rattle.php_memdef_laws.proofs.Alike.Memories.{Alike-refl, Alike-sym, Alike-trans}
use Rattle.php_memdef_laws.proofs.Alike.Operations.{run-alike, Can-alike}
use Rattle.php_memdef_laws.proofs.Held.Operations.{effect-sound}
use Rattle.php_memplain_cells.specs.Counts.{count_of_store, count_of_object}
use Rattle.php_memplain_cells.specs.Memory.{memory_seen, IsCounted}
use Rattle.php_memplain_cells.proofs.MemoryLemmas.{counted_by}
use Rattle.php_memplain_copy.proofs.SameLemmas.{SameAt, same_alike}
use Rattle.php_memplain_copy.proofs.ClosedLemmas.{counted_closed}
use Rattle.php_memplain.specs.declared.memory.MemPlain.{MemPlain}
use Rattle.php_memplain.specs.Means.{Means}

-- what may be done on a memory that is meant may be done on the one that is seen
pub able : (s : MemPlain) (o : Operation) → SomeMeant (Means s) (Can o) → Can o (memory_seen s.cells)
able s o h = Can-alike o h.0 (memory_seen s.cells) (Alike-sym (memory_seen s.cells) h.0 h.1.alike) h.2

module _ (s t : MemPlain) (o : Operation) (can : Can o (memory_seen s.cells)) (counted : IsCounted t.cells) where
  -- what is seen differs in the numbers of stores alone from what the operation makes of what was seen
  pub meant_alike : Alike (effect o (memory_seen s.cells)) (memory_seen t.cells) → (m : Mem) → Means s m → Means t (effect o m)
  meant_alike a m means = record {
    counted = counted;
    closed = counted_closed t.cells counted;
    alike =
        Alike-trans (memory_seen t.cells) (effect o (memory_seen s.cells)) (effect o m)
        (Alike-sym (effect o (memory_seen s.cells)) (memory_seen t.cells) a)
        (run-alike o (memory_seen s.cells) m means.closed means.alike).0;
    sound = effect-sound o m means.sound (Can-alike o (memory_seen s.cells) m means.alike can);
  }

  pub meant_after : SameAt (effect o (memory_seen s.cells)) (memory_seen t.cells) → (m : Mem) → Means s m → Means t (effect o m)
  meant_after same = meant_alike (same_alike (effect o (memory_seen s.cells)) (memory_seen t.cells) same)

  pub does : memory_seen t.cells ≡ effect o (memory_seen s.cells) → Does (Means s) (Means t) (effect o)
  does seen = meant_alike (subst (Alike (effect o (memory_seen s.cells))) (sym seen) (Alike-refl (effect o (memory_seen s.cells))))

  -- the same of a call with an answer
  pub answers_alike : (r : Answer o) → Alike (effect o (memory_seen s.cells)) (memory_seen t.cells) → r ≡ answer o (memory_seen s.cells) → Answers (Means s) (Means t) r (run o)
  answers_alike r a is m means = (meant_alike a m means, is ∙ sym (run-alike o (memory_seen s.cells) m means.closed means.alike).1)

  pub answers : (r : Answer o) → run o (memory_seen s.cells) ≡ (memory_seen t.cells, r) → Answers (Means s) (Means t) r (run o)
  answers r is =
      answers_alike r
      (subst (Alike (effect o (memory_seen s.cells))) (ap (λ p. p.0) is) (Alike-refl (effect o (memory_seen s.cells))))
      (sym (ap (λ p. p.1) is))

-- a memory that differs in the numbers of stores alone, with right counts, is taken for what it was taken for
pub kept_alike : (s t : MemPlain) → IsCounted t.cells → Alike (memory_seen s.cells) (memory_seen t.cells) → Keeps (Means s) (Means t)
kept_alike s t counted a m means = record {
  counted = counted;
  closed = counted_closed t.cells counted;
  alike = Alike-trans (memory_seen t.cells) (memory_seen s.cells) m (Alike-sym (memory_seen s.cells) (memory_seen t.cells) a) means.alike;
  sound = means.sound;
}

-- a memory that shows what it showed is taken for what it was taken for
pub kept : (s t : MemPlain) → memory_seen t.cells ≡ memory_seen s.cells → t.cells.stores ≡ s.cells.stores → t.cells.objects ≡ s.cells.objects → Keeps (Means s) (Means t)
kept s t seen st os m means = record {
  counted =
      counted_by t.cells (memory_seen s.cells) [] [] seen
      (λ k. ap (λ x. count_of_store x k) st ∙ means.counted.stores k)
      (λ h. ap (λ x. count_of_object x h) (ap (λ x. x.items) os) ∙ means.counted.objects h);
  closed = subst IsClosed (sym seen) means.closed;
  alike = subst (λ n. Alike n m) (sym seen) means.alike;
  sound = means.sound;
}
