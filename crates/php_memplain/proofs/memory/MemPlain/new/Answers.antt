use Rattle.std.proofs.Common.{◌≡◌, ℕ, zero, suc, ◌+◌, [], ◌∷◌, length, map, refl, sym, ◌∙◌, ap, subst}
use Rattle.std.specs.Prelude.{None, option_map}
use Rattle.php_memdef.specs.Numbered.{numbered}
use Rattle.php_memdef.specs.Contents.{Mem, fresh}
use Rattle.php_memdef.specs.Holders.{holders, object_holders}
use Rattle.php_memdef.specs.Sound.{IsClosed}
use Rattle.php_memdef.specs.Alike.{Alike}
use Rattle.php_memdef.specs.Rest.{IsFresh}
use Rattle.php_memdef_laws.proofs.Alike.Memories.{Alike-sym}
use Rattle.php_memdef_laws.proofs.FreshLemmas.{fresh-sound, fresh-alike}
use Rattle.php_memplain_cells.specs.declared.cells.Cells.{Cells}
use Rattle.php_memplain_cells.specs.Seen.{store_seen, scope_seen, box_seen}
use Rattle.php_memplain_cells.specs.Counts.{count_of_store, count_of_object}
use Rattle.php_memplain_cells.specs.Memory.{memory_seen, IsCounted}
use Rattle.php_memplain_cells.proofs.MemoryLemmas.{counted_by}
use Rattle.php_memplain.proofs.memory.MemPlain.new.Goals as goal

abbrev blank : Mem
blank = record { stores = []; objects = None ∷ []; blocks = []; statics = []; next_object = 1 }

no_objects : (h : ℕ) → numbered blank.objects h ≡ None
no_objects zero = refl
no_objects (suc h) = refl

blank_fresh : IsFresh blank
blank_fresh = record { stores = λ s. refl; objects = no_objects; blocks = λ b. refl; statics = λ i. refl; next_object = refl }

nothing_counted : (h : ℕ) → count_of_object [] h ≡ 0
nothing_counted zero = refl
nothing_counted (suc h) = refl

module _ (s : Cells) (stores : s.stores.slots ≡ []) (objects : s.objects.items ≡ []) (blocks : s.blocks.slots ≡ []) (statics : s.statics.items ≡ []) where
  blank_seen : memory_seen s ≡ blank
  blank_seen =
      ap (λ xs. record (memory_seen s) { stores = map (option_map store_seen) xs }) stores
      ∙ ap (λ os. record { stores = []; objects = None ∷ map (option_map box_seen) os; blocks = (memory_seen s).blocks; statics = (memory_seen s).statics; next_object = length os + 1 }) objects
      ∙ ap (λ xs. record { stores = []; objects = None ∷ []; blocks = map (option_map scope_seen) xs; statics = (memory_seen s).statics; next_object = 1 }) blocks
      ∙ ap (λ xs. record { stores = []; objects = None ∷ []; blocks = []; statics = xs; next_object = 1 }) statics

  blank_counted : IsCounted s
  unfolding holders object_holders
  blank_counted = counted_by s blank [] [] blank_seen (λ k. ap (λ xs. count_of_store (record s.stores { slots = xs }) k) stores) (λ h. ap (λ os. count_of_object os h) objects ∙ nothing_counted h)

pub returns-clause-fresh : goal.returns-clause-fresh
returns-clause-fresh c =
    let s : Cells = record { alloc = c.args.alloc; stores = c.new.result; objects = c.new-2.result; blocks = c.new-3.result; statics = c.new-4.result; ledger = record { made = 0 } } in
    let seen = blank_seen s c.new.ensures.empty c.new-2.ensures.items c.new-3.ensures.empty c.new-4.ensures.items in
    record {
      counted = blank_counted s c.new.ensures.empty c.new-2.ensures.items c.new-3.ensures.empty c.new-4.ensures.items;
      closed = subst IsClosed (sym seen) (fresh-sound blank blank_fresh).closed;
      alike = subst (λ n. Alike n fresh) (sym seen) (Alike-sym fresh blank (fresh-alike blank blank_fresh));
      sound = fresh-sound fresh (record { stores = λ s. refl; objects = λ h. refl; blocks = λ b. refl; statics = λ i. refl; next_object = refl });
    }
