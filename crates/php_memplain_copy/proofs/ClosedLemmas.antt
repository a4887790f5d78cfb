-- Where the counts are right, each store that is named is there.
use Rattle.std.proofs.Common.{◌≡◌, ℕ, zero, suc, ◌+◌, ◌<◌, ◌≤◌, List, [], ◌∷◌, refl, sym, ◌∙◌, ap, subst, arith}
use Rattle.std.specs.Prelude.{Option, Some, None, option_map, IsSome, is_some}
use Rattle.slab.specs.Slab.{get}
use Rattle.php_memdef.specs.Numbered.{numbered}
use Rattle.php_memdef.specs.Contents.{Content, Scope, Object, Mem}
use Rattle.php_memdef.specs.Holders.{times, stores_of_content, stores_of_object, stores_of_scope, holders}
use Rattle.php_memdef.specs.Sound.{Every, IsLive, IsClosed}
use Rattle.php_memdef_laws.proofs.Closed.Releases.{weight-within}
use Rattle.php_memdef_laws.proofs.Held.Parts.{times-self}
use Rattle.php_memplain_cells.specs.declared.stores.Store.{Store}
use Rattle.php_memplain_cells.specs.declared.cells.Cells.{Cells}
use Rattle.php_memplain_cells.specs.Seen.{store_seen}
use Rattle.php_memplain_cells.specs.Counts.{holders_if, count_of_store}
use Rattle.php_memplain_cells.specs.Memory.{memory_seen, IsCounted}
use Rattle.php_memplain_cells.proofs.SlotLemmas.{at_seen}

-- what holds of each number in a list
pub every_named : (P : ℕ → Type 0) (ss : List ℕ) → ((s : ℕ) → 0 < times s ss → P s) → Every P ss
every_named P [] h = tt
every_named P (x ∷ ss) h = (h x (times-self x ss), every_named P ss (λ s some. h s (omega (arith, some))))

counted_some : (o : Option Store) → 0 < holders_if o → IsSome (option_map store_seen o)
counted_some None h = absurd (omega (arith, h))
counted_some (Some x) h = refl

module _ (s : Cells) (counted : IsCounted s) where
  held_live : (k : ℕ) → 0 < holders (memory_seen s) k → IsLive (memory_seen s) k
  held_live k some = ap is_some (at_seen store_seen s.stores.slots k) ∙ counted_some (get s.stores k) (omega (arith, some, counted.stores k))

  pub counted_closed : IsClosed (memory_seen s)
  unfolding holders
  counted_closed = record {
    stores = λ k c e. every_named (IsLive (memory_seen s)) (stores_of_content c) (λ j some. held_live j (omega (arith, some, weight-within (λ d. times j (stores_of_content d)) (memory_seen s).stores k c e)));
    objects = λ h o e. every_named (IsLive (memory_seen s)) (stores_of_object o) (λ j some. held_live j (omega (arith, some, weight-within (λ d. times j (stores_of_object d)) (memory_seen s).objects h o e)));
    blocks = λ b f e. every_named (IsLive (memory_seen s)) (stores_of_scope f) (λ j some. held_live j (omega (arith, some, weight-within (λ d. times j (stores_of_scope d)) (memory_seen s).blocks b f e)));
    statics = λ i k e. held_live k (let one : 0 < times k (k ∷ []) = times-self k [] in omega (arith, one, weight-within (λ t. times k (t ∷ [])) (memory_seen s).statics i k e));
  }
