-- A block that is made under a free number.
use Rattle.std.proofs.Common.{◌≡◌, ℕ, sym, ◌∙◌, ap, arith, inl, inr}
use Rattle.std.specs.Prelude.{Some, None, option_map, unwrap_or}
use Rattle.std.proofs.lemmas.Bool.Decides.{eqb_tells}
use Rattle.slab.specs.Slab.{get, Updates}
use Rattle.php_memdef.specs.Numbered.{numbered, with_numbered}
use Rattle.php_memdef.specs.Contents.{Scope, no_scope, scope_of}
use Rattle.php_memdef.specs.Holders.{times, stores_of_scope, handles_of_scope}
use Rattle.php_memdef.specs.Temporaries.{enter}
use Rattle.php_memdef_laws.proofs.NumberedLemmas.{numbered-with_same, numbered-with_other}
use Rattle.php_memdef_laws.proofs.Held.Parts.{holders-with_scope, handles-with_scope}
use Rattle.php_memplain_cells.specs.declared.block.Block.{Block}
use Rattle.php_memplain_cells.specs.declared.cells.Cells.{Cells}
use Rattle.php_memplain_cells.specs.Seen.{scope_seen}
use Rattle.php_memplain_cells.specs.Counts.{count_of_store, count_of_object}
use Rattle.php_memplain_cells.specs.Memory.{memory_seen, IsCounted}
use Rattle.php_memplain_cells.proofs.SlotLemmas.{at_seen}
use Rattle.php_memplain_copy.proofs.SameLemmas.{SameAt, same_holders, same_handles}

module _ (s : Cells) (t : Cells) (k n : ℕ) (f : Block) (free : get s.blocks k ≡ None) (u : Updates s.blocks t.blocks k (Some f)) (is : scope_seen f ≡ record no_scope { room = n }) (st : t.stores ≡ s.stores) (os : t.objects ≡ s.objects) (is_static : t.statics ≡ s.statics) where
  abbrev empty : Scope
  empty = record no_scope { room = n }

  pub free_seen : numbered (memory_seen s).blocks k ≡ None
  free_seen = at_seen scope_seen s.blocks.slots k ∙ ap (option_map scope_seen) free

  blocks_same : (b : ℕ) → numbered (memory_seen t).blocks b ≡ numbered (with_numbered (memory_seen s).blocks k (Some empty)) b
  blocks_same b = elim (eqb_tells b k) [
    | inl e ↦ ap (numbered (memory_seen t).blocks) e.1 ∙ at_seen scope_seen t.blocks.slots k ∙ ap (option_map scope_seen) u.changed ∙ ap Some is ∙ sym (numbered-with_same (memory_seen s).blocks k (Some empty)) ∙ ap (numbered (with_numbered (memory_seen s).blocks k (Some empty))) (sym e.1)
    | inr e ↦ at_seen scope_seen t.blocks.slots b ∙ ap (option_map scope_seen) (u.others b e.1) ∙ sym (at_seen scope_seen s.blocks.slots b) ∙ sym (numbered-with_other (memory_seen s).blocks k b (Some empty) e.1)
  ]

  pub entered_same : SameAt (enter (memory_seen s) k n) (memory_seen t)
  unfolding enter
  entered_same = record {
    stores = λ i. ap (λ x. numbered (memory_seen (record s { stores = x })).stores i) st;
    objects = λ h. ap (λ x. numbered (memory_seen (record s { objects = x })).objects h) os;
    blocks = blocks_same;
    statics = λ i. ap (λ x. numbered (memory_seen (record s { statics = x })).statics i) is_static;
    next_object = ap (λ x. (memory_seen (record s { objects = x })).next_object) os;
  }

  pub entered_counted : IsCounted s → IsCounted t
  unfolding enter
  entered_counted counted = record {
    stores = λ j. (
        let nothing : times j (stores_of_scope (scope_of (memory_seen s) k)) ≡ 0 = ap (λ o. times j (stores_of_scope (unwrap_or o no_scope))) free_seen in
        let same : count_of_store t.stores j ≡ count_of_store s.stores j = ap (λ x. count_of_store x j) st in
        omega (arith, same, nothing, counted.stores j, holders-with_scope (memory_seen s) j k empty, same_holders (enter (memory_seen s) k n) (memory_seen t) entered_same j));
    objects = λ h. (
        let nothing : times h (handles_of_scope (scope_of (memory_seen s) k)) ≡ 0 = ap (λ o. times h (handles_of_scope (unwrap_or o no_scope))) free_seen in
        let same : count_of_object t.objects.items h ≡ count_of_object s.objects.items h = ap (λ x. count_of_object x h) (ap (λ x. x.items) os) in
        omega (arith, same, nothing, counted.objects h, handles-with_scope (memory_seen s) h k empty, same_handles (enter (memory_seen s) k n) (memory_seen t) entered_same h));
  }
