-- A slab of stores in which one slot changed.
use Rattle.std.proofs.Common.{◌≡◌, ◌≢◌, ℕ, ◌+◌, [], ◌∷◌, refl, sym, ◌∙◌, ap, arith, inl, inr, cond}
use Rattle.std.specs.Prelude.{Option, Some, None, option_map}
use Rattle.std.proofs.lemmas.Bool.Decides.{eqb_tells}
use Rattle.slab.specs.Slab.{Slab, get, Updates}
use Rattle.php_memdef.specs.Holders.{times}
use Rattle.php_memplain_cells.specs.declared.stores.Store.{Store}
use Rattle.php_memplain_cells.specs.Seen.{content_seen, store_seen, stores_seen}
use Rattle.php_memplain_cells.specs.Counts.{holders_if, count_of_store}
use Rattle.php_memplain_cells.proofs.SlotLemmas.{at_seen}
use Rattle.php_memplain_copy.specs.Copying.{Puts}
use Rattle.php_memplain_copy.specs.More.{AreMore}

module _ (s t : Slab Store) (k : ℕ) (x : Store) (u : Updates s t k (Some x)) where
  pub puts : get s k ≡ None → Puts (stores_seen s) k (content_seen x.content) (stores_seen t)
  puts free = record {
    free = at_seen store_seen s.slots k ∙ ap (option_map store_seen) free;
    there = at_seen store_seen t.slots k ∙ ap (option_map store_seen) u.changed;
    others = λ j ne. at_seen store_seen t.slots j ∙ ap (option_map store_seen) (u.others j ne) ∙ sym (at_seen store_seen s.slots j);
  }

  -- one holder more than what stood there
  pub one_more : count_of_store s k + 1 ≡ x.holders → AreMore s t (k ∷ [])
  one_more h j = elim (eqb_tells j k) [
    | inl e ↦ (
        let one : times j (k ∷ []) ≡ 1 = ap (λ b. cond b 1 0 + 0) e.0 in
        let new : count_of_store t j ≡ x.holders = ap (count_of_store t) e.1 ∙ ap holders_if u.changed in
        let old : count_of_store s j ≡ count_of_store s k = ap (count_of_store s) e.1 in
        omega (arith, one, new, old, h))
    | inr e ↦ (
        let none : times j (k ∷ []) ≡ 0 = ap (λ b. cond b 1 0 + 0) e.0 in
        let new : count_of_store t j ≡ count_of_store s j = ap holders_if (u.others j e.1) in
        omega (arith, none, new))
  ]
