-- A copy of an array, element by element, and of the arrays inside it.
use Rattle.std.proofs.Common.{◌≡◌, ℕ, suc, ◌+◌, ◌<◌, List, [], ◌∷◌, ◌++◌, length, refl, sym, ◌∙◌, ap, subst, arith}
use Rattle.std.specs.Prelude.{Bool, true, false, Option, Some, None, IsSome, unwrap_or}
use Rattle.std.proofs.lemmas.List.{append_assoc, append-nil}
use Rattle.slab.specs.Slab.{Slab}
use Rattle.php_entries.specs.Listing.{Entry, Listing, count_of}
use Rattle.php_entries.specs.Changes.{entries_with, with_values}
use Rattle.php_entries.specs.Soundness.{IsSound}
use Rattle.php_memdef.specs.Numbered.{Numbered, numbered}
use Rattle.php_memdef.specs.Contents.{Content, null, array, Mem, content_of}
use Rattle.php_memdef.specs.Holders.{times, stores_of_entries, is_shared}
use Rattle.php_memdef.specs.Sound.{Every, IsLive, IsClosed}
use Rattle.php_memplain_cells.specs.declared.stores.Store.{Store}
use Rattle.php_memplain_cells.specs.Seen.{later, stores_seen}
use Rattle.php_memplain_cells.proofs.LoadLemmas.{later_all}
use Rattle.php_memplain_copy.specs.declared.frame.Frame.{Frame}
use Rattle.php_memplain_copy.specs.Copying.{Puts, One, CopiesStores, CopiesIf, CopiesOne, CopiesContent}
use Rattle.php_memplain_copy.specs.More.{StoresGrown}
use Rattle.php_memplain_copy.specs.Walking.{listing_if, listing_in, left_in, IsThere, HasCome, Waits}

-- the array of a source is as it was
pub listing_kept : (before now : Slab Store) (done : List ℕ) → StoresGrown before now done → (root : Listing ℕ) (source : Option ℕ) → ((s : ℕ) → source ≡ Some s → IsSome (numbered (stores_seen before) s)) → listing_in (stores_seen now) root source ≡ listing_in (stores_seen before) root source
listing_kept before now done g root None there = refl
listing_kept before now done g root (Some s) there = ap (listing_if root) (g.kept s (there s refl))

pub is_there : (m : Mem) (source : Option ℕ) → IsThere m source → (s : ℕ) → source ≡ Some s → IsLive m s
is_there m None h s e = absurd (none e)
  where
    none : None ≡ Some s → ⊥
    none e = cc
is_there m (Some t) h s e = subst (IsLive m) (same e) h
  where
    same : Some t ≡ Some s → t ≡ s
    same e = cc

module _ (one : One) where
  -- one element more
  pub one_more_copied : (ss : List ℕ) (xs : Numbered Content) (vs : List ℕ) (ys : Numbered Content) (s k : ℕ) (zs : Numbered Content) → CopiesStores one ss xs vs ys → one s ys k zs → CopiesStores one (ss ++ s ∷ []) xs (vs ++ k ∷ []) zs
  one_more_copied [] xs vs ys s k zs p q =
      (k, (zs, ([], (subst (λ us. one s us k zs) p.1 q, ((refl, refl), ap (λ us. us ++ k ∷ []) p.0)))))
  one_more_copied (t ∷ ss) xs vs ys s k zs p q =
      let rest = one_more_copied ss p.1.0 p.1.1.0 ys s k zs p.1.1.1.1.0 q in
      (p.0, (p.1.0, (p.1.1.0 ++ k ∷ [], (p.1.1.1.0, (rest, ap (λ us. us ++ k ∷ []) p.1.1.1.1.1)))))

  -- as many copies as there are elements
  pub as_many : (ss : List ℕ) (xs : Numbered Content) (vs : List ℕ) (ys : Numbered Content) → CopiesStores one ss xs vs ys → length vs ≡ length ss
  as_many [] xs vs ys p = ap length p.0
  as_many (s ∷ ss) xs vs ys p = ap length p.1.1.1.1.1 ∙ ap suc (as_many ss p.1.0 p.1.1.0 ys p.1.1.1.1.0)

pub stores_length : (es : List (Entry ℕ)) → length (stores_of_entries es) ≡ length es
stores_length [] = refl
stores_length (e ∷ es) = ap suc (stores_length es)

-- an array over its copies names these
pub names_with : (es : List (Entry ℕ)) (vs : List ℕ) → length vs ≡ length es → stores_of_entries (entries_with es vs) ≡ vs
names_with [] [] e = refl
names_with [] (v ∷ vs) e = absurd (omega (arith, e))
names_with (x ∷ es) [] e = absurd (omega (arith, e))
names_with (x ∷ es) (v ∷ vs) e = ap (λ us. v ∷ us) (names_with es vs (omega (arith, e)))

module _ (m : Mem) (root : Listing ℕ) where
  -- an element is copied
  pub come_on : (f g : Frame) (s k : ℕ) (rest : List ℕ) (began now after : Numbered Content) → HasCome m root f (s ∷ rest) began now → CopiesOne f.levels m s now k after → g.source ≡ f.source → g.levels ≡ f.levels → g.values.items ≡ f.values.items ++ k ∷ [] → HasCome m root g rest began after
  come_on f g s k rest began now after h one source levels values = record {
    there = subst (IsThere m) (sym source) h.there;
    copied = h.copied ++ s ∷ [];
    split = ap (λ o. stores_of_entries (listing_in m.stores root o).entries) source ∙ h.split ∙ sym (append_assoc h.copied (s ∷ []) rest);
    live = h.live.1;
    copies =
        subst (λ n. CopiesStores (CopiesOne n m) (h.copied ++ s ∷ []) began g.values.items after) (sym levels)
        (subst (λ vs. CopiesStores (CopiesOne f.levels m) (h.copied ++ s ∷ []) began vs after) (sym values)
        (one_more_copied (CopiesOne f.levels m) h.copied began f.values.items now s k after h.copies one));
  }

  -- all elements are copied

  module _ (f : Frame) (began now : Numbered Content) (h : HasCome m root f [] began now) where
    all_copied : stores_of_entries (listing_in m.stores root f.source).entries ≡ h.copied
    all_copied = h.split ∙ append-nil h.copied

    pub values_count : length f.values.items ≡ count_of (listing_in m.stores root f.source)
    values_count = as_many (CopiesOne f.levels m) h.copied began f.values.items now h.copies ∙ ap length (sym all_copied) ∙ stores_length (listing_in m.stores root f.source).entries

    pub whole_copied : CopiesContent f.levels m (array (listing_in m.stores root f.source)) began (array (with_values (listing_in m.stores root f.source) f.values.items)) now
    whole_copied = (f.values.items, (subst (λ ss. CopiesStores (CopiesOne f.levels m) ss began f.values.items now) (sym all_copied) h.copies, refl))

  -- the copy of an array inside another one is the copy of its store
  pub inner_copied : (f : Frame) (source : Option ℕ) (levels : ℕ) (began now after : Numbered Content) (w : Waits m root f source levels began now) (zs : Numbered Content) (d : Content) (k : ℕ)
      → CopiesContent levels m (array (listing_in m.stores root source)) now d zs → Puts zs k d after → CopiesOne f.levels m w.store now k after
  inner_copied f source levels began now after w zs d k copies put =
      let its : listing_in m.stores root source ≡ w.elements = ap (listing_in m.stores root) w.is_source ∙ ap (listing_if root) w.is_array in
      let content : content_of m w.store ≡ array w.elements = ap (λ o. unwrap_or o null) w.is_array in
      let one : CopiesContent levels m (content_of m w.store) now d zs = subst (λ c. CopiesContent levels m c now d zs) (ap array its ∙ sym content) copies in
      subst (λ n. CopiesOne n m w.store now k after) (sym w.is_inside)
      (subst (λ b. CopiesIf b (CopiesOne levels m) m w.store now k after) (sym w.is_alone) (d, (zs, (one, put))))

  -- of an array nothing is copied yet
  pub come_to : (f : Frame) (now : Numbered Content) → IsThere m f.source → IsSound (listing_in m.stores root f.source) → Every (IsLive m) (stores_of_entries (listing_in m.stores root f.source).entries) → f.passed ≡ 0 → f.values.items ≡ [] → HasCome m root f (left_in m.stores root f) now now
  come_to f now there sound live passed values =
      let t = listing_in m.stores root f.source in
      let all : later f.passed t.entries ≡ t.entries = ap (λ p. later p t.entries) passed ∙ later_all 0 t.entries t.next_serial sound.serials_rise in
      record {
        there = there;
        copied = [];
        split = ap stores_of_entries (sym all);
        live = subst (λ es. Every (IsLive m) (stores_of_entries es)) (sym all) live;
        copies = (values, refl);
      }
