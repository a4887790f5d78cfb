-- Chains of new stores, and the model's walk along what is missing.
use Rattle.std.proofs.Common.{◌≡◌, ◌≢◌, ℕ, List, [], ◌∷◌, refl, sym, ◌∙◌, ap, inl, inr}
use Rattle.std.specs.Prelude.{Option, Some, None, unwrap_or}
use Rattle.std.proofs.lemmas.Bool.Decides.{eqb_tells}
use Rattle.php_entries.specs.Listing.{Listing, no_entries}
use Rattle.php_entries.specs.Changes.{Grown, set_value, append_value}
use Rattle.php_memdef.specs.declared.place.Step.{Step}
use Rattle.php_memdef.specs.declared.place.Step.TheVariants.{At, Push}
use Rattle.php_memdef.specs.Numbered.{Numbered, numbered, with_numbered, with_next}
use Rattle.php_memdef.specs.Contents.{Content, null, array, Mem}
use Rattle.php_memdef.specs.Places.{stored, with_content, with_new_store, new_store_number, elements_to_write, step_set, reached, element_made, element_to_write, step_in_elements, walk_step, walk_along}
use Rattle.php_memdef_laws.proofs.NumberedLemmas.{numbered-with_same, numbered-with_other, numbered-length, with_next-numbered}
use Rattle.php_memplain_copy.specs.Copying.{Puts}
use Rattle.php_memplain_writes.specs.Chains.{AreAlso, PutsElement, ChainTo, NewChain}
use Rattle.php_memplain_writes.proofs.WayLemmas.{none_some, nothing_there}

-- an array without entries can grow by any step
pub record OneElement (step : Step) (k : ℕ) : Type 0 where
  pub elements : Listing ℕ
  pub is : step_set no_entries step k ≡ Grown elements

pub one_element : (step : Step) (k : ℕ) → OneElement step k
unfolding set_value append_value
one_element (At key) k = record { elements = _; is = refl }
one_element Push k = record { elements = _; is = refl }

-- a content is put beside something that is there

pub put_not : (xs ys : Numbered Content) (k : ℕ) (d : Content) → Puts xs k d ys → (s : ℕ) (c : Content) → numbered xs s ≡ Some c → s ≢ k
put_not xs ys k d p s c there e = none_some (sym p.free ∙ ap (numbered xs) (sym e) ∙ there)

pub put_beside : (xs ys : Numbered Content) (k : ℕ) (d : Content) → Puts xs k d ys → (s : ℕ) (c : Content) → numbered xs s ≡ Some c → numbered ys s ≡ Some c
put_beside xs ys k d p s c there = p.others s (put_not xs ys k d p s c there) ∙ there

-- whatever is put under another number on both sides
pub put_aside : (xs ys : Numbered Content) (k : ℕ) (d : Content) → Puts xs k d ys → (s : ℕ) → s ≢ k → (o : Option Content) → Puts (with_numbered xs s o) k d (with_numbered ys s o)
put_aside xs ys k d p s ne o = record {
  free = numbered-with_other xs s k o (λ e. ne (sym e)) ∙ p.free;
  there = numbered-with_other ys s k o (λ e. ne (sym e)) ∙ p.there;
  others = λ j apart. elim (eqb_tells j s) [
    | inl e ↦ ap (numbered (with_numbered ys s o)) e.1 ∙ numbered-with_same ys s o ∙ sym (ap (numbered (with_numbered xs s o)) e.1 ∙ numbered-with_same xs s o)
    | inr e ↦ numbered-with_other ys s j o e.1 ∙ p.others j apart ∙ sym (numbered-with_other xs s j o e.1)
  ];
}

pub put_before : (us xs ys : Numbered Content) (k : ℕ) (d : Content) → AreAlso us xs → Puts xs k d ys → Puts us k d ys
put_before us xs ys k d same p = record {
  free = sym (same k) ∙ p.free;
  there = p.there;
  others = λ j apart. p.others j apart ∙ same j;
}

also_aside : (xs ys : Numbered Content) → AreAlso xs ys → (s : ℕ) (o : Option Content) → AreAlso (with_numbered xs s o) (with_numbered ys s o)
also_aside xs ys same s o j = elim (eqb_tells j s) [
  | inl e ↦ ap (numbered (with_numbered ys s o)) e.1 ∙ numbered-with_same ys s o ∙ sym (ap (numbered (with_numbered xs s o)) e.1 ∙ numbered-with_same xs s o)
  | inr e ↦ numbered-with_other ys s j o e.1 ∙ same j ∙ sym (numbered-with_other xs s j o e.1)
]

pub element_aside : (xs ys : Numbered Content) (k : ℕ) (step : Step) (element : ℕ) → PutsElement xs k step element ys → (s : ℕ) → s ≢ k → (o : Option Content) → PutsElement (with_numbered xs s o) k step element (with_numbered ys s o)
element_aside xs ys k step element p s ne o = record { elements = p.elements; is = p.is; puts = put_aside xs ys k (array p.elements) p.puts s ne o }

pub chain_beside : (path : List Step) (xs : Numbered Content) (leaf : ℕ) (ys : Numbered Content) (top : ℕ) → ChainTo xs leaf path ys top → (s : ℕ) (c : Content) → numbered xs s ≡ Some c → numbered ys s ≡ Some c
chain_beside [] xs leaf ys top p s c there = p.1 s ∙ there
chain_beside (step ∷ path) xs leaf ys top p s c there =
    let q = p.1.1.1 in
    put_beside p.1.0 ys top (array q.elements) q.puts s c (chain_beside path xs leaf p.1.0 p.0 p.1.1.0 s c there)

pub chain_aside : (path : List Step) (xs : Numbered Content) (leaf : ℕ) (ys : Numbered Content) (top : ℕ) → ChainTo xs leaf path ys top → (s : ℕ) (c : Content) → numbered xs s ≡ Some c → (o : Option Content) → ChainTo (with_numbered xs s o) leaf path (with_numbered ys s o) top
chain_aside [] xs leaf ys top p s c there o = (p.0, also_aside xs ys p.1 s o)
chain_aside (step ∷ path) xs leaf ys top p s c there o =
    let q = p.1.1.1 in
    let here = chain_beside path xs leaf p.1.0 p.0 p.1.1.0 s c there in
    (p.0, (with_numbered p.1.0 s o, (chain_aside path xs leaf p.1.0 p.0 p.1.1.0 s c there o, element_aside p.1.0 ys top step p.0 q s (put_not p.1.0 ys top (array q.elements) q.puts s c here) o)))

-- what the model's walk makes of a store with null and a path
pub record NewWay (m : Mem) (l : ℕ) (path : List Step) : Type 0 where
  pub leaf : ℕ
  pub stores : Numbered Content
  pub walks : walk_along (reached m (stored l)) path ≡ reached (record m { stores = stores }) (stored leaf)
  pub made : NewChain (with_numbered m.stores l None) path stores l leaf

pub new_way : (path : List Step) (m : Mem) (l : ℕ) → numbered m.stores l ≡ Some null → NewWay m l path
new_way [] m l there = record {
  leaf = l;
  stores = m.stores;
  walks = refl;
  made = record {
    first = m.stores;
    puts = record {
      free = numbered-with_same m.stores l None;
      there = there;
      others = λ j apart. sym (numbered-with_other m.stores l j None apart);
    };
    chain = (refl, λ j. refl);
  };
}
new_way (step ∷ path) m l there =
    let k = new_store_number m in
    let one = one_element step k in
    let c = array one.elements in
    let m2 : Mem = with_content (with_new_store m null) (stored l) c in
    let apart : l ≢ k = λ e. none_some (sym (numbered-length m.stores) ∙ ap (numbered m.stores) (sym e) ∙ there) in
    let next_there : (j : ℕ) → j ≢ l → numbered m2.stores j ≡ numbered (with_numbered m.stores k (Some null)) j = λ j ne. numbered-with_other (with_next m.stores null) l j (Some c) ne ∙ ap (λ xs. numbered xs j) (with_next-numbered m.stores null) in
    let new_there : numbered m2.stores k ≡ Some null = next_there k (λ e. apart (sym e)) ∙ numbered-with_same m.stores k (Some null) in
    let old_there : numbered m2.stores l ≡ Some c = numbered-with_same (with_next m.stores null) l (Some c) in
    let rest = new_way path m2 k new_there in
    let n = rest.made in
    let without : numbered (with_numbered m2.stores k None) l ≡ Some c = numbered-with_other m2.stores k l None apart ∙ old_there in
    let ne_leaf = put_not (with_numbered m2.stores k None) n.first rest.leaf null n.puts l c without in
    let first_there = put_beside (with_numbered m2.stores k None) n.first rest.leaf null n.puts l c without in
    let top_there = chain_beside path n.first rest.leaf rest.stores k n.chain l c first_there in
    let also : AreAlso (with_numbered m.stores l None) (with_numbered (with_numbered m2.stores k None) l None) = λ j. elim (eqb_tells j l) [
      | inl e ↦ ap (numbered (with_numbered (with_numbered m2.stores k None) l None)) e.1 ∙ numbered-with_same (with_numbered m2.stores k None) l None ∙ sym (ap (numbered (with_numbered m.stores l None)) e.1 ∙ numbered-with_same m.stores l None)
      | inr e ↦ numbered-with_other (with_numbered m2.stores k None) l j None e.1 ∙ elim (eqb_tells j k) [
        | inl d ↦ ap (numbered (with_numbered m2.stores k None)) d.1 ∙ numbered-with_same m2.stores k None ∙ sym (numbered-with_other m.stores l j None e.1 ∙ ap (numbered m.stores) d.1 ∙ numbered-length m.stores)
        | inr d ↦ numbered-with_other m2.stores k j None d.1 ∙ next_there j e.1 ∙ numbered-with_other m.stores k j (Some null) d.1 ∙ sym (numbered-with_other m.stores l j None e.1)
      ]
    ] in
    record {
      leaf = rest.leaf;
      stores = rest.stores;
      walks = ap (λ w. walk_along w path) (goes one c refl) ∙ rest.walks;
      made = record {
        first = with_numbered n.first l None;
        puts = put_before (with_numbered m.stores l None) (with_numbered (with_numbered m2.stores k None) l None) (with_numbered n.first l None) rest.leaf null also (put_aside (with_numbered m2.stores k None) n.first rest.leaf null n.puts l ne_leaf None);
        chain = (
          k,
          (
            with_numbered rest.stores l None,
            (
              chain_aside path n.first rest.leaf rest.stores k n.chain l c first_there None,
              record {
                elements = one.elements;
                is = one.is;
                puts = record {
                  free = numbered-with_same rest.stores l None;
                  there = top_there;
                  others = λ j ne. sym (numbered-with_other rest.stores l j None ne);
                };
              },
            ),
          ),
        );
      };
    }
  where
    goes : (one : OneElement step (new_store_number m)) (c : Content) → c ≡ array one.elements → walk_step (reached m (stored l)) step ≡ reached (with_content (with_new_store m null) (stored l) c) (stored (new_store_number m))
    goes one c e =
        ap (λ o. step_in_elements (elements_to_write (unwrap_or o null)) m (stored l) step) there
        ∙ ap (λ o. element_to_write o no_entries m (stored l) step) (nothing_there step)
        ∙ ap (λ g. element_made g m (stored l)) one.is
        ∙ ap (λ d. reached (with_content (with_new_store m null) (stored l) d) (stored (new_store_number m))) (sym e)
