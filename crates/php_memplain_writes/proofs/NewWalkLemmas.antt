-- The model's walk where something is missing: a chain of new stores is made, and then hung up.
use Rattle.std.proofs.Common.{◌≡◌, ◌≢◌, ℕ, List, ◌∷◌, length, refl, sym, ◌∙◌, ap, inl, inr}
use Rattle.std.specs.Prelude.{Option, Some, None}
use Rattle.std.proofs.lemmas.Bool.Decides.{eqb_tells}
use Rattle.php_entries.specs.Listing.{Listing}
use Rattle.php_entries.specs.Changes.{Grown}
use Rattle.php_memdef.specs.declared.place.PropName.{PropName}
use Rattle.php_memdef.specs.declared.place.Base.{Base}
use Rattle.php_memdef.specs.declared.place.Base.TheVariants.{Var, Property as OfObject, Static, Temp}
use Rattle.php_memdef.specs.declared.place.Step.{Step}
use Rattle.php_memdef.specs.Numbered.{Numbered, numbered, with_numbered, with_next}
use Rattle.php_memdef.specs.Contents.{Content, null, array, Mem, scope_of, object_of}
use Rattle.php_memdef.specs.Places.{Spot, stored, standing, content_at, with_content, with_new_store, new_store_number, variable_store, property_store, stored_if, base_spot, elements_to_write, next_spot, step_set, reached, element_made, walk_along, variable_to_write, property_to_write, static_to_write, base_to_write, walk}
use Rattle.php_memdef_laws.proofs.NumberedLemmas.{numbered-with_same, numbered-with_other, numbered-length, with_next-numbered}
use Rattle.php_memdef_laws.proofs.Closed.Parts.{IsSpotLive}
use Rattle.php_memplain_cells.proofs.SlotLemmas.{with_same, with_twice}
use Rattle.php_memplain_cells.proofs.MemoryLemmas.{found_some}
use Rattle.php_memplain_writes.specs.Chains.{AreAlso, NewChain}
use Rattle.php_memplain_writes.specs.Reached.{IsNoTemp, with_base}
use Rattle.php_memplain_writes.proofs.WayLemmas.{none_some, element_needed}
use Rattle.php_memplain_writes.proofs.ChainLemmas.{put_not, put_beside, put_aside, put_before, chain_beside, chain_aside, new_way}
use Rattle.php_memplain_writes.proofs.AgreeLemmas.{with_stores_of}

new_before : (us xs ys : Numbered Content) (path : List Step) (top leaf : ℕ) → AreAlso us xs → NewChain xs path ys top leaf → NewChain us path ys top leaf
new_before us xs ys path top leaf same n = record { first = n.first; puts = put_before us xs n.first leaf null same n.puts; chain = n.chain }

-- under the next number there is nothing, before a store is put there and after it is taken away
next_also : (xs ys : Numbered Content) → ys ≡ with_next xs null → AreAlso xs (with_numbered ys (length xs) None)
next_also xs ys e j = elim (eqb_tells j (length xs)) [
  | inl d ↦ ap (numbered (with_numbered ys (length xs) None)) d.1 ∙ numbered-with_same ys (length xs) None ∙ sym (ap (numbered xs) d.1 ∙ numbered-length xs)
  | inr d ↦ numbered-with_other ys (length xs) j None d.1 ∙ ap (λ zs. numbered zs j) (e ∙ with_next-numbered xs null) ∙ numbered-with_other xs (length xs) j (Some null) d.1
]

next_there : (xs ys : Numbered Content) → ys ≡ with_next xs null → numbered ys (length xs) ≡ Some null
next_there xs ys e = ap (λ zs. numbered zs (length xs)) (e ∙ with_next-numbered xs null) ∙ numbered-with_same xs (length xs) (Some null)

-- a base that is missing

base_stores : (base : Base) (m : Mem) (s : ℕ) → (with_base base m s).stores ≡ m.stores
base_stores (Var b n) m s = refl
base_stores (OfObject h p) m s = refl
base_stores (Static i) m s = refl
base_stores (Temp b n) m s = refl

base_with : (base : Base) (m : Mem) (s : ℕ) (xs : Numbered Content) → with_stores_of (with_base base m s) xs ≡ with_base base (with_stores_of m xs) s
base_with (Var b n) m s xs = refl
base_with (OfObject h p) m s xs = refl
base_with (Static i) m s xs = refl
base_with (Temp b n) m s xs = refl

module _ (m : Mem) where
  variable_new : (o : Option ℕ) (b n : ℕ) → stored_if o ≡ None → variable_to_write o m b n ≡ variable_to_write None m b n
  variable_new None b n e = refl
  variable_new (Some s) b n e = absurd (none_some (sym e))

  property_new : (o : Option ℕ) (h : ℕ) (p : PropName) → stored_if o ≡ None → property_to_write o m h p ≡ property_to_write None m h p
  property_new None h p e = refl
  property_new (Some s) h p e = absurd (none_some (sym e))

  static_new : (o : Option ℕ) (i : ℕ) → stored_if o ≡ None → static_to_write o m i ≡ static_to_write None m i
  static_new None i e = refl
  static_new (Some s) i e = absurd (none_some (sym e))

  base_new : (base : Base) → IsNoTemp base → base_spot m base ≡ None → base_to_write m base ≡ reached (with_base base (with_new_store m null) (new_store_number m)) (stored (new_store_number m))
  base_new (Var b n) h e = variable_new (variable_store (scope_of m b.0).variables n.0) b.0 n.0 e
  base_new (OfObject k p) h e = property_new (property_store (object_of m k.0).properties p) k.0 p e
  base_new (Static i) h e = static_new (numbered m.statics i.0) i.0 e
  base_new (Temp b n) h e = absurd h

-- a walk that makes a chain for a path, and hangs it up
pub record WalksNew (m : Mem) (base : Base) (path rest : List Step) (hung : Mem → ℕ → Mem) : Type 0 where
  pub top : ℕ
  pub leaf : ℕ
  pub stores : Numbered Content
  pub top_is : top ≡ new_store_number m
  pub walks : walk m base path ≡ reached (hung (with_stores_of m stores) top) (stored leaf)
  pub made : NewChain m.stores rest stores top leaf

pub base_walk : (m : Mem) (base : Base) → IsNoTemp base → base_spot m base ≡ None → (path : List Step) → WalksNew m base path path (with_base base)
unfolding walk
base_walk m base no_temp e path =
    let l = new_store_number m in
    let m1 = with_base base (with_new_store m null) l in
    let is = base_stores base (with_new_store m null) l in
    let w = new_way path m1 l (next_there m.stores m1.stores is) in
    record {
      top = l;
      leaf = w.leaf;
      stores = w.stores;
      top_is = refl;
      walks = ap (λ x. walk_along x path) (base_new m base no_temp e) ∙ w.walks ∙ ap (λ n. reached n (stored w.leaf)) (base_with base (with_new_store m null) l w.stores);
      made = new_before m.stores (with_numbered m1.stores l None) w.stores path l w.leaf (next_also m.stores m1.stores is) w.made;
    }

-- a step that leads nowhere

record ElementWay (m : Mem) (spot : Spot) (rest : List Step) (u : Listing ℕ) : Type 0 where
  leaf : ℕ
  stores : Numbered Content
  walks : walk_along (reached (with_content (with_new_store m null) spot (array u)) (stored (new_store_number m))) rest ≡ reached (with_content (with_stores_of m stores) spot (array u)) (stored leaf)
  made : NewChain m.stores rest stores (new_store_number m) leaf

element_way : (m : Mem) (spot : Spot) → IsSpotLive m spot → (rest : List Step) (u : Listing ℕ) → ElementWay m spot rest u
element_way m (standing b n) live rest u =
    let l = new_store_number m in
    let m1 = with_content (with_new_store m null) (standing b n) (array u) in
    let w = new_way rest m1 l (next_there m.stores m1.stores refl) in
    record {
      leaf = w.leaf;
      stores = w.stores;
      walks = w.walks;
      made = new_before m.stores (with_numbered m1.stores l None) w.stores rest l w.leaf (next_also m.stores m1.stores refl) w.made;
    }
element_way m (stored s) live rest u =
    let l = new_store_number m in
    let found = found_some (numbered m.stores s) live in
    let c = found.0 in
    let m1 = with_content (with_new_store m null) (stored s) (array u) in
    let apart : l ≢ s = λ e. none_some (sym (numbered-length m.stores) ∙ ap (numbered m.stores) e ∙ found.1) in
    let new_there : numbered m1.stores l ≡ Some null = numbered-with_other (with_next m.stores null) s l (Some (array u)) apart ∙ next_there m.stores (with_next m.stores null) refl in
    let w = new_way rest m1 l new_there in
    let n = w.made in
    let without = with_numbered m1.stores l None in
    let s_there : numbered without s ≡ Some (array u) = numbered-with_other m1.stores l s None (λ e. apart (sym e)) ∙ numbered-with_same (with_next m.stores null) s (Some (array u)) in
    let first_there = put_beside without n.first w.leaf null n.puts s (array u) s_there in
    let last_there = chain_beside rest n.first w.leaf w.stores l n.chain s (array u) first_there in
    let back = with_numbered w.stores s (Some c) in
    let also : AreAlso m.stores (with_numbered without s (Some c)) = λ j. elim (eqb_tells j s) [
      | inl e ↦ ap (numbered (with_numbered without s (Some c))) e.1 ∙ numbered-with_same without s (Some c) ∙ sym (ap (numbered m.stores) e.1 ∙ found.1)
      | inr e ↦ numbered-with_other without s j (Some c) e.1 ∙ elim (eqb_tells j l) [
        | inl d ↦ ap (numbered without) d.1 ∙ numbered-with_same m1.stores l None ∙ sym (ap (numbered m.stores) d.1 ∙ numbered-length m.stores)
        | inr d ↦ numbered-with_other m1.stores l j None d.1 ∙ numbered-with_other (with_next m.stores null) s j (Some (array u)) e.1 ∙ ap (λ xs. numbered xs j) (with_next-numbered m.stores null) ∙ numbered-with_other m.stores l j (Some null) d.1
      ]
    ] in
    record {
      leaf = w.leaf;
      stores = back;
      walks = w.walks ∙ ap (λ xs. reached (with_stores_of m xs) (stored w.leaf)) (sym (with_twice w.stores s (Some c) (Some (array u)) ∙ with_same w.stores s (array u) last_there));
      made = record {
        first = with_numbered n.first s (Some c);
        puts = put_before m.stores (with_numbered without s (Some c)) (with_numbered n.first s (Some c)) w.leaf null also (put_aside without n.first w.leaf null n.puts s (put_not without n.first w.leaf null n.puts s (array u) s_there) (Some c));
        chain = chain_aside rest n.first w.leaf w.stores l n.chain s (array u) first_there (Some c);
      };
    }

pub element_walk : (m : Mem) (base : Base) (path : List Step) (spot : Spot) → IsSpotLive m spot → (step : Step) (rest : List Step) → walk m base path ≡ walk_along (reached m spot) (step ∷ rest) → (t : Listing ℕ) → elements_to_write (content_at m spot) ≡ Some t → next_spot m (Some spot) step ≡ None → (u : Listing ℕ) → step_set t step (new_store_number m) ≡ Grown u → WalksNew m base path rest (λ n s. with_content n spot (array u))
element_walk m base path spot live step rest goes t e f u grown =
    let w = element_way m spot live rest u in
    record {
      top = new_store_number m;
      leaf = w.leaf;
      stores = w.stores;
      top_is = refl;
      walks = goes ∙ ap (λ x. walk_along x rest) (element_needed m spot step t e f ∙ ap (λ g. element_made g m spot) grown) ∙ w.walks;
      made = w.made;
    }
