-- A clone against the model's.
use Rattle.std.proofs.Common.{◌≡◌, ℕ, suc, ◌+◌, List, [], ◌∷◌, length, map, refl, sym, ◌∙◌, ap, subst, arith}
use Rattle.std.specs.Prelude.{false, Some, None, option_map}
use Rattle.slab.specs.Slab.{slab_len}
use Rattle.php_value.specs.declared.key.Key.TheVariants.{Str}
use Rattle.php_entries.specs.Listing.{Entry, Listing}
use Rattle.php_entries.specs.Changes.{with_values, map_entries}
use Rattle.php_memdef.specs.Numbered.{Numbered, with_numbered, live_count}
use Rattle.php_memdef.specs.Contents.{Content, array, Property, Object, Mem, object_of}
use Rattle.php_memdef.specs.Holders.{stores_of_entries, stores_of_content, stores_of_properties, stores_of_object}
use Rattle.php_memdef.specs.Copies.{Copier, copied_store, copied_entries, copied_deep, copier_of, copied_properties}
use Rattle.php_memdef.specs.Objects.{with_new_object, with_clone}
use Rattle.php_memdef.specs.Sound.{Every, IsLive}
use Rattle.php_memdef.specs.Alike.{renamed_properties, renamed_object, IsRenamed}
use Rattle.php_memdef_laws.proofs.Alike.Memories.{object-renamed}
use Rattle.php_memdef_laws.proofs.Closed.Parts.{object-closed}
use Rattle.php_memplain_cells.specs.declared.load.Property.{Property as Kept}
use Rattle.php_memplain_cells.specs.declared.cells.Cells.{Cells}
use Rattle.php_memplain_cells.specs.Seen.{property_seen, scope_seen, stores_seen}
use Rattle.php_memplain_cells.specs.Memory.{memory_seen}
use Rattle.php_memplain_cells.proofs.MemoryLemmas.{counted_by}
use Rattle.php_memplain_copy.specs.declared.log.Log.{Log}
use Rattle.php_memplain_copy.specs.Copying.{CopiesStores, CopiesOne, CopyAgrees}
use Rattle.php_memplain_copy.specs.More.{StoresGrown, ObjectsGrown}
use Rattle.php_memplain_copy.specs.Walking.{with_stores, IsWhole, IsBegun}
use Rattle.php_memplain_copy.proofs.AgreeLemmas.{content_agrees}
use Rattle.php_memplain_copy.proofs.WalkLemmas.{as_many, names_with}
use Rattle.php_memplain_content.proofs.ContentLemmas.{live_len, with_stores_seen}
use Rattle.php_memplain_objects.specs.Making.{made_object, IsAppended, IsUnchanged}
use Rattle.php_memplain_objects.specs.Cloning.{over, stores_done, AreCopied, IsGivenUp, IsCloned}
use Rattle.php_memplain_objects.proofs.MakeLemmas.{appended_counted}
use Rattle.php_memplain_objects.proofs.PropertyLemmas.{properties_length}

-- properties as the entries of an array

abbrev entries_of : List Property → List (Entry ℕ)
entries_of [] = []
entries_of (p ∷ ps) = record { serial = 0; key = Str []; value = p.store } ∷ entries_of ps

entries_names : (ps : List Property) → stores_of_entries (entries_of ps) ≡ stores_of_properties ps
entries_names [] = refl
entries_names (p ∷ ps) = ap (λ ss. p.store ∷ ss) (entries_names ps)

entries_length : (ps : List Property) → length (entries_of ps) ≡ length ps
entries_length [] = refl
entries_length (p ∷ ps) = ap suc (entries_length ps)

abbrev listing_of : List Property → Listing ℕ
listing_of ps = record { entries = entries_of ps; next_key = 0; next_serial = 0 }

module _ (f : Copier) (m : Mem) where
  same_stores : (ps : List Property) (xs : Numbered Content) → (copied_entries f m xs (entries_of ps)).stores ≡ (copied_properties f m xs ps).stores
  same_stores [] xs = refl
  same_stores (p ∷ ps) xs = same_stores ps (copied_store f m xs p.store).stores

  same_made : (ps : List Property) (xs : Numbered Content) → stores_of_entries (copied_entries f m xs (entries_of ps)).made ≡ stores_of_properties (copied_properties f m xs ps).made
  same_made [] xs = refl
  same_made (p ∷ ps) xs = ap (λ ss. (copied_store f m xs p.store).made ∷ ss) (same_made ps (copied_store f m xs p.store).stores)

  made_over : (ps : List Property) (xs : Numbered Content) → (copied_properties f m xs ps).made ≡ over ps (stores_of_properties (copied_properties f m xs ps).made)
  made_over [] xs = refl
  made_over (p ∷ ps) xs = ap (λ qs. record p { store = (copied_store f m xs p.store).made } ∷ qs) (made_over ps (copied_store f m xs p.store).stores)

module _ (to : ℕ → ℕ) where
  renamed_over : (ps : List Property) (us : List ℕ) → renamed_properties to (over ps us) ≡ over ps (map to us)
  renamed_over [] us = refl
  renamed_over (p ∷ ps) [] = refl
  renamed_over (p ∷ ps) (u ∷ us) = ap (λ qs. record p { store = to u } ∷ qs) (renamed_over ps us)

  renamed_names : (es : List (Entry ℕ)) → stores_of_entries (map_entries to es) ≡ map to (stores_of_entries es)
  renamed_names [] = refl
  renamed_names (e ∷ es) = ap (λ ss. to e.value ∷ ss) (renamed_names es)

-- a new object on each side
with_object_renamed : (to back : ℕ → ℕ) (m n : Mem) → IsRenamed to back m n → (o : Object) → IsRenamed to back (with_new_object m o) (with_new_object n (renamed_object to o))
with_object_renamed to back m n r o =
    let put = object-renamed to back m n r m.next_object (Some o) in
    subst (λ (k : ℕ). IsRenamed to back (with_new_object m o) (record n { objects = with_numbered n.objects k (Some (renamed_object to o)); next_object = k + 1 })) (sym r.next_object)
    (record { back_to = r.back_to; to_back = r.to_back; stores = r.stores; objects = put.objects; blocks = r.blocks; statics = r.statics; next_object = refl })

-- the copies of all properties are the model's but for the numbers of new stores
module _ (m : Mem) (ps : List Property) (vs : List ℕ) (zs : Numbered Content) (many : length vs ≡ length ps) (a : CopyAgrees (suc (live_count m.stores)) m (array (listing_of ps)) (array (with_values (listing_of ps) vs)) zs) where
  abbrev copier : Copier
  copier = copied_deep (live_count m.stores) m

  names_agree : vs ≡ map a.to (stores_of_properties (copied_properties copier m m.stores ps).made)
  unfolding with_values
  names_agree =
      sym (names_with (entries_of ps) vs (many ∙ sym (entries_length ps)))
      ∙ ap stores_of_content a.made
      ∙ renamed_names a.to (copied_entries copier m m.stores (entries_of ps)).made
      ∙ ap (map a.to) (same_made copier m ps m.stores)

  pub properties_agree : renamed_properties a.to (copied_properties copier m m.stores ps).made ≡ over ps vs
  properties_agree =
      ap (renamed_properties a.to) (made_over copier m ps m.stores)
      ∙ renamed_over a.to ps (stores_of_properties (copied_properties copier m m.stores ps).made)
      ∙ ap (over ps) (sym names_agree)

  pub stores_agree : IsRenamed a.to a.back (record m { stores = (copied_properties copier m m.stores ps).stores }) (record m { stores = zs })
  stores_agree = subst (λ xs. IsRenamed a.to a.back (record m { stores = xs }) (record m { stores = zs })) (same_stores copier m ps m.stores) a.renamed

module _ (s mid : Cells) (whole : IsWhole s) (h levels : ℕ) (log : Log) (done : List Kept) (copied : AreCopied s (object_of (memory_seen s) h).properties levels done mid.stores mid.objects.items log) (blocks : mid.blocks ≡ s.blocks) (statics : mid.statics ≡ s.statics) where
  mid_seen : memory_seen mid ≡ with_stores s (stores_seen mid.stores)
  mid_seen = with_stores_seen s mid (ap (λ bs. map (option_map scope_seen) bs.slots) blocks) (ap (λ ss. ss.items) statics) copied.taken.objects_grown.seen

  -- there is no memory for the clone
  pub clone_given_up : (t : Cells) → IsUnchanged mid t → IsGivenUp s t log
  clone_given_up t same = (
    record {
      stores_grown = subst (λ x. StoresGrown s.stores x log.stores.items) (sym same.stores) copied.taken.stores_grown;
      objects_grown = subst (λ xs. ObjectsGrown s.objects.items xs log.handles.items) (sym same.objects) copied.taken.objects_grown;
    },
    same.seen ∙ mid_seen ∙ ap (λ xs. with_stores s xs) (sym (ap stores_seen same.stores)),
  )

  module _ (is_levels : levels ≡ slab_len s.stores + 1) (t : Cells) (class : ℕ) (n : ℕ) (is_class : class ≡ (object_of (memory_seen s) h).class)
      (a : IsAppended mid (made_object class (object_of (memory_seen s) h).finishing (map property_seen done)) n t) where
    abbrev m : Mem
    m = memory_seen s

    abbrev o : Object
    o = object_of m h

    many : length (stores_done done) ≡ length o.properties
    many = as_many (CopiesOne levels m) (stores_of_properties o.properties) m.stores (stores_done done) (stores_seen mid.stores) copied.copies ∙ properties_length o.properties

    agrees : CopyAgrees (suc (live_count m.stores)) m (array (listing_of o.properties)) (array (with_values (listing_of o.properties) (stores_done done))) (stores_seen mid.stores)
    agrees =
        content_agrees (suc (live_count m.stores)) m whole.closed (array (listing_of o.properties))
        (subst (Every (IsLive m)) (sym (entries_names o.properties)) (object-closed m whole.closed h))
        (array (with_values (listing_of o.properties) (stores_done done))) (stores_seen mid.stores) (
          stores_done done,
          (
            subst (λ l. CopiesStores (CopiesOne l m) (stores_of_entries (entries_of o.properties)) m.stores (stores_done done) (stores_seen mid.stores)) up
                (subst (λ ss. CopiesStores (CopiesOne levels m) ss m.stores (stores_done done) (stores_seen mid.stores)) (sym (entries_names o.properties)) copied.copies),
            refl,
          ),
        )
      where
        up : levels ≡ suc (live_count m.stores)
        up = omega (arith, is_levels, live_len s.stores)

    pub cloned : IsCloned s h n t
    cloned =
        let made = copied_properties (copier_of m) m m.stores o.properties in
        let clone : Object = record o { properties = made.made; spent = false; frame = None } in
        let twin : Object = made_object class o.finishing (map property_seen done) in
        let same : renamed_object agrees.to clone ≡ twin =
        ap (λ (qs : List Property). made_object o.class o.finishing qs) (properties_agree m o.properties (stores_done done) (stores_seen mid.stores) many agrees ∙ sym copied.named)
        ∙ ap (λ k. made_object k o.finishing (map property_seen done)) (sym is_class) in
        let now : with_new_object (with_stores s (stores_seen mid.stores)) twin ≡ memory_seen t = ap (λ x. with_new_object x twin) (sym mid_seen) ∙ sym a.seen in
        record {
          number = a.number ∙ ap (λ (x : Mem). x.next_object) mid_seen;
          below = a.below;
          to = agrees.to;
          back = agrees.back;
          renamed =
              subst (IsRenamed agrees.to agrees.back (with_clone m h made)) now
              (subst (λ x. IsRenamed agrees.to agrees.back (with_clone m h made) (with_new_object (with_stores s (stores_seen mid.stores)) x)) same
              (with_object_renamed agrees.to agrees.back (record m { stores = made.stores }) (with_stores s (stores_seen mid.stores)) (stores_agree m o.properties (stores_done done) (stores_seen mid.stores) many agrees) clone));
          counted = appended_counted mid t twin n a
              (counted_by mid (with_stores s (stores_seen mid.stores)) (stores_of_object twin) [] mid_seen copied.taken.names (λ j. omega (arith, copied.taken.handles j)));
        }

-- the copies can be given back
pub begun_seen : (s mid : Cells) (log : Log) → IsBegun s mid.stores mid.objects.items log → mid.blocks ≡ s.blocks → mid.statics ≡ s.statics → IsGivenUp s mid log
begun_seen s mid log begun blocks statics = (begun, with_stores_seen s mid (ap (λ bs. map (option_map scope_seen) bs.slots) blocks) (ap (λ ss. ss.items) statics) begun.objects_grown.seen)
