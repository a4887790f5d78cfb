-- A change of an object that leaves its properties.
use Rattle.std.proofs.Common.{◌≡◌, ◌+◌, ◌-◌, ◌<◌, ℕ, suc, List, [], length, refl, sym, ◌∙◌, ap, subst, arith}
use Rattle.std.specs.Prelude.{Option, Some, None, Box, unwrap_or, slice_index_or, slice_set, is_some}
use Rattle.std.specs.declared.alloc.Global.{Global}
use Rattle.php_memdef.specs.Numbered.{numbered, with_numbered}
use Rattle.php_memdef.specs.Contents.{Mem, no_object, object_of}
use Rattle.php_memdef.specs.Contents as model
use Rattle.php_memdef.specs.Holders.{times, stores_of_object, object_holders}
use Rattle.php_memdef.specs.Conditions.{IsObject}
use Rattle.php_memdef.specs.Places.{with_object}
use Rattle.php_memdef.specs.Alike.{renamed_object}
use Rattle.php_memdef_laws.proofs.Alike.Totals.{object_holders-renamed}
use Rattle.php_memdef_laws.proofs.Held.Parts.{holders-with_object, handles-with_object}
use Rattle.php_memplain_cells.specs.declared.objects.Object.{Object}
use Rattle.php_memplain_cells.specs.declared.cells.Cells.{Cells}
use Rattle.php_memplain_cells.specs.Seen.{object_seen, objects_seen, stores_seen}
use Rattle.php_memplain_cells.specs.Counts.{count_of_store, count_of_object, AreSameHandles}
use Rattle.php_memplain_cells.specs.Memory.{memory_seen, IsCounted}
use Rattle.php_memplain_cells.proofs.SlotLemmas.{set_twice, any_default}
use Rattle.php_memplain_cells.proofs.ObjectLemmas.{found, put_seen, there_seen, same_put}
use Rattle.php_memplain_cells.proofs.MemoryLemmas.{counted_by}
use Rattle.php_memplain.specs.declared.memory.MemPlain.{MemPlain}
use Rattle.php_memplain.specs.declared.objects.Change.{Change}
use Rattle.php_memplain.specs.declared.objects.Change.TheVariants.{Finishing, Spent, Frame}
use Rattle.php_memplain.specs.Changes.{changed, changed_at}
use Rattle.php_memplain.specs.Means.{Means}
use Rattle.php_memplain.proofs.CopyLemmas.{some_renamed}

module _ (os : List (Option (Box Object Global))) (h : ℕ) (some : 0 < count_of_object os h) (d : Option (Box Object Global)) (taken : Box Object Global) (e : Some taken ≡ slice_index_or os (h - 1) d) where
  there : slice_index_or os (h - 1) None ≡ Some taken
  there = let f = found os h some in f.there ∙ sym (any_default os (h - 1) f.box d f.there) ∙ sym e

  abbrev put_back : Box Object Global → List (Option (Box Object Global))
  put_back p = slice_set (slice_set os (h - 1) None) (h - 1) (Some p)

  once : (p : Box Object Global) → put_back p ≡ slice_set os (h - 1) (Some p)
  once p = set_twice os (h - 1) None (Some p)

  pub back_changed : (p : Box Object Global) (what : Change) → object_seen p.value ≡ changed what (object_seen taken.value) → objects_seen (put_back p) ≡ changed_at what (objects_seen os) h
  back_changed p what is =
      let up : h ≡ suc (h - 1) = (found os h some).number in
      let was : unwrap_or (numbered (objects_seen os) h) no_object ≡ object_seen taken.value = ap (λ o. unwrap_or o no_object) (ap (numbered (objects_seen os)) up ∙ there_seen os (h - 1) taken there) in
      ap objects_seen (once p) ∙ put_seen os (h - 1) taken there (Some p)
      ∙ ap (λ o. with_numbered (objects_seen os) (suc (h - 1)) (Some o)) (is ∙ ap (changed what) (sym was))
      ∙ ap (λ k. with_numbered (objects_seen os) k (Some (changed what (unwrap_or (numbered (objects_seen os) h) no_object)))) (sym up)

  pub back_same : (p : Box Object Global) → p.value.holders ≡ taken.value.holders → AreSameHandles os (put_back p)
  back_same p same = subst (λ ps. AreSameHandles os ps) (sym (once p)) (same_put os (h - 1) taken there (Some p) same)

same_properties : (what : Change) (o : model.Object) → stores_of_object (changed what o) ≡ stores_of_object o
same_properties Finishing o = refl
same_properties Spent o = refl
same_properties (Frame f) o = refl

-- an object that is there is held
pub object_count : (s : MemPlain) (m : Mem) → Means s m → (h : ℕ) → IsObject (memory_seen s.cells) h → 0 < count_of_object s.cells.objects.items h
object_count s m means h live =
    let r = means.alike.renamed in
    let held : 0 < object_holders m h = means.sound.held.objects_held h (ap is_some (r.objects h) ∙ some_renamed (renamed_object means.alike.to) (numbered (memory_seen s.cells).objects h) live) in
    omega (arith, held, object_holders-renamed means.alike.to means.alike.back (memory_seen s.cells) m r h, means.counted.objects h)

-- the memory after a change
module _ (s t : Cells) (what : Change) (h : ℕ) (stores : t.stores ≡ s.stores) (blocks : (memory_seen t).blocks ≡ (memory_seen s).blocks) (statics : (memory_seen t).statics ≡ (memory_seen s).statics) (objects : objects_seen t.objects.items ≡ changed_at what (objects_seen s.objects.items) h) (len : length t.objects.items ≡ length s.objects.items) where
  pub changed_seen : memory_seen t ≡ with_object (memory_seen s) h (changed what (object_of (memory_seen s) h))
  changed_seen =
      ap (λ os. record (memory_seen t) { objects = os }) objects
      ∙ ap (λ n. record (memory_seen t) { objects = changed_at what (objects_seen s.objects.items) h; next_object = n + 1 }) len
      ∙ ap (λ bs. record (with_object (memory_seen s) h (changed what (object_of (memory_seen s) h))) { stores = (memory_seen t).stores; blocks = bs; statics = (memory_seen t).statics }) blocks
      ∙ ap (λ xs. record (with_object (memory_seen s) h (changed what (object_of (memory_seen s) h))) { stores = (memory_seen t).stores; statics = xs }) statics
      ∙ ap (λ xs. record (with_object (memory_seen s) h (changed what (object_of (memory_seen s) h))) { stores = xs }) (ap (λ x. stores_seen x) stores)

  pub changed_counted : IsCounted s → AreSameHandles s.objects.items t.objects.items → IsCounted t
  changed_counted counted handles =
      let m = memory_seen s in
      let o = changed what (object_of m h) in
      counted_by t (with_object m h o) [] [] changed_seen
      (λ k. (
      let same : count_of_store t.stores k ≡ count_of_store s.stores k = ap (λ x. count_of_store x k) stores in
      let named : times k (stores_of_object o) ≡ times k (stores_of_object (object_of m h)) = ap (times k) (same_properties what (object_of m h)) in
      omega (arith, same, named, counted.stores k, holders-with_object m k h (Some o))))
      (λ j. omega (arith, handles j, counted.objects j, handles-with_object m j h (Some (changed what (object_of m h)))))
