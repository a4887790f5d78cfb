-- The copy of a content, against the model's.
use Rattle.std.proofs.Common.{◌≡◌, ℕ, ◌<◌, List, [], ◌∷◌, length, refl, sym, ◌∙◌, ap, subst, arith}
use Rattle.std.specs.Prelude.{Option, Some, None, IsSome, is_some}
use Rattle.php_memdef.specs.declared.place.Place.{Place}
use Rattle.php_memdef.specs.declared.answer.Read.TheVariants.{Found, Absent}
use Rattle.php_memdef.specs.Numbered.{numbered}
use Rattle.php_memdef.specs.Contents.{Content, Item, value, link, Scope, Mem, content_of, scope_of}
use Rattle.php_memdef.specs.Holders.{times, stores_of_item, holders}
use Rattle.php_memdef.specs.Sound.{IsLive}
use Rattle.php_memdef.specs.Conditions.{IsBlock, HasFallingRoom}
use Rattle.php_memdef.specs.Meanings.{Keeps}
use Rattle.php_memdef.specs.Copies.{copied}
use Rattle.php_memdef.specs.Places.{Spot, nth_item, with_scope, content_at, find_place}
use Rattle.php_memdef.specs.Temporaries.{pushed, popped, rest_of, top, top_of, with_top, let_fall, settled, settle, pushed_copy, copy_of_spot, copy}
use Rattle.php_memdef.specs.Alike.{map_if, renamed_content, IsRenamed, Alike}
use Rattle.php_memdef_laws.proofs.Alike.Totals.{holders-renamed}
use Rattle.php_memdef_laws.proofs.Alike.Scopes.{pushed-renamed, popped-renamed, let_fall-renamed}
use Rattle.php_memdef_laws.proofs.Held.Parts.{handles_of_item, holders-with_top, handles-with_top, holders-let_fall, handles-let_fall}
use Rattle.php_memplain_cells.specs.declared.cells.Cells.{Cells}
use Rattle.php_memplain_cells.specs.Seen.{stores_seen}
use Rattle.php_memplain_cells.specs.Counts.{count_of_store, count_of_object}
use Rattle.php_memplain_cells.specs.Memory.{memory_seen, IsCounted}
use Rattle.php_memplain_cells.proofs.FallingLemmas.{scope_again, scope_twice}
use Rattle.php_memplain_cells.proofs.MemoryLemmas.{counted_by}
use Rattle.php_memplain_copy.specs.Walking.{IsWhole, with_stores}
use Rattle.php_memplain_content.specs.Copies.{IsMade, IsBack}
use Rattle.php_memplain_copy.proofs.SameLemmas.{SameAt, same_alike}
use Rattle.php_memplain.specs.declared.memory.MemPlain.{MemPlain}
use Rattle.php_memplain.specs.Means.{Means}
use Rattle.php_memplain.proofs.MeansLemmas.{kept_alike}

pub some_renamed : {X Y : Type 0} (f : X → Y) (o : Option X) → IsSome o → IsSome (map_if f o)
some_renamed f None h = h
some_renamed f (Some x) h = refl

-- a memory that is meant is whole
pub whole_of : (s : MemPlain) (m : Mem) → Means s m → IsWhole s.cells
whole_of s m means = record {
  counted = means.counted;
  closed = means.closed;
  held = λ k live. (
      let r = means.alike.renamed in
      let there : 0 < holders m (means.alike.to k) = means.sound.held.stores (means.alike.to k) (ap is_some (r.stores k) ∙ some_renamed (renamed_content means.alike.to) (numbered (memory_seen s.cells).stores k) live) in
      omega (arith, there, holders-renamed means.alike.to means.alike.back (memory_seen s.cells) m r k, means.counted.stores k));
}

-- the copy on top differs in the numbers of stores alone
pub copied_alike : (s t : Cells) (n : Mem) (b : ℕ) (c d : Content) → IsMade s t c d → n ≡ pushed (memory_seen t) b (value d) → Alike (pushed_copy (memory_seen s) b c) n
unfolding copied
copied_alike s t n b c d made is =
    let a = made.agrees in
    let r = pushed-renamed a.to a.back (record (memory_seen s) { stores = (copied (memory_seen s) c).stores }) (with_stores s (stores_seen t.stores)) a.renamed b (value (copied (memory_seen s) c).made) in
    let same : pushed (with_stores s (stores_seen t.stores)) b (value (renamed_content a.to (copied (memory_seen s) c).made)) ≡ n =
    ap (λ x. pushed (with_stores s (stores_seen t.stores)) b (value x)) (sym made_is) ∙ ap (λ x. pushed x b (value d)) (sym made.seen) ∙ sym is in
    record { to = a.to; back = a.back; renamed = subst (IsRenamed a.to a.back (pushed_copy (memory_seen s) b c)) same r }
  where
    made_is : d ≡ renamed_content made.agrees.to (copied (memory_seen s) c).made
    made_is = made.agrees.made

-- what was given back looks as before
pub back_same_at : (s t : Cells) → IsBack s t → SameAt (memory_seen s) (memory_seen t)
back_same_at s t back = record {
  stores = back.stores;
  objects = λ h. ap (λ (x : Mem). numbered x.objects h) back.seen;
  blocks = λ b. ap (λ (x : Mem). numbered x.blocks b) back.seen;
  statics = λ i. ap (λ (x : Mem). numbered x.statics i) back.seen;
  next_object = ap (λ (x : Mem). x.next_object) back.seen;
}

-- the model's call
module _ (m : Mem) (b : ℕ) (p : Place) where
  pub copy_found : (spot : Spot) → find_place m p ≡ Some spot → copy m b p ≡ (pushed_copy m b (content_at m spot), Found)
  unfolding copy
  copy_found spot e = ap (λ o. copy_of_spot o m b) e

  pub copy_absent : find_place m p ≡ None → copy m b p ≡ (m, Absent)
  unfolding copy
  copy_absent e = ap (λ o. copy_of_spot o m b) e

-- a link on top gives way to the copy of what its store holds
module _ (m : Mem) (b s : ℕ) (is : top m b ≡ link s) where
  pub settle_is : settle m b ≡ let_fall (pushed (popped (record m { stores = (copied m (content_of m s)).stores }) b) b (value (copied m (content_of m s)).made)) b (link s)
  unfolding settle
  settle_is = ap (λ i. settled i m b) is

pub link_is_top : (m : Mem) (b s : ℕ) → nth_item (scope_of m b).temps 0 ≡ Some (link s) → top m b ≡ link s
link_is_top m b s e = by_list (scope_of m b).temps e
  where
    by_list : (is : List Item) → nth_item is 0 ≡ Some (link s) → top_of is ≡ link s
    by_list [] e = absurd cc
    by_list (i ∷ is) e = same i e
      where
        same : (i : Item) → Some i ≡ Some (link s) → i ≡ link s
        same i e = cc

-- another item on top, as the model puts it there
swap_is : (m : Mem) (b : ℕ) (i : Item) → pushed (popped m b) b i ≡ with_top m b i
swap_is m b i =
    let f : Scope = record (scope_of m b) { temps = rest_of (scope_of m b).temps } in
    ap (λ (x : Scope). with_scope (popped m b) b (record x { temps = i ∷ x.temps })) (scope_again m b f)
    ∙ scope_twice m b f (record f { temps = i ∷ f.temps })

pub falling_room_swapped : (m : Mem) (b : ℕ) (i : Item) → HasFallingRoom m b → HasFallingRoom (with_top m b i) b
falling_room_swapped m b i h = subst (λ (x : Scope). length x.falling < x.room) (sym (scope_again m b (record (scope_of m b) { temps = i ∷ rest_of (scope_of m b).temps }))) h

pub some_temp : (is : List Item) (i : Item) → nth_item is 0 ≡ Some i → 0 < length is
some_temp [] i e = absurd cc
some_temp (j ∷ is) i e = omega arith

-- the steps of that
module _ (s t v w : Cells) (b k : ℕ) (d : Content) (i : Item) (made : IsMade s t (content_of (memory_seen s) k) d)
    (is_top : i ≡ top (memory_seen t) b) (onto : memory_seen v ≡ with_top (memory_seen t) b (value d)) (falls : memory_seen w ≡ let_fall (memory_seen v) b i) where
  abbrev after : Mem
  after = with_stores s (stores_seen t.stores)

  comes : memory_seen w ≡ let_fall (pushed (popped after b) b (value d)) b i
  comes = falls ∙ ap (λ n. let_fall n b i) (onto ∙ ap (λ n. with_top n b (value d)) made.seen ∙ sym (swap_is after b (value d)))

  pub settled_alike : IsLive (memory_seen s) k → top (memory_seen s) b ≡ link k → Alike (settle (memory_seen s) b) (memory_seen w)
  unfolding copied
  settled_alike live is =
      let a = made.agrees in
      let m = memory_seen s in
      let c = copied m (content_of m k) in
      let one = popped-renamed a.to a.back (record m { stores = c.stores }) after a.renamed b in
      let two = pushed-renamed a.to a.back _ _ one b (value c.made) in
      let three = let_fall-renamed a.to a.back _ _ two b (link k) in
      let made_is : d ≡ renamed_content a.to c.made = a.made in
      let i_is : i ≡ link (a.to k) = is_top ∙ ap (λ n. top n b) made.seen ∙ is ∙ ap link (sym (a.kept k live)) in
      let same : let_fall (pushed (popped after b) b (value (renamed_content a.to c.made))) b (link (a.to k)) ≡ memory_seen w =
      ap (λ x. let_fall (pushed (popped after b) b (value x)) b (link (a.to k))) (sym made_is)
      ∙ ap (λ j. let_fall (pushed (popped after b) b (value d)) b j) (sym i_is)
      ∙ sym comes in
      record {
        to = a.to;
        back = a.back;
        renamed =
            subst (λ n. IsRenamed a.to a.back n (memory_seen w)) (sym (settle_is m b k is))
            (subst (IsRenamed a.to a.back (let_fall (pushed (popped (record m { stores = c.stores }) b) b (value c.made)) b (link k))) same three);
      }

  pub settled_counted : v.stores ≡ t.stores → v.objects ≡ t.objects → w.stores ≡ v.stores → w.objects ≡ v.objects → IsCounted w
  settled_counted vs vo ws wo =
      let n = memory_seen t in
      let p = with_top n b (value d) in
      counted_by w (let_fall p b i) [] [] (falls ∙ ap (λ x. let_fall x b i) onto)
      (λ j. (
      let same : count_of_store w.stores j ≡ count_of_store t.stores j = ap (λ x. count_of_store x j) (ws ∙ vs) in
      let it : times j (stores_of_item i) ≡ times j (stores_of_item (top n b)) = ap (λ x. times j (stores_of_item x)) is_top in
      omega (arith, same, it, made.counted.stores j, holders-with_top n j b (value d), holders-let_fall p j b i)))
      (λ h. (
      let same : count_of_object w.objects.items h ≡ count_of_object t.objects.items h = ap (λ x. count_of_object x h) (ap (λ x. x.items) (wo ∙ vo)) in
      let it : times h (handles_of_item i) ≡ times h (handles_of_item (top n b)) = ap (λ x. times h (handles_of_item x)) is_top in
      omega (arith, same, it, made.counted.objects h, handles-with_top n h b (value d), handles-let_fall p h b i)))

pub same_item : {i j : Item} → Some i ≡ Some j → i ≡ j
same_item e = cc

-- what was given back is taken for what it was taken for
pub back_kept : (s t : MemPlain) → IsBack s.cells t.cells → Keeps (Means s) (Means t)
back_kept s t back = kept_alike s t back.counted (same_alike (memory_seen s.cells) (memory_seen t.cells) (back_same_at s.cells t.cells back))

-- what was made before the copy is named, and a block that was there is
pub block_made : (s t : Cells) (c d : Content) (b : ℕ) → IsMade s t c d → IsBlock (memory_seen s) b → IsBlock (memory_seen t) b
block_made s t c d b made h = subst (λ n. IsBlock n b) (sym made.seen) h
