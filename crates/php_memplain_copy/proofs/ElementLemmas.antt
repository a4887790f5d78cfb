-- The store of an element, while a copy is on its way.
use Rattle.std.proofs.Common.{◌≡◌, ℕ, zero, suc, ◌+◌, ◌<◌, ◌≤◌, List, [], ◌∷◌, ◌++◌, refl, sym, ◌∙◌, ap, subst, arith}
use Rattle.std.specs.Prelude.{Bool, true, false, Option, Some, None, Box, option_map, unwrap_or, IsSome, is_some}
use Rattle.std.specs.declared.alloc.Global.{Global}
use Rattle.slab.specs.Slab.{Slab, get, ContainsKey}
use Rattle.php_memdef.specs.Numbered.{Numbered, numbered}
use Rattle.php_memdef.specs.Contents.{Content, null, truth, int, text, array, object, Mem, content_of}
use Rattle.php_memdef.specs.Holders.{times, stores_of_content, handles_of_content, is_shared, object_holders}
use Rattle.php_memdef.specs.Sound.{IsLive}
use Rattle.php_memdef_laws.proofs.Closed.Releases.{weight-within}
use Rattle.php_memplain_cells.specs.declared.stores.Store.{Store}
use Rattle.php_memplain_cells.specs.declared.objects.Object.{Object}
use Rattle.php_memplain_cells.specs.declared.cells.Cells.{Cells}
use Rattle.php_memplain_cells.specs.Seen.{content_seen, store_seen, stores_seen}
use Rattle.php_memplain_cells.specs.Counts.{holders_if, count_of_store, count_of_object}
use Rattle.php_memplain_cells.specs.Memory.{memory_seen}
use Rattle.php_memplain_cells.proofs.SlotLemmas.{at_seen}
use Rattle.php_memplain_copy.specs.declared.log.Log.{Log}
use Rattle.php_memplain_copy.specs.Copying.{Puts, CopiesBy, CopiesIf, CopiesOne}
use Rattle.php_memplain_copy.specs.More.{AreMore, AreMoreHandles, IsNoArray, StoresGrown, ObjectsGrown}
use Rattle.php_memplain_copy.specs.Walking.{IsWhole, with_stores, IsTaken, IsBegun}
use Rattle.php_memplain_copy.proofs.GrownLemmas.{raised_grown}
use Rattle.php_memplain_copy.proofs.TakenLemmas.{put_taken}

some_behind : {X Y : Type 0} (f : X → Y) (o : Option X) → IsSome (option_map f o) → IsSome o
some_behind f None h = h
some_behind f (Some x) h = refl

pub no_names : (c : Content) → IsNoArray c → stores_of_content c ≡ []
no_names null h = refl
no_names (truth b) h = refl
no_names (int i) h = refl
no_names (text bytes) h = refl
no_names (array t) h = absurd h
no_names (object n) h = refl

-- the copy of what is no array is the same
pub itself_copied : (n : ℕ) (m : Mem) (c : Content) (xs : Numbered Content) → IsNoArray c → CopiesBy (CopiesOne n m) c xs c xs
itself_copied n m null xs h = (refl, refl)
itself_copied n m (truth b) xs h = (refl, refl)
itself_copied n m (int i) xs h = (refl, refl)
itself_copied n m (text bytes) xs h = (refl, refl)
itself_copied n m (array t) xs h = absurd h
itself_copied n m (object k) xs h = (refl, refl)

module _ (before : Cells) (now : Slab Store) (done : List ℕ) (g : StoresGrown before.stores now done) (s : ℕ) (live : IsLive (memory_seen before) s) where
  pub slot_live : ContainsKey now s
  slot_live = some_behind store_seen (get now s) (ap is_some (sym (at_seen store_seen now.slots s) ∙ g.kept s live) ∙ live)

  pub content_there : (x : Store) → get now s ≡ Some x → numbered (memory_seen before).stores s ≡ Some (content_seen x.content)
  content_there x e = sym (g.kept s live) ∙ at_seen store_seen now.slots s ∙ ap (option_map store_seen) e

-- the objects that a store holds are there
pub handles_held : (before : Cells) (now : Slab Store) (objects : List (Option (Box Object Global))) (log : Log) (at_hand : ℕ → ℕ) → IsTaken before now objects log at_hand → (s : ℕ) (x : Store) → get now s ≡ Some x → (h : ℕ) → 0 < times h (handles_of_content (content_seen x.content)) → 0 < count_of_object objects h
unfolding object_holders
handles_held before now objects log at_hand t s x e h some =
    let there : numbered (stores_seen now) s ≡ Some (content_seen x.content) = at_seen store_seen now.slots s ∙ ap (option_map store_seen) e in
    omega (arith, some, t.handles h, weight-within (λ c. times h (handles_of_content c)) (stores_seen now) s (content_seen x.content) there)

-- what is no array goes into a new store
pub element_put : (before : Cells) (now next : Slab Store) (objects held : List (Option (Box Object Global))) (log log' : Log) (at_hand : ℕ → ℕ) → IsTaken before now objects log at_hand → (c : Content) (k : ℕ) → IsNoArray c
    → ObjectsGrown before.objects.items held log'.handles.items → AreMoreHandles objects held (handles_of_content c)
    → Puts (stores_seen now) k c (stores_seen next) → AreMore now next (k ∷ []) → log'.stores.items ≡ log.stores.items ++ k ∷ []
    → IsTaken before next held log' (λ j. at_hand j + times j (k ∷ []))
element_put before now next objects held log log' at_hand t c k no_array grown more_handles put more is =
    put_taken before now next held (record log' { stores = log.stores }) at_hand c k
    t.stores_grown grown
    (λ j. (let none : times j (stores_of_content c) ≡ 0 = ap (times j) (no_names c no_array) in omega (arith, t.names j, none)))
    (λ h. omega (arith, t.handles h, more_handles h))
    put more log' is refl

pub element_copied : (n levels : ℕ) (m : Mem) (s k : ℕ) (c : Content) (xs zs : Numbered Content) → levels ≡ suc n → is_shared m s ≡ false → numbered m.stores s ≡ Some c → IsNoArray c → Puts xs k c zs → CopiesOne levels m s xs k zs
element_copied n levels m s k c xs zs is alone there no_array put =
    let content : content_of m s ≡ c = ap (λ o. unwrap_or o null) there in
    subst (λ l. CopiesOne l m s xs k zs) (sym is)
    (subst (λ b. CopiesIf b (CopiesOne n m) m s xs k zs) (sym alone)
    (c, (xs, (subst (λ d. CopiesBy (CopiesOne n m) d xs c xs) (sym content) (itself_copied n m c xs no_array), put))))

pub element_kept : (levels : ℕ) (m : Mem) (s : ℕ) (xs zs : Numbered Content) → is_shared m s ≡ true → zs ≡ xs → CopiesOne levels m s xs s zs
element_kept zero m s xs zs shared e = (refl, e)
element_kept (suc n) m s xs zs shared e = subst (λ b. CopiesIf b (CopiesOne n m) m s xs s zs) (sym shared) (refl, e)

pub one_below : (n : ℕ) → 0 < n → (k : ℕ) × (n ≡ suc k)
one_below zero h = absurd (omega (arith, h))
one_below (suc n) h = (n, refl)
