-- What a copy takes, and the counts.
use Rattle.std.proofs.Common.{◌≡◌, ◌≢◌, ℕ, suc, ◌+◌, ◌<◌, ◌≤◌, List, [], ◌∷◌, ◌++◌, refl, sym, ◌∙◌, ap, subst, arith, ◌⊎◌, inl, inr}
use Rattle.std.specs.Prelude.{Bool, true, false, nat_le, Option, Some, None, Box, IsSome, is_some, unwrap_or}
use Rattle.std.specs.declared.alloc.Global.{Global}
use Rattle.std.proofs.lemmas.Bool.Decides.{eqb_tells}
use Rattle.std.proofs.lemmas.Bool.{leb-true, leb-false, le-leb}
use Rattle.slab.specs.Slab.{Slab}
use Rattle.php_memdef.specs.Numbered.{Numbered, numbered, with_numbered}
use Rattle.php_memdef.specs.Contents.{Content, null, truth, int, text, array, object, Mem, content_of}
use Rattle.php_memdef.specs.Holders.{times, stores_of_content, handles_of_content, is_shared, holders, object_holders}
use Rattle.php_memdef.specs.Sound.{IsLive}
use Rattle.php_memdef_laws.proofs.NumberedLemmas.{numbered-with_same, numbered-with_other}
use Rattle.php_memdef_laws.proofs.Held.Parts.{times-append, holders-with_store, handles-with_store}
use Rattle.php_memplain_cells.specs.declared.stores.Store.{Store}
use Rattle.php_memplain_cells.specs.declared.objects.Object.{Object}
use Rattle.php_memplain_cells.specs.declared.cells.Cells.{Cells}
use Rattle.php_memplain_cells.specs.Seen.{stores_seen, objects_seen}
use Rattle.php_memplain_cells.specs.Counts.{count_of_store, count_of_object}
use Rattle.php_memplain_cells.specs.Memory.{memory_seen}
use Rattle.php_memplain_copy.specs.declared.log.Log.{Log}
use Rattle.php_memplain_copy.specs.Copying.{Puts}
use Rattle.php_memplain_copy.specs.More.{AreMore, AreSame, AreMoreHandles, IsNoArray, StoresGrown, ObjectsGrown}
use Rattle.php_memplain_copy.specs.Walking.{IsWhole, with_stores, IsTaken, IsBegun}
use Rattle.php_memplain_copy.proofs.SameLemmas.{SameAt, same_holders, same_handles}
use Rattle.php_memplain_copy.proofs.GrownLemmas.{kept_grown, put_grown}

-- a content under a free number: what it names is named once more

module _ (m : Mem) (k : ℕ) (c : Content) (zs : Numbered Content) (put : Puts m.stores k c zs) where
  abbrev put_there : Mem
  put_there = record m { stores = with_numbered m.stores k (Some c) }

  same_put : SameAt put_there (record m { stores = zs })
  same_put = record {
    stores = λ j. elim (eqb_tells j k) [
      | inl e ↦ ap (numbered zs) e.1 ∙ put.there ∙ sym (numbered-with_same m.stores k (Some c)) ∙ ap (numbered (with_numbered m.stores k (Some c))) (sym e.1)
      | inr e ↦ put.others j e.1 ∙ sym (numbered-with_other m.stores k j (Some c) e.1)
    ];
    objects = λ h. refl;
    blocks = λ b. refl;
    statics = λ i. refl;
    next_object = refl;
  }

  pub put_holders : (j : ℕ) → holders (record m { stores = zs }) j ≡ holders m j + times j (stores_of_content c)
  put_holders j =
      let none : times j (stores_of_content (content_of m k)) ≡ 0 = ap (λ o. times j (stores_of_content (unwrap_or o null))) put.free in
      omega (arith, same_holders put_there (record m { stores = zs }) same_put j, holders-with_store m j k (Some c), none)

  pub put_handles : (j : ℕ) → object_holders (record m { stores = zs }) j ≡ object_holders m j + times j (handles_of_content c)
  put_handles j =
      let none : times j (handles_of_content (content_of m k)) ≡ 0 = ap (λ o. times j (handles_of_content (unwrap_or o null))) put.free in
      omega (arith, same_handles put_there (record m { stores = zs }) same_put j, handles-with_store m j k (Some c), none)

-- the same, counted in another way
pub counted_as : (before : Cells) (stores : Slab Store) (objects : List (Option (Box Object Global))) (log : Log) (a b : ℕ → ℕ) → IsTaken before stores objects log a → ((j : ℕ) → a j ≡ b j) → IsTaken before stores objects log b
counted_as before stores objects log a b t same = record {
  stores_grown = t.stores_grown;
  objects_grown = t.objects_grown;
  names = λ j. omega (arith, t.names j, same j);
  handles = t.handles;
}

-- a new store with a content that is at hand
pub put_taken : (before : Cells) (now next : Slab Store) (objects : List (Option (Box Object Global))) (log : Log) (at_hand : ℕ → ℕ) (c : Content) (k : ℕ)
    → StoresGrown before.stores now log.stores.items → ObjectsGrown before.objects.items objects log.handles.items
    → ((j : ℕ) → count_of_store now j ≡ holders (with_stores before (stores_seen now)) j + (at_hand j + times j (stores_of_content c)))
    → ((h : ℕ) → count_of_object objects h ≡ object_holders (with_stores before (stores_seen now)) h + times h (handles_of_content c))
    → Puts (stores_seen now) k c (stores_seen next) → AreMore now next (k ∷ []) → (log' : Log) → log'.stores.items ≡ log.stores.items ++ k ∷ [] → log'.handles.items ≡ log.handles.items
    → IsTaken before next objects log' (λ j. at_hand j + times j (k ∷ []))
put_taken before now next objects log at_hand c k sg og names handles put more log' is same = record {
  stores_grown = put_grown before.stores now log.stores.items sg next k c log'.stores.items put more is;
  objects_grown = subst (λ rs. ObjectsGrown before.objects.items objects rs) (sym same) og;
  names = λ j. omega (arith, more j, names j, put_holders (with_stores before (stores_seen now)) k c (stores_seen next) put j);
  handles = λ h. omega (arith, handles h, put_handles (with_stores before (stores_seen now)) k c (stores_seen next) put h);
}

module _ (before : Cells) (whole : IsWhole before) (now : Slab Store) (objects : List (Option (Box Object Global))) (log : Log) (at_hand : ℕ → ℕ) (t : IsTaken before now objects log at_hand) (s : ℕ) (live : IsLive (memory_seen before) s) where
  -- whether a store was shared is told by its count now
  pub more_shared : 1 < count_of_store now s → (1 < count_of_store before.stores s) × (is_shared (memory_seen before) s ≡ true)
  more_shared some =
      let many : 1 < count_of_store before.stores s = by_count (times s log.stores.items) refl in
      (many, le-leb 2 (holders (memory_seen before) s) (omega (arith, many, whole.counted.stores s)))
    where
      by_count : (n : ℕ) → times s log.stores.items ≡ n → 1 < count_of_store before.stores s
      by_count n e = elim (few_or_many (count_of_store before.stores s)) [
        | inl few ↦ absurd (omega (arith, few, some, t.stores_grown.more s, t.stores_grown.alone s live few))
        | inr many ↦ many
      ]
        where
          few_or_many : (n : ℕ) → (n ≤ 1) ⊎ (1 < n)
          few_or_many n = by_test (nat_le n 1) refl
            where
              by_test : (b : Bool) → nat_le n 1 ≡ b → (n ≤ 1) ⊎ (1 < n)
              by_test true e = inl (leb-true n 1 e)
              by_test false e = inr (omega (arith, leb-false n 1 e))

  pub no_more_alone : count_of_store now s ≤ 1 → is_shared (memory_seen before) s ≡ false
  no_more_alone few = by_test (nat_le 2 (holders (memory_seen before) s)) refl
    where
      by_test : (b : Bool) → nat_le 2 (holders (memory_seen before) s) ≡ b → b ≡ false
      by_test true e = absurd (omega (arith, few, leb-true 2 (holders (memory_seen before) s) e, t.stores_grown.more s, whole.counted.stores s))
      by_test false e = refl

  -- a store that is shared gets a holder
  pub kept_taken : (next : Slab Store) (log' : Log) → 1 < count_of_store now s → stores_seen next ≡ stores_seen now → AreMore now next (s ∷ []) → log'.stores.items ≡ log.stores.items ++ s ∷ [] → log'.handles.items ≡ log.handles.items → IsTaken before next objects log' (λ j. at_hand j + times j (s ∷ []))
  kept_taken next log' some seen more is same = record {
    stores_grown = kept_grown before.stores now log.stores.items t.stores_grown next s log'.stores.items seen more is (more_shared some).0;
    objects_grown = subst (λ rs. ObjectsGrown before.objects.items objects rs) (sym same) t.objects_grown;
    names = λ j. omega (arith, more j, t.names j, ap (λ xs. holders (with_stores before xs) j) seen);
    handles = λ h. t.handles h ∙ ap (λ xs. object_holders (with_stores before xs) h) (sym seen);
  }
