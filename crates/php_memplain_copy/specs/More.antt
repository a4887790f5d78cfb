-- Stores and objects with more holders.
use Rattle.std.specs.Prelude.{◌≡◌, ℕ, ◌+◌, ◌<◌, ◌≤◌, Bool, true, false, List, Option, Box, IsSome}
use Rattle.std.specs.declared.alloc.Global.{Global}
use Rattle.slab.specs.Slab.{Slab}
use Rattle.php_entries.specs.Soundness.{IsSound}
use Rattle.php_memdef.specs.Numbered.{numbered}
use Rattle.php_memdef.specs.Contents.{Content, null, truth, int, text, array, object}
use Rattle.php_memdef.specs.Holders.{times}
use Rattle.php_memplain_cells.specs.declared.stores.Store.{Store}
use Rattle.php_memplain_cells.specs.declared.objects.Object.{Object}
use Rattle.php_memplain_cells.specs.Seen.{stores_seen, objects_seen}
use Rattle.php_memplain_cells.specs.Counts.{count_of_store, count_of_object}

-- each of these stores has one holder more, as often as it stands in the list
abbrev pub AreMore : Slab Store → Slab Store → List ℕ → Type 0
AreMore old new ks = (j : ℕ) → count_of_store new j ≡ count_of_store old j + times j ks

abbrev pub AreSame : Slab Store → Slab Store → Type 0
AreSame old new = (j : ℕ) → count_of_store new j ≡ count_of_store old j

-- the same of objects
abbrev pub AreMoreHandles : List (Option (Box Object Global)) → List (Option (Box Object Global)) → List ℕ → Type 0
AreMoreHandles old new hs = (j : ℕ) → count_of_object new j ≡ count_of_object old j + times j hs

abbrev pub GainIs : Bool → Object → Object → Type 0
GainIs true o p = p ≡ record o { holders = o.holders + 1 }
GainIs false o p = p ≡ o

abbrev pub IsNoArray : Content → Type 0
IsNoArray null = Unit {0}
IsNoArray (truth b) = Unit {0}
IsNoArray (int i) = Unit {0}
IsNoArray (text bytes) = Unit {0}
IsNoArray (array t) = ⊥
IsNoArray (object h) = Unit {0}

abbrev pub IsSoundArray : Content → Type 0
IsSoundArray null = ⊥
IsSoundArray (truth b) = ⊥
IsSoundArray (int i) = ⊥
IsSoundArray (text bytes) = ⊥
IsSoundArray (array t) = IsSound t
IsSoundArray (object h) = ⊥

-- since then stores came and stores got holders, each as often as it stands in the list: what was there is as it was, only
-- what was shared got a holder, and what is there has one
pub record StoresGrown (before now : Slab Store) (done : List ℕ) : Type 0 where
  pub kept : (s : ℕ) → IsSome (numbered (stores_seen before) s) → numbered (stores_seen now) s ≡ numbered (stores_seen before) s
  pub more : AreMore before now done
  pub alone : (s : ℕ) → IsSome (numbered (stores_seen before) s) → count_of_store before s ≤ 1 → times s done ≡ 0
  pub held_before : (s : ℕ) → IsSome (numbered (stores_seen before) s) → 0 < count_of_store before s
  pub held : (s : ℕ) → IsSome (numbered (stores_seen now) s) → 0 < count_of_store now s

-- objects that had a holder got others
pub record ObjectsGrown (before now : List (Option (Box Object Global))) (raised : List ℕ) : Type 0 where
  pub seen : objects_seen now ≡ objects_seen before
  pub more : AreMoreHandles before now raised
  pub held : (h : ℕ) → 0 < times h raised → 0 < count_of_object before h
