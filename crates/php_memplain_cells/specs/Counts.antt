-- Stores and objects with the number of those that hold them.
use Rattle.std.specs.Prelude.{◌≡◌, ℕ, zero, suc, ◌+◌, List, [], ◌∷◌, Option, Some, None, Box, slice_index_or}
use Rattle.std.specs.declared.alloc.Global.{Global}
use Rattle.slab.specs.Slab.{Slab, get}
use Rattle.php_memdef.specs.Holders.{times}
use Rattle.php_memplain_cells.specs.declared.objects.Object.{Object}
use Rattle.php_memplain_cells.specs.declared.stores.Store.{Store}

abbrev pub holders_if : Option Store → ℕ
holders_if None = 0
holders_if (Some s) = s.holders

-- the count that stands beside a store, 0 where there is none
abbrev pub count_of_store : Slab Store → ℕ → ℕ
count_of_store s k = holders_if (get s k)

-- one holder fewer of one store, and as many as before of each other
abbrev pub AreFewer : Slab Store → Slab Store → ℕ → Type 0
AreFewer old new k = (j : ℕ) → count_of_store new j + times j (k ∷ []) ≡ count_of_store old j

abbrev pub handles_if : Option (Box Object Global) → ℕ
handles_if None = 0
handles_if (Some o) = o.value.holders

-- the count that stands beside an object, 0 where there is none
abbrev pub count_of_object : List (Option (Box Object Global)) → ℕ → ℕ
count_of_object os zero = 0
count_of_object os (suc n) = handles_if (slice_index_or os n None)

abbrev pub AreFewerHandles : List (Option (Box Object Global)) → List (Option (Box Object Global)) → ℕ → Type 0
AreFewerHandles old new h = (j : ℕ) → count_of_object new j + times j (h ∷ []) ≡ count_of_object old j

abbrev pub AreSameHandles : List (Option (Box Object Global)) → List (Option (Box Object Global)) → Type 0
AreSameHandles old new = (j : ℕ) → count_of_object new j ≡ count_of_object old j
