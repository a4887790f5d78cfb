-- A call that left the memory as it was.
use Rattle.std.proofs.Common.{◌≡◌, sym, subst}
use Rattle.php_memdef.specs.Alike.{Alike}
use Rattle.php_memdef.specs.Meanings.{Keeps}
use Rattle.php_memdef_laws.proofs.Alike.Memories.{Alike-refl}
use Rattle.php_memplain_cells.specs.Memory.{memory_seen}
use Rattle.php_memplain_changes.specs.Taken.{Becomes}
use Rattle.php_memplain.specs.declared.memory.MemPlain.{MemPlain}
use Rattle.php_memplain.specs.Means.{Means}
use Rattle.php_memplain.proofs.MeansLemmas.{kept_alike}

pub unchanged : (s t : MemPlain) → Becomes t.cells (memory_seen s.cells) → Keeps (Means s) (Means t)
unchanged s t same = kept_alike s t same.counted (subst (Alike (memory_seen s.cells)) (sym same.seen) (Alike-refl (memory_seen s.cells)))
