use Rattle.std.proofs.Common.{ap, refl}
use Rattle.php_base.proofs.Lookup.{puts-kept, puts-kept_last}
use Rattle.php_base.proofs.mem_shelf.MemShelf.put.Goals as goal

pub returns-in-Some-clause-ok : goal.returns-in-Some-clause-ok
returns-in-Some-clause-ok c =
    puts-kept _ _ _ _ _ _ c.index_mut.result.now _ (ap (λ shelf. shelf.files) c.self.view_is) c.as_slice.ensures.value
    c.in-Some.ensures.found c.index_mut.ensures.value refl c.in_ok-bytes.ensures.items

pub returns-in_ok-push-in-None-clause-ok : goal.returns-in_ok-push-in-None-clause-ok
returns-in_ok-push-in-None-clause-ok c =
    puts-kept_last _ _ _ _ _ _ _ (ap (λ shelf. shelf.files) c.self.view_is) c.as_slice.ensures.value
    c.in_ok-push-in-None.ensures.items c.in-None.ensures.none c.in_ok-name-in-None.ensures.ok c.in_ok-bytes.ensures.items
