use Rattle.std.proofs.Common.{◌∙◌, sym, ap}
use Rattle.php_entries.specs.Listing.{Listing}
use Rattle.php_entries.specs.Changes.{remove_key}
use Rattle.php_array_callers.proofs.CallerLemmas.{remove_key-first}
use Rattle.php_array_callers.proofs.queue.dequeue.Goals as goal

pub returns-clause-rest : goal.returns-clause-rest
returns-clause-rest c =
    ap (λ (l : Listing _). l.entries) (c.remove.ensures.after ∙ ap (remove_key c.args.queue.now) c.in_ok-key-in-Some.ensures)
    ∙ remove_key-first c.args.queue.now (record { serial = c.in-Some.field-0-0; key = c.in-Some.key.now; value = c.in-Some.field-0-2.now }) c.len.ensures.sound (sym c.in-Some.ensures)
