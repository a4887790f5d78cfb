use Rattle.php_array_callers.proofs.CallerLemmas.{append_value-entries}
use Rattle.php_array_callers.proofs.queue.enqueue.Goals as goal

pub returns-clause-ok : goal.returns-clause-ok
returns-clause-ok c = append_value-entries c.args.queue.now c.append.new.self c.args.number c.in_ok-append.ensures.appended.1
