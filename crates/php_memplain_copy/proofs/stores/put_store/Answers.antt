use Rattle.php_memplain_copy.proofs.StoreLemmas.{puts}
use Rattle.php_memplain_copy.proofs.stores.put_store.Goals as goal

pub returns-clause-put : goal.returns-clause-put
returns-clause-put c = puts c.args.stores.now c.insert.new.self c.in-Ok.key (record { holders = 1; content = c.args.content }) c.in-Ok.ensures.updates c.in-Ok.ensures.was_vacant
