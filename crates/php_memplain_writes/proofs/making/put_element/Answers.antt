use Rattle.php_memplain_cells.specs.Seen.{stores_seen}
use Rattle.php_memplain_writes.proofs.MakingLemmas.{put_as, element_chained, stays_counted, still_grown}
use Rattle.php_memplain_writes.proofs.making.put_element.Goals as goal

pub returns-in-Ok-put_new-clause-put : goal.returns-in-Ok-put_new-clause-put
returns-in-Ok-put_new-clause-put c = put_as (stores_seen c.args.stores.now) (stores_seen c.put_new.new.stores) c.in-Ok-put_new.key c.args.step.now c.args.store _ c.in-Ok.ensures.element c.in-Ok-put_new.ensures.put

pub returns-in-Ok-put_new-clause-chained : goal.returns-in-Ok-put_new-clause-chained
returns-in-Ok-put_new-clause-chained c = λ before owed h. (
    let p = put_as (stores_seen c.args.stores.now) (stores_seen c.put_new.new.stores) c.in-Ok-put_new.key c.args.step.now c.args.store _ c.in-Ok.ensures.element c.in-Ok-put_new.ensures.put in
    let m = c.in-Ok-put_new.ensures.more in
    element_chained before c.args.stores.now c.put_new.new.stores c.args.done.now.items c.put_new.new.done.items c.in-Ok-put_new.key m.0 m.1 owed c.args.step.now c.args.store p h)

pub returns-in-Ok-put_new-clause-counts : goal.returns-in-Ok-put_new-clause-counts
returns-in-Ok-put_new-clause-counts c = stays_counted c.args.stores.now c.put_new.new.stores c.in-Ok-put_new.key _ c.in-Ok-put_new.ensures.put c.in-Ok-put_new.ensures.more.0

pub returns-in-Err-clause-no_memory : goal.returns-in-Err-clause-no_memory
returns-in-Err-clause-no_memory c = λ before g. still_grown before c.args.stores.now c.put_new.new.stores c.args.done.now.items c.put_new.new.done.items g c.in-Err.ensures.no_memory.0 c.in-Err.ensures.no_memory.1.0 c.in-Err.ensures.no_memory.1.1
