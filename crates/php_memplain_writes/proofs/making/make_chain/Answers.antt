use Rattle.std.proofs.Common.{[], ◌∙◌, ap}
use Rattle.std.specs.Prelude.{is_some}
use Rattle.php_memdef.specs.Contents.{null}
use Rattle.php_memplain_cells.specs.Seen.{stores_seen}
use Rattle.php_memplain_writes.proofs.MakingLemmas.{leaf_chained, new_alone, still_grown}
use Rattle.php_memplain_writes.proofs.making.make_chain.Goals as goal

pub returns-in-Ok-chain_to-clause-chain : goal.returns-in-Ok-chain_to-clause-chain
returns-in-Ok-chain_to-clause-chain c = record { first = stores_seen c.put_new.new.stores; puts = c.in-Ok.ensures.put; chain = c.in-Ok-chain_to.ensures.chain }

pub returns-in-Ok-chain_to-clause-chained : goal.returns-in-Ok-chain_to-clause-chained
returns-in-Ok-chain_to-clause-chained c = λ before r. c.in-Ok-chain_to.ensures.chained before [] (leaf_chained before c.args.stores.now c.put_new.new.stores c.args.done.now.items c.put_new.new.done.items c.in-Ok.leaf c.in-Ok.ensures.more.0 c.in-Ok.ensures.more.1 c.in-Ok.ensures.put r)

pub returns-in-Ok-chain_to-clause-alone : goal.returns-in-Ok-chain_to-clause-alone
returns-in-Ok-chain_to-clause-alone c = c.in-Ok-chain_to.ensures.counts c.in-Ok.leaf (ap is_some c.in-Ok.ensures.put.there) ∙ new_alone c.args.stores.now c.put_new.new.stores c.in-Ok.leaf null c.in-Ok.ensures.put c.in-Ok.ensures.more.0

pub returns-in-Err-chain_to-clause-no_memory : goal.returns-in-Err-chain_to-clause-no_memory
returns-in-Err-chain_to-clause-no_memory c = λ before r. c.in-Err-chain_to.ensures.no_memory before [] (leaf_chained before c.args.stores.now c.put_new.new.stores c.args.done.now.items c.put_new.new.done.items c.in-Ok.leaf c.in-Ok.ensures.more.0 c.in-Ok.ensures.more.1 c.in-Ok.ensures.put r)

pub returns-in-Err-clause-no_memory : goal.returns-in-Err-clause-no_memory
returns-in-Err-clause-no_memory c = λ before r. still_grown before c.args.stores.now c.put_new.new.stores c.args.done.now.items c.put_new.new.done.items r.grown c.in-Err.ensures.no_memory.0 c.in-Err.ensures.no_memory.1.0 c.in-Err.ensures.no_memory.1.1
