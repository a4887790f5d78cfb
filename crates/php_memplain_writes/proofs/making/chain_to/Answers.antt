use Rattle.std.proofs.Common.{◌-◌, refl, ◌∙◌, subst, drop, arith}
use Rattle.php_memplain_cells.specs.Seen.{stores_seen}
use Rattle.php_memplain_writes.specs.Chains.{ChainTo}
use Rattle.php_memplain_writes.proofs.MakingLemmas.{chain_begun, chain_on}
use Rattle.php_memplain_writes.proofs.making.chain_to.Goals as goal

pub loop-at-init : goal.loop-at-init
loop-at-init c = record {
  chain = chain_begun (stores_seen c.args.stores.now) c.args.leaf c.args.path.now c.len-at.result (omega (arith, c.len-at.ensures));
  chained = λ before owed h. h;
  counts = λ j live. (live, refl);
  behind = omega (arith, c.requires, c.len-at.ensures);
  within = omega (arith, c.len-at.ensures);
  made = omega arith;
}

pub loop-at-preserved : goal.loop-at-preserved
loop-at-preserved c =
    let i = c.loop-at.invariant in
    record {
      chain = chain_on (stores_seen c.args.stores.now) (stores_seen c.loop-at.stores) (stores_seen c.put_element.new.stores) c.args.leaf c.loop-at.top c.in-Ok.store c.args.path.now (c.loop-at.at - 1) c.loop-at.at c.step.result.now c.step.ensures (omega (arith, c.loop-at-test.true)) i.chain c.in-Ok.ensures.put;
      chained = λ before owed h. c.in-Ok.ensures.chained before owed (i.chained before owed h);
      counts = λ j live. (let was = i.counts j live in let now = c.in-Ok.ensures.counts j was.0 in (now.0, now.1 ∙ was.1));
      behind = omega (arith, i.behind, c.loop-at-test.true);
      within = omega (arith, i.within);
      made = omega (arith, i.made, c.put_element.ensures.made);
    }

pub returns-in-Err-clause-no_memory : goal.returns-in-Err-clause-no_memory
returns-in-Err-clause-no_memory c = λ before owed h. c.in-Err.ensures.no_memory before (c.loop-at.invariant.chained before owed h).grown

pub returns-clause-chain : goal.returns-clause-chain
returns-clause-chain c =
    let i = c.loop-at.invariant in
    subst (λ n. ChainTo (stores_seen c.args.stores.now) c.args.leaf (drop n c.args.path.now) (stores_seen c.loop-at.stores) c.loop-at.top) (omega (arith, i.behind, c.loop-at-test.false)) i.chain

pub returns-clause-counts : goal.returns-clause-counts
returns-clause-counts c = λ j live. (c.loop-at.invariant.counts j live).1
