use Rattle.std.proofs.Common.{◌≡◌, ℕ, ◌<◌, [], ◌∷◌, ◌++◌, refl, sym, ◌∙◌, ap, arith}
use Rattle.std.specs.Prelude.{false, Some, None, unwrap_or}
use Rattle.slab.specs.Slab.{Slab, get, with_value}
use Rattle.php_memdef.specs.Numbered.{numbered, with_numbered}
use Rattle.php_memdef.specs.Contents as model
use Rattle.php_memdef.specs.Contents.{value, content_of, scope_of}
use Rattle.php_memdef.specs.Holders.{holders}
use Rattle.php_memdef.specs.Temporaries.{with_falling, fallen}
use Rattle.php_memdef.specs.Releases.{link_dropped}
use Rattle.php_memplain_cells.specs.declared.block.Block.{Block}
use Rattle.php_memplain_cells.specs.declared.content.Content.{Content}
use Rattle.php_memplain_cells.specs.declared.stores.Store.{Store}
use Rattle.php_memplain_cells.specs.declared.cells.Cells.{Cells}
use Rattle.php_memplain_cells.specs.Seen.{content_seen, stores_seen, scope_seen, block_falling}
use Rattle.php_memplain_cells.specs.Counts.{count_of_store, AreFewer}
use Rattle.php_memplain_cells.specs.Memory.{memory_seen, falling_in, IsCounted, IsCountedWith}
use Rattle.php_memplain_cells.proofs.FallingLemmas.{falling_same, held_true, held_false, times_one, gone_holders, gone_handles}
use Rattle.php_memplain_cells.proofs.MemoryLemmas.{block_there, scope_there, falls_put, found_some, counted_by}
use Rattle.php_memplain_cells.proofs.cells.Cells.release_link.Goals as goal

-- the store is gone, and what it held falls first
module _ (s : Cells) (b k : ℕ) (f : Block) (e : get s.blocks b ≡ Some f) (st : Slab Store) (x : Content) (there : numbered (stores_seen s.stores) k ≡ Some (content_seen x)) (gone : stores_seen st ≡ with_numbered (stores_seen s.stores) k None) (g : Block) (falls : scope_seen g ≡ record (scope_seen f) { falling = fallen (value (content_seen x)) ++ block_falling f }) where
  abbrev after : Cells
  after = record s { stores = st; blocks = with_value s.blocks b g }

  gone_seen : memory_seen after ≡ link_dropped false (memory_seen s) b (falling_in s b) k
  gone_seen =
      let m = memory_seen s in
      let m' : model.Mem = record m { stores = with_numbered m.stores k None } in
      falls_put (record s { stores = st }) b f e g (fallen (value (content_seen x)) ++ block_falling f) falls
      ∙ ap (λ xs. with_falling (record m { stores = xs }) b (fallen (value (content_seen x)) ++ block_falling f)) gone
      ∙ ap (λ o. with_falling m' b (fallen (value (unwrap_or o model.null)) ++ block_falling f)) (sym there)
      ∙ ap (λ (y : model.Scope). with_falling m' b (fallen (value (content_of m k)) ++ y.falling)) (sym (scope_there s b f e))

  gone_counted : IsCountedWith s (k ∷ []) [] → AreFewer s.stores st k → IsCounted after
  gone_counted counted fewer =
      counted_by after (link_dropped false (memory_seen s) b (falling_in s b) k) [] [] gone_seen
      (λ j. omega (arith, fewer j, counted.stores j, gone_holders (memory_seen s) b k j))
      (λ j. omega (arith, counted.objects j, gone_handles (memory_seen s) b k j))

pub returns-in-Some-clause-memory : goal.returns-in-Some-clause-memory
returns-in-Some-clause-memory c =
    let s = c.args.self.now in
    let b = c.args.block in
    let k = c.args.store in
    let m = memory_seen s in
    let q = c.in-Some.ensures.gone in
    let none : holders m k ≡ 0 = omega (arith, q.0, c.requires.counted.stores k, times_one k) in
    gone_seen s b k c.index_mut.result.now c.index_mut.ensures.value c.drop_link.new.stores c.in-Some.content q.1 q.2 c.fall_first.new.self c.fall_first.ensures
    ∙ ap (λ x. link_dropped x m b (falling_in s b) k) (sym (held_false m k none))

pub returns-in-Some-clause-counted : goal.returns-in-Some-clause-counted
returns-in-Some-clause-counted c =
    let q = c.in-Some.ensures.gone in
    gone_counted c.args.self.now c.args.block c.args.store c.index_mut.result.now c.index_mut.ensures.value c.drop_link.new.stores c.in-Some.content q.1 q.2 c.fall_first.new.self c.fall_first.ensures c.requires.counted c.drop_link.ensures.fewer

pub returns-in_default-clause-memory : goal.returns-in_default-clause-memory
returns-in_default-clause-memory c =
    let s = c.args.self.now in
    let b = c.args.block in
    let k = c.args.store in
    let m = memory_seen s in
    let kept : (1 < count_of_store s.stores k) × (stores_seen c.drop_link.new.stores ≡ stores_seen s.stores) = rw c.in_default.is at c.drop_link.ensures.kept in
    let f = found_some (get s.blocks b) c.requires.block in
    let more : 0 < holders m k = omega (arith, kept.0, c.requires.counted.stores k, times_one k) in
    ap (λ xs. record m { stores = xs }) kept.1
    ∙ sym (falling_same m b (scope_seen f.0) (block_there s b f.0 f.1) (falling_in s b) refl)
    ∙ ap (λ x. link_dropped x m b (falling_in s b) k) (sym (held_true m k more))
