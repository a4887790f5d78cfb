use Rattle.std.proofs.Common.{sym, ◌∙◌, ap, subst}
use Rattle.slab.specs.Slab.{with_value}
use Rattle.php_memdef.specs.Contents.{Scope}
use Rattle.php_memdef.specs.Temporaries.{with_falling}
use Rattle.php_memplain_cells.specs.Seen.{block_falling}
use Rattle.php_memplain_cells.specs.Falls.{FirstIs}
use Rattle.php_memplain_cells.specs.Memory.{memory_seen, falling_in}
use Rattle.php_memplain_cells.proofs.MemoryLemmas.{scope_there, falling_put, falls_put}
use Rattle.php_memplain_cells.proofs.cells.Cells.take_first.Goals as goal

pub returns-clause-memory : goal.returns-clause-memory
returns-clause-memory c =
    let s = c.args.self.now in
    let b = c.args.block in
    let e = c.index_mut.ensures.value in
    let g = c.next_fallen.new.self in
    falls_put s b c.index_mut.result.now e g (block_falling g) c.next_fallen.ensures.falling ∙ ap (with_falling (memory_seen s) b) (sym (falling_put s b c.index_mut.result.now e g))

pub returns-clause-first : goal.returns-clause-first
returns-clause-first c =
    let s = c.args.self.now in
    let b = c.args.block in
    let e = c.index_mut.ensures.value in
    let f = c.index_mut.result.now in
    let g = c.next_fallen.new.self in
    subst (λ x. FirstIs c.next_fallen.result x (falling_in (record s { blocks = with_value s.blocks b g }) b)) (sym (ap (λ (x : Scope). x.falling) (scope_there s b f e)))
    (subst (λ x. FirstIs c.next_fallen.result (block_falling f) x) (sym (falling_put s b f e g)) c.next_fallen.ensures.first)
