use Rattle.std.proofs.Common.{length, sym, ◌∙◌, ap, arith}
use Rattle.php_memdef.specs.Contents.{Scope}
use Rattle.php_memdef.specs.Temporaries.{rest_of, top_of}
use Rattle.php_memplain_cells.proofs.MemoryLemmas.{scope_there}
use Rattle.php_memplain_blocks.proofs.MoveLemmas.{scope_changed}
use Rattle.php_memplain_blocks.proofs.moves.pop.Goals as goal

pub unreachable-requires : goal.unreachable-requires
unreachable-requires c =
    let none = ap (λ (x : Scope). length x.temps) (scope_there c.args.cells.now c.args.block c.index_mut.result.now c.index_mut.ensures.value) ∙ ap length c.in-None.ensures.none in
    omega (arith, c.requires.some, none)

pub returns-clause-seen : goal.returns-clause-seen
returns-clause-seen c = scope_changed c.args.cells.now c.args.block c.index_mut.result.now c.index_mut.ensures.value c.pop_item.new.block (λ (x : Scope). record x { temps = rest_of x.temps }) c.pop_item.ensures.seen

pub returns-clause-top : goal.returns-clause-top
returns-clause-top c = c.in-Some.ensures.top ∙ ap (λ (x : Scope). top_of x.temps) (sym (scope_there c.args.cells.now c.args.block c.index_mut.result.now c.index_mut.ensures.value))
