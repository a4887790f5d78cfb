use Rattle.std.proofs.Common.{◌∷◌, sym, ◌∙◌, ap, arith}
use Rattle.php_memdef.specs.Contents.{Scope}
use Rattle.php_memdef.specs.Temporaries.{rest_of, top_of}
use Rattle.php_memplain_cells.specs.Seen.{item_seen}
use Rattle.php_memplain_cells.proofs.MemoryLemmas.{scope_there}
use Rattle.php_memplain_blocks.proofs.MoveLemmas.{scope_changed, temps_length}
use Rattle.php_memplain_blocks.proofs.moves.swap.Goals as goal

pub swap_top-requires : goal.swap_top-requires
swap_top-requires c = omega (arith, c.requires.some, temps_length c.args.cells.now c.args.block c.index_mut.result.now c.index_mut.ensures.value)

pub returns-clause-seen : goal.returns-clause-seen
returns-clause-seen c = scope_changed c.args.cells.now c.args.block c.index_mut.result.now c.index_mut.ensures.value c.swap_top.new.block (λ (x : Scope). record x { temps = item_seen c.args.item ∷ rest_of x.temps }) c.swap_top.ensures.seen

pub returns-clause-top : goal.returns-clause-top
returns-clause-top c = c.swap_top.ensures.top ∙ ap (λ (x : Scope). top_of x.temps) (sym (scope_there c.args.cells.now c.args.block c.index_mut.result.now c.index_mut.ensures.value))
