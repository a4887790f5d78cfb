use Rattle.std.proofs.Common.{sym, ◌∙◌, ap}
use Rattle.std.specs.Prelude.{Some}
use Rattle.php_memdef.specs.Contents.{Scope}
use Rattle.php_memdef.specs.Temporaries.{rest_of, top_of}
use Rattle.php_memplain_cells.proofs.MemoryLemmas.{scope_there}
use Rattle.php_memplain_writes.proofs.BlockLemmas.{scope_changed, first_value, none_first}
use Rattle.php_memplain_writes.proofs.moving.pop_value.Goals as goal

pub value_of-requires : goal.value_of-requires
value_of-requires c =
    let top = c.in-Some.ensures.top ∙ ap (λ (x : Scope). top_of x.temps) (sym (scope_there c.args.cells.now c.args.block c.index_mut.result.now c.index_mut.ensures.value)) in
    (c.requires.top.0, ap Some (top ∙ first_value _ c.requires.top.0 c.requires.top.1))

pub unreachable-requires : goal.unreachable-requires
unreachable-requires c = none_first _ c.requires.top.0 (ap (λ (x : Scope). x.temps) (scope_there c.args.cells.now c.args.block c.index_mut.result.now c.index_mut.ensures.value) ∙ c.in-None.ensures.none) c.requires.top.1

pub returns-clause-seen : goal.returns-clause-seen
returns-clause-seen c = scope_changed c.args.cells.now c.args.block c.index_mut.result.now c.index_mut.ensures.value c.pop_temp.new.block (λ (x : Scope). record x { temps = rest_of x.temps }) c.pop_temp.ensures.seen

pub returns-clause-top : goal.returns-clause-top
returns-clause-top c = c.value_of.ensures ∙ c.in-Some.ensures.top ∙ ap (λ (x : Scope). top_of x.temps) (sym (scope_there c.args.cells.now c.args.block c.index_mut.result.now c.index_mut.ensures.value))
