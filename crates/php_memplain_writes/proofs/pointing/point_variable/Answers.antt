use Rattle.std.proofs.Common.{List, map, sym, ◌∙◌, ap, arith}
use Rattle.std.specs.Prelude.{Some}
use Rattle.php_memdef.specs.Contents as model
use Rattle.php_memdef.specs.Writes.{with_variable}
use Rattle.php_memplain_cells.specs.declared.block.Variable.{Variable}
use Rattle.php_memplain_cells.specs.Seen.{variable_seen, scope_seen}
use Rattle.php_memplain_writes.specs.Pointing.{has_name}
use Rattle.php_memplain_writes.proofs.BindLemmas.{variable_new}
use Rattle.php_memplain_writes.proofs.PointLemmas.{first_within, variable_first, variable_set, variable_none}
use Rattle.php_memplain_writes.proofs.pointing.point_variable.Goals as goal

pub index_mut-requires : goal.index_mut-requires
index_mut-requires c = let ok = c.args.block.now.variables.ok in omega (arith, first_within (has_name c.args.name) c.args.block.now.variables.items c.in-Some.at c.in-Some.ensures.some)

pub returns-in-Some-clause-before : goal.returns-in-Some-clause-before
returns-in-Some-clause-before c =
    ap Some (c.replace.ensures.value ∙ ap (λ (v : Variable). v.store) c.index_mut.ensures.value)
    ∙ variable_first c.args.name c.args.block.now.variables.items c.in-Some.at c.index_mut.result.now c.in-Some.ensures.some

pub returns-in-Some-clause-ok : goal.returns-in-Some-clause-ok
returns-in-Some-clause-ok c =
    ap (λ (vs : List model.Variable). record (scope_seen c.args.block.now) { variables = vs })
    (variable_set c.args.name c.args.block.now.variables.items c.in-Some.at c.index_mut.result.now _ c.in-Some.ensures.some (ap (λ (v : Variable). v.name) c.index_mut.ensures.value)
    ∙ ap (λ s. with_variable c.args.name s (map variable_seen c.args.block.now.variables.items)) c.replace.ensures.after)

pub returns-in-Ok-clause-before : goal.returns-in-Ok-clause-before
returns-in-Ok-clause-before c = variable_none c.args.name c.args.block.now.variables.items c.in-None.ensures.none

pub returns-in-Ok-clause-ok : goal.returns-in-Ok-clause-ok
returns-in-Ok-clause-ok c =
    c.in-Ok.ensures.ok
    ∙ ap (λ (vs : List model.Variable). record (scope_seen c.args.block.now) { variables = vs })
    (sym (variable_new c.args.name c.args.store (map variable_seen c.args.block.now.variables.items) (sym (variable_none c.args.name c.args.block.now.variables.items c.in-None.ensures.none))))
