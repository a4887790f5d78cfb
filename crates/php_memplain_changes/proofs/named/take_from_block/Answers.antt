use Rattle.std.proofs.Common.{List, map, sym, ◌∙◌, ap, arith}
use Rattle.std.specs.Prelude.{Some}
use Rattle.php_memdef.specs.Contents as model
use Rattle.php_memplain_cells.specs.declared.block.Variable.{Variable}
use Rattle.php_memplain_cells.specs.Seen.{variable_seen, scope_seen}
use Rattle.php_memplain_changes.specs.Named.{has_name}
use Rattle.php_memplain_changes.proofs.NameLemmas.{first_within, variable_first, variable_out, variable_none, variable_missing}
use Rattle.php_memplain_changes.proofs.named.take_from_block.Goals as goal

pub remove-variable-requires : goal.remove-variable-requires
remove-variable-requires c = let ok = c.args.block.now.variables.ok in omega (arith, first_within (has_name c.args.name) c.args.block.now.variables.items c.in-Some.at c.in-Some.ensures.some)

pub returns-in-Some-clause-seen : goal.returns-in-Some-clause-seen
returns-in-Some-clause-seen c =
    ap (λ (vs : List model.Variable). record (scope_seen c.args.block.now) { variables = vs })
    (ap (map variable_seen) c.remove-variable.ensures.by_index.2 ∙ variable_out c.args.name c.args.block.now.variables.items c.in-Some.at c.in-Some.ensures.some)

pub returns-in-Some-clause-store : goal.returns-in-Some-clause-store
returns-in-Some-clause-store c =
    ap (λ (v : Variable). Some v.store) c.remove-variable.ensures.value
    ∙ variable_first c.args.name c.args.block.now.variables.items c.in-Some.at c.remove-variable.result c.in-Some.ensures.some

pub returns-in-None-clause-seen : goal.returns-in-None-clause-seen
returns-in-None-clause-seen c =
    ap (λ (vs : List model.Variable). record (scope_seen c.args.block.now) { variables = vs })
    (sym (variable_missing c.args.name (map variable_seen c.args.block.now.variables.items) (sym (variable_none c.args.name c.args.block.now.variables.items c.in-None.ensures.none))))

pub returns-in-None-clause-store : goal.returns-in-None-clause-store
returns-in-None-clause-store c = variable_none c.args.name c.args.block.now.variables.items c.in-None.ensures.none
