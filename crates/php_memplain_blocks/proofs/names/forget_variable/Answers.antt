use Rattle.std.proofs.Common.{ℕ, List, [], ◌∷◌, ◌++◌, map, sym, ◌∙◌, ap, arith}
use Rattle.std.specs.Prelude.{Option}
use Rattle.php_memdef.specs.Contents as model
use Rattle.php_memdef.specs.Contents.{link}
use Rattle.php_memplain_cells.specs.Seen.{variable_seen, scope_seen}
use Rattle.php_memplain_blocks.specs.Variables.{forget_scope}
use Rattle.php_memplain_blocks.proofs.names.forget_variable.Goals as goal

pub remove-variable-requires : goal.remove-variable-requires
remove-variable-requires c = let ok = c.args.block.now.variables.ok in omega (arith, c.in-Some.ensures.some.within)

pub returns-in-Some : goal.returns-in-Some
returns-in-Some c =
    let f = scope_seen c.args.block.now in
    let name = c.args.name in
    let stands = c.in-Some.ensures.some in
    c.fall_last.ensures.seen
    ∙ ap (λ (vs : List model.Variable). record f { variables = vs; falling = f.falling ++ link c.remove-variable.result.store ∷ [] }) (ap (map variable_seen) c.remove-variable.ensures.by_index.2 ∙ sym stands.without)
    ∙ ap (λ (o : Option ℕ). forget_scope name o f) (sym (stands.store c.remove-variable.result c.remove-variable.ensures.value))

pub returns-in-None : goal.returns-in-None
returns-in-None c = ap (λ (o : Option ℕ). forget_scope c.args.name o (scope_seen c.args.block.now)) (sym c.in-None.ensures.none)
