use Rattle.std.proofs.Common.{refl, sym, ◌∙◌, map, get_or, arith}
use Rattle.std.specs.Prelude.{nat_eq}
use Rattle.php_memdef.specs.Places.{variable_store}
use Rattle.php_memplain_cells.specs.declared.block.Variable.{Variable}
use Rattle.php_memplain_cells.specs.Seen.{variable_seen}
use Rattle.php_memplain_places.proofs.SearchLemmas.{first_found, first_later, first_none}
use Rattle.php_memplain_places.proofs.places.variable_store.Goals as goal

pub returns-then-is_named : goal.returns-then-is_named
returns-then-is_named c = first_found (λ ys. variable_store (map variable_seen ys) c.args.name) (λ (v : Variable). nat_eq c.args.name v.name) (λ (v : Variable). v.store) (λ x xs. refl) c.args.variables.now c.loop-variable.variable-index _ c.loop-variable.invariant (get_or c.args.variables.now c.loop-variable.variable-index (record { name = 0; store = 0 })) (record { name = 0; store = 0 }) c.loop-variable-test.true refl (sym c.is_named.ensures ∙ c.if-is_named.true)

pub loop-variable-preserved : goal.loop-variable-preserved
loop-variable-preserved c = first_later (λ ys. variable_store (map variable_seen ys) c.args.name) (λ (v : Variable). nat_eq c.args.name v.name) (λ (v : Variable). v.store) (λ x xs. refl) c.args.variables.now c.loop-variable.variable-index _ c.loop-variable.invariant (get_or c.args.variables.now c.loop-variable.variable-index (record { name = 0; store = 0 })) (record { name = 0; store = 0 }) c.loop-variable-test.true refl (sym c.is_named.ensures ∙ c.if-is_named.false)

pub returns : goal.returns
returns c = first_none (λ ys. variable_store (map variable_seen ys) c.args.name) refl c.args.variables.now c.loop-variable.variable-index _ c.loop-variable.invariant (omega arith)
