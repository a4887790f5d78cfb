use Rattle.std.proofs.Common.{◌≡◌, sym, subst}
use Rattle.std.specs.Prelude.{OnOk}
use Rattle.php_memdef.specs.Conditions.{IsBase}
use Rattle.php_memplain_cells.specs.Memory.{memory_seen}
use Rattle.php_memplain_writes.specs.Reached.{IsNoTemp, with_base}
use Rattle.php_memplain_writes.proofs.BlockLemmas.{block_live}
use Rattle.php_memplain_writes.proofs.hanging.add_base.Goals as goal

pub hang_variable-requires : goal.hang_variable-requires
hang_variable-requires c = block_live c.args.cells.now c.in-Var.block.0 (subst (IsBase (memory_seen c.args.cells.now)) c.in-Var.is c.requires.there)

pub hang_property-requires : goal.hang_property-requires
hang_property-requires c = (subst (IsBase (memory_seen c.args.cells.now)) c.in-Property.is c.requires.there).0

pub returns-in-Var-clause-ok : goal.returns-in-Var-clause-ok
returns-in-Var-clause-ok c = subst (λ b. OnOk c.hang_variable.result (memory_seen c.hang_variable.new.cells ≡ with_base b (memory_seen c.args.cells.now) c.args.store)) (sym c.in-Var.is) c.hang_variable.ensures.ok

pub returns-in-Property-clause-ok : goal.returns-in-Property-clause-ok
returns-in-Property-clause-ok c = subst (λ b. OnOk c.hang_property.result (memory_seen c.hang_property.new.cells ≡ with_base b (memory_seen c.args.cells.now) c.args.store)) (sym c.in-Property.is) c.hang_property.ensures.ok

pub returns-in-Static-clause-ok : goal.returns-in-Static-clause-ok
returns-in-Static-clause-ok c = subst (λ b. OnOk c.hang_static.result (memory_seen c.hang_static.new.cells ≡ with_base b (memory_seen c.args.cells.now) c.args.store)) (sym c.in-Static.is) c.hang_static.ensures.ok

pub unreachable-requires : goal.unreachable-requires
unreachable-requires c = subst IsNoTemp c.in-Temp.is c.requires.no_temp
