use Rattle.std.proofs.Common.{sym, ap, subst}
use Rattle.php_memdef.specs.declared.place.Base.{Base}
use Rattle.php_memdef.specs.Conditions.{IsBase}
use Rattle.php_memdef.specs.Writes.{base_removed}
use Rattle.php_memplain_cells.specs.Memory.{memory_seen}
use Rattle.php_memplain_changes.specs.Taken.{Takes}
use Rattle.php_memplain_changes.proofs.SwapLemmas.{block_live}
use Rattle.php_memplain_changes.proofs.NameLemmas.{nothing_taken}
use Rattle.php_memplain_changes.proofs.named.take_base.Goals as goal

pub take_variable-requires-clause-block : goal.take_variable-requires-clause-block
take_variable-requires-clause-block c = block_live c.args.cells.now c.in-Var.block.0 (subst (IsBase (memory_seen c.args.cells.now)) c.in-Var.is c.requires.there)

pub take_property-requires-clause-object : goal.take_property-requires-clause-object
take_property-requires-clause-object c = (subst (IsBase (memory_seen c.args.cells.now)) c.in-Property.is c.requires.there).0

pub returns-in-Var : goal.returns-in-Var
returns-in-Var c = subst (λ (x : Base). Takes c.args.cells.now c.take_variable.new.cells c.take_variable.result (λ b. base_removed (memory_seen c.args.cells.now) b x)) (sym c.in-Var.is) c.take_variable.ensures

pub returns-in-Property : goal.returns-in-Property
returns-in-Property c = subst (λ (x : Base). Takes c.args.cells.now c.take_property.new.cells c.take_property.result (λ b. base_removed (memory_seen c.args.cells.now) b x)) (sym c.in-Property.is) c.take_property.ensures

pub returns-in-Static : goal.returns-in-Static
returns-in-Static c = nothing_taken c.args.cells.now (λ b. base_removed (memory_seen c.args.cells.now) b c.args.base.now) c.requires.counted (λ b. ap (base_removed (memory_seen c.args.cells.now) b) (sym c.in-Static.is))

pub returns-in-Temp : goal.returns-in-Temp
returns-in-Temp c = nothing_taken c.args.cells.now (λ b. base_removed (memory_seen c.args.cells.now) b c.args.base.now) c.requires.counted (λ b. ap (base_removed (memory_seen c.args.cells.now) b) (sym c.in-Temp.is))
