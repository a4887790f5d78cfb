use Rattle.std.proofs.Common.{◌≡◌, [], sym, subst}
use Rattle.std.specs.Prelude.{IfOk}
use Rattle.php_memdef.specs.Conditions.{IsBase, IsPointed}
use Rattle.php_memdef.specs.Writes.{base_bound, bound}
use Rattle.php_memplain_cells.specs.Memory.{memory_seen}
use Rattle.php_memplain_writes.proofs.BlockLemmas.{block_live}
use Rattle.php_memplain_writes.proofs.PointLemmas.{bound_from}
use Rattle.php_memplain_writes.proofs.pointing.point_base.Goals as goal

pub point_at_variable-requires : goal.point_at_variable-requires
point_at_variable-requires c = block_live c.args.cells.now c.in-Var.block.0 (subst (IsBase (memory_seen c.args.cells.now)) c.in-Var.is c.requires.there)

pub point_at_property-requires : goal.point_at_property-requires
point_at_property-requires c = (subst (IsBase (memory_seen c.args.cells.now)) c.in-Property.is c.requires.there).0

pub returns-in-Var-clause-ok : goal.returns-in-Var-clause-ok
returns-in-Var-clause-ok c =
    subst (λ b. IfOk c.point_at_variable.result (λ before. base_bound (memory_seen c.args.cells.now) b c.args.store ≡ bound (memory_seen c.point_at_variable.new.cells) before)) (sym c.in-Var.is)
    (bound_from c.point_at_variable.result _ _ _ c.point_at_variable.ensures.ok c.point_at_variable.ensures.before)

pub returns-in-Property-clause-ok : goal.returns-in-Property-clause-ok
returns-in-Property-clause-ok c =
    subst (λ b. IfOk c.point_at_property.result (λ before. base_bound (memory_seen c.args.cells.now) b c.args.store ≡ bound (memory_seen c.point_at_property.new.cells) before)) (sym c.in-Property.is)
    (bound_from c.point_at_property.result _ _ _ c.point_at_property.ensures.ok c.point_at_property.ensures.before)

pub returns-in-Static-clause-ok : goal.returns-in-Static-clause-ok
returns-in-Static-clause-ok c =
    subst (λ b. IfOk c.point_at_static.result (λ before. base_bound (memory_seen c.args.cells.now) b c.args.store ≡ bound (memory_seen c.point_at_static.new.cells) before)) (sym c.in-Static.is)
    (bound_from c.point_at_static.result _ _ _ c.point_at_static.ensures.ok c.point_at_static.ensures.before)

pub unreachable-requires : goal.unreachable-requires
unreachable-requires c = subst (λ b. IsPointed b []) c.in-Temp.is c.requires.pointed
