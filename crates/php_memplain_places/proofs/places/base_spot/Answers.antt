use Rattle.std.proofs.Common.{sym, ◌∙◌, ap}
use Rattle.php_memdef.specs.Numbered.{numbered}
use Rattle.php_memdef.specs.Places.{stored_if, base_spot}
use Rattle.php_memplain_cells.specs.Memory.{memory_seen}
use Rattle.php_memplain_places.proofs.places.base_spot.Goals as goal

pub returns-in-Var : goal.returns-in-Var
returns-in-Var c = c.variable_spot.ensures ∙ ap (base_spot (memory_seen c.args.cells.now)) (sym c.in-Var.is)

pub returns-in-Property : goal.returns-in-Property
returns-in-Property c = c.property_spot.ensures ∙ ap (base_spot (memory_seen c.args.cells.now)) (sym c.in-Property.is)

pub returns-in-Static : goal.returns-in-Static
returns-in-Static c =
    c.stored.ensures
    ∙ ap stored_if (c.static_store.ensures ∙ ap (λ xs. numbered xs c.in-Static.id.0) c.as_slice.ensures.value)
    ∙ ap (base_spot (memory_seen c.args.cells.now)) (sym c.in-Static.is)

pub returns-in-Temp : goal.returns-in-Temp
returns-in-Temp c = c.temp_spot.ensures ∙ ap (base_spot (memory_seen c.args.cells.now)) (sym c.in-Temp.is)
