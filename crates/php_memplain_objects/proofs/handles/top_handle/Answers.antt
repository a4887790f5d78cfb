use Rattle.std.proofs.Common.{sym, ◌∙◌, ap}
use Rattle.std.specs.Prelude.{Some}
use Rattle.php_memplain_cells.proofs.SlotLemmas.{no_some}
use Rattle.php_memplain_objects.proofs.HandleLemmas.{same_item}
use Rattle.php_memplain_objects.proofs.handles.top_handle.Goals as goal

pub unreachable-requires : goal.unreachable-requires
unreachable-requires c = no_some (c.in_default.ensures ∙ c.requires.1)

pub number_of_handle-requires : goal.number_of_handle-requires
number_of_handle-requires c = (c.requires.0, same_item (c.in-Some.ensures ∙ c.requires.1))

pub returns : goal.returns
returns c = sym c.in-Some.ensures ∙ ap Some c.number_of_handle.ensures
