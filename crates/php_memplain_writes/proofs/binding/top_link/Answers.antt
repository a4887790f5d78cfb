use Rattle.std.proofs.Common.{sym, ◌∙◌, ap}
use Rattle.std.specs.Prelude.{Some}
use Rattle.php_memplain_writes.proofs.WayLemmas.{none_some, same_some}
use Rattle.php_memplain_writes.proofs.binding.top_link.Goals as goal

pub unreachable-requires : goal.unreachable-requires
unreachable-requires c = none_some (c.in-None.ensures ∙ c.requires.1)

pub store_of_link-requires : goal.store_of_link-requires
store_of_link-requires c = (c.requires.0, same_some (c.in-Some.ensures ∙ c.requires.1))

pub returns : goal.returns
returns c = sym c.in-Some.ensures ∙ ap Some c.store_of_link.ensures
