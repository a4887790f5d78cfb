use Rattle.std.proofs.Common.{List, sym, ◌∙◌, ap}
use Rattle.std.specs.Prelude.{Some}
use Rattle.php_memdef.specs.Contents.{Item}
use Rattle.php_memplain_cells.specs.Seen.{scope_seen}
use Rattle.php_memplain_writes.proofs.standing.swap_standing.Goals as goal

pub value_of-requires : goal.value_of-requires
value_of-requires c = (c.requires.0, sym c.swap_temp-before.ensures.before ∙ c.requires.1)

pub returns-clause-before : goal.returns-clause-before
returns-clause-before c = c.swap_temp-before.ensures.before ∙ ap Some (sym c.value_of.ensures)

pub returns-clause-seen : goal.returns-clause-seen
returns-clause-seen c = ap (λ (is : List Item). record (scope_seen c.args.block.now) { temps = is }) c.swap_temp-before.ensures.seen
