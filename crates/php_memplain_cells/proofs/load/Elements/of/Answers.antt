use Rattle.std.proofs.Common.{ap}
use Rattle.php_memdef.specs.Releases.{entry_links}
use Rattle.php_memplain_cells.proofs.LoadLemmas.{later_all}
use Rattle.php_memplain_cells.proofs.load.Elements.of.Goals as goal

pub returns : goal.returns
returns c = ap entry_links (later_all 0 c.args.entries.entries c.args.entries.next_serial c.len-count.ensures.sound.serials_rise)
