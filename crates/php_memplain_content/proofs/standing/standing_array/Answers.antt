use Rattle.std.proofs.Common.{◌∙◌, ap}
use Rattle.std.specs.Prelude.{Option, option_map, unwrap_or}
use Rattle.php_memdef.specs.Contents.{no_scope}
use Rattle.php_memdef.specs.Places.{nth_item, content_if, elements_of}
use Rattle.php_memplain_cells.specs.declared.block.Block.{Block}
use Rattle.php_memplain_cells.specs.Seen.{scope_seen}
use Rattle.php_memplain_content.proofs.standing.standing_array.Goals as goal

pub returns-in-Some : goal.returns-in-Some
returns-in-Some c = c.array_among.ensures ∙ ap (λ (o : Option Block). elements_of (content_if (nth_item (unwrap_or (option_map scope_seen o) no_scope).temps c.args.depth))) c.in-Some.ensures

pub returns-in-None : goal.returns-in-None
returns-in-None c = ap (λ (o : Option Block). elements_of (content_if (nth_item (unwrap_or (option_map scope_seen o) no_scope).temps c.args.depth))) c.in-None.ensures
