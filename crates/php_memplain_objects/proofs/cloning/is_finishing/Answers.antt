use Rattle.std.proofs.Common.{◌∙◌, ap}
use Rattle.std.specs.Prelude.{unwrap_or}
use Rattle.php_memdef.specs.Numbered.{numbered}
use Rattle.php_memdef.specs.Contents.{no_object}
use Rattle.php_memplain_cells.specs.Seen.{objects_seen}
use Rattle.php_memplain_objects.proofs.cloning.is_finishing.Goals as goal

pub returns-in-Some : goal.returns-in-Some
returns-in-Some c = ap (λ o. (unwrap_or o no_object).finishing) (c.in-Some.ensures ∙ ap (λ os. numbered (objects_seen os) c.args.number) c.as_slice.ensures.value)

pub returns-in-None : goal.returns-in-None
returns-in-None c = ap (λ o. (unwrap_or o no_object).finishing) (c.in-None.ensures ∙ ap (λ os. numbered (objects_seen os) c.args.number) c.as_slice.ensures.value)
