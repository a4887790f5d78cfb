use Rattle.std.proofs.Common.{◌∙◌, ap}
use Rattle.std.specs.Prelude.{unwrap_or}
use Rattle.php_memdef.specs.Numbered.{numbered}
use Rattle.php_memdef.specs.Contents.{no_object}
use Rattle.php_memplain_cells.specs.Seen.{objects_seen}
use Rattle.php_memplain_places.proofs.objects.class_of.Goals as goal

pub returns-in-Some : goal.returns-in-Some
returns-in-Some c = ap (λ o. (unwrap_or o no_object).class) (c.in-Some.ensures ∙ ap (λ os. numbered (objects_seen os) c.args.number) c.as_slice.ensures.value)

pub returns-in-None : goal.returns-in-None
returns-in-None c = ap (λ o. (unwrap_or o no_object).class) (c.in-None.ensures ∙ ap (λ os. numbered (objects_seen os) c.args.number) c.as_slice.ensures.value)
