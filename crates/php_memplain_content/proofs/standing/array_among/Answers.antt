use Rattle.std.proofs.Common.{◌∙◌, ap}
use Rattle.std.specs.Prelude.{Option}
use Rattle.php_memdef.specs.Contents.{Item}
use Rattle.php_memdef.specs.Places.{content_if, elements_of}
use Rattle.php_memplain_content.proofs.standing.array_among.Goals as goal

pub returns-in-Some : goal.returns-in-Some
returns-in-Some c = c.elements_of_item.ensures ∙ ap (λ (o : Option Item). elements_of (content_if o)) c.in-Some.ensures

pub returns-in-None : goal.returns-in-None
returns-in-None c = ap (λ (o : Option Item). elements_of (content_if o)) c.in-None.ensures
