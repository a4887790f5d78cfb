use Rattle.std.proofs.Common.{◌∙◌, ap, map}
use Rattle.std.specs.Prelude.{unwrap_or}
use Rattle.php_memdef.specs.Numbered.{numbered}
use Rattle.php_memdef.specs.Contents.{no_object}
use Rattle.php_memplain_cells.specs.Seen.{property_seen, objects_seen}
use Rattle.php_memplain_objects.specs.Cloning.{nth_of}
use Rattle.php_memplain_objects.proofs.properties.nth_property.Goals as goal

pub returns-in-Some : goal.returns-in-Some
returns-in-Some c =
    c.nth.ensures
    ∙ ap (λ ps. nth_of (map property_seen ps) c.args.place) c.as_slice-in-Some.ensures.value
    ∙ ap (λ o. nth_of (unwrap_or o no_object).properties c.args.place) (c.in-Some.ensures ∙ ap (λ os. numbered (objects_seen os) c.args.number) c.as_slice.ensures.value)

pub returns-in-None : goal.returns-in-None
returns-in-None c = ap (λ o. nth_of (unwrap_or o no_object).properties c.args.place) (c.in-None.ensures ∙ ap (λ os. numbered (objects_seen os) c.args.number) c.as_slice.ensures.value)
