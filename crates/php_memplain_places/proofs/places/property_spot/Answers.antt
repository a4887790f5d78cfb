use Rattle.std.proofs.Common.{◌∙◌, ap, map}
use Rattle.std.specs.Prelude.{unwrap_or}
use Rattle.php_memdef.specs.Numbered.{numbered}
use Rattle.php_memdef.specs.Contents.{no_object}
use Rattle.php_memdef.specs.Places.{property_store, stored_if}
use Rattle.php_memplain_cells.specs.Seen.{property_seen, objects_seen}
use Rattle.php_memplain_places.proofs.places.property_spot.Goals as goal

pub returns-in-Some : goal.returns-in-Some
returns-in-Some c =
    c.stored.ensures
    ∙ ap stored_if (c.property_store.ensures
    ∙ ap (λ ps. property_store (map property_seen ps) c.args.name.now) c.as_slice-in-Some.ensures.value
    ∙ ap (λ o. property_store (unwrap_or o no_object).properties c.args.name.now) (c.in-Some.ensures ∙ ap (λ os. numbered (objects_seen os) c.args.number) c.as_slice.ensures.value))

pub returns-in-None : goal.returns-in-None
returns-in-None c = ap (λ o. stored_if (property_store (unwrap_or o no_object).properties c.args.name.now)) (c.in-None.ensures ∙ ap (λ os. numbered (objects_seen os) c.args.number) c.as_slice.ensures.value)
