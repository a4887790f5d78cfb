-- Where a place is, as the model says it.
use Rattle.std.specs.Prelude.{Option, Some, None}
use Rattle.php_memdef.specs.Contents as model
use Rattle.php_memdef.specs.Places as places
use Rattle.php_memplain_cells.specs.declared.content.Content.{Content}
use Rattle.php_memplain_cells.specs.Seen.{content_seen}
use Rattle.php_memplain_places.specs.declared.spot.Spot.{Spot}
use Rattle.php_memplain_places.specs.declared.spot.Spot.TheVariants.{Stored, Standing}

abbrev pub spot_seen : Spot → places.Spot
spot_seen (Stored s) = places.stored s
spot_seen (Standing b n) = places.standing b n

-- what is there, and null where nothing is
abbrev pub content_if_any : Option Content → model.Content
content_if_any None = model.null
content_if_any (Some c) = content_seen c
