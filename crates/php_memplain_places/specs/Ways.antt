-- How far the path of a place leads, as the model says it.
use Rattle.std.specs.Prelude.{◌≡◌, option_map}
use Rattle.php_memdef.specs.declared.place.Place.{Place}
use Rattle.php_memdef.specs.Contents.{Mem}
use Rattle.php_memdef.specs.Places.{base_spot}
use Rattle.php_memdef.specs.Views.{steps_along, end_along}
use Rattle.php_memplain_places.specs.declared.way.Way.{Way}
use Rattle.php_memplain_places.specs.Spots.{spot_seen}

-- so many steps lead somewhere, and there the last of them leads
pub record WayIs (w : Way) (m : Mem) (p : Place) : Type 0 where
  pub steps : w.steps ≡ steps_along m (base_spot m p.base) p.path
  pub end : option_map spot_seen w.end ≡ end_along m (base_spot m p.base) p.path
