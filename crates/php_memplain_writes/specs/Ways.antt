-- How far the path of a place leads, and the place to which some of its steps lead.
use Rattle.std.specs.Prelude.{◌≡◌, ℕ, [], ◌∷◌, ◌++◌, take, option_map}
use Rattle.php_memdef.specs.declared.place.Place.{Place}
use Rattle.php_memdef.specs.declared.place.Step.{Step}
use Rattle.php_memdef.specs.Contents.{Mem}
use Rattle.php_memdef.specs.Places.{base_spot}
use Rattle.php_memdef.specs.Views.{steps_along, end_along}
use Rattle.php_memplain_places.specs.Spots.{spot_seen}
use Rattle.php_memplain_writes.specs.declared.way.Way.{Way}

-- so many steps lead somewhere, and there the last of them leads
pub record WayIs (w : Way) (m : Mem) (p : Place) : Type 0 where
  pub steps : w.steps ≡ steps_along m (base_spot m p.base) p.path
  pub end : option_map spot_seen w.end ≡ end_along m (base_spot m p.base) p.path

-- the same base, and the first steps of the path
pub record IsBegun (p : Place) (steps : ℕ) (q : Place) : Type 0 where
  pub base : q.base ≡ p.base
  pub path : q.path ≡ take steps p.path

-- the same place without its last step
pub record IsFront (p q : Place) : Type 0 where
  pub base : q.base ≡ p.base
  pub last : Step
  pub path : p.path ≡ q.path ++ last ∷ []
