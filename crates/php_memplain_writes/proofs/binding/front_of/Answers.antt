use Rattle.std.proofs.Common.{length, ap, subst, arith}
use Rattle.php_memdef.specs.declared.place.Place.{Place}
use Rattle.php_memplain_writes.specs.Ways.{IsFront}
use Rattle.php_memplain_writes.proofs.binding.front_of.Goals as goal

pub drop_last-requires : goal.drop_last-requires
drop_last-requires c = omega (arith, c.requires, ap (λ (p : Place). length p.path) c.in_ok-front.ensures)

pub returns : goal.returns
returns c = subst (λ (p : Place). IsFront p c.drop_last.new.place) c.in_ok-front.ensures c.drop_last.ensures.front
