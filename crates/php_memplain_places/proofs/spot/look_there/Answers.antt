use Rattle.std.proofs.Common.{sym, ap, subst}
use Rattle.std.specs.Prelude.{Some}
use Rattle.php_memdef.specs.Contents.{Content}
use Rattle.php_memdef.specs.Views.{Shows}
use Rattle.php_memplain_places.proofs.spot.look_there.Goals as goal

pub returns-in-Some : goal.returns-in-Some
returns-in-Some c = subst (λ (x : Content). Shows c.look_at.result (Some x)) c.in-Some.ensures c.look_at.ensures

pub returns-in-None : goal.returns-in-None
returns-in-None c = ap Some (sym c.in-None.ensures)
