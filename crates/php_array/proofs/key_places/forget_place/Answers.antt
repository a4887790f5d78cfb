use Rattle.std.proofs.Common.{None}
use Rattle.php_array.proofs.IndexLemmas.{SetsPlace-updates}
use Rattle.php_array.proofs.key_places.forget_place.Goals as goal

pub returns : goal.returns
returns c = SetsPlace-updates c.args.places.now.entries c.swap_remove.new.self.entries c.args.key.now None c.swap_remove.ensures.updates.0
