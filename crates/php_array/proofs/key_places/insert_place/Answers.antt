use Rattle.std.proofs.Common.{Some, subst}
use Rattle.php_value.specs.declared.key.Key.{Key}
use Rattle.php_array.specs.Index.{SetsPlace}
use Rattle.php_array.proofs.IndexLemmas.{SetsPlace-updates}
use Rattle.php_array.proofs.key_places.insert_place.Goals as goal

pub returns-clause-ok : goal.returns-clause-ok
returns-clause-ok c =
    subst (λ (k : Key). SetsPlace c.args.places.now.entries c.insert.new.self.entries k (Some c.args.place)) c.in_ok-key.ensures
    (SetsPlace-updates c.args.places.now.entries c.insert.new.self.entries c.in_ok-key.key (Some c.args.place) c.in_ok-insert.ensures.updates.0)
