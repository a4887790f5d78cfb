use Rattle.std.proofs.Common.{◌∙◌, ap, Some}
use Rattle.std.specs.Prelude.{is_some}
use Rattle.php_array.proofs.IndexLemmas.{SetsPlace-updates, lookup_same}
use Rattle.php_array.proofs.key_places.move_place.Goals as goal

pub returns-in-Some : goal.returns-in-Some
returns-in-Some c =
    let written = c.get_mut.follows.holds c.args.place in
    let there = ap is_some (lookup_same c.args.key.now c.args.places.now.entries) ∙ c.requires in
    SetsPlace-updates c.args.places.now.entries (c.get_mut.follows.lender c.args.place).entries c.args.key.now (Some c.args.place) (written.3 there).0
