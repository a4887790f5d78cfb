use Rattle.std.proofs.Common.{refl}
use Rattle.php_parse_script.specs.Owner.{of_interface}
use Rattle.php_parse_script.proofs.Listings.{listing_behind, listing_none}
use Rattle.php_parse_script.proofs.names.parents.Goals as goal

pub returns-then-not-sees_extends : goal.returns-then-not-sees_extends
returns-then-not-sees_extends c = λ n. listing_none (of_interface n) c.args.reader.now c.args.at _ c.new.ensures refl c.if-not-sees_extends.ensures c.requires

pub returns : goal.returns
returns c = λ n. listing_behind (of_interface n) c.args.reader.now c.args.at _ c.if-not-sees_extends.ensures c.names.ensures
