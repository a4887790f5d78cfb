use Rattle.std.proofs.Common.{refl}
use Rattle.php_parse_script.specs.Owner.{of_class}
use Rattle.php_parse_script.proofs.Listings.{listing_behind, listing_none}
use Rattle.php_parse_script.proofs.names.interfaces.Goals as goal

pub returns-then-not-sees_implements : goal.returns-then-not-sees_implements
returns-then-not-sees_implements c = λ words n parent. listing_none (of_class words n parent) c.args.reader.now c.args.at _ c.new.ensures refl c.if-not-sees_implements.ensures c.requires

pub returns : goal.returns
returns c = λ words n parent. listing_behind (of_class words n parent) c.args.reader.now c.args.at _ c.if-not-sees_implements.ensures c.names.ensures
