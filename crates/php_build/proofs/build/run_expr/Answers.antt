use Rattle.php_build.proofs.Flats.{run_flat}
use Rattle.php_build.proofs.build.run_expr.Goals as goal

pub returns-clause-flat : goal.returns-clause-flat
returns-clause-flat c = run_flat c.args.first c.args.links c.requires
