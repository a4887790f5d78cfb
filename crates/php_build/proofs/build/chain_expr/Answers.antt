use Rattle.php_build.proofs.Flats.{leaf_flat, chain_flat}
use Rattle.php_build.proofs.build.chain_expr.Goals as goal

pub returns-then-is_empty-clause-flat : goal.returns-then-is_empty-clause-flat
returns-then-is_empty-clause-flat c = leaf_flat c.args.first c.requires.first

pub returns-clause-flat : goal.returns-clause-flat
returns-clause-flat c = chain_flat _ c.args.first c.args.suffixes c.in_ok-new.ensures c.requires.first c.requires.suffixes (λ h. let e = c.if-is_empty.ensures.1 h in cc)
