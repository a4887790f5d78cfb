use Rattle.php_compare.specs.Places.{or_null}
use Rattle.php_glance.proofs.GlanceLemmas.{stands, tells}
use Rattle.php_glance.proofs.glance.at_a_glance.Goals as goal

pub returns : goal.returns
returns c = λ inner m x y e f. rw c.look.ensures (tells inner m c.args.left.now c.args.right.now (or_null x) (or_null y) (stands c.args.left.now x e) (stands c.args.right.now y f))
