use Rattle.php_compare.specs.Places.{or_null}
use Rattle.php_glance.proofs.GlanceLemmas.{stands, tells_likeness}
use Rattle.php_glance.proofs.glance.identity_at_a_glance.Goals as goal

pub returns : goal.returns
returns c = λ inner m x y e f. rw c.look_for_identity.ensures (tells_likeness inner m c.args.left.now c.args.right.now (or_null x) (or_null y) (stands c.args.left.now x e) (stands c.args.right.now y f))
