use Rattle.std.proofs.Common.{◌∙◌}
use Rattle.php_memdef.specs.Views.{found}
use Rattle.php_compare.specs.Identity.{same_nested}
use Rattle.php_compare.specs.Places.{content_there}
use Rattle.php_lib.proofs.OutcomeLemmas.{comes_along, whole_identity}
use Rattle.php_lib.proofs.identity.same.Goals as goal

pub same_by_glance-requires-clause-tells : goal.same_by_glance-requires-clause-tells
same_by_glance-requires-clause-tells g c = λ m k. c.identity_at_a_glance.ensures (same_nested m 256) m (found m c.args.a.now) (found m c.args.b.now) (c.peek-left.ensures m k) (c.peek-right.ensures m k)

pub returns-clause-value : goal.returns-clause-value
returns-clause-value g c = λ m k sound. comes_along c.same_by_glance.result _ _ (c.same_by_glance.ensures.value m k sound) (whole_identity m (content_there m c.args.a.now) (content_there m c.args.b.now))

pub returns-clause-takes_no_memory : goal.returns-clause-takes_no_memory
returns-clause-takes_no_memory g c = λ m k flat. c.same_by_glance.ensures.takes_no_memory m k flat ∙ whole_identity m (content_there m c.args.a.now) (content_there m c.args.b.now)
