use Rattle.std.proofs.Common.{◌∙◌}
use Rattle.php_memdef.specs.Views.{found}
use Rattle.php_compare.specs.Ordering.{order_nested}
use Rattle.php_compare.specs.Places.{content_there}
use Rattle.php_lib.proofs.OutcomeLemmas.{comes_along, whole_order}
use Rattle.php_lib.proofs.ordering.compare.Goals as goal

pub order_by_glance-requires-clause-tells : goal.order_by_glance-requires-clause-tells
order_by_glance-requires-clause-tells g c = λ m k. c.at_a_glance.ensures (order_nested m 256) m (found m c.args.a.now) (found m c.args.b.now) (c.peek-left.ensures m k) (c.peek-right.ensures m k)

pub returns-clause-value : goal.returns-clause-value
returns-clause-value g c = λ m k sound. comes_along c.order_by_glance.result _ _ (c.order_by_glance.ensures.value m k sound) (whole_order m (content_there m c.args.a.now) (content_there m c.args.b.now))

pub returns-clause-takes_no_memory : goal.returns-clause-takes_no_memory
returns-clause-takes_no_memory g c = λ m k flat. c.order_by_glance.ensures.takes_no_memory m k flat ∙ whole_order m (content_there m c.args.a.now) (content_there m c.args.b.now)
