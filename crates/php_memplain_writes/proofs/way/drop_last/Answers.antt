use Rattle.std.proofs.Common.{[], ◌∷◌, length, refl, ◌∙◌, ap, arith, length-append}
use Rattle.php_memplain_writes.proofs.way.drop_last.Goals as goal

pub returns-clause-front : goal.returns-clause-front
returns-clause-front c = record { base = refl; last = _; path = c.in-Some.ensures.last }

pub returns-clause-less : goal.returns-clause-less
returns-clause-less c = ap length c.in-Some.ensures.last ∙ length-append c.pop.new.self (_ ∷ [])

pub unreachable-requires : goal.unreachable-requires
unreachable-requires c = omega (arith, c.requires, ap length c.in-None.ensures.empty.0)
