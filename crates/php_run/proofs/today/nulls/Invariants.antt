use Rattle.std.proofs.Common.{◌≡◌, replicate}
use Rattle.php_first_run.specs.declared.value.Value.TheVariants.{Null}
use Rattle.php_run.proofs.today.nulls.Given as goal

abbrev pub invariant-loop-made : goal.invariant-loop-made
invariant-loop-made l = l.values.items ≡ replicate l._made Null
