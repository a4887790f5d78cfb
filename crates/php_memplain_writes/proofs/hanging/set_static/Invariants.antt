use Rattle.std.proofs.Common.{◌≡◌, ◌≤◌, ◌<◌, ◌-◌, ℕ, length}
use Rattle.std.specs.Prelude.{Option, vec_capacity}
use Rattle.php_memdef.specs.Numbered.{with_numbered}
use Rattle.php_memplain_writes.proofs.hanging.set_static.Given as goal

-- those before the number that were missing are noted as missing so far
abbrev pub invariant-loop-statics : goal.invariant-loop-statics
invariant-loop-statics l = record {
  noted : (y : Option ℕ) → with_numbered l.statics.items l.number y ≡ with_numbered l.fn.statics.items l.number y;
  within : length l.statics.items ≤ l.number;
  room : l.number < vec_capacity l.statics;
}

abbrev pub decreases-loop-statics : goal.decreases-loop-statics
decreases-loop-statics l = l.number - length l.statics.items
