use Rattle.std.specs.Prelude.{◌+ℤ◌, ◌-ℤ◌, ◌*ℤ◌}
use Rattle.php_value.proofs.Powers.{ranged_by}
use Rattle.php_value.proofs.integers.on_ints.Goals as goal

pub returns-in-Add : goal.returns-in-Add
returns-in-Add c = rw c.in-Add.is (ranged_by (λ x y. x +ℤ y) _ _ _ _ c.ranges.x c.ranges.y c.checked_add.ensures c.in_range.ensures)

pub returns-in-Sub : goal.returns-in-Sub
returns-in-Sub c = rw c.in-Sub.is (ranged_by (λ x y. x -ℤ y) _ _ _ _ c.ranges.x c.ranges.y c.checked_sub.ensures c.in_range-in-Sub.ensures)

pub returns-in-Mul : goal.returns-in-Mul
returns-in-Mul c = rw c.in-Mul.is (ranged_by (λ x y. x *ℤ y) _ _ _ _ c.ranges.x c.ranges.y c.checked_mul.ensures c.in_range-in-Mul.ensures)
