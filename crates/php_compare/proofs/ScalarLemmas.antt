-- Values without parts compare as scalars do.
use Rattle.std.proofs.Common.{◌≡◌, refl}
use Rattle.php_value.specs.declared.scalar.Scalar.{Scalar}
use Rattle.php_value.specs.declared.scalar.Scalar.TheVariants.{Null, Bool as Truth, Int, Str}
use Rattle.php_value.specs.Comparison.{order_of}
use Rattle.php_memdef.specs.Contents.{Content, Mem}
use Rattle.php_memdef.specs.Temporaries.{content_of_scalar}
use Rattle.php_compare.specs.Outcomes.{Compared, or_ends}
use Rattle.php_compare.specs.Ordering.{order_by_rules}

pub scalars : (inner : Content → Content → Compared) (m : Mem) (v w : Scalar) → order_by_rules inner m (content_of_scalar v) (content_of_scalar w) ≡ or_ends (order_of v w)
scalars inner m Null Null = refl
scalars inner m Null (Truth b) = refl
scalars inner m Null (Int j) = refl
scalars inner m Null (Str t) = refl
scalars inner m (Truth a) Null = refl
scalars inner m (Truth a) (Truth b) = refl
scalars inner m (Truth a) (Int j) = refl
scalars inner m (Truth a) (Str t) = refl
scalars inner m (Int i) Null = refl
scalars inner m (Int i) (Truth b) = refl
scalars inner m (Int i) (Int j) = refl
scalars inner m (Int i) (Str t) = refl
scalars inner m (Str s) Null = refl
scalars inner m (Str s) (Truth b) = refl
scalars inner m (Str s) (Int j) = refl
scalars inner m (Str s) (Str t) = refl
