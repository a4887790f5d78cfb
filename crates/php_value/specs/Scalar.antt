-- Which values are texts.
use Rattle.std.specs.Prelude.{Bool, true, false}
use Rattle.php_value.specs.declared.key.Key.{Key}
use Rattle.php_value.specs.declared.key.Key.TheVariants.{Int as IntKey, Str as TextKey}
use Rattle.php_value.specs.declared.scalar.Scalar.{Scalar}
use Rattle.php_value.specs.declared.scalar.Scalar.TheVariants.{Str}

abbrev pub is_text : Scalar → Bool
is_text (Str t) = true
is_text v = false

abbrev pub is_text_key : Key → Bool
is_text_key (TextKey t) = true
is_text_key (IntKey z) = false
