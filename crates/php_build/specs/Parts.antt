-- What is asked of parts of trees.
use Rattle.std.specs.Prelude.{Bool, true, false}
use Rattle.php_ast.specs.declared.expression.Suffix.{Suffix}
use Rattle.php_ast.specs.declared.expression.Suffix.TheVariants as suffix

abbrev pub is_call_suffix : {A : Type 0} → Suffix A → Bool
is_call_suffix suffix.Append = false
is_call_suffix (suffix.Index e) = false
is_call_suffix (suffix.Property n) = false
is_call_suffix (suffix.Member m) = false
is_call_suffix (suffix.Call arguments) = true
