use Rattle.std.proofs.Common.{◌≡◌, ◌++◌}
use Rattle.php_meaning.specs.Heights.{peak_of_items}
use Rattle.php_compile.specs.ExpressionCode.{echo_code}
use Rattle.php_compile.proofs.CodeLoops.{values_to}
use Rattle.php_compile.proofs.emitter.Emitter.put_values.Given as goal

abbrev pub invariant-loop-value : goal.invariant-loop-value
invariant-loop-value l =
    (l.self.code ≡ l.fn.self.code ++ echo_code l.names.keys (values_to l.value-index l.values))
    × (l.self.peak ≡ peak_of_items l.names.keys l.standing l.fn.self.peak (values_to l.value-index l.values))
