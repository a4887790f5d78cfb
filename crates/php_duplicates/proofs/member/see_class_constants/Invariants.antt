use Rattle.std.proofs.Common.{◌≡◌, map, drop}
use Rattle.php_ast.specs.declaration.View.{class_constant_view}
use Rattle.php_duplicates.specs.Over.{over}
use Rattle.php_duplicates.specs.Met.{see_class_constant}
use Rattle.php_duplicates.proofs.member.see_class_constants.Given as goal

abbrev pub invariant-loop-constant : goal.invariant-loop-constant
invariant-loop-constant l = over see_class_constant (map class_constant_view (drop l.constant-index l.constants)) l.seen ≡ over see_class_constant (map class_constant_view l.constants) l.fn.seen
