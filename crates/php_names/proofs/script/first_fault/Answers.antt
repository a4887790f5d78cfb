use Rattle.std.proofs.Common.{◌++◌}
use Rattle.php_ast.specs.declaration.View.{script_view}
use Rattle.php_jumps.specs.Promise.{jump_kinds}
use Rattle.php_forms.specs.Promise.{form_kinds}
use Rattle.php_duplicates.specs.Promise.{duplicate_kinds}
use Rattle.php_many_names.specs.Promise.{name_kinds}
use Rattle.php_names.proofs.KindLemmas.{in_order}
use Rattle.php_names.proofs.script.first_fault.Goals as goal

pub returns : goal.returns
returns c =
    in_order (script_view c.args.script.now) c.earlier.result
    (c.earlier.ensures (script_view c.args.script.now) (jump_kinds ++ form_kinds) (duplicate_kinds ++ name_kinds)
    (c.earlier-inside.ensures (script_view c.args.script.now) jump_kinds form_kinds c.first_jump_fault-jump.ensures c.first_form_fault-form.ensures)
    (c.earlier-named.ensures (script_view c.args.script.now) duplicate_kinds name_kinds c.in_ok-duplicate.ensures c.in_ok-name.ensures))
