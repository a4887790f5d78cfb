use Rattle.std.proofs.Common.{◌∙◌, ap}
use Rattle.php_legality.specs.Taken.{is_one_of}
use Rattle.php_forms.specs.ClassFaults.{own_names, type_names, constant_names}
use Rattle.php_forms.proofs.WordLemmas.{own_name, type_name, constant_name}
use Rattle.php_forms.proofs.class.is_no_class_name.Goals as goal

pub returns-then-is_own_name : goal.returns-then-is_own_name
returns-then-is_own_name c =
    own_name c.args.text.now c.is_own_name.result (c.is_own_name.ensures ∙ ap (is_one_of own_names) c.bytes.ensures) c.if-is_own_name.true

pub returns-then-is_type_name : goal.returns-then-is_type_name
returns-then-is_type_name c =
    type_name c.args.text.now c.is_own_name.result c.is_type_name.result (c.is_own_name.ensures ∙ ap (is_one_of own_names) c.bytes.ensures) c.if-is_own_name.false
    (c.is_type_name.ensures ∙ ap (is_one_of type_names) c.bytes-else-is_own_name.ensures) c.if-is_type_name.true

pub returns-else-is_type_name : goal.returns-else-is_type_name
returns-else-is_type_name c =
    constant_name c.args.text.now c.is_own_name.result c.is_type_name.result c.is_constant_name.result (c.is_own_name.ensures ∙ ap (is_one_of own_names) c.bytes.ensures) c.if-is_own_name.false
    (c.is_type_name.ensures ∙ ap (is_one_of type_names) c.bytes-else-is_own_name.ensures) c.if-is_type_name.false
    (c.is_constant_name.ensures ∙ ap (is_one_of constant_names) c.bytes-else-is_type_name.ensures)
