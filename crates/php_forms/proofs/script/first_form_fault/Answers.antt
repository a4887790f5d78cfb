use Rattle.std.proofs.Common.{None, ◌∙◌, sym, ap, map, subst}
use Rattle.php_ast.specs.declaration.View.{item_view, script_view}
use Rattle.php_legality.specs.Lists.{elements}
use Rattle.php_legality.specs.Rows.{behind_strict_types}
use Rattle.php_legality.proofs.SequenceLemmas.{elements_are}
use Rattle.php_places.specs.Over.{over}
use Rattle.php_forms.specs.Bodies.{met_item_bodies}
use Rattle.php_forms.specs.ClassFaults.{met_item_class}
use Rattle.php_forms.specs.Items.{met_item_signatures, met_item_members}
use Rattle.php_forms.specs.Promise.{FirstFormFault}
use Rattle.php_forms.proofs.SameFaults.{met_all, first_met}
use Rattle.php_forms.proofs.script.first_form_fault.Goals as goal

pub returns : goal.returns
returns c =
    subst (FirstFormFault (script_view c.args.script.now))
    (ap met_all (elements_are item_view c.args.script.now.items)
    ∙ sym
    (c.check_classes.ensures
    ∙ ap (over met_item_class (map item_view c.as_slice-items.result.now))
    (c.check_all_members-met.ensures
    ∙ ap (over met_item_members (map item_view c.as_slice-items.result.now))
    (c.check_signatures-met.ensures ∙ ap (over met_item_signatures (map item_view c.as_slice-items.result.now)) c.walk_bodies-met.ensures))
    ∙ ap (λ xs. met_all (map item_view xs)) c.as_slice-items.ensures))
    (first_met (elements (script_view c.args.script.now)))
