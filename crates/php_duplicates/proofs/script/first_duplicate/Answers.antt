use Rattle.std.proofs.Common.{◌∙◌, sym, ap, map, subst}
use Rattle.php_ast.specs.declaration.View.{item_view, script_view}
use Rattle.php_legality.specs.Lists.{elements}
use Rattle.php_legality.proofs.SequenceLemmas.{elements_are}
use Rattle.php_duplicates.specs.Met.{met_script}
use Rattle.php_duplicates.specs.Promise.{FirstDuplicate}
use Rattle.php_duplicates.proofs.ScriptLemmas.{first_met}
use Rattle.php_duplicates.proofs.script.first_duplicate.Goals as goal

pub returns : goal.returns
returns c =
    subst (FirstDuplicate (script_view c.args.script.now))
    (ap met_script (elements_are item_view c.args.script.now.items) ∙ sym (c.in_ok-found.ensures ∙ ap (λ xs. met_script (map item_view xs)) c.as_slice.ensures))
    (first_met (elements (script_view c.args.script.now)))
