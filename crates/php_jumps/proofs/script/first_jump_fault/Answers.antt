use Rattle.std.proofs.Common.{None, ◌∙◌, sym, ap, map, subst}
use Rattle.php_ast.specs.declaration.View.{item_view, script_view}
use Rattle.php_legality.specs.Lists.{elements}
use Rattle.php_legality.proofs.SequenceLemmas.{elements_are}
use Rattle.php_jumps.specs.Met.{over, met_item}
use Rattle.php_jumps.specs.Promise.{FirstJumpFault}
use Rattle.php_jumps.proofs.ScriptLemmas.{first_met}
use Rattle.php_jumps.proofs.script.first_jump_fault.Goals as goal

pub returns : goal.returns
returns c =
    subst (FirstJumpFault (script_view c.args.script.now))
    (ap (λ xs. over met_item xs None) (elements_are item_view c.args.script.now.items)
    ∙ sym (c.walk_items.ensures ∙ ap (λ xs. over met_item (map item_view xs) None) c.as_slice.ensures))
    (first_met (elements (script_view c.args.script.now)))
