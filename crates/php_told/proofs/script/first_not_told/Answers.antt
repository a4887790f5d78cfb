use Rattle.std.proofs.Common.{◌≡◌, Option, Some, None, map, refl, ap, sym, ◌∙◌}
use Rattle.php_ast.specs.declared.spot.Spot.{Spot}
use Rattle.php_ast.specs.declaration.View.{item_view, script_view}
use Rattle.php_told.specs.First.{first_in_item}
use Rattle.php_told.specs.Parts.{first_of}
use Rattle.php_told.specs.Noted.{noted}
use Rattle.php_told.proofs.Lists.{script_first}
use Rattle.php_told.proofs.ToldLemmas.{none_is_told, told_is_none}
use Rattle.php_told.proofs.script.first_not_told.Goals as goal

none_noted : (o : Option Spot) → noted o ≡ None → o ≡ None
none_noted None h = refl
none_noted (Some spot) h = absurd cc

pub returns-clause-exact : goal.returns-clause-exact
returns-clause-exact c = c.first_in_items.ensures ∙ ap (λ xs. first_of first_in_item (map item_view xs)) c.as_slice.ensures ∙ script_first c.args.script.now

pub returns-clause-told : goal.returns-clause-told
returns-clause-told c is = none_is_told (script_view c.args.script.now) (sym (returns-clause-exact c) ∙ ap noted is)

pub returns-clause-only : goal.returns-clause-only
returns-clause-only c told = none_noted c.first_in_items.result (returns-clause-exact c ∙ told_is_none (script_view c.args.script.now) told)
