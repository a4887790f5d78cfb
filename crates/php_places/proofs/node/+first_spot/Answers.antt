use Rattle.std.proofs.Common.{◌∙◌, ap}
use Rattle.php_ast.specs.expression.View.{view}
use Rattle.php_legality.specs.Places.{first_note}
use Rattle.php_places.proofs.WordLemmas.{chain_first, run_first}
use Rattle.php_places.proofs.node.+first_spot.Goals as goal

pub returns-in-Chain : goal.returns-in-Chain
returns-in-Chain t c = rw c.in-Chain.is (c.first_spot.ensures ∙ ap (λ e. first_note (view e)) c.get.ensures ∙ chain_first c.in-Chain.e c.in-Chain.field-1)

pub returns-in-Run : goal.returns-in-Run
returns-in-Run t c = rw c.in-Run.is (c.first_spot-in-Run.ensures ∙ ap (λ e. first_note (view e)) c.get-in-Run.ensures ∙ run_first c.in-Run.e c.in-Run.field-1)
