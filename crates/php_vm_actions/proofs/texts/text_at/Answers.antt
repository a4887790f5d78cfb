use Rattle.std.proofs.Common.{◌≡◌, Some, ap, ◌∙◌}
use Rattle.std.proofs.lemmas.Result.{IfOk-weaker}
use Rattle.php_actions.specs.Steps.{operand}
use Rattle.php_actions.specs.Operators.{text_if}
use Rattle.php_vm_actions.specs.Operands.{text_in}
use Rattle.php_vm_actions.proofs.texts.text_at.Goals as goal

pub returns : goal.returns
returns g c m h k =
    let sees = c.in_ok-operand.ensures m h k.0 k.1 in
    IfOk-weaker c.text_of.result (λ t. text_in c.in_ok-operand.operand ≡ Some t) (λ t. text_if (operand m c.args.block.0 c.args.depth) ≡ Some t)
    (λ t q. ap text_if k.1 ∙ sees.text ∙ q) c.text_of.ensures
