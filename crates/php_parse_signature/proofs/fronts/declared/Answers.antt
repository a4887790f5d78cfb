use Rattle.std.proofs.Common.{Some, ap}
use Rattle.php_parse_signature.proofs.fronts.declared.Goals as goal

pub returns : goal.returns
returns c =
    let f = c.in_ok-item.ensures in
    record { form = Some f.form; shown = ap Some f.shown; sized = f.sized; spelled = f.spelled; untyped = λ h. absurd (cc); within = f.within }
