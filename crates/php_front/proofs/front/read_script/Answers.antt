use Rattle.std.proofs.Common.{◌≡◌, ◌∙◌, Ok, subst, sym}
use Rattle.php_ast.specs.declaration.View.{script_view}
use Rattle.php_front.specs.declared.fail.ReadFail.{ReadFail}
use Rattle.php_front.specs.Read.{IsParsed}
use Rattle.php_front.proofs.Causes.{IsCause, check_cause}
use Rattle.php_front.proofs.front.read_script.Goals as goal

pub returns-clause-refused : goal.returns-clause-refused
returns-clause-refused c =
    let bytes = c.args.bytes.now in
    let script = script_view c.in-Ok-parse.script in
    let read = c.in-Ok-parse.ensures.read in
    let parsed : IsParsed bytes c.in-Ok.tokens script = record { lexed = c.in-Ok.ensures.tokens; spelled = read.spelled; shallow = read.shallow } in
    let P : ReadFail → Type 0 = λ cause. IsCause bytes cause in
    subst P (sym c.after_check.ensures) (check_cause bytes c.in-Ok.tokens script c.in-Err-check.failure parsed c.in-Err-check.ensures.fault)
