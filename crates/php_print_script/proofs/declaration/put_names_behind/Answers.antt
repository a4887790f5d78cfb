use Rattle.std.proofs.Common.{◌++◌, sym, ◌∙◌, ap}
use Rattle.std.proofs.lemmas.Result.{on_ok_weaker}
use Rattle.php_print.specs.Print.{Prints}
use Rattle.php_ast.specs.statement.View.{names_view}
use Rattle.php_ast.specs.statement.Spelling.{commas, spell_name}
use Rattle.php_ast.specs.declaration.Spelling.{spell_names}
use Rattle.php_print_script.proofs.Lists.{names_spelled}
use Rattle.php_print_script.proofs.declaration.put_names_behind.Goals as goal

pub returns : goal.returns
returns c =
    let before = c.args.before in
    let names = c.args.names.now in
    on_ok_weaker {P = Prints (commas spell_name (names_view names)) c.put_keyword.new.self c.put_names.new.printer} {Q = Prints (spell_names before (names_view names)) c.args.printer.now c.put_names.new.printer} c.put_names.result
    (λ p w. p w ∙ c.in_ok-put_keyword.ensures _ ∙ ap (λ v. c.args.printer.now ++ v) (sym (names_spelled before names w c.if-is_empty.ensures))) c.put_names.ensures
