use Rattle.php_print_callers.proofs.callers.print_binary.Goals as goal

pub returns : goal.returns
returns c = rw c.in_ok-e.ensures at c.print_expr.ensures
