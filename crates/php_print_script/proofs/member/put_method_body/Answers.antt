use Rattle.php_print_script.proofs.member.put_method_body.Goals as goal

pub returns-in-Some : goal.returns-in-Some
returns-in-Some c = rw c.in-Some.is (rw c.as_slice.ensures at c.put_block.ensures)
