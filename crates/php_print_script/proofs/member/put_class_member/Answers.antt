use Rattle.php_print_script.proofs.member.put_class_member.Goals as goal

pub returns-in-Const : goal.returns-in-Const
returns-in-Const c = rw c.in-Const.is (rw (c.as_slice-in-Const.ensures, c.as_slice-in-Const-2.ensures) at c.put_constants_of.ensures)

pub returns-in-Properties : goal.returns-in-Properties
returns-in-Properties c = rw c.in-Properties.is (rw (c.as_slice-in-Properties.ensures, c.as_slice-in-Properties-2.ensures) at c.put_properties.ensures)
