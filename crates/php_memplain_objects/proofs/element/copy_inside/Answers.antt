use Rattle.php_memplain_objects.proofs.element.copy_inside.Goals as goal

pub put_copy-requires : goal.put_copy-requires
put_copy-requires c = c.requires

pub returns-clause-copy : goal.returns-clause-copy
returns-clause-copy c = c.put_copy.ensures.copy
