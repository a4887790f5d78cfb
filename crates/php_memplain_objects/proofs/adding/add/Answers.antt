use Rattle.php_memplain_objects.proofs.adding.add.Goals as goal

pub returns-in-Ok-put_object-clause-ok : goal.returns-in-Ok-put_object-clause-ok
returns-in-Ok-put_object-clause-ok c = (c.in-Ok.object, (c.in-Ok-put_object.ensures.ok, (c.in-Ok.ensures.0, c.in-Ok.ensures.1)))
