use Rattle.php_memplain_objects.proofs.MakeLemmas.{new_made, nothing_made}
use Rattle.php_memplain_objects.proofs.adding.make_object.Goals as goal

pub returns-clause-made : goal.returns-clause-made
returns-clause-made c = new_made c.args.cells.now c.append.new.cells c.args.class c.args.finishing c.new-none.result.items c.new-none.ensures.items c.requires c.append.result c.append.ensures.made

pub returns-clause-no_memory : goal.returns-clause-no_memory
returns-clause-no_memory c = nothing_made c.args.cells.now c.append.new.cells c.requires c.append.result c.append.ensures.no_memory
