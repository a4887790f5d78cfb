use Rattle.php_vm_callers.proofs.script.run_from.Given as goal

abbrev pub ghost-run : goal.ghost-run
ghost-run g a = g.begun
