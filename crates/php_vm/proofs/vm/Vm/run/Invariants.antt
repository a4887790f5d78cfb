use Rattle.php_vm.proofs.vm.Vm.run.Given as goal

-- the same data
abbrev pub ghost-run_all : goal.ghost-run_all
ghost-run_all g a = g.begun
