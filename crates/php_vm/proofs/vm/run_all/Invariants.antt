use Rattle.php_vm.proofs.vm.run_all.Given as goal

-- the same data, and a ledger of this call alone
abbrev pub ghost-run_on : goal.ghost-run_on
ghost-run_on g a = g.begun

abbrev pub ghosts-run_on : goal.ghosts-run_on
ghosts-run_on g a = record { name = a.blank.name; parts = a.blank.parts }
