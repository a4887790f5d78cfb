use Rattle.php_runnable_code.specs.Runnable.{first_data}
use Rattle.php_vm_callers.specs.Beginnings.{bytes_of}
use Rattle.php_vm_callers.proofs.script.run_program.Given as goal

-- the data with which a run begins in the frame's block
abbrev pub ghost-run_from : goal.ghost-run_from
ghost-run_from g a = first_data a.program.now a.allowance (bytes_of a.words.now) a.vm.frame.block
