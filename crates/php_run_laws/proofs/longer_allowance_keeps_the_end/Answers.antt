use Rattle.std.specs.Prelude.{replicate}
use Rattle.php_first_run.specs.declared.value.Value.TheVariants.{Null}
use Rattle.php_run_laws.proofs.Allowances.{run_same}
use Rattle.php_run_laws.proofs.longer_allowance_keeps_the_end.Goals as goal

pub returns : goal.returns
returns c = record {
  from_anywhere = λ texts statements. run_same statements texts;
  from_the_beginning = λ texts statements variables less more le ends. run_same statements texts (replicate variables Null) 0 less more le ends;
}
