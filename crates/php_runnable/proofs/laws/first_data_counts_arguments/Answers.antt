use Rattle.std.proofs.Common.{arith}
use Rattle.php_meaning.specs.Facts.{facts_of}
use Rattle.php_runnable.proofs.Starts.{first-writes}
use Rattle.php_runnable.proofs.laws.first_data_counts_arguments.Goals as goal

pub returns : goal.returns
returns c script allowance words b are = first-writes (facts_of script) allowance words b (omega arith) are
