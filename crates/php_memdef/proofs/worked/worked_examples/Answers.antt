use Rattle.php_memdef.proofs.Examples.{alias_examples, write_examples, read_examples, release_examples}
use Rattle.php_memdef.proofs.ExamplesOfCalls.{call_examples}
use Rattle.php_memdef.proofs.worked.worked_examples.Goals as goal

pub returns-clause-aliases : goal.returns-clause-aliases
returns-clause-aliases c = alias_examples

pub returns-clause-writes : goal.returns-clause-writes
returns-clause-writes c = write_examples

pub returns-clause-releases : goal.returns-clause-releases
returns-clause-releases c = release_examples

pub returns-clause-reads : goal.returns-clause-reads
returns-clause-reads c = read_examples

pub returns-clause-calls : goal.returns-clause-calls
returns-clause-calls c = call_examples
