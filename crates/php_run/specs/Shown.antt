-- What the program's values stand for in the definitions.
use Rattle.std.specs.Prelude.{ℕ, List}
use Rattle.php_run.specs.Answer.{Answer}
use Rattle.php_run.specs.Message.{bytes_of}
use Rattle.php_run.specs.Words.{Request, Task, running, checking}
use Rattle.php_run.specs.declared.answer.Answer as program
use Rattle.php_run.specs.declared.words.Request as words
use Rattle.php_run.specs.declared.words.Task as task
use Rattle.php_run.specs.declared.words.Task.TheVariants as task_form

-- the program's answer, with the output that was written before it
abbrev pub shown : program.Answer → List ℕ → Answer
shown a output = record { kind = a.kind; ticks = a.ticks; output = output; error = bytes_of a.message }

-- what the program's request asks for
abbrev pub task_wanted : task.Task → Task
task_wanted (task_form.Run allowance) = running allowance
task_wanted task_form.Check = checking

abbrev pub wanted : words.Request → Request
wanted r = record { file = r.file.now; task = task_wanted r.task }
