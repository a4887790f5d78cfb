-- What `run_php` promises: whatever the words are and whatever fails, the call comes to an answer, and reports it.
--
-- The answer is what is owed to the words (`IsOwed` in Owed.antt) with all of its output, unless something fails on the
-- way: the shelf, the output, or memory. Then the answer says which, and the output is the beginning of what is owed
-- (`Called` in Called.antt). The report is the answer's, and the error stream has its text; or the error stream failed
-- (`IsReported` in Reported.antt).
use Rattle.std.specs.Prelude.{ℕ, List}
use Rattle.php_run.specs.Words.{shape}
use Rattle.php_run.specs.World.{World}
use Rattle.php_run.specs.Answer.{Answer}
use Rattle.php_run.specs.Called.{Called}
use Rattle.php_run.specs.Reported.{IsReported}
use Rattle.php_run.specs.declared.report.Report.{Report}

-- The call with these words took the outside from the old to the new, and gave the report.
pub record Answers (words : List (List ℕ)) (old new : World) (report : Report) : Type 0 where
  pub answer : Answer
  pub called : Called (shape words) old.files old.shelf_faults new.shelf_faults old.out new.out answer
  pub reported : IsReported answer old.err new.err report
