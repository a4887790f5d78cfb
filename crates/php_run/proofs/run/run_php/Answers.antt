use Rattle.php_run.specs.Shown.{shown}
use Rattle.php_run.proofs.run.run_php.Goals as goal

pub returns-clause-headline : goal.returns-clause-headline
returns-clause-headline g c =
    let come = c.answer_words-answer.ensures.called in
    record { answer = shown c.answer_words-answer.result come.0; called = come.1; reported = c.report_answer.ensures come.0 }
