use Rattle.php_front.proofs.Unique.{one_legal, one_cause, never_refused}
use Rattle.php_front.proofs.laws.one_reading.Goals as goal

pub returns : goal.returns
returns c = record { scripts = one_legal; causes = one_cause; apart = never_refused }
