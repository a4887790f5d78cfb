use Rattle.php_memdef_callers.proofs.WitnessLemmas.{object_made, object_marked, frame_attached, handle_pushed, object_cloned}
use Rattle.php_memdef_callers.proofs.witnesses.object_calls_can_be_made.Goals as goal

pub returns-clause-object : goal.returns-clause-object
returns-clause-object c = object_made

pub returns-clause-marks : goal.returns-clause-marks
returns-clause-marks c = object_marked

pub returns-clause-attach : goal.returns-clause-attach
returns-clause-attach c = frame_attached

pub returns-clause-push_object : goal.returns-clause-push_object
returns-clause-push_object c = handle_pushed

pub returns-clause-clone_object : goal.returns-clause-clone_object
returns-clause-clone_object c = object_cloned
