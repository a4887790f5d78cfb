use Rattle.php_memdef_callers.proofs.WitnessLemmas.{link_made, link_bound, link_settled, element_unset, last_unset, text_appended}
use Rattle.php_memdef_callers.proofs.witnesses.other_calls_can_be_made.Goals as goal

pub returns-clause-link : goal.returns-clause-link
returns-clause-link c = link_made

pub returns-clause-bind : goal.returns-clause-bind
returns-clause-bind c = link_bound

pub returns-clause-settle : goal.returns-clause-settle
returns-clause-settle c = link_settled

pub returns-clause-unset : goal.returns-clause-unset
returns-clause-unset c = element_unset

pub returns-clause-unset_last : goal.returns-clause-unset_last
returns-clause-unset_last c = last_unset

pub returns-clause-append : goal.returns-clause-append
returns-clause-append c = text_appended
