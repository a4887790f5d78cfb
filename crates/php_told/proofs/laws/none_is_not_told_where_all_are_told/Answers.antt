use Rattle.php_told.proofs.ToldLemmas.{none_is_told, told_is_none}
use Rattle.php_told.proofs.laws.none_is_not_told_where_all_are_told.Goals as goal

pub returns-clause-told : goal.returns-clause-told
returns-clause-told c = none_is_told

pub returns-clause-only : goal.returns-clause-only
returns-clause-only c = told_is_none
