use Rattle.php_memdef_laws.proofs.Alike.Views.{Shows-alike, later_entry-alike, is_aliased-alike, is_link-alike, steps_met-alike, end_met-alike, temps_count-alike, vslots-alike, cost_of-alike, class_of-alike, property_name-alike, eldest-alike}
use Rattle.php_memdef_laws.proofs.views_respect_alike.Goals as goal

pub returns-clause-peek : goal.returns-clause-peek
returns-clause-peek c look p m n a h = Shows-alike a.to a.back m n a.renamed look p h

pub returns-clause-entry_after : goal.returns-clause-entry_after
returns-clause-entry_after c p serial m n a = later_entry-alike a.to a.back m n a.renamed p serial

pub returns-clause-aliased : goal.returns-clause-aliased
returns-clause-aliased c p m n a = is_aliased-alike a.to a.back m n a.renamed p

pub returns-clause-temps : goal.returns-clause-temps
returns-clause-temps c b m n a = temps_count-alike a.to a.back m n a.renamed b

pub returns-clause-slots : goal.returns-clause-slots
returns-clause-slots c m n a = vslots-alike a.to a.back m n a.renamed

pub returns-clause-cost : goal.returns-clause-cost
returns-clause-cost c p m n a = cost_of-alike a.to a.back m n a.renamed p

pub returns-clause-class_of : goal.returns-clause-class_of
returns-clause-class_of c h m n a = class_of-alike a.to a.back m n a.renamed h

pub returns-clause-prop_at : goal.returns-clause-prop_at
returns-clause-prop_at c h k m n a = property_name-alike a.to a.back m n a.renamed h k

pub returns-clause-eldest : goal.returns-clause-eldest
returns-clause-eldest c m n a = eldest-alike a.to a.back m n a.renamed

pub returns-clause-is_link : goal.returns-clause-is_link
returns-clause-is_link c b k m n a = is_link-alike a.to a.back m n a.renamed b k

pub returns-clause-steps_met : goal.returns-clause-steps_met
returns-clause-steps_met c p m n a = steps_met-alike a.to a.back m n a.renamed p

pub returns-clause-end_met : goal.returns-clause-end_met
returns-clause-end_met c look p m n a h = end_met-alike a.to a.back m n a.renamed look p h
