use Rattle.std.proofs.Common.{refl, ◌∙◌}
use Rattle.php_lex_pieces.specs.Punctuators.{punctuators, punctuator}
use Rattle.php_lex_pieces.proofs.TableLemmas.{first_in_nonempty}
use Rattle.php_lex_pieces.proofs.punctuators.punctuator.Goals as goal

pub returns-clause-value : goal.returns-clause-value
returns-clause-value c = c.first_in.ensures.value ∙ c.rows_for.ensures

pub returns-clause-within : goal.returns-clause-within
unfolding punctuator punctuators
returns-clause-within c = first_in_nonempty punctuators c.args.text.now c.first_in.result refl (c.first_in.ensures.value ∙ c.rows_for.ensures) c.first_in.ensures.within
