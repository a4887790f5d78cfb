use Rattle.std.proofs.Common.{Some, map, ap, sym, ◌∙◌}
use Rattle.php_ast.specs.expression.View.{spot_view}
use Rattle.php_ast.specs.declaration.View.{class_word_view}
use Rattle.php_legality.proofs.SequenceLemmas.{elements_are}
use Rattle.php_told.specs.First.{first_word}
use Rattle.php_told.proofs.script.first_in_item.Goals as goal

pub returns-in-Class : goal.returns-in-Class
returns-in-Class c =
    rw c.in-Class.is
    (ap Some (c.first_word.ensures ∙ ap (λ ws. first_word (spot_view c.in-Class.class.spot) (map class_word_view ws)) c.as_slice.ensures
    ∙ ap (first_word (spot_view c.in-Class.class.spot)) (sym (elements_are class_word_view c.in-Class.class.modifiers))))
