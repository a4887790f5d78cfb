use Rattle.std.proofs.Common.{None, map, ap, sym, ◌∙◌}
use Rattle.php_ast.specs.expression.View.{Note, view}
use Rattle.php_ast.specs.statement.Tree.{Statement}
use Rattle.php_places.specs.Over.{over}
use Rattle.php_first_forms.specs.Forms.{left_in_statement}
use Rattle.php_first_forms.specs.Links.{with_part}
use Rattle.php_first_forms.proofs.Lists.{parts_are, view_echo}
use Rattle.php_first_forms.proofs.script.left_in_statement.Goals as goal

pub returns-in-Echo : goal.returns-in-Echo
returns-in-Echo c =
    rw c.in-Echo.is
    (c.left_in_parts.ensures ∙ ap (λ es. over with_part (map view es) None) c.as_slice.ensures ∙ parts_are c.in-Echo.parts
    ∙ ap (λ (s : Statement Note). left_in_statement s) (sym (view_echo c.in-Echo.field-0 c.in-Echo.parts)))
