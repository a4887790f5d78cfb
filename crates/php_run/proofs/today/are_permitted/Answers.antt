use Rattle.std.proofs.Common.{◌&&◌, ◌≤◌, ◌∙◌, length, sym, ap, arith}
use Rattle.std.specs.List.{list_all}
use Rattle.php_first_tokens.specs.Lexemes.{names_of}
use Rattle.php_first_forms.specs.Forms.{is_allowed}
use Rattle.php_run.specs.declared.today.TheConstants.{MOST_VARIABLES}
use Rattle.std.proofs.lemmas.Bool.{le-leb}
use Rattle.std.proofs.lemmas.List.{length-map}
use Rattle.std.proofs.lemmas.List.Folds.{list_all-map}
use Rattle.php_run.proofs.today.are_permitted.Goals as goal

pub returns-then-names-le-MOST_VARIABLES : goal.returns-then-names-le-MOST_VARIABLES
returns-then-names-le-MOST_VARIABLES c =
    let names = c.args.names.now in
    let few : length (names_of names) ≤ MOST_VARIABLES = omega (arith, c.if-names-le-MOST_VARIABLES.true, length-map names (λ name. name.now)) in
    c.are_allowed.ensures ∙ sym (list_all-map is_allowed (λ name. name.now) names)
    ∙ ap (λ b. b && list_all is_allowed (names_of names)) (sym (le-leb (length (names_of names)) MOST_VARIABLES few))
