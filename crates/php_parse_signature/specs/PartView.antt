-- From the parts of a signature in the program to the roles of the grammar.
use Rattle.std.specs.Prelude.{◌≡◌, ◌≢◌, ℕ, Bool, true, false, List, [], ◌∷◌}
use Rattle.php_token.specs.Token.{Token}
use Rattle.php_ast.specs.Symbol.{Symbol}
use Rattle.php_ast.specs.declaration.Tree.{Base, of_name, of_array, of_callable}
use Rattle.php_grammar.specs.expression.Machine.{Nothing}
use Rattle.php_grammar.specs.statement.Machine.{named_here}
use Rattle.php_grammar.specs.declaration.SignatureMachine.{ParamRole, at_base, at_variable, at_question, at_reference, at_variadic, at_other, param_role}
use Rattle.php_reader.specs.Seen.{Shows, rest}
use Rattle.php_parse_signature.specs.declared.part.BaseKind.{BaseKind}
use Rattle.php_parse_signature.specs.declared.part.BaseKind.TheVariants as base_kind
use Rattle.php_parse_signature.specs.declared.part.Part.{Part}
use Rattle.php_parse_signature.specs.declared.part.Part.TheVariants as part

-- of a token with this text
abbrev pub base_of : BaseKind → List ℕ → Base Nothing
base_of base_kind.Name text = of_name (named_here text)
base_of base_kind.Array text = of_array
base_of base_kind.Callable text = of_callable

abbrev pub part_view : Part → List ℕ → ParamRole
part_view (part.Base kind) text = at_base (base_of kind text)
part_view part.Variable text = at_variable text
part_view part.Question text = at_question
part_view part.Reference text = at_reference
part_view part.Variadic text = at_variadic
part_view part.Other text = at_other

-- the role of the first of these symbols; nothing is at the end
abbrev pub head_role : List Symbol → ParamRole
head_role [] = at_other
head_role (t ∷ w) = param_role t

abbrev pub SeesPart : List Token → ℕ → ParamRole → Type 0
SeesPart tokens at at_other = head_role (rest tokens at) ≡ at_other
SeesPart tokens at x = Shows param_role tokens at x

-- whether a token of this role stands at a place
abbrev pub SeesRole : ParamRole → List Token → ℕ → Bool → Type 0
SeesRole role tokens at true = Shows param_role tokens at role
SeesRole role tokens at false = head_role (rest tokens at) ≢ role
