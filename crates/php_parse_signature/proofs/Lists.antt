-- What stands behind a parameter in a list, from what the parser saw.
use Rattle.std.proofs.Common.{◌≢◌, ◌≤◌, ℕ, suc, ◌+◌, false, Option, List, ◌∙◌, ap}
use Rattle.php_token.specs.Token.{Token}
use Rattle.php_ast.specs.Symbol.{Symbol}
use Rattle.php_ast.specs.statement.Tree.{then_also}
use Rattle.php_ast.specs.declaration.Tree.{Param}
use Rattle.php_grammar.specs.declared.closer.Closer.TheVariants as ender
use Rattle.php_grammar.specs.expression.Machine.{Nothing, Form}
use Rattle.php_grammar.specs.expression.Role.{continuation, closes}
use Rattle.php_grammar.specs.expression.Laws.{head_continuation}
use Rattle.php_grammar.specs.declaration.SignatureMachine.{Params, due_param, past_params}
use Rattle.php_reader.specs.Seen.{Shows, rest}
use Rattle.php_parse_signature.specs.Answer.{behind, valued, ValueRests}
use Rattle.php_grammar_laws.specs.Walks.{walk_signature}
use Rattle.php_parse_signature.specs.Walk.{Leads, Halts}
use Rattle.php_parse_signature.proofs.Ends.{comma_read, paren_read, neither_read}
use Rattle.php_parse_signature.proofs.Moves.{nested, nested_halts}
use Rattle.php_parse_signature.proofs.Tokens.{comma_shown, end_shown}

pub comma_leads : (tokens : List Token) (at room : ℕ) (params : Params) (p : Param Nothing) (value : Option Form) → 2 ≤ room → Shows continuation tokens at (closes ender.Comma)
    → Leads room (behind params p value) (rest tokens at) (due_param (then_also params (valued p value))) (rest tokens (at + 1))
comma_leads tokens at room params p value low o =
    nested low (λ n is. ap (walk_signature (suc n) (behind params p value)) (comma_shown tokens at o) ∙ comma_read n params p value (rest tokens (at + 1)))

pub end_leads : (tokens : List Token) (at room : ℕ) (params : Params) (p : Param Nothing) (value : Option Form) → 2 ≤ room → Shows continuation tokens at (closes ender.Paren)
    → Leads room (behind params p value) (rest tokens at) (past_params (then_also params (valued p value))) (rest tokens (at + 1))
end_leads tokens at room params p value low o =
    nested low (λ n is. ap (walk_signature (suc n) (behind params p value)) (end_shown tokens at o) ∙ paren_read n params p value (rest tokens (at + 1)))

pub neither_halts : (room : ℕ) (params : Params) (p : Param Nothing) (value : Option Form) (w : List Symbol) → 2 ≤ room → ValueRests value w
    → head_continuation w ≢ closes ender.Comma → head_continuation w ≢ closes ender.Paren → Halts false room (behind params p value) w w
neither_halts room params p value w low rests h g = nested_halts false low (λ n is. neither_read n params p value w rests h g)
