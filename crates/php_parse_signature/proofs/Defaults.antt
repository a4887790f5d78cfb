-- The value of a parameter, from what the parser of expressions answers.
use Rattle.std.proofs.Common.{◌≤◌, ℕ, ◌-◌, true, false, Result, Ok, Err, List, [], sym, ◌∙◌, ap, arith}
use Rattle.php_token.specs.Token.{Token}
use Rattle.php_ast.specs.Symbol.{Symbol}
use Rattle.php_ast.specs.declaration.Tree.{Param}
use Rattle.php_grammar.specs.expression.Machine.{Nothing, Form, expects, holds}
use Rattle.php_grammar.specs.declaration.SignatureMachine.{Params, in_default}
use Rattle.php_reader.specs.declared.reader.Reader.{Reader}
use Rattle.php_reader.specs.declared.fail.Stop.{Stop}
use Rattle.php_reader.specs.declared.fail.Stop.TheVariants.{Syntax, TooDeep, NoMemory}
use Rattle.php_reader.specs.Seen.{rest}
use Rattle.php_parse_operands.specs.declared.read.Read.{Read}
use Rattle.php_parse_operands.specs.Walk as inner
use Rattle.php_parse_operands.specs.Answer as expression
use Rattle.php_parse_signature.specs.Answer.{Fails, AnswersDefault}
use Rattle.php_parse_signature.specs.Walk.{Leads, Halts}
use Rattle.php_parse_signature.proofs.Bridge.{bridge, carried}
use Rattle.php_parse_signature.proofs.Moves.{nested, nested_halts}

default_leads : (room : ℕ) (w v : List Symbol) (e : Form) (params : Params) (p : Param Nothing) → 2 ≤ room → inner.Leads (room - 1) 1 (λ s. expects s) w (λ s. holds e s) v
    → Leads room (in_default params p (expects [])) w (in_default params p (holds e [])) v
default_leads room w v e params p low r =
    nested low (λ n is. bridge n params p (expects []) w ∙ ap (carried n params p) (r.same n [] tt (omega arith) (omega arith)) ∙ sym (bridge n params p (holds e []) v))

default_short : (room : ℕ) (w v : List Symbol) (params : Params) (p : Param Nothing) → 2 ≤ room → inner.Halts false (room - 1) 1 (λ s. expects s) w v
    → Halts false room (in_default params p (expects [])) w v
default_short room w v params p low r =
    nested_halts false low (λ n is. bridge n params p (expects []) w ∙ ap (carried n params p) (r.same n [] tt (omega arith) (omega arith)))

default_deep : (room : ℕ) (w v : List Symbol) (params : Params) (p : Param Nothing) → 2 ≤ room → inner.Halts true (room - 1) 1 (λ s. expects s) w v
    → Halts true room (in_default params p (expects [])) w v
default_deep room w v params p low r =
    nested_halts true low (λ n is. bridge n params p (expects []) w ∙ ap (carried n params p) (r.same n [] tt (omega arith) (omega arith)))

default_fails : (room : ℕ) (tokens : List Token) (at : ℕ) (e : Stop) (params : Params) (p : Param Nothing) → 2 ≤ room
    → expression.Fails (room - 1) 1 (λ s. expects s) (rest tokens at) tokens at e → Fails room (in_default params p (expects [])) (rest tokens at) tokens at e
default_fails room tokens at (Syntax k) params p low r =
    record { halts = default_short room (rest tokens at) (rest tokens k) params p low r.halts; ahead = r.ahead; within = r.within }
default_fails room tokens at (TooDeep k) params p low r =
    record { halts = default_deep room (rest tokens at) (rest tokens k) params p low r.halts; ahead = r.ahead; within = r.within }
default_fails room tokens at NoMemory params p low r = tt

pub default_answers : (reader : Reader) (at : ℕ) (r : Result Read Stop) → 2 ≤ reader.room
    → expression.Answers (reader.room - 1) 1 1 (λ s. expects s) (rest reader.tokens.now at) reader.tokens.now at at r → AnswersDefault reader at r
default_answers reader at (Ok r) low found = record {
  form = found.form;
  shown = found.spans.shown;
  sized = found.spans.sized;
  reads = λ params p. default_leads reader.room (rest reader.tokens.now at) (rest reader.tokens.now r.next) found.form params p low found.reads;
  rests = found.rests;
  ahead = omega (arith, found.ahead);
  within = found.within;
}
default_answers reader at (Err e) low found = λ params p. default_fails reader.room reader.tokens.now at e params p low found
