-- The value of a parameter or none, and the whole parameter.
use Rattle.std.proofs.Common.{◌≡◌, ◌≤◌, ℕ, suc, ◌+◌, Bool, true, Option, Some, None, List, [], refl, ◌∙◌, ap, arith}
use Rattle.php_token.specs.Token.{Token}
use Rattle.php_token.specs.declared.kind.Punct.TheVariants as mark
use Rattle.php_ast.specs.Symbol.{punct}
use Rattle.php_ast.specs.declared.spot.Name as rust_name
use Rattle.php_ast.specs.declared.expression.Expr.{Expr}
use Rattle.php_ast.specs.declared.declaration.Type as rust_type
use Rattle.php_ast.specs.expression.View.{view}
use Rattle.php_ast.specs.expression.Placed.{notes_of}
use Rattle.php_ast.specs.statement.Tree.{Name}
use Rattle.php_ast.specs.statement.Placed.{size_value, noted_name, noted_optional}
use Rattle.php_ast.specs.statement.View.{optional, name_view}
use Rattle.php_ast.specs.declaration.Tree.{Param}
use Rattle.php_ast.specs.declaration.Placed.{noted_declared, noted_param, size_marks, size_param}
use Rattle.php_ast.specs.declaration.View.{type_view, param_view}
use Rattle.php_grammar.specs.expression.Machine.{Nothing, Form, expects}
use Rattle.php_grammar.specs.statement.Role.{is_assign}
use Rattle.php_grammar.specs.declaration.SignatureMachine.{Params, Declared, param_of, past_param, in_default}
use Rattle.php_reader.specs.Seen.{Shows, rest}
use Rattle.php_parse_signature.specs.Answer.{valued}
use Rattle.php_grammar_laws.specs.Walks.{walk_signature}
use Rattle.php_parse_signature.specs.Walk.{Leads}
use Rattle.php_parse_signature.proofs.Moves.{go, nested}
use Rattle.php_parse_signature.proofs.Tokens.{assign_shown}

pub assign_leads : (tokens : List Token) (at room : ℕ) (params : Params) (p : Param Nothing) → 2 ≤ room → Shows is_assign tokens at true
    → Leads room (past_param params p) (rest tokens at) (in_default params p (expects [])) (rest tokens (at + 1))
assign_leads tokens at room params p low o =
    nested low (λ n is. ap (walk_signature (suc n) (past_param params p)) (assign_shown tokens at o)
    ∙ go (suc n) (past_param params p) (in_default params p (expects [])) (punct mark.Assign) (rest tokens (at + 1)) refl (omega arith))

pub valued_shown : (tokens : List Token) (at : ℕ) (declared : Option rust_type.Type) (r v : Bool) (name : rust_name.Name) (default : Option Expr) (d : Declared) (n : Name Nothing) (value : Option Form)
    → optional type_view declared ≡ noted_declared (notes_of tokens) at d
    → name_view name ≡ noted_name (notes_of tokens) (at + size_marks (param_of d r v n)) n
    → optional view default ≡ noted_optional (notes_of tokens) (at + size_marks (param_of d r v n) + 2) value
    → param_view (record { declared = declared; is_reference = r; is_variadic = v; name = name; default = default }) ≡ noted_param (notes_of tokens) at (valued (param_of d r v n) value)
valued_shown tokens at declared r v name default d n None a b c = cc
valued_shown tokens at declared r v name default d n (Some e) a b c = cc

pub valued_size : (p : Param Nothing) (value : Option Form) → p.default ≡ None → size_param (valued p value) ≡ size_marks p + 1 + size_value value
valued_size p None h = ap (λ v. size_marks p + 1 + size_value v) h
valued_size p (Some e) h = refl
