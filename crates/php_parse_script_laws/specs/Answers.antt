-- What the contracts of the parsers allow as answers: the clauses of each of them as one record.
use Rattle.std.specs.Prelude.{◌≡◌, true, ℕ, List, Result, IfOk, IfErr}
use Rattle.php_token.specs.Token.{Token}
use Rattle.php_ast.specs.declared.expression.Expr.{Expr}
use Rattle.php_ast.specs.declared.statement.Stmt.{Stmt}
use Rattle.php_ast.specs.declared.declaration.Signature.{Signature}
use Rattle.php_ast.specs.declared.script.Script.{Script}
use Rattle.php_build.specs.Flat.{is_flat}
use Rattle.php_flat.specs.Statements.{is_flat_statement}
use Rattle.php_flat.specs.Declarations.{is_flat_signature, is_flat_script}
use Rattle.php_reader.specs.declared.fail.ParseFail.{ParseFail}
use Rattle.php_parse_expression.specs.Exact as of_expression
use Rattle.php_parse_signature.specs.Exact as of_signature
use Rattle.php_parse_statement.specs.Exact as of_statement
use Rattle.php_parse_script.specs.Exact as of_script

-- of `parse`, for all tokens of a file
pub record IsScriptAnswer (tokens : List Token) (answer : Result Script ParseFail) : Type 0 where
  pub read : IfOk answer (λ s. of_script.IsRead tokens s)
  pub flat : IfOk answer (λ s. is_flat_script s ≡ true)
  pub refused : IfErr answer (λ fail. of_script.IsRefused tokens fail)

-- of `parse_statement`, at a place inside so many constructs
pub record IsStatementAnswer (depth : ℕ) (tokens : List Token) (at : ℕ) (answer : Result (Stmt × ℕ) ParseFail) : Type 0 where
  pub read : IfOk answer (λ r. of_statement.IsRead depth tokens at r.0 r.1)
  pub flat : IfOk answer (λ r. is_flat_statement r.0 ≡ true)
  pub refused : IfErr answer (λ fail. of_statement.IsRefused depth tokens at fail)

-- of `parse_signature`
pub record IsSignatureAnswer (depth : ℕ) (tokens : List Token) (at : ℕ) (answer : Result (Signature × ℕ) ParseFail) : Type 0 where
  pub read : IfOk answer (λ r. of_signature.IsRead depth tokens at r.0 r.1)
  pub flat : IfOk answer (λ r. is_flat_signature r.0 ≡ true)
  pub refused : IfErr answer (λ fail. of_signature.IsRefused depth tokens at fail)

-- of `parse_expr`
pub record IsExpressionAnswer (depth : ℕ) (tokens : List Token) (at : ℕ) (answer : Result (Expr × ℕ) ParseFail) : Type 0 where
  pub read : IfOk answer (λ r. of_expression.IsRead depth tokens at r.0 r.1)
  pub flat : IfOk answer (λ r. is_flat r.0 ≡ true)
  pub refused : IfErr answer (λ fail. of_expression.IsRefused depth tokens at fail)
