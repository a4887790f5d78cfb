-- Small statements and declarations, flat and not.
use Rattle.std.proofs.Common.{◌≡◌, true, false, ◌&&◌, Some, [], ◌∷◌, ◌∙◌, ap}
use Rattle.std.specs.List.{list_all}
use Rattle.php_ast.specs.declared.spot.Spot.{Spot}
use Rattle.php_ast.specs.declared.expression.Expr.{Expr}
use Rattle.php_ast.specs.declared.statement.Stmt.TheVariants.{Block, Expression, If, While}
use Rattle.php_ast.specs.declared.statement.Body.TheVariants as body_form
use Rattle.php_ast.specs.declared.declaration.FunctionDecl.{FunctionDecl}
use Rattle.php_ast.specs.declared.script.ScriptItem.TheVariants as item
use Rattle.php_build.specs.Flat.{is_flat}
use Rattle.php_flat.specs.Statements.{is_flat_statement, are_flat_statements}
use Rattle.php_flat.specs.Declarations.{is_flat_param, is_flat_script}
use Rattle.php_flat.proofs.Nodes.{flat_block, flat_expression, flat_if, flat_while}

-- The statements of an expression, given whether it is flat.

-- `{ e; }`
block_of_one : (spot : Spot) (e : Expr) → is_flat_statement (Block spot (Expression spot e ∷ [])) ≡ (is_flat e && true)
block_of_one spot e = flat_block spot (Expression spot e ∷ []) ∙ ap (λ b. b && true) (flat_expression spot e)

block-flat : (spot : Spot) (e : Expr) → is_flat e ≡ true → is_flat_statement (Block spot (Expression spot e ∷ [])) ≡ true
block-flat spot e flat = block_of_one spot e ∙ ap (λ b. b && true) flat

block-unflat : (spot : Spot) (e : Expr) → is_flat e ≡ false → is_flat_statement (Block spot (Expression spot e ∷ [])) ≡ false
block-unflat spot e flat = block_of_one spot e ∙ ap (λ b. b && true) flat

-- `while (e) : e; endwhile;`
while-flat : (spot : Spot) (e : Expr) → is_flat e ≡ true → is_flat_statement (While spot e (body_form.Colon (Expression spot e ∷ []))) ≡ true
while-flat spot e flat =
    flat_while spot e (body_form.Colon (Expression spot e ∷ [])) ∙ ap (λ b. is_flat e && (b && true)) (flat_expression spot e) ∙ ap (λ b. b && (b && true)) flat

-- `if (e) e; else d;` where `d` isn't flat
else-unflat : (spot : Spot) (e d : Expr) → is_flat e ≡ true → is_flat d ≡ false → is_flat_statement (If spot e (Expression spot e) [] (Some (Expression spot d))) ≡ false
else-unflat spot e d flat unflat =
    flat_if spot e (Expression spot e) [] (Some (Expression spot d))
    ∙ ap (λ b. is_flat e && b && true && is_flat_statement (Expression spot d)) (flat_expression spot e) ∙ ap (λ b. is_flat e && is_flat e && true && b) (flat_expression spot d)
    ∙ ap (λ b. b && b && true && is_flat d) flat ∙ ap (λ b. true && true && true && b) unflat

-- `e; function f() { d; }`, by what its expressions are
whole_script : (spot : Spot) (e d : Expr) (f : FunctionDecl) → f.signature.params ≡ [] → f.body ≡ Expression spot d ∷ []
    → is_flat_script (record { items = item.Statement (Expression spot e) ∷ item.Function f ∷ [] }) ≡ (is_flat e && (true && (is_flat d && true) && true))
whole_script spot e d f none body =
    ap (λ b. b && (list_all is_flat_param f.signature.params && are_flat_statements f.body && true)) (flat_expression spot e)
    ∙ ap (λ ps. is_flat e && (list_all is_flat_param ps && are_flat_statements f.body && true)) none
    ∙ ap (λ ss. is_flat e && (true && are_flat_statements ss && true)) body ∙ ap (λ b. is_flat e && (true && (b && true) && true)) (flat_expression spot d)
