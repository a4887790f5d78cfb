-- Which nodes of statements are flat, by their parts.
use Rattle.std.proofs.Common.{◌≡◌, Bool, true, ◌&&◌, Option, Some, None, List, [], ◌∷◌, ℕ, ℤ, map, refl, sym, ◌∙◌, ap}
use Rattle.std.specs.List.{list_all}
use Rattle.php_ast.specs.declared.spot.Spot.{Spot}
use Rattle.php_ast.specs.declared.spot.Name as rust_name
use Rattle.php_ast.specs.declared.expression.Expr.{Expr}
use Rattle.php_ast.specs.declared.statement.Stmt.{Stmt}
use Rattle.php_ast.specs.declared.statement.Stmt.TheVariants.{Block, Empty, Inline, Expression, Echo, Global, Static, Unset, Const, Return, Throw, Break, Continue, If, IfColon, While, DoWhile, For, Foreach, Switch, Try, Declare}
use Rattle.php_ast.specs.declared.statement.Stmt.TheVariants.{rolls-Block, rolls-Empty, rolls-Inline, rolls-Expression, rolls-Echo, rolls-Global, rolls-Static, rolls-Unset, rolls-Const, rolls-Return, rolls-Throw, rolls-Break, rolls-Continue, rolls-If, rolls-IfColon, rolls-While, rolls-DoWhile, rolls-For, rolls-Foreach, rolls-Switch, rolls-Try, rolls-Declare}
use Rattle.php_ast.specs.declared.statement.Stmt.TheOpen.{Stmt-F}
use Rattle.php_ast.specs.declared.statement.Stmt.TheFolds.{fold-roll-Stmt}
use Rattle.php_ast.specs.declared.statement.VariableItem.{VariableItem}
use Rattle.php_ast.specs.declared.statement.ConstantItem.{ConstantItem}
use Rattle.php_ast.specs.declared.statement.ElseIf.{ElseIf}
use Rattle.php_ast.specs.declared.statement.Body as rust_body
use Rattle.php_ast.specs.declared.statement.Body.TheVariants as body_form
use Rattle.php_ast.specs.declared.statement.ForHead.{ForHead}
use Rattle.php_ast.specs.declared.statement.ForeachHead.{ForeachHead}
use Rattle.php_ast.specs.declared.statement.SwitchForm.{SwitchForm}
use Rattle.php_ast.specs.declared.statement.Case.{Case}
use Rattle.php_ast.specs.declared.statement.Catch.{Catch}
use Rattle.php_build.specs.Flat.{is_flat, are_flat}
use Rattle.php_flat.specs.Statements.{elseif_flat, elseif_list_flat, case_flat, catch_flat, is_flat_optional, is_flat_variable, is_flat_constant, is_flat_for, is_flat_foreach, statement_flat, is_flat_statement, are_flat_statements, is_flat_elseif, is_flat_elseif_list, is_flat_last, is_flat_list, is_flat_body, is_flat_case, is_flat_catch}

-- ---- the generated map of a node does the same to each part

and_same : {a b c d : Bool} → a ≡ b → c ≡ d → (a && c) ≡ (b && d)
and_same {a} {b} {c} {d} p q = ap (λ x. x && c) p ∙ ap (λ x. b && x) q

all_same : {A B : Type 0} (p : B → Bool) (q : A → Bool) (h : A → B) → ((x : A) → p (h x) ≡ q x) → (xs : List A) → list_all p (map h xs) ≡ list_all q xs
all_same p q h same [] = refl
all_same p q h same (x ∷ xs) = and_same (same x) (all_same p q h same xs)

-- ---- nodes

pub flat_block : (spot : Spot) (ss : List Stmt) → is_flat_statement (Block spot ss) ≡ are_flat_statements ss
flat_block spot ss = ap is_flat_statement (sym (rolls-Block spot ss)) ∙ fold-roll-Stmt Bool statement_flat (Stmt-F.Block spot ss)

pub flat_empty : (spot : Spot) → is_flat_statement (Empty spot) ≡ true
flat_empty spot = ap is_flat_statement (sym (rolls-Empty spot)) ∙ fold-roll-Stmt Bool statement_flat (Stmt-F.Empty spot)

pub flat_inline : (spot : Spot) (text : List ℕ) → is_flat_statement (Inline spot text) ≡ true
flat_inline spot text = ap is_flat_statement (sym (rolls-Inline spot text)) ∙ fold-roll-Stmt Bool statement_flat (Stmt-F.Inline spot text)

pub flat_expression : (spot : Spot) (e : Expr) → is_flat_statement (Expression spot e) ≡ is_flat e
flat_expression spot e = ap is_flat_statement (sym (rolls-Expression spot e)) ∙ fold-roll-Stmt Bool statement_flat (Stmt-F.Expression spot e)

pub flat_echo : (spot : Spot) (es : List Expr) → is_flat_statement (Echo spot es) ≡ are_flat es
flat_echo spot es = ap is_flat_statement (sym (rolls-Echo spot es)) ∙ fold-roll-Stmt Bool statement_flat (Stmt-F.Echo spot es)

pub flat_global : (spot : Spot) (names : List rust_name.Name) → is_flat_statement (Global spot names) ≡ true
flat_global spot names = ap is_flat_statement (sym (rolls-Global spot names)) ∙ fold-roll-Stmt Bool statement_flat (Stmt-F.Global spot names)

pub flat_static : (spot : Spot) (items : List VariableItem) → is_flat_statement (Static spot items) ≡ list_all is_flat_variable items
flat_static spot items = ap is_flat_statement (sym (rolls-Static spot items)) ∙ fold-roll-Stmt Bool statement_flat (Stmt-F.Static spot items)

pub flat_unset : (spot : Spot) (es : List Expr) → is_flat_statement (Unset spot es) ≡ are_flat es
flat_unset spot es = ap is_flat_statement (sym (rolls-Unset spot es)) ∙ fold-roll-Stmt Bool statement_flat (Stmt-F.Unset spot es)

pub flat_const : (spot : Spot) (items : List ConstantItem) → is_flat_statement (Const spot items) ≡ list_all is_flat_constant items
flat_const spot items = ap is_flat_statement (sym (rolls-Const spot items)) ∙ fold-roll-Stmt Bool statement_flat (Stmt-F.Const spot items)

pub flat_return : (spot : Spot) (e : Option Expr) → is_flat_statement (Return spot e) ≡ is_flat_optional e
flat_return spot e = ap is_flat_statement (sym (rolls-Return spot e)) ∙ fold-roll-Stmt Bool statement_flat (Stmt-F.Return spot e)

pub flat_throw : (spot : Spot) (e : Expr) → is_flat_statement (Throw spot e) ≡ is_flat e
flat_throw spot e = ap is_flat_statement (sym (rolls-Throw spot e)) ∙ fold-roll-Stmt Bool statement_flat (Stmt-F.Throw spot e)

pub flat_break : (spot : Spot) (e : Option Expr) → is_flat_statement (Break spot e) ≡ is_flat_optional e
flat_break spot e = ap is_flat_statement (sym (rolls-Break spot e)) ∙ fold-roll-Stmt Bool statement_flat (Stmt-F.Break spot e)

pub flat_continue : (spot : Spot) (e : Option Expr) → is_flat_statement (Continue spot e) ≡ is_flat_optional e
flat_continue spot e = ap is_flat_statement (sym (rolls-Continue spot e)) ∙ fold-roll-Stmt Bool statement_flat (Stmt-F.Continue spot e)

pub flat_declare : (spot : Spot) (n : rust_name.Name) (value : ℤ) → is_flat_statement (Declare spot n value) ≡ true
flat_declare spot n value = ap is_flat_statement (sym (rolls-Declare spot n value)) ∙ fold-roll-Stmt Bool statement_flat (Stmt-F.Declare spot n value)

pub flat_do_while : (spot : Spot) (body : Stmt) (test : Expr) → is_flat_statement (DoWhile spot body test) ≡ (is_flat_statement body && is_flat test)
flat_do_while spot body test = ap is_flat_statement (sym (rolls-DoWhile spot body test)) ∙ fold-roll-Stmt Bool statement_flat (Stmt-F.DoWhile spot body test)

pub flat_if : (spot : Spot) (test : Expr) (body : Stmt) (parts : List (ElseIf Stmt)) (last : Option Stmt)
    → is_flat_statement (If spot test body parts last) ≡ (is_flat test && is_flat_statement body && list_all is_flat_elseif parts && is_flat_last last)
flat_if spot test body parts None =
    ap is_flat_statement (sym (rolls-If spot test body parts None)) ∙ fold-roll-Stmt Bool statement_flat (Stmt-F.If spot test body parts None)
    ∙ and_same (and_same refl (all_same elseif_flat is_flat_elseif _ (λ p. refl) parts)) refl
flat_if spot test body parts (Some s) =
    ap is_flat_statement (sym (rolls-If spot test body parts (Some s))) ∙ fold-roll-Stmt Bool statement_flat (Stmt-F.If spot test body parts (Some s))
    ∙ and_same (and_same refl (all_same elseif_flat is_flat_elseif _ (λ p. refl) parts)) refl

pub flat_if_colon : (spot : Spot) (test : Expr) (body : List Stmt) (parts : List (ElseIf (List Stmt))) (last : Option (List Stmt))
    → is_flat_statement (IfColon spot test body parts last) ≡ (is_flat test && are_flat_statements body && list_all is_flat_elseif_list parts && is_flat_list last)
flat_if_colon spot test body parts None =
    ap is_flat_statement (sym (rolls-IfColon spot test body parts None)) ∙ fold-roll-Stmt Bool statement_flat (Stmt-F.IfColon spot test body parts None)
    ∙ and_same (and_same refl (all_same elseif_list_flat is_flat_elseif_list _ (λ p. refl) parts)) refl
flat_if_colon spot test body parts (Some ss) =
    ap is_flat_statement (sym (rolls-IfColon spot test body parts (Some ss))) ∙ fold-roll-Stmt Bool statement_flat (Stmt-F.IfColon spot test body parts (Some ss))
    ∙ and_same (and_same refl (all_same elseif_list_flat is_flat_elseif_list _ (λ p. refl) parts)) refl

pub flat_while : (spot : Spot) (test : Expr) (body : rust_body.Body Stmt) → is_flat_statement (While spot test body) ≡ (is_flat test && is_flat_body body)
flat_while spot test (body_form.Single s) =
    ap is_flat_statement (sym (rolls-While spot test (body_form.Single s))) ∙ fold-roll-Stmt Bool statement_flat (Stmt-F.While spot test (body_form.Single s))
flat_while spot test (body_form.Colon ss) =
    ap is_flat_statement (sym (rolls-While spot test (body_form.Colon ss))) ∙ fold-roll-Stmt Bool statement_flat (Stmt-F.While spot test (body_form.Colon ss))

pub flat_for : (spot : Spot) (head : ForHead) (body : rust_body.Body Stmt) → is_flat_statement (For spot head body) ≡ (is_flat_for head && is_flat_body body)
flat_for spot head (body_form.Single s) =
    ap is_flat_statement (sym (rolls-For spot head (body_form.Single s))) ∙ fold-roll-Stmt Bool statement_flat (Stmt-F.For spot head (body_form.Single s))
flat_for spot head (body_form.Colon ss) =
    ap is_flat_statement (sym (rolls-For spot head (body_form.Colon ss))) ∙ fold-roll-Stmt Bool statement_flat (Stmt-F.For spot head (body_form.Colon ss))

pub flat_foreach : (spot : Spot) (head : ForeachHead) (body : rust_body.Body Stmt) → is_flat_statement (Foreach spot head body) ≡ (is_flat_foreach head && is_flat_body body)
flat_foreach spot head (body_form.Single s) =
    ap is_flat_statement (sym (rolls-Foreach spot head (body_form.Single s))) ∙ fold-roll-Stmt Bool statement_flat (Stmt-F.Foreach spot head (body_form.Single s))
flat_foreach spot head (body_form.Colon ss) =
    ap is_flat_statement (sym (rolls-Foreach spot head (body_form.Colon ss))) ∙ fold-roll-Stmt Bool statement_flat (Stmt-F.Foreach spot head (body_form.Colon ss))

pub flat_switch : (spot : Spot) (e : Expr) (form : SwitchForm) (cases : List (Case Stmt)) → is_flat_statement (Switch spot e form cases) ≡ (is_flat e && list_all is_flat_case cases)
flat_switch spot e form cases =
    ap is_flat_statement (sym (rolls-Switch spot e form cases)) ∙ fold-roll-Stmt Bool statement_flat (Stmt-F.Switch spot e form cases)
    ∙ and_same refl (all_same case_flat is_flat_case _ (λ c. refl) cases)

pub flat_try : (spot : Spot) (body : List Stmt) (catches : List (Catch Stmt)) (last : Option (List Stmt))
    → is_flat_statement (Try spot body catches last) ≡ (are_flat_statements body && list_all is_flat_catch catches && is_flat_list last)
flat_try spot body catches None =
    ap is_flat_statement (sym (rolls-Try spot body catches None)) ∙ fold-roll-Stmt Bool statement_flat (Stmt-F.Try spot body catches None)
    ∙ and_same (and_same refl (all_same catch_flat is_flat_catch _ (λ c. refl) catches)) refl
flat_try spot body catches (Some ss) =
    ap is_flat_statement (sym (rolls-Try spot body catches (Some ss))) ∙ fold-roll-Stmt Bool statement_flat (Stmt-F.Try spot body catches (Some ss))
    ∙ and_same (and_same refl (all_same catch_flat is_flat_catch _ (λ c. refl) catches)) refl
