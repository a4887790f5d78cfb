-- A function at each statement in one node of the program's statements.
use Rattle.std.proofs.Common.{◌≡◌, List, map, Option, Some, None, refl, ap}
use Rattle.php_ast.specs.declared.spot.Spot.{Spot}
use Rattle.php_ast.specs.declared.expression.Expr.{Expr}
use Rattle.php_ast.specs.declared.statement.Stmt.{map-Stmt}
use Rattle.php_ast.specs.declared.statement.Stmt.TheOpen.{Stmt-F}
use Rattle.php_ast.specs.declared.statement.ElseIf.{ElseIf}
use Rattle.php_ast.specs.declared.statement.Body.{Body}
use Rattle.php_ast.specs.declared.statement.Body.TheVariants as body_form
use Rattle.php_ast.specs.declared.statement.Case.{Case}
use Rattle.php_ast.specs.declared.statement.Catch.{Catch}
use Rattle.php_ast.specs.statement.View.{optional}
use Rattle.php_ast.proofs.Views.{map_same}

-- ---- in a part of a node

abbrev pub in_elseif : {A B : Type 0} → (A → B) → ElseIf A → ElseIf B
in_elseif f p = record { test = p.test; body = f p.body }

abbrev pub in_body : {A B : Type 0} → (A → B) → Body A → Body B
in_body f (body_form.Single s) = body_form.Single (f s)
in_body f (body_form.Colon ss) = body_form.Colon (map f ss)

abbrev pub in_case : {A B : Type 0} → (A → B) → Case A → Case B
in_case f c = record { spot = c.spot; value = c.value; end = c.end; body = map f c.body }

abbrev pub in_catch : {A B : Type 0} → (A → B) → Catch A → Catch B
in_catch f c = record { classes = c.classes; variable = c.variable; body = map f c.body }

-- ---- in a node

abbrev pub in_node : {A B : Type 0} → (A → B) → Stmt-F A → Stmt-F B
in_node f (Stmt-F.Block spot ss) = Stmt-F.Block spot (map f ss)
in_node f (Stmt-F.Empty spot) = Stmt-F.Empty spot
in_node f (Stmt-F.Inline spot text) = Stmt-F.Inline spot text
in_node f (Stmt-F.Expression spot e) = Stmt-F.Expression spot e
in_node f (Stmt-F.Echo spot es) = Stmt-F.Echo spot es
in_node f (Stmt-F.Global spot names) = Stmt-F.Global spot names
in_node f (Stmt-F.Static spot items) = Stmt-F.Static spot items
in_node f (Stmt-F.Unset spot es) = Stmt-F.Unset spot es
in_node f (Stmt-F.Const spot items) = Stmt-F.Const spot items
in_node f (Stmt-F.Return spot e) = Stmt-F.Return spot e
in_node f (Stmt-F.Throw spot e) = Stmt-F.Throw spot e
in_node f (Stmt-F.Break spot e) = Stmt-F.Break spot e
in_node f (Stmt-F.Continue spot e) = Stmt-F.Continue spot e
in_node f (Stmt-F.If spot test body parts last) = Stmt-F.If spot test (f body) (map (in_elseif f) parts) (optional f last)
in_node f (Stmt-F.IfColon spot test body parts last) = Stmt-F.IfColon spot test (map f body) (map (in_elseif (map f)) parts) (optional (map f) last)
in_node f (Stmt-F.While spot test body) = Stmt-F.While spot test (in_body f body)
in_node f (Stmt-F.DoWhile spot body test) = Stmt-F.DoWhile spot (f body) test
in_node f (Stmt-F.For spot head body) = Stmt-F.For spot head (in_body f body)
in_node f (Stmt-F.Foreach spot head body) = Stmt-F.Foreach spot head (in_body f body)
in_node f (Stmt-F.Switch spot e form cases) = Stmt-F.Switch spot e form (map (in_case f) cases)
in_node f (Stmt-F.Try spot body catches last) = Stmt-F.Try spot (map f body) (map (in_catch f) catches) (optional (map f) last)
in_node f (Stmt-F.Declare spot n value) = Stmt-F.Declare spot n value

-- ---- the map that is declared with the type is this one

if_same : (A B : Type 0) (f : A → B) (spot : Spot) (test : Expr) (body : A) (parts : List (ElseIf A)) (last : Option A)
    → map-Stmt A B f (Stmt-F.If spot test body parts last) ≡ in_node f (Stmt-F.If spot test body parts last)
if_same A B f spot test body parts None = ap (λ z. Stmt-F.If spot test (f body) z None) (map_same _ (in_elseif f) (λ p. refl) parts)
if_same A B f spot test body parts (Some s) = ap (λ z. Stmt-F.If spot test (f body) z (Some (f s))) (map_same _ (in_elseif f) (λ p. refl) parts)

if_colon_same : (A B : Type 0) (f : A → B) (spot : Spot) (test : Expr) (body : List A) (parts : List (ElseIf (List A))) (last : Option (List A))
    → map-Stmt A B f (Stmt-F.IfColon spot test body parts last) ≡ in_node f (Stmt-F.IfColon spot test body parts last)
if_colon_same A B f spot test body parts None = ap (λ z. Stmt-F.IfColon spot test (map f body) z None) (map_same _ (in_elseif (map f)) (λ p. refl) parts)
if_colon_same A B f spot test body parts (Some ss) = ap (λ z. Stmt-F.IfColon spot test (map f body) z (Some (map f ss))) (map_same _ (in_elseif (map f)) (λ p. refl) parts)

try_same : (A B : Type 0) (f : A → B) (spot : Spot) (body : List A) (catches : List (Catch A)) (last : Option (List A))
    → map-Stmt A B f (Stmt-F.Try spot body catches last) ≡ in_node f (Stmt-F.Try spot body catches last)
try_same A B f spot body catches None = ap (λ z. Stmt-F.Try spot (map f body) z None) (map_same _ (in_catch f) (λ p. refl) catches)
try_same A B f spot body catches (Some ss) = ap (λ z. Stmt-F.Try spot (map f body) z (Some (map f ss))) (map_same _ (in_catch f) (λ p. refl) catches)

pub node_same : (A B : Type 0) (f : A → B) (x : Stmt-F A) → map-Stmt A B f x ≡ in_node f x
node_same A B f (Stmt-F.Block spot ss) = refl
node_same A B f (Stmt-F.Empty spot) = refl
node_same A B f (Stmt-F.Inline spot text) = refl
node_same A B f (Stmt-F.Expression spot e) = refl
node_same A B f (Stmt-F.Echo spot es) = refl
node_same A B f (Stmt-F.Global spot names) = refl
node_same A B f (Stmt-F.Static spot items) = refl
node_same A B f (Stmt-F.Unset spot es) = refl
node_same A B f (Stmt-F.Const spot items) = refl
node_same A B f (Stmt-F.Return spot e) = refl
node_same A B f (Stmt-F.Throw spot e) = refl
node_same A B f (Stmt-F.Break spot e) = refl
node_same A B f (Stmt-F.Continue spot e) = refl
node_same A B f (Stmt-F.If spot test body parts last) = if_same A B f spot test body parts last
node_same A B f (Stmt-F.IfColon spot test body parts last) = if_colon_same A B f spot test body parts last
node_same A B f (Stmt-F.While spot test (body_form.Single s)) = refl
node_same A B f (Stmt-F.While spot test (body_form.Colon ss)) = refl
node_same A B f (Stmt-F.DoWhile spot body test) = refl
node_same A B f (Stmt-F.For spot head (body_form.Single s)) = refl
node_same A B f (Stmt-F.For spot head (body_form.Colon ss)) = refl
node_same A B f (Stmt-F.Foreach spot head (body_form.Single s)) = refl
node_same A B f (Stmt-F.Foreach spot head (body_form.Colon ss)) = refl
node_same A B f (Stmt-F.Switch spot e form cases) = ap (Stmt-F.Switch spot e form) (map_same _ (in_case f) (λ c. refl) cases)
node_same A B f (Stmt-F.Try spot body catches last) = try_same A B f spot body catches last
node_same A B f (Stmt-F.Declare spot n value) = refl
