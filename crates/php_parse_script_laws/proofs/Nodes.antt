-- Each kind of statement, there and back.
use Rattle.std.proofs.Common.{◌≡◌, Bool, true, ◌&&◌, List, map, Option, Some, None, refl, sym, ◌∙◌, ap, subst}
use Rattle.std.specs.List.{list_all}
use Rattle.php_ast.specs.declared.spot.Spot.{Spot}
use Rattle.php_ast.specs.declared.expression.Expr.{Expr}
use Rattle.php_ast.specs.declared.statement.Stmt.{Stmt}
use Rattle.php_ast.specs.declared.statement.Stmt.TheOpen.{Stmt-F}
use Rattle.php_ast.specs.declared.statement.Stmt.TheViews.{roll-Stmt}
use Rattle.php_ast.specs.declared.statement.Stmt.TheFolds.{fold-roll-Stmt, ind-Stmt}
use Rattle.php_ast.specs.declared.statement.ElseIf.{ElseIf}
use Rattle.php_ast.specs.declared.statement.Catch.{Catch}
use Rattle.php_ast.specs.expression.View.{Note}
use Rattle.php_ast.specs.statement.Tree.{Statement, no_elseif, no_elseif_list, no_case, no_catch}
use Rattle.php_ast.specs.statement.View.{statement_step, statement_view}
use Rattle.php_build.specs.Flat.{is_flat}
use Rattle.php_build.proofs.Flats.{first_of, second_of}
use Rattle.php_flat.specs.Statements.{is_flat_for, is_flat_foreach, all_flat, elseif_flat, elseif_list_flat, body_flat, case_flat, catch_flat, statement_flat, is_flat_statement}
use Rattle.php_parse_expression_laws.proofs.Layers.{two_same}
use Rattle.php_parse_expression_laws.proofs.Unique.{expression_back}
use Rattle.php_parse_script_laws.proofs.Layers.{in_elseif, in_body, in_case, in_catch, in_node, node_same}
use Rattle.php_parse_script_laws.proofs.Unview.{statement_of}
use Rattle.php_parse_script_laws.proofs.Parts.{three_same, four_same, IsKept, Known, known, back, names_back, value_back, values_back, variables_back, constants_back, for_back, foreach_back, statements_back, elseifs_back, elseif_lists_back, body_back, cases_back, catches_back}

-- ---- the view of a node, and whether it is flat

view_node : (x : Stmt-F Stmt) → statement_view (roll-Stmt x) ≡ statement_step (in_node statement_view x)
view_node x = fold-roll-Stmt (Statement Note) statement_step x ∙ ap statement_step (node_same Stmt (Statement Note) statement_view x)

flat_node : (x : Stmt-F Stmt) → is_flat_statement (roll-Stmt x) ≡ statement_flat (in_node is_flat_statement x)
flat_node x = fold-roll-Stmt Bool statement_flat x ∙ ap statement_flat (node_same Stmt Bool is_flat_statement x)

-- the same of a node, whose parts are known
abbrev IsKeptNode : Stmt-F Known → Type 0
IsKeptNode y =
    statement_flat (in_node is_flat_statement (in_node known y)) ≡ true → statement_of (statement_step (in_node statement_view (in_node known y))) ≡ roll-Stmt (in_node known y)

kept : (y : Stmt-F Known) → IsKeptNode y → IsKept (roll-Stmt (in_node known y))
kept y h flat = let x = in_node known y in ap statement_of (view_node x) ∙ h (sym (flat_node x) ∙ flat)

-- ---- forms with several parts

if_kept : (spot : Spot) (test : Expr) (body : Known) (parts : List (ElseIf Known)) (last : Option Known) → IsKeptNode (Stmt-F.If spot test body parts last)
if_kept spot test body parts None h =
    let a = is_flat test in
    let b = is_flat_statement (known body) in
    let c = list_all elseif_flat (map (in_elseif is_flat_statement) (map (in_elseif known) parts)) in
    let three = first_of (a && b && c) true h in
    let two = first_of (a && b) c three in
    three_same (λ x y z. roll-Stmt (Stmt-F.If spot x y z None)) (expression_back test (first_of a b two)) (back body (second_of a b two)) (elseifs_back no_elseif parts (second_of (a && b) c three))
if_kept spot test body parts (Some w) h =
    let a = is_flat test in
    let b = is_flat_statement (known body) in
    let c = list_all elseif_flat (map (in_elseif is_flat_statement) (map (in_elseif known) parts)) in
    let d = is_flat_statement (known w) in
    let three = first_of (a && b && c) d h in
    let two = first_of (a && b) c three in
    four_same (λ x y z s. roll-Stmt (Stmt-F.If spot x y z (Some s))) (expression_back test (first_of a b two)) (back body (second_of a b two)) (elseifs_back no_elseif parts (second_of (a && b) c three))
    (back w (second_of (a && b && c) d h))

if_colon_kept : (spot : Spot) (test : Expr) (body : List Known) (parts : List (ElseIf (List Known))) (last : Option (List Known)) → IsKeptNode (Stmt-F.IfColon spot test body parts last)
if_colon_kept spot test body parts None h =
    let a = is_flat test in
    let b = all_flat (map is_flat_statement (map known body)) in
    let c = list_all elseif_list_flat (map (in_elseif (map is_flat_statement)) (map (in_elseif (map known)) parts)) in
    let three = first_of (a && b && c) true h in
    let two = first_of (a && b) c three in
    three_same (λ x y z. roll-Stmt (Stmt-F.IfColon spot x y z None)) (expression_back test (first_of a b two)) (statements_back body (second_of a b two))
    (elseif_lists_back no_elseif_list parts (second_of (a && b) c three))
if_colon_kept spot test body parts (Some ss) h =
    let a = is_flat test in
    let b = all_flat (map is_flat_statement (map known body)) in
    let c = list_all elseif_list_flat (map (in_elseif (map is_flat_statement)) (map (in_elseif (map known)) parts)) in
    let d = all_flat (map is_flat_statement (map known ss)) in
    let three = first_of (a && b && c) d h in
    let two = first_of (a && b) c three in
    four_same (λ x y z s. roll-Stmt (Stmt-F.IfColon spot x y z (Some s))) (expression_back test (first_of a b two)) (statements_back body (second_of a b two))
    (elseif_lists_back no_elseif_list parts (second_of (a && b) c three)) (statements_back ss (second_of (a && b && c) d h))

try_kept : (spot : Spot) (body : List Known) (catches : List (Catch Known)) (last : Option (List Known)) → IsKeptNode (Stmt-F.Try spot body catches last)
try_kept spot body catches None h =
    let a = all_flat (map is_flat_statement (map known body)) in
    let b = list_all catch_flat (map (in_catch is_flat_statement) (map (in_catch known) catches)) in
    let two = first_of (a && b) true h in
    two_same (λ x y. roll-Stmt (Stmt-F.Try spot x y None)) (statements_back body (first_of a b two)) (catches_back no_catch catches (second_of a b two))
try_kept spot body catches (Some ss) h =
    let a = all_flat (map is_flat_statement (map known body)) in
    let b = list_all catch_flat (map (in_catch is_flat_statement) (map (in_catch known) catches)) in
    let c = all_flat (map is_flat_statement (map known ss)) in
    let two = first_of (a && b) c h in
    three_same (λ x y z. roll-Stmt (Stmt-F.Try spot x y (Some z))) (statements_back body (first_of a b two)) (catches_back no_catch catches (second_of a b two)) (statements_back ss (second_of (a && b) c h))

-- ---- all nodes

node_kept : (y : Stmt-F Known) → IsKeptNode y
node_kept (Stmt-F.Block spot ss) h = ap (λ z. roll-Stmt (Stmt-F.Block spot z)) (statements_back ss h)
node_kept (Stmt-F.Empty spot) h = refl
node_kept (Stmt-F.Inline spot text) h = refl
node_kept (Stmt-F.Expression spot e) h = ap (λ z. roll-Stmt (Stmt-F.Expression spot z)) (expression_back e h)
node_kept (Stmt-F.Echo spot es) h = ap (λ z. roll-Stmt (Stmt-F.Echo spot z)) (values_back es h)
node_kept (Stmt-F.Global spot names) h = ap (λ z. roll-Stmt (Stmt-F.Global spot z)) (names_back names)
node_kept (Stmt-F.Static spot items) h = ap (λ z. roll-Stmt (Stmt-F.Static spot z)) (variables_back items h)
node_kept (Stmt-F.Unset spot es) h = ap (λ z. roll-Stmt (Stmt-F.Unset spot z)) (values_back es h)
node_kept (Stmt-F.Const spot items) h = ap (λ z. roll-Stmt (Stmt-F.Const spot z)) (constants_back items h)
node_kept (Stmt-F.Return spot e) h = ap (λ z. roll-Stmt (Stmt-F.Return spot z)) (value_back e h)
node_kept (Stmt-F.Throw spot e) h = ap (λ z. roll-Stmt (Stmt-F.Throw spot z)) (expression_back e h)
node_kept (Stmt-F.Break spot e) h = ap (λ z. roll-Stmt (Stmt-F.Break spot z)) (value_back e h)
node_kept (Stmt-F.Continue spot e) h = ap (λ z. roll-Stmt (Stmt-F.Continue spot z)) (value_back e h)
node_kept (Stmt-F.If spot test body parts last) h = if_kept spot test body parts last h
node_kept (Stmt-F.IfColon spot test body parts last) h = if_colon_kept spot test body parts last h
node_kept (Stmt-F.While spot test body) h =
    let a = is_flat test in
    let b = body_flat (in_body is_flat_statement (in_body known body)) in
    two_same (λ x z. roll-Stmt (Stmt-F.While spot x z)) (expression_back test (first_of a b h)) (body_back body (second_of a b h))
node_kept (Stmt-F.DoWhile spot body test) h =
    let a = is_flat_statement (known body) in
    let b = is_flat test in
    two_same (λ x z. roll-Stmt (Stmt-F.DoWhile spot x z)) (back body (first_of a b h)) (expression_back test (second_of a b h))
node_kept (Stmt-F.For spot head body) h =
    let a = is_flat_for head in
    let b = body_flat (in_body is_flat_statement (in_body known body)) in
    two_same (λ x z. roll-Stmt (Stmt-F.For spot x z)) (for_back head (first_of a b h)) (body_back body (second_of a b h))
node_kept (Stmt-F.Foreach spot head body) h =
    let a = is_flat_foreach head in
    let b = body_flat (in_body is_flat_statement (in_body known body)) in
    two_same (λ x z. roll-Stmt (Stmt-F.Foreach spot x z)) (foreach_back head (first_of a b h)) (body_back body (second_of a b h))
node_kept (Stmt-F.Switch spot e form cases) h =
    let a = is_flat e in
    let b = list_all case_flat (map (in_case is_flat_statement) (map (in_case known) cases)) in
    two_same (λ x z. roll-Stmt (Stmt-F.Switch spot x form z)) (expression_back e (first_of a b h)) (cases_back no_case cases (second_of a b h))
node_kept (Stmt-F.Try spot body catches last) h = try_kept spot body catches last h
node_kept (Stmt-F.Declare spot n value) h = refl

pub statement_back : (s : Stmt) → is_flat_statement s ≡ true → statement_of (statement_view s) ≡ s
statement_back = ind-Stmt IsKept (λ x y is. subst (λ z. IsKept (roll-Stmt z)) (sym (node_same Known Stmt known y) ∙ is) (kept y (node_kept y)))
