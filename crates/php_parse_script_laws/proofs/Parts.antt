-- Parts of flat statements, there and back.
use Rattle.std.proofs.Common.{◌≡◌, Bool, true, ◌&&◌, List, [], ◌∷◌, ◌++◌, map, Option, Some, None, refl, sym, ◌∙◌, ap, append_assoc}
use Rattle.std.specs.List.{list_all}
use Rattle.std.proofs.lemmas.List.{append-nil}
use Rattle.php_ast.specs.declared.spot.Name as rust_name
use Rattle.php_ast.specs.declared.expression.Expr.{Expr}
use Rattle.php_ast.specs.declared.statement.Stmt.{Stmt}
use Rattle.php_ast.specs.declared.statement.VariableItem.{VariableItem}
use Rattle.php_ast.specs.declared.statement.ConstantItem.{ConstantItem}
use Rattle.php_ast.specs.declared.statement.ElseIf.{ElseIf}
use Rattle.php_ast.specs.declared.statement.Body as rust_body
use Rattle.php_ast.specs.declared.statement.Body.TheVariants as body_form
use Rattle.php_ast.specs.declared.statement.ForHead.{ForHead}
use Rattle.php_ast.specs.declared.statement.ForeachHead.{ForeachHead}
use Rattle.php_ast.specs.declared.statement.Target as rust_target
use Rattle.php_ast.specs.declared.statement.Case.{Case}
use Rattle.php_ast.specs.declared.statement.Catch.{Catch}
use Rattle.php_ast.specs.expression.Tree.{none, and, plain}
use Rattle.php_ast.specs.expression.View.{Note, spot_view, values_from, view}
use Rattle.php_ast.specs.statement.Tree.{empty, then_also, Statements, no_statement, and_statement, ElseIfs, and_elseif, ElseIfLists, and_elseif_list, Cases, and_case, Catches, and_catch}
use Rattle.php_ast.specs.statement.View.{sequence_from, sequence, optional, name_view, names_view, values_view, variable_view, constant_view, target_view, statements_from, list_view, elseifs_from, elseif_lists_from, body_view, cases_from, catches_from, statement_view}
use Rattle.php_build.specs.Flat.{shape, is_flat, are_flat}
use Rattle.php_build.proofs.Flats.{first_of, second_of}
use Rattle.php_flat.specs.Statements.{is_flat_optional, is_flat_variable, is_flat_constant, is_flat_target, is_flat_key, is_flat_for, is_flat_foreach, all_flat, elseif_flat, elseif_list_flat, body_flat, case_flat, catch_flat, is_flat_statement}
use Rattle.php_parse_expression_laws.proofs.Layers.{two_same}
use Rattle.php_parse_expression_laws.proofs.Unview.{unview_values}
use Rattle.php_parse_expression_laws.proofs.Parts.{list_back}
use Rattle.php_parse_expression_laws.proofs.Unique.{expression_back}
use Rattle.php_parse_script_laws.proofs.Layers.{in_elseif, in_body, in_case, in_catch}
use Rattle.php_parse_script_laws.proofs.Unview.{expr_of, elements, name_of, variable_of, constant_of, target_of, statement_of, statements_of, elseifs_of, elseif_lists_of, body_of, cases_of, catches_of}

pub three_same : {X Y Z W : Type 0} (g : X → Y → Z → W) {x u : X} {y v : Y} {z w : Z} → x ≡ u → y ≡ v → z ≡ w → g x y z ≡ g u v w
three_same g {u = u} {v = v} {z = z} p q r = two_same (λ a b. g a b z) p q ∙ ap (g u v) r

pub four_same : {X Y Z W V : Type 0} (g : X → Y → Z → W → V) {x u : X} {y v : Y} {z t : Z} {w s : W} → x ≡ u → y ≡ v → z ≡ t → w ≡ s → g x y z w ≡ g u v t s
four_same g {u = u} {v = v} {t = t} {w = w} p q r l = three_same (λ a b c. g a b c w) p q r ∙ ap (g u v t) l

-- ---- lists that grow at their end

pub rows_back : {E X T : Type 0} (p : E → Bool) (v : E → X) (un : T → List E) (more : T → X → T) (all : T → List X → T)
    → ((t : T) → all t [] ≡ t) → ((t : T) (x : X) (xs : List X) → all t (x ∷ xs) ≡ all (more t x) xs)
    → ((t : T) (x : E) → p x ≡ true → un (more t (v x)) ≡ un t ++ x ∷ [])
    → (t : T) (xs : List E) → list_all p xs ≡ true → un (all t (map v xs)) ≡ un t ++ xs
rows_back p v un more all nil cons one t [] h = ap un (nil t) ∙ sym (append-nil (un t))
rows_back p v un more all nil cons one t (x ∷ xs) h =
    let rest = list_all p xs in
    ap un (cons t (v x) (map v xs)) ∙ rows_back p v un more all nil cons one (more t (v x)) xs (second_of (p x) rest h)
    ∙ ap (λ l. l ++ xs) (one t x (first_of (p x) rest h))
    ∙ append_assoc (un t) (x ∷ []) xs

pub sequence_back : {A B : Type 0} (p : B → Bool) (f : A → B) (g : B → A) → ((x : B) → p x ≡ true → f (g x) ≡ x) → (xs : List B) → list_all p xs ≡ true → elements f (sequence g xs) ≡ xs
sequence_back p f g one = rows_back p g (elements f) then_also sequence_from (λ t. refl) (λ t x xs. refl) (λ t x h. ap (λ y. elements f t ++ y ∷ []) (one x h)) empty

-- of elements that need no premise
pub each_back : {A B : Type 0} (f : A → B) (g : B → A) → ((x : B) → f (g x) ≡ x) → (xs : List B) → elements f (sequence g xs) ≡ xs
each_back f g one xs = sequence_back (λ x. true) f g (λ x h. one x) xs (all_hold xs)
  where
    all_hold : {B : Type 0} (xs : List B) → list_all (λ (x : B). true) xs ≡ true
    all_hold [] = refl
    all_hold (x ∷ xs) = all_hold xs

pub optional_back : {A B : Type 0} (f : A → B) (g : B → A) → ((x : B) → f (g x) ≡ x) → (o : Option B) → optional f (optional g o) ≡ o
optional_back f g one None = refl
optional_back f g one (Some x) = ap Some (one x)

pub all_map : {A B : Type 0} (p : B → Bool) (g : A → B) (xs : List A) → list_all p (map g xs) ≡ list_all (λ x. p (g x)) xs
all_map p g [] = refl
all_map p g (x ∷ xs) = ap (λ b. p (g x) && b) (all_map p g xs)

-- ---- parts without statements

pub names_back : (names : List rust_name.Name) → elements name_of (names_view names) ≡ names
names_back = each_back name_of name_view (λ n. refl)

pub value_back : (o : Option Expr) → is_flat_optional o ≡ true → optional expr_of (optional view o) ≡ o
value_back None h = refl
value_back (Some e) h = ap Some (expression_back e h)

pub values_back : (es : List Expr) → are_flat es ≡ true → unview_values (values_view es) ≡ es
values_back es h =
    rows_back is_flat view unview_values (λ t e. and t plain e) values_from (λ t. refl) (λ t x xs. refl) (λ t e p. ap (λ x. unview_values t ++ x ∷ []) (expression_back e p)) none es
    (sym (all_map (λ s. s.flat) shape es) ∙ h)

pub variable_back : (x : VariableItem) → is_flat_variable x ≡ true → variable_of (variable_view x) ≡ x
variable_back x h = ap (λ (v : Option Expr). record { name = x.name; value = v }) (value_back x.value h)

pub variables_back : (items : List VariableItem) → list_all is_flat_variable items ≡ true → elements variable_of (sequence variable_view items) ≡ items
variables_back = sequence_back is_flat_variable variable_of variable_view variable_back

constant_back : (x : ConstantItem) → is_flat_constant x ≡ true → constant_of (constant_view x) ≡ x
constant_back x h = ap (λ (v : Expr). record { name = x.name; value = v }) (expression_back x.value h)

pub constants_back : (items : List ConstantItem) → list_all is_flat_constant items ≡ true → elements constant_of (sequence constant_view items) ≡ items
constants_back = sequence_back is_flat_constant constant_of constant_view constant_back

target_back : (t : rust_target.Target) → is_flat_target t ≡ true → target_of (target_view t) ≡ t
target_back t h = ap (λ (e : Expr). record { is_reference = t.is_reference; place = e }) (expression_back t.place h)

key_back : (o : Option rust_target.Target) → is_flat_key o ≡ true → optional target_of (optional target_view o) ≡ o
key_back None h = refl
key_back (Some t) h = ap Some (target_back t h)

abbrev pub for_again : ForHead → ForHead
for_again head = record { starts = unview_values (values_view head.starts); tests = unview_values (values_view head.tests); steps = unview_values (values_view head.steps) }

pub for_back : (head : ForHead) → is_flat_for head ≡ true → for_again head ≡ head
for_back head h =
    let a = are_flat head.starts in
    let b = are_flat head.tests in
    let c = are_flat head.steps in
    let begun = first_of (a && b) c h in
    three_same (λ (x y z : List Expr). record { starts = x; tests = y; steps = z }) (values_back head.starts (first_of a b begun)) (values_back head.tests (second_of a b begun)) (values_back head.steps (second_of (a && b) c h))

abbrev pub foreach_again : ForeachHead → ForeachHead
foreach_again head = record { walked = expr_of (view head.walked); key = optional target_of (optional target_view head.key); value = target_of (target_view head.value) }

pub foreach_back : (head : ForeachHead) → is_flat_foreach head ≡ true → foreach_again head ≡ head
foreach_back head h =
    let a = is_flat head.walked in
    let b = is_flat_key head.key in
    let c = is_flat_target head.value in
    let begun = first_of (a && b) c h in
    three_same (λ (x : Expr) (y : Option rust_target.Target) (z : rust_target.Target). record { walked = x; key = y; value = z }) (expression_back head.walked (first_of a b begun)) (key_back head.key (second_of a b begun))
    (target_back head.value (second_of (a && b) c h))

-- ---- a statement with what is known of it

abbrev pub IsKept : Stmt → Type 0
IsKept s = is_flat_statement s ≡ true → statement_of (statement_view s) ≡ s

abbrev pub Known : Type 0
Known = (s : Stmt) × IsKept s

abbrev pub known : Known → Stmt
known w = w.0

pub back : (w : Known) → is_flat_statement (known w) ≡ true → statement_of (statement_view (known w)) ≡ known w
back w h = w.1 h

-- ---- parts with statements

statements_from_back : (t : Statements Note) (ss : List Known) → all_flat (map is_flat_statement (map known ss)) ≡ true → statements_of (statements_from t (map statement_view (map known ss))) ≡ statements_of t ++ map known ss
statements_from_back =
    list_back known is_flat_statement (λ b. b) statement_view statements_of and_statement statements_from (λ t. refl) (λ t x xs. refl) (λ t w h. ap (λ s. statements_of t ++ s ∷ []) (back w h))

pub statements_back : (ss : List Known) → all_flat (map is_flat_statement (map known ss)) ≡ true → statements_of (list_view (map statement_view (map known ss))) ≡ map known ss
statements_back = statements_from_back no_statement

elseif_back : (t : ElseIfs Note) (p : ElseIf Known) → elseif_flat (in_elseif is_flat_statement (in_elseif known p)) ≡ true
    → elseifs_of (and_elseif t (view p.test) (statement_view (known p.body))) ≡ elseifs_of t ++ in_elseif known p ∷ []
elseif_back t p h =
    let a = is_flat p.test in
    let b = is_flat_statement (known p.body) in
    two_same (λ (x : Expr) (y : Stmt). elseifs_of t ++ record { test = x; body = y } ∷ []) (expression_back p.test (first_of a b h)) (back p.body (second_of a b h))

pub elseifs_back : (t : ElseIfs Note) (parts : List (ElseIf Known)) → list_all elseif_flat (map (in_elseif is_flat_statement) (map (in_elseif known) parts)) ≡ true
    → elseifs_of (elseifs_from t (map (in_elseif statement_view) (map (in_elseif known) parts))) ≡ elseifs_of t ++ map (in_elseif known) parts
elseifs_back =
    list_back (in_elseif known) (in_elseif is_flat_statement) elseif_flat (in_elseif statement_view) elseifs_of (λ t p. and_elseif t (view p.test) p.body) elseifs_from (λ t. refl) (λ t x xs. refl) elseif_back

elseif_list_back : (t : ElseIfLists Note) (p : ElseIf (List Known)) → elseif_list_flat (in_elseif (map is_flat_statement) (in_elseif (map known) p)) ≡ true
    → elseif_lists_of (and_elseif_list t (view p.test) (list_view (map statement_view (map known p.body)))) ≡ elseif_lists_of t ++ in_elseif (map known) p ∷ []
elseif_list_back t p h =
    let a = is_flat p.test in
    let b = all_flat (map is_flat_statement (map known p.body)) in
    two_same (λ (x : Expr) (y : List Stmt). elseif_lists_of t ++ record { test = x; body = y } ∷ []) (expression_back p.test (first_of a b h)) (statements_back p.body (second_of a b h))

pub elseif_lists_back : (t : ElseIfLists Note) (parts : List (ElseIf (List Known))) → list_all elseif_list_flat (map (in_elseif (map is_flat_statement)) (map (in_elseif (map known)) parts)) ≡ true
    → elseif_lists_of (elseif_lists_from t (map (in_elseif (map statement_view)) (map (in_elseif (map known)) parts))) ≡ elseif_lists_of t ++ map (in_elseif (map known)) parts
elseif_lists_back =
    list_back (in_elseif (map known)) (in_elseif (map is_flat_statement)) elseif_list_flat (in_elseif (map statement_view)) elseif_lists_of (λ t p. and_elseif_list t (view p.test) (list_view p.body)) elseif_lists_from
    (λ t. refl) (λ t x xs. refl) elseif_list_back

pub body_back : (body : rust_body.Body Known) → body_flat (in_body is_flat_statement (in_body known body)) ≡ true → body_of (body_view (in_body statement_view (in_body known body))) ≡ in_body known body
body_back (body_form.Single w) h = ap body_form.Single (back w h)
body_back (body_form.Colon ss) h = ap body_form.Colon (statements_back ss h)

case_back : (t : Cases Note) (c : Case Known) → case_flat (in_case is_flat_statement (in_case known c)) ≡ true
    → cases_of (and_case t (spot_view c.spot) (optional view c.value) c.end (list_view (map statement_view (map known c.body)))) ≡ cases_of t ++ in_case known c ∷ []
case_back t c h =
    let a = is_flat_optional c.value in
    let b = all_flat (map is_flat_statement (map known c.body)) in
    two_same (λ (x : Option Expr) (y : List Stmt). cases_of t ++ record { spot = c.spot; value = x; end = c.end; body = y } ∷ []) (value_back c.value (first_of a b h)) (statements_back c.body (second_of a b h))

pub cases_back : (t : Cases Note) (cases : List (Case Known)) → list_all case_flat (map (in_case is_flat_statement) (map (in_case known) cases)) ≡ true
    → cases_of (cases_from t (map (in_case statement_view) (map (in_case known) cases))) ≡ cases_of t ++ map (in_case known) cases
cases_back =
    list_back (in_case known) (in_case is_flat_statement) case_flat (in_case statement_view) cases_of (λ t c. and_case t (spot_view c.spot) (optional view c.value) c.end (list_view c.body)) cases_from
    (λ t. refl) (λ t x xs. refl) case_back

catch_back : (t : Catches Note) (c : Catch Known) → catch_flat (in_catch is_flat_statement (in_catch known c)) ≡ true
    → catches_of (and_catch t (names_view c.classes) (name_view c.variable) (list_view (map statement_view (map known c.body)))) ≡ catches_of t ++ in_catch known c ∷ []
catch_back t c h =
    two_same (λ (x : List rust_name.Name) (y : List Stmt). catches_of t ++ record { classes = x; variable = c.variable; body = y } ∷ []) (names_back c.classes) (statements_back c.body h)

pub catches_back : (t : Catches Note) (catches : List (Catch Known)) → list_all catch_flat (map (in_catch is_flat_statement) (map (in_catch known) catches)) ≡ true
    → catches_of (catches_from t (map (in_catch statement_view) (map (in_catch known) catches))) ≡ catches_of t ++ map (in_catch known) catches
catches_back =
    list_back (in_catch known) (in_catch is_flat_statement) catch_flat (in_catch statement_view) catches_of (λ t c. and_catch t (names_view c.classes) (name_view c.variable) (list_view c.body)) catches_from
    (λ t. refl) (λ t x xs. refl) catch_back
