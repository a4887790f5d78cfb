-- The nesting that the machine of signatures counts is that of the tree.
use Rattle.std.proofs.Common.{◌≡◌, ℕ, Bool, true, false, Option, Some, None, List, [], ◌∷◌, refl, sym, ◌∙◌, ap}
use Rattle.php_token.specs.declared.kind.Punct.TheVariants as mark
use Rattle.php_ast.specs.Symbol.{Symbol, punct}
use Rattle.php_ast.specs.expression.Spelling.{spell}
use Rattle.php_ast.specs.expression.Nesting.{nests}
use Rattle.php_ast.specs.expression.Proper.{Proper}
use Rattle.php_grammar.specs.expression.Machine.{Nothing, Form, expects, pick}
use Rattle.php_grammar.specs.expression.Laws.{EndsBefore}
use Rattle.php_grammar.specs.expression.Role.{is_colon}
use Rattle.php_grammar.specs.TooDeep.{taken, depths_taken}
use Rattle.php_ast.specs.statement.Tree.{empty, then_also, Name}
use Rattle.php_ast.specs.statement.Spelling.{commas, symbol_if, spell_dollar, spell_value}
use Rattle.php_ast.specs.statement.Nesting.{separated_nests, separator_nests, nests_if, value_nests}
use Rattle.php_ast.specs.statement.Proper.{IfAny, Each}
use Rattle.php_ast.specs.declaration.Tree.{Base, of_name, of_array, of_callable, Type_of, Param, Signature}
use Rattle.php_ast.specs.declaration.Spelling.{spell_declared, spell_type, spell_param, spell_result, spell_signature}
use Rattle.php_ast.specs.declaration.Nesting.{type_nests, declared_nests, param_nests, result_nests, signature_nests}
use Rattle.php_ast.specs.declaration.Proper.{IsProperParam, IsProperSignature}
use Rattle.php_grammar.specs.statement.Role.{ending}
use Rattle.php_grammar.specs.declaration.SignatureMachine.{SignatureState, due_param, past_type, past_param, in_default, past_params, due_result, past_signature, param_of, with_default, signature_of, param_end, advance_signature, Params, Declared}
use Rattle.php_grammar.specs.declaration.Depth.{signature_depth_at, signature_depths_read}
use Rattle.php_grammar.specs.declaration.Laws.{ResultEnds, SignatureEnds}
use Rattle.php_grammar.proofs.Deepened.{Counts, expression_depths}
use Rattle.php_grammar.proofs.expression.Shifts.{nests_shift}
use Rattle.php_grammar.proofs.statement.Parts.{at_comma, at_paren}
use Rattle.php_grammar.proofs.declaration.SignatureBack.{default_reader}

abbrev trace : SignatureState → List Symbol → List ℕ
trace = depths_taken advance_signature signature_depth_at

marks_typed : (xs : Params) (declared : Declared) (r v : Bool) (n : Name Nothing) (w : List Symbol)
    → trace (past_type xs declared) (symbol_if r (punct mark.Ampersand) (symbol_if v (punct mark.Ellipsis) (spell_dollar n w)))
    ≡ nests_if r 1 (nests_if v 1 (1 ∷ trace (past_param xs (param_of declared r v n)) w))
marks_typed xs declared true true n w = refl
marks_typed xs declared true false n w = refl
marks_typed xs declared false true n w = refl
marks_typed xs declared false false n w = refl

marks_untyped : (xs : Params) (r v : Bool) (n : Name Nothing) (w : List Symbol)
    → trace (due_param xs) (symbol_if r (punct mark.Ampersand) (symbol_if v (punct mark.Ellipsis) (spell_dollar n w)))
    ≡ nests_if r 1 (nests_if v 1 (1 ∷ trace (past_param xs (param_of None r v n)) w))
marks_untyped xs true true n w = refl
marks_untyped xs true false n w = refl
marks_untyped xs false true n w = refl
marks_untyped xs false false n w = refl

type_trace : (xs : Params) (nullable : Bool) (base : Base Nothing) (w : List Symbol)
    → trace (due_param xs) (spell_type (record { is_nullable = nullable; base = base }) w)
    ≡ type_nests (record { is_nullable = nullable; base = base }) 1 (trace (past_type xs (Some (record { is_nullable = nullable; base = base }))) w)
type_trace xs true (of_name n) w = refl
type_trace xs true of_array w = refl
type_trace xs true of_callable w = refl
type_trace xs false (of_name n) w = refl
type_trace xs false of_array w = refl
type_trace xs false of_callable w = refl

front_trace : (xs : Params) (declared : Declared) (r v : Bool) (n : Name Nothing) (w : List Symbol)
    → trace (due_param xs) (spell_declared declared (symbol_if r (punct mark.Ampersand) (symbol_if v (punct mark.Ellipsis) (spell_dollar n w))))
    ≡ declared_nests declared 1 (nests_if r 1 (nests_if v 1 (1 ∷ trace (past_param xs (param_of declared r v n)) w)))
front_trace xs None r v n w = marks_untyped xs r v n w
front_trace xs (Some t) r v n w = type_trace xs t.is_nullable t.base _ ∙ ap (type_nests t 1) (marks_typed xs (Some t) r v n w)

abbrev default_counts : (xs : Params) (p : Param Nothing) → Counts SignatureState advance_signature signature_depth_at (default_reader xs p) 1
default_counts xs p = record { counts = λ m t. refl }

default_trace : (xs : Params) (p : Param Nothing) (e : Form) (t : Symbol) (w : List Symbol) (n : SignatureState) → Proper e → EndsBefore e (t ∷ w)
    → param_end (then_also xs (with_default p e)) (ending t) ≡ Some n → trace (in_default xs p (expects [])) (spell e (t ∷ w)) ≡ nests e 1 (1 ∷ trace n w)
default_trace xs p e t w n h ends is =
    expression_depths advance_signature signature_depth_at (default_reader xs p) 1 (default_counts xs p) e t w n h ends is ∙ sym (nests_shift e 0 1 [] (1 ∷ trace n w))

value_comma : (xs : Params) (declared : Declared) (r v : Bool) (n : Name Nothing) (default : Option Form) (w : List Symbol) → IfAny default
    → trace (past_param xs (param_of declared r v n)) (spell_value default (punct mark.Comma ∷ w))
    ≡ value_nests default 1 (1 ∷ trace (due_param (then_also xs (record { declared = declared; is_reference = r; is_variadic = v; name = n; default = default }))) w)
value_comma xs declared r v n None w p = refl
value_comma xs declared r v n (Some e) w p = ap (λ u. 1 ∷ u) (default_trace xs (param_of declared r v n) e (punct mark.Comma) w _ p (at_comma e w) refl)

value_paren : (xs : Params) (declared : Declared) (r v : Bool) (n : Name Nothing) (default : Option Form) (w : List Symbol) → IfAny default
    → trace (past_param xs (param_of declared r v n)) (spell_value default (punct mark.RightParen ∷ w))
    ≡ value_nests default 1 (1 ∷ trace (past_params (then_also xs (record { declared = declared; is_reference = r; is_variadic = v; name = n; default = default }))) w)
value_paren xs declared r v n None w p = refl
value_paren xs declared r v n (Some e) w p = ap (λ u. 1 ∷ u) (default_trace xs (param_of declared r v n) e (punct mark.RightParen) w _ p (at_paren e w) refl)

abbrev before_value : Param Nothing → List ℕ → List ℕ
before_value p u = declared_nests p.declared 1 (nests_if p.is_reference 1 (nests_if p.is_variadic 1 (1 ∷ u)))

param_comma : (xs : Params) (p : Param Nothing) (w : List Symbol) → IsProperParam p → trace (due_param xs) (spell_param p (punct mark.Comma ∷ w)) ≡ param_nests p 1 (1 ∷ trace (due_param (then_also xs p)) w)
param_comma xs p w h =
    front_trace xs p.declared p.is_reference p.is_variadic p.name (spell_value p.default (punct mark.Comma ∷ w))
    ∙ ap (before_value p) (value_comma xs p.declared p.is_reference p.is_variadic p.name p.default w h)

param_paren : (xs : Params) (p : Param Nothing) (w : List Symbol) → IsProperParam p → trace (due_param xs) (spell_param p (punct mark.RightParen ∷ w)) ≡ param_nests p 1 (1 ∷ trace (past_params (then_also xs p)) w)
param_paren xs p w h =
    front_trace xs p.declared p.is_reference p.is_variadic p.name (spell_value p.default (punct mark.RightParen ∷ w))
    ∙ ap (before_value p) (value_paren xs p.declared p.is_reference p.is_variadic p.name p.default w h)

params_led : (xs : Params) (p : Param Nothing) (w : List Symbol) → Each IsProperParam xs
    → trace (due_param empty) (commas spell_param (then_also xs p) w) ≡ separated_nests param_nests xs 1 (separator_nests xs 1 (trace (due_param xs) (spell_param p w)))
params_led empty p w h = refl
params_led (then_also xs y) p w h =
    params_led xs y (punct mark.Comma ∷ spell_param p w) h.0 ∙ ap (λ u. separated_nests param_nests xs 1 (separator_nests xs 1 u)) (param_comma xs y (spell_param p w) h.1)

params_trace : (xs : Params) (w : List Symbol) → Each IsProperParam xs
    → trace (due_param empty) (commas spell_param xs (punct mark.RightParen ∷ w)) ≡ separated_nests param_nests xs 1 (1 ∷ trace (past_params xs) w)
params_trace empty w h = refl
params_trace (then_also xs p) w h =
    params_led xs p (punct mark.RightParen ∷ w) h.0 ∙ ap (λ u. separated_nests param_nests xs 1 (separator_nests xs 1 u)) (param_paren xs p w h.1)

result_trace : (xs : Params) (nullable : Bool) (base : Base Nothing) (w : List Symbol)
    → trace (past_params xs) (spell_result (Some (record { is_nullable = nullable; base = base })) w)
    ≡ result_nests (Some (record { is_nullable = nullable; base = base })) 0 (trace (past_signature (signature_of xs (Some (record { is_nullable = nullable; base = base })))) w)
result_trace xs true (of_name n) w = refl
result_trace xs true of_array w = refl
result_trace xs true of_callable w = refl
result_trace xs false (of_name n) w = refl
result_trace xs false of_array w = refl
result_trace xs false of_callable w = refl

nothing_taken : (s : Signature Nothing) (w : List Symbol) → trace (past_signature s) w ≡ []
nothing_taken s [] = refl
nothing_taken s (t ∷ w) = refl

no_colon : (b : Bool) (xs : Params) (w : List Symbol) → b ≡ false → taken (pick b (Some (due_result xs)) None) 0 (λ n. trace n w) ≡ []
no_colon false xs w h = refl
no_colon true xs w h = cc

ended_trace : (xs : Params) (result : Option (Type_of Nothing)) (w : List Symbol) → ResultEnds result w → trace (past_params xs) (spell_result result w) ≡ result_nests result 0 []
ended_trace xs None [] h = refl
ended_trace xs None (t ∷ w) h = no_colon (is_colon t) xs w h
ended_trace xs (Some t) w h = result_trace xs t.is_nullable t.base w ∙ ap (result_nests (Some t) 0) (nothing_taken (signature_of xs (Some t)) w)

pub signature_nesting : (s : Signature Nothing) (w : List Symbol) → IsProperSignature s → SignatureEnds s w → signature_depths_read (spell_signature s w) ≡ signature_nests s 0 []
signature_nesting s w p h =
    ap (λ u. 0 ∷ u) (params_trace s.params (spell_result s.result w) p ∙ ap (λ u. separated_nests param_nests s.params 1 (1 ∷ u)) (ended_trace s.params s.result w h))
