-- Completeness of the machine of signatures.
use Rattle.std.proofs.Common.{◌≡◌, Bool, true, false, Option, Some, None, List, [], ◌∷◌, refl, ◌∙◌}
use Rattle.php_token.specs.declared.kind.Punct.TheVariants as mark
use Rattle.php_ast.specs.Symbol.{Symbol, punct}
use Rattle.php_grammar.specs.expression.Machine.{Nothing, Form, pick}
use Rattle.php_grammar.specs.expression.Role.{is_colon}
use Rattle.php_grammar.specs.Run.{ReadingOf, or_halted, run_of}
use Rattle.php_ast.specs.statement.Tree.{empty, then_also, Name}
use Rattle.php_ast.specs.statement.Spelling.{commas, symbol_if, spell_dollar, spell_value}
use Rattle.php_ast.specs.statement.Proper.{IfAny, Each}
use Rattle.php_ast.specs.declaration.Tree.{Base, of_name, of_array, of_callable, Type_of, Param, Signature}
use Rattle.php_ast.specs.declaration.Spelling.{spell_declared, spell_type, spell_param, spell_result, spell_signature}
use Rattle.php_ast.specs.declaration.Proper.{IsProperParam, IsProperSignature}
use Rattle.php_grammar.specs.statement.Role.{ending}
use Rattle.php_grammar.specs.declaration.SignatureMachine.{SignatureState, due_signature, due_param, past_type, past_param, in_default, past_params, due_result, past_signature, param_of, with_default, signature_of, param_end, advance_signature, halt_signature, read_signature, Params, Declared}
use Rattle.php_grammar.specs.declaration.Laws.{SignatureEnds}
use Rattle.php_grammar.proofs.Inside.{Reader, expression_read}
use Rattle.php_grammar.proofs.Machines.{Halts}
use Rattle.php_grammar.proofs.statement.Parts.{at_comma, at_paren}

abbrev run : SignatureState → List Symbol → ReadingOf (Signature Nothing)
run = run_of advance_signature halt_signature

-- ---- halting

due_halts : (params : Params) (w : List Symbol) → (halt_signature (due_param params) w).unread ≡ w
due_halts empty w = refl
due_halts (then_also params p) w = refl

due_tree : (params : Params) (w : List Symbol) → (halt_signature (due_param params) w).tree ≡ (halt_signature (due_param params) []).tree
due_tree empty w = refl
due_tree (then_also params p) w = refl

due_missing : (params : Params) (w : List Symbol) → (halt_signature (due_param params) w).missing ≡ (halt_signature (due_param params) []).missing
due_missing empty w = refl
due_missing (then_also params p) w = refl

signature_unread : (m : SignatureState) (w : List Symbol) → (halt_signature m w).unread ≡ w
signature_unread (due_param params) w = due_halts params w
signature_unread due_signature w = refl
signature_unread _ w = refl

signature_tree : (m : SignatureState) (w : List Symbol) → (halt_signature m w).tree ≡ (halt_signature m []).tree
signature_tree (due_param params) w = due_tree params w
signature_tree due_signature w = refl
signature_tree _ w = refl

signature_missing : (m : SignatureState) (w : List Symbol) → (halt_signature m w).missing ≡ (halt_signature m []).missing
signature_missing (due_param params) w = due_missing params w
signature_missing due_signature w = refl
signature_missing _ w = refl

pub signature_halts : Halts SignatureState (Signature Nothing) halt_signature
signature_halts = record { unread = signature_unread; tree = signature_tree; missing = signature_missing }

-- ---- parameters

marks_typed : (xs : Params) (declared : Declared) (r v : Bool) (n : Name Nothing) (w : List Symbol)
    → run (past_type xs declared) (symbol_if r (punct mark.Ampersand) (symbol_if v (punct mark.Ellipsis) (spell_dollar n w))) ≡ run (past_param xs (param_of declared r v n)) w
marks_typed xs declared true true n w = refl
marks_typed xs declared true false n w = refl
marks_typed xs declared false true n w = refl
marks_typed xs declared false false n w = refl

marks_untyped : (xs : Params) (r v : Bool) (n : Name Nothing) (w : List Symbol)
    → run (due_param xs) (symbol_if r (punct mark.Ampersand) (symbol_if v (punct mark.Ellipsis) (spell_dollar n w))) ≡ run (past_param xs (param_of None r v n)) w
marks_untyped xs true true n w = refl
marks_untyped xs true false n w = refl
marks_untyped xs false true n w = refl
marks_untyped xs false false n w = refl

type_read : (xs : Params) (nullable : Bool) (base : Base Nothing) (w : List Symbol)
    → run (due_param xs) (spell_type (record { is_nullable = nullable; base = base }) w) ≡ run (past_type xs (Some (record { is_nullable = nullable; base = base }))) w
type_read xs true (of_name n) w = refl
type_read xs true of_array w = refl
type_read xs true of_callable w = refl
type_read xs false (of_name n) w = refl
type_read xs false of_array w = refl
type_read xs false of_callable w = refl

front_read : (xs : Params) (declared : Declared) (r v : Bool) (n : Name Nothing) (w : List Symbol)
    → run (due_param xs) (spell_declared declared (symbol_if r (punct mark.Ampersand) (symbol_if v (punct mark.Ellipsis) (spell_dollar n w)))) ≡ run (past_param xs (param_of declared r v n)) w
front_read xs None r v n w = marks_untyped xs r v n w
front_read xs (Some t) r v n w = type_read xs t.is_nullable t.base _ ∙ marks_typed xs (Some t) r v n w

abbrev pub default_reader : Params → Param Nothing → Reader SignatureState advance_signature
default_reader xs p = record { on = λ m. in_default xs p m; ended = λ t e. param_end (then_also xs (with_default p e)) (ending t); steps = λ m t. refl }

-- a parameter up to a comma, and up to the parenthesis
value_comma : (xs : Params) (declared : Declared) (r v : Bool) (n : Name Nothing) (default : Option Form) (w : List Symbol) → IfAny default
    → run (past_param xs (param_of declared r v n)) (spell_value default (punct mark.Comma ∷ w))
    ≡ run (due_param (then_also xs (record { declared = declared; is_reference = r; is_variadic = v; name = n; default = default }))) w
value_comma xs declared r v n None w p = refl
value_comma xs declared r v n (Some e) w p =
    expression_read advance_signature halt_signature (default_reader xs (param_of declared r v n)) e (punct mark.Comma) w _ p (at_comma e w) refl

value_paren : (xs : Params) (declared : Declared) (r v : Bool) (n : Name Nothing) (default : Option Form) (w : List Symbol) → IfAny default
    → run (past_param xs (param_of declared r v n)) (spell_value default (punct mark.RightParen ∷ w))
    ≡ run (past_params (then_also xs (record { declared = declared; is_reference = r; is_variadic = v; name = n; default = default }))) w
value_paren xs declared r v n None w p = refl
value_paren xs declared r v n (Some e) w p =
    expression_read advance_signature halt_signature (default_reader xs (param_of declared r v n)) e (punct mark.RightParen) w _ p (at_paren e w) refl

param_comma : (xs : Params) (p : Param Nothing) (w : List Symbol) → IsProperParam p → run (due_param xs) (spell_param p (punct mark.Comma ∷ w)) ≡ run (due_param (then_also xs p)) w
param_comma xs p w h = front_read xs p.declared p.is_reference p.is_variadic p.name _ ∙ value_comma xs p.declared p.is_reference p.is_variadic p.name p.default w h

param_paren : (xs : Params) (p : Param Nothing) (w : List Symbol) → IsProperParam p → run (due_param xs) (spell_param p (punct mark.RightParen ∷ w)) ≡ run (past_params (then_also xs p)) w
param_paren xs p w h = front_read xs p.declared p.is_reference p.is_variadic p.name _ ∙ value_paren xs p.declared p.is_reference p.is_variadic p.name p.default w h

params_led : (xs : Params) (p : Param Nothing) (w : List Symbol) → Each IsProperParam xs → run (due_param empty) (commas spell_param (then_also xs p) w) ≡ run (due_param xs) (spell_param p w)
params_led empty p w h = refl
params_led (then_also xs y) p w h = params_led xs y (punct mark.Comma ∷ spell_param p w) h.0 ∙ param_comma xs y (spell_param p w) h.1

params_read : (xs : Params) (w : List Symbol) → Each IsProperParam xs → run (due_param empty) (commas spell_param xs (punct mark.RightParen ∷ w)) ≡ run (past_params xs) w
params_read empty w h = refl
params_read (then_also xs p) w h = params_led xs p (punct mark.RightParen ∷ w) h.0 ∙ param_paren xs p w h.1

-- ---- the result

result_read : (xs : Params) (nullable : Bool) (base : Base Nothing) (w : List Symbol)
    → run (past_params xs) (spell_result (Some (record { is_nullable = nullable; base = base })) w) ≡ run (past_signature (signature_of xs (Some (record { is_nullable = nullable; base = base })))) w
result_read xs true (of_name n) w = refl
result_read xs true of_array w = refl
result_read xs true of_callable w = refl
result_read xs false (of_name n) w = refl
result_read xs false of_array w = refl
result_read xs false of_callable w = refl

ended_here : (b : Bool) (xs : Params) (t : Symbol) (w : List Symbol) → b ≡ false
    → or_halted (pick b (Some (due_result xs)) None) (λ n. run n w) (halt_signature (past_params xs) (t ∷ w)) ≡ record { tree = signature_of xs None; missing = []; unread = t ∷ w }
ended_here false xs t w h = refl
ended_here true xs t w h = cc

signature_ended : (xs : Params) (w : List Symbol) → SignatureEnds (signature_of xs None) w → run (past_params xs) w ≡ record { tree = signature_of xs None; missing = []; unread = w }
signature_ended xs [] h = refl
signature_ended xs (t ∷ w) h = ended_here (is_colon t) xs t w h

nothing_follows : (s : Signature Nothing) (w : List Symbol) → run (past_signature s) w ≡ record { tree = s; missing = []; unread = w }
nothing_follows s [] = refl
nothing_follows s (t ∷ w) = refl

result_ends : (xs : Params) (result : Option (Type_of Nothing)) (w : List Symbol) → SignatureEnds (signature_of xs result) w
    → run (past_params xs) (spell_result result w) ≡ record { tree = signature_of xs result; missing = []; unread = w }
result_ends xs None w h = signature_ended xs w h
result_ends xs (Some t) w h = result_read xs t.is_nullable t.base w ∙ nothing_follows (signature_of xs (Some t)) w

pub signatures_read_back : (s : Signature Nothing) (w : List Symbol) → IsProperSignature s → SignatureEnds s w → read_signature (spell_signature s w) ≡ record { tree = s; missing = []; unread = w }
signatures_read_back s w p h = params_read s.params (spell_result s.result w) p ∙ result_ends s.params s.result w h
