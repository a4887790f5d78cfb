-- The form of a signature has no notes: noting nothing of its tokens leaves it as it is.
use Rattle.std.proofs.Common.{◌≡◌, ℕ, ◌+◌, Option, Some, None, refl, ◌∙◌, ap}
use Rattle.php_ast.specs.expression.Placed.{no_notes}
use Rattle.php_ast.specs.statement.Tree.{empty, then_also}
use Rattle.php_ast.specs.statement.Placed.{size_if, size_separated, size_separator, noted_separated, noted_optional}
use Rattle.php_ast.specs.declaration.Tree.{Base, of_name, of_array, of_callable, Param, Signature}
use Rattle.php_ast.specs.declaration.Placed.{noted_base, noted_declared, noted_param, noted_signature, size_marks, size_param}
use Rattle.php_grammar.specs.expression.Machine.{Nothing, Form}
use Rattle.php_grammar.specs.declaration.SignatureMachine.{Params, Declared, type_of, signature_of}
use Rattle.php_parse_expression.proofs.Blanks.{blank}

blank_base : (k : ℕ) (base : Base Nothing) → noted_base no_notes k base ≡ base
blank_base k (of_name n) = refl
blank_base k of_array = refl
blank_base k of_callable = refl

blank_type : (k : ℕ) (t : Declared) → noted_declared no_notes k t ≡ t
blank_type k None = refl
blank_type k (Some t) = ap (λ base. Some (type_of t.is_nullable base)) (blank_base (k + size_if t.is_nullable) t.base)

blank_value : (k : ℕ) (value : Option Form) → noted_optional no_notes k value ≡ value
blank_value k None = refl
blank_value k (Some e) = ap Some (blank k e)

abbrev param_with : Param Nothing → Declared → Option Form → Param Nothing
param_with p declared default =
    record { declared = declared; is_reference = p.is_reference; is_variadic = p.is_variadic; name = p.name; default = default }

blank_param : (k : ℕ) (p : Param Nothing) → noted_param no_notes k p ≡ p
blank_param k p = ap (λ d. param_with p d (noted_optional no_notes (k + size_marks p + 2) p.default)) (blank_type k p.declared) ∙ ap (param_with p p.declared) (blank_value (k + size_marks p + 2) p.default)

blank_params : (k : ℕ) (params : Params) → noted_separated size_param (noted_param no_notes) k params ≡ params
blank_params k empty = refl
blank_params k (then_also params p) =
    cc (blank_params k params, blank_param (k + size_separated size_param params + size_separator params) p)

pub blank_signature : (k : ℕ) (s : Signature Nothing) → noted_signature no_notes k s ≡ s
blank_signature k s =
    ap (λ params. signature_of params (noted_declared no_notes (k + size_separated size_param s.params + 3) s.result)) (blank_params (k + 1) s.params)
    ∙ ap (signature_of s.params) (blank_type (k + size_separated size_param s.params + 3) s.result)
