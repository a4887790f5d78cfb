-- The nesting of a declaration that stands deeper.
use Rattle.std.proofs.Common.{◌≡◌, ℕ, ◌+◌, Option, Some, None, List, ◌∷◌, refl, ◌∙◌, ap}
use Rattle.php_ast.specs.statement.Tree.{Sequence, empty, then_also, Name, Statements}
use Rattle.php_ast.specs.statement.Nesting.{separated_nests, name_nests, value_nests, variable_nests, nests_if, nests_statements}
use Rattle.php_ast.specs.declaration.Tree.{Type_of, Param, Signature, Modifier, ClassConstant, Rule, renames, prefers, Method, Member, uses, uses_by, class_constants, method, properties}
use Rattle.php_ast.specs.declaration.Nesting.{joined_nests, type_nests, declared_nests, param_nests, result_nests, signature_nests, block_nests, modifier_nests, one_nests, origin_nests, rule_nests, class_constant_nests, method_body_nests, method_nests, member_nests}
use Rattle.php_grammar.proofs.Deepened.{shifted}
use Rattle.php_grammar.proofs.expression.Shifts.{one_more, nests_shift}
use Rattle.php_grammar.proofs.statement.Shifts.{separated_shift, name_shift, value_shift, variable_shift, shift_if, statements_shift}

joined_shift : {A : Type 0} (each : A → ℕ → List ℕ → List ℕ) → ((x : A) (d k : ℕ) (ns w : List ℕ) → each x (d + k) (shifted k ns w) ≡ shifted k (each x d ns) w)
    → (xs : Sequence A) (d k : ℕ) (ns w : List ℕ) → joined_nests each xs (d + k) (shifted k ns w) ≡ shifted k (joined_nests each xs d ns) w
joined_shift each h empty d k ns w = refl
joined_shift each h (then_also xs x) d k ns w = ap (joined_nests each xs (d + k)) (h x d k ns w) ∙ joined_shift each h xs d k (each x d ns) w

type_shift : {S : Type 0} (x : Type_of S) (d k : ℕ) (ns w : List ℕ) → type_nests x (d + k) (shifted k ns w) ≡ shifted k (type_nests x d ns) w
type_shift t d k ns w = shift_if t.is_nullable d k (d ∷ ns) w

declared_shift : {S : Type 0} (x : Option (Type_of S)) (d k : ℕ) (ns w : List ℕ) → declared_nests x (d + k) (shifted k ns w) ≡ shifted k (declared_nests x d ns) w
declared_shift None d k ns w = refl
declared_shift (Some t) d k ns w = type_shift t d k ns w

param_shift : {S : Type 0} (x : Param S) (d k : ℕ) (ns w : List ℕ) → param_nests x (d + k) (shifted k ns w) ≡ shifted k (param_nests x d ns) w
param_shift p d k ns w =
    ap (λ u. declared_nests p.declared (d + k) (nests_if p.is_reference (d + k) (nests_if p.is_variadic (d + k) ((d + k) ∷ u)))) (value_shift p.default d k ns w)
    ∙ ap (λ u. declared_nests p.declared (d + k) (nests_if p.is_reference (d + k) u)) (shift_if p.is_variadic d k (d ∷ value_nests p.default d ns) w)
    ∙ ap (λ u. declared_nests p.declared (d + k) u) (shift_if p.is_reference d k (nests_if p.is_variadic d (d ∷ value_nests p.default d ns)) w)
    ∙ declared_shift p.declared d k (nests_if p.is_reference d (nests_if p.is_variadic d (d ∷ value_nests p.default d ns))) w

result_shift : {S : Type 0} (x : Option (Type_of S)) (d k : ℕ) (ns w : List ℕ) → result_nests x (d + k) (shifted k ns w) ≡ shifted k (result_nests x d ns) w
result_shift None d k ns w = refl
result_shift (Some t) d k ns w = ap (λ u. (d + k) ∷ u) (type_shift t d k ns w)

pub signature_shift : {S : Type 0} (x : Signature S) (d k : ℕ) (ns w : List ℕ) → signature_nests x (d + k) (shifted k ns w) ≡ shifted k (signature_nests x d ns) w
signature_shift s d k ns w =
    ap (λ x. (d + k) ∷ separated_nests param_nests s.params x (x ∷ result_nests s.result (d + k) (shifted k ns w))) (one_more d k)
    ∙ ap (λ u. (d + k) ∷ separated_nests param_nests s.params ((1 + d) + k) (((1 + d) + k) ∷ u)) (result_shift s.result d k ns w)
    ∙ ap (λ u. (d + k) ∷ u) (separated_shift param_nests param_shift s.params (1 + d) k ((1 + d) ∷ result_nests s.result d ns) w)

block_shift : {S : Type 0} (x : Statements S) (d k : ℕ) (ns w : List ℕ) → block_nests x (d + k) (shifted k ns w) ≡ shifted k (block_nests x d ns) w
block_shift ss d k ns w = ap (λ x. (d + k) ∷ nests_statements ss x (x ∷ shifted k ns w)) (one_more d k) ∙ ap (λ u. (d + k) ∷ u) (statements_shift ss (1 + d) k ((1 + d) ∷ ns) w)

pub body_shift : {S : Type 0} (x : Option (Statements S)) (d k : ℕ) (ns w : List ℕ) → method_body_nests x (d + k) (shifted k ns w) ≡ shifted k (method_body_nests x d ns) w
body_shift None d k ns w = refl
body_shift (Some ss) d k ns w = block_shift ss d k ns w

modifier_shift : {S : Type 0} (x : Modifier S) (d k : ℕ) (ns w : List ℕ) → modifier_nests x (d + k) (shifted k ns w) ≡ shifted k (modifier_nests x d ns) w
modifier_shift m d k ns w = refl

one_shift : {A : Type 0} (x : Option A) (d k : ℕ) (ns w : List ℕ) → one_nests x (d + k) (shifted k ns w) ≡ shifted k (one_nests x d ns) w
one_shift None d k ns w = refl
one_shift (Some x) d k ns w = refl

origin_shift : {S : Type 0} (x : Option (Name S)) (d k : ℕ) (ns w : List ℕ) → origin_nests x (d + k) (shifted k ns w) ≡ shifted k (origin_nests x d ns) w
origin_shift None d k ns w = refl
origin_shift (Some n) d k ns w = refl

rule_shift : {S : Type 0} (x : Rule S) (d k : ℕ) (ns w : List ℕ) → rule_nests x (d + k) (shifted k ns w) ≡ shifted k (rule_nests x d ns) w
rule_shift (renames note origin m seen alias) d k ns w =
    ap (λ u. origin_nests origin (d + k) ((d + k) ∷ (d + k) ∷ one_nests seen (d + k) u)) (one_shift alias d k (d ∷ ns) w)
    ∙ ap (λ u. origin_nests origin (d + k) ((d + k) ∷ (d + k) ∷ u)) (one_shift seen d k (one_nests alias d (d ∷ ns)) w)
    ∙ origin_shift origin d k (d ∷ d ∷ one_nests seen d (one_nests alias d (d ∷ ns))) w
rule_shift (prefers note origin m others) d k ns w = ap (λ u. (d + k) ∷ (d + k) ∷ (d + k) ∷ (d + k) ∷ u) (separated_shift name_nests name_shift others d k (d ∷ ns) w)

constant_shift : {S : Type 0} (x : ClassConstant S) (d k : ℕ) (ns w : List ℕ) → class_constant_nests x (d + k) (shifted k ns w) ≡ shifted k (class_constant_nests x d ns) w
constant_shift c d k ns w = ap (λ u. (d + k) ∷ (d + k) ∷ u) (nests_shift c.value d k ns w)

method_shift : {S : Type 0} (x : Method S) (d k : ℕ) (ns w : List ℕ) → method_nests x (d + k) (shifted k ns w) ≡ shifted k (method_nests x d ns) w
method_shift m d k ns w =
    ap (λ u. joined_nests modifier_nests m.modifiers (d + k) ((d + k) ∷ nests_if m.is_reference (d + k) ((d + k) ∷ signature_nests m.signature (d + k) u))) (body_shift m.body d k ns w)
    ∙ ap (λ u. joined_nests modifier_nests m.modifiers (d + k) ((d + k) ∷ nests_if m.is_reference (d + k) ((d + k) ∷ u))) (signature_shift m.signature d k (method_body_nests m.body d ns) w)
    ∙ ap (λ u. joined_nests modifier_nests m.modifiers (d + k) ((d + k) ∷ u)) (shift_if m.is_reference d k (d ∷ signature_nests m.signature d (method_body_nests m.body d ns)) w)
    ∙ joined_shift modifier_nests modifier_shift m.modifiers d k (d ∷ nests_if m.is_reference d (d ∷ signature_nests m.signature d (method_body_nests m.body d ns))) w

pub member_shift : {S : Type 0} (x : Member S) (d k : ℕ) (ns w : List ℕ) → member_nests x (d + k) (shifted k ns w) ≡ shifted k (member_nests x d ns) w
member_shift (uses note names) d k ns w = ap (λ u. (d + k) ∷ u) (separated_shift name_nests name_shift names d k (d ∷ ns) w)
member_shift (uses_by note names rules) d k ns w =
    ap (λ x. (d + k) ∷ separated_nests name_nests names (d + k) ((d + k) ∷ joined_nests rule_nests rules x (x ∷ shifted k ns w))) (one_more d k)
    ∙ ap (λ u. (d + k) ∷ separated_nests name_nests names (d + k) ((d + k) ∷ u)) (joined_shift rule_nests rule_shift rules (1 + d) k ((1 + d) ∷ ns) w)
    ∙ ap (λ u. (d + k) ∷ u) (separated_shift name_nests name_shift names d k (d ∷ joined_nests rule_nests rules (1 + d) ((1 + d) ∷ ns)) w)
member_shift (class_constants ms items) d k ns w =
    ap (λ u. joined_nests modifier_nests ms (d + k) ((d + k) ∷ u)) (separated_shift class_constant_nests constant_shift items d k (d ∷ ns) w)
    ∙ joined_shift modifier_nests modifier_shift ms d k (d ∷ separated_nests class_constant_nests items d (d ∷ ns)) w
member_shift (method m) d k ns w = method_shift m d k ns w
member_shift (properties ms variables) d k ns w =
    ap (λ u. joined_nests modifier_nests ms (d + k) u) (separated_shift variable_nests variable_shift variables d k (d ∷ ns) w)
    ∙ joined_shift modifier_nests modifier_shift ms d k (separated_nests variable_nests variables d (d ∷ ns)) w
