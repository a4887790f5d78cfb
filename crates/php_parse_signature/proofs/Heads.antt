-- A parameter before its value, in the machine of signatures.
use Rattle.std.proofs.Common.{◌≡◌, ◌≢◌, ◌≤◌, ℕ, suc, Bool, true, false, Option, Some, None, List, [], ◌∷◌, refl, sym, ◌∙◌, ap, subst, arith}
use Rattle.php_token.specs.Token.{Token}
use Rattle.php_token.specs.declared.kind.Keyword.TheVariants as word
use Rattle.php_token.specs.declared.kind.Punct.TheVariants as mark
use Rattle.php_ast.specs.Symbol as symbol
use Rattle.php_ast.specs.Symbol.{Symbol, keyword, punct, variable}
use Rattle.php_ast.specs.statement.Tree.{empty, then_also}
use Rattle.php_ast.specs.statement.Spelling.{symbol_if}
use Rattle.php_ast.specs.statement.Proper.{is_empty}
use Rattle.php_ast.specs.declaration.Tree.{Base, of_name, of_array, of_callable, Type_of}
use Rattle.php_ast.specs.declaration.Spelling.{spell_base, spell_type, spell_declared}
use Rattle.php_grammar.specs.expression.Role.{is_right_paren}
use Rattle.php_grammar.specs.expression.Machine.{Nothing, pick}
use Rattle.php_grammar.specs.statement.Machine.{named_here}
use Rattle.php_grammar.specs.declaration.SignatureMachine.{ParamRole, at_base, at_variable, at_question, at_reference, at_variadic, at_other, param_role, Params, Declared, SignatureState, due_param, past_question, past_type, past_reference, past_variadic, past_param, past_params, due_result, past_result_question, past_signature, type_of, param_of, signature_of, marked_step, reference_step, variadic_step, param_step, question_step, result_step, nullable_result_step, advance_signature, halt_signature}
use Rattle.php_parse_signature.specs.PartView.{head_role}
use Rattle.php_reader.specs.declared.fail.Stop.{Stop}
use Rattle.php_reader.specs.declared.fail.Stop.TheVariants.{Syntax, TooDeep, NoMemory}
use Rattle.php_reader.specs.Seen.{rest}
use Rattle.php_parse_signature.specs.declared.read.Front.{Front}
use Rattle.php_reader.specs.declared.found.Marked.{Marked}
use Rattle.php_parse_signature.specs.declared.read.Typed.{Typed}
use Rattle.php_parse_signature.specs.Answer.{NoType, NoBase, NoVariable, MayBegin, FoundDeclared, SeesMark, LacksName, FailsType, FailsParam, front_of, FoundFront}
use Rattle.php_grammar_laws.specs.Walks.{short, outcome, walk_signature}
use Rattle.php_parse_signature.specs.Walk.{Leads}
use Rattle.php_parse_signature.proofs.Moves.{go, sticks, nested, nested_halts}

-- the state behind the type and the marks of a parameter
abbrev pub fronted : Params → Declared → Bool → Bool → SignatureState
fronted params declared is_reference true = past_variadic params declared is_reference
fronted params declared true false = past_reference params declared
fronted params (Some t) false false = past_type params (Some t)
fronted params None false false = due_param params

-- ---- what is read

abbrev pub question : Symbol
question = punct mark.Question

abbrev pub ampersand : Symbol
ampersand = punct mark.Ampersand

abbrev pub ellipsis : Symbol
ellipsis = punct mark.Ellipsis

abbrev pub colon : Symbol
colon = punct mark.Colon

abbrev pub marks : Bool → Bool → List Symbol → List Symbol
marks is_reference is_variadic w = symbol_if is_reference ampersand (symbol_if is_variadic ellipsis w)

untyped : (n : ℕ) (params : Params) (r v : Bool) (w : List Symbol) → walk_signature (suc n) (due_param params) (marks r v w) ≡ walk_signature (suc n) (fronted params None r v) w
untyped n params true true w =
    go (suc n) (due_param params) (past_reference params None) ampersand (ellipsis ∷ w) refl (omega arith)
    ∙ go (suc n) (past_reference params None) (past_variadic params None true) ellipsis w refl (omega arith)
untyped n params true false w = go (suc n) (due_param params) (past_reference params None) ampersand w refl (omega arith)
untyped n params false true w = go (suc n) (due_param params) (past_variadic params None false) ellipsis w refl (omega arith)
untyped n params false false w = refl

marked : (n : ℕ) (params : Params) (t : Type_of Nothing) (r v : Bool) (w : List Symbol)
    → walk_signature (suc n) (past_type params (Some t)) (marks r v w) ≡ walk_signature (suc n) (fronted params (Some t) r v) w
marked n params t true true w =
    go (suc n) (past_type params (Some t)) (past_reference params (Some t)) ampersand (ellipsis ∷ w) refl (omega arith)
    ∙ go (suc n) (past_reference params (Some t)) (past_variadic params (Some t) true) ellipsis w refl (omega arith)
marked n params t true false w = go (suc n) (past_type params (Some t)) (past_reference params (Some t)) ampersand w refl (omega arith)
marked n params t false true w = go (suc n) (past_type params (Some t)) (past_variadic params (Some t) false) ellipsis w refl (omega arith)
marked n params t false false w = refl

-- the symbol of a type without its `?`
abbrev pub base_symbol : Base Nothing → Symbol
base_symbol (of_name name) = symbol.name name.text
base_symbol of_array = keyword word.Array
base_symbol of_callable = keyword word.Callable

base_spelled : (base : Base Nothing) (w : List Symbol) → spell_base base w ≡ base_symbol base ∷ w
base_spelled (of_name name) w = refl
base_spelled of_array w = refl
base_spelled of_callable w = refl

base_role : (base : Base Nothing) → param_role (base_symbol base) ≡ at_base base
base_role (of_name name) = refl
base_role of_array = refl
base_role of_callable = refl

base_no_paren : (base : Base Nothing) → is_right_paren (base_symbol base) ≡ false
base_no_paren (of_name name) = refl
base_no_paren of_array = refl
base_no_paren of_callable = refl

due_base : (params : Params) (base : Base Nothing) → advance_signature (due_param params) (base_symbol base) ≡ Some (past_type params (Some (type_of false base)))
due_base params base =
    ap (λ b. pick b (pick (is_empty params) (Some (past_params params)) None) (param_step params (param_role (base_symbol base)))) (base_no_paren base)
    ∙ ap (param_step params) (base_role base)

type_read : (n : ℕ) (params : Params) (b : Bool) (base : Base Nothing) (w : List Symbol)
    → walk_signature (suc n) (due_param params) (spell_type (type_of b base) w) ≡ walk_signature (suc n) (past_type params (Some (type_of b base))) w
type_read n params true base w =
    go (suc n) (due_param params) (past_question params) question (spell_base base w) refl (omega arith)
    ∙ ap (walk_signature (suc n) (past_question params)) (base_spelled base w)
    ∙ go (suc n) (past_question params) (past_type params (Some (type_of true base))) (base_symbol base) w (ap (question_step params) (base_role base)) (omega arith)
type_read n params false base w =
    ap (walk_signature (suc n) (due_param params)) (base_spelled base w)
    ∙ go (suc n) (due_param params) (past_type params (Some (type_of false base))) (base_symbol base) w (due_base params base) (omega arith)

pub front_read : (n : ℕ) (params : Params) (declared : Declared) (r v : Bool) (w : List Symbol)
    → walk_signature (suc n) (due_param params) (spell_declared declared (marks r v w)) ≡ walk_signature (suc n) (fronted params declared r v) w
front_read n params None r v w = untyped n params r v w
front_read n params (Some t) r v w = type_read n params t.is_nullable t.base (marks r v w) ∙ marked n params t r v w

name_read : (n : ℕ) (params : Params) (declared : Declared) (r v : Bool) (text : List ℕ) (w : List Symbol)
    → walk_signature (suc n) (fronted params declared r v) (variable text ∷ w) ≡ walk_signature (suc n) (past_param params (param_of declared r v (named_here text))) w
name_read n params declared r true text w =
    go (suc n) (past_variadic params declared r) (past_param params (param_of declared r true (named_here text))) (variable text) w refl (omega arith)
name_read n params declared true false text w =
    go (suc n) (past_reference params declared) (past_param params (param_of declared true false (named_here text))) (variable text) w refl (omega arith)
name_read n params (Some t) false false text w =
    go (suc n) (past_type params (Some t)) (past_param params (param_of (Some t) false false (named_here text))) (variable text) w refl (omega arith)
name_read n params None false false text w =
    go (suc n) (due_param params) (past_param params (param_of None false false (named_here text))) (variable text) w refl (omega arith)

pub named : (n : ℕ) (params : Params) (declared : Declared) (r v : Bool) (text : List ℕ) (w : List Symbol)
    → walk_signature (suc n) (due_param params) (spell_declared declared (marks r v (variable text ∷ w))) ≡ walk_signature (suc n) (past_param params (param_of declared r v (named_here text))) w
named n params declared r v text w = front_read n params declared r v (variable text ∷ w) ∙ name_read n params declared r v text w

-- ---- where it stops

-- no further part of a parameter, and no name
pub record Stuck (declared : Declared) (r v : Bool) (x : ParamRole) : Type 0 where
  pub no_variable : NoVariable x
  pub no_variadic : v ≡ false → x ≢ at_variadic
  pub no_reference : r ≡ false → v ≡ false → x ≢ at_reference
  pub no_type : declared ≡ None → r ≡ false → v ≡ false → NoType x

variadic_none : (params : Params) (declared : Declared) (r : Bool) (x : ParamRole) → NoVariable x → variadic_step params declared r x ≡ None
variadic_none params declared r (at_variable text) h = absurd h
variadic_none params declared r _ h = refl

reference_none : (params : Params) (declared : Declared) (x : ParamRole) → NoVariable x → x ≢ at_variadic → reference_step params declared x ≡ None
reference_none params declared (at_variable text) h g = absurd h
reference_none params declared at_variadic h g = absurd (g refl)
reference_none params declared _ h g = refl

marked_none : (params : Params) (declared : Declared) (x : ParamRole) → NoVariable x → x ≢ at_variadic → x ≢ at_reference → marked_step params declared x ≡ None
marked_none params declared (at_variable text) h g f = absurd h
marked_none params declared at_variadic h g f = absurd (g refl)
marked_none params declared at_reference h g f = absurd (f refl)
marked_none params declared _ h g f = refl

param_none : (params : Params) (x : ParamRole) → NoVariable x → x ≢ at_variadic → x ≢ at_reference → NoType x → param_step params x ≡ None
param_none params (at_variable text) h g f e = absurd h
param_none params at_variadic h g f e = absurd (g refl)
param_none params at_reference h g f e = absurd (f refl)
param_none params at_question h g f e = absurd e
param_none params (at_base base) h g f e = absurd e
param_none params at_other h g f e = refl

due_none : (b c : Bool) (params : Params) (o : Option SignatureState) → (c ≡ true → b ≡ false) → o ≡ None → pick b (pick c (Some (past_params params)) None) o ≡ None
due_none false c params o h is = is
due_none true false params o h is = refl
due_none true true params o h is = let g : true ≡ false = h refl in cc

due_short : (params : Params) (w : List Symbol) → outcome (halt_signature (due_param params) w) ≡ short w
due_short empty w = refl
due_short (then_also params p) w = refl

front_none : (n : ℕ) (params : Params) (declared : Declared) (r v : Bool) (t : Symbol) (w : List Symbol) → Stuck declared r v (param_role t)
    → (declared ≡ None → r ≡ false → v ≡ false → MayBegin params (t ∷ w)) → walk_signature n (fronted params declared r v) (t ∷ w) ≡ short (t ∷ w)
front_none n params declared r true t w h begin = sticks n (past_variadic params declared r) t w (variadic_none params declared r (param_role t) h.no_variable)
front_none n params declared true false t w h begin =
    sticks n (past_reference params declared) t w (reference_none params declared (param_role t) h.no_variable (h.no_variadic refl))
front_none n params (Some d) false false t w h begin =
    sticks n (past_type params (Some d)) t w (marked_none params (Some d) (param_role t) h.no_variable (h.no_variadic refl) (h.no_reference refl refl))
front_none n params None false false t w h begin =
    sticks n (due_param params) t w (due_none (is_right_paren t) (is_empty params) params (param_step params (param_role t)) (begin refl refl refl)
    (param_none params (param_role t) h.no_variable (h.no_variadic refl) (h.no_reference refl refl) (h.no_type refl refl refl)))
    ∙ due_short params (t ∷ w)

front_short : (n : ℕ) (params : Params) (declared : Declared) (r v : Bool) (w : List Symbol) → Stuck declared r v (head_role w)
    → (declared ≡ None → r ≡ false → v ≡ false → MayBegin params w) → walk_signature n (fronted params declared r v) w ≡ short w
front_short n params declared r true [] h begin = refl
front_short n params declared true false [] h begin = refl
front_short n params (Some d) false false [] h begin = refl
front_short n params None false false [] h begin = due_short params []
front_short n params declared r v (t ∷ w) h begin = front_none n params declared r v t w h begin

pub unnamed : (n : ℕ) (params : Params) (declared : Declared) (r v : Bool) (w : List Symbol) → Stuck declared r v (head_role w)
    → (declared ≡ None → r ≡ false → v ≡ false → MayBegin params w) → walk_signature (suc n) (due_param params) (spell_declared declared (marks r v w)) ≡ short w
unnamed n params declared r v w h begin = front_read n params declared r v w ∙ front_short (suc n) params declared r v w h begin

-- a `?` without a type behind it
question_none : (params : Params) (x : ParamRole) → NoBase x → question_step params x ≡ None
question_none params (at_base base) h = absurd h
question_none params _ h = refl

question_short : (n : ℕ) (params : Params) (w : List Symbol) → NoBase (head_role w) → walk_signature n (past_question params) w ≡ short w
question_short n params [] h = refl
question_short n params (t ∷ w) h = sticks n (past_question params) t w (question_none params (param_role t) h)

pub typeless : (n : ℕ) (params : Params) (w : List Symbol) → NoBase (head_role w) → walk_signature (suc n) (due_param params) (question ∷ w) ≡ short w
typeless n params w h = go (suc n) (due_param params) (past_question params) question w refl (omega arith) ∙ question_short (suc n) params w h

-- ---- the result

colon_read : (n : ℕ) (params : Params) (w : List Symbol) → walk_signature n (past_params params) (colon ∷ w) ≡ walk_signature n (due_result params) w
colon_read n params w = go n (past_params params) (due_result params) colon w refl (omega arith)

asked_read : (n : ℕ) (params : Params) (w : List Symbol) → walk_signature n (due_result params) (question ∷ w) ≡ walk_signature n (past_result_question params) w
asked_read n params w = go n (due_result params) (past_result_question params) question w refl (omega arith)

pub result_read : (n : ℕ) (params : Params) (b : Bool) (base : Base Nothing) (w : List Symbol)
    → walk_signature n (past_params params) (colon ∷ spell_type (type_of b base) w) ≡ walk_signature n (past_signature (signature_of params (Some (type_of b base)))) w
result_read n params true base w =
    colon_read n params (question ∷ spell_base base w) ∙ asked_read n params (spell_base base w) ∙ ap (walk_signature n (past_result_question params)) (base_spelled base w)
    ∙ go n (past_result_question params) (past_signature (signature_of params (Some (type_of true base)))) (base_symbol base) w (ap (nullable_result_step params) (base_role base)) (omega arith)
result_read n params false base w =
    colon_read n params (spell_base base w) ∙ ap (walk_signature n (due_result params)) (base_spelled base w)
    ∙ go n (due_result params) (past_signature (signature_of params (Some (type_of false base)))) (base_symbol base) w (ap (result_step params) (base_role base)) (omega arith)

result_none : (params : Params) (x : ParamRole) → NoType x → result_step params x ≡ None
result_none params at_question h = absurd h
result_none params (at_base base) h = absurd h
result_none params _ h = refl

nullable_none : (params : Params) (x : ParamRole) → NoBase x → nullable_result_step params x ≡ None
nullable_none params (at_base base) h = absurd h
nullable_none params _ h = refl

result_short : (n : ℕ) (params : Params) (w : List Symbol) → NoType (head_role w) → walk_signature n (due_result params) w ≡ short w
result_short n params [] h = refl
result_short n params (t ∷ w) h = sticks n (due_result params) t w (result_none params (param_role t) h)

nullable_short : (n : ℕ) (params : Params) (w : List Symbol) → NoBase (head_role w) → walk_signature n (past_result_question params) w ≡ short w
nullable_short n params [] h = refl
nullable_short n params (t ∷ w) h = sticks n (past_result_question params) t w (nullable_none params (param_role t) h)

pub no_result : (n : ℕ) (params : Params) (w : List Symbol) → NoType (head_role w) → walk_signature n (past_params params) (colon ∷ w) ≡ short w
no_result n params w h = colon_read n params w ∙ result_short n params w h

pub no_nullable : (n : ℕ) (params : Params) (w : List Symbol) → NoBase (head_role w) → walk_signature n (past_params params) (colon ∷ question ∷ w) ≡ short w
no_nullable n params w h = colon_read n params (question ∷ w) ∙ asked_read n params w ∙ nullable_short n params w h

-- ---- from what the parser saw

plain : (b : Bool) (t : Symbol) (u w : List Symbol) → u ≡ symbol_if b t w → b ≡ false → u ≡ w
plain false t u w is h = is
plain true t u w is h = cc

undeclared : (d : Declared) (u w : List Symbol) → u ≡ spell_declared d w → d ≡ None → u ≡ w
undeclared None u w is h = is
undeclared (Some t) u w is h = cc

pub front_fails : (tokens : List Token) (at : ℕ) (r : Typed) (a b : Marked) (e : Stop) → FoundDeclared tokens at r → SeesMark at_reference ampersand tokens r.next a
    → SeesMark at_variadic ellipsis tokens a.next b → LacksName tokens b.next e → (room : ℕ) → 2 ≤ room → FailsParam room tokens at e
front_fails tokens at r a b (Syntax k) d x y lacks room low = λ params begin.
    let x_plain : b.stands ≡ false → rest tokens a.next ≡ rest tokens b.next = plain b.stands ellipsis (rest tokens a.next) (rest tokens b.next) y.spelled in
    let d_plain : a.stands ≡ false → rest tokens r.next ≡ rest tokens a.next = plain a.stands ampersand (rest tokens r.next) (rest tokens a.next) x.spelled in
    let whole_is : rest tokens at ≡ spell_declared d.form (marks a.stands b.stands (rest tokens b.next)) =
    d.spelled ∙ ap (spell_declared d.form) (x.spelled ∙ ap (symbol_if a.stands ampersand) y.spelled) in
    let h : Stuck d.form a.stands b.stands (head_role (rest tokens b.next)) = record {
      no_variable = lacks.1;
      no_variadic = y.absent;
      no_reference = λ f g. subst (λ w. head_role w ≢ at_reference) (x_plain g) (x.absent f);
      no_type = λ n f g. subst (λ w. NoType (head_role w)) (d_plain f ∙ x_plain g) (d.untyped n);
    } in
    record {
      halts = nested_halts false low (λ n is. ap (walk_signature (suc n) (due_param params)) whole_is
          ∙ unnamed n params d.form a.stands b.stands (rest tokens b.next) h
          (λ none f g. subst (MayBegin params) (undeclared d.form (rest tokens at) (rest tokens r.next) d.spelled none ∙ d_plain f ∙ x_plain g) begin)
          ∙ ap (λ j. short (rest tokens j)) (sym lacks.0));
      ahead = omega (arith, d.sized, x.sized, y.sized, lacks.0);
      within = omega (arith, y.within, lacks.0);
    }
front_fails tokens at r a b (TooDeep k) d x y lacks room low = λ params begin. absurd lacks
front_fails tokens at r a b NoMemory d x y lacks room low = λ params begin. tt

pub type_fails : (tokens : List Token) (at : ℕ) (e : Stop) → FailsType tokens at e → (room : ℕ) → 2 ≤ room → FailsParam room tokens at e
type_fails tokens at (Syntax k) lacks room low = λ params begin. record {
  halts = nested_halts false low (λ n is. ap (walk_signature (suc n) (due_param params)) lacks.question ∙ typeless n params (rest tokens k) lacks.no_base);
  ahead = lacks.ahead;
  within = lacks.within;
}
type_fails tokens at (TooDeep k) lacks room low = λ params begin. absurd lacks
type_fails tokens at NoMemory lacks room low = λ params begin. tt

pub front_leads : (tokens : List Token) (at : ℕ) (r : Front) (f : FoundFront tokens at r) (room : ℕ) → 2 ≤ room → (params : Params)
    → Leads room (due_param params) (rest tokens at) (past_param params (front_of f.declared r f.text)) (rest tokens r.next)
front_leads tokens at r f room low params =
    nested low (λ n is. ap (walk_signature (suc n) (due_param params)) f.spelled ∙ named n params f.declared r.is_reference r.is_variadic f.text (rest tokens r.next))
