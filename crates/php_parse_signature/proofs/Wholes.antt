-- The result, the parameters one after the other, and the whole signature.
use Rattle.std.proofs.Common.{◌≡◌, ℕ, suc, ◌+◌, true, Option, Some, List, [], ◌∷◌, ◌++◌, refl, sym, ◌∙◌, ap, arith, Bool, false, None}
use Rattle.php_flat.proofs.Lists.{pushed}
use Rattle.php_token.specs.Token.{Token}
use Rattle.php_token.specs.declared.kind.Punct.TheVariants as mark
use Rattle.php_ast.specs.Symbol.{Symbol, punct}
use Rattle.php_ast.specs.declared.declaration.Param as rust_param
use Rattle.php_ast.specs.declared.declaration.Type as rust_type
use Rattle.php_ast.specs.expression.Placed.{notes_of}
use Rattle.php_ast.specs.statement.Tree.{empty, then_also}
use Rattle.php_ast.specs.statement.Placed.{size_separated, size_separator, noted_separated}
use Rattle.php_ast.specs.statement.View.{sequence, optional}
use Rattle.php_ast.specs.declaration.Tree.{Param, Type_of}
use Rattle.php_ast.specs.declaration.Spelling.{spell_type}
use Rattle.php_ast.specs.declaration.Placed.{size_param, noted_param, noted_declared, noted_signature}
use Rattle.php_ast.specs.declaration.View.{param_view, type_view, signature_view}
use Rattle.php_grammar.specs.expression.Machine.{Nothing, pick}
use Rattle.php_grammar.specs.expression.Role.{is_paren, is_colon}
use Rattle.php_grammar.specs.declaration.SignatureMachine.{Params, Declared, due_signature, due_param, past_params, signature_of, due_result}
use Rattle.php_reader.specs.Seen.{Shows, rest}
use Rattle.php_parse_signature.specs.Answer.{signature_over}
use Rattle.php_grammar_laws.specs.Walks.{walk_signature, whole}
use Rattle.php_parse_signature.specs.Walk.{Leads}
use Rattle.php_parse_signature.proofs.Heads.{result_read}
use Rattle.php_parse_signature.proofs.Moves.{go, sticks}
use Rattle.php_parse_signature.proofs.Tokens.{paren_shown, colon_shown}
use Rattle.php_grammar.specs.declaration.Laws.{ResultEnds}

-- ---- the result

pub result_leads : (tokens : List Token) (at next room : ℕ) (params : Params) (t : Type_of Nothing) → Shows is_colon tokens at true → rest tokens (at + 1) ≡ spell_type t (rest tokens next)
    → Leads room (past_params params) (rest tokens at) (signature_over params (Some t)) (rest tokens next)
result_leads tokens at next room params t o spelled = record {
  same = λ n is. ap (walk_signature n (past_params params)) (colon_shown tokens at o ∙ ap (λ w. punct mark.Colon ∷ w) spelled) ∙ result_read n params t.is_nullable t.base (rest tokens next);
}

-- ---- parameters one after the other

pub params_more : (tokens : List Token) (at next : ℕ) (params : Params) (p : Param Nothing) (xs new : List rust_param.Param) (x : rust_param.Param) → new ≡ xs ++ x ∷ []
    → sequence param_view xs ≡ noted_separated size_param (noted_param (notes_of tokens)) at params
    → at + size_separated size_param params + size_separator params ≡ next
    → param_view x ≡ noted_param (notes_of tokens) next p
    → sequence param_view new ≡ noted_separated size_param (noted_param (notes_of tokens)) at (then_also params p)
params_more tokens at next params p xs new x is before sized shown =
    pushed param_view xs new x is ∙ ap (λ s. then_also s (param_view x)) before
    ∙ ap (λ y. then_also (noted_separated size_param (noted_param (notes_of tokens)) at params) y) (shown ∙ ap (λ k. noted_param (notes_of tokens) k p) (sym sized))

-- ---- the whole

pub opened : (tokens : List Token) (at room : ℕ) → Shows is_paren tokens at true → Leads room due_signature (rest tokens at) (due_param empty) (rest tokens (at + 1))
opened tokens at room o = record {
  same = λ n is. ap (walk_signature n due_signature) (paren_shown tokens at o) ∙ go n due_signature (due_param empty) (punct mark.LeftParen) (rest tokens (at + 1)) refl (omega arith);
}

pub signature_shown : (tokens : List Token) (at : ℕ) (params : List rust_param.Param) (result : Option rust_type.Type) (ps : Params) (t : Declared)
    → sequence param_view params ≡ noted_separated size_param (noted_param (notes_of tokens)) (at + 1) ps
    → optional type_view result ≡ noted_declared (notes_of tokens) (at + size_separated size_param ps + 3) t
    → signature_view (record { params = params; result = result }) ≡ noted_signature (notes_of tokens) at (signature_of ps t)
signature_shown tokens at params result ps t a b = cc

-- ---- a signature that is over

colon_sticks : (b : Bool) (n : ℕ) (params : Params) (t : Symbol) (w : List Symbol) → is_colon t ≡ b → b ≡ false → walk_signature n (past_params params) (t ∷ w) ≡ whole (signature_of params None) (t ∷ w)
colon_sticks false n params t w is h = sticks n (past_params params) t w (ap (λ b. pick b (Some (due_result params)) None) is)
colon_sticks true n params t w is h = cc

over_by : (n : ℕ) (params : Params) (result : Declared) (w : List Symbol) → ResultEnds result w → walk_signature n (signature_over params result) w ≡ whole (signature_of params result) w
over_by n params None [] h = refl
over_by n params None (t ∷ w) h = colon_sticks (is_colon t) n params t w refl h
over_by n params (Some t) [] h = refl
over_by n params (Some t) (x ∷ w) h = refl

pub comes_whole : (room n : ℕ) (w v : List Symbol) (params : Params) (result : Declared) → Leads room due_signature w (signature_over params result) v → ResultEnds result v → room ≡ suc n
    → walk_signature n due_signature w ≡ whole (signature_of params result) v
comes_whole room n w v params result reads ends is = reads.same n is ∙ over_by n params result v ends
