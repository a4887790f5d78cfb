-- What stands behind a parameter.
use Rattle.std.proofs.Common.{◌≡◌, ◌≢◌, ℕ, suc, Bool, true, false, Option, Some, None, List, [], ◌∷◌, refl, ◌∙◌, ap, arith}
use Rattle.std.specs.Prelude.{nat_lt}
use Rattle.php_token.specs.declared.kind.Keyword.TheVariants as word
use Rattle.php_token.specs.declared.kind.Punct.TheVariants as mark
use Rattle.php_ast.specs.Symbol.{Symbol, keyword, punct}
use Rattle.php_ast.specs.declaration.Tree.{Param}
use Rattle.php_ast.specs.statement.Tree.{then_also}
use Rattle.php_grammar.specs.declared.closer.Closer.TheVariants as ender
use Rattle.php_grammar.specs.expression.Role.{Continuation, draws, closes, neither, continuation}
use Rattle.php_grammar.specs.expression.Laws.{head_continuation}
use Rattle.php_grammar.specs.expression.Machine.{Nothing, Form, expects, holds, pick}
use Rattle.php_grammar.specs.statement.Role.{ending_of, ending, is_assign}
use Rattle.php_grammar.specs.declaration.SignatureMachine.{Params, SignatureState, due_param, past_param, in_default, past_params, with_default, param_end}
use Rattle.php_parse_expression.proofs.Wholes.{over}
use Rattle.php_parse_signature.specs.Answer.{behind, valued, ValueRests}
use Rattle.php_grammar_laws.specs.Walks.{short, stepped, walk_signature}
use Rattle.php_parse_signature.proofs.Bridge.{bridge, carried}
use Rattle.php_parse_signature.proofs.Moves.{go, sticks}

pub comma_read : (n : ℕ) (params : Params) (p : Param Nothing) (value : Option Form) (w : List Symbol)
    → walk_signature (suc n) (behind params p value) (punct mark.Comma ∷ w) ≡ walk_signature (suc n) (due_param (then_also params (valued p value))) w
comma_read n params p None w = go (suc n) (past_param params p) (due_param (then_also params p)) (punct mark.Comma) w refl (omega arith)
comma_read n params p (Some e) w =
    go (suc n) (in_default params p (holds e [])) (due_param (then_also params (with_default p e))) (punct mark.Comma) w refl (omega arith)

pub paren_read : (n : ℕ) (params : Params) (p : Param Nothing) (value : Option Form) (w : List Symbol)
    → walk_signature (suc n) (behind params p value) (punct mark.RightParen ∷ w) ≡ walk_signature (suc n) (past_params (then_also params (valued p value))) w
paren_read n params p None w = go (suc n) (past_param params p) (past_params (then_also params p)) (punct mark.RightParen) w refl (omega arith)
paren_read n params p (Some e) w =
    go (suc n) (in_default params p (holds e [])) (past_params (then_also params (with_default p e))) (punct mark.RightParen) w refl (omega arith)

-- ---- where neither stands there

no_end_of : (params : Params) (x : Continuation) → x ≢ closes ender.Comma → x ≢ closes ender.Paren → param_end params (ending_of x) ≡ None
no_end_of params (closes ender.Comma) h g = absurd (h refl)
no_end_of params (closes ender.Paren) h g = absurd (g refl)
no_end_of params (closes _) h g = refl
no_end_of params (draws d) h g = refl
no_end_of params neither h g = refl

no_end : (params : Params) (t : Symbol) → continuation t ≢ closes ender.Comma → continuation t ≢ closes ender.Paren → param_end params (ending t) ≡ None
no_end params (keyword word.As) h g = refl
no_end params t h g = no_end_of params (continuation t) h g

name_none : (b : Bool) (params : Params) (p : Param Nothing) (o : Option SignatureState) → b ≡ false → o ≡ None → pick b (Some (in_default params p (expects []))) o ≡ None
name_none false params p o h is = is
name_none true params p o h is = cc

pub neither_read : (n : ℕ) (params : Params) (p : Param Nothing) (value : Option Form) (w : List Symbol) → ValueRests value w → head_continuation w ≢ closes ender.Comma → head_continuation w ≢ closes ender.Paren
    → walk_signature (suc n) (behind params p value) w ≡ short w
neither_read n params p None [] rests h g = refl
neither_read n params p None (t ∷ w) rests h g =
    sticks (suc n) (past_param params p) t w (name_none (is_assign t) params p (param_end (then_also params p) (ending t)) rests (no_end (then_also params p) t h g))
neither_read n params p (Some e) [] rests h g = refl
neither_read n params p (Some e) (t ∷ w) rests h g =
    bridge n params p (holds e []) (t ∷ w) ∙ ap (carried n params p) (over n e (t ∷ w) rests)
    ∙ ap (λ o. stepped o (nat_lt (suc n) 1) (λ x. walk_signature (suc n) x w) (short (t ∷ w)) (t ∷ w)) (no_end (then_also params (with_default p e)) t h g)
