-- What the role of a symbol in a signature says of the symbol.
use Rattle.std.proofs.Common.{◌≡◌, ℕ, ◌+◌, Bool, List, ◌∷◌, refl, sym, ◌∙◌, ap, subst}
use Rattle.php_token.specs.Token.{Token}
use Rattle.php_token.specs.declared.kind.Keyword.{Keyword}
use Rattle.php_token.specs.declared.kind.Keyword.TheVariants as word
use Rattle.php_token.specs.declared.kind.Punct.{Punct}
use Rattle.php_token.specs.declared.kind.Punct.TheVariants as mark
use Rattle.php_ast.specs.Symbol as symbol
use Rattle.php_ast.specs.Symbol.{Symbol, keyword, punct}
use Rattle.php_ast.specs.expression.View.{Note}
use Rattle.php_ast.specs.declaration.Tree.{Base, Type_of}
use Rattle.php_ast.specs.declaration.Spelling.{spell_base}
use Rattle.php_grammar.specs.expression.Machine.{Nothing}
use Rattle.php_reader.specs.Seen.{Shows, rest}
use Rattle.php_grammar.specs.declaration.SignatureMachine.{ParamRole, at_base, at_variable, at_question, at_reference, at_variadic, at_other, param_keyword, param_punct, param_role}

abbrev pub RoleSays : ParamRole → Symbol → Type 0
RoleSays (at_base base) t = (w : List Symbol) → spell_base base w ≡ t ∷ w
RoleSays (at_variable text) t = t ≡ symbol.variable text
RoleSays at_question t = t ≡ punct mark.Question
RoleSays at_reference t = t ≡ punct mark.Ampersand
RoleSays at_variadic t = t ≡ punct mark.Ellipsis
RoleSays at_other t = Unit {0}

keyword_says : (k : Keyword) → RoleSays (param_keyword k) (keyword k)
keyword_says word.Array = λ w. refl
keyword_says word.Callable = λ w. refl
keyword_says _ = tt

punct_says : (p : Punct) → RoleSays (param_punct p) (punct p)
punct_says mark.Question = refl
punct_says mark.Ampersand = refl
punct_says mark.Ellipsis = refl
punct_says _ = tt

pub role_says : (t : Symbol) → RoleSays (param_role t) t
role_says (symbol.name text) = λ w. refl
role_says (symbol.variable text) = refl
role_says (keyword k) = keyword_says k
role_says (punct p) = punct_says p
role_says _ = tt

-- ---- a token of a role

says : (t : Symbol) (x : ParamRole) → param_role t ≡ x → RoleSays x t
says t x is = subst (λ y. RoleSays y t) is (role_says t)

pub question_shown : (tokens : List Token) (at : ℕ) → Shows param_role tokens at at_question → rest tokens at ≡ punct mark.Question ∷ rest tokens (at + 1)
question_shown tokens at o = o.stands.is ∙ ap (λ t. t ∷ rest tokens (at + 1)) (says o.token at_question o.role_is)

pub base_shown : (tokens : List Token) (at : ℕ) (base : Base Nothing) → Shows param_role tokens at (at_base base) → rest tokens at ≡ spell_base base (rest tokens (at + 1))
base_shown tokens at base o = o.stands.is ∙ sym (says o.token (at_base base) o.role_is (rest tokens (at + 1)))

pub type_shown : (b : Bool) (x y : Base Note) (t u : Type_of Note) → x ≡ y → t ≡ record { is_nullable = b; base = x } → u ≡ record { is_nullable = b; base = y } → t ≡ u
type_shown b x y t u is t_is u_is = cc
