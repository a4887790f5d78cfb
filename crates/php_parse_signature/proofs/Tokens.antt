-- Which symbol a token is that the parser tested for.
use Rattle.std.proofs.Common.{◌≡◌, ℕ, ◌+◌, true, List, ◌∷◌, refl, ◌∙◌, ap, subst}
use Rattle.php_token.specs.Token.{Token}
use Rattle.php_token.specs.declared.kind.Punct.TheVariants as mark
use Rattle.php_ast.specs.Symbol.{Symbol, punct}
use Rattle.php_grammar.specs.declared.closer.Closer.{Closer}
use Rattle.php_grammar.specs.declared.closer.Closer.TheVariants as ender
use Rattle.php_grammar.specs.expression.Role.{continuation, closes, is_paren, is_right_paren, is_colon}
use Rattle.php_grammar.specs.statement.Role.{is_assign}
use Rattle.php_grammar.proofs.expression.Roles.{Says, continuation_says}
use Rattle.php_reader.specs.Seen.{Shows, rest}

pub paren_is : (t : Symbol) → is_paren t ≡ true → t ≡ punct mark.LeftParen
paren_is (punct mark.LeftParen) h = refl
paren_is _ h = cc

pub end_is : (t : Symbol) → is_right_paren t ≡ true → t ≡ punct mark.RightParen
end_is (punct mark.RightParen) h = refl
end_is _ h = cc

pub colon_is : (t : Symbol) → is_colon t ≡ true → t ≡ punct mark.Colon
colon_is (punct mark.Colon) h = refl
colon_is _ h = cc

pub assign_is : (t : Symbol) → is_assign t ≡ true → t ≡ punct mark.Assign
assign_is (punct mark.Assign) h = refl
assign_is _ h = cc

closer_is : (c : Closer) (t : Symbol) → continuation t ≡ closes c → Says (closes c) t
closer_is c t is = subst (λ x. Says x t) is (continuation_says t)

-- ---- where they stand

pub paren_shown : (tokens : List Token) (at : ℕ) → Shows is_paren tokens at true → rest tokens at ≡ punct mark.LeftParen ∷ rest tokens (at + 1)
paren_shown tokens at o = o.stands.is ∙ ap (λ t. t ∷ rest tokens (at + 1)) (paren_is o.token o.role_is)

pub colon_shown : (tokens : List Token) (at : ℕ) → Shows is_colon tokens at true → rest tokens at ≡ punct mark.Colon ∷ rest tokens (at + 1)
colon_shown tokens at o = o.stands.is ∙ ap (λ t. t ∷ rest tokens (at + 1)) (colon_is o.token o.role_is)

pub comma_shown : (tokens : List Token) (at : ℕ) → Shows continuation tokens at (closes ender.Comma) → rest tokens at ≡ punct mark.Comma ∷ rest tokens (at + 1)
comma_shown tokens at o = o.stands.is ∙ ap (λ t. t ∷ rest tokens (at + 1)) (closer_is ender.Comma o.token o.role_is)

pub end_shown : (tokens : List Token) (at : ℕ) → Shows continuation tokens at (closes ender.Paren) → rest tokens at ≡ punct mark.RightParen ∷ rest tokens (at + 1)
end_shown tokens at o = o.stands.is ∙ ap (λ t. t ∷ rest tokens (at + 1)) (closer_is ender.Paren o.token o.role_is)

pub assign_shown : (tokens : List Token) (at : ℕ) → Shows is_assign tokens at true → rest tokens at ≡ punct mark.Assign ∷ rest tokens (at + 1)
assign_shown tokens at o = o.stands.is ∙ ap (λ t. t ∷ rest tokens (at + 1)) (assign_is o.token o.role_is)
