-- Names of members.
use Rattle.std.proofs.Common.{◌≡◌, ◌≢◌, ℕ, true, Option, Some, None, List, refl, ap, sym, ◌∙◌}
use Rattle.php_token.specs.declared.kind.Keyword as word
use Rattle.php_token.specs.declared.kind.Keyword.TheVariants as keyword
use Rattle.php_token.specs.Token.{Token, token_at}
use Rattle.php_ast.specs.declared.spot.Spot.{Spot}
use Rattle.php_ast.specs.declared.spot.Word.{Word}
use Rattle.php_ast.specs.Symbol.{symbol}
use Rattle.php_ast.specs.expression.Tree.{named, reserved}
use Rattle.php_ast.specs.expression.View.{Note, spot_view}
use Rattle.php_ast.specs.expression.Placed.{notes_of}
use Rattle.php_ast.specs.expression.Proper.{may_name}
use Rattle.php_grammar.specs.expression.Role.{reserved_if}
use Rattle.php_token.specs.declared.kind.TokenKind.TheVariants.{Variable, Keyword}
use Rattle.php_ast.specs.declared.spot.Name.{Name}
use Rattle.php_ast.specs.declared.expression.Member.TheVariants as member
use Rattle.php_ast.specs.Symbol.{symbol_of}
use Rattle.php_ast.specs.expression.Tree.{held}
use Rattle.php_grammar.specs.expression.Role.{member_of}
use Rattle.php_reader.specs.Seen.{Stands, Words, ShowsWord, ShowsMember, IsNamed, head_member, head_word, rest}

word_by : (tokens : List Token) (at : ℕ) (k : Option word.Keyword) (spot : Spot) (text : List ℕ) → Stands tokens at (symbol (token_at tokens at)) → Words (token_at tokens at).kind (Some k)
    → spot_view spot ≡ (notes_of tokens).token at → text ≡ (token_at tokens at).text → ShowsWord tokens at (Some (record { spot = spot; text = text; keyword = k }))
word_by tokens at None spot text stands h noted is = (
  named tt (token_at tokens at).text,
  record { token = symbol (token_at tokens at); stands = stands; role_is = h (token_at tokens at).text (token_at tokens at).int },
  ap (λ n. named n text) noted ∙ ap (λ x. named ((notes_of tokens).token at) x) is,
  tt,
)
word_by tokens at (Some k) spot text stands h noted is = (
  reserved tt k,
  record { token = symbol (token_at tokens at); stands = stands; role_is = h.1 (token_at tokens at).text (token_at tokens at).int },
  ap (λ (n : Note). reserved (record { place = n.place; line = n.line; text = text }) k) noted
      ∙ ap (λ x. reserved (record { place = at; line = (token_at tokens at).line; text = x }) k) is,
  h.0,
)

-- every keyword but `yield from`
pub naming : (k : word.Keyword) → k ≢ keyword.YieldFrom → may_name k ≡ true
naming keyword.YieldFrom h = absurd (h refl)
naming _ h = refl

-- a keyword that may name a member
pub keyword_words : (k : word.Keyword) → may_name k ≡ true → Words (Keyword k) (Some (Some k))
keyword_words k h = (h, λ text value. ap (λ b. reserved_if b k) h)

pub word_shown : (tokens : List Token) (at : ℕ) (w : Word) → Stands tokens at (symbol (token_at tokens at)) → Words (token_at tokens at).kind (Some w.keyword)
    → spot_view w.spot ≡ (notes_of tokens).token at → w.text ≡ (token_at tokens at).text → ShowsWord tokens at (Some w)
word_shown tokens at w stands h noted is = word_by tokens at w.keyword w.spot w.text stands h noted is

pub variable_shown : (tokens : List Token) (at : ℕ) (n : Name) → Stands tokens at (symbol (token_at tokens at)) → (token_at tokens at).kind ≡ Variable → IsNamed tokens at n → ShowsMember tokens at (Some (member.Variable n))
variable_shown tokens at n stands kind is = (
  held tt (token_at tokens at).text,
  record { token = symbol (token_at tokens at); stands = stands; role_is = ap (λ k. member_of (symbol_of k (token_at tokens at).text (token_at tokens at).int)) kind },
  ap (λ x. held x n.text) is.noted ∙ ap (held ((notes_of tokens).token at)) is.text,
)

pub word_member : (tokens : List Token) (at : ℕ) (w : Word) → ShowsWord tokens at (Some w) → head_member (rest tokens at) ≡ head_word (rest tokens at) → ShowsMember tokens at (Some (member.Word w))
word_member tokens at w h same =
    (h.0, record { token = h.1.token; stands = h.1.stands; role_is = sym (ap head_member h.1.stands.is) ∙ same ∙ ap head_word h.1.stands.is ∙ h.1.role_is }, h.2)
