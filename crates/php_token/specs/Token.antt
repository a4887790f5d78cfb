-- A token, apart from how it is kept.
use Rattle.std.specs.Prelude.{ℕ, ℤ, List, [], pos, slice_index_or}
use Rattle.php_token.specs.declared.kind.TokenKind.{TokenKind}
use Rattle.php_token.specs.declared.kind.TokenKind.TheVariants.{Inline}

-- `text` is empty at the kinds that have none, and `int` is 0 at every kind but `Int`. Lines count from 1.
pub record Token : Type 0 where
  pub kind : TokenKind
  pub text : List ℕ
  pub int : ℤ
  pub line : ℕ

abbrev pub the_token : TokenKind → List ℕ → ℤ → ℕ → Token
the_token kind text int line = record { kind = kind; text = text; int = int; line = line }

-- what stands past the end of a list of tokens
abbrev pub no_token : Token
no_token = record { kind = Inline; text = []; int = pos 0; line = 0 }

-- the token at a place
abbrev pub token_at : List Token → ℕ → Token
token_at tokens at = slice_index_or tokens at no_token
