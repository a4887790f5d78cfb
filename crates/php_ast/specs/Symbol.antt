-- What the grammar sees of a token: its kind, with the text of a name or of bytes, and the value of
-- an integer. The letter case of a keyword and the blanks in a cast make no difference.
use Rattle.std.specs.Prelude.{ℕ, ℤ, List}
use Rattle.php_token.specs.Token.{Token}
use Rattle.php_token.specs.declared.kind.Keyword.{Keyword}
use Rattle.php_token.specs.declared.kind.Punct.{Punct}
use Rattle.php_token.specs.declared.kind.Cast.{Cast}
use Rattle.php_token.specs.declared.kind.TokenKind.{TokenKind}
use Rattle.php_token.specs.declared.kind.TokenKind.TheVariants as kind

pub data Symbol : Type 0 where
  inline : List ℕ → Symbol
  name : List ℕ → Symbol
  variable : List ℕ → Symbol
  int : ℤ → Symbol
  string : List ℕ → Symbol
  quote : Symbol
  piece : List ℕ → Symbol
  part : Symbol
  end_part : Symbol
  unquote : Symbol
  keyword : Keyword → Symbol
  punct : Punct → Symbol
  cast : Cast → Symbol

abbrev pub symbol_of : TokenKind → List ℕ → ℤ → Symbol
symbol_of kind.Inline text value = inline text
symbol_of kind.Name text value = name text
symbol_of (kind.Keyword word) text value = keyword word
symbol_of kind.Variable text value = variable text
symbol_of kind.Int text value = int value
symbol_of kind.Str text value = string text
symbol_of kind.Quote text value = quote
symbol_of kind.Piece text value = piece text
symbol_of kind.Part text value = part
symbol_of kind.EndPart text value = end_part
symbol_of kind.Unquote text value = unquote
symbol_of (kind.Punct mark) text value = punct mark
symbol_of (kind.Cast word) text value = cast word

-- the symbol of a token
abbrev pub symbol : Token → Symbol
symbol token = symbol_of token.kind token.text token.int
