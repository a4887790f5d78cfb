-- Which tokens of the whole language are those of the first one, and as what they stand there.
use Rattle.std.specs.Prelude.{◌≡◌, ℕ, ◌+◌, List, [], ◌∷◌, ◌++◌, map, Option, Some, None, option_map, if◌then◌else◌}
use Rattle.std.specs.List.{list_any, position_or_len}
use Rattle.std.specs.Str.{bytes_eq}
use Rattle.std.specs.Borrow.{Bor}
use Rattle.php_token.specs.Token as whole
use Rattle.php_token.specs.declared.kind.TokenKind.{TokenKind}
use Rattle.php_token.specs.declared.kind.TokenKind.TheVariants as kind
use Rattle.php_token.specs.declared.kind.Keyword.{Keyword}
use Rattle.php_token.specs.declared.kind.Keyword.TheVariants as word
use Rattle.php_token.specs.declared.kind.Punct.{Punct}
use Rattle.php_token.specs.declared.kind.Punct.TheVariants as mark
use Rattle.php_first_tokens.specs.declared.token.Lexeme.{Lexeme}
use Rattle.php_first_tokens.specs.declared.token.Lexeme.TheVariants.{Variable, Int, Text, Inline, Echo, Equals, Semicolon, Comma, Plus, Minus, Star, Open, Close}
use Rattle.php_first_tokens.specs.declared.token.Token.{Token}

-- the names, and one more where it isn't among them
abbrev pub with_name : List (List ℕ) → List ℕ → List (List ℕ)
with_name names name = if list_any (bytes_eq name) names then names else names ++ name ∷ []

-- the number of a name: the first place at which it stands among the names
abbrev pub number_in : List (List ℕ) → List ℕ → ℕ
number_in names name = position_or_len (bytes_eq name) names

-- the names so far, and that of the token where it is a variable
abbrev pub named_by : List (List ℕ) → List ℕ → TokenKind → List (List ℕ)
named_by names text kind.Variable = with_name names text
named_by names text _ = names

-- the names of variables, each once, in the order in which they first occur, behind those before
abbrev pub names_from : List (List ℕ) → List whole.Token → List (List ℕ)
names_from names [] = names
names_from names (token ∷ tokens) = names_from (named_by names token.text token.kind) tokens

abbrev pub names_in : List whole.Token → List (List ℕ)
names_in = names_from []

abbrev pub keyword : Keyword → Option Lexeme
keyword word.Echo = Some Echo
keyword _ = None

abbrev pub punctuator : Punct → Option Lexeme
punctuator mark.Assign = Some Equals
punctuator mark.Semicolon = Some Semicolon
punctuator mark.Comma = Some Comma
punctuator mark.Plus = Some Plus
punctuator mark.Minus = Some Minus
punctuator mark.Star = Some Star
punctuator mark.LeftParen = Some Open
punctuator mark.RightParen = Some Close
punctuator _ = None

-- What the token at a place is, if it is one of the first language: a variable by the place of its name among the names of
-- the script, a text by the place of its token.
abbrev pub lexeme_of : List (List ℕ) → ℕ → whole.Token → TokenKind → Option Lexeme
lexeme_of names at token kind.Variable = Some (Variable (number_in names token.text))
lexeme_of names at token kind.Int = Some (Int token.int)
lexeme_of names at token kind.Str = Some (Text at)
lexeme_of names at token kind.Inline = Some (Inline at)
lexeme_of names at token (kind.Keyword word) = keyword word
lexeme_of names at token (kind.Punct punct) = punctuator punct
lexeme_of names at token _ = None

-- the lexeme on its line, and those behind it
abbrev pub put_before : ℕ → Option Lexeme → Option (List Token) → Option (List Token)
put_before line None firsts = None
put_before line (Some lexeme) firsts = option_map (λ tokens. record { lexeme = lexeme; line = line } ∷ tokens) firsts

-- The tokens from a place on as those of the first language, each on its line; None where one of them is none of it.
abbrev pub firsts_from : List (List ℕ) → ℕ → List whole.Token → Option (List Token)
firsts_from names at [] = Some []
firsts_from names at (token ∷ tokens) = put_before token.line (lexeme_of names at token token.kind) (firsts_from names (at + 1) tokens)

abbrev pub firsts_in : List whole.Token → Option (List Token)
firsts_in tokens = firsts_from (names_in tokens) 0 tokens

-- The tokens of a script are these of the first language.
abbrev pub AreFirst : List whole.Token → List Token → Type 0
AreFirst tokens firsts = firsts_in tokens ≡ Some firsts

-- the names behind references
abbrev pub names_of : List (Bor (List ℕ)) → List (List ℕ)
names_of = map (λ name. name.now)
