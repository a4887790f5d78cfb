-- Punctuators.
use Rattle.std.specs.Prelude.{ℕ, nat_eq, if◌then◌else◌, List, [], ◌∷◌, length, Option, Some, None, codes}
use Rattle.std.specs.List.{starts_with}
use Rattle.php_token.specs.declared.kind.Punct.TheVariants as Punct
use Rattle.php_token.specs.declared.kind.Punct.{Punct as PunctType}
use Rattle.php_lex_pieces.specs.Bytes.{Text}

-- each one stands before those that it begins with
unfoldable pub punctuators : List (Text × PunctType)
punctuators =
    (codes "===", Punct.Identical) ∷
    (codes "!==", Punct.NotIdentical) ∷
    (codes "<=>", Punct.Spaceship) ∷
    (codes "**=", Punct.PowerAssign) ∷
    (codes "<<=", Punct.ShiftLeftAssign) ∷
    (codes ">>=", Punct.ShiftRightAssign) ∷
    (codes "...", Punct.Ellipsis) ∷
    (codes "->", Punct.Arrow) ∷
    (codes "++", Punct.PlusPlus) ∷
    (codes "--", Punct.MinusMinus) ∷
    (codes "**", Punct.StarStar) ∷
    (codes "<<", Punct.ShiftLeft) ∷
    (codes ">>", Punct.ShiftRight) ∷
    (codes "<=", Punct.LessEqual) ∷
    (codes ">=", Punct.GreaterEqual) ∷
    (codes "==", Punct.EqualEqual) ∷
    (codes "!=", Punct.NotEqual) ∷
    (codes "<>", Punct.LessGreater) ∷
    (codes "&&", Punct.AndAnd) ∷
    (codes "||", Punct.BarBar) ∷
    (codes "*=", Punct.StarAssign) ∷
    (codes "/=", Punct.SlashAssign) ∷
    (codes "%=", Punct.PercentAssign) ∷
    (codes "+=", Punct.PlusAssign) ∷
    (codes "-=", Punct.MinusAssign) ∷
    (codes ".=", Punct.DotAssign) ∷
    (codes "&=", Punct.AmpersandAssign) ∷
    (codes "^=", Punct.CaretAssign) ∷
    (codes "|=", Punct.BarAssign) ∷
    (codes "??", Punct.QuestionQuestion) ∷
    (codes "=>", Punct.DoubleArrow) ∷
    (codes "::", Punct.DoubleColon) ∷
    (codes "[", Punct.LeftBracket) ∷
    (codes "]", Punct.RightBracket) ∷
    (codes "(", Punct.LeftParen) ∷
    (codes ")", Punct.RightParen) ∷
    (codes "{", Punct.LeftBrace) ∷
    (codes "}", Punct.RightBrace) ∷
    (codes ".", Punct.Dot) ∷
    (codes "*", Punct.Star) ∷
    (codes "+", Punct.Plus) ∷
    (codes "-", Punct.Minus) ∷
    (codes "~", Punct.Tilde) ∷
    (codes "!", Punct.Bang) ∷
    (codes "/", Punct.Slash) ∷
    (codes "%", Punct.Percent) ∷
    (codes "<", Punct.Less) ∷
    (codes ">", Punct.Greater) ∷
    (codes "^", Punct.Caret) ∷
    (codes "|", Punct.Bar) ∷
    (codes "&", Punct.Ampersand) ∷
    (codes "?", Punct.Question) ∷
    (codes ":", Punct.Colon) ∷
    (codes ";", Punct.Semicolon) ∷
    (codes "=", Punct.Assign) ∷
    (codes ",", Punct.Comma) ∷
    (codes "@", Punct.At) ∷ []

-- the first of the table with which the text begins, and its length
abbrev pub first_in : List (Text × PunctType) → Text → Option (PunctType × ℕ)
first_in [] text = None
first_in (row ∷ rows) text = if starts_with nat_eq text row.0 then Some (row.1, length row.0) else first_in rows text

-- the longest punctuator with which the text begins, and its length
unfoldable pub punctuator : Text → Option (PunctType × ℕ)
punctuator text = first_in punctuators text
