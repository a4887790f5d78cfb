-- What some tokens are in the first language.
use Rattle.std.specs.Prelude.{◌≡◌, refl, ℕ, List, [], ◌∷◌, pos, Some, None, codes}
use Rattle.php_token.specs.Token.{the_token}
use Rattle.php_token.specs.Token as whole
use Rattle.php_token.specs.declared.kind.TokenKind.{TokenKind}
use Rattle.php_token.specs.declared.kind.TokenKind.TheVariants as kind
use Rattle.php_token.specs.declared.kind.Keyword.TheVariants as word
use Rattle.php_token.specs.declared.kind.Punct.TheVariants as mark
use Rattle.php_first_tokens.specs.declared.token.Lexeme.{Lexeme}
use Rattle.php_first_tokens.specs.declared.token.Lexeme.TheVariants.{Variable, Int, Text, Inline, Echo, Equals, Semicolon, Plus}
use Rattle.php_first_tokens.specs.declared.token.Token.{Token}
use Rattle.php_first_tokens.specs.Lexemes.{names_in, firsts_in}

abbrev pub variable : List ℕ → ℕ → whole.Token
variable name line = the_token kind.Variable name (pos 0) line

abbrev pub sign : TokenKind → ℕ → whole.Token
sign kind line = the_token kind [] (pos 0) line

abbrev pub at_line : Lexeme → ℕ → Token
at_line lexeme line = record { lexeme = lexeme; line = line }

-- hi<?php $b = 1;
-- $a = $b + $b;
pub numbered_as_they_come : firsts_in (the_token kind.Inline (codes "hi") (pos 0) 1
    ∷ variable (codes "b") 1 ∷ sign (kind.Punct mark.Assign) 1 ∷ the_token kind.Int [] (pos 1) 1 ∷ sign (kind.Punct mark.Semicolon) 1
    ∷ variable (codes "a") 2 ∷ sign (kind.Punct mark.Assign) 2 ∷ variable (codes "b") 2 ∷ sign (kind.Punct mark.Plus) 2 ∷ variable (codes "b") 2 ∷ sign (kind.Punct mark.Semicolon) 2 ∷ [])
    ≡ Some (at_line (Inline 0) 1
    ∷ at_line (Variable 0) 1 ∷ at_line Equals 1 ∷ at_line (Int (pos 1)) 1 ∷ at_line Semicolon 1
    ∷ at_line (Variable 1) 2 ∷ at_line Equals 2 ∷ at_line (Variable 0) 2 ∷ at_line Plus 2 ∷ at_line (Variable 0) 2 ∷ at_line Semicolon 2 ∷ [])
numbered_as_they_come = refl

pub each_name_once : names_in (variable (codes "b") 1 ∷ variable (codes "a") 1 ∷ variable (codes "b") 1 ∷ []) ≡ codes "b" ∷ codes "a" ∷ []
each_name_once = refl

-- echo 'x';
pub text_by_its_place : firsts_in (sign (kind.Keyword word.Echo) 3 ∷ the_token kind.Str (codes "x") (pos 0) 3 ∷ sign (kind.Punct mark.Semicolon) 3 ∷ [])
    ≡ Some (at_line Echo 3 ∷ at_line (Text 1) 3 ∷ at_line Semicolon 3 ∷ [])
text_by_its_place = refl

-- $a += 1
pub none_of_the_first : firsts_in (variable (codes "a") 1 ∷ sign (kind.Punct mark.PlusAssign) 1 ∷ the_token kind.Int [] (pos 1) 1 ∷ []) ≡ None
none_of_the_first = refl
