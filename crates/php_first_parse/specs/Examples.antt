-- What the machine reads of some lists of lexemes, and what the grammar says of some.
use Rattle.std.specs.Prelude.{◌≡◌, refl, pos, Option, Some, None, List, [], ◌∷◌, map}
use Rattle.php_first_tree.specs.Expression.{int, variable, group, times, plus, minus, value, text, Command, assign, echo, inline, empty, Statement}
use Rattle.php_first_tokens.specs.declared.token.Lexeme.{Lexeme}
use Rattle.php_first_tokens.specs.declared.token.Lexeme.TheVariants.{Variable, Int, Text, Inline, Echo, Equals, Semicolon, Comma, Plus, Minus, Star, Open, Close}
use Rattle.php_first_tokens.specs.declared.token.Token.{Token}
use Rattle.php_first_parse.specs.Spelling.{at_line, IsSpelling}
use Rattle.php_first_parse.specs.Machine.{read}

-- the statements that lexemes of the first line spell
abbrev pub read_line : List Lexeme → Option (List Statement)
read_line ls = read (map (λ l. at_line l 1) ls)

-- the only statement, on the first line
abbrev pub only : Command → Option (List Statement)
only command = Some (record { line = 1; command = command } ∷ [])

-- $a=2*3+4;
pub products_first : read_line (Variable 0 ∷ Equals ∷ Int (pos 2) ∷ Star ∷ Int (pos 3) ∷ Plus ∷ Int (pos 4) ∷ Semicolon ∷ []) ≡ only (assign 0 (plus (times (int (pos 2)) (int (pos 3))) (int (pos 4))))
products_first = refl

-- $a=4+2*3;
pub products_first_behind_a_sign : read_line (Variable 0 ∷ Equals ∷ Int (pos 4) ∷ Plus ∷ Int (pos 2) ∷ Star ∷ Int (pos 3) ∷ Semicolon ∷ []) ≡ only (assign 0 (plus (int (pos 4)) (times (int (pos 2)) (int (pos 3)))))
products_first_behind_a_sign = refl

-- echo 1-2-3;
pub from_the_left : read_line (Echo ∷ Int (pos 1) ∷ Minus ∷ Int (pos 2) ∷ Minus ∷ Int (pos 3) ∷ Semicolon ∷ []) ≡ only (echo (value (minus (minus (int (pos 1)) (int (pos 2))) (int (pos 3))) ∷ []))
from_the_left = refl

-- echo 1-(2-3);
pub as_grouped : read_line (Echo ∷ Int (pos 1) ∷ Minus ∷ Open ∷ Int (pos 2) ∷ Minus ∷ Int (pos 3) ∷ Close ∷ Semicolon ∷ []) ≡ only (echo (value (minus (int (pos 1)) (group (minus (int (pos 2)) (int (pos 3))))) ∷ []))
as_grouped = refl

-- echo $b,$c,$a-5;
pub several_parts : read_line (Echo ∷ Variable 1 ∷ Comma ∷ Variable 2 ∷ Comma ∷ Variable 0 ∷ Minus ∷ Int (pos 5) ∷ Semicolon ∷ []) ≡ only (echo (value (variable 1) ∷ value (variable 2) ∷ value (minus (variable 0) (int (pos 5))) ∷ []))
several_parts = refl

-- echo 'a'; where the text is the token at place 1
pub one_text : read_line (Echo ∷ Text 1 ∷ Semicolon ∷ []) ≡ only (echo (text 1 ∷ []))
one_text = refl

-- echo $a,'b',2*3,'c';
pub texts_and_values : read_line (Echo ∷ Variable 0 ∷ Comma ∷ Text 3 ∷ Comma ∷ Int (pos 2) ∷ Star ∷ Int (pos 3) ∷ Comma ∷ Text 9 ∷ Semicolon ∷ [])
    ≡ only (echo (value (variable 0) ∷ text 3 ∷ value (times (int (pos 2)) (int (pos 3))) ∷ text 9 ∷ []))
texts_and_values = refl

-- text outside the tags, before an assignment and behind it
pub text_outside : read_line (Inline 0 ∷ Variable 0 ∷ Equals ∷ Int (pos 1) ∷ Semicolon ∷ Inline 5 ∷ [])
    ≡ Some (record { line = 1; command = inline 0 } ∷ record { line = 1; command = assign 0 (int (pos 1)) } ∷ record { line = 1; command = inline 5 } ∷ [])
text_outside = refl

-- ;
pub nothing_to_do : read_line (Semicolon ∷ []) ≡ only empty
nothing_to_do = refl

-- ;echo 1;;
pub semicolons : read_line (Semicolon ∷ Echo ∷ Int (pos 1) ∷ Semicolon ∷ Semicolon ∷ [])
    ≡ Some (record { line = 1; command = empty } ∷ record { line = 1; command = echo (value (int (pos 1)) ∷ []) } ∷ record { line = 1; command = empty } ∷ [])
semicolons = refl

-- two statements on two lines, the second over two lines
pub lines_of_first_tokens : read (at_line (Variable 0) 1 ∷ at_line Equals 1 ∷ at_line (Int (pos 1)) 1 ∷ at_line Semicolon 1 ∷ at_line Echo 2 ∷ at_line (Variable 0) 3 ∷ at_line Semicolon 3 ∷ [])
    ≡ Some (record { line = 1; command = assign 0 (int (pos 1)) } ∷ record { line = 2; command = echo (value (variable 0) ∷ []) } ∷ [])
lines_of_first_tokens = refl

pub nothing_is_no_statement : read [] ≡ Some []
nothing_is_no_statement = refl

-- echo (1;
pub unclosed : read_line (Echo ∷ Open ∷ Int (pos 1) ∷ Semicolon ∷ []) ≡ None
unclosed = refl

-- echo (1,2);
pub no_comma_inside : read_line (Echo ∷ Open ∷ Int (pos 1) ∷ Comma ∷ Int (pos 2) ∷ Close ∷ Semicolon ∷ []) ≡ None
no_comma_inside = refl

-- echo ;
pub no_part : read_line (Echo ∷ Semicolon ∷ []) ≡ None
no_part = refl

-- echo 1
pub no_semicolon : read_line (Echo ∷ Int (pos 1) ∷ []) ≡ None
no_semicolon = refl

-- $a=1,2;
pub one_value : read_line (Variable 0 ∷ Equals ∷ Int (pos 1) ∷ Comma ∷ Int (pos 2) ∷ Semicolon ∷ []) ≡ None
one_value = refl

-- echo 1+'a';
pub no_text_in_a_sum : read_line (Echo ∷ Int (pos 1) ∷ Plus ∷ Text 3 ∷ Semicolon ∷ []) ≡ None
no_text_in_a_sum = refl

-- echo 'a'+1;
pub no_sum_from_a_text : read_line (Echo ∷ Text 1 ∷ Plus ∷ Int (pos 1) ∷ Semicolon ∷ []) ≡ None
no_sum_from_a_text = refl

-- echo ('a');
pub no_text_in_parentheses : read_line (Echo ∷ Open ∷ Text 2 ∷ Close ∷ Semicolon ∷ []) ≡ None
no_text_in_parentheses = refl

-- echo 'a''b';
pub no_texts_without_a_comma : read_line (Echo ∷ Text 1 ∷ Text 2 ∷ Semicolon ∷ []) ≡ None
no_texts_without_a_comma = refl

-- echo 'a',;
pub no_part_behind_a_comma : read_line (Echo ∷ Text 1 ∷ Comma ∷ Semicolon ∷ []) ≡ None
no_part_behind_a_comma = refl

-- $a='b';
pub no_text_as_value : read_line (Variable 0 ∷ Equals ∷ Text 2 ∷ Semicolon ∷ []) ≡ None
no_text_as_value = refl

-- 'a';
pub no_text_as_statement : read_line (Text 0 ∷ Semicolon ∷ []) ≡ None
no_text_as_statement = refl

-- text outside the tags, while a part or the end of a statement is due
pub no_text_outside_as_part : read_line (Echo ∷ Inline 1 ∷ Semicolon ∷ []) ≡ None
no_text_outside_as_part = refl

pub no_text_outside_in_a_statement : read_line (Echo ∷ Int (pos 1) ∷ Inline 2 ∷ []) ≡ None
no_text_outside_in_a_statement = refl

-- echo 'a',1; on line 2, text outside the tags behind it, and a semicolon
abbrev pub behind_the_text : List Token
behind_the_text = at_line (Int (pos 1)) 2 ∷ at_line Semicolon 2 ∷ at_line (Inline 5) 2 ∷ at_line Semicolon 4 ∷ []

pub spelled : IsSpelling
    (record { line = 2; command = echo (text 1 ∷ value (int (pos 1)) ∷ []) } ∷ record { line = 2; command = inline 5 } ∷ record { line = 4; command = empty } ∷ [])
    (at_line Echo 2 ∷ at_line (Text 1) 2 ∷ at_line Comma 3 ∷ behind_the_text)
spelled = (
  at_line (Inline 5) 2 ∷ at_line Semicolon 4 ∷ [],
  (2, at_line (Text 1) 2 ∷ at_line Comma 3 ∷ behind_the_text, refl, (3, behind_the_text, (2, refl), record { grouped = tt; within = tt; spelled = (2, refl) })),
  (at_line Semicolon 4 ∷ [], refl, ([], refl, refl)),
)
