-- Small texts outside the tags and in a script: the bytes at their front are a piece of that form.
use Rattle.std.proofs.Common.{false, [], ◌∷◌, ◌++◌, drop, refl, arith, inl, inr}
use Rattle.std.specs.Prelude.{codes}
use Rattle.std.specs.Char.{is_ascii_digit, is_ascii_hexdigit}
use Rattle.php_token.specs.declared.kind.Cast.TheVariants as Cast
use Rattle.php_token.specs.declared.kind.Punct.TheVariants as Punct
use Rattle.php_lex_pieces.specs.Bytes.{Text, is_blank, is_gap, is_octal_digit, is_binary_digit}
use Rattle.php_lex.specs.Modes.{outside, script, braces}
use Rattle.php_lex_pieces.specs.Comments as Comments
use Rattle.php_lex_pieces.specs.Templates as Templates
use Rattle.php_lex_laws.specs.Longest.{IsPieceAt}
use Rattle.php_lex_laws.specs.OutsideForms as outer
use Rattle.php_lex_laws.specs.ScriptForms as form
use Rattle.php_lex_laws.proofs.InsideLemmas.{inside_len}
use Rattle.php_lex_laws.proofs.LongestLemmas.{piece_at}
use Rattle.php_lex_laws.proofs.RangeLemmas.{run_all, none_before, name_there, raw_there}
use Rattle.php_lex_laws.proofs.SignLemmas.{sign_matches}
use Rattle.php_lex_laws.proofs.WordLemmas.{yield_has, cast_has}
use Rattle.php_lex_laws.proofs.ExampleParts.{read, less, most, some, newline}

-- ---- outside the tags

inline : IsPieceAt outside (codes "a<?b") 4 outer.inline
unfolding read
inline =
    let text : Text = codes "a<?b" in
    piece_at outside 1 text _ outer.inline refl (some refl, (omega arith, none_before Comments.begins_tag text))

echo_tag : IsPieceAt outside (codes "<?=1") 3 outer.echo_tag
unfolding read
echo_tag =
    let text : Text = codes "<?=1" in
    piece_at outside 1 text _ outer.echo_tag refl (refl, refl)

open_tag_end : IsPieceAt outside (codes "<?php") 5 outer.open_tag
unfolding read
open_tag_end =
    let text : Text = codes "<?php" in
    piece_at outside 1 text _ outer.open_tag refl (refl, inl (refl, refl))

open_tag_blank : IsPieceAt outside (codes "<?PHP  ") 6 outer.open_tag
unfolding read
open_tag_blank =
    let text : Text = codes "<?PHP  " in
    piece_at outside 1 text _ outer.open_tag refl (refl, inr (inl (refl, refl)))

-- CR LF is one blank, so a CR alone isn't the longest
open_tag_pair : IsPieceAt outside (codes "<?php" ++ (13 ∷ 10 ∷ [])) 7 outer.open_tag
unfolding read
open_tag_pair =
    let text : Text = codes "<?php" ++ (13 ∷ 10 ∷ []) in
    piece_at outside 1 text _ outer.open_tag refl (refl, inr (inr (refl, (refl, refl))))

-- ---- in a script

blanks : IsPieceAt script (codes "  a") 2 form.blanks
unfolding read
blanks =
    let text : Text = codes "  a" in
    piece_at script 1 text _ form.blanks refl (some refl, run_all is_blank text)

line_comment : IsPieceAt script (codes "//a?b?>") 5 form.line_comment
unfolding read
line_comment =
    let text : Text = codes "//a?b?>" in
    piece_at script 1 text _ form.line_comment refl (some refl, (3, (refl, (omega arith, none_before Comments.ends_comment (codes "a?b?>")))))

block_comment : IsPieceAt script (codes "/*a**/b") 6 form.block_comment
unfolding read
block_comment =
    let text : Text = codes "/*a**/b" in
    piece_at script 1 text _ form.block_comment refl (refl, (2, (refl, (none_before Comments.ends_block (codes "a**/b"), refl))))

-- no whole word `from` goes on
word : IsPieceAt script (codes "yield fromx") 5 form.word
unfolding read
word =
    let text : Text = codes "yield fromx" in
    piece_at script 1 text _ form.word refl (name_there text 0 (some refl))

yield_from : IsPieceAt script (codes "yield  FROM $a") 11 form.yield_from
unfolding read
yield_from =
    let text : Text = codes "yield  FROM $a" in
    piece_at script 1 text _ form.yield_from refl (yield_has text (some refl))

variable : IsPieceAt script (codes "$a1+") 3 form.variable
unfolding read
variable =
    let text : Text = codes "$a1+" in
    piece_at script 1 text _ form.variable refl (refl, (2, (name_there text 1 (some refl), refl)))

decimal : IsPieceAt script (codes "12+") 2 form.decimal
unfolding read
decimal =
    let text : Text = codes "12+" in
    piece_at script 1 text _ form.decimal refl ((some refl, (run_all is_ascii_digit text, most _ _ refl)), λ is. absurd (omega (arith, is)))

-- `0x` without a digit is 0 and a name
decimal_before_name : IsPieceAt script (codes "0x") 1 form.decimal
unfolding read
decimal_before_name =
    let text : Text = codes "0x" in
    piece_at script 1 text _ form.decimal refl ((some refl, (run_all is_ascii_digit text, most _ _ refl)), λ is. refl)

octal : IsPieceAt script (codes "017") 3 form.octal
unfolding read
octal =
    let text : Text = codes "017" in
    piece_at script 1 text _ form.octal refl (refl, (less 1 3 refl, (some refl, (run_all is_octal_digit text, most _ _ refl))))

hexadecimal : IsPieceAt script (codes "0x1F;") 4 form.hexadecimal
unfolding read
hexadecimal =
    let text : Text = codes "0x1F;" in
    piece_at script 1 text _ form.hexadecimal refl (refl, (refl, (2, (refl, (some refl, (run_all is_ascii_hexdigit (codes "1F;"), most _ _ refl))))))

binary : IsPieceAt script (codes "0B112") 4 form.binary
unfolding read
binary =
    let text : Text = codes "0B112" in
    piece_at script 1 text _ form.binary refl (refl, (refl, (2, (refl, (some refl, (run_all is_binary_digit (codes "112"), most _ _ refl))))))

raw_text : IsPieceAt script (codes "'a\\'b'c'") 6 form.raw_text
unfolding read
raw_text =
    let text : Text = codes "'a\\'b'c'" in
    piece_at script 1 text _ form.raw_text refl (refl, (4, (refl, raw_there false (codes "a\\'b'c'") (less 4 7 refl))))

quoted_text : IsPieceAt script (codes "\"a\\\"b\"c\"") 6 form.quoted_text
unfolding read
quoted_text =
    let text : Text = codes "\"a\\\"b\"c\"" in
    piece_at script 1 text _ form.quoted_text refl (refl, (4, (refl, (inside_len Templates.quote (codes "a\\\"b\"c\""), refl))))

opening_quote : IsPieceAt script (codes "\"a$b\"") 1 form.opening_quote
unfolding read
opening_quote =
    let text : Text = codes "\"a$b\"" in
    piece_at script 1 text _ form.opening_quote refl (refl, refl)

empty_heredoc : IsPieceAt script (codes "<<<E" ++ newline ++ codes "E;" ++ newline) 6 (form.empty_heredoc (record { quote = 0; at = 3; len = 1; start = 5 }))
unfolding read
empty_heredoc =
    let text : Text = codes "<<<E" ++ newline ++ codes "E;" ++ newline in
    let l : form.Label = record { quote = 0; at = 3; len = 1; start = 5 } in
    let o : form.Opens text l = record {
      signs = (refl, (refl, refl));
      gap = 0;
      gaps = run_all is_gap (drop 3 text);
      place = refl;
      opened = inl refl;
      name = name_there text 3 (some refl);
      closed = inl refl;
      newline = some refl;
      start = refl;
    } in
    piece_at script 1 text _ (form.empty_heredoc (record { quote = 0; at = 3; len = 1; start = 5 })) refl (o, (refl, refl))

nowdoc_text : IsPieceAt script (codes "<<< 'E'" ++ newline ++ codes "$a" ++ newline ++ codes "E;") 12 (form.nowdoc_text (record { quote = 39; at = 5; len = 1; start = 8 }) 2)
unfolding read
nowdoc_text =
    let text : Text = codes "<<< 'E'" ++ newline ++ codes "$a" ++ newline ++ codes "E;" in
    let l : form.Label = record { quote = 39; at = 5; len = 1; start = 8 } in
    let o : form.Opens text l = record {
      signs = (refl, (refl, refl));
      gap = 1;
      gaps = run_all is_gap (drop 3 text);
      place = refl;
      opened = inr (inr refl, refl);
      name = name_there text 5 (some refl);
      closed = inr refl;
      newline = some refl;
      start = refl;
    } in
    piece_at script 1 text _ (form.nowdoc_text (record { quote = 39; at = 5; len = 1; start = 8 }) 2) refl (o, (refl, (refl, ((none_before (Templates.closes (codes "E")) (drop 8 text), refl), refl))))

heredoc_text : IsPieceAt script (codes "<<<\"E\"" ++ newline ++ codes "a" ++ newline ++ codes "E") 10 (form.heredoc_text (record { quote = 34; at = 4; len = 1; start = 7 }) 1)
unfolding read
heredoc_text =
    let text : Text = codes "<<<\"E\"" ++ newline ++ codes "a" ++ newline ++ codes "E" in
    let l : form.Label = record { quote = 34; at = 4; len = 1; start = 7 } in
    let o : form.Opens text l = record {
      signs = (refl, (refl, refl));
      gap = 0;
      gaps = run_all is_gap (drop 3 text);
      place = refl;
      opened = inr (inl refl, refl);
      name = name_there text 4 (some refl);
      closed = inr refl;
      newline = some refl;
      start = refl;
    } in
    piece_at script 1 text _ (form.heredoc_text (record { quote = 34; at = 4; len = 1; start = 7 }) 1) refl (o, (refl, (refl, ((inside_len (Templates.label (codes "E")) (drop 7 text), refl), refl))))

heredoc_line : IsPieceAt script (codes "<<<E" ++ newline ++ codes "$a" ++ newline ++ codes "E") 5 (form.heredoc_line (record { quote = 0; at = 3; len = 1; start = 5 }))
unfolding read
heredoc_line =
    let text : Text = codes "<<<E" ++ newline ++ codes "$a" ++ newline ++ codes "E" in
    let l : form.Label = record { quote = 0; at = 3; len = 1; start = 5 } in
    let o : form.Opens text l = record {
      signs = (refl, (refl, refl));
      gap = 0;
      gaps = run_all is_gap (drop 3 text);
      place = refl;
      opened = inl refl;
      name = name_there text 3 (some refl);
      closed = inl refl;
      newline = some refl;
      start = refl;
    } in
    piece_at script 1 text _ (form.heredoc_line (record { quote = 0; at = 3; len = 1; start = 5 })) refl (o, (refl, refl))

end_tag : IsPieceAt script (codes "?>" ++ newline ++ newline) 3 form.end_tag
unfolding read
end_tag =
    let text : Text = codes "?>" ++ newline ++ newline in
    piece_at script 1 text _ form.end_tag refl (refl, (refl, refl))

cast_sign : IsPieceAt script (codes "( INT )1") 7 (form.cast_sign Cast.Int)
unfolding read
cast_sign =
    let text : Text = codes "( INT )1" in
    piece_at script 1 text _ (form.cast_sign Cast.Int) refl (cast_has text (Cast.Int, 7) refl refl)

-- no cast, and so a parenthesis
no_cast : IsPieceAt script (codes "(int8)") 1 (form.punctuator_sign Punct.LeftParen)
unfolding read
no_cast =
    let text : Text = codes "(int8)" in
    piece_at script 1 text _ (form.punctuator_sign Punct.LeftParen) refl (sign_matches text (Punct.LeftParen, 1) refl)

-- no end of the line behind the label, and so a sign
no_heredoc : IsPieceAt script (codes "<<<E;") 2 (form.punctuator_sign Punct.ShiftLeft)
unfolding read
no_heredoc =
    let text : Text = codes "<<<E;" in
    piece_at script 1 text _ (form.punctuator_sign Punct.ShiftLeft) refl (sign_matches text (Punct.ShiftLeft, 2) refl)

punctuator : IsPieceAt (braces 1) (codes "====") 3 (form.punctuator_sign Punct.Identical)
unfolding read
punctuator =
    let text : Text = codes "====" in
    piece_at (braces 1) 1 text _ (form.punctuator_sign Punct.Identical) refl (sign_matches text (Punct.Identical, 3) refl)
