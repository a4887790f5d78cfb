-- What the definitions say of small texts.
use Rattle.std.specs.Prelude.{◌≡◌, refl, ℕ, [], ◌∷◌, ◌++◌, Ok, Err, ℤ, pos, negsuc, codes}
use Rattle.php_lex.specs.declared.fail.LexFail.TheVariants as Fail
use Rattle.php_token.specs.declared.kind.TokenKind.{TokenKind}
use Rattle.php_token.specs.declared.kind.TokenKind.TheVariants as Kind
use Rattle.php_token.specs.declared.kind.Keyword.{Keyword as KeywordType}
use Rattle.php_token.specs.declared.kind.Keyword.TheVariants as Keyword
use Rattle.php_token.specs.declared.kind.Punct.{Punct as PunctType}
use Rattle.php_token.specs.declared.kind.Punct.TheVariants as Punct
use Rattle.php_token.specs.declared.kind.Cast.TheVariants as Cast
use Rattle.php_lex_pieces.specs.Bytes.{Text}
use Rattle.php_lex.specs.Reading.{tokens}
use Rattle.php_token.specs.Token.{Token}
use Rattle.php_lex.specs.Pieces as Pieces
use Rattle.php_lex_pieces.specs.Words as Words
use Rattle.php_lex_pieces.specs.Numbers as Numbers
use Rattle.php_lex_pieces.specs.Punctuators as Punctuators
use Rattle.php_lex_pieces.specs.Comments as Comments
use Rattle.php_lex_pieces.specs.Heredocs as Heredocs
use Rattle.php_lex_pieces.specs.Templates as Templates

abbrev token : TokenKind → Text → ℕ → Token
token kind text line = record { kind = kind; text = text; int = pos 0; line = line }

abbrev int : ℤ → ℕ → Token
int n line = record { kind = Kind.Int; text = []; int = n; line = line }

abbrev sign : PunctType → Text → ℕ → Token
sign punct text line = token (Kind.Punct punct) text line

abbrev keyword : KeywordType → Text → ℕ → Token
keyword k text line = token (Kind.Keyword k) text line

abbrev semicolon : ℕ → Token
semicolon line = sign Punct.Semicolon (codes ";") line

abbrev bare : TokenKind → ℕ → Token
bare kind line = token kind [] line

empty_text : tokens ([]) ≡ Ok []
unfolding tokens Pieces.outside_piece Pieces.script_piece Pieces.block_comment Pieces.variable Pieces.raw Pieces.quoted Pieces.nowdoc Pieces.heredoc_piece Pieces.labelled_piece Pieces.sign Pieces.part_piece Pieces.template_piece Pieces.subject_piece Pieces.member_piece Pieces.key_piece Pieces.key_end_piece Pieces.name_piece Pieces.name_end_piece Pieces.brace_end_piece Words.word Words.yield_from_len Words.word_kind Words.cast Numbers.number Numbers.key_len Punctuators.punctuator Heredocs.opening Templates.escape Templates.stretch Punctuators.punctuators Words.keywords Words.cast_words Words.is_word_at Comments.ends_comment Comments.ends_block Comments.open_tag_len Comments.begins_tag Comments.begins_echo Numbers.int_key Templates.is_label_line Templates.closing_len Templates.scalar_escape Templates.ends Templates.begins_part
empty_text = refl

-- any other `<?` is text
inline_alone : tokens (codes "a<?b") ≡ Ok (token Kind.Inline (codes "a<?b") 1 ∷ [])
unfolding tokens Pieces.outside_piece Pieces.script_piece Pieces.block_comment Pieces.variable Pieces.raw Pieces.quoted Pieces.nowdoc Pieces.heredoc_piece Pieces.labelled_piece Pieces.sign Pieces.part_piece Pieces.template_piece Pieces.subject_piece Pieces.member_piece Pieces.key_piece Pieces.key_end_piece Pieces.name_piece Pieces.name_end_piece Pieces.brace_end_piece Words.word Words.yield_from_len Words.word_kind Words.cast Numbers.number Numbers.key_len Punctuators.punctuator Heredocs.opening Templates.escape Templates.stretch Punctuators.punctuators Words.keywords Words.cast_words Words.is_word_at Comments.ends_comment Comments.ends_block Comments.open_tag_len Comments.begins_tag Comments.begins_echo Numbers.int_key Templates.is_label_line Templates.closing_len Templates.scalar_escape Templates.ends Templates.begins_part
inline_alone = refl

echo_tag : tokens (codes "<?=1?>") ≡ Ok (keyword Keyword.Echo (codes "echo") 1 ∷ int (pos 1) 1 ∷ semicolon 1 ∷ [])
unfolding tokens Pieces.outside_piece Pieces.script_piece Pieces.block_comment Pieces.variable Pieces.raw Pieces.quoted Pieces.nowdoc Pieces.heredoc_piece Pieces.labelled_piece Pieces.sign Pieces.part_piece Pieces.template_piece Pieces.subject_piece Pieces.member_piece Pieces.key_piece Pieces.key_end_piece Pieces.name_piece Pieces.name_end_piece Pieces.brace_end_piece Words.word Words.yield_from_len Words.word_kind Words.cast Numbers.number Numbers.key_len Punctuators.punctuator Heredocs.opening Templates.escape Templates.stretch Punctuators.punctuators Words.keywords Words.cast_words Words.is_word_at Comments.ends_comment Comments.ends_block Comments.open_tag_len Comments.begins_tag Comments.begins_echo Numbers.int_key Templates.is_label_line Templates.closing_len Templates.scalar_escape Templates.ends Templates.begins_part
echo_tag = refl

tag_needs_separator : tokens (codes "<?phpx") ≡ Ok (token Kind.Inline (codes "<?phpx") 1 ∷ [])
unfolding tokens Pieces.outside_piece Pieces.script_piece Pieces.block_comment Pieces.variable Pieces.raw Pieces.quoted Pieces.nowdoc Pieces.heredoc_piece Pieces.labelled_piece Pieces.sign Pieces.part_piece Pieces.template_piece Pieces.subject_piece Pieces.member_piece Pieces.key_piece Pieces.key_end_piece Pieces.name_piece Pieces.name_end_piece Pieces.brace_end_piece Words.word Words.yield_from_len Words.word_kind Words.cast Numbers.number Numbers.key_len Punctuators.punctuator Heredocs.opening Templates.escape Templates.stretch Punctuators.punctuators Words.keywords Words.cast_words Words.is_word_at Comments.ends_comment Comments.ends_block Comments.open_tag_len Comments.begins_tag Comments.begins_echo Numbers.int_key Templates.is_label_line Templates.closing_len Templates.scalar_escape Templates.ends Templates.begins_part
tag_needs_separator = refl

-- in any letter case, and at the end of the file
tag_at_end : tokens (codes "<?PHP") ≡ Ok []
unfolding tokens Pieces.outside_piece Pieces.script_piece Pieces.block_comment Pieces.variable Pieces.raw Pieces.quoted Pieces.nowdoc Pieces.heredoc_piece Pieces.labelled_piece Pieces.sign Pieces.part_piece Pieces.template_piece Pieces.subject_piece Pieces.member_piece Pieces.key_piece Pieces.key_end_piece Pieces.name_piece Pieces.name_end_piece Pieces.brace_end_piece Words.word Words.yield_from_len Words.word_kind Words.cast Numbers.number Numbers.key_len Punctuators.punctuator Heredocs.opening Templates.escape Templates.stretch Punctuators.punctuators Words.keywords Words.cast_words Words.is_word_at Comments.ends_comment Comments.ends_block Comments.open_tag_len Comments.begins_tag Comments.begins_echo Numbers.int_key Templates.is_label_line Templates.closing_len Templates.scalar_escape Templates.ends Templates.begins_part
tag_at_end = refl

tag_takes_crlf : tokens (codes "<?php" ++ (13 ∷ 10 ∷ []) ++ codes "$a") ≡ Ok (token Kind.Variable (codes "a") 2 ∷ [])
unfolding tokens Pieces.outside_piece Pieces.script_piece Pieces.block_comment Pieces.variable Pieces.raw Pieces.quoted Pieces.nowdoc Pieces.heredoc_piece Pieces.labelled_piece Pieces.sign Pieces.part_piece Pieces.template_piece Pieces.subject_piece Pieces.member_piece Pieces.key_piece Pieces.key_end_piece Pieces.name_piece Pieces.name_end_piece Pieces.brace_end_piece Words.word Words.yield_from_len Words.word_kind Words.cast Numbers.number Numbers.key_len Punctuators.punctuator Heredocs.opening Templates.escape Templates.stretch Punctuators.punctuators Words.keywords Words.cast_words Words.is_word_at Comments.ends_comment Comments.ends_block Comments.open_tag_len Comments.begins_tag Comments.begins_echo Numbers.int_key Templates.is_label_line Templates.closing_len Templates.scalar_escape Templates.ends Templates.begins_part
tag_takes_crlf = refl

tag_takes_cr : tokens (codes "<?php" ++ (13 ∷ []) ++ codes "$a") ≡ Ok (token Kind.Variable (codes "a") 1 ∷ [])
unfolding tokens Pieces.outside_piece Pieces.script_piece Pieces.block_comment Pieces.variable Pieces.raw Pieces.quoted Pieces.nowdoc Pieces.heredoc_piece Pieces.labelled_piece Pieces.sign Pieces.part_piece Pieces.template_piece Pieces.subject_piece Pieces.member_piece Pieces.key_piece Pieces.key_end_piece Pieces.name_piece Pieces.name_end_piece Pieces.brace_end_piece Words.word Words.yield_from_len Words.word_kind Words.cast Numbers.number Numbers.key_len Punctuators.punctuator Heredocs.opening Templates.escape Templates.stretch Punctuators.punctuators Words.keywords Words.cast_words Words.is_word_at Comments.ends_comment Comments.ends_block Comments.open_tag_len Comments.begins_tag Comments.begins_echo Numbers.int_key Templates.is_label_line Templates.closing_len Templates.scalar_escape Templates.ends Templates.begins_part
tag_takes_cr = refl

end_tag_takes_newline : tokens (codes "<?php ?>" ++ (10 ∷ []) ++ codes "b") ≡ Ok (semicolon 1 ∷ token Kind.Inline (codes "b") 2 ∷ [])
unfolding tokens Pieces.outside_piece Pieces.script_piece Pieces.block_comment Pieces.variable Pieces.raw Pieces.quoted Pieces.nowdoc Pieces.heredoc_piece Pieces.labelled_piece Pieces.sign Pieces.part_piece Pieces.template_piece Pieces.subject_piece Pieces.member_piece Pieces.key_piece Pieces.key_end_piece Pieces.name_piece Pieces.name_end_piece Pieces.brace_end_piece Words.word Words.yield_from_len Words.word_kind Words.cast Numbers.number Numbers.key_len Punctuators.punctuator Heredocs.opening Templates.escape Templates.stretch Punctuators.punctuators Words.keywords Words.cast_words Words.is_word_at Comments.ends_comment Comments.ends_block Comments.open_tag_len Comments.begins_tag Comments.begins_echo Numbers.int_key Templates.is_label_line Templates.closing_len Templates.scalar_escape Templates.ends Templates.begins_part
end_tag_takes_newline = refl

end_tag_takes_one_newline : tokens (codes "<?php ?>" ++ (13 ∷ 10 ∷ 10 ∷ [])) ≡ Ok (semicolon 1 ∷ token Kind.Inline (10 ∷ []) 2 ∷ [])
unfolding tokens Pieces.outside_piece Pieces.script_piece Pieces.block_comment Pieces.variable Pieces.raw Pieces.quoted Pieces.nowdoc Pieces.heredoc_piece Pieces.labelled_piece Pieces.sign Pieces.part_piece Pieces.template_piece Pieces.subject_piece Pieces.member_piece Pieces.key_piece Pieces.key_end_piece Pieces.name_piece Pieces.name_end_piece Pieces.brace_end_piece Words.word Words.yield_from_len Words.word_kind Words.cast Numbers.number Numbers.key_len Punctuators.punctuator Heredocs.opening Templates.escape Templates.stretch Punctuators.punctuators Words.keywords Words.cast_words Words.is_word_at Comments.ends_comment Comments.ends_block Comments.open_tag_len Comments.begins_tag Comments.begins_echo Numbers.int_key Templates.is_label_line Templates.closing_len Templates.scalar_escape Templates.ends Templates.begins_part
end_tag_takes_one_newline = refl

-- `?>` ends a comment on one line
comment_to_end_tag : tokens (codes "<?php #c?>d") ≡ Ok (semicolon 1 ∷ token Kind.Inline (codes "d") 1 ∷ [])
unfolding tokens Pieces.outside_piece Pieces.script_piece Pieces.block_comment Pieces.variable Pieces.raw Pieces.quoted Pieces.nowdoc Pieces.heredoc_piece Pieces.labelled_piece Pieces.sign Pieces.part_piece Pieces.template_piece Pieces.subject_piece Pieces.member_piece Pieces.key_piece Pieces.key_end_piece Pieces.name_piece Pieces.name_end_piece Pieces.brace_end_piece Words.word Words.yield_from_len Words.word_kind Words.cast Numbers.number Numbers.key_len Punctuators.punctuator Heredocs.opening Templates.escape Templates.stretch Punctuators.punctuators Words.keywords Words.cast_words Words.is_word_at Comments.ends_comment Comments.ends_block Comments.open_tag_len Comments.begins_tag Comments.begins_echo Numbers.int_key Templates.is_label_line Templates.closing_len Templates.scalar_escape Templates.ends Templates.begins_part
comment_to_end_tag = refl

comment_to_newline : tokens (codes "<?php //c?" ++ (10 ∷ []) ++ codes "$a") ≡ Ok (token Kind.Variable (codes "a") 2 ∷ [])
unfolding tokens Pieces.outside_piece Pieces.script_piece Pieces.block_comment Pieces.variable Pieces.raw Pieces.quoted Pieces.nowdoc Pieces.heredoc_piece Pieces.labelled_piece Pieces.sign Pieces.part_piece Pieces.template_piece Pieces.subject_piece Pieces.member_piece Pieces.key_piece Pieces.key_end_piece Pieces.name_piece Pieces.name_end_piece Pieces.brace_end_piece Words.word Words.yield_from_len Words.word_kind Words.cast Numbers.number Numbers.key_len Punctuators.punctuator Heredocs.opening Templates.escape Templates.stretch Punctuators.punctuators Words.keywords Words.cast_words Words.is_word_at Comments.ends_comment Comments.ends_block Comments.open_tag_len Comments.begins_tag Comments.begins_echo Numbers.int_key Templates.is_label_line Templates.closing_len Templates.scalar_escape Templates.ends Templates.begins_part
comment_to_newline = refl

comment_to_cr : tokens (codes "<?php #c" ++ (13 ∷ []) ++ codes "$a") ≡ Ok (token Kind.Variable (codes "a") 1 ∷ [])
unfolding tokens Pieces.outside_piece Pieces.script_piece Pieces.block_comment Pieces.variable Pieces.raw Pieces.quoted Pieces.nowdoc Pieces.heredoc_piece Pieces.labelled_piece Pieces.sign Pieces.part_piece Pieces.template_piece Pieces.subject_piece Pieces.member_piece Pieces.key_piece Pieces.key_end_piece Pieces.name_piece Pieces.name_end_piece Pieces.brace_end_piece Words.word Words.yield_from_len Words.word_kind Words.cast Numbers.number Numbers.key_len Punctuators.punctuator Heredocs.opening Templates.escape Templates.stretch Punctuators.punctuators Words.keywords Words.cast_words Words.is_word_at Comments.ends_comment Comments.ends_block Comments.open_tag_len Comments.begins_tag Comments.begins_echo Numbers.int_key Templates.is_label_line Templates.closing_len Templates.scalar_escape Templates.ends Templates.begins_part
comment_to_cr = refl

block_comment : tokens (codes "<?php /**/$a/* " ++ (10 ∷ []) ++ codes "*/$b") ≡ Ok (token Kind.Variable (codes "a") 1 ∷ token Kind.Variable (codes "b") 2 ∷ [])
unfolding tokens Pieces.outside_piece Pieces.script_piece Pieces.block_comment Pieces.variable Pieces.raw Pieces.quoted Pieces.nowdoc Pieces.heredoc_piece Pieces.labelled_piece Pieces.sign Pieces.part_piece Pieces.template_piece Pieces.subject_piece Pieces.member_piece Pieces.key_piece Pieces.key_end_piece Pieces.name_piece Pieces.name_end_piece Pieces.brace_end_piece Words.word Words.yield_from_len Words.word_kind Words.cast Numbers.number Numbers.key_len Punctuators.punctuator Heredocs.opening Templates.escape Templates.stretch Punctuators.punctuators Words.keywords Words.cast_words Words.is_word_at Comments.ends_comment Comments.ends_block Comments.open_tag_len Comments.begins_tag Comments.begins_echo Numbers.int_key Templates.is_label_line Templates.closing_len Templates.scalar_escape Templates.ends Templates.begins_part
block_comment = refl

-- the line is that of its beginning
block_comment_unclosed : tokens (codes "<?php " ++ (10 ∷ []) ++ codes "/* " ++ (10 ∷ []) ++ codes "*") ≡ Err (Fail.Unclosed 2)
unfolding tokens Pieces.outside_piece Pieces.script_piece Pieces.block_comment Pieces.variable Pieces.raw Pieces.quoted Pieces.nowdoc Pieces.heredoc_piece Pieces.labelled_piece Pieces.sign Pieces.part_piece Pieces.template_piece Pieces.subject_piece Pieces.member_piece Pieces.key_piece Pieces.key_end_piece Pieces.name_piece Pieces.name_end_piece Pieces.brace_end_piece Words.word Words.yield_from_len Words.word_kind Words.cast Numbers.number Numbers.key_len Punctuators.punctuator Heredocs.opening Templates.escape Templates.stretch Punctuators.punctuators Words.keywords Words.cast_words Words.is_word_at Comments.ends_comment Comments.ends_block Comments.open_tag_len Comments.begins_tag Comments.begins_echo Numbers.int_key Templates.is_label_line Templates.closing_len Templates.scalar_escape Templates.ends Templates.begins_part
block_comment_unclosed = refl

keywords_any_case : tokens (codes "<?php WHILE DIE __line__") ≡ Ok (keyword Keyword.While (codes "WHILE") 1 ∷ keyword Keyword.Exit (codes "DIE") 1 ∷ keyword Keyword.LineNumber (codes "__line__") 1 ∷ [])
unfolding tokens Pieces.outside_piece Pieces.script_piece Pieces.block_comment Pieces.variable Pieces.raw Pieces.quoted Pieces.nowdoc Pieces.heredoc_piece Pieces.labelled_piece Pieces.sign Pieces.part_piece Pieces.template_piece Pieces.subject_piece Pieces.member_piece Pieces.key_piece Pieces.key_end_piece Pieces.name_piece Pieces.name_end_piece Pieces.brace_end_piece Words.word Words.yield_from_len Words.word_kind Words.cast Numbers.number Numbers.key_len Punctuators.punctuator Heredocs.opening Templates.escape Templates.stretch Punctuators.punctuators Words.keywords Words.cast_words Words.is_word_at Comments.ends_comment Comments.ends_block Comments.open_tag_len Comments.begins_tag Comments.begins_echo Numbers.int_key Templates.is_label_line Templates.closing_len Templates.scalar_escape Templates.ends Templates.begins_part
keywords_any_case = refl

names : tokens (codes "<?php whiles _a1 True") ≡ Ok (token Kind.Name (codes "whiles") 1 ∷ token Kind.Name (codes "_a1") 1 ∷ token Kind.Name (codes "True") 1 ∷ [])
unfolding tokens Pieces.outside_piece Pieces.script_piece Pieces.block_comment Pieces.variable Pieces.raw Pieces.quoted Pieces.nowdoc Pieces.heredoc_piece Pieces.labelled_piece Pieces.sign Pieces.part_piece Pieces.template_piece Pieces.subject_piece Pieces.member_piece Pieces.key_piece Pieces.key_end_piece Pieces.name_piece Pieces.name_end_piece Pieces.brace_end_piece Words.word Words.yield_from_len Words.word_kind Words.cast Numbers.number Numbers.key_len Punctuators.punctuator Heredocs.opening Templates.escape Templates.stretch Punctuators.punctuators Words.keywords Words.cast_words Words.is_word_at Comments.ends_comment Comments.ends_block Comments.open_tag_len Comments.begins_tag Comments.begins_echo Numbers.int_key Templates.is_label_line Templates.closing_len Templates.scalar_escape Templates.ends Templates.begins_part
names = refl

name_high_bytes : tokens (codes "<?php " ++ (200 ∷ 128 ∷ [])) ≡ Ok (token Kind.Name (200 ∷ 128 ∷ []) 1 ∷ [])
unfolding tokens Pieces.outside_piece Pieces.script_piece Pieces.block_comment Pieces.variable Pieces.raw Pieces.quoted Pieces.nowdoc Pieces.heredoc_piece Pieces.labelled_piece Pieces.sign Pieces.part_piece Pieces.template_piece Pieces.subject_piece Pieces.member_piece Pieces.key_piece Pieces.key_end_piece Pieces.name_piece Pieces.name_end_piece Pieces.brace_end_piece Words.word Words.yield_from_len Words.word_kind Words.cast Numbers.number Numbers.key_len Punctuators.punctuator Heredocs.opening Templates.escape Templates.stretch Punctuators.punctuators Words.keywords Words.cast_words Words.is_word_at Comments.ends_comment Comments.ends_block Comments.open_tag_len Comments.begins_tag Comments.begins_echo Numbers.int_key Templates.is_label_line Templates.closing_len Templates.scalar_escape Templates.ends Templates.begins_part
name_high_bytes = refl

variable_like_keyword : tokens (codes "<?php $while") ≡ Ok (token Kind.Variable (codes "while") 1 ∷ [])
unfolding tokens Pieces.outside_piece Pieces.script_piece Pieces.block_comment Pieces.variable Pieces.raw Pieces.quoted Pieces.nowdoc Pieces.heredoc_piece Pieces.labelled_piece Pieces.sign Pieces.part_piece Pieces.template_piece Pieces.subject_piece Pieces.member_piece Pieces.key_piece Pieces.key_end_piece Pieces.name_piece Pieces.name_end_piece Pieces.brace_end_piece Words.word Words.yield_from_len Words.word_kind Words.cast Numbers.number Numbers.key_len Punctuators.punctuator Heredocs.opening Templates.escape Templates.stretch Punctuators.punctuators Words.keywords Words.cast_words Words.is_word_at Comments.ends_comment Comments.ends_block Comments.open_tag_len Comments.begins_tag Comments.begins_echo Numbers.int_key Templates.is_label_line Templates.closing_len Templates.scalar_escape Templates.ends Templates.begins_part
variable_like_keyword = refl

dollar_alone : tokens (codes "<?php $1") ≡ Err (Fail.BadByte 1)
unfolding tokens Pieces.outside_piece Pieces.script_piece Pieces.block_comment Pieces.variable Pieces.raw Pieces.quoted Pieces.nowdoc Pieces.heredoc_piece Pieces.labelled_piece Pieces.sign Pieces.part_piece Pieces.template_piece Pieces.subject_piece Pieces.member_piece Pieces.key_piece Pieces.key_end_piece Pieces.name_piece Pieces.name_end_piece Pieces.brace_end_piece Words.word Words.yield_from_len Words.word_kind Words.cast Numbers.number Numbers.key_len Punctuators.punctuator Heredocs.opening Templates.escape Templates.stretch Punctuators.punctuators Words.keywords Words.cast_words Words.is_word_at Comments.ends_comment Comments.ends_block Comments.open_tag_len Comments.begins_tag Comments.begins_echo Numbers.int_key Templates.is_label_line Templates.closing_len Templates.scalar_escape Templates.ends Templates.begins_part
dollar_alone = refl

yield_from_is_one : tokens (codes "<?php yield " ++ (10 ∷ []) ++ codes "FROM $a") ≡ Ok (keyword Keyword.YieldFrom (codes "yield " ++ (10 ∷ []) ++ codes "FROM") 1 ∷ token Kind.Variable (codes "a") 2 ∷ [])
unfolding tokens Pieces.outside_piece Pieces.script_piece Pieces.block_comment Pieces.variable Pieces.raw Pieces.quoted Pieces.nowdoc Pieces.heredoc_piece Pieces.labelled_piece Pieces.sign Pieces.part_piece Pieces.template_piece Pieces.subject_piece Pieces.member_piece Pieces.key_piece Pieces.key_end_piece Pieces.name_piece Pieces.name_end_piece Pieces.brace_end_piece Words.word Words.yield_from_len Words.word_kind Words.cast Numbers.number Numbers.key_len Punctuators.punctuator Heredocs.opening Templates.escape Templates.stretch Punctuators.punctuators Words.keywords Words.cast_words Words.is_word_at Comments.ends_comment Comments.ends_block Comments.open_tag_len Comments.begins_tag Comments.begins_echo Numbers.int_key Templates.is_label_line Templates.closing_len Templates.scalar_escape Templates.ends Templates.begins_part
yield_from_is_one = refl

-- `from` is a whole word
yield_and_name : tokens (codes "<?php yield fromx") ≡ Ok (keyword Keyword.Yield (codes "yield") 1 ∷ token Kind.Name (codes "fromx") 1 ∷ [])
unfolding tokens Pieces.outside_piece Pieces.script_piece Pieces.block_comment Pieces.variable Pieces.raw Pieces.quoted Pieces.nowdoc Pieces.heredoc_piece Pieces.labelled_piece Pieces.sign Pieces.part_piece Pieces.template_piece Pieces.subject_piece Pieces.member_piece Pieces.key_piece Pieces.key_end_piece Pieces.name_piece Pieces.name_end_piece Pieces.brace_end_piece Words.word Words.yield_from_len Words.word_kind Words.cast Numbers.number Numbers.key_len Punctuators.punctuator Heredocs.opening Templates.escape Templates.stretch Punctuators.punctuators Words.keywords Words.cast_words Words.is_word_at Comments.ends_comment Comments.ends_block Comments.open_tag_len Comments.begins_tag Comments.begins_echo Numbers.int_key Templates.is_label_line Templates.closing_len Templates.scalar_escape Templates.ends Templates.begins_part
yield_and_name = refl

yield_without_blank : tokens (codes "<?php yieldfrom") ≡ Ok (token Kind.Name (codes "yieldfrom") 1 ∷ [])
unfolding tokens Pieces.outside_piece Pieces.script_piece Pieces.block_comment Pieces.variable Pieces.raw Pieces.quoted Pieces.nowdoc Pieces.heredoc_piece Pieces.labelled_piece Pieces.sign Pieces.part_piece Pieces.template_piece Pieces.subject_piece Pieces.member_piece Pieces.key_piece Pieces.key_end_piece Pieces.name_piece Pieces.name_end_piece Pieces.brace_end_piece Words.word Words.yield_from_len Words.word_kind Words.cast Numbers.number Numbers.key_len Punctuators.punctuator Heredocs.opening Templates.escape Templates.stretch Punctuators.punctuators Words.keywords Words.cast_words Words.is_word_at Comments.ends_comment Comments.ends_block Comments.open_tag_len Comments.begins_tag Comments.begins_echo Numbers.int_key Templates.is_label_line Templates.closing_len Templates.scalar_escape Templates.ends Templates.begins_part
yield_without_blank = refl

four_bases : tokens (codes "<?php 0 017 0x1F 0B11") ≡ Ok (int (pos 0) 1 ∷ int (pos 15) 1 ∷ int (pos 31) 1 ∷ int (pos 3) 1 ∷ [])
unfolding tokens Pieces.outside_piece Pieces.script_piece Pieces.block_comment Pieces.variable Pieces.raw Pieces.quoted Pieces.nowdoc Pieces.heredoc_piece Pieces.labelled_piece Pieces.sign Pieces.part_piece Pieces.template_piece Pieces.subject_piece Pieces.member_piece Pieces.key_piece Pieces.key_end_piece Pieces.name_piece Pieces.name_end_piece Pieces.brace_end_piece Words.word Words.yield_from_len Words.word_kind Words.cast Numbers.number Numbers.key_len Punctuators.punctuator Heredocs.opening Templates.escape Templates.stretch Punctuators.punctuators Words.keywords Words.cast_words Words.is_word_at Comments.ends_comment Comments.ends_block Comments.open_tag_len Comments.begins_tag Comments.begins_echo Numbers.int_key Templates.is_label_line Templates.closing_len Templates.scalar_escape Templates.ends Templates.begins_part
four_bases = refl

greatest_int : tokens (codes "<?php 9223372036854775807") ≡ Ok (int (pos 9223372036854775807) 1 ∷ [])
unfolding tokens Pieces.outside_piece Pieces.script_piece Pieces.block_comment Pieces.variable Pieces.raw Pieces.quoted Pieces.nowdoc Pieces.heredoc_piece Pieces.labelled_piece Pieces.sign Pieces.part_piece Pieces.template_piece Pieces.subject_piece Pieces.member_piece Pieces.key_piece Pieces.key_end_piece Pieces.name_piece Pieces.name_end_piece Pieces.brace_end_piece Words.word Words.yield_from_len Words.word_kind Words.cast Numbers.number Numbers.key_len Punctuators.punctuator Heredocs.opening Templates.escape Templates.stretch Punctuators.punctuators Words.keywords Words.cast_words Words.is_word_at Comments.ends_comment Comments.ends_block Comments.open_tag_len Comments.begins_tag Comments.begins_echo Numbers.int_key Templates.is_label_line Templates.closing_len Templates.scalar_escape Templates.ends Templates.begins_part
greatest_int = refl

greatest_int_passed : tokens (codes "<?php 9223372036854775808") ≡ Err (Fail.IntTooLarge 1)
unfolding tokens Pieces.outside_piece Pieces.script_piece Pieces.block_comment Pieces.variable Pieces.raw Pieces.quoted Pieces.nowdoc Pieces.heredoc_piece Pieces.labelled_piece Pieces.sign Pieces.part_piece Pieces.template_piece Pieces.subject_piece Pieces.member_piece Pieces.key_piece Pieces.key_end_piece Pieces.name_piece Pieces.name_end_piece Pieces.brace_end_piece Words.word Words.yield_from_len Words.word_kind Words.cast Numbers.number Numbers.key_len Punctuators.punctuator Heredocs.opening Templates.escape Templates.stretch Punctuators.punctuators Words.keywords Words.cast_words Words.is_word_at Comments.ends_comment Comments.ends_block Comments.open_tag_len Comments.begins_tag Comments.begins_echo Numbers.int_key Templates.is_label_line Templates.closing_len Templates.scalar_escape Templates.ends Templates.begins_part
greatest_int_passed = refl

hexadecimal_passed : tokens (codes "<?php 0x8000000000000000") ≡ Err (Fail.IntTooLarge 1)
unfolding tokens Pieces.outside_piece Pieces.script_piece Pieces.block_comment Pieces.variable Pieces.raw Pieces.quoted Pieces.nowdoc Pieces.heredoc_piece Pieces.labelled_piece Pieces.sign Pieces.part_piece Pieces.template_piece Pieces.subject_piece Pieces.member_piece Pieces.key_piece Pieces.key_end_piece Pieces.name_piece Pieces.name_end_piece Pieces.brace_end_piece Words.word Words.yield_from_len Words.word_kind Words.cast Numbers.number Numbers.key_len Punctuators.punctuator Heredocs.opening Templates.escape Templates.stretch Punctuators.punctuators Words.keywords Words.cast_words Words.is_word_at Comments.ends_comment Comments.ends_block Comments.open_tag_len Comments.begins_tag Comments.begins_echo Numbers.int_key Templates.is_label_line Templates.closing_len Templates.scalar_escape Templates.ends Templates.begins_part
hexadecimal_passed = refl

octal_digit : tokens (codes "<?php 08") ≡ Err (Fail.BadByte 1)
unfolding tokens Pieces.outside_piece Pieces.script_piece Pieces.block_comment Pieces.variable Pieces.raw Pieces.quoted Pieces.nowdoc Pieces.heredoc_piece Pieces.labelled_piece Pieces.sign Pieces.part_piece Pieces.template_piece Pieces.subject_piece Pieces.member_piece Pieces.key_piece Pieces.key_end_piece Pieces.name_piece Pieces.name_end_piece Pieces.brace_end_piece Words.word Words.yield_from_len Words.word_kind Words.cast Numbers.number Numbers.key_len Punctuators.punctuator Heredocs.opening Templates.escape Templates.stretch Punctuators.punctuators Words.keywords Words.cast_words Words.is_word_at Comments.ends_comment Comments.ends_block Comments.open_tag_len Comments.begins_tag Comments.begins_echo Numbers.int_key Templates.is_label_line Templates.closing_len Templates.scalar_escape Templates.ends Templates.begins_part
octal_digit = refl

float_point : tokens (codes "<?php 1.5") ≡ Err (Fail.FloatLiteral 1)
unfolding tokens Pieces.outside_piece Pieces.script_piece Pieces.block_comment Pieces.variable Pieces.raw Pieces.quoted Pieces.nowdoc Pieces.heredoc_piece Pieces.labelled_piece Pieces.sign Pieces.part_piece Pieces.template_piece Pieces.subject_piece Pieces.member_piece Pieces.key_piece Pieces.key_end_piece Pieces.name_piece Pieces.name_end_piece Pieces.brace_end_piece Words.word Words.yield_from_len Words.word_kind Words.cast Numbers.number Numbers.key_len Punctuators.punctuator Heredocs.opening Templates.escape Templates.stretch Punctuators.punctuators Words.keywords Words.cast_words Words.is_word_at Comments.ends_comment Comments.ends_block Comments.open_tag_len Comments.begins_tag Comments.begins_echo Numbers.int_key Templates.is_label_line Templates.closing_len Templates.scalar_escape Templates.ends Templates.begins_part
float_point = refl

-- also before further points
float_point_alone : tokens (codes "<?php 1...$a") ≡ Err (Fail.FloatLiteral 1)
unfolding tokens Pieces.outside_piece Pieces.script_piece Pieces.block_comment Pieces.variable Pieces.raw Pieces.quoted Pieces.nowdoc Pieces.heredoc_piece Pieces.labelled_piece Pieces.sign Pieces.part_piece Pieces.template_piece Pieces.subject_piece Pieces.member_piece Pieces.key_piece Pieces.key_end_piece Pieces.name_piece Pieces.name_end_piece Pieces.brace_end_piece Words.word Words.yield_from_len Words.word_kind Words.cast Numbers.number Numbers.key_len Punctuators.punctuator Heredocs.opening Templates.escape Templates.stretch Punctuators.punctuators Words.keywords Words.cast_words Words.is_word_at Comments.ends_comment Comments.ends_block Comments.open_tag_len Comments.begins_tag Comments.begins_echo Numbers.int_key Templates.is_label_line Templates.closing_len Templates.scalar_escape Templates.ends Templates.begins_part
float_point_alone = refl

float_octal : tokens (codes "<?php 09.5") ≡ Err (Fail.FloatLiteral 1)
unfolding tokens Pieces.outside_piece Pieces.script_piece Pieces.block_comment Pieces.variable Pieces.raw Pieces.quoted Pieces.nowdoc Pieces.heredoc_piece Pieces.labelled_piece Pieces.sign Pieces.part_piece Pieces.template_piece Pieces.subject_piece Pieces.member_piece Pieces.key_piece Pieces.key_end_piece Pieces.name_piece Pieces.name_end_piece Pieces.brace_end_piece Words.word Words.yield_from_len Words.word_kind Words.cast Numbers.number Numbers.key_len Punctuators.punctuator Heredocs.opening Templates.escape Templates.stretch Punctuators.punctuators Words.keywords Words.cast_words Words.is_word_at Comments.ends_comment Comments.ends_block Comments.open_tag_len Comments.begins_tag Comments.begins_echo Numbers.int_key Templates.is_label_line Templates.closing_len Templates.scalar_escape Templates.ends Templates.begins_part
float_octal = refl

float_leading_point : tokens (codes "<?php .5") ≡ Err (Fail.FloatLiteral 1)
unfolding tokens Pieces.outside_piece Pieces.script_piece Pieces.block_comment Pieces.variable Pieces.raw Pieces.quoted Pieces.nowdoc Pieces.heredoc_piece Pieces.labelled_piece Pieces.sign Pieces.part_piece Pieces.template_piece Pieces.subject_piece Pieces.member_piece Pieces.key_piece Pieces.key_end_piece Pieces.name_piece Pieces.name_end_piece Pieces.brace_end_piece Words.word Words.yield_from_len Words.word_kind Words.cast Numbers.number Numbers.key_len Punctuators.punctuator Heredocs.opening Templates.escape Templates.stretch Punctuators.punctuators Words.keywords Words.cast_words Words.is_word_at Comments.ends_comment Comments.ends_block Comments.open_tag_len Comments.begins_tag Comments.begins_echo Numbers.int_key Templates.is_label_line Templates.closing_len Templates.scalar_escape Templates.ends Templates.begins_part
float_leading_point = refl

float_exponent : tokens (codes "<?php 1E+2") ≡ Err (Fail.FloatLiteral 1)
unfolding tokens Pieces.outside_piece Pieces.script_piece Pieces.block_comment Pieces.variable Pieces.raw Pieces.quoted Pieces.nowdoc Pieces.heredoc_piece Pieces.labelled_piece Pieces.sign Pieces.part_piece Pieces.template_piece Pieces.subject_piece Pieces.member_piece Pieces.key_piece Pieces.key_end_piece Pieces.name_piece Pieces.name_end_piece Pieces.brace_end_piece Words.word Words.yield_from_len Words.word_kind Words.cast Numbers.number Numbers.key_len Punctuators.punctuator Heredocs.opening Templates.escape Templates.stretch Punctuators.punctuators Words.keywords Words.cast_words Words.is_word_at Comments.ends_comment Comments.ends_block Comments.open_tag_len Comments.begins_tag Comments.begins_echo Numbers.int_key Templates.is_label_line Templates.closing_len Templates.scalar_escape Templates.ends Templates.begins_part
float_exponent = refl

float_before_too_large : tokens (codes "<?php 99999999999999999999.0") ≡ Err (Fail.FloatLiteral 1)
unfolding tokens Pieces.outside_piece Pieces.script_piece Pieces.block_comment Pieces.variable Pieces.raw Pieces.quoted Pieces.nowdoc Pieces.heredoc_piece Pieces.labelled_piece Pieces.sign Pieces.part_piece Pieces.template_piece Pieces.subject_piece Pieces.member_piece Pieces.key_piece Pieces.key_end_piece Pieces.name_piece Pieces.name_end_piece Pieces.brace_end_piece Words.word Words.yield_from_len Words.word_kind Words.cast Numbers.number Numbers.key_len Punctuators.punctuator Heredocs.opening Templates.escape Templates.stretch Punctuators.punctuators Words.keywords Words.cast_words Words.is_word_at Comments.ends_comment Comments.ends_block Comments.open_tag_len Comments.begins_tag Comments.begins_echo Numbers.int_key Templates.is_label_line Templates.closing_len Templates.scalar_escape Templates.ends Templates.begins_part
float_before_too_large = refl

no_exponent : tokens (codes "<?php 1e") ≡ Ok (int (pos 1) 1 ∷ token Kind.Name (codes "e") 1 ∷ [])
unfolding tokens Pieces.outside_piece Pieces.script_piece Pieces.block_comment Pieces.variable Pieces.raw Pieces.quoted Pieces.nowdoc Pieces.heredoc_piece Pieces.labelled_piece Pieces.sign Pieces.part_piece Pieces.template_piece Pieces.subject_piece Pieces.member_piece Pieces.key_piece Pieces.key_end_piece Pieces.name_piece Pieces.name_end_piece Pieces.brace_end_piece Words.word Words.yield_from_len Words.word_kind Words.cast Numbers.number Numbers.key_len Punctuators.punctuator Heredocs.opening Templates.escape Templates.stretch Punctuators.punctuators Words.keywords Words.cast_words Words.is_word_at Comments.ends_comment Comments.ends_block Comments.open_tag_len Comments.begins_tag Comments.begins_echo Numbers.int_key Templates.is_label_line Templates.closing_len Templates.scalar_escape Templates.ends Templates.begins_part
no_exponent = refl

no_hexadecimal : tokens (codes "<?php 0x") ≡ Ok (int (pos 0) 1 ∷ token Kind.Name (codes "x") 1 ∷ [])
unfolding tokens Pieces.outside_piece Pieces.script_piece Pieces.block_comment Pieces.variable Pieces.raw Pieces.quoted Pieces.nowdoc Pieces.heredoc_piece Pieces.labelled_piece Pieces.sign Pieces.part_piece Pieces.template_piece Pieces.subject_piece Pieces.member_piece Pieces.key_piece Pieces.key_end_piece Pieces.name_piece Pieces.name_end_piece Pieces.brace_end_piece Words.word Words.yield_from_len Words.word_kind Words.cast Numbers.number Numbers.key_len Punctuators.punctuator Heredocs.opening Templates.escape Templates.stretch Punctuators.punctuators Words.keywords Words.cast_words Words.is_word_at Comments.ends_comment Comments.ends_block Comments.open_tag_len Comments.begins_tag Comments.begins_echo Numbers.int_key Templates.is_label_line Templates.closing_len Templates.scalar_escape Templates.ends Templates.begins_part
no_hexadecimal = refl

longest_signs : tokens (codes "<?php ===!==<=>**=...->=>") ≡ Ok (sign Punct.Identical (codes "===") 1 ∷ sign Punct.NotIdentical (codes "!==") 1 ∷ sign Punct.Spaceship (codes "<=>") 1 ∷ sign Punct.PowerAssign (codes "**=") 1 ∷ sign Punct.Ellipsis (codes "...") 1 ∷ sign Punct.Arrow (codes "->") 1 ∷ sign Punct.DoubleArrow (codes "=>") 1 ∷ [])
unfolding tokens Pieces.outside_piece Pieces.script_piece Pieces.block_comment Pieces.variable Pieces.raw Pieces.quoted Pieces.nowdoc Pieces.heredoc_piece Pieces.labelled_piece Pieces.sign Pieces.part_piece Pieces.template_piece Pieces.subject_piece Pieces.member_piece Pieces.key_piece Pieces.key_end_piece Pieces.name_piece Pieces.name_end_piece Pieces.brace_end_piece Words.word Words.yield_from_len Words.word_kind Words.cast Numbers.number Numbers.key_len Punctuators.punctuator Heredocs.opening Templates.escape Templates.stretch Punctuators.punctuators Words.keywords Words.cast_words Words.is_word_at Comments.ends_comment Comments.ends_block Comments.open_tag_len Comments.begins_tag Comments.begins_echo Numbers.int_key Templates.is_label_line Templates.closing_len Templates.scalar_escape Templates.ends Templates.begins_part
longest_signs = refl

two_points : tokens (codes "<?php $a..$b") ≡ Ok (token Kind.Variable (codes "a") 1 ∷ sign Punct.Dot (codes ".") 1 ∷ sign Punct.Dot (codes ".") 1 ∷ token Kind.Variable (codes "b") 1 ∷ [])
unfolding tokens Pieces.outside_piece Pieces.script_piece Pieces.block_comment Pieces.variable Pieces.raw Pieces.quoted Pieces.nowdoc Pieces.heredoc_piece Pieces.labelled_piece Pieces.sign Pieces.part_piece Pieces.template_piece Pieces.subject_piece Pieces.member_piece Pieces.key_piece Pieces.key_end_piece Pieces.name_piece Pieces.name_end_piece Pieces.brace_end_piece Words.word Words.yield_from_len Words.word_kind Words.cast Numbers.number Numbers.key_len Punctuators.punctuator Heredocs.opening Templates.escape Templates.stretch Punctuators.punctuators Words.keywords Words.cast_words Words.is_word_at Comments.ends_comment Comments.ends_block Comments.open_tag_len Comments.begins_tag Comments.begins_echo Numbers.int_key Templates.is_label_line Templates.closing_len Templates.scalar_escape Templates.ends Templates.begins_part
two_points = refl

not_equal_twice : tokens (codes "<?php <>!=") ≡ Ok (sign Punct.LessGreater (codes "<>") 1 ∷ sign Punct.NotEqual (codes "!=") 1 ∷ [])
unfolding tokens Pieces.outside_piece Pieces.script_piece Pieces.block_comment Pieces.variable Pieces.raw Pieces.quoted Pieces.nowdoc Pieces.heredoc_piece Pieces.labelled_piece Pieces.sign Pieces.part_piece Pieces.template_piece Pieces.subject_piece Pieces.member_piece Pieces.key_piece Pieces.key_end_piece Pieces.name_piece Pieces.name_end_piece Pieces.brace_end_piece Words.word Words.yield_from_len Words.word_kind Words.cast Numbers.number Numbers.key_len Punctuators.punctuator Heredocs.opening Templates.escape Templates.stretch Punctuators.punctuators Words.keywords Words.cast_words Words.is_word_at Comments.ends_comment Comments.ends_block Comments.open_tag_len Comments.begins_tag Comments.begins_echo Numbers.int_key Templates.is_label_line Templates.closing_len Templates.scalar_escape Templates.ends Templates.begins_part
not_equal_twice = refl

casts : tokens (codes "<?php ( Int" ++ (9 ∷ []) ++ codes ")(ARRAY)(float)(int8)") ≡ Ok (token (Kind.Cast Cast.Int) (codes "( Int" ++ (9 ∷ []) ++ codes ")") 1 ∷ token (Kind.Cast Cast.Arr) (codes "(ARRAY)") 1 ∷ token (Kind.Cast Cast.Other) (codes "(float)") 1 ∷ sign Punct.LeftParen (codes "(") 1 ∷ token Kind.Name (codes "int8") 1 ∷ sign Punct.RightParen (codes ")") 1 ∷ [])
unfolding tokens Pieces.outside_piece Pieces.script_piece Pieces.block_comment Pieces.variable Pieces.raw Pieces.quoted Pieces.nowdoc Pieces.heredoc_piece Pieces.labelled_piece Pieces.sign Pieces.part_piece Pieces.template_piece Pieces.subject_piece Pieces.member_piece Pieces.key_piece Pieces.key_end_piece Pieces.name_piece Pieces.name_end_piece Pieces.brace_end_piece Words.word Words.yield_from_len Words.word_kind Words.cast Numbers.number Numbers.key_len Punctuators.punctuator Heredocs.opening Templates.escape Templates.stretch Punctuators.punctuators Words.keywords Words.cast_words Words.is_word_at Comments.ends_comment Comments.ends_block Comments.open_tag_len Comments.begins_tag Comments.begins_echo Numbers.int_key Templates.is_label_line Templates.closing_len Templates.scalar_escape Templates.ends Templates.begins_part
casts = refl

other_bytes : tokens (codes "<?php `") ≡ Err (Fail.BadByte 1)
unfolding tokens Pieces.outside_piece Pieces.script_piece Pieces.block_comment Pieces.variable Pieces.raw Pieces.quoted Pieces.nowdoc Pieces.heredoc_piece Pieces.labelled_piece Pieces.sign Pieces.part_piece Pieces.template_piece Pieces.subject_piece Pieces.member_piece Pieces.key_piece Pieces.key_end_piece Pieces.name_piece Pieces.name_end_piece Pieces.brace_end_piece Words.word Words.yield_from_len Words.word_kind Words.cast Numbers.number Numbers.key_len Punctuators.punctuator Heredocs.opening Templates.escape Templates.stretch Punctuators.punctuators Words.keywords Words.cast_words Words.is_word_at Comments.ends_comment Comments.ends_block Comments.open_tag_len Comments.begins_tag Comments.begins_echo Numbers.int_key Templates.is_label_line Templates.closing_len Templates.scalar_escape Templates.ends Templates.begins_part
other_bytes = refl

single_quotes : tokens (codes "<?php 'it\\'s\\\\n\\n'") ≡ Ok (token Kind.Str (codes "it's\\n\\n") 1 ∷ [])
unfolding tokens Pieces.outside_piece Pieces.script_piece Pieces.block_comment Pieces.variable Pieces.raw Pieces.quoted Pieces.nowdoc Pieces.heredoc_piece Pieces.labelled_piece Pieces.sign Pieces.part_piece Pieces.template_piece Pieces.subject_piece Pieces.member_piece Pieces.key_piece Pieces.key_end_piece Pieces.name_piece Pieces.name_end_piece Pieces.brace_end_piece Words.word Words.yield_from_len Words.word_kind Words.cast Numbers.number Numbers.key_len Punctuators.punctuator Heredocs.opening Templates.escape Templates.stretch Punctuators.punctuators Words.keywords Words.cast_words Words.is_word_at Comments.ends_comment Comments.ends_block Comments.open_tag_len Comments.begins_tag Comments.begins_echo Numbers.int_key Templates.is_label_line Templates.closing_len Templates.scalar_escape Templates.ends Templates.begins_part
single_quotes = refl

single_quotes_unclosed : tokens (codes "<?php " ++ (10 ∷ []) ++ codes "'a\\'" ++ (10 ∷ [])) ≡ Err (Fail.Unclosed 2)
unfolding tokens Pieces.outside_piece Pieces.script_piece Pieces.block_comment Pieces.variable Pieces.raw Pieces.quoted Pieces.nowdoc Pieces.heredoc_piece Pieces.labelled_piece Pieces.sign Pieces.part_piece Pieces.template_piece Pieces.subject_piece Pieces.member_piece Pieces.key_piece Pieces.key_end_piece Pieces.name_piece Pieces.name_end_piece Pieces.brace_end_piece Words.word Words.yield_from_len Words.word_kind Words.cast Numbers.number Numbers.key_len Punctuators.punctuator Heredocs.opening Templates.escape Templates.stretch Punctuators.punctuators Words.keywords Words.cast_words Words.is_word_at Comments.ends_comment Comments.ends_block Comments.open_tag_len Comments.begins_tag Comments.begins_echo Numbers.int_key Templates.is_label_line Templates.closing_len Templates.scalar_escape Templates.ends Templates.begins_part
single_quotes_unclosed = refl

double_quotes_escapes : tokens (codes "<?php \"\\n\\t\\r\\v\\e\\f\\\\\\$\\\"\"") ≡ Ok (token Kind.Str (10 ∷ 9 ∷ 13 ∷ 11 ∷ 27 ∷ 12 ∷ 92 ∷ 36 ∷ 34 ∷ []) 1 ∷ [])
unfolding tokens Pieces.outside_piece Pieces.script_piece Pieces.block_comment Pieces.variable Pieces.raw Pieces.quoted Pieces.nowdoc Pieces.heredoc_piece Pieces.labelled_piece Pieces.sign Pieces.part_piece Pieces.template_piece Pieces.subject_piece Pieces.member_piece Pieces.key_piece Pieces.key_end_piece Pieces.name_piece Pieces.name_end_piece Pieces.brace_end_piece Words.word Words.yield_from_len Words.word_kind Words.cast Numbers.number Numbers.key_len Punctuators.punctuator Heredocs.opening Templates.escape Templates.stretch Punctuators.punctuators Words.keywords Words.cast_words Words.is_word_at Comments.ends_comment Comments.ends_block Comments.open_tag_len Comments.begins_tag Comments.begins_echo Numbers.int_key Templates.is_label_line Templates.closing_len Templates.scalar_escape Templates.ends Templates.begins_part
double_quotes_escapes = refl

-- the low eight bits
octal_escapes : tokens (codes "<?php \"\\7\\101\\4011\"") ≡ Ok (token Kind.Str (7 ∷ 65 ∷ 1 ∷ 49 ∷ []) 1 ∷ [])
unfolding tokens Pieces.outside_piece Pieces.script_piece Pieces.block_comment Pieces.variable Pieces.raw Pieces.quoted Pieces.nowdoc Pieces.heredoc_piece Pieces.labelled_piece Pieces.sign Pieces.part_piece Pieces.template_piece Pieces.subject_piece Pieces.member_piece Pieces.key_piece Pieces.key_end_piece Pieces.name_piece Pieces.name_end_piece Pieces.brace_end_piece Words.word Words.yield_from_len Words.word_kind Words.cast Numbers.number Numbers.key_len Punctuators.punctuator Heredocs.opening Templates.escape Templates.stretch Punctuators.punctuators Words.keywords Words.cast_words Words.is_word_at Comments.ends_comment Comments.ends_block Comments.open_tag_len Comments.begins_tag Comments.begins_echo Numbers.int_key Templates.is_label_line Templates.closing_len Templates.scalar_escape Templates.ends Templates.begins_part
octal_escapes = refl

hexadecimal_escapes : tokens (codes "<?php \"\\x41\\X4g\\xg\"") ≡ Ok (token Kind.Str (65 ∷ 4 ∷ 103 ∷ 92 ∷ 120 ∷ 103 ∷ []) 1 ∷ [])
unfolding tokens Pieces.outside_piece Pieces.script_piece Pieces.block_comment Pieces.variable Pieces.raw Pieces.quoted Pieces.nowdoc Pieces.heredoc_piece Pieces.labelled_piece Pieces.sign Pieces.part_piece Pieces.template_piece Pieces.subject_piece Pieces.member_piece Pieces.key_piece Pieces.key_end_piece Pieces.name_piece Pieces.name_end_piece Pieces.brace_end_piece Words.word Words.yield_from_len Words.word_kind Words.cast Numbers.number Numbers.key_len Punctuators.punctuator Heredocs.opening Templates.escape Templates.stretch Punctuators.punctuators Words.keywords Words.cast_words Words.is_word_at Comments.ends_comment Comments.ends_block Comments.open_tag_len Comments.begins_tag Comments.begins_echo Numbers.int_key Templates.is_label_line Templates.closing_len Templates.scalar_escape Templates.ends Templates.begins_part
hexadecimal_escapes = refl

scalar_escapes : tokens (codes "<?php \"\\u{e9}\\u{D800}\\u{10FFFF}\"") ≡ Ok (token Kind.Str (195 ∷ 169 ∷ 237 ∷ 160 ∷ 128 ∷ 244 ∷ 143 ∷ 191 ∷ 191 ∷ []) 1 ∷ [])
unfolding tokens Pieces.outside_piece Pieces.script_piece Pieces.block_comment Pieces.variable Pieces.raw Pieces.quoted Pieces.nowdoc Pieces.heredoc_piece Pieces.labelled_piece Pieces.sign Pieces.part_piece Pieces.template_piece Pieces.subject_piece Pieces.member_piece Pieces.key_piece Pieces.key_end_piece Pieces.name_piece Pieces.name_end_piece Pieces.brace_end_piece Words.word Words.yield_from_len Words.word_kind Words.cast Numbers.number Numbers.key_len Punctuators.punctuator Heredocs.opening Templates.escape Templates.stretch Punctuators.punctuators Words.keywords Words.cast_words Words.is_word_at Comments.ends_comment Comments.ends_block Comments.open_tag_len Comments.begins_tag Comments.begins_echo Numbers.int_key Templates.is_label_line Templates.closing_len Templates.scalar_escape Templates.ends Templates.begins_part
scalar_escapes = refl

scalar_too_large : tokens (codes "<?php \"\\u{110000}\"") ≡ Err (Fail.BadEscape 1)
unfolding tokens Pieces.outside_piece Pieces.script_piece Pieces.block_comment Pieces.variable Pieces.raw Pieces.quoted Pieces.nowdoc Pieces.heredoc_piece Pieces.labelled_piece Pieces.sign Pieces.part_piece Pieces.template_piece Pieces.subject_piece Pieces.member_piece Pieces.key_piece Pieces.key_end_piece Pieces.name_piece Pieces.name_end_piece Pieces.brace_end_piece Words.word Words.yield_from_len Words.word_kind Words.cast Numbers.number Numbers.key_len Punctuators.punctuator Heredocs.opening Templates.escape Templates.stretch Punctuators.punctuators Words.keywords Words.cast_words Words.is_word_at Comments.ends_comment Comments.ends_block Comments.open_tag_len Comments.begins_tag Comments.begins_echo Numbers.int_key Templates.is_label_line Templates.closing_len Templates.scalar_escape Templates.ends Templates.begins_part
scalar_too_large = refl

scalar_empty : tokens (codes "<?php \"\\u{}\"") ≡ Err (Fail.BadEscape 1)
unfolding tokens Pieces.outside_piece Pieces.script_piece Pieces.block_comment Pieces.variable Pieces.raw Pieces.quoted Pieces.nowdoc Pieces.heredoc_piece Pieces.labelled_piece Pieces.sign Pieces.part_piece Pieces.template_piece Pieces.subject_piece Pieces.member_piece Pieces.key_piece Pieces.key_end_piece Pieces.name_piece Pieces.name_end_piece Pieces.brace_end_piece Words.word Words.yield_from_len Words.word_kind Words.cast Numbers.number Numbers.key_len Punctuators.punctuator Heredocs.opening Templates.escape Templates.stretch Punctuators.punctuators Words.keywords Words.cast_words Words.is_word_at Comments.ends_comment Comments.ends_block Comments.open_tag_len Comments.begins_tag Comments.begins_echo Numbers.int_key Templates.is_label_line Templates.closing_len Templates.scalar_escape Templates.ends Templates.begins_part
scalar_empty = refl

scalar_cut : tokens (codes "<?php " ++ (10 ∷ []) ++ codes "\"a\\u{41") ≡ Err (Fail.Unclosed 2)
unfolding tokens Pieces.outside_piece Pieces.script_piece Pieces.block_comment Pieces.variable Pieces.raw Pieces.quoted Pieces.nowdoc Pieces.heredoc_piece Pieces.labelled_piece Pieces.sign Pieces.part_piece Pieces.template_piece Pieces.subject_piece Pieces.member_piece Pieces.key_piece Pieces.key_end_piece Pieces.name_piece Pieces.name_end_piece Pieces.brace_end_piece Words.word Words.yield_from_len Words.word_kind Words.cast Numbers.number Numbers.key_len Punctuators.punctuator Heredocs.opening Templates.escape Templates.stretch Punctuators.punctuators Words.keywords Words.cast_words Words.is_word_at Comments.ends_comment Comments.ends_block Comments.open_tag_len Comments.begins_tag Comments.begins_echo Numbers.int_key Templates.is_label_line Templates.closing_len Templates.scalar_escape Templates.ends Templates.begins_part
scalar_cut = refl

other_escapes_stay : tokens (codes "<?php \"\\q\\u\"") ≡ Ok (token Kind.Str (codes "\\q\\u") 1 ∷ [])
unfolding tokens Pieces.outside_piece Pieces.script_piece Pieces.block_comment Pieces.variable Pieces.raw Pieces.quoted Pieces.nowdoc Pieces.heredoc_piece Pieces.labelled_piece Pieces.sign Pieces.part_piece Pieces.template_piece Pieces.subject_piece Pieces.member_piece Pieces.key_piece Pieces.key_end_piece Pieces.name_piece Pieces.name_end_piece Pieces.brace_end_piece Words.word Words.yield_from_len Words.word_kind Words.cast Numbers.number Numbers.key_len Punctuators.punctuator Heredocs.opening Templates.escape Templates.stretch Punctuators.punctuators Words.keywords Words.cast_words Words.is_word_at Comments.ends_comment Comments.ends_block Comments.open_tag_len Comments.begins_tag Comments.begins_echo Numbers.int_key Templates.is_label_line Templates.closing_len Templates.scalar_escape Templates.ends Templates.begins_part
other_escapes_stay = refl

double_quotes_unclosed : tokens (codes "<?php " ++ (10 ∷ []) ++ codes "\"a" ++ (10 ∷ [])) ≡ Err (Fail.Unclosed 2)
unfolding tokens Pieces.outside_piece Pieces.script_piece Pieces.block_comment Pieces.variable Pieces.raw Pieces.quoted Pieces.nowdoc Pieces.heredoc_piece Pieces.labelled_piece Pieces.sign Pieces.part_piece Pieces.template_piece Pieces.subject_piece Pieces.member_piece Pieces.key_piece Pieces.key_end_piece Pieces.name_piece Pieces.name_end_piece Pieces.brace_end_piece Words.word Words.yield_from_len Words.word_kind Words.cast Numbers.number Numbers.key_len Punctuators.punctuator Heredocs.opening Templates.escape Templates.stretch Punctuators.punctuators Words.keywords Words.cast_words Words.is_word_at Comments.ends_comment Comments.ends_block Comments.open_tag_len Comments.begins_tag Comments.begins_echo Numbers.int_key Templates.is_label_line Templates.closing_len Templates.scalar_escape Templates.ends Templates.begins_part
double_quotes_unclosed = refl

dollar_stays : tokens (codes "<?php \"$1{a$\"") ≡ Ok (token Kind.Str (codes "$1{a$") 1 ∷ [])
unfolding tokens Pieces.outside_piece Pieces.script_piece Pieces.block_comment Pieces.variable Pieces.raw Pieces.quoted Pieces.nowdoc Pieces.heredoc_piece Pieces.labelled_piece Pieces.sign Pieces.part_piece Pieces.template_piece Pieces.subject_piece Pieces.member_piece Pieces.key_piece Pieces.key_end_piece Pieces.name_piece Pieces.name_end_piece Pieces.brace_end_piece Words.word Words.yield_from_len Words.word_kind Words.cast Numbers.number Numbers.key_len Punctuators.punctuator Heredocs.opening Templates.escape Templates.stretch Punctuators.punctuators Words.keywords Words.cast_words Words.is_word_at Comments.ends_comment Comments.ends_block Comments.open_tag_len Comments.begins_tag Comments.begins_echo Numbers.int_key Templates.is_label_line Templates.closing_len Templates.scalar_escape Templates.ends Templates.begins_part
dollar_stays = refl

simple_part : tokens (codes "<?php \"a$x b\"") ≡ Ok (bare Kind.Quote 1 ∷ token Kind.Piece (codes "a") 1 ∷ bare Kind.Part 1 ∷ token Kind.Variable (codes "x") 1 ∷ bare Kind.EndPart 1 ∷ token Kind.Piece (codes " b") 1 ∷ bare Kind.Unquote 1 ∷ [])
unfolding tokens Pieces.outside_piece Pieces.script_piece Pieces.block_comment Pieces.variable Pieces.raw Pieces.quoted Pieces.nowdoc Pieces.heredoc_piece Pieces.labelled_piece Pieces.sign Pieces.part_piece Pieces.template_piece Pieces.subject_piece Pieces.member_piece Pieces.key_piece Pieces.key_end_piece Pieces.name_piece Pieces.name_end_piece Pieces.brace_end_piece Words.word Words.yield_from_len Words.word_kind Words.cast Numbers.number Numbers.key_len Punctuators.punctuator Heredocs.opening Templates.escape Templates.stretch Punctuators.punctuators Words.keywords Words.cast_words Words.is_word_at Comments.ends_comment Comments.ends_block Comments.open_tag_len Comments.begins_tag Comments.begins_echo Numbers.int_key Templates.is_label_line Templates.closing_len Templates.scalar_escape Templates.ends Templates.begins_part
simple_part = refl

-- after `->` a keyword is its token
part_property : tokens (codes "<?php \"$x->class->y\"") ≡ Ok (bare Kind.Quote 1 ∷ bare Kind.Part 1 ∷ token Kind.Variable (codes "x") 1 ∷ sign Punct.Arrow (codes "->") 1 ∷ keyword Keyword.Class (codes "class") 1 ∷ bare Kind.EndPart 1 ∷ token Kind.Piece (codes "->y") 1 ∷ bare Kind.Unquote 1 ∷ [])
unfolding tokens Pieces.outside_piece Pieces.script_piece Pieces.block_comment Pieces.variable Pieces.raw Pieces.quoted Pieces.nowdoc Pieces.heredoc_piece Pieces.labelled_piece Pieces.sign Pieces.part_piece Pieces.template_piece Pieces.subject_piece Pieces.member_piece Pieces.key_piece Pieces.key_end_piece Pieces.name_piece Pieces.name_end_piece Pieces.brace_end_piece Words.word Words.yield_from_len Words.word_kind Words.cast Numbers.number Numbers.key_len Punctuators.punctuator Heredocs.opening Templates.escape Templates.stretch Punctuators.punctuators Words.keywords Words.cast_words Words.is_word_at Comments.ends_comment Comments.ends_block Comments.open_tag_len Comments.begins_tag Comments.begins_echo Numbers.int_key Templates.is_label_line Templates.closing_len Templates.scalar_escape Templates.ends Templates.begins_part
part_property = refl

part_no_property : tokens (codes "<?php \"$x->1\"") ≡ Ok (bare Kind.Quote 1 ∷ bare Kind.Part 1 ∷ token Kind.Variable (codes "x") 1 ∷ bare Kind.EndPart 1 ∷ token Kind.Piece (codes "->1") 1 ∷ bare Kind.Unquote 1 ∷ [])
unfolding tokens Pieces.outside_piece Pieces.script_piece Pieces.block_comment Pieces.variable Pieces.raw Pieces.quoted Pieces.nowdoc Pieces.heredoc_piece Pieces.labelled_piece Pieces.sign Pieces.part_piece Pieces.template_piece Pieces.subject_piece Pieces.member_piece Pieces.key_piece Pieces.key_end_piece Pieces.name_piece Pieces.name_end_piece Pieces.brace_end_piece Words.word Words.yield_from_len Words.word_kind Words.cast Numbers.number Numbers.key_len Punctuators.punctuator Heredocs.opening Templates.escape Templates.stretch Punctuators.punctuators Words.keywords Words.cast_words Words.is_word_at Comments.ends_comment Comments.ends_block Comments.open_tag_len Comments.begins_tag Comments.begins_echo Numbers.int_key Templates.is_label_line Templates.closing_len Templates.scalar_escape Templates.ends Templates.begins_part
part_no_property = refl

key_name : tokens (codes "<?php \"$x[list]\"") ≡ Ok (bare Kind.Quote 1 ∷ bare Kind.Part 1 ∷ token Kind.Variable (codes "x") 1 ∷ sign Punct.LeftBracket (codes "[") 1 ∷ token Kind.Str (codes "list") 1 ∷ sign Punct.RightBracket (codes "]") 1 ∷ bare Kind.EndPart 1 ∷ bare Kind.Unquote 1 ∷ [])
unfolding tokens Pieces.outside_piece Pieces.script_piece Pieces.block_comment Pieces.variable Pieces.raw Pieces.quoted Pieces.nowdoc Pieces.heredoc_piece Pieces.labelled_piece Pieces.sign Pieces.part_piece Pieces.template_piece Pieces.subject_piece Pieces.member_piece Pieces.key_piece Pieces.key_end_piece Pieces.name_piece Pieces.name_end_piece Pieces.brace_end_piece Words.word Words.yield_from_len Words.word_kind Words.cast Numbers.number Numbers.key_len Punctuators.punctuator Heredocs.opening Templates.escape Templates.stretch Punctuators.punctuators Words.keywords Words.cast_words Words.is_word_at Comments.ends_comment Comments.ends_block Comments.open_tag_len Comments.begins_tag Comments.begins_echo Numbers.int_key Templates.is_label_line Templates.closing_len Templates.scalar_escape Templates.ends Templates.begins_part
key_name = refl

key_variable : tokens (codes "<?php \"$x[$k]\"") ≡ Ok (bare Kind.Quote 1 ∷ bare Kind.Part 1 ∷ token Kind.Variable (codes "x") 1 ∷ sign Punct.LeftBracket (codes "[") 1 ∷ token Kind.Variable (codes "k") 1 ∷ sign Punct.RightBracket (codes "]") 1 ∷ bare Kind.EndPart 1 ∷ bare Kind.Unquote 1 ∷ [])
unfolding tokens Pieces.outside_piece Pieces.script_piece Pieces.block_comment Pieces.variable Pieces.raw Pieces.quoted Pieces.nowdoc Pieces.heredoc_piece Pieces.labelled_piece Pieces.sign Pieces.part_piece Pieces.template_piece Pieces.subject_piece Pieces.member_piece Pieces.key_piece Pieces.key_end_piece Pieces.name_piece Pieces.name_end_piece Pieces.brace_end_piece Words.word Words.yield_from_len Words.word_kind Words.cast Numbers.number Numbers.key_len Punctuators.punctuator Heredocs.opening Templates.escape Templates.stretch Punctuators.punctuators Words.keywords Words.cast_words Words.is_word_at Comments.ends_comment Comments.ends_block Comments.open_tag_len Comments.begins_tag Comments.begins_echo Numbers.int_key Templates.is_label_line Templates.closing_len Templates.scalar_escape Templates.ends Templates.begins_part
key_variable = refl

key_int : tokens (codes "<?php \"$x[12]\"") ≡ Ok (bare Kind.Quote 1 ∷ bare Kind.Part 1 ∷ token Kind.Variable (codes "x") 1 ∷ sign Punct.LeftBracket (codes "[") 1 ∷ int (pos 12) 1 ∷ sign Punct.RightBracket (codes "]") 1 ∷ bare Kind.EndPart 1 ∷ bare Kind.Unquote 1 ∷ [])
unfolding tokens Pieces.outside_piece Pieces.script_piece Pieces.block_comment Pieces.variable Pieces.raw Pieces.quoted Pieces.nowdoc Pieces.heredoc_piece Pieces.labelled_piece Pieces.sign Pieces.part_piece Pieces.template_piece Pieces.subject_piece Pieces.member_piece Pieces.key_piece Pieces.key_end_piece Pieces.name_piece Pieces.name_end_piece Pieces.brace_end_piece Words.word Words.yield_from_len Words.word_kind Words.cast Numbers.number Numbers.key_len Punctuators.punctuator Heredocs.opening Templates.escape Templates.stretch Punctuators.punctuators Words.keywords Words.cast_words Words.is_word_at Comments.ends_comment Comments.ends_block Comments.open_tag_len Comments.begins_tag Comments.begins_echo Numbers.int_key Templates.is_label_line Templates.closing_len Templates.scalar_escape Templates.ends Templates.begins_part
key_int = refl

key_negative : tokens (codes "<?php \"$x[-12]\"") ≡ Ok (bare Kind.Quote 1 ∷ bare Kind.Part 1 ∷ token Kind.Variable (codes "x") 1 ∷ sign Punct.LeftBracket (codes "[") 1 ∷ int (negsuc 11) 1 ∷ sign Punct.RightBracket (codes "]") 1 ∷ bare Kind.EndPart 1 ∷ bare Kind.Unquote 1 ∷ [])
unfolding tokens Pieces.outside_piece Pieces.script_piece Pieces.block_comment Pieces.variable Pieces.raw Pieces.quoted Pieces.nowdoc Pieces.heredoc_piece Pieces.labelled_piece Pieces.sign Pieces.part_piece Pieces.template_piece Pieces.subject_piece Pieces.member_piece Pieces.key_piece Pieces.key_end_piece Pieces.name_piece Pieces.name_end_piece Pieces.brace_end_piece Words.word Words.yield_from_len Words.word_kind Words.cast Numbers.number Numbers.key_len Punctuators.punctuator Heredocs.opening Templates.escape Templates.stretch Punctuators.punctuators Words.keywords Words.cast_words Words.is_word_at Comments.ends_comment Comments.ends_block Comments.open_tag_len Comments.begins_tag Comments.begins_echo Numbers.int_key Templates.is_label_line Templates.closing_len Templates.scalar_escape Templates.ends Templates.begins_part
key_negative = refl

key_zero : tokens (codes "<?php \"$x[0]\"") ≡ Ok (bare Kind.Quote 1 ∷ bare Kind.Part 1 ∷ token Kind.Variable (codes "x") 1 ∷ sign Punct.LeftBracket (codes "[") 1 ∷ int (pos 0) 1 ∷ sign Punct.RightBracket (codes "]") 1 ∷ bare Kind.EndPart 1 ∷ bare Kind.Unquote 1 ∷ [])
unfolding tokens Pieces.outside_piece Pieces.script_piece Pieces.block_comment Pieces.variable Pieces.raw Pieces.quoted Pieces.nowdoc Pieces.heredoc_piece Pieces.labelled_piece Pieces.sign Pieces.part_piece Pieces.template_piece Pieces.subject_piece Pieces.member_piece Pieces.key_piece Pieces.key_end_piece Pieces.name_piece Pieces.name_end_piece Pieces.brace_end_piece Words.word Words.yield_from_len Words.word_kind Words.cast Numbers.number Numbers.key_len Punctuators.punctuator Heredocs.opening Templates.escape Templates.stretch Punctuators.punctuators Words.keywords Words.cast_words Words.is_word_at Comments.ends_comment Comments.ends_block Comments.open_tag_len Comments.begins_tag Comments.begins_echo Numbers.int_key Templates.is_label_line Templates.closing_len Templates.scalar_escape Templates.ends Templates.begins_part
key_zero = refl

key_minus_zero : tokens (codes "<?php \"$x[-0]\"") ≡ Ok (bare Kind.Quote 1 ∷ bare Kind.Part 1 ∷ token Kind.Variable (codes "x") 1 ∷ sign Punct.LeftBracket (codes "[") 1 ∷ token Kind.Str (codes "-0") 1 ∷ sign Punct.RightBracket (codes "]") 1 ∷ bare Kind.EndPart 1 ∷ bare Kind.Unquote 1 ∷ [])
unfolding tokens Pieces.outside_piece Pieces.script_piece Pieces.block_comment Pieces.variable Pieces.raw Pieces.quoted Pieces.nowdoc Pieces.heredoc_piece Pieces.labelled_piece Pieces.sign Pieces.part_piece Pieces.template_piece Pieces.subject_piece Pieces.member_piece Pieces.key_piece Pieces.key_end_piece Pieces.name_piece Pieces.name_end_piece Pieces.brace_end_piece Words.word Words.yield_from_len Words.word_kind Words.cast Numbers.number Numbers.key_len Punctuators.punctuator Heredocs.opening Templates.escape Templates.stretch Punctuators.punctuators Words.keywords Words.cast_words Words.is_word_at Comments.ends_comment Comments.ends_block Comments.open_tag_len Comments.begins_tag Comments.begins_echo Numbers.int_key Templates.is_label_line Templates.closing_len Templates.scalar_escape Templates.ends Templates.begins_part
key_minus_zero = refl

key_leading_zero : tokens (codes "<?php \"$x[08]\"") ≡ Ok (bare Kind.Quote 1 ∷ bare Kind.Part 1 ∷ token Kind.Variable (codes "x") 1 ∷ sign Punct.LeftBracket (codes "[") 1 ∷ token Kind.Str (codes "08") 1 ∷ sign Punct.RightBracket (codes "]") 1 ∷ bare Kind.EndPart 1 ∷ bare Kind.Unquote 1 ∷ [])
unfolding tokens Pieces.outside_piece Pieces.script_piece Pieces.block_comment Pieces.variable Pieces.raw Pieces.quoted Pieces.nowdoc Pieces.heredoc_piece Pieces.labelled_piece Pieces.sign Pieces.part_piece Pieces.template_piece Pieces.subject_piece Pieces.member_piece Pieces.key_piece Pieces.key_end_piece Pieces.name_piece Pieces.name_end_piece Pieces.brace_end_piece Words.word Words.yield_from_len Words.word_kind Words.cast Numbers.number Numbers.key_len Punctuators.punctuator Heredocs.opening Templates.escape Templates.stretch Punctuators.punctuators Words.keywords Words.cast_words Words.is_word_at Comments.ends_comment Comments.ends_block Comments.open_tag_len Comments.begins_tag Comments.begins_echo Numbers.int_key Templates.is_label_line Templates.closing_len Templates.scalar_escape Templates.ends Templates.begins_part
key_leading_zero = refl

key_hexadecimal : tokens (codes "<?php \"$x[0x1F]\"") ≡ Ok (bare Kind.Quote 1 ∷ bare Kind.Part 1 ∷ token Kind.Variable (codes "x") 1 ∷ sign Punct.LeftBracket (codes "[") 1 ∷ token Kind.Str (codes "0x1F") 1 ∷ sign Punct.RightBracket (codes "]") 1 ∷ bare Kind.EndPart 1 ∷ bare Kind.Unquote 1 ∷ [])
unfolding tokens Pieces.outside_piece Pieces.script_piece Pieces.block_comment Pieces.variable Pieces.raw Pieces.quoted Pieces.nowdoc Pieces.heredoc_piece Pieces.labelled_piece Pieces.sign Pieces.part_piece Pieces.template_piece Pieces.subject_piece Pieces.member_piece Pieces.key_piece Pieces.key_end_piece Pieces.name_piece Pieces.name_end_piece Pieces.brace_end_piece Words.word Words.yield_from_len Words.word_kind Words.cast Numbers.number Numbers.key_len Punctuators.punctuator Heredocs.opening Templates.escape Templates.stretch Punctuators.punctuators Words.keywords Words.cast_words Words.is_word_at Comments.ends_comment Comments.ends_block Comments.open_tag_len Comments.begins_tag Comments.begins_echo Numbers.int_key Templates.is_label_line Templates.closing_len Templates.scalar_escape Templates.ends Templates.begins_part
key_hexadecimal = refl

key_large : tokens (codes "<?php \"$x[9223372036854775808]\"") ≡ Ok (bare Kind.Quote 1 ∷ bare Kind.Part 1 ∷ token Kind.Variable (codes "x") 1 ∷ sign Punct.LeftBracket (codes "[") 1 ∷ token Kind.Str (codes "9223372036854775808") 1 ∷ sign Punct.RightBracket (codes "]") 1 ∷ bare Kind.EndPart 1 ∷ bare Kind.Unquote 1 ∷ [])
unfolding tokens Pieces.outside_piece Pieces.script_piece Pieces.block_comment Pieces.variable Pieces.raw Pieces.quoted Pieces.nowdoc Pieces.heredoc_piece Pieces.labelled_piece Pieces.sign Pieces.part_piece Pieces.template_piece Pieces.subject_piece Pieces.member_piece Pieces.key_piece Pieces.key_end_piece Pieces.name_piece Pieces.name_end_piece Pieces.brace_end_piece Words.word Words.yield_from_len Words.word_kind Words.cast Numbers.number Numbers.key_len Punctuators.punctuator Heredocs.opening Templates.escape Templates.stretch Punctuators.punctuators Words.keywords Words.cast_words Words.is_word_at Comments.ends_comment Comments.ends_block Comments.open_tag_len Comments.begins_tag Comments.begins_echo Numbers.int_key Templates.is_label_line Templates.closing_len Templates.scalar_escape Templates.ends Templates.begins_part
key_large = refl

key_least : tokens (codes "<?php \"$x[-9223372036854775808]\"") ≡ Ok (bare Kind.Quote 1 ∷ bare Kind.Part 1 ∷ token Kind.Variable (codes "x") 1 ∷ sign Punct.LeftBracket (codes "[") 1 ∷ int (negsuc 9223372036854775807) 1 ∷ sign Punct.RightBracket (codes "]") 1 ∷ bare Kind.EndPart 1 ∷ bare Kind.Unquote 1 ∷ [])
unfolding tokens Pieces.outside_piece Pieces.script_piece Pieces.block_comment Pieces.variable Pieces.raw Pieces.quoted Pieces.nowdoc Pieces.heredoc_piece Pieces.labelled_piece Pieces.sign Pieces.part_piece Pieces.template_piece Pieces.subject_piece Pieces.member_piece Pieces.key_piece Pieces.key_end_piece Pieces.name_piece Pieces.name_end_piece Pieces.brace_end_piece Words.word Words.yield_from_len Words.word_kind Words.cast Numbers.number Numbers.key_len Punctuators.punctuator Heredocs.opening Templates.escape Templates.stretch Punctuators.punctuators Words.keywords Words.cast_words Words.is_word_at Comments.ends_comment Comments.ends_block Comments.open_tag_len Comments.begins_tag Comments.begins_echo Numbers.int_key Templates.is_label_line Templates.closing_len Templates.scalar_escape Templates.ends Templates.begins_part
key_least = refl

key_float : tokens (codes "<?php \"$x[1.5]\"") ≡ Err (Fail.BadEscape 1)
unfolding tokens Pieces.outside_piece Pieces.script_piece Pieces.block_comment Pieces.variable Pieces.raw Pieces.quoted Pieces.nowdoc Pieces.heredoc_piece Pieces.labelled_piece Pieces.sign Pieces.part_piece Pieces.template_piece Pieces.subject_piece Pieces.member_piece Pieces.key_piece Pieces.key_end_piece Pieces.name_piece Pieces.name_end_piece Pieces.brace_end_piece Words.word Words.yield_from_len Words.word_kind Words.cast Numbers.number Numbers.key_len Punctuators.punctuator Heredocs.opening Templates.escape Templates.stretch Punctuators.punctuators Words.keywords Words.cast_words Words.is_word_at Comments.ends_comment Comments.ends_block Comments.open_tag_len Comments.begins_tag Comments.begins_echo Numbers.int_key Templates.is_label_line Templates.closing_len Templates.scalar_escape Templates.ends Templates.begins_part
key_float = refl

key_blank : tokens (codes "<?php \"$x[ 1]\"") ≡ Err (Fail.BadEscape 1)
unfolding tokens Pieces.outside_piece Pieces.script_piece Pieces.block_comment Pieces.variable Pieces.raw Pieces.quoted Pieces.nowdoc Pieces.heredoc_piece Pieces.labelled_piece Pieces.sign Pieces.part_piece Pieces.template_piece Pieces.subject_piece Pieces.member_piece Pieces.key_piece Pieces.key_end_piece Pieces.name_piece Pieces.name_end_piece Pieces.brace_end_piece Words.word Words.yield_from_len Words.word_kind Words.cast Numbers.number Numbers.key_len Punctuators.punctuator Heredocs.opening Templates.escape Templates.stretch Punctuators.punctuators Words.keywords Words.cast_words Words.is_word_at Comments.ends_comment Comments.ends_block Comments.open_tag_len Comments.begins_tag Comments.begins_echo Numbers.int_key Templates.is_label_line Templates.closing_len Templates.scalar_escape Templates.ends Templates.begins_part
key_blank = refl

key_cut : tokens (codes "<?php \"$x[") ≡ Err (Fail.Unclosed 1)
unfolding tokens Pieces.outside_piece Pieces.script_piece Pieces.block_comment Pieces.variable Pieces.raw Pieces.quoted Pieces.nowdoc Pieces.heredoc_piece Pieces.labelled_piece Pieces.sign Pieces.part_piece Pieces.template_piece Pieces.subject_piece Pieces.member_piece Pieces.key_piece Pieces.key_end_piece Pieces.name_piece Pieces.name_end_piece Pieces.brace_end_piece Words.word Words.yield_from_len Words.word_kind Words.cast Numbers.number Numbers.key_len Punctuators.punctuator Heredocs.opening Templates.escape Templates.stretch Punctuators.punctuators Words.keywords Words.cast_words Words.is_word_at Comments.ends_comment Comments.ends_block Comments.open_tag_len Comments.begins_tag Comments.begins_echo Numbers.int_key Templates.is_label_line Templates.closing_len Templates.scalar_escape Templates.ends Templates.begins_part
key_cut = refl

-- a part goes up to its own `}`
braces_part : tokens (codes "<?php \"{$x[{1}]}\"") ≡ Ok (bare Kind.Quote 1 ∷ bare Kind.Part 1 ∷ token Kind.Variable (codes "x") 1 ∷ sign Punct.LeftBracket (codes "[") 1 ∷ sign Punct.LeftBrace (codes "{") 1 ∷ int (pos 1) 1 ∷ sign Punct.RightBrace (codes "}") 1 ∷ sign Punct.RightBracket (codes "]") 1 ∷ bare Kind.EndPart 1 ∷ bare Kind.Unquote 1 ∷ [])
unfolding tokens Pieces.outside_piece Pieces.script_piece Pieces.block_comment Pieces.variable Pieces.raw Pieces.quoted Pieces.nowdoc Pieces.heredoc_piece Pieces.labelled_piece Pieces.sign Pieces.part_piece Pieces.template_piece Pieces.subject_piece Pieces.member_piece Pieces.key_piece Pieces.key_end_piece Pieces.name_piece Pieces.name_end_piece Pieces.brace_end_piece Words.word Words.yield_from_len Words.word_kind Words.cast Numbers.number Numbers.key_len Punctuators.punctuator Heredocs.opening Templates.escape Templates.stretch Punctuators.punctuators Words.keywords Words.cast_words Words.is_word_at Comments.ends_comment Comments.ends_block Comments.open_tag_len Comments.begins_tag Comments.begins_echo Numbers.int_key Templates.is_label_line Templates.closing_len Templates.scalar_escape Templates.ends Templates.begins_part
braces_part = refl

-- the innermost construct
braces_unclosed : tokens (codes "<?php \"" ++ (10 ∷ []) ++ codes "{$x" ++ (10 ∷ [])) ≡ Err (Fail.Unclosed 2)
unfolding tokens Pieces.outside_piece Pieces.script_piece Pieces.block_comment Pieces.variable Pieces.raw Pieces.quoted Pieces.nowdoc Pieces.heredoc_piece Pieces.labelled_piece Pieces.sign Pieces.part_piece Pieces.template_piece Pieces.subject_piece Pieces.member_piece Pieces.key_piece Pieces.key_end_piece Pieces.name_piece Pieces.name_end_piece Pieces.brace_end_piece Words.word Words.yield_from_len Words.word_kind Words.cast Numbers.number Numbers.key_len Punctuators.punctuator Heredocs.opening Templates.escape Templates.stretch Punctuators.punctuators Words.keywords Words.cast_words Words.is_word_at Comments.ends_comment Comments.ends_block Comments.open_tag_len Comments.begins_tag Comments.begins_echo Numbers.int_key Templates.is_label_line Templates.closing_len Templates.scalar_escape Templates.ends Templates.begins_part
braces_unclosed = refl

escaped_brace : tokens (codes "<?php \"\\{$x}\"") ≡ Ok (bare Kind.Quote 1 ∷ token Kind.Piece (codes "\\{") 1 ∷ bare Kind.Part 1 ∷ token Kind.Variable (codes "x") 1 ∷ bare Kind.EndPart 1 ∷ token Kind.Piece (codes "}") 1 ∷ bare Kind.Unquote 1 ∷ [])
unfolding tokens Pieces.outside_piece Pieces.script_piece Pieces.block_comment Pieces.variable Pieces.raw Pieces.quoted Pieces.nowdoc Pieces.heredoc_piece Pieces.labelled_piece Pieces.sign Pieces.part_piece Pieces.template_piece Pieces.subject_piece Pieces.member_piece Pieces.key_piece Pieces.key_end_piece Pieces.name_piece Pieces.name_end_piece Pieces.brace_end_piece Words.word Words.yield_from_len Words.word_kind Words.cast Numbers.number Numbers.key_len Punctuators.punctuator Heredocs.opening Templates.escape Templates.stretch Punctuators.punctuators Words.keywords Words.cast_words Words.is_word_at Comments.ends_comment Comments.ends_block Comments.open_tag_len Comments.begins_tag Comments.begins_echo Numbers.int_key Templates.is_label_line Templates.closing_len Templates.scalar_escape Templates.ends Templates.begins_part
escaped_brace = refl

named_part : tokens (codes "<?php \"${n}\"") ≡ Ok (bare Kind.Quote 1 ∷ bare Kind.Part 1 ∷ token Kind.Variable (codes "n") 1 ∷ bare Kind.EndPart 1 ∷ bare Kind.Unquote 1 ∷ [])
unfolding tokens Pieces.outside_piece Pieces.script_piece Pieces.block_comment Pieces.variable Pieces.raw Pieces.quoted Pieces.nowdoc Pieces.heredoc_piece Pieces.labelled_piece Pieces.sign Pieces.part_piece Pieces.template_piece Pieces.subject_piece Pieces.member_piece Pieces.key_piece Pieces.key_end_piece Pieces.name_piece Pieces.name_end_piece Pieces.brace_end_piece Words.word Words.yield_from_len Words.word_kind Words.cast Numbers.number Numbers.key_len Punctuators.punctuator Heredocs.opening Templates.escape Templates.stretch Punctuators.punctuators Words.keywords Words.cast_words Words.is_word_at Comments.ends_comment Comments.ends_block Comments.open_tag_len Comments.begins_tag Comments.begins_echo Numbers.int_key Templates.is_label_line Templates.closing_len Templates.scalar_escape Templates.ends Templates.begins_part
named_part = refl

named_part_index : tokens (codes "<?php \"${n[ [1] ]}\"") ≡ Ok (bare Kind.Quote 1 ∷ bare Kind.Part 1 ∷ token Kind.Variable (codes "n") 1 ∷ sign Punct.LeftBracket (codes "[") 1 ∷ sign Punct.LeftBracket (codes "[") 1 ∷ int (pos 1) 1 ∷ sign Punct.RightBracket (codes "]") 1 ∷ sign Punct.RightBracket (codes "]") 1 ∷ bare Kind.EndPart 1 ∷ bare Kind.Unquote 1 ∷ [])
unfolding tokens Pieces.outside_piece Pieces.script_piece Pieces.block_comment Pieces.variable Pieces.raw Pieces.quoted Pieces.nowdoc Pieces.heredoc_piece Pieces.labelled_piece Pieces.sign Pieces.part_piece Pieces.template_piece Pieces.subject_piece Pieces.member_piece Pieces.key_piece Pieces.key_end_piece Pieces.name_piece Pieces.name_end_piece Pieces.brace_end_piece Words.word Words.yield_from_len Words.word_kind Words.cast Numbers.number Numbers.key_len Punctuators.punctuator Heredocs.opening Templates.escape Templates.stretch Punctuators.punctuators Words.keywords Words.cast_words Words.is_word_at Comments.ends_comment Comments.ends_block Comments.open_tag_len Comments.begins_tag Comments.begins_echo Numbers.int_key Templates.is_label_line Templates.closing_len Templates.scalar_escape Templates.ends Templates.begins_part
named_part_index = refl

named_part_blank : tokens (codes "<?php \"${ n}\"") ≡ Err (Fail.BadEscape 1)
unfolding tokens Pieces.outside_piece Pieces.script_piece Pieces.block_comment Pieces.variable Pieces.raw Pieces.quoted Pieces.nowdoc Pieces.heredoc_piece Pieces.labelled_piece Pieces.sign Pieces.part_piece Pieces.template_piece Pieces.subject_piece Pieces.member_piece Pieces.key_piece Pieces.key_end_piece Pieces.name_piece Pieces.name_end_piece Pieces.brace_end_piece Words.word Words.yield_from_len Words.word_kind Words.cast Numbers.number Numbers.key_len Punctuators.punctuator Heredocs.opening Templates.escape Templates.stretch Punctuators.punctuators Words.keywords Words.cast_words Words.is_word_at Comments.ends_comment Comments.ends_block Comments.open_tag_len Comments.begins_tag Comments.begins_echo Numbers.int_key Templates.is_label_line Templates.closing_len Templates.scalar_escape Templates.ends Templates.begins_part
named_part_blank = refl

named_part_blank_behind : tokens (codes "<?php \"${n[1] }\"") ≡ Err (Fail.BadEscape 1)
unfolding tokens Pieces.outside_piece Pieces.script_piece Pieces.block_comment Pieces.variable Pieces.raw Pieces.quoted Pieces.nowdoc Pieces.heredoc_piece Pieces.labelled_piece Pieces.sign Pieces.part_piece Pieces.template_piece Pieces.subject_piece Pieces.member_piece Pieces.key_piece Pieces.key_end_piece Pieces.name_piece Pieces.name_end_piece Pieces.brace_end_piece Words.word Words.yield_from_len Words.word_kind Words.cast Numbers.number Numbers.key_len Punctuators.punctuator Heredocs.opening Templates.escape Templates.stretch Punctuators.punctuators Words.keywords Words.cast_words Words.is_word_at Comments.ends_comment Comments.ends_block Comments.open_tag_len Comments.begins_tag Comments.begins_echo Numbers.int_key Templates.is_label_line Templates.closing_len Templates.scalar_escape Templates.ends Templates.begins_part
named_part_blank_behind = refl

end_tag_in_part : tokens (codes "<?php \"{$x?>y<?php }\"") ≡ Ok (bare Kind.Quote 1 ∷ bare Kind.Part 1 ∷ token Kind.Variable (codes "x") 1 ∷ semicolon 1 ∷ token Kind.Inline (codes "y") 1 ∷ bare Kind.EndPart 1 ∷ bare Kind.Unquote 1 ∷ [])
unfolding tokens Pieces.outside_piece Pieces.script_piece Pieces.block_comment Pieces.variable Pieces.raw Pieces.quoted Pieces.nowdoc Pieces.heredoc_piece Pieces.labelled_piece Pieces.sign Pieces.part_piece Pieces.template_piece Pieces.subject_piece Pieces.member_piece Pieces.key_piece Pieces.key_end_piece Pieces.name_piece Pieces.name_end_piece Pieces.brace_end_piece Words.word Words.yield_from_len Words.word_kind Words.cast Numbers.number Numbers.key_len Punctuators.punctuator Heredocs.opening Templates.escape Templates.stretch Punctuators.punctuators Words.keywords Words.cast_words Words.is_word_at Comments.ends_comment Comments.ends_block Comments.open_tag_len Comments.begins_tag Comments.begins_echo Numbers.int_key Templates.is_label_line Templates.closing_len Templates.scalar_escape Templates.ends Templates.begins_part
end_tag_in_part = refl

heredoc : tokens (codes "<?php <<<E" ++ (10 ∷ []) ++ codes "a\\x41" ++ (10 ∷ []) ++ codes "E;" ++ (10 ∷ [])) ≡ Ok (token Kind.Str (codes "aA") 1 ∷ semicolon 3 ∷ [])
unfolding tokens Pieces.outside_piece Pieces.script_piece Pieces.block_comment Pieces.variable Pieces.raw Pieces.quoted Pieces.nowdoc Pieces.heredoc_piece Pieces.labelled_piece Pieces.sign Pieces.part_piece Pieces.template_piece Pieces.subject_piece Pieces.member_piece Pieces.key_piece Pieces.key_end_piece Pieces.name_piece Pieces.name_end_piece Pieces.brace_end_piece Words.word Words.yield_from_len Words.word_kind Words.cast Numbers.number Numbers.key_len Punctuators.punctuator Heredocs.opening Templates.escape Templates.stretch Punctuators.punctuators Words.keywords Words.cast_words Words.is_word_at Comments.ends_comment Comments.ends_block Comments.open_tag_len Comments.begins_tag Comments.begins_echo Numbers.int_key Templates.is_label_line Templates.closing_len Templates.scalar_escape Templates.ends Templates.begins_part
heredoc = refl

heredoc_quoted_label : tokens (codes "<?php <<< \"E\"" ++ (13 ∷ 10 ∷ []) ++ codes "a" ++ (13 ∷ 10 ∷ []) ++ codes "E") ≡ Ok (token Kind.Str (codes "a") 1 ∷ [])
unfolding tokens Pieces.outside_piece Pieces.script_piece Pieces.block_comment Pieces.variable Pieces.raw Pieces.quoted Pieces.nowdoc Pieces.heredoc_piece Pieces.labelled_piece Pieces.sign Pieces.part_piece Pieces.template_piece Pieces.subject_piece Pieces.member_piece Pieces.key_piece Pieces.key_end_piece Pieces.name_piece Pieces.name_end_piece Pieces.brace_end_piece Words.word Words.yield_from_len Words.word_kind Words.cast Numbers.number Numbers.key_len Punctuators.punctuator Heredocs.opening Templates.escape Templates.stretch Punctuators.punctuators Words.keywords Words.cast_words Words.is_word_at Comments.ends_comment Comments.ends_block Comments.open_tag_len Comments.begins_tag Comments.begins_echo Numbers.int_key Templates.is_label_line Templates.closing_len Templates.scalar_escape Templates.ends Templates.begins_part
heredoc_quoted_label = refl

heredoc_empty : tokens (codes "<?php <<<E" ++ (10 ∷ []) ++ codes "E" ++ (10 ∷ [])) ≡ Ok (bare Kind.Str 1 ∷ [])
unfolding tokens Pieces.outside_piece Pieces.script_piece Pieces.block_comment Pieces.variable Pieces.raw Pieces.quoted Pieces.nowdoc Pieces.heredoc_piece Pieces.labelled_piece Pieces.sign Pieces.part_piece Pieces.template_piece Pieces.subject_piece Pieces.member_piece Pieces.key_piece Pieces.key_end_piece Pieces.name_piece Pieces.name_end_piece Pieces.brace_end_piece Words.word Words.yield_from_len Words.word_kind Words.cast Numbers.number Numbers.key_len Punctuators.punctuator Heredocs.opening Templates.escape Templates.stretch Punctuators.punctuators Words.keywords Words.cast_words Words.is_word_at Comments.ends_comment Comments.ends_block Comments.open_tag_len Comments.begins_tag Comments.begins_echo Numbers.int_key Templates.is_label_line Templates.closing_len Templates.scalar_escape Templates.ends Templates.begins_part
heredoc_empty = refl

heredoc_label_indented : tokens (codes "<?php <<<E" ++ (10 ∷ []) ++ codes " E" ++ (10 ∷ []) ++ codes "E" ++ (10 ∷ [])) ≡ Ok (token Kind.Str (codes " E") 1 ∷ [])
unfolding tokens Pieces.outside_piece Pieces.script_piece Pieces.block_comment Pieces.variable Pieces.raw Pieces.quoted Pieces.nowdoc Pieces.heredoc_piece Pieces.labelled_piece Pieces.sign Pieces.part_piece Pieces.template_piece Pieces.subject_piece Pieces.member_piece Pieces.key_piece Pieces.key_end_piece Pieces.name_piece Pieces.name_end_piece Pieces.brace_end_piece Words.word Words.yield_from_len Words.word_kind Words.cast Numbers.number Numbers.key_len Punctuators.punctuator Heredocs.opening Templates.escape Templates.stretch Punctuators.punctuators Words.keywords Words.cast_words Words.is_word_at Comments.ends_comment Comments.ends_block Comments.open_tag_len Comments.begins_tag Comments.begins_echo Numbers.int_key Templates.is_label_line Templates.closing_len Templates.scalar_escape Templates.ends Templates.begins_part
heredoc_label_indented = refl

heredoc_label_longer : tokens (codes "<?php <<<E" ++ (10 ∷ []) ++ codes "EE" ++ (10 ∷ []) ++ codes "E" ++ (10 ∷ [])) ≡ Ok (token Kind.Str (codes "EE") 1 ∷ [])
unfolding tokens Pieces.outside_piece Pieces.script_piece Pieces.block_comment Pieces.variable Pieces.raw Pieces.quoted Pieces.nowdoc Pieces.heredoc_piece Pieces.labelled_piece Pieces.sign Pieces.part_piece Pieces.template_piece Pieces.subject_piece Pieces.member_piece Pieces.key_piece Pieces.key_end_piece Pieces.name_piece Pieces.name_end_piece Pieces.brace_end_piece Words.word Words.yield_from_len Words.word_kind Words.cast Numbers.number Numbers.key_len Punctuators.punctuator Heredocs.opening Templates.escape Templates.stretch Punctuators.punctuators Words.keywords Words.cast_words Words.is_word_at Comments.ends_comment Comments.ends_block Comments.open_tag_len Comments.begins_tag Comments.begins_echo Numbers.int_key Templates.is_label_line Templates.closing_len Templates.scalar_escape Templates.ends Templates.begins_part
heredoc_label_longer = refl

heredoc_part : tokens (codes "<?php <<<E" ++ (10 ∷ []) ++ codes "$x" ++ (10 ∷ []) ++ codes "E;") ≡ Ok (bare Kind.Quote 1 ∷ bare Kind.Part 2 ∷ token Kind.Variable (codes "x") 2 ∷ bare Kind.EndPart 2 ∷ bare Kind.Unquote 2 ∷ semicolon 3 ∷ [])
unfolding tokens Pieces.outside_piece Pieces.script_piece Pieces.block_comment Pieces.variable Pieces.raw Pieces.quoted Pieces.nowdoc Pieces.heredoc_piece Pieces.labelled_piece Pieces.sign Pieces.part_piece Pieces.template_piece Pieces.subject_piece Pieces.member_piece Pieces.key_piece Pieces.key_end_piece Pieces.name_piece Pieces.name_end_piece Pieces.brace_end_piece Words.word Words.yield_from_len Words.word_kind Words.cast Numbers.number Numbers.key_len Punctuators.punctuator Heredocs.opening Templates.escape Templates.stretch Punctuators.punctuators Words.keywords Words.cast_words Words.is_word_at Comments.ends_comment Comments.ends_block Comments.open_tag_len Comments.begins_tag Comments.begins_echo Numbers.int_key Templates.is_label_line Templates.closing_len Templates.scalar_escape Templates.ends Templates.begins_part
heredoc_part = refl

heredoc_quote_stays : tokens (codes "<?php <<<E" ++ (10 ∷ []) ++ codes "\\\"" ++ (10 ∷ []) ++ codes "E") ≡ Ok (token Kind.Str (92 ∷ 34 ∷ []) 1 ∷ [])
unfolding tokens Pieces.outside_piece Pieces.script_piece Pieces.block_comment Pieces.variable Pieces.raw Pieces.quoted Pieces.nowdoc Pieces.heredoc_piece Pieces.labelled_piece Pieces.sign Pieces.part_piece Pieces.template_piece Pieces.subject_piece Pieces.member_piece Pieces.key_piece Pieces.key_end_piece Pieces.name_piece Pieces.name_end_piece Pieces.brace_end_piece Words.word Words.yield_from_len Words.word_kind Words.cast Numbers.number Numbers.key_len Punctuators.punctuator Heredocs.opening Templates.escape Templates.stretch Punctuators.punctuators Words.keywords Words.cast_words Words.is_word_at Comments.ends_comment Comments.ends_block Comments.open_tag_len Comments.begins_tag Comments.begins_echo Numbers.int_key Templates.is_label_line Templates.closing_len Templates.scalar_escape Templates.ends Templates.begins_part
heredoc_quote_stays = refl

heredoc_unclosed : tokens (codes "<?php " ++ (10 ∷ []) ++ codes "<<<E" ++ (10 ∷ []) ++ codes "a E" ++ (10 ∷ [])) ≡ Err (Fail.Unclosed 2)
unfolding tokens Pieces.outside_piece Pieces.script_piece Pieces.block_comment Pieces.variable Pieces.raw Pieces.quoted Pieces.nowdoc Pieces.heredoc_piece Pieces.labelled_piece Pieces.sign Pieces.part_piece Pieces.template_piece Pieces.subject_piece Pieces.member_piece Pieces.key_piece Pieces.key_end_piece Pieces.name_piece Pieces.name_end_piece Pieces.brace_end_piece Words.word Words.yield_from_len Words.word_kind Words.cast Numbers.number Numbers.key_len Punctuators.punctuator Heredocs.opening Templates.escape Templates.stretch Punctuators.punctuators Words.keywords Words.cast_words Words.is_word_at Comments.ends_comment Comments.ends_block Comments.open_tag_len Comments.begins_tag Comments.begins_echo Numbers.int_key Templates.is_label_line Templates.closing_len Templates.scalar_escape Templates.ends Templates.begins_part
heredoc_unclosed = refl

nowdoc : tokens (codes "<?php <<<'E'" ++ (10 ∷ []) ++ codes "$x\\n" ++ (10 ∷ []) ++ codes "E;") ≡ Ok (token Kind.Str (codes "$x\\n") 1 ∷ semicolon 3 ∷ [])
unfolding tokens Pieces.outside_piece Pieces.script_piece Pieces.block_comment Pieces.variable Pieces.raw Pieces.quoted Pieces.nowdoc Pieces.heredoc_piece Pieces.labelled_piece Pieces.sign Pieces.part_piece Pieces.template_piece Pieces.subject_piece Pieces.member_piece Pieces.key_piece Pieces.key_end_piece Pieces.name_piece Pieces.name_end_piece Pieces.brace_end_piece Words.word Words.yield_from_len Words.word_kind Words.cast Numbers.number Numbers.key_len Punctuators.punctuator Heredocs.opening Templates.escape Templates.stretch Punctuators.punctuators Words.keywords Words.cast_words Words.is_word_at Comments.ends_comment Comments.ends_block Comments.open_tag_len Comments.begins_tag Comments.begins_echo Numbers.int_key Templates.is_label_line Templates.closing_len Templates.scalar_escape Templates.ends Templates.begins_part
nowdoc = refl

nowdoc_unclosed : tokens (codes "<?php " ++ (10 ∷ []) ++ codes "<<<'E'" ++ (10 ∷ []) ++ codes "E x") ≡ Err (Fail.Unclosed 2)
unfolding tokens Pieces.outside_piece Pieces.script_piece Pieces.block_comment Pieces.variable Pieces.raw Pieces.quoted Pieces.nowdoc Pieces.heredoc_piece Pieces.labelled_piece Pieces.sign Pieces.part_piece Pieces.template_piece Pieces.subject_piece Pieces.member_piece Pieces.key_piece Pieces.key_end_piece Pieces.name_piece Pieces.name_end_piece Pieces.brace_end_piece Words.word Words.yield_from_len Words.word_kind Words.cast Numbers.number Numbers.key_len Punctuators.punctuator Heredocs.opening Templates.escape Templates.stretch Punctuators.punctuators Words.keywords Words.cast_words Words.is_word_at Comments.ends_comment Comments.ends_block Comments.open_tag_len Comments.begins_tag Comments.begins_echo Numbers.int_key Templates.is_label_line Templates.closing_len Templates.scalar_escape Templates.ends Templates.begins_part
nowdoc_unclosed = refl

-- no end of line behind the label
no_heredoc : tokens (codes "<?php <<<E;") ≡ Ok (sign Punct.ShiftLeft (codes "<<") 1 ∷ sign Punct.Less (codes "<") 1 ∷ token Kind.Name (codes "E") 1 ∷ semicolon 1 ∷ [])
unfolding tokens Pieces.outside_piece Pieces.script_piece Pieces.block_comment Pieces.variable Pieces.raw Pieces.quoted Pieces.nowdoc Pieces.heredoc_piece Pieces.labelled_piece Pieces.sign Pieces.part_piece Pieces.template_piece Pieces.subject_piece Pieces.member_piece Pieces.key_piece Pieces.key_end_piece Pieces.name_piece Pieces.name_end_piece Pieces.brace_end_piece Words.word Words.yield_from_len Words.word_kind Words.cast Numbers.number Numbers.key_len Punctuators.punctuator Heredocs.opening Templates.escape Templates.stretch Punctuators.punctuators Words.keywords Words.cast_words Words.is_word_at Comments.ends_comment Comments.ends_block Comments.open_tag_len Comments.begins_tag Comments.begins_echo Numbers.int_key Templates.is_label_line Templates.closing_len Templates.scalar_escape Templates.ends Templates.begins_part
no_heredoc = refl

lines_count_lf : tokens (codes "<?php" ++ (10 ∷ []) ++ codes "$a" ++ (13 ∷ []) ++ codes "$b" ++ (13 ∷ 10 ∷ []) ++ codes "$c") ≡ Ok (token Kind.Variable (codes "a") 2 ∷ token Kind.Variable (codes "b") 2 ∷ token Kind.Variable (codes "c") 3 ∷ [])
unfolding tokens Pieces.outside_piece Pieces.script_piece Pieces.block_comment Pieces.variable Pieces.raw Pieces.quoted Pieces.nowdoc Pieces.heredoc_piece Pieces.labelled_piece Pieces.sign Pieces.part_piece Pieces.template_piece Pieces.subject_piece Pieces.member_piece Pieces.key_piece Pieces.key_end_piece Pieces.name_piece Pieces.name_end_piece Pieces.brace_end_piece Words.word Words.yield_from_len Words.word_kind Words.cast Numbers.number Numbers.key_len Punctuators.punctuator Heredocs.opening Templates.escape Templates.stretch Punctuators.punctuators Words.keywords Words.cast_words Words.is_word_at Comments.ends_comment Comments.ends_block Comments.open_tag_len Comments.begins_tag Comments.begins_echo Numbers.int_key Templates.is_label_line Templates.closing_len Templates.scalar_escape Templates.ends Templates.begins_part
lines_count_lf = refl
