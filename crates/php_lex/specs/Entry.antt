-- How tokens are kept.
use Rattle.std.specs.Prelude.{◌≡◌, ℕ, ◌≤◌, List, ◌++◌, length, map, slice_range, All}
use Rattle.php_lex.specs.declared.tokens.TokenText.{TokenText}
use Rattle.php_lex.specs.declared.tokens.TokenText.TheVariants.{Plain, Decoded}
use Rattle.php_lex.specs.declared.tokens.Entry.{Entry}
use Rattle.php_token.specs.Token.{Token}

-- the text, where the bytes made from escapes are these
abbrev pub text_of : List ℕ → TokenText → List ℕ
text_of decoded (Plain text) = text.now
text_of decoded (Decoded start end) = slice_range decoded start end

abbrev pub token_of : List ℕ → Entry → Token
token_of decoded entry =
    record { kind = entry.kind; text = text_of decoded entry.text; int = entry.int; line = entry.line }

abbrev pub tokens_in : List ℕ → List Entry → List Token
tokens_in decoded entries = map (token_of decoded) entries

-- the text lies within that many bytes made from escapes
abbrev pub Within : ℕ → TokenText → Type 0
Within len (Plain text) = Unit {0}
Within len (Decoded start end) = (start ≤ end) × (end ≤ len)

abbrev pub AllWithin : ℕ → List Entry → Type 0
AllWithin len entries = All (λ entry. Within len entry.text) entries

-- new bytes were added to the old ones, and the text is kept
pub record Keeps (text old new : List ℕ) (kept : TokenText) : Type 0 where
  pub more : List ℕ
  pub grown : new ≡ old ++ more
  pub within : Within (length new) kept
  pub told : text_of new kept ≡ text

-- tokens were added
pub record Adds (tokens : List Token) (old_entries new_entries : List Entry) (old new : List ℕ) : Type 0 where
  pub within : AllWithin (length new) new_entries
  pub told : tokens_in new new_entries ≡ tokens_in old old_entries ++ tokens
