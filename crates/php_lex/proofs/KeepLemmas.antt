-- What is kept of tokens, and the texts of single quotes.
use Rattle.std.proofs.Common.{◌≡◌, ℕ, zero, suc, ◌+◌, ◌-◌, ◌<◌, ◌≤◌, Bool, true, false, not, ◌&&◌, ◌||◌, cond, List, [], ◌∷◌, ◌++◌, length, drop, take, map, get_or, refl, sym, ap, ◌∙◌, subst, arith, append_assoc, append-nil, length-append}
use Rattle.std.specs.Prelude.{slice_index, slice_range, ◌==◌, Option, None, Some, is_some, MatchOption}
use Rattle.std.proofs.lemmas.List.Elements.{All-push}
use Rattle.memchr.specs.Find.{Nowhere, Passes, is_byte}
use Rattle.php_lex.specs.declared.tokens.TokenText.{TokenText}
use Rattle.php_lex.specs.declared.tokens.TokenText.TheVariants.{Plain, Decoded}
use Rattle.php_lex.specs.declared.tokens.Entry.{Entry}
use Rattle.php_lex_pieces.specs.Bytes.{Text}
use Rattle.php_lex_pieces.specs.Comments.{raw_value}
use Rattle.php_lex.specs.Entry.{text_of, token_of, tokens_in, Within, AllWithin, Keeps, Adds}
use Rattle.php_token.specs.Token.{Token}

-- ---- single quotes

abbrev is_escape : ℕ → ℕ → Bool
is_escape b next = b == 92 && (next == 92 || next == 39)

pub raw_value_plain : (text : Text) (i : ℕ) → i < length text → is_escape (get_or text i 0) (get_or text (i + 1) 0) ≡ false → raw_value false (drop i text) ≡ get_or text i 0 ∷ raw_value false (drop (i + 1) text)
raw_value_plain [] i h other = absurd (omega arith)
raw_value_plain (b ∷ text) zero h other = ap (λ v. cond v (raw_value true text) (b ∷ raw_value false text)) other
raw_value_plain (b ∷ text) (suc i) h other =
    let next : suc i + 1 ≡ suc (i + 1) = omega arith in
    rw next (raw_value_plain text i (omega arith) (subst (λ k. is_escape (get_or text i 0) (get_or (b ∷ text) k 0) ≡ false) next other))

pub raw_value_escape : (text : Text) (i : ℕ) → i + 1 < length text → is_escape (get_or text i 0) (get_or text (i + 1) 0) ≡ true → raw_value false (drop i text) ≡ get_or text (i + 1) 0 ∷ raw_value false (drop (i + 2) text)
raw_value_escape [] i h is = absurd (omega arith)
raw_value_escape (b ∷ []) zero h is = absurd (omega arith)
raw_value_escape (b ∷ c ∷ text) zero h is = ap (λ v. cond v (raw_value true (c ∷ text)) (b ∷ raw_value false (c ∷ text))) is
raw_value_escape (b ∷ text) (suc i) h is =
    let next : suc i + 1 ≡ suc (i + 1) = omega arith in
    let second : suc i + 2 ≡ suc (i + 2) = omega arith in
    rw (next, second) (raw_value_escape text i (omega arith) (subst (λ k. is_escape (get_or text i 0) (get_or (b ∷ text) k 0) ≡ true) next is))

no_escape : (p q : Bool) → (p ≡ true → ⊥) → (p && q) ≡ false
no_escape true q other = absurd (other refl)
no_escape false q other = refl

-- without a backslash the bytes stand for themselves
pub raw_value_same : (text : Text) → Nowhere (Passes (is_byte 92) text) 0 (length text) → raw_value false text ≡ text
raw_value_same [] nowhere = refl
raw_value_same (b ∷ text) nowhere =
    let other = no_escape (b == 92) (slice_index text 0 == 92 || slice_index text 0 == 39) (nowhere 0 (omega arith) (omega arith)) in
    ap (λ v. cond v (raw_value true text) (b ∷ raw_value false text)) other ∙ ap (λ t. b ∷ t) (raw_value_same text (λ k low high. nowhere (suc k) (omega arith) (omega arith)))

-- ---- entries

pub take_front : (xs ys : List ℕ) → take (length xs) (xs ++ ys) ≡ xs
take_front [] ys = refl
take_front (x ∷ xs) ys = ap (λ t. x ∷ t) (take_front xs ys)

pub drop_front : (xs ys : List ℕ) → drop (length xs) (xs ++ ys) ≡ ys
drop_front [] ys = refl
drop_front (x ∷ xs) ys = drop_front xs ys

take_all : (xs : List ℕ) → take (length xs) xs ≡ xs
take_all [] = refl
take_all (x ∷ xs) = ap (λ t. x ∷ t) (take_all xs)

-- what was added behind the old bytes
pub added_part : (old text : List ℕ) → slice_range (old ++ text) (length old) (length (old ++ text)) ≡ text
added_part old text =
    let count : length (old ++ text) - length old ≡ length text = omega (arith, length-append old text) in
    ap (λ n. take n (drop (length old) (old ++ text))) count ∙ ap (take (length text)) (drop_front old text) ∙ take_all text

take_more : (n : ℕ) (xs ys : List ℕ) → n ≤ length xs → take n (xs ++ ys) ≡ take n xs
take_more zero [] ys h = refl
take_more zero (x ∷ xs) ys h = refl
take_more (suc n) [] ys h = absurd (omega arith)
take_more (suc n) (x ∷ xs) ys h = ap (λ t. x ∷ t) (take_more n xs ys (omega arith))

part_more : (start n : ℕ) (xs ys : List ℕ) → start + n ≤ length xs → take n (drop start (xs ++ ys)) ≡ take n (drop start xs)
part_more zero n xs ys h = take_more n xs ys (omega arith)
part_more (suc start) n [] ys h = absurd (omega arith)
part_more (suc start) n (x ∷ xs) ys h = part_more start n xs ys (omega arith)

text_of_more : (decoded more : List ℕ) (text : TokenText) → Within (length decoded) text → text_of (decoded ++ more) text ≡ text_of decoded text
text_of_more decoded more (Plain text) within = refl
text_of_more decoded more (Decoded start end) within = part_more start (end - start) decoded more (omega (arith, within.0, within.1))

within_more : (len more : ℕ) (text : TokenText) → len ≤ more → Within len text → Within more text
within_more len more (Plain text) h within = tt
within_more len more (Decoded start end) h within = (within.0, omega (arith, within.1))

token_of_more : (decoded more : List ℕ) (entry : Entry) → Within (length decoded) entry.text → token_of (decoded ++ more) entry ≡ token_of decoded entry
token_of_more decoded more entry within = ap (λ t. record { kind = entry.kind; text = t; int = entry.int; line = entry.line }) (text_of_more decoded more entry.text within)

tail_within : (len : ℕ) (entry : Entry) (entries : List Entry) → AllWithin len (entry ∷ entries) → AllWithin len entries
tail_within len entry entries all k d h = all (suc k) d (omega arith)

tokens_in_more : (decoded more : List ℕ) (entries : List Entry) → AllWithin (length decoded) entries → tokens_in (decoded ++ more) entries ≡ tokens_in decoded entries
tokens_in_more decoded more [] all = refl
tokens_in_more decoded more (entry ∷ entries) all =
    ap (λ t. t ∷ tokens_in (decoded ++ more) entries) (token_of_more decoded more entry (all 0 entry (omega arith)))
    ∙ ap (λ ts. token_of decoded entry ∷ ts) (tokens_in_more decoded more entries (tail_within (length decoded) entry entries all))

map_append : (f : Entry → Token) (xs ys : List Entry) → map f (xs ++ ys) ≡ map f xs ++ map f ys
map_append f [] ys = refl
map_append f (x ∷ xs) ys = ap (λ t. f x ∷ t) (map_append f xs ys)

-- an entry whose text is kept is a token more
pub pushed : (old new : List ℕ) (entries : List Entry) (entry : Entry) (text : List ℕ) → AllWithin (length old) entries → Keeps text old new entry.text → Adds (record { kind = entry.kind; text = text; int = entry.int; line = entry.line } ∷ []) entries (entries ++ entry ∷ []) old new
pushed old new entries entry text all kept =
    let longer : length old ≤ length new = omega (arith, ap length kept.grown, length-append old kept.more) in
    let same : tokens_in new entries ≡ tokens_in old entries = ap (λ d. tokens_in d entries) kept.grown ∙ tokens_in_more old kept.more entries all in
    let told : token_of new entry ≡ record { kind = entry.kind; text = text; int = entry.int; line = entry.line } = ap (λ t. record { kind = entry.kind; text = t; int = entry.int; line = entry.line }) kept.told in
    record {
      within = All-push (λ e. Within (length new) e.text) entries entry (λ k d h. within_more (length old) (length new) _ longer (all k d h)) kept.within;
      told = map_append (token_of new) entries (entry ∷ []) ∙ ap (λ ts. ts ++ token_of new entry ∷ []) same ∙ ap (λ t. tokens_in old entries ++ t ∷ []) told;
    }

pub kept_plain : (old text : List ℕ) (kept : TokenText) → Within (length old) kept → text_of old kept ≡ text → Keeps text old old kept
kept_plain old text kept within told = record { more = []; grown = sym (append-nil old); within = within; told = told }

pub kept_decoded : (old new text : List ℕ) → new ≡ old ++ text → Keeps text old new (Decoded (length old) (length new))
kept_decoded old new text grown =
    let longer : length old ≤ length new = omega (arith, ap length grown, length-append old text) in
    record {
      more = text;
      grown = grown;
      within = (longer, omega arith);
      told = ap (λ d. slice_range d (length old) (length d)) grown ∙ added_part old text;
    }

-- nothing was added
pub added_none : (entries : List Entry) (decoded : List ℕ) → AllWithin (length decoded) entries → Adds [] entries entries decoded decoded
added_none entries decoded all = record { within = all; told = sym (append-nil (tokens_in decoded entries)) }

-- tokens were added twice
pub added_both : (a b : List Token) (first second third : List Entry) (old middle new : List ℕ) → Adds a first second old middle → Adds b second third middle new → Adds (a ++ b) first third old new
added_both a b first second third old middle new one two =
    record {
      within = two.within;
      told = two.told ∙ ap (λ ts. ts ++ b) one.told ∙ append_assoc (tokens_in old first) a b;
    }

-- a search that found nothing
pub none_found : (found : Option ℕ) (found_none : Bool) (none : Type 0) (some : ℕ → Type 0) → is_some found ≡ not found_none → found_none ≡ true → MatchOption found none some → none
none_found None found_none none some is_none is told = told
none_found (Some k) found_none none some is_none is told = absurd (cc)

pub none_within : (len : ℕ) (entries : List Entry) → entries ≡ [] → AllWithin len entries
none_within len entries none k d h = absurd (omega (arith, ap length none))
