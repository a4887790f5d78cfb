-- Words as lists of bytes, and whether they can be arguments.
use Rattle.std.proofs.Common.{◌≡◌, ℕ, suc, ◌+◌, ◌<◌, ◌≤◌, Bool, true, false, List, [], ◌∷◌, length, drop, get_or, refl, sym, ap, ap₂, ◌∙◌, arith, drop-cons}
use Rattle.std.specs.Prelude.{◌↔◌, IsTrue, string_bytes}
use Rattle.std.specs.declared.string.String.{String}
use Rattle.std.specs.declared.alloc.Global.{Global}
use Rattle.std.specs.List.{All, list_all}
use Rattle.std.proofs.lemmas.Bool.{and_parts, and_from, leb-true, le-leb, false≢true}
use Rattle.std.proofs.lemmas.List.Elements.{All-nil, All-cons, All-head, All-tail}
use Rattle.std.proofs.lemmas.List.{drop_all}
use Rattle.php_value.specs.declared.scalar.Scalar.TheVariants as scalar
use Rattle.php_entries.specs.Listing.{ENTRY_LIMIT}
use Rattle.php_memdef.specs.declared.place.Step.TheVariants.{Push}
use Rattle.php_memdef.specs.Operations.{Operation}
use Rattle.php_memdef.specs.Operations as op
use Rattle.php_memdef.specs.Sound.{TEXT_LIMIT, IsShort}
use Rattle.php_memdef.specs.Deciders.{is_short}
use Rattle.php_actions.specs.Start.{variable_place}
use Rattle.php_runnable.specs.Arguments.{AreArguments}
use Rattle.php_vm_callers.specs.Beginnings.{bytes_of, words_added}

pub bytes_count : (words : List (String Global)) → length (bytes_of words) ≡ length words
bytes_count [] = refl
bytes_count (word ∷ words) = ap suc (bytes_count words)

-- from a word on
pub words_from : (words : List (String Global)) (i : ℕ) (word : String Global) → i < length words → word ≡ get_or words i word → drop i words ≡ word ∷ drop (i + 1) words
words_from words i word lt is =
    let later : suc i ≡ i + 1 = omega arith in
    drop-cons words i word lt ∙ ap₂ (λ w ws. w ∷ ws) (sym is) (ap (λ j. drop j words) later)

abbrev pub added_before : ℕ → List ℕ → List Operation → List Operation
added_before b bytes os = op.push b (scalar.Str bytes) ∷ op.assign b (variable_place b 0 (Push ∷ [])) ∷ os

pub words_left : (b : ℕ) (words : List (String Global)) (i : ℕ) (word : String Global) (bytes : List ℕ) → i < length words → word ≡ get_or words i word → bytes ≡ string_bytes word
    → words_added b (bytes_of (drop i words)) ≡ added_before b bytes (words_added b (bytes_of (drop (i + 1) words)))
words_left b words i word bytes lt is same =
    ap (λ ws. words_added b (bytes_of ws)) (words_from words i word lt is) ∙ ap (λ t. added_before b t (words_added b (bytes_of (drop (i + 1) words)))) (sym same)

pub none_left : (b : ℕ) (words : List (String Global)) (i : ℕ) → length words ≤ i → words_added b (bytes_of (drop i words)) ≡ []
none_left b words i l = ap (λ ws. words_added b (bytes_of ws)) (drop_all i words l)

abbrev is_short_word : String Global → Bool
is_short_word word = is_short (string_bytes word)

all_short : (words : List (String Global)) → list_all is_short_word words ≡ true → All IsShort (bytes_of words)
all_short [] h = All-nil IsShort
all_short (word ∷ words) h =
    let both = and_parts (is_short_word word) (list_all is_short_word words) h in
    All-cons IsShort (string_bytes word) (bytes_of words) (leb-true (length (string_bytes word)) TEXT_LIMIT both.0) (all_short words both.1)

short_all : (words : List (String Global)) → All IsShort (bytes_of words) → list_all is_short_word words ≡ true
short_all [] h = refl
short_all (word ∷ words) h =
    and_from (is_short_word word) (list_all is_short_word words)
    (le-leb (length (string_bytes word)) TEXT_LIMIT (All-head IsShort (string_bytes word) (bytes_of words) h))
    (short_all words (All-tail IsShort (string_bytes word) (bytes_of words) h))

pub arguments-decided : (words : List (String Global)) (r : Bool) → length words ≤ ENTRY_LIMIT → r ≡ list_all is_short_word words → IsTrue r ↔ AreArguments (bytes_of words)
arguments-decided words r few is = (
  λ h. record { few = omega (arith, few, bytes_count words); short = all_short words (sym is ∙ h) },
  λ are. is ∙ short_all words are.short,
)

pub too_many : (words : List (String Global)) → ENTRY_LIMIT < length words → IsTrue false ↔ AreArguments (bytes_of words)
too_many words many = (λ h. absurd (false≢true h), λ are. absurd (omega (arith, many, are.few, bytes_count words)))
