-- The piece of each mode is the longest of its forms.
use Rattle.std.proofs.Common.{◌≡◌, ◌⊎◌, ℕ, ◌<◌, ◌≤◌, false, length, Ok, Err, refl, sym, ap, ◌∙◌, subst, inl, inr, ⊎_elim, le_antisymm}
use Rattle.std.specs.Prelude.{slice_index}
use Rattle.std.specs.Char.{is_ascii_digit}
use Rattle.php_lex.specs.declared.fail.LexFail.{LexFail}
use Rattle.php_lex.specs.declared.fail.LexFail.TheVariants as Fail
use Rattle.php_lex_pieces.specs.Bytes.{Text}
use Rattle.php_lex.specs.Modes.{Mode, outside, script, quotes, heredoc, braces, block, name_due, name_read, brackets, index, brace_due, subject, member_due, key_due, key_read}
use Rattle.php_lex.specs.Pieces.{Piece, Found, piece, script_piece, template_piece}
use Rattle.php_lex_pieces.specs.Templates.{quote, label}
use Rattle.php_lex_laws.specs.Longest.{Form, HasForm, given, Exception, IsNoPiece, fault_of, IsOtherFault, NoException, NoForm, IsPieceAt, IsFaultAt}
use Rattle.php_lex_laws.specs.ScriptFaults as fault
use Rattle.php_lex_laws.specs.ScriptForms as form
use Rattle.php_lex_laws.proofs.KeyLemmas.{key_reaches, key_outcome}
use Rattle.php_lex_laws.proofs.OutsideLemmas.{outside_reaches, outside_outcome}
use Rattle.php_lex_laws.proofs.PartLemmas.{subject_reaches, subject_outcome, member_reaches, member_outcome, name_reaches_all, name_outcome, key_end_reaches, key_end_outcome, name_end_reaches, name_end_outcome, brace_end_reaches, brace_end_outcome}
use Rattle.php_lex_laws.proofs.RangeLemmas.{no_both}
use Rattle.php_lex_laws.proofs.ScriptFault.{faulty}
use Rattle.php_lex_laws.proofs.ScriptOutcome as script_told
use Rattle.php_lex_laws.proofs.ScriptReach as script_reach
use Rattle.php_lex_laws.proofs.Standing.{Reaches, Outcome}
use Rattle.php_lex_laws.proofs.TemplateLaws as template_told

-- ---- each mode

-- no exception stands where a byte is bad
no_exception : (mode : Mode) (line : ℕ) (text : Text) (e : fault.ScriptFault) → script_piece mode line text ≡ Err (Fail.BadByte line) → is_ascii_digit (slice_index text 0) ≡ false → fault.IsNoScriptPiece e text → ⊥
no_exception mode line text e is no_digit bars = by_fault mode line text e no_digit bars (sym (faulty mode line e text bars) ∙ is)
  where
    by_fault : (mode : Mode) (line : ℕ) (text : Text) (e : fault.ScriptFault) → is_ascii_digit (slice_index text 0) ≡ false → fault.IsNoScriptPiece e text → ◌≡◌ {A = Found} (Err (fault.script_fault e line)) (Err (Fail.BadByte line)) → ⊥
    by_fault mode line text fault.endless_comment no_digit bars same = cc
    by_fault mode line text fault.endless_raw no_digit bars same = cc
    by_fault mode line text fault.endless_nowdoc no_digit bars same = cc
    by_fault mode line text fault.float no_digit bars same = cc
    by_fault mode line text fault.octal_digit no_digit bars same = no_both (is_ascii_digit (slice_index text 0)) (ap is_ascii_digit bars.0) no_digit
    by_fault mode line text fault.large_decimal no_digit bars same = cc
    by_fault mode line text fault.large_octal no_digit bars same = cc
    by_fault mode line text fault.large_hexadecimal no_digit bars same = cc
    by_fault mode line text fault.large_binary no_digit bars same = cc

-- what a script's outcome is, without what a byte says
abbrev ScriptOutcome : Mode → ℕ → Text → Found → Type 0
ScriptOutcome mode line text (Ok p) = (f : form.ScriptForm) × (form.HasScriptForm f text p.len × (p ≡ form.script_given mode f line text p.len))
ScriptOutcome mode line text (Err failed) =
    ((e : fault.ScriptFault) × (fault.IsNoScriptPiece e text × (failed ≡ fault.script_fault e line)))
    ⊎ (((e : fault.ScriptFault) → fault.IsNoScriptPiece e text → ⊥) × (failed ≡ Fail.BadByte line))

script_outcome : (mode : Mode) (line : ℕ) (text : Text) → ScriptOutcome mode line text (script_piece mode line text)
script_outcome mode line text = by_found (script_piece mode line text) refl (script_told.outcome mode line text)
  where
    by_found : (found : Found) → script_piece mode line text ≡ found → script_told.Outcome mode line text found → ScriptOutcome mode line text found
    by_found (Ok p) is told = told
    by_found (Err failed) is told = ⊎_elim inl (λ bad. inr ((λ e bars. no_exception mode line text e (is ∙ ap (λ f. Err f) bad.1) bad.0 bars), bad.1)) told

pub all_outcome : (mode : Mode) (line : ℕ) (text : Text) → 0 < length text → Outcome mode line text (piece mode line text)
all_outcome outside line text some = outside_outcome line text some
all_outcome script line text some = by_found (script_piece script line text) (script_outcome script line text)
  where
    by_found : (found : Found) → ScriptOutcome script line text found → Outcome script line text found
    by_found (Ok p) told = told
    by_found (Err failed) told = told
all_outcome (quotes begun) line text some = by_found (template_piece quote begun line text) (template_told.template_outcome quote begun line text some)
  where
    by_found : (found : Found) → template_told.Outcome quote begun line text found → Outcome (quotes begun) line text found
    by_found (Ok p) told = told
    by_found (Err failed) told = inl told
all_outcome (heredoc name begun) line text some = by_found (template_piece (label name) begun line text) (template_told.template_outcome (label name) begun line text some)
  where
    by_found : (found : Found) → template_told.Outcome (label name) begun line text found → Outcome (heredoc name begun) line text found
    by_found (Ok p) told = told
    by_found (Err failed) told = inl told
all_outcome (braces begun) line text some = by_found (script_piece (braces begun) line text) (script_outcome (braces begun) line text)
  where
    by_found : (found : Found) → ScriptOutcome (braces begun) line text found → Outcome (braces begun) line text found
    by_found (Ok p) told = told
    by_found (Err failed) told = told
all_outcome block line text some = by_found (script_piece block line text) (script_outcome block line text)
  where
    by_found : (found : Found) → ScriptOutcome block line text found → Outcome block line text found
    by_found (Ok p) told = told
    by_found (Err failed) told = told
all_outcome (name_due begun) line text some = name_outcome begun line text
all_outcome (name_read begun) line text some = name_end_outcome begun line text
all_outcome (brackets begun) line text some = by_found (script_piece (brackets begun) line text) (script_outcome (brackets begun) line text)
  where
    by_found : (found : Found) → ScriptOutcome (brackets begun) line text found → Outcome (brackets begun) line text found
    by_found (Ok p) told = told
    by_found (Err failed) told = told
all_outcome index line text some = by_found (script_piece index line text) (script_outcome index line text)
  where
    by_found : (found : Found) → ScriptOutcome index line text found → Outcome index line text found
    by_found (Ok p) told = told
    by_found (Err failed) told = told
all_outcome (brace_due begun) line text some = brace_end_outcome begun line text
all_outcome (subject begun) line text some = subject_outcome begun line text
all_outcome (member_due begun) line text some = member_outcome begun line text
all_outcome (key_due begun) line text some = key_outcome begun line text
all_outcome (key_read begun) line text some = key_end_outcome begun line text

pub all_reaches : (mode : Mode) (line : ℕ) (f : Form mode) (text : Text) (n : ℕ) → HasForm mode f text n → Reaches mode line f text n (piece mode line text)
all_reaches outside line f text n has = outside_reaches line f text n has
all_reaches script line f text n has = by_found (script_piece script line text) (script_reach.reaches script line f text n has)
  where
    by_found : (found : Found) → script_reach.Reaches script line f text n found → Reaches script line f text n found
    by_found (Ok p) told = told
    by_found (Err failed) told = told
all_reaches (quotes begun) line f text n has = by_found (template_piece quote begun line text) (template_told.template_reaches quote begun line f text n has)
  where
    by_found : (found : Found) → template_told.Reaches quote begun line f text n found → Reaches (quotes begun) line f text n found
    by_found (Ok p) told = told
    by_found (Err failed) told = told
all_reaches (heredoc name begun) line f text n has = by_found (template_piece (label name) begun line text) (template_told.template_reaches (label name) begun line f text n has)
  where
    by_found : (found : Found) → template_told.Reaches (label name) begun line f text n found → Reaches (heredoc name begun) line f text n found
    by_found (Ok p) told = told
    by_found (Err failed) told = told
all_reaches (braces begun) line f text n has = by_found (script_piece (braces begun) line text) (script_reach.reaches (braces begun) line f text n has)
  where
    by_found : (found : Found) → script_reach.Reaches (braces begun) line f text n found → Reaches (braces begun) line f text n found
    by_found (Ok p) told = told
    by_found (Err failed) told = told
all_reaches block line f text n has = by_found (script_piece block line text) (script_reach.reaches block line f text n has)
  where
    by_found : (found : Found) → script_reach.Reaches block line f text n found → Reaches block line f text n found
    by_found (Ok p) told = told
    by_found (Err failed) told = told
all_reaches (name_due begun) line f text n has = name_reaches_all begun line f text n has
all_reaches (name_read begun) line f text n has = name_end_reaches begun line f text n has
all_reaches (brackets begun) line f text n has = by_found (script_piece (brackets begun) line text) (script_reach.reaches (brackets begun) line f text n has)
  where
    by_found : (found : Found) → script_reach.Reaches (brackets begun) line f text n found → Reaches (brackets begun) line f text n found
    by_found (Ok p) told = told
    by_found (Err failed) told = told
all_reaches index line f text n has = by_found (script_piece index line text) (script_reach.reaches index line f text n has)
  where
    by_found : (found : Found) → script_reach.Reaches index line f text n found → Reaches index line f text n found
    by_found (Ok p) told = told
    by_found (Err failed) told = told
all_reaches (brace_due begun) line f text n has = brace_end_reaches begun line f text n has
all_reaches (subject begun) line f text n has = subject_reaches begun line f text n has
all_reaches (member_due begun) line f text n has = member_reaches begun line f text n has
all_reaches (key_due begun) line f text n has = key_reaches begun line f text n has
all_reaches (key_read begun) line f text n has = key_end_reaches begun line f text n has

pub all_faulty : (mode : Mode) (line : ℕ) (e : Exception mode) (text : Text) → IsNoPiece mode e text → piece mode line text ≡ Err (fault_of mode e line)
all_faulty outside line e text bars = absurd bars
all_faulty script line e text bars = faulty script line e text bars
all_faulty (quotes begun) line e text bars = template_told.template_faulty quote begun line e text bars
all_faulty (heredoc name begun) line e text bars = template_told.template_faulty (label name) begun line e text bars
all_faulty (braces begun) line e text bars = faulty (braces begun) line e text bars
all_faulty block line e text bars = faulty block line e text bars
all_faulty (name_due begun) line e text bars = absurd bars
all_faulty (name_read begun) line e text bars = absurd bars
all_faulty (brackets begun) line e text bars = faulty (brackets begun) line e text bars
all_faulty index line e text bars = faulty index line e text bars
all_faulty (brace_due begun) line e text bars = absurd bars
all_faulty (subject begun) line e text bars = absurd bars
all_faulty (member_due begun) line e text bars = absurd bars
all_faulty (key_due begun) line e text bars = absurd bars
all_faulty (key_read begun) line e text bars = absurd bars

-- ---- the laws

same_piece : (p q : Piece) → ◌≡◌ {A = Found} (Ok p) (Ok q) → p ≡ q
same_piece p q is = cc

pub longest_is : (mode : Mode) (line : ℕ) (text : Text) (n : ℕ) (f : Form mode) → 0 < length text → IsPieceAt mode text n f → piece mode line text ≡ Ok (given mode f line text n)
longest_is mode line text n f some at =
    by_found (piece mode line text) refl (all_outcome mode line text some) (all_reaches mode line f text n at.has)
  where
    by_found : (found : Found) → piece mode line text ≡ found → Outcome mode line text found → Reaches mode line f text n found → found ≡ Ok (given mode f line text n)
    by_found (Ok p) is told reaches =
        let same : n ≡ p.len = le_antisymm reaches.0 (at.longest told.0 p.len told.1.0) in
        ap (λ q. Ok q) (reaches.1 same)
    by_found (Err failed) is told reaches = absurd (at.no_exception reaches.0 reaches.1)

no_exception_there : (mode : Mode) (line : ℕ) (text : Text) (p : Piece) → piece mode line text ≡ Ok p → NoException mode text
no_exception_there mode line text p is e bars = no_both_found p (fault_of mode e line) (sym is ∙ all_faulty mode line e text bars)
  where
    no_both_found : (p : Piece) (failed : LexFail) → ◌≡◌ {A = Found} (Ok p) (Err failed) → ⊥
    no_both_found p failed same = cc

-- no form goes further than the piece that stands there
pub no_longer : (mode : Mode) (line : ℕ) (text : Text) (p : Piece) → piece mode line text ≡ Ok p → (f : Form mode) (n : ℕ) → HasForm mode f text n → n ≤ p.len
no_longer mode line text p is f n has = (subst (Reaches mode line f text n) is (all_reaches mode line f text n has)).0

-- where a piece stands, and bytes of a form as long as it, these bytes are the piece
pub piece_at : (mode : Mode) (line : ℕ) (text : Text) (p : Piece) (f : Form mode) → piece mode line text ≡ Ok p → HasForm mode f text p.len → IsPieceAt mode text p.len f
piece_at mode line text p f is has = record { has = has; longest = no_longer mode line text p is; no_exception = no_exception_there mode line text p is }

pub is_longest : (mode : Mode) (line : ℕ) (text : Text) (p : Piece) → 0 < length text → piece mode line text ≡ Ok p → (f : Form mode) × (IsPieceAt mode text p.len f × (p ≡ given mode f line text p.len))
is_longest mode line text p some is =
    let told = subst (Outcome mode line text) is (all_outcome mode line text some) in
    (told.0, (piece_at mode line text p told.0 is told.1.0, told.1.1))

no_form : (mode : Mode) (line : ℕ) (text : Text) (failed : LexFail) → piece mode line text ≡ Err failed → NoException mode text → NoForm mode text
no_form mode line text failed is none f n has = let bars = subst (Reaches mode line f text n) is (all_reaches mode line f text n has) in none bars.0 bars.1

pub fault_is : (mode : Mode) (line : ℕ) (text : Text) (failed : LexFail) → 0 < length text → piece mode line text ≡ Err failed → IsFaultAt mode line text failed
fault_is mode line text failed some is =
    ⊎_elim inl (λ none. inr ((no_form mode line text failed is none.0, none.0), none.1)) (subst (Outcome mode line text) is (all_outcome mode line text some))

pub at_fault : (mode : Mode) (line : ℕ) (text : Text) (failed : LexFail) → 0 < length text → IsFaultAt mode line text failed → piece mode line text ≡ Err failed
at_fault mode line text failed some at =
    ⊎_elim (λ bars. all_faulty mode line bars.0 text bars.1.0 ∙ ap (λ f. Err f) (sym bars.1.1))
    (λ none. by_found (piece mode line text) (all_outcome mode line text some) none) at
  where
    same_fault : (mode : Mode) (line : ℕ) (one two : LexFail) → IsOtherFault mode line one → IsOtherFault mode line two → one ≡ two
    same_fault outside line one two is as_well = absurd is
    same_fault script line one two is as_well = is ∙ sym as_well
    same_fault (quotes begun) line one two is as_well = absurd is
    same_fault (heredoc name begun) line one two is as_well = absurd is
    same_fault (braces begun) line one two is as_well = is ∙ sym as_well
    same_fault block line one two is as_well = is ∙ sym as_well
    same_fault (name_due begun) line one two is as_well = is ∙ sym as_well
    same_fault (name_read begun) line one two is as_well = is ∙ sym as_well
    same_fault (brackets begun) line one two is as_well = is ∙ sym as_well
    same_fault index line one two is as_well = is ∙ sym as_well
    same_fault (brace_due begun) line one two is as_well = is ∙ sym as_well
    same_fault (subject begun) line one two is as_well = is ∙ sym as_well
    same_fault (member_due begun) line one two is as_well = is ∙ sym as_well
    same_fault (key_due begun) line one two is as_well = is ∙ sym as_well
    same_fault (key_read begun) line one two is as_well = is ∙ sym as_well

    by_found : (found : Found) → Outcome mode line text found → (NoForm mode text × NoException mode text) × IsOtherFault mode line failed → found ≡ Err failed
    by_found (Ok p) told none = absurd (none.0.0 told.0 p.len told.1.0)
    by_found (Err other) told none =
        ⊎_elim (λ bars. absurd (none.0.1 bars.0 bars.1.0)) (λ also. ap (λ f. Err f) (same_fault mode line other failed also.1 none.1)) told
