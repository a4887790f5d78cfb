-- What the tables give.
use Rattle.std.proofs.Common.{◌≡◌, ℕ, ◌<◌, ◌≤◌, Bool, true, false, ◌&&◌, ◌||◌, nat_eq, nat_lt, cond, List, [], ◌∷◌, length, Option, Some, None, refl, sym, ap, ◌∙◌, arith, subst, take}
use Rattle.std.specs.Prelude.{IfSome, slice_index}
use Rattle.std.specs.Cmp.Lexicographic.{pointwise}
use Rattle.std.specs.List.{starts_with}
use Rattle.std.proofs.lemmas.Bool.{and_parts, false≢true}
use Rattle.std.proofs.lemmas.Grind.{common_steps}
use Rattle.php_token.specs.declared.kind.Punct.{Punct}
use Rattle.php_lex_pieces.specs.Bytes.{Text}
use Rattle.php_lex_pieces.specs.Punctuators.{punctuators, first_in}

-- no row is empty
abbrev pub no_empty_row : List (Text × Punct) → Bool
no_empty_row [] = true
no_empty_row (row ∷ rows) = nat_lt 0 (length row.0) && no_empty_row rows

nonempty_choice : (b : Bool) (p : Punct) (n : ℕ) (later : Option (Punct × ℕ)) → 0 < n → IfSome later (λ f. 0 < f.1) → IfSome (cond b (Some (p, n)) later) (λ f. 0 < f.1)
nonempty_choice true p n later positive more = positive
nonempty_choice false p n later positive more = more

first_in_positive : (rows : List (Text × Punct)) (text : Text) → no_empty_row rows ≡ true → IfSome (first_in rows text) (λ f. 0 < f.1)
first_in_positive [] text nonempty = tt
first_in_positive (row ∷ rows) text nonempty =
    let positive : 0 < length row.0 = grind (arith, common_steps) in
    let rest : no_empty_row rows ≡ true = grind (arith, common_steps) in
    nonempty_choice (starts_with nat_eq text row.0) row.1 (length row.0) (first_in rows text) positive (first_in_positive rows text rest)

both : (found : Option (Punct × ℕ)) (len : ℕ) → IfSome found (λ f. 0 < f.1) → IfSome found (λ f. f.1 ≤ len) → IfSome found (λ f. (0 < f.1) × (f.1 ≤ len))
both None len positive within = tt
both (Some f) len positive within = (positive, within)

-- what a table without empty rows gives has at least one byte
pub first_in_nonempty : (rows : List (Text × Punct)) (text : Text) (found : Option (Punct × ℕ)) → no_empty_row rows ≡ true → found ≡ first_in rows text → IfSome found (λ f. f.1 ≤ length text) → IfSome found (λ f. (0 < f.1) × (f.1 ≤ length text))
first_in_nonempty rows text found nonempty is within =
    both found (length text) (subst (λ f. IfSome f (λ p. 0 < p.1)) (sym is) (first_in_positive rows text nonempty)) within

-- ---- by the first byte

-- the rows that begin with a byte
abbrev pub begin_with : ℕ → List (Text × Punct) → List (Text × Punct)
begin_with b [] = []
begin_with b (row ∷ rows) = cond (nat_eq (slice_index row.0 0) b) (row ∷ begin_with b rows) (begin_with b rows)

with_row : (begins ends : Bool) (row : Text × Punct) (some rows : List (Text × Punct)) (text : Text) → starts_with nat_eq text row.0 ≡ (begins && ends)
    → first_in some text ≡ first_in rows text → first_in (cond begins (row ∷ some) some) text ≡ first_in (row ∷ rows) text
with_row true ends row some rows text is same = ap (λ f. cond (starts_with nat_eq text row.0) (Some (row.1, length row.0)) f) same
with_row false ends row some rows text is same = same ∙ sym (ap (λ v. cond v (Some (row.1, length row.0)) (first_in rows text)) is)

never : (begins : Bool) → false ≡ (begins && false)
never true = refl
never false = refl

-- rows that begin otherwise than the text don't count
begins_alike : (b : ℕ) (rows : List (Text × Punct)) (text : Text) → slice_index text 0 ≡ b → no_empty_row rows ≡ true → first_in (begin_with b rows) text ≡ first_in rows text
begins_alike b [] text at nonempty = refl
begins_alike b (([], p) ∷ rows) text at nonempty = absurd (cc)
begins_alike b ((c ∷ cs, p) ∷ rows) [] at nonempty =
    let more : no_empty_row rows ≡ true = grind (arith, common_steps) in
    with_row (nat_eq c b) false (c ∷ cs, p) (begin_with b rows) rows [] (never (nat_eq c b)) (begins_alike b rows [] at more)
begins_alike b ((c ∷ cs, p) ∷ rows) (x ∷ rest) at nonempty =
    let more : no_empty_row rows ≡ true = grind (arith, common_steps) in
    let ends = pointwise nat_eq cs (take (length cs) rest) in
    with_row (nat_eq c b) ends (c ∷ cs, p) (begin_with b rows) rows (x ∷ rest) (ap (λ k. nat_eq c k && ends) at) (begins_alike b rows (x ∷ rest) at more)

pub narrowed : (b : ℕ) (text : Text) → slice_index text 0 ≡ b → first_in (begin_with b punctuators) text ≡ first_in punctuators text
unfolding punctuators
narrowed b text at = begins_alike b punctuators text at refl

-- ---- where a text begins with no byte of a table

abbrev pub IsOther : ℕ → List ℕ → Type 0
IsOther b [] = Unit {0}
IsOther b (x ∷ bytes) = (b ≡ x → ⊥) × IsOther b bytes

abbrev is_among : List ℕ → ℕ → Bool
is_among [] b = false
is_among (x ∷ bytes) b = nat_eq x b || is_among bytes b

-- whether each row begins with one of the bytes
abbrev begin_among : List ℕ → List (Text × Punct) → Bool
begin_among bytes [] = true
begin_among bytes (row ∷ rows) = is_among bytes (slice_index row.0 0) && begin_among bytes rows

unequal : (b x : ℕ) → (b ≡ x → ⊥) → nat_eq x b ≡ false
unequal b x other = grind (arith, common_steps)

other_is_not_among : (b : ℕ) (bytes : List ℕ) → IsOther b bytes → is_among bytes b ≡ false
other_is_not_among b [] other = refl
other_is_not_among b (x ∷ bytes) other = ap (λ t. t || is_among bytes b) (unequal b x other.0) ∙ other_is_not_among b bytes other.1

differs_from : (b x : ℕ) (bytes : List ℕ) → is_among bytes b ≡ false → is_among bytes x ≡ true → nat_eq x b ≡ false
differs_from b x bytes none some = unequal b x (λ is. absurd (false≢true (sym none ∙ ap (is_among bytes) is ∙ some)))

none_begins : (b : ℕ) (bytes : List ℕ) (rows : List (Text × Punct)) → IsOther b bytes → begin_among bytes rows ≡ true → begin_with b rows ≡ []
none_begins b bytes [] other begin = refl
none_begins b bytes (row ∷ rows) other begin =
    let differs : nat_eq (slice_index row.0 0) b ≡ false = differs_from b (slice_index row.0 0) bytes (other_is_not_among b bytes other) (and_parts _ _ begin).0 in
    ap (λ begins. cond begins (row ∷ begin_with b rows) (begin_with b rows)) differs ∙ none_begins b bytes rows other (and_parts _ _ begin).1

pub begins_otherwise : (b : ℕ) (bytes : List ℕ) (text : Text) → slice_index text 0 ≡ b → begin_among bytes punctuators ≡ true → IsOther b bytes → None ≡ first_in punctuators text
begins_otherwise b bytes text at begin other = ap (λ rows. first_in rows text) (sym (none_begins b bytes punctuators other begin)) ∙ narrowed b text at
