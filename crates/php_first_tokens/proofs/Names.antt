-- Laws on the names of variables and their numbers.
use Rattle.std.proofs.Common.{◌≡◌, ℕ, ◌+◌, inl, inr, Bool, true, false, ◌||◌, List, [], ◌∷◌, ◌++◌, Some, refl, sym, ◌∙◌, ap}
use Rattle.std.specs.List.{list_any, position_or_len}
use Rattle.std.specs.Str.{bytes_eq}
use Rattle.std.specs.Borrow.{Bor}
use Rattle.std.proofs.lemmas.Bool.{cases_Bool, true≢false}
use Rattle.std.proofs.lemmas.List.{append-nil, append_assoc, map_push}
use Rattle.std.proofs.lemmas.Slice.Eq.{bytes_eq-Decides}
use Rattle.indexmap.specs.IndexSet.{insert_key}
use Rattle.php_token.specs.Token as whole
use Rattle.php_token.specs.declared.kind.TokenKind.{TokenKind}
use Rattle.php_token.specs.declared.kind.TokenKind.TheVariants as kind
use Rattle.php_first_tokens.specs.declared.token.Lexeme.TheVariants.{Variable}
use Rattle.php_first_tokens.specs.Lexemes.{with_name, number_in, named_by, names_from, names_of, lexeme_of}

-- ---- the first place at which a test passes

module _ {X : Type 0} (p : X → Bool) where
  any_in_front : (xs more : List X) → list_any p xs ≡ true → list_any p (xs ++ more) ≡ true
  any_in_front [] more h = absurd (true≢false (sym h))
  any_in_front (x ∷ xs) more h = elim (cases_Bool (p x)) [
    | inl holds ↦ rw holds refl
    | inr fails ↦ rw fails (any_in_front xs more (rw fails at h))
  ]

  any_last : (xs : List X) (x : X) → p x ≡ true → list_any p (xs ++ x ∷ []) ≡ true
  any_last [] x h = rw h refl
  any_last (y ∷ xs) x h = elim (cases_Bool (p y)) [
    | inl holds ↦ rw holds refl
    | inr fails ↦ rw fails (any_last xs x h)
  ]

  place_kept : (xs more : List X) → list_any p xs ≡ true → position_or_len p (xs ++ more) ≡ position_or_len p xs
  place_kept [] more h = absurd (true≢false (sym h))
  place_kept (x ∷ xs) more h = elim (cases_Bool (p x)) [
    | inl holds ↦ rw holds refl
    | inr fails ↦ rw fails (ap (λ n. 1 + n) (place_kept xs more (rw fails at h)))
  ]

  place_last : (xs : List X) (x : X) → list_any p xs ≡ false → p x ≡ true → position_or_len p (xs ++ x ∷ []) ≡ position_or_len p xs
  place_last [] x none h = rw h refl
  place_last (y ∷ xs) x none h = elim (cases_Bool (p y)) [
    | inl holds ↦ absurd (true≢false (rw holds at none))
    | inr fails ↦ rw fails (ap (λ n. 1 + n) (place_last xs x (rw fails at none) h))
  ]

-- ---- names behind references

abbrev pub same_name : Bor (List ℕ) → Bor (List ℕ) → Bool
same_name a b = bytes_eq a.now b.now

any_name : (name : List ℕ) (keys : List (Bor (List ℕ))) → list_any (λ key. bytes_eq name key.now) keys ≡ list_any (bytes_eq name) (names_of keys)
any_name name [] = refl
any_name name (key ∷ keys) = ap (λ b. bytes_eq name key.now || b) (any_name name keys)

place_of_name : (name : List ℕ) (keys : List (Bor (List ℕ))) → position_or_len (λ key. bytes_eq name key.now) keys ≡ number_in (names_of keys) name
place_of_name name [] = refl
place_of_name name (key ∷ keys) = elim (cases_Bool (bytes_eq name key.now)) [
  | inl same ↦ rw same refl
  | inr other ↦ rw other (ap (λ n. 1 + n) (place_of_name name keys))
]

is_itself : (name : List ℕ) → bytes_eq name name ≡ true
is_itself name = (bytes_eq-Decides name name).1 refl

-- a name that joins
pub joins : (keys new : List (Bor (List ℕ))) (name : Bor (List ℕ)) → new ≡ insert_key same_name keys name → names_of new ≡ with_name (names_of keys) name.now
joins keys new name inserted = elim (cases_Bool (list_any (same_name name) keys)) [
  | inl known ↦
      let there : list_any (bytes_eq name.now) (names_of keys) ≡ true = sym (any_name name.now keys) ∙ known in
      rw there (ap names_of (rw known at inserted))
  | inr unknown ↦
      let missing : list_any (bytes_eq name.now) (names_of keys) ≡ false = sym (any_name name.now keys) ∙ unknown in
      rw missing (ap names_of (rw unknown at inserted) ∙ map_push (λ (key : Bor (List ℕ)). key.now) keys name)
]

number_with : (names : List (List ℕ)) (name : List ℕ) → number_in (with_name names name) name ≡ number_in names name
number_with names name = elim (cases_Bool (list_any (bytes_eq name) names)) [
  | inl known ↦ rw known refl
  | inr unknown ↦ rw unknown (place_last (bytes_eq name) names name unknown (is_itself name))
]

-- the number that it gets
pub numbered : (keys new : List (Bor (List ℕ))) (name : Bor (List ℕ)) (k : ℕ) → new ≡ insert_key same_name keys name → k ≡ position_or_len (same_name name) keys →
    k ≡ number_in (names_of new) name.now
numbered keys new name k inserted is =
    is ∙ place_of_name name.now keys ∙ sym (number_with (names_of keys) name.now) ∙ ap (λ ns. number_in ns name.now) (sym (joins keys new name inserted))

-- ---- further names change no number

pub record BeginWith (names all : List (List ℕ)) : Type 0 where
  pub more : List (List ℕ)
  pub whole : all ≡ names ++ more

with_begins : (names : List (List ℕ)) (name : List ℕ) → BeginWith names (with_name names name)
with_begins names name = elim (cases_Bool (list_any (bytes_eq name) names)) [
  | inl known ↦ record { more = []; whole = rw known (sym (append-nil names)) }
  | inr unknown ↦ record { more = name ∷ []; whole = rw unknown refl }
]

named_begins : (names : List (List ℕ)) (text : List ℕ) (k : TokenKind) → BeginWith names (named_by names text k)
named_begins names text kind.Variable = with_begins names text
named_begins names text kind.Inline = record { more = []; whole = sym (append-nil names) }
named_begins names text kind.Name = record { more = []; whole = sym (append-nil names) }
named_begins names text (kind.Keyword word) = record { more = []; whole = sym (append-nil names) }
named_begins names text kind.Int = record { more = []; whole = sym (append-nil names) }
named_begins names text kind.Str = record { more = []; whole = sym (append-nil names) }
named_begins names text kind.Quote = record { more = []; whole = sym (append-nil names) }
named_begins names text kind.Piece = record { more = []; whole = sym (append-nil names) }
named_begins names text kind.Part = record { more = []; whole = sym (append-nil names) }
named_begins names text kind.EndPart = record { more = []; whole = sym (append-nil names) }
named_begins names text kind.Unquote = record { more = []; whole = sym (append-nil names) }
named_begins names text (kind.Punct punct) = record { more = []; whole = sym (append-nil names) }
named_begins names text (kind.Cast cast) = record { more = []; whole = sym (append-nil names) }

pub names_begin : (names : List (List ℕ)) (tokens : List whole.Token) → BeginWith names (names_from names tokens)
names_begin names [] = record { more = []; whole = sym (append-nil names) }
names_begin names (token ∷ tokens) =
    let one = named_begins names token.text token.kind in
    let rest = names_begin (named_by names token.text token.kind) tokens in
    record {
      more = one.more ++ rest.more;
      whole = rest.whole ∙ ap (λ ns. ns ++ rest.more) one.whole ∙ append_assoc names one.more rest.more;
    }

is_named : (names : List (List ℕ)) (name : List ℕ) → list_any (bytes_eq name) (with_name names name) ≡ true
is_named names name = elim (cases_Bool (list_any (bytes_eq name) names)) [
  | inl known ↦ rw known known
  | inr unknown ↦ rw unknown (any_last (bytes_eq name) names name (is_itself name))
]

-- what a token is among the names up to it, it is among all
pub lexeme_kept : (names more : List (List ℕ)) (at : ℕ) (t : whole.Token) (k : TokenKind) →
    lexeme_of (named_by names t.text k ++ more) at t k ≡ lexeme_of (named_by names t.text k) at t k
lexeme_kept names more at t kind.Variable =
    ap (λ n. Some (Variable n)) (place_kept (bytes_eq t.text) (with_name names t.text) more (is_named names t.text))
lexeme_kept names more at t kind.Inline = refl
lexeme_kept names more at t kind.Name = refl
lexeme_kept names more at t (kind.Keyword word) = refl
lexeme_kept names more at t kind.Int = refl
lexeme_kept names more at t kind.Str = refl
lexeme_kept names more at t kind.Quote = refl
lexeme_kept names more at t kind.Piece = refl
lexeme_kept names more at t kind.Part = refl
lexeme_kept names more at t kind.EndPart = refl
lexeme_kept names more at t kind.Unquote = refl
lexeme_kept names more at t (kind.Punct punct) = refl
lexeme_kept names more at t (kind.Cast cast) = refl
