-- The tokens between two places.
use Rattle.std.proofs.Common.{◌≡◌, ◌≤◌, ◌<◌, ℕ, ◌+◌, ◌-◌, List, [], ◌∷◌, ◌++◌, map, take, drop, length, refl, sym, ◌∙◌, ap, arith, append_assoc}
use Rattle.std.proofs.lemmas.List.{take-append-drop, drop-drop, length-map, length-take, length-drop, map-append}
use Rattle.php_token.specs.Token.{Token}
use Rattle.php_ast.specs.Symbol.{Symbol, symbol}
use Rattle.php_reader.specs.Seen.{rest}
use Rattle.php_parse_expression.specs.Exact.{between, symbols}
use Rattle.php_parse_expression.proofs.Wholes.{cancel}

pub split : (tokens : List Token) (at k : ℕ) → at ≤ k → rest tokens at ≡ symbols tokens at k ++ rest tokens k
split tokens at k h =
    ap (map symbol) (sym (take-append-drop (k - at) (drop at tokens))) ∙ map-append symbol (take (k - at) (drop at tokens)) (drop (k - at) (drop at tokens))
    ∙ ap (λ z. symbols tokens at k ++ map symbol z) (drop-drop (k - at) at tokens ∙ ap (λ n. drop n tokens) (omega arith))

pub symbols_length : (tokens : List Token) (at k : ℕ) → at ≤ k → k ≤ length tokens → length (symbols tokens at k) ≡ k - at
symbols_length tokens at k h g = omega (arith, length-map (between tokens at k) symbol, length-take (k - at) (drop at tokens), length-drop at tokens)

-- more of the tokens begin with a further one
pub more_between : (tokens : List Token) (at k j : ℕ) → at ≤ k → k ≤ j → symbols tokens at j ≡ symbols tokens at k ++ symbols tokens k j
more_between tokens at k j h g =
    cancel (symbols tokens at j) (symbols tokens at k ++ symbols tokens k j) (rest tokens j)
    (sym (split tokens at j (omega arith)) ∙ split tokens at k h ∙ ap (λ z. symbols tokens at k ++ z) (split tokens k j g) ∙ sym (append_assoc (symbols tokens at k) (symbols tokens k j) (rest tokens j)))

-- the first of some symbols
pub record First (w u v : List Symbol) : Type 0 where
  pub token : Symbol
  pub more : List Symbol
  pub here : u ≡ token ∷ more
  pub front : w ≡ token ∷ (more ++ v)

pub first_of : (w u v : List Symbol) → w ≡ u ++ v → 0 < length u → First w u v
first_of w [] v is some = absurd (omega arith)
first_of w (t ∷ u) v is some = record { token = t; more = u; here = refl; front = is }

alone : (u : List Symbol) (t : Symbol) (v w : List Symbol) → t ∷ w ≡ u ++ v → length u ≡ 1 → u ≡ t ∷ []
alone [] t v w is len = absurd (omega arith)
alone (x ∷ []) t v w is len = let same : t ≡ x = cc in ap (λ y. y ∷ []) (sym same)
alone (x ∷ y ∷ u) t v w is len = absurd (omega arith)

pub stands : (tokens : List Token) (k : ℕ) (t : Symbol) (w : List Symbol) → rest tokens k ≡ t ∷ w → k ≤ length tokens → k < length tokens
stands tokens k t w is within = omega (arith, ap length is, length-map (drop k tokens) symbol, length-drop k tokens)

-- the tokens up to one and with it
pub with_next : (tokens : List Token) (at k : ℕ) (t : Symbol) (w : List Symbol) → at ≤ k → k < length tokens → rest tokens k ≡ t ∷ w → symbols tokens at (k + 1) ≡ symbols tokens at k ++ t ∷ []
with_next tokens at k t w ahead inside is =
    more_between tokens at k (k + 1) ahead (omega arith)
    ∙ ap (λ z. symbols tokens at k ++ z)
    (alone (symbols tokens k (k + 1)) t (rest tokens (k + 1)) w (sym is ∙ split tokens k (k + 1) (omega arith)) (symbols_length tokens k (k + 1) (omega arith) (omega arith) ∙ omega arith))
