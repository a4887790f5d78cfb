-- The tokens so far, and those of the rest.
use Rattle.std.proofs.Common.{◌≡◌, ℕ, ◌+◌, ◌<◌, ◌≤◌, List, [], ◌∷◌, ◌++◌, length, drop, Option, Some, None, refl, sym, ◌∙◌, ap, add-one}
use Rattle.std.specs.Prelude.{option_map}
use Rattle.std.proofs.lemmas.List.{append-nil, append_assoc, drop_all}
use Rattle.std.proofs.Math.Seq.{drop-cons}
use Rattle.php_token.specs.Token as whole
use Rattle.php_token.specs.Token.{token_at, no_token}
use Rattle.php_first_tokens.specs.declared.token.Lexeme.{Lexeme}
use Rattle.php_first_tokens.specs.declared.token.Token.{Token}
use Rattle.php_first_tokens.specs.Lexemes.{names_from, named_by, names_in, lexeme_of, put_before, firsts_from, firsts_in}
use Rattle.php_first_tokens.proofs.Names.{names_begin, lexeme_kept}

abbrev pub behind : List Token → Option (List Token) → Option (List Token)
behind done rest = option_map (λ later. done ++ later) rest

-- These names and tokens are those of the front up to a place.
pub record Reached (tokens : List whole.Token) (names : List (List ℕ)) (at : ℕ) (done : List Token) : Type 0 where
  pub named : names_from names (drop at tokens) ≡ names_in tokens
  pub told : firsts_in tokens ≡ behind done (firsts_from (names_in tokens) at (drop at tokens))

none_before : (o : Option (List Token)) → o ≡ behind [] o
none_before None = refl
none_before (Some x) = refl

pub begun : (tokens : List whole.Token) → Reached tokens [] 0 []
begun tokens = record { named = refl; told = none_before (firsts_in tokens) }

pub ended : (tokens : List whole.Token) (names : List (List ℕ)) (at : ℕ) (done : List Token) → length tokens ≤ at → Reached tokens names at done →
    (names ≡ names_in tokens) × (firsts_in tokens ≡ Some done)
ended tokens names at done past reached = (
  sym (ap (λ rest. names_from names rest) (drop_all at tokens past)) ∙ reached.named,
  reached.told ∙ ap (λ rest. behind done (firsts_from (names_in tokens) at rest)) (drop_all at tokens past) ∙ ap Some (append-nil done),
)

module _ (tokens : List whole.Token) (names : List (List ℕ)) (at : ℕ) (done : List Token) (within : at < length tokens) (reached : Reached tokens names at done) where
  abbrev pub t : whole.Token
  t = token_at tokens at

  here : drop at tokens ≡ t ∷ drop (at + 1) tokens
  here = drop-cons tokens at no_token within ∙ ap (λ n. t ∷ drop n tokens) (sym (add-one at))

  names_on : names_from (named_by names t.text t.kind) (drop (at + 1) tokens) ≡ names_in tokens
  names_on = sym (ap (names_from names) here) ∙ reached.named

  lexeme_is : lexeme_of (names_in tokens) at t t.kind ≡ lexeme_of (named_by names t.text t.kind) at t t.kind
  lexeme_is =
      let rest = names_begin (named_by names t.text t.kind) (drop (at + 1) tokens) in
      ap (λ ns. lexeme_of ns at t t.kind) (sym names_on ∙ rest.whole) ∙ lexeme_kept names rest.more at t t.kind

  told_here : (found : Option Lexeme) → found ≡ lexeme_of (named_by names t.text t.kind) at t t.kind →
      firsts_in tokens ≡ behind done (put_before t.line found (firsts_from (names_in tokens) (at + 1) (drop (at + 1) tokens)))
  told_here found is =
      reached.told ∙ ap (λ rest. behind done (firsts_from (names_in tokens) at rest)) here
      ∙ ap (λ l. behind done (put_before t.line l (firsts_from (names_in tokens) (at + 1) (drop (at + 1) tokens)))) (lexeme_is ∙ sym is)

  pub stuck : None ≡ lexeme_of (named_by names t.text t.kind) at t t.kind → firsts_in tokens ≡ None
  stuck is = told_here None is

  regrouped : (first : Token) (rest : Option (List Token)) → behind done (option_map (λ later. first ∷ later) rest) ≡ behind (done ++ first ∷ []) rest
  regrouped first None = refl
  regrouped first (Some later) = ap Some (sym (append_assoc done (first ∷ []) later))

  pub passed : (l : Lexeme) → Some l ≡ lexeme_of (named_by names t.text t.kind) at t t.kind →
      Reached tokens (named_by names t.text t.kind) (at + 1) (done ++ record { lexeme = l; line = t.line } ∷ [])
  passed l is = record {
    named = names_on;
    told = told_here (Some l) is ∙ regrouped (record { lexeme = l; line = t.line }) (firsts_from (names_in tokens) (at + 1) (drop (at + 1) tokens));
  }
