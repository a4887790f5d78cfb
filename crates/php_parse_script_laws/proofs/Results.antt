-- Answers that are the same, from what excludes what: once for all parsers.
use Rattle.std.proofs.Common.{◌≡◌, ◌≢◌, ℕ, refl, ap}
use Rattle.std.specs.Prelude.{Result, Ok, Err, IfOk, IfErr}
use Rattle.php_reader.specs.declared.fail.ParseFail.{ParseFail}
use Rattle.php_reader.specs.declared.fail.ParseFail.TheVariants.{Syntax, TooDeep, NoMemory}
use Rattle.php_parse_expression_laws.proofs.Layers.{two_same}

-- What is read, which is flat; what is refused at a place with a line, and what is too deep there.
pub record Excludes {X : Type 0} (Is Flat : X → Type 0) (IsSyntax IsDeep : ℕ → ℕ → Type 0) : Type 0 where
  pub one_read : (x y : X) → Is x → Is y → Flat x → Flat y → x ≡ y
  pub no_syntax : (x : X) (k l : ℕ) → Is x → IsSyntax k l → ⊥
  pub no_deep : (x : X) (k l : ℕ) → Is x → IsDeep k l → ⊥
  pub one_syntax : (k l j m : ℕ) → IsSyntax k l → IsSyntax j m → (k ≡ j) × (l ≡ m)
  pub not_both : (k l j m : ℕ) → IsSyntax k l → IsDeep j m → ⊥
  pub one_deep : (k l j m : ℕ) → IsDeep k l → IsDeep j m → (k ≡ j) × (l ≡ m)

abbrev pub Refused : (ℕ → ℕ → Type 0) → (ℕ → ℕ → Type 0) → ParseFail → Type 0
Refused IsSyntax IsDeep (Syntax k l) = IsSyntax k l
Refused IsSyntax IsDeep (TooDeep k l) = IsDeep k l
Refused IsSyntax IsDeep NoMemory = Unit {0}

refusals_same : {X : Type 0} (Is Flat : X → Type 0) (IsSyntax IsDeep : ℕ → ℕ → Type 0) → Excludes Is Flat IsSyntax IsDeep → (p q : ParseFail) → Refused IsSyntax IsDeep p → Refused IsSyntax IsDeep q
    → p ≢ NoMemory → q ≢ NoMemory → p ≡ q
refusals_same Is Flat IsSyntax IsDeep e (Syntax k l) (Syntax j m) a b p q = let r = e.one_syntax k l j m a b in two_same (λ x y. Syntax x y) r.0 r.1
refusals_same Is Flat IsSyntax IsDeep e (Syntax k l) (TooDeep j m) a b p q = absurd (e.not_both k l j m a b)
refusals_same Is Flat IsSyntax IsDeep e (Syntax k l) NoMemory a b p q = absurd (q refl)
refusals_same Is Flat IsSyntax IsDeep e (TooDeep k l) (Syntax j m) a b p q = absurd (e.not_both j m k l b a)
refusals_same Is Flat IsSyntax IsDeep e (TooDeep k l) (TooDeep j m) a b p q = let r = e.one_deep k l j m a b in two_same (λ x y. TooDeep x y) r.0 r.1
refusals_same Is Flat IsSyntax IsDeep e (TooDeep k l) NoMemory a b p q = absurd (q refl)
refusals_same Is Flat IsSyntax IsDeep e NoMemory q a b p n = absurd (p refl)

not_read : {X : Type 0} (Is Flat : X → Type 0) (IsSyntax IsDeep : ℕ → ℕ → Type 0) → Excludes Is Flat IsSyntax IsDeep → (x : X) (p : ParseFail) → Is x → Refused IsSyntax IsDeep p → p ≢ NoMemory → ⊥
not_read Is Flat IsSyntax IsDeep e x (Syntax k l) a b n = e.no_syntax x k l a b
not_read Is Flat IsSyntax IsDeep e x (TooDeep k l) a b n = e.no_deep x k l a b
not_read Is Flat IsSyntax IsDeep e x NoMemory a b n = n refl

pub answers_same : {X : Type 0} (Is Flat : X → Type 0) (IsSyntax IsDeep : ℕ → ℕ → Type 0) → Excludes Is Flat IsSyntax IsDeep → (one other : Result X ParseFail)
    → IfOk one Is → IfOk one Flat → IfErr one (Refused IsSyntax IsDeep) → IfOk other Is → IfOk other Flat → IfErr other (Refused IsSyntax IsDeep)
    → one ≢ Err NoMemory → other ≢ Err NoMemory → one ≡ other
answers_same Is Flat IsSyntax IsDeep e (Ok x) (Ok y) a f c b g d p q = ap Ok (e.one_read x y a b f g)
answers_same Is Flat IsSyntax IsDeep e (Ok x) (Err v) a f c b g d p q = absurd (not_read Is Flat IsSyntax IsDeep e x v a d (λ is. q (ap Err is)))
answers_same Is Flat IsSyntax IsDeep e (Err u) (Ok y) a f c b g d p q = absurd (not_read Is Flat IsSyntax IsDeep e y u b c (λ is. p (ap Err is)))
answers_same Is Flat IsSyntax IsDeep e (Err u) (Err v) a f c b g d p q = ap Err (refusals_same Is Flat IsSyntax IsDeep e u v c d (λ is. p (ap Err is)) (λ is. q (ap Err is)))
