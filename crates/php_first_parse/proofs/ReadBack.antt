-- The machine reads the spelling of an expression as that expression.
use Rattle.std.proofs.Common.{◌≡◌, ◌≢◌, ◌<◌, ℕ, suc, ◌+◌, ◌-◌, Option, Some, None, List, [], ◌∷◌, length, refl, ◌∙◌, ap, arith, rules}
use Rattle.std.proofs.lemmas.Bool.{lt-ltb}
use Rattle.std.specs.Prelude.{nat_lt, if◌then◌else◌}
use Rattle.php_first_tree.specs.Expression.{Expression, int, variable, group, times, plus, minus, joined}
use Rattle.php_first_tree.specs.declared.Sign.TheVariants as sign
use Rattle.php_first_tokens.specs.declared.token.Lexeme.{Lexeme}
use Rattle.php_first_tokens.specs.declared.token.Lexeme.TheVariants.{Variable, Int, Text, Inline, Echo, Equals, Semicolon, Comma, Plus, Minus, Star, Open, Close}
use Rattle.php_first_tokens.specs.declared.token.Token.{Token}
use Rattle.php_first_parse.specs.Spelling.{atom, product, sum, Fits, Within, at_line, Spells}
use Rattle.php_first_parse.specs.Machine.{Begun, Frame, fresh, Context, wants, has, product_after, sum_after, opened, step, run}
use Rattle.php_first_parse.specs.Answers.{HeadIsNot}

abbrev pub begun : Option Begun → Frame
begun s = record { sum = s; product = None }

settled_step : (c : Context) (s : Option Begun) (e : Expression) (line : ℕ) (l : Lexeme) → l ≢ Star → step (has c s e) line l ≡ step (has c None (sum_after s e)) line l
settled_step c s e line Star h = absurd (h refl)
settled_step c s e line (Variable k) h = refl
settled_step c s e line (Int k) h = refl
settled_step c s e line (Text k) h = refl
settled_step c s e line (Inline k) h = refl
settled_step c s e line Echo h = refl
settled_step c s e line Equals h = refl
settled_step c s e line Semicolon h = refl
settled_step c s e line Comma h = refl
settled_step c s e line Plus h = refl
settled_step c s e line Minus h = refl
settled_step c s e line Open h = refl
settled_step c s e line Close h = refl

-- a product that no `*` follows is a part of the sum so far
pub settled : (c : Context) (s : Option Begun) (e : Expression) (rest : List Token) → HeadIsNot Star rest → run (Some (has c s e)) rest ≡ run (Some (has c None (sum_after s e))) rest
settled c s e [] h = refl
settled c s e (t ∷ rest) h = ap (λ m. run m rest) (settled_step c s e t.line t.lexeme h)

-- a parenthesis opens where there is room
pub opens : (c : Context) (f : Frame) (d : ℕ) → 0 < d → length c.outer + d ≡ 128 → opened c f ≡ Some (wants (record c { outer = f ∷ c.outer }) fresh)
opens c f d some room =
    let small : length c.outer < 128 = omega arith in
    ap (λ b. if b then Some (wants (record c { outer = f ∷ c.outer }) fresh) else None) (lt-ltb (length c.outer) 128 small)

pub opens_no_more : (c : Context) (f : Frame) → length c.outer ≡ 128 → opened c f ≡ None
opens_no_more c f full = ap (λ n. if nat_lt n 128 then Some (wants (record c { outer = f ∷ c.outer }) fresh) else None) full

pub record Back (e : Expression) : Type 0 where
  pub as_atom : (d : ℕ) (tokens rest : List Token) (c : Context) (f : Frame) → Fits atom e → Within d e → Spells e tokens rest → length c.outer + d ≡ 128
      → run (Some (wants c f)) tokens ≡ run (Some (has c f.sum (product_after f.product e))) rest
  pub as_product : (d : ℕ) (tokens rest : List Token) (c : Context) (s : Option Begun) → Fits product e → Within d e → Spells e tokens rest → length c.outer + d ≡ 128
      → run (Some (wants c (begun s))) tokens ≡ run (Some (has c s e)) rest
  pub as_sum : (d : ℕ) (tokens rest : List Token) (c : Context) → Fits sum e → Within d e → Spells e tokens rest → HeadIsNot Star rest → length c.outer + d ≡ 128
      → run (Some (wants c fresh)) tokens ≡ run (Some (has c None e)) rest

-- a form that stands on the level of an atom stands on each
from_atom : (e : Expression) → (Fits product e → Fits atom e) → (Fits sum e → Fits atom e)
    → ((d : ℕ) (tokens rest : List Token) (c : Context) (f : Frame) → Fits atom e → Within d e → Spells e tokens rest → length c.outer + d ≡ 128 → run (Some (wants c f)) tokens ≡ run (Some (has c f.sum (product_after f.product e))) rest)
    → Back e
from_atom e p s h = record {
  as_atom = h;
  as_product = λ d tokens rest c b fits within spelled room. h d tokens rest c (begun b) (p fits) within spelled room;
  as_sum = λ d tokens rest c fits within spelled ends room. h d tokens rest c fresh (s fits) within spelled room;
}

group_back : (e : Expression) → Back e → (d : ℕ) (tokens rest : List Token) (c : Context) (f : Frame) → Fits sum e → Within d (group e) → Spells (group e) tokens rest → length c.outer + d ≡ 128
    → run (Some (wants c f)) tokens ≡ run (Some (has c f.sum (product_after f.product (group e)))) rest
group_back e b d tokens rest c f fits within spelled room =
    let less : suc (length c.outer) + (d - 1) ≡ 128 = omega (arith, within.0) in
    ap (run (Some (wants c f))) spelled.3
    ∙ ap (λ m. run m spelled.2) (opens c f d within.0 room)
    ∙ b.as_sum (d - 1) spelled.2 (at_line Close spelled.1 ∷ rest) (record c { outer = f ∷ c.outer }) fits within.1 spelled.4 (λ h. search rules) less

times_back : (l r : Expression) → Back l → Back r → (d : ℕ) (tokens rest : List Token) (c : Context) (s : Option Begun) → Fits product (times l r) → Within d (times l r) → Spells (times l r) tokens rest
    → length c.outer + d ≡ 128 → run (Some (wants c (begun s))) tokens ≡ run (Some (has c s (times l r))) rest
times_back l r bl br d tokens rest c s fits within spelled room =
    bl.as_product d tokens (at_line Star spelled.0 ∷ spelled.1) c s fits.0 within.0 spelled.2 room
    ∙ br.as_atom d spelled.1 rest c (record { sum = s; product = Some l }) fits.1 within.1 spelled.3 room

-- a product behind a sign
pub behind : (r : Expression) → Back r → (d : ℕ) (tokens rest : List Token) (c : Context) (s : Begun) → Fits product r → Within d r → Spells r tokens rest → HeadIsNot Star rest → length c.outer + d ≡ 128
    → run (Some (wants c (begun (Some s)))) tokens ≡ run (Some (has c None (joined s.sum s.sign r))) rest
behind r b d tokens rest c s fits within spelled ends room = b.as_product d tokens rest c (Some s) fits within spelled room ∙ settled c (Some s) r rest ends

pub back : (e : Expression) → Back e
back (int n) = from_atom (int n) (λ h. h) (λ h. h) (λ d tokens rest c f fits within spelled room. ap (run (Some (wants c f))) spelled.1)
back (variable k) = from_atom (variable k) (λ h. h) (λ h. h) (λ d tokens rest c f fits within spelled room. ap (run (Some (wants c f))) spelled.1)
back (group e) = from_atom (group e) (λ h. h) (λ h. h) (group_back e (back e))
back (times l r) = record {
  as_atom = λ d tokens rest c f fits. absurd fits;
  as_product = times_back l r (back l) (back r);
  as_sum = λ d tokens rest c fits within spelled ends room. times_back l r (back l) (back r) d tokens rest c None fits within spelled room;
}
back (plus l r) = record {
  as_atom = λ d tokens rest c f fits. absurd fits;
  as_product = λ d tokens rest c s fits. absurd fits;
  as_sum = λ d tokens rest c fits within spelled ends room.
      (back l).as_sum d tokens (at_line Plus spelled.0 ∷ spelled.1) c fits.0 within.0 spelled.2 (λ h. search rules) room
      ∙ behind r (back r) d spelled.1 rest c (record { sum = l; sign = sign.Plus }) fits.1 within.1 spelled.3 ends room;
}
back (minus l r) = record {
  as_atom = λ d tokens rest c f fits. absurd fits;
  as_product = λ d tokens rest c s fits. absurd fits;
  as_sum = λ d tokens rest c fits within spelled ends room.
      (back l).as_sum d tokens (at_line Minus spelled.0 ∷ spelled.1) c fits.0 within.0 spelled.2 (λ h. search rules) room
      ∙ behind r (back r) d spelled.1 rest c (record { sum = l; sign = sign.Minus }) fits.1 within.1 spelled.3 ends room;
}
