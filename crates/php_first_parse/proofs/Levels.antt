-- What is known of each sum, product and group that was read, or can't be.
use Rattle.std.proofs.Common.{◌≡◌, ◌≢◌, ◌<◌, ℕ, suc, ◌+◌, ◌-◌, Some, None, List, [], ◌∷◌, ◌++◌, length, refl, sym, ◌∙◌, ap, subst, arith, rules}
use Rattle.php_first_tree.specs.Expression.{Expression, int, variable, group, times, plus, minus, joined, atom_view, product_view, sum_view}
use Rattle.php_first_tree.specs.declared.Atom.{Atom}
use Rattle.php_first_tree.specs.declared.Atom.TheVariants as atoms
use Rattle.php_first_tree.specs.declared.Product.{Product}
use Rattle.php_first_tree.specs.declared.Sum.{Sum}
use Rattle.php_first_tree.specs.declared.Term.{Term}
use Rattle.php_first_tree.specs.declared.Sign.{Sign}
use Rattle.php_first_tree.specs.declared.Sign.TheVariants as sign
use Rattle.php_first_tokens.specs.declared.token.Lexeme.{Lexeme}
use Rattle.php_first_tokens.specs.declared.token.Lexeme.TheVariants.{Variable, Int, Text, Inline, Echo, Equals, Semicolon, Comma, Plus, Minus, Star, Open, Close}
use Rattle.php_first_tokens.specs.declared.token.Token.{Token}
use Rattle.php_first_parse.specs.Spelling.{atom, product, sum, Fits, at_line, Spells, SpellsAt}
use Rattle.php_first_parse.specs.Machine.{Frame, Context, wants, has, opened, step, run}
use Rattle.php_first_parse.specs.Answers.{HeadIsNot, Ends, Fails, lexeme_of}
use Rattle.php_first_parse.proofs.Views.{view_group, factor, term}
use Rattle.php_first_parse.proofs.ReadBack.{begun, opens, back}

-- ---- groups

stuck_step : (c : Context) (f : Frame) (e : Expression) (line : ℕ) (l : Lexeme) → l ≢ Star → l ≢ Plus → l ≢ Minus → l ≢ Close → step (has (record c { outer = f ∷ c.outer }) None e) line l ≡ None
stuck_step c f e line Star s p m h = absurd (s refl)
stuck_step c f e line Plus s p m h = absurd (p refl)
stuck_step c f e line Minus s p m h = absurd (m refl)
stuck_step c f e line Close s p m h = absurd (h refl)
stuck_step c f e line (Variable k) s p m h = refl
stuck_step c f e line (Int k) s p m h = refl
stuck_step c f e line (Text k) s p m h = refl
stuck_step c f e line (Inline k) s p m h = refl
stuck_step c f e line Echo s p m h = refl
stuck_step c f e line Equals s p m h = refl
stuck_step c f e line Semicolon s p m h = refl
stuck_step c f e line Comma s p m h = refl
stuck_step c f e line Open s p m h = refl

stuck : (c : Context) (f : Frame) (e : Expression) (rest : List Token) → Ends sum rest → HeadIsNot Close rest → run (Some (has (record c { outer = f ∷ c.outer }) None e)) rest ≡ None
stuck c f e [] ends h = refl
stuck c f e (t ∷ rest) ends h = ap (λ m. run m rest) (stuck_step c f e t.line t.lexeme ends.0 ends.1.0 ends.1.1 h)

-- no parenthesis closes a sum
pub unclosed : (d : ℕ) (e : Expression) (from rest : List Token) → 0 < d → SpellsAt sum (d - 1) e from rest → Ends sum rest → HeadIsNot Close rest
    → (c : Context) (f : Frame) → length c.outer + d ≡ 128 → run (opened c f) from ≡ None
unclosed d e from rest some s ends h c f room =
    let less : suc (length c.outer) + (d - 1) ≡ 128 = omega arith in
    ap (λ m. run m from) (opens c f d some room)
    ∙ (back e).as_sum (d - 1) from rest (record c { outer = f ∷ c.outer }) s.grouped s.within s.spelled ends.0 less
    ∙ stuck c f e rest ends h

pub closed : (d : ℕ) (inside made : Sum Atom) (from after rest : List Token) (b : ℕ) → 0 < d → SpellsAt sum (d - 1) (sum_view inside) from after → after ≡ at_line Close b ∷ rest → made ≡ inside
    → (line : ℕ) → SpellsAt atom d (atom_view (atoms.Group made)) (at_line Open line ∷ from) rest
closed d inside made from after rest b some s is same line =
    let all : SpellsAt atom d (group (sum_view inside)) (at_line Open line ∷ from) rest = record {
      grouped = s.grouped;
      within = (some, s.within);
      spelled = (line, b, from, refl, subst (Spells (sum_view inside) from) is s.spelled);
    } in
    subst (λ e. SpellsAt atom d e (at_line Open line ∷ from) rest) (sym (ap (λ x. atom_view (atoms.Group x)) same ∙ view_group inside)) all

-- ---- products

-- no atom follows a `*`
pub factor_missing : (d : ℕ) (e : Expression) (from after behind : List Token) (line : ℕ) → SpellsAt product d e from after → after ≡ at_line Star line ∷ behind → Fails atom d behind → Fails product d from
factor_missing d e from after behind line s is h = λ c b room.
    (back e).as_product d from after c b s.grouped s.within s.spelled room ∙ ap (run (Some (has c b e))) is ∙ h c (record { sum = b; product = Some e }) room

pub factor_read : (d : ℕ) (first : Atom) (before now : List Atom) (a : Atom) (from after behind rest : List Token) (line : ℕ)
    → SpellsAt product d (product_view (record { first = first; rest = before })) from after → after ≡ at_line Star line ∷ behind → SpellsAt atom d (atom_view a) behind rest
    → now ≡ before ++ a ∷ [] → SpellsAt product d (product_view (record { first = first; rest = now })) from rest
factor_read d first before now a from after behind rest line s is more grown =
    let left : Expression = product_view (record { first = first; rest = before }) in
    let all : SpellsAt product d (times left (atom_view a)) from rest = record {
      grouped = (s.grouped, more.grouped);
      within = (s.within, more.within);
      spelled = (line, behind, subst (Spells left from) is s.spelled, more.spelled);
    } in
    subst (λ e. SpellsAt product d e from rest) (sym (factor first before now a grown)) all

-- ---- sums

product_fits : (e : Expression) → Fits product e → Fits sum e
product_fits (int n) h = h
product_fits (variable k) h = h
product_fits (group e) h = h
product_fits (times l r) h = h
product_fits (plus l r) h = absurd h
product_fits (minus l r) h = absurd h

pub one_product : (d : ℕ) (e : Expression) (from rest : List Token) → SpellsAt product d e from rest → SpellsAt sum d e from rest
one_product d e from rest s = record { grouped = product_fits e s.grouped; within = s.within; spelled = s.spelled }

signed : (c : Context) (e : Expression) (x : Sign) (line : ℕ) → step (has c None e) line (lexeme_of x) ≡ Some (wants c (begun (Some (record { sum = e; sign = x }))))
signed c e sign.Plus line = refl
signed c e sign.Minus line = refl

no_star : (x : Sign) → lexeme_of x ≢ Star
no_star sign.Plus h = search rules
no_star sign.Minus h = search rules

-- no product follows a sign
pub term_missing : (d : ℕ) (e : Expression) (x : Sign) (from after behind : List Token) (line : ℕ) → SpellsAt sum d e from after → after ≡ at_line (lexeme_of x) line ∷ behind
    → Fails product d behind → Fails sum d from
term_missing d e x from after behind line s is h = λ c room.
    (back e).as_sum d from (at_line (lexeme_of x) line ∷ behind) c s.grouped s.within (subst (Spells e from) is s.spelled) (no_star x) room
    ∙ ap (λ m. run m behind) (signed c e x line) ∙ h c (Some (record { sum = e; sign = x })) room

joined_spells : (d : ℕ) (l r : Expression) (x : Sign) (from behind rest : List Token) (line : ℕ) → SpellsAt sum d l from (at_line (lexeme_of x) line ∷ behind) → SpellsAt product d r behind rest
    → SpellsAt sum d (joined l x r) from rest
joined_spells d l r sign.Plus from behind rest line s more = record { grouped = (s.grouped, more.grouped); within = (s.within, more.within); spelled = (line, behind, s.spelled, more.spelled) }
joined_spells d l r sign.Minus from behind rest line s more = record { grouped = (s.grouped, more.grouped); within = (s.within, more.within); spelled = (line, behind, s.spelled, more.spelled) }

pub term_read : (d : ℕ) (first : Product Atom) (before now : List (Term Atom)) (t : Term Atom) (from after behind rest : List Token) (line : ℕ)
    → SpellsAt sum d (sum_view (record { first = first; rest = before })) from after → after ≡ at_line (lexeme_of t.sign) line ∷ behind → SpellsAt product d (product_view t.product) behind rest
    → now ≡ before ++ t ∷ [] → SpellsAt sum d (sum_view (record { first = first; rest = now })) from rest
term_read d first before now t from after behind rest line s is more grown =
    let left : Expression = sum_view (record { first = first; rest = before }) in
    subst (λ e. SpellsAt sum d e from rest) (sym (term first before now t grown))
    (joined_spells d left (product_view t.product) t.sign from behind rest line (subst (SpellsAt sum d left from) is s) more)
