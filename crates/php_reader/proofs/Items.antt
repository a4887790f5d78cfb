-- Marks where an item is due, and what a token is that has one.
use Rattle.std.proofs.Common.{◌≡◌, ◌≢◌, ℕ, ℤ, Bool, true, false, List, [], ◌∷◌, refl, ap, sym, subst, ◌∙◌}
use Rattle.php_token.specs.declared.kind.Punct.{Punct}
use Rattle.php_token.specs.declared.kind.Punct.TheVariants as sign
use Rattle.php_token.specs.Token.{Token, token_at}
use Rattle.php_ast.specs.declared.operator.Binary.{Binary}
use Rattle.php_ast.specs.declared.operator.Binary.TheVariants as binary
use Rattle.php_token.specs.declared.kind.TokenKind.{TokenKind}
use Rattle.php_token.specs.declared.kind.TokenKind.TheVariants as kind
use Rattle.php_ast.specs.Symbol as sort
use Rattle.php_ast.specs.Symbol.{Symbol, symbol, symbol_of, punct}
use Rattle.php_grammar.specs.declared.closer.Closer.{Closer}
use Rattle.php_grammar.specs.expression.Role.{Beginning, at_nothing, beginning, Mark, refers, spreads, ends_item, begins, item_mark, mark_of, Continuation, closes, draws, by_binary, neither, continuation, is_ampersand}
use Rattle.php_grammar.specs.expression.Laws.{head_continuation}
use Rattle.php_grammar.proofs.expression.Roles.{Says, continuation_says, MarkSays, item_says, TestSays, ampersand_says}
use Rattle.php_reader.specs.Seen.{Stands, Shows, Marks, Starts, head_beginning, head_mark, rest, test}

-- ---- a mark that ends an item ends an expression, and what ends one has such a mark

mark_closes_by : (x : Continuation) (c : Closer) → mark_of x ≡ ends_item c → x ≡ closes c
mark_closes_by (closes k) c h = cc
mark_closes_by (draws (by_binary op)) c h = absurd (joined op h)
  where
    joined : (op : Binary) → mark_of (draws (by_binary op)) ≡ ends_item c → ⊥
    joined binary.BitAnd h = cc
    joined _ h = cc
mark_closes_by (draws _) c h = cc
mark_closes_by neither c h = cc

mark_closes_punct : (p : Punct) (c : Closer) → item_mark (punct p) ≡ ends_item c → continuation (punct p) ≡ closes c
mark_closes_punct sign.Ellipsis c h = cc
mark_closes_punct p c h = mark_closes_by (continuation (punct p)) c h

mark_closes_one : (t : Symbol) (c : Closer) → item_mark t ≡ ends_item c → continuation t ≡ closes c
mark_closes_one (punct p) c h = mark_closes_punct p c h
mark_closes_one t c h = mark_closes_by (continuation t) c h

pub mark_closes : (v : List Symbol) (c : Closer) → head_mark v ≡ ends_item c → head_continuation v ≡ closes c
mark_closes [] c h = cc
mark_closes (t ∷ w) c h = mark_closes_one t c h

closes_mark_punct : (p : Punct) (c : Closer) → continuation (punct p) ≡ closes c → item_mark (punct p) ≡ ends_item c
closes_mark_punct sign.Ellipsis c h = cc
closes_mark_punct p c h = ap mark_of h

pub closes_mark : (t : Symbol) (c : Closer) → continuation t ≡ closes c → item_mark t ≡ ends_item c
closes_mark (punct p) c h = closes_mark_punct p c h
closes_mark t c h = ap mark_of h

-- ---- what is seen

pub marked : (tokens : List Token) (at : ℕ) (m : Mark) → Stands tokens at (symbol (token_at tokens at)) → item_mark (symbol (token_at tokens at)) ≡ m → Marks tokens at m
marked tokens at begins stands h = ap head_mark stands.is ∙ h
marked tokens at refers stands h = record { token = symbol (token_at tokens at); stands = stands; role_is = h }
marked tokens at spreads stands h = record { token = symbol (token_at tokens at); stands = stands; role_is = h }
marked tokens at (ends_item c) stands h = record { token = symbol (token_at tokens at); stands = stands; role_is = h }

pub started : (tokens : List Token) (at : ℕ) (b : Beginning) → Stands tokens at (symbol (token_at tokens at)) → beginning (symbol (token_at tokens at)) ≡ b → Starts tokens at b
started tokens at at_nothing stands h = ap head_beginning stands.is ∙ h
started tokens at _ stands h = record { token = symbol (token_at tokens at); stands = stands; role_is = h }

-- only integers have a value
pub value_kept : (k : TokenKind) (text : List ℕ) (value int : ℤ) → (k ≡ kind.Int → value ≡ int) → symbol_of k text value ≡ symbol_of k text int
value_kept kind.Int text value int h = ap sort.int (h refl)
value_kept _ text value int h = refl

pub marks_head : (tokens : List Token) (at : ℕ) (m : Mark) → Marks tokens at m → head_mark (rest tokens at) ≡ m
marks_head tokens at begins h = h
marks_head tokens at refers h = ap head_mark h.stands.is ∙ h.role_is
marks_head tokens at spreads h = ap head_mark h.stands.is ∙ h.role_is
marks_head tokens at (ends_item c) h = ap head_mark h.stands.is ∙ h.role_is

pub ends_shown : (tokens : List Token) (at : ℕ) (m : Mark) (c : Closer) → m ≡ ends_item c → Marks tokens at m → Shows continuation tokens at (closes c)
ends_shown tokens at m c is h = closing (subst (λ x. Marks tokens at x) is h)
  where
    closing : Shows item_mark tokens at (ends_item c) → Shows continuation tokens at (closes c)
    closing h = record { token = h.token; stands = h.stands; role_is = mark_closes_one h.token c h.role_is }

-- ---- tests that see one symbol

none_by : (b : Bool) (t s : Symbol) → TestSays b t s → t ≢ s → b ≡ false
none_by true t s is other = absurd (other is)
none_by false t s is other = refl

-- behind an expression, of a continuation that one symbol alone has
pub shows_one : (is_so : Symbol → Bool) (x : Continuation) (s : Symbol) (tokens : List Token) (at : ℕ) → ((t : Symbol) → Says x t → t ≡ s) → is_so s ≡ true → Shows continuation tokens at x → Shows is_so tokens at true
shows_one is_so x s tokens at says so h = record { token = h.token; stands = h.stands; role_is = ap is_so (says h.token (subst (λ y. Says y h.token) h.role_is (continuation_says h.token))) ∙ so }

pub tests_none : (is_so : Symbol → Bool) (x : Continuation) (s : Symbol) (v : List Symbol) → ((t : Symbol) → TestSays (is_so t) t s) → continuation s ≡ x → head_continuation v ≢ x → test is_so v ≡ false
tests_none is_so x s [] says is h = refl
tests_none is_so x s (t ∷ w) says is h = none_by (is_so t) t s (says t) (λ e. h (ap continuation e ∙ is))

-- `&` where an item is due
pub ampersand_shown : (tokens : List Token) (at : ℕ) → Shows item_mark tokens at refers → Shows is_ampersand tokens at true
ampersand_shown tokens at h = record { token = h.token; stands = h.stands; role_is = ap is_ampersand (subst (λ m. MarkSays m h.token) h.role_is (item_says h.token)) }

pub no_ampersand : (v : List Symbol) → head_mark v ≢ refers → test is_ampersand v ≡ false
no_ampersand [] h = refl
no_ampersand (t ∷ w) h = none_by (is_ampersand t) t (punct sign.Ampersand) (ampersand_says t) (λ e. h (ap item_mark e))
