-- What is seen of the first of some symbols.
use Rattle.std.proofs.Common.{◌≡◌, ◌≢◌, ℕ, Bool, true, false, Option, Some, None, List, [], ◌∷◌, refl, sym, ◌∙◌, ap}
use Rattle.php_token.specs.Token.{Token, token_at}
use Rattle.php_token.specs.declared.kind.Keyword.{Keyword}
use Rattle.php_token.specs.declared.kind.Keyword.TheVariants as word
use Rattle.php_ast.specs.declared.spot.Name as rust_name
use Rattle.php_ast.specs.Symbol as symbol
use Rattle.php_ast.specs.Symbol.{Symbol, keyword}
use Rattle.php_ast.specs.expression.Placed.{notes_of}
use Rattle.php_grammar.specs.declared.closer.Closer.{Closer}
use Rattle.php_grammar.specs.expression.Role.{Beginning, at_leaf, at_static, at_template, at_exit, at_new, at_yield, at_enclosed, at_listed, at_prefix, at_nothing, beginning, Continuation, draws, closes, neither, continuation, continuation_keyword}
use Rattle.php_grammar.specs.expression.Laws.{head_continuation}
use Rattle.php_grammar.specs.statement.Role.{closer, as_word, ending, ending_of}
use Rattle.php_reader.specs.Seen.{Stands, Shows, IsNamed, head_beginning, rest}
use Rattle.php_parse_operands.specs.Walk as inner
use Rattle.php_parse_simple.specs.Answer.{ShowsName, head_text}
use Rattle.php_parse_simple.specs.RoleView.{IsEnding}
use Rattle.php_parse_simple.specs.Walk.{head_ending, sunk, sunk_here}

-- ---- endings

no_keyword : (k : Keyword) (c : Closer) → continuation_keyword k ≡ closes c → ⊥
no_keyword word.InstanceOf c h = cc
no_keyword _ c h = cc

closes_by : (x : Continuation) (c : Closer) → ending_of x ≡ closer c → x ≡ closes c
closes_by (closes d) c h = cc
closes_by (draws d) c h = cc
closes_by neither c h = cc

keyword_ending : (k : Keyword) (c : Closer) → ending (keyword k) ≡ closer c → continuation (keyword k) ≡ closes c
keyword_ending word.As c h = cc
keyword_ending _ c h = cc

pub ending_closes : (t : Symbol) (c : Closer) → continuation t ≡ closes c → ending t ≡ closer c
ending_closes (keyword k) c h = absurd (no_keyword k c h)
ending_closes (symbol.punct p) c h = ap ending_of h
ending_closes symbol.end_part c h = ap ending_of h
ending_closes _ c h = cc

pub ending_closed : (t : Symbol) (c : Closer) → ending t ≡ closer c → continuation t ≡ closes c
ending_closed (keyword k) c h = keyword_ending k c h
ending_closed (symbol.punct p) c h = closes_by (continuation (symbol.punct p)) c h
ending_closed symbol.end_part c h = closes_by (continuation symbol.end_part) c h
ending_closed _ c h = cc

pub shows_ending : (tokens : List Token) (at : ℕ) (c : Closer) → Shows continuation tokens at (closes c) → Shows ending tokens at (closer c)
shows_ending tokens at c h = record { token = h.token; stands = h.stands; role_is = ending_closes h.token c h.role_is }

pub no_ending_here : (w : List Symbol) (c : Closer) → head_continuation w ≢ closes c → head_ending w ≢ closer c
no_ending_here [] c h e = cc
no_ending_here (t ∷ w) c h e = h (ending_closed t c e)

pub as_shown : (tokens : List Token) (at : ℕ) (b : Bool) → Stands tokens at (symbol.symbol (token_at tokens at)) → IsEnding (ending (symbol.symbol (token_at tokens at))) as_word b → b ≡ true → Shows ending tokens at as_word
as_shown tokens at true stands h is = record { token = symbol.symbol (token_at tokens at); stands = stands; role_is = h }
as_shown tokens at false stands h is = cc

pub as_hidden : (tokens : List Token) (at : ℕ) (b : Bool) → Stands tokens at (symbol.symbol (token_at tokens at)) → IsEnding (ending (symbol.symbol (token_at tokens at))) as_word b → b ≡ false → head_ending (rest tokens at) ≢ as_word
as_hidden tokens at true stands h is = cc
as_hidden tokens at false stands h is = λ e. h (sym (ap head_ending stands.is) ∙ e)

-- ---- names

pub name_shown : (text_of : Symbol → Option (List ℕ)) (tokens : List Token) (at : ℕ) (n : rust_name.Name) → Stands tokens at (symbol.symbol (token_at tokens at))
    → text_of (symbol.symbol (token_at tokens at)) ≡ Some (token_at tokens at).text → IsNamed tokens at n → ShowsName text_of tokens at (Some n)
name_shown text_of tokens at n stands says is = (
  (token_at tokens at).text,
  record { token = symbol.symbol (token_at tokens at); stands = stands; role_is = says },
  ap (λ s. record { note = s; text = n.text }) is.noted ∙ ap (λ x. record { note = (notes_of tokens).token at; text = x }) is.text,
)

pub none_shown : (text_of : Symbol → Option (List ℕ)) (tokens : List Token) (at : ℕ) → Stands tokens at (symbol.symbol (token_at tokens at)) → text_of (symbol.symbol (token_at tokens at)) ≡ None → head_text text_of (rest tokens at) ≡ None
none_shown text_of tokens at stands says = ap (head_text text_of) stands.is ∙ says

-- ---- where no level is left

sunk_some : (b : Beginning) (w : List Symbol) → b ≢ at_nothing → sunk b w ≡ inner.deep w
sunk_some at_nothing w h = absurd (h refl)
sunk_some (at_leaf l) w h = refl
sunk_some at_static w h = refl
sunk_some at_template w h = refl
sunk_some at_exit w h = refl
sunk_some at_new w h = refl
sunk_some at_yield w h = refl
sunk_some (at_enclosed e) w h = refl
sunk_some (at_listed l) w h = refl
sunk_some (at_prefix op) w h = refl

pub sunk_deep : (t : Symbol) (w x : List Symbol) → x ≡ t ∷ w → beginning t ≢ at_nothing → sunk_here x ≡ inner.deep x
sunk_deep t w x is h = ap sunk_here is ∙ sunk_some (beginning t) (t ∷ w) h ∙ ap inner.deep (sym is)

pub sunk_short : (x : List Symbol) → head_beginning x ≡ at_nothing → sunk_here x ≡ inner.short x
sunk_short [] h = refl
sunk_short (t ∷ w) h = ap (λ b. sunk b (t ∷ w)) h
