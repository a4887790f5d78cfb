-- From what the parser does among all open forms to what its answers say of the tokens.
use Rattle.std.proofs.Common.{◌≡◌, ◌≤◌, ◌<◌, true, false, ℕ, suc, ◌+◌, ◌-◌, List, [], ◌∷◌, ◌++◌, take, drop, length, refl, sym, ◌∙◌, ap, subst, arith}
use Rattle.std.proofs.lemmas.List.{length-map, length-drop}
use Rattle.php_token.specs.Token.{Token}
use Rattle.php_reader.specs.declared.limit.TheConstants.{LEAST_POWER}
use Rattle.php_ast.specs.Symbol.{Symbol, symbol}
use Rattle.php_ast.specs.expression.Tree.{Tree}
use Rattle.php_ast.specs.expression.Proper.{ends_bare}
use Rattle.php_ast.specs.expression.View.{Note, view}
use Rattle.php_ast.specs.expression.Placed.{noted, no_notes, notes_of, form_of}
use Rattle.php_grammar.specs.expression.Machine.{Form, expects}
use Rattle.php_grammar.specs.expression.Laws.{Spells, BeginsExpression, IsSpelled}
use Rattle.php_grammar.proofs.expression.Notes.{again}
use Rattle.php_grammar.proofs.expression.LawProofs.{one_tree}
use Rattle.php_reader.specs.declared.fail.Stop.{Stop}
use Rattle.php_reader.specs.declared.fail.Stop.TheVariants.{Syntax, TooDeep, NoMemory}
use Rattle.php_reader.specs.declared.fail.ParseFail.{ParseFail}
use Rattle.php_parse_operands.specs.declared.read.Read.{Read}
use Rattle.php_parse_operands.specs.Walk.{walk, whole, short, deep}
use Rattle.php_reader.specs.Seen.{rest}
use Rattle.php_parse_operands.specs.Answer.{Found, StopsAt, Fails}
use Rattle.php_parse_expression.specs.Exact.{between, symbols, Reaches, IsRead, IsSyntax, IsTooDeep, IsRefused}
use Rattle.php_reader.specs.Line.{IsLined, line_at}
use Rattle.php_parse_expression.proofs.Between.{split, symbols_length, more_between, first_of, with_next}
use Rattle.php_parse_expression.proofs.Blanks.{blank}
use Rattle.php_parse_expression.proofs.Depths.{AllWithin, none_deep, first_deep}
use Rattle.php_parse_expression.proofs.Wholes.{over, ends_deep, whole_walk, short_walk, deep_walk}
use Rattle.php_parse_expression.proofs.Walked.{walks, EndsIn}
use Rattle.php_ast.specs.expression.Nesting.{nests}

reaches : (tokens : List Token) (at k : ℕ) → at ≤ k → k ≤ length tokens → BeginsExpression (symbols tokens at k)
    → ((t : Symbol) (v x : List Symbol) → rest tokens k ≡ t ∷ v → BeginsExpression (symbols tokens at k ++ t ∷ x) → ⊥) → Reaches tokens at k
reaches tokens at k ahead within begins most = record {
  ahead = ahead;
  within = within;
  begins = begins;
  most = λ j less in_range b.
      let f = first_of (rest tokens k) (symbols tokens k j) (rest tokens j) (split tokens k j (omega arith)) (omega (arith, symbols_length tokens k j (omega arith) in_range)) in
      most f.token (f.more ++ rest tokens j) f.more f.front (subst BeginsExpression (more_between tokens at k j ahead (omega arith) ∙ ap (λ z. symbols tokens at k ++ z) f.here) b);
}

-- ---- answers

form_is : (tokens : List Token) (at : ℕ) (e : Tree Note) (f : Form) → e ≡ noted (notes_of tokens) at f → form_of e ≡ f
form_is tokens at e f shown = ap form_of shown ∙ again (notes_of tokens) no_notes at 0 f ∙ blank 0 f

pub is_read : (depth room n : ℕ) (tokens : List Token) (at : ℕ) (r : Read) → room ≡ suc n → n + depth ≡ 128 → Found room LEAST_POWER LEAST_POWER (λ s. expects s) (rest tokens at) tokens at at r → IsRead depth tokens at r.expr r.next
is_read depth room n tokens at r room_is sum found =
    let at_k : at ≤ r.next = omega (arith, found.ahead) in
    let walked : walk n (expects []) (rest tokens at) ≡ whole found.form (rest tokens r.next) =
    found.reads.same n [] tt (omega arith) (omega arith) ∙ over n found.form (rest tokens r.next) found.rests in
    let w = whole_walk n (rest tokens at) (symbols tokens at r.next) (rest tokens r.next) found.form (split tokens at r.next at_k) walked in
    let form = form_is tokens at (view r.expr) found.form found.spans.shown in
    let spelled : IsSpelled tokens at (view r.expr) (between tokens at r.next) = record {
      spelled = subst (λ z. Spells z (symbols tokens at r.next)) (sym form) w.spelled;
      placed = ap (noted (notes_of tokens) at) found.spans.shown ∙ again (notes_of tokens) (notes_of tokens) at at found.form ∙ sym found.spans.shown;
    } in
    record {
      reaches = reaches tokens at r.next at_k found.within w.begins w.most;
      spelled = spelled;
      stands = λ h. found.bare (ap ends_bare (sym form) ∙ h);
      only = λ a p. one_tree tokens at (between tokens at r.next) a (view r.expr) p spelled;
      shallow = none_deep depth (nests (form_of (view r.expr)) 0 []) (subst (λ z. AllWithin depth (nests z 0 [])) (sym form) (w.shallow depth sum));
    }

pub is_syntax : (depth room n : ℕ) (tokens : List Token) (at k line : ℕ) → room ≡ suc n → n + depth ≡ 128 → StopsAt false room LEAST_POWER (λ s. expects s) (rest tokens at) tokens at k → line ≡ line_at tokens k → IsSyntax depth tokens at k line
is_syntax depth room n tokens at k line room_is sum stops on_line =
    let walked : walk n (expects []) (rest tokens at) ≡ short (rest tokens k) = stops.halts.same n [] tt (omega arith) (omega arith) in
    let w = short_walk n (rest tokens at) (symbols tokens at k) (rest tokens k) (split tokens at k stops.ahead) walked in
    record {
      reaches = reaches tokens at k stops.ahead stops.within w.begins w.most;
      unspelled = w.unspelled;
      shallow = λ e more spells. none_deep depth (take (k - at) (nests e 0 [])) (w.shallow depth (k - at) e more sum (symbols_length tokens at k stops.ahead stops.within) spells);
      on_line = on_line;
    }

-- a walk that sinks has a token there
never_deep : (n : ℕ) (w : List Symbol) → walk n (expects []) w ≡ deep [] → ⊥
never_deep n w h =
    let k = walks n (expects []) w in
    let e = ends_deep n k.to k.left [] (subst (λ o. EndsIn n k.to k.left o) h k.ends) in
    let is : [] ≡ e.token ∷ e.more = e.is in cc

deep_token : (n : ℕ) (tokens : List Token) (at k : ℕ) → walk n (expects []) (rest tokens at) ≡ deep (rest tokens k) → k ≤ length tokens → at ≤ k → k < length tokens
deep_token n tokens at k walked within ahead = deep_by (rest tokens k) refl
  where
    deep_by : (y : List Symbol) → rest tokens k ≡ y → k < length tokens
    deep_by [] is = absurd (never_deep n (rest tokens at) (walked ∙ ap deep is))
    deep_by (t ∷ v) is = omega (arith, ap length is, length-map (drop k tokens) symbol, length-drop k tokens)

pub is_too_deep : (depth room n : ℕ) (tokens : List Token) (at k line : ℕ) → room ≡ suc n → n + depth ≡ 128 → StopsAt true room LEAST_POWER (λ s. expects s) (rest tokens at) tokens at k → line ≡ line_at tokens k → IsTooDeep depth tokens at k line
is_too_deep depth room n tokens at k line room_is sum stops on_line =
    let walked : walk n (expects []) (rest tokens at) ≡ deep (rest tokens k) = stops.halts.same n [] tt (omega arith) (omega arith) in
    let inside : k < length tokens = deep_token n tokens at k walked stops.within stops.ahead in
    let f = first_of (rest tokens k) (symbols tokens k (k + 1)) (rest tokens (k + 1)) (split tokens k (k + 1) (omega arith)) (omega (arith, symbols_length tokens k (k + 1) (omega arith) (omega arith))) in
    let more : symbols tokens at (k + 1) ≡ symbols tokens at k ++ f.token ∷ [] = with_next tokens at k f.token (f.more ++ rest tokens (k + 1)) stops.ahead inside f.front in
    let w = deep_walk n (rest tokens at) (symbols tokens at k) f.token (f.more ++ rest tokens (k + 1)) (split tokens at k stops.ahead ∙ ap (λ z. symbols tokens at k ++ z) f.front) (walked ∙ ap deep f.front) in
    record {
      ahead = stops.ahead;
      within = inside;
      begins = subst BeginsExpression (sym more) w.begins;
      sinks = λ e rest_of spells. first_deep depth (k - at) (nests e 0 []) (omega arith) (w.sinks depth (k - at) e rest_of sum (symbols_length tokens at k stops.ahead stops.within) (spells.0, spells.1 ∙ ap (λ z. z ++ rest_of) more));
      on_line = on_line;
    }

pub is_refused : (depth room n : ℕ) (tokens : List Token) (at : ℕ) (e : Stop) (fail : ParseFail) → room ≡ suc n → n + depth ≡ 128 → Fails room LEAST_POWER (λ s. expects s) (rest tokens at) tokens at e → IsLined tokens e fail → IsRefused depth tokens at fail
is_refused depth room n tokens at (Syntax k) fail room_is sum fails is =
    subst (IsRefused depth tokens at) (sym is) (is_syntax depth room n tokens at k (line_at tokens k) room_is sum fails refl)
is_refused depth room n tokens at (TooDeep k) fail room_is sum fails is =
    subst (IsRefused depth tokens at) (sym is) (is_too_deep depth room n tokens at k (line_at tokens k) room_is sum fails refl)
is_refused depth room n tokens at NoMemory fail room_is sum fails is = subst (IsRefused depth tokens at) (sym is) tt
