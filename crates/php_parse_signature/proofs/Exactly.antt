-- From what the parser does to what its answers say of the tokens.
use Rattle.std.proofs.Common.{◌≡◌, ◌≤◌, ◌<◌, true, false, ℕ, suc, ◌+◌, ◌-◌, List, [], ◌∷◌, ◌++◌, take, length, refl, sym, ◌∙◌, ap, subst, arith}
use Rattle.std.proofs.lemmas.List.{append-nil}
use Rattle.php_token.specs.Token.{Token}
use Rattle.php_ast.specs.Symbol.{Symbol}
use Rattle.php_ast.specs.expression.View.{Note}
use Rattle.php_ast.specs.expression.Placed.{no_notes, notes_of}
use Rattle.php_ast.specs.declaration.Tree.{Signature}
use Rattle.php_ast.specs.declaration.Placed.{noted_signature, signature_form}
use Rattle.php_ast.specs.declaration.Nesting.{signature_nests}
use Rattle.php_ast.specs.declaration.View.{signature_view}
use Rattle.php_grammar.specs.Begins.{BeginsSignature}
use Rattle.php_grammar.specs.expression.Machine.{Nothing}
use Rattle.php_grammar.specs.declaration.SignatureMachine.{due_signature}
use Rattle.php_grammar.specs.declaration.Laws.{SpellsSignature, IsSpelledSignature}
use Rattle.php_grammar.proofs.declaration.Notes.{signature_again}
use Rattle.php_grammar.proofs.declaration.NotedLaws.{one_signature_tree}
use Rattle.php_reader.specs.declared.fail.Stop.{Stop}
use Rattle.php_reader.specs.declared.fail.Stop.TheVariants.{Syntax, TooDeep, NoMemory}
use Rattle.php_reader.specs.declared.fail.ParseFail.{ParseFail}
use Rattle.php_reader.specs.Seen.{rest}
use Rattle.php_reader.specs.Line.{IsLined, line_at}
use Rattle.php_parse_expression.specs.Exact.{between, symbols}
use Rattle.php_parse_expression.proofs.Depths.{AllWithin, none_deep, first_deep}
use Rattle.php_parse_expression.proofs.Between.{split, symbols_length, more_between, first_of, stands, with_next}
use Rattle.php_parse_signature.specs.declared.read.ReadSignature.{ReadSignature}
use Rattle.php_parse_signature.specs.Answer.{StopsAt, Fails, FoundSignature}
use Rattle.php_parse_signature.specs.Exact.{Reaches, IsRead, IsSyntax, IsTooDeep, IsRefused}
use Rattle.php_parse_signature.proofs.Blanks.{blank_signature}
use Rattle.php_parse_signature.proofs.Tells.{whole_walk, short_walk, deep_walk}

reaches : (tokens : List Token) (at k : ℕ) → at ≤ k → k ≤ length tokens → BeginsSignature (symbols tokens at k)
    → ((t : Symbol) (v x : List Symbol) → rest tokens k ≡ t ∷ v → BeginsSignature (symbols tokens at k ++ t ∷ x) → ⊥) → Reaches tokens at k
reaches tokens at k ahead within begins most = record {
  ahead = ahead;
  within = within;
  begins = begins;
  most = λ j less in_range b.
      let f = first_of (rest tokens k) (symbols tokens k j) (rest tokens j) (split tokens k j (omega arith)) (omega (arith, symbols_length tokens k j (omega arith) in_range)) in
      most f.token (f.more ++ rest tokens j) f.more f.front (subst BeginsSignature (more_between tokens at k j ahead (omega arith) ∙ ap (λ z. symbols tokens at k ++ z) f.here) b);
}

form_is : (tokens : List Token) (at : ℕ) (s : Signature Note) (f : Signature Nothing) → s ≡ noted_signature (notes_of tokens) at f → signature_form s ≡ f
form_is tokens at s f shown = ap signature_form shown ∙ signature_again (notes_of tokens) no_notes at 0 f ∙ blank_signature 0 f

-- ---- answers

pub is_read : (depth room n : ℕ) (tokens : List Token) (at : ℕ) (r : ReadSignature) → room ≡ suc n → n + depth ≡ 128 → FoundSignature room tokens at r → IsRead depth tokens at r.signature r.next
is_read depth room n tokens at r room_is sum found =
    let at_k : at ≤ r.next = omega (arith, found.ahead) in
    let w = whole_walk n (rest tokens at) (symbols tokens at r.next) (rest tokens r.next) found.form (split tokens at r.next at_k) (found.comes n room_is) in
    let form = form_is tokens at (signature_view r.signature) found.form found.shown in
    let spelled : IsSpelledSignature tokens at (signature_view r.signature) (between tokens at r.next) = record {
      spelled = subst (λ s. SpellsSignature s (symbols tokens at r.next)) (sym form) w.spelled;
      placed = ap (noted_signature (notes_of tokens) at) found.shown ∙ signature_again (notes_of tokens) (notes_of tokens) at at found.form ∙ sym found.shown;
    } in
    record {
      reaches = reaches tokens at r.next at_k found.within
          (record { tree = found.form; rest = []; spelled = (w.spelled.0, w.spelled.1 ∙ sym (append-nil (symbols tokens at r.next))) }) w.most;
      spelled = spelled;
      only = λ a p. one_signature_tree tokens at (between tokens at r.next) a (signature_view r.signature) p spelled;
      shallow = none_deep depth (signature_nests (signature_form (signature_view r.signature)) 0 []) (subst (λ s. AllWithin depth (signature_nests s 0 [])) (sym form) (w.shallow depth sum));
    }

is_syntax : (depth room n : ℕ) (tokens : List Token) (at k : ℕ) → room ≡ suc n → n + depth ≡ 128 → StopsAt false room due_signature (rest tokens at) tokens at k → IsSyntax depth tokens at k (line_at tokens k)
is_syntax depth room n tokens at k room_is sum stops =
    let w = short_walk n (rest tokens at) (symbols tokens at k) (rest tokens k) (split tokens at k stops.ahead) (stops.halts.same n room_is) in
    record {
      reaches = reaches tokens at k stops.ahead stops.within w.begins w.most;
      unspelled = w.unspelled;
      shallow = λ s more spells. none_deep depth (take (k - at) (signature_nests s 0 [])) (w.shallow depth (k - at) s more sum (symbols_length tokens at k stops.ahead stops.within) spells);
      on_line = refl;
    }

is_too_deep : (depth room n : ℕ) (tokens : List Token) (at k : ℕ) → room ≡ suc n → n + depth ≡ 128 → StopsAt true room due_signature (rest tokens at) tokens at k → IsTooDeep depth tokens at k (line_at tokens k)
is_too_deep depth room n tokens at k room_is sum stops =
    let d = deep_walk n (rest tokens at) (symbols tokens at k) (rest tokens k) (split tokens at k stops.ahead) (stops.halts.same n room_is) in
    let inside : k < length tokens = stands tokens k d.token d.more d.is stops.within in
    let more : symbols tokens at (k + 1) ≡ symbols tokens at k ++ d.token ∷ [] = with_next tokens at k d.token d.more stops.ahead inside d.is in
    record {
      ahead = stops.ahead;
      within = inside;
      begins = subst BeginsSignature (sym more) d.walked.begins;
      sinks = λ s rest_of spells. first_deep depth (k - at) (signature_nests s 0 []) (omega arith)
          (d.walked.sinks depth (k - at) s rest_of sum (symbols_length tokens at k stops.ahead stops.within) (spells.0, spells.1 ∙ ap (λ z. z ++ rest_of) more));
      on_line = refl;
    }

pub is_refused : (depth room n : ℕ) (tokens : List Token) (at : ℕ) (e : Stop) (fail : ParseFail) → room ≡ suc n → n + depth ≡ 128 → Fails room due_signature (rest tokens at) tokens at e
    → IsLined tokens e fail → IsRefused depth tokens at fail
is_refused depth room n tokens at (Syntax k) fail room_is sum fails is = subst (IsRefused depth tokens at) (sym is) (is_syntax depth room n tokens at k room_is sum fails)
is_refused depth room n tokens at (TooDeep k) fail room_is sum fails is = subst (IsRefused depth tokens at) (sym is) (is_too_deep depth room n tokens at k room_is sum fails)
is_refused depth room n tokens at NoMemory fail room_is sum fails is = subst (IsRefused depth tokens at) (sym is) tt
