use Rattle.std.proofs.Common.{◌≡◌, ◌<◌, ℕ, ◌+◌, List, [], ◌∷◌, ◌++◌, length, Some, sym, ◌∙◌, ap, subst, arith}
use Rattle.php_token.specs.Token as whole
use Rattle.php_token.specs.Token.{token_at}
use Rattle.php_first_tokens.specs.declared.token.Lexeme.{Lexeme}
use Rattle.php_first_tokens.specs.declared.token.Token.{Token}
use Rattle.php_first_tokens.specs.Lexemes.{lexeme_of, named_by}
use Rattle.php_first_tokens.proofs.Rest.{Reached, passed}
use Rattle.php_first_tokens.proofs.narrowing.narrow.Goals as goal

after : (tokens : List whole.Token) (names new : List (List ℕ)) (at : ℕ) (done pushed : List Token) (l : Lexeme) → at < length tokens → Reached tokens names at done →
    new ≡ named_by names (token_at tokens at).text (token_at tokens at).kind →
    Some l ≡ lexeme_of new at (token_at tokens at) (token_at tokens at).kind →
    pushed ≡ done ++ record { lexeme = l; line = (token_at tokens at).line } ∷ [] → Reached tokens new (at + 1) pushed
after tokens names new at done pushed l within reached named is grown =
    let same = passed tokens names at done within reached l (is ∙ ap (λ ns. lexeme_of ns at (token_at tokens at) (token_at tokens at).kind) named) in
    let N : List (List ℕ) → Type 0 = λ ns. Reached tokens ns (at + 1) pushed in
    let P : List Token → Type 0 = λ ts. Reached tokens (named_by names (token_at tokens at).text (token_at tokens at).kind) (at + 1) ts in
    subst N (sym named) (subst P (sym grown) same)

pub loop-at-preserved : goal.loop-at-preserved
loop-at-preserved c =
    let e = c.in_ok-lexeme.ensures in
    record {
      reached = after c.args.tokens.now _ _ c.loop-at.at _ _ c.in-Some.lexeme (omega (arith, c.loop-at-test.true, c.len-at-end.ensures)) c.loop-at.invariant.reached e.names (rw c.in-Some.is at e.lexeme) (c.in_ok-push.ensures.items ∙ ap (λ n. c.loop-at.firsts.items ++ record { lexeme = c.in-Some.lexeme; line = n } ∷ []) c.line.ensures);
    }
