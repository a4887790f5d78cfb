use Rattle.std.proofs.Common.{◌≡◌, List, length, sym, ap, ◌∙◌, subst, true}
use Rattle.std.proofs.lemmas.List.{length-map}
use Rattle.php_first_tokens.specs.declared.token.Token.{Token}
use Rattle.php_first_tokens.specs.Lexemes.{names_of}
use Rattle.php_first_parse.specs.Spelling.{IsSpelling}
use Rattle.php_run.specs.Today.{permits}
use Rattle.php_run.proofs.today.read_script.Goals as goal

pub returns-in_default-clause-only : goal.returns-in_default-clause-only
returns-in_default-clause-only c = λ variables statements is.
    rw c.in_default.is at (c.in_ok-first.ensures.only is.firsts is.first)

pub returns-then-not-are_permitted-clause-only : goal.returns-then-not-are_permitted-clause-only
returns-then-not-are_permitted-clause-only c = λ variables statements is.
    let names = rw c.in-Some.is at c.in_ok-first.ensures.names in
    let permitted : permits (names_of c.as_slice.result.now) ≡ true =
    ap (λ l. permits (names_of l)) c.as_slice.ensures.value ∙ ap permits names ∙ is.permitted in
    let refused = c.if-not-are_permitted.true in
    let tested = c.are_permitted.ensures in
    cc (permitted, refused, tested)

pub returns-in_default-2-clause-only : goal.returns-in_default-2-clause-only
returns-in_default-2-clause-only c = λ variables statements is.
    let same = rw c.in-Some.is at (c.in_ok-first.ensures.only is.firsts is.first) in
    let P : List Token → Type 0 = λ tokens. IsSpelling statements tokens in
    rw c.in_default-2.is at (c.in_ok-statements.ensures.only statements (subst P (sym (c.as_slice-2.ensures.value ∙ same)) is.spelled))

pub returns-clause-only : goal.returns-clause-only
returns-clause-only c = λ variables statements is.
    let same = rw c.in-Some.is at (c.in_ok-first.ensures.only is.firsts is.first) in
    let names = rw c.in-Some.is at c.in_ok-first.ensures.names in
    let P : List Token → Type 0 = λ tokens. IsSpelling statements tokens in
    let read = rw c.in-Some-2.is at (c.in_ok-statements.ensures.only statements (subst P (sym (c.as_slice-2.ensures.value ∙ same)) is.spelled)) in
    (c.len.ensures ∙ sym c.as_slice.ensures.len ∙ ap length c.as_slice.ensures.value ∙ sym (length-map c.in-Some.first.names.items (λ name. name.now)) ∙ ap length names ∙ is.counted, read)
