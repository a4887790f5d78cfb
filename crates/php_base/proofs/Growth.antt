use Rattle.std.proofs.Common.{◌≡◌, ℕ, ◌+◌, ◌-◌, ◌≤◌, List, ◌++◌, take, drop, length, Option, Some, None, sym, ◌∙◌, ap, subst, arith, length-drop}
use Rattle.std.proofs.Math.Seq.{take-add}
use Rattle.std.proofs.lemmas.List.{append_assoc, take_all}
use Rattle.std.specs.Option.{option_map}
use Rattle.php_base.specs.Written.{GrewBy}

-- two growths in a row are one
pub grew-twice :
    (first second third : Option (List ℕ)) (some more : List ℕ) →
    GrewBy first second some → GrewBy second third more → GrewBy first third (some ++ more)
grew-twice None second third some more one two = two ∙ ap (option_map (λ w. w ++ more)) one
grew-twice (Some written) second third some more one two =
    two ∙ ap (option_map (λ w. w ++ more)) one ∙ ap (λ w. Some w) (append_assoc written some more)

-- after the first bytes, some of the rest were written
pub grew-further :
    (first second third : Option (List ℕ)) (bytes : List ℕ) (done n : ℕ) →
    GrewBy first second (take done bytes) →
    GrewBy second third (take n (take (length bytes - done) (drop done bytes))) →
    GrewBy first third (take (done + n) bytes)
grew-further first second third bytes done n one two =
    let rest : length (drop done bytes) ≤ length bytes - done = omega (arith, length-drop done bytes) in
    let all : take (length bytes - done) (drop done bytes) ≡ drop done bytes = take_all _ _ rest in
    let both : take done bytes ++ take n (take (length bytes - done) (drop done bytes)) ≡ take (done + n) bytes =
    ap (λ l. take done bytes ++ take n l) all ∙ sym (take-add done n bytes) in
    let P : List ℕ → Type 0 = λ l. GrewBy first third l in
    subst P both (grew-twice first second third _ _ one two)
