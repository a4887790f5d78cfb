use Rattle.std.proofs.Common.{◌≡◌, ◌+◌, ◌-◌, ◌%◌, take, drop, Some, ap, ◌∙◌, arith}
use Rattle.std.specs.Prelude.{unwrap_or}
use Rattle.php_lex_pieces.specs.declared.escapes.Meaning.TheVariants.{Byte}
use Rattle.php_lex_pieces.specs.Numbers.{value, at_most}
use Rattle.php_lex_pieces.proofs.NumberLemmas.{few_digits_at, at_most_some}
use Rattle.php_lex_pieces.proofs.escapes.byte_escape.Goals as goal

pub returns : goal.returns
returns c =
    let digits = take c.args.n (drop c.args.at c.args.text.now) in
    let count : c.args.at + c.args.n - c.args.at ≡ c.args.n = omega arith in
    let small = few_digits_at c.args.base c.args.text.now c.args.at c.args.n c.requires.base.1 c.requires.few c.requires.within (λ i. omega (arith, c.type_inv.text i)) in
    let read : c.value.result ≡ Some (value c.args.base digits) =
    c.value.ensures ∙ ap (λ k. at_most 1048576 (value c.args.base (take k (drop c.args.at c.args.text.now)))) count ∙ at_most_some 1048576 (value c.args.base digits) small in
    let code : c.unwrap_or-code.result ≡ value c.args.base digits = c.unwrap_or-code.ensures ∙ ap (λ o. unwrap_or o 0) read in
    ap (λ v. (c.args.at + c.args.n, Byte (v % 256))) code
