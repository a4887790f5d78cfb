use Rattle.std.proofs.Common.{◌<◌, ◌*◌, length, drop, sym, subst, arith}
use Rattle.std.proofs.lemmas.List.{length-drop}
use Rattle.php_lex_pieces.specs.Numbers.{value}
use Rattle.php_lex_pieces.proofs.NumberLemmas.{value_over, at_most_none}
use Rattle.php_lex_pieces.proofs.numbers.value.Goals as goal

pub returns-in_default : goal.returns-in_default
returns-in_default c =
    let over : c.args.limit < c.loop-b.n * c.args.base = grind (arith, c.in_default.ensures) in
    let more : 0 < length (drop c.loop-b.b-index c.args.digits.now) = omega (arith, length-drop c.loop-b.b-index c.args.digits.now, c.loop-b-test.true) in
    let above = value_over c.args.base c.loop-b.n c.args.limit (drop c.loop-b.b-index c.args.digits.now) c.requires.base over more in
    sym (at_most_none c.args.limit (value c.args.base c.args.digits.now) (subst (λ v. c.args.limit < v) c.loop-b.invariant.goes_on above))

pub returns-then-shifted-limit : goal.returns-then-shifted-limit
returns-then-shifted-limit c =
    let over : c.args.limit < c.loop-b.n * c.args.base = grind (arith, c.in-Some.ensures, c.if-shifted-limit.true) in
    let more : 0 < length (drop c.loop-b.b-index c.args.digits.now) = omega (arith, length-drop c.loop-b.b-index c.args.digits.now, c.loop-b-test.true) in
    let above = value_over c.args.base c.loop-b.n c.args.limit (drop c.loop-b.b-index c.args.digits.now) c.requires.base over more in
    sym (at_most_none c.args.limit (value c.args.base c.args.digits.now) (subst (λ v. c.args.limit < v) c.loop-b.invariant.goes_on above))
