use Rattle.std.proofs.Common.{arith}
use Rattle.php_lex_pieces.specs.Words.{keywords}
use Rattle.php_lex_pieces.proofs.KeywordLemmas.{one_of_seventeen, of_length_alone, of_length_above}
use Rattle.php_lex_pieces.proofs.keywords.rows_for.Goals as goal

pub returns : goal.returns
unfolding keywords
returns c =
    one_of_seventeen c.min.result (omega (arith, c.min.ensures))
    (λ is. rw is (of_length_alone 0 c.args.word.now (omega (arith, is, c.min.ensures))))
    (λ is. rw is (of_length_alone 1 c.args.word.now (omega (arith, is, c.min.ensures))))
    (λ is. rw is (of_length_alone 2 c.args.word.now (omega (arith, is, c.min.ensures))))
    (λ is. rw is (of_length_alone 3 c.args.word.now (omega (arith, is, c.min.ensures))))
    (λ is. rw is (of_length_alone 4 c.args.word.now (omega (arith, is, c.min.ensures))))
    (λ is. rw is (of_length_alone 5 c.args.word.now (omega (arith, is, c.min.ensures))))
    (λ is. rw is (of_length_alone 6 c.args.word.now (omega (arith, is, c.min.ensures))))
    (λ is. rw is (of_length_alone 7 c.args.word.now (omega (arith, is, c.min.ensures))))
    (λ is. rw is (of_length_alone 8 c.args.word.now (omega (arith, is, c.min.ensures))))
    (λ is. rw is (of_length_alone 9 c.args.word.now (omega (arith, is, c.min.ensures))))
    (λ is. rw is (of_length_alone 10 c.args.word.now (omega (arith, is, c.min.ensures))))
    (λ is. rw is (of_length_alone 11 c.args.word.now (omega (arith, is, c.min.ensures))))
    (λ is. rw is (of_length_alone 12 c.args.word.now (omega (arith, is, c.min.ensures))))
    (λ is. rw is (of_length_alone 13 c.args.word.now (omega (arith, is, c.min.ensures))))
    (λ is. rw is (of_length_alone 14 c.args.word.now (omega (arith, is, c.min.ensures))))
    (λ is. rw is (of_length_alone 15 c.args.word.now (omega (arith, is, c.min.ensures))))
    (λ is. rw is (of_length_above c.args.word.now (omega (arith, is, c.min.ensures))))
