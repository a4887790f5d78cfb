use Rattle.std.proofs.Common.{◌≡◌, ◌<◌, ℕ, ◌∙◌, ap, subst}
use Rattle.php_memdef.specs.declared.answer.Fallen.{Fallen}
use Rattle.php_memdef.specs.Contents.{Mem}
use Rattle.php_memdef.specs.Releases.{goes_on, stops, turn, turns, fall_after, fall}
use Rattle.php_memdef_laws.proofs.EndLemmas.{TurnEnds, turn_ends, fall_unfolds}
use Rattle.php_memplain_cells.specs.Memory.{memory_seen, turn_of}
use Rattle.php_memplain_cells.proofs.cells.Cells.fall.Goals as goal

goes_down : (m n : Mem) (b : ℕ) → turn m b ≡ goes_on n → turns n b < turns m b
goes_down m n b e = subst (TurnEnds m b) e (turn_ends m b)

goes_same : (m n : Mem) (b : ℕ) → turn m b ≡ goes_on n → fall m b ≡ fall n b
goes_same m n b e = fall_unfolds m b ∙ ap (λ t. fall_after t (λ n. fall n b)) e

stops_so : (m n : Mem) (b : ℕ) (answer : Fallen) → turn m b ≡ stops n answer → fall m b ≡ (n, answer)
stops_so m n b answer e = fall_unfolds m b ∙ ap (λ t. fall_after t (λ n. fall n b)) e

pub returns-in-Some-clause-falls : goal.returns-in-Some-clause-falls
returns-in-Some-clause-falls c =
    c.loop-answer.invariant.falls ∙ stops_so (memory_seen c.loop-answer.self) (memory_seen c.release_one.new.self) c.args.block c.in-Some.answer c.in-Some.ensures.turn

pub loop-answer-smaller : goal.loop-answer-smaller
loop-answer-smaller c = goes_down (memory_seen c.loop-answer.self) (memory_seen c.release_one.new.self) c.args.block (c.release_one.ensures.turn ∙ ap (λ o. turn_of o (memory_seen c.release_one.new.self)) c.in_default.is)

pub loop-answer-preserved : goal.loop-answer-preserved
loop-answer-preserved c = record {
  block = c.release_one.ensures.block;
  counted = c.release_one.ensures.counted;
  ledger = c.release_one.ensures.ledger ∙ c.loop-answer.invariant.ledger;
  falls = c.loop-answer.invariant.falls ∙ goes_same (memory_seen c.loop-answer.self) (memory_seen c.release_one.new.self) c.args.block (c.release_one.ensures.turn ∙ ap (λ o. turn_of o (memory_seen c.release_one.new.self)) c.in_default.is);
}
