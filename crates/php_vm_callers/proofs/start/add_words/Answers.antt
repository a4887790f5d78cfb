use Rattle.std.proofs.Common.{◌≡◌, List, refl, subst}
use Rattle.php_memdef.specs.Operations.{Operation}
use Rattle.php_vm_actions.specs.Straight.{CanAll, all}
use Rattle.php_vm_callers.specs.Beginnings.{bytes_of, word_added, words_added}
use Rattle.php_vm_callers.proofs.WordLemmas.{words_left, none_left}
use Rattle.php_vm_callers.proofs.start.add_words.Goals as goal

pub loop-word-init : goal.loop-word-init
loop-word-init g c = record { can = c.requires; leads = λ m h. (m, h, refl) }

pub add_word-requires-clause-can : goal.add_word-requires-clause-can
add_word-requires-clause-can g c =
    let can = c.loop-word.invariant.can in
    let left = words_left c.args.block.0 c.args.words.now c.loop-word.word-index c.word-item.result c.as_bytes.result.now c.loop-word-test.true c.word-item.is c.as_bytes.ensures.value in
    let more = subst (λ (os : List Operation). CanAll os can.0) left can.2 in
    (can.0, can.1, (more.0, (more.1.0, tt)))

pub loop-word-preserved : goal.loop-word-preserved
loop-word-preserved g c =
    let b = c.args.block.0 in
    let can = c.loop-word.invariant.can in
    let left = words_left b c.args.words.now c.loop-word.word-index c.word-item.result c.as_bytes.result.now c.loop-word-test.true c.word-item.is c.as_bytes.ensures.value in
    let more = subst (λ (os : List Operation). CanAll os can.0) left can.2 in
    record {
      can = (all (word_added b c.as_bytes.result.now) can.0, c.in_ok-add_word.ensures can.0 can.1, more.1.1);
      leads = λ m h.
          let r = c.loop-word.invariant.leads m h in (
            all (word_added b c.as_bytes.result.now) r.0,
            c.in_ok-add_word.ensures r.0 r.1,
            subst (λ (os : List Operation). all os r.0 ≡ all (words_added b (bytes_of c.args.words.now)) m) left r.2,
          );
    }

pub returns : goal.returns
returns g c m h =
    let r = c.loop-word.invariant.leads m h in
    let last = none_left c.args.block.0 c.args.words.now c.loop-word.word-index c.loop-word-test.false in
    subst (g.M.Memory.means c.loop-word.memory) (subst (λ (os : List Operation). all os r.0 ≡ all (words_added c.args.block.0 (bytes_of c.args.words.now)) m) last r.2) r.1
