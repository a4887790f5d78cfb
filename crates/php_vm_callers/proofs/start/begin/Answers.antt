use Rattle.std.proofs.Common.{refl, sym, subst, arith}
use Rattle.php_memdef.specs.Contents.{fresh}
use Rattle.php_memdef.specs.Temporaries.{enter}
use Rattle.php_actions.specs.Start.{begun}
use Rattle.php_vm_actions.specs.Straight.{CanAll, all}
use Rattle.php_vm_callers.specs.Beginnings.{bytes_of, words_added, count_set}
use Rattle.php_vm_callers.proofs.WordLemmas.{bytes_count}
use Rattle.php_vm_callers.proofs.StartLemmas.{array_can, words_can, count_can}
use Rattle.php_vm_callers.proofs.start.begin.Goals as goal

pub set_array-requires : goal.set_array-requires
set_array-requires g c =
    let b = c.in_ok-block.block.0 in
    (enter fresh b c.args.room, (c.in_ok-block.ensures.ok fresh c.requires.nothing_made).1, array_can b c.args.room c.requires.some_room)

pub add_words-requires : goal.add_words-requires
add_words-requires g c =
    let b = c.in_ok-block.block.0 in (
      begun c.args.room b,
      c.in_ok-set_array.ensures (enter fresh b c.args.room) (c.in_ok-block.ensures.ok fresh c.requires.nothing_made).1,
      words_can b c.args.room c.requires.some_room (bytes_of c.args.words.now) c.requires.arguments,
    )

pub set_count-requires : goal.set_count-requires
set_count-requires g c =
    let b = c.in_ok-block.block.0 in
    let words = bytes_of c.args.words.now in
    record {
      fits = omega (arith, c.requires.arguments.few, bytes_count c.args.words.now);
      can = (
        all (words_added b words) (begun c.args.room b),
        c.in_ok-add_words.ensures (begun c.args.room b)
            (c.in_ok-set_array.ensures (enter fresh b c.args.room) (c.in_ok-block.ensures.ok fresh c.requires.nothing_made).1),
        subst (λ n. CanAll (count_set b n) (all (words_added b words) (begun c.args.room b))) (bytes_count c.args.words.now)
            (count_can b c.args.room c.requires.some_room words c.requires.arguments),
      );
    }

pub returns : goal.returns
returns g c =
    let b = c.in_ok-block.block.0 in
    let words = bytes_of c.args.words.now in
    let made = all (words_added b words) (begun c.args.room b) in
    record {
      frame = refl;
      mem =
          subst (λ n. g.M.Memory.means c.set_count.new.memory (all (count_set b n) made)) (sym (bytes_count c.args.words.now))
          (c.in_ok-set_count.ensures made
          (c.in_ok-add_words.ensures (begun c.args.room b)
          (c.in_ok-set_array.ensures (enter fresh b c.args.room) (c.in_ok-block.ensures.ok fresh c.requires.nothing_made).1)));
    }
