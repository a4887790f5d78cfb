use Rattle.std.proofs.Common.{◌≡◌, drop}
use Rattle.php_memdef.specs.Contents.{Mem}
use Rattle.php_memdef.specs.Meanings.{SomeMeant}
use Rattle.php_vm_actions.specs.Straight.{CanAll, all}
use Rattle.php_vm_callers.specs.Beginnings.{bytes_of, words_added}
use Rattle.php_vm_callers.proofs.start.add_words.Given as goal

-- the words that are left can be added, and they lead where all of them lead
abbrev pub invariant-loop-word : goal.invariant-loop-word
invariant-loop-word g l = record {
  can : SomeMeant (g.M.Memory.means l.memory) (CanAll (words_added l.block.0 (bytes_of (drop l.word-index l.words))));
  leads : (m : Mem) → g.M.Memory.means l.initial.memory m → SomeMeant (g.M.Memory.means l.memory) (λ n. all (words_added l.block.0 (bytes_of (drop l.word-index l.words))) n ≡ all (words_added l.block.0 (bytes_of l.words)) m);
}
