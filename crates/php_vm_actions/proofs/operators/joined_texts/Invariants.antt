use Rattle.php_vm_actions.proofs.JoinLemmas.{Joins, Some_left}
use Rattle.php_vm_actions.proofs.operators.joined_texts.Given as goal

-- the bytes so far and the texts that are left come to all of them
abbrev pub invariant-loop-left : goal.invariant-loop-left
invariant-loop-left g l = record {
  some : Some_left (g.M.Memory.means l.memory) l.block.0 l.count l.left;
  joins : Joins (g.M.Memory.means l.memory) l.block.0 l.count l.bytes.items l.left;
}

abbrev pub decreases-loop-left : goal.decreases-loop-left
decreases-loop-left g l = l.left
