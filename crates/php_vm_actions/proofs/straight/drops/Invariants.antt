use Rattle.std.proofs.Common.{◌≡◌}
use Rattle.php_memdef.specs.Contents.{Mem}
use Rattle.php_memdef.specs.Meanings.{SomeMeant}
use Rattle.php_vm_actions.specs.Straight.{CanAll, all, drops_of}
use Rattle.php_vm_actions.proofs.straight.drops.Given as goal

abbrev pub decreases-loop-left : goal.decreases-loop-left
decreases-loop-left g l = l.left

-- the drops that are left can be made, and they lead where all of them lead
abbrev pub invariant-loop-left : goal.invariant-loop-left
invariant-loop-left g l = record {
  can : SomeMeant (g.M.Memory.means l.memory) (CanAll (drops_of l.block.0 l.left));
  leads : (m : Mem) → g.M.Memory.means l.initial.memory m → SomeMeant (g.M.Memory.means l.memory) (λ n. all (drops_of l.block.0 l.left) n ≡ all (drops_of l.block.0 l.count) m);
}
