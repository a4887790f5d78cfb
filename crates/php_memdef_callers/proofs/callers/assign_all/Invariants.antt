use Rattle.std.proofs.Common.{◌≡◌, drop}
use Rattle.php_memdef.specs.Contents.{Mem}
use Rattle.php_memdef.specs.Meanings.{SomeMeant}
use Rattle.php_memdef_callers.specs.Assignments.{all_assigned, CanAssignAll}
use Rattle.php_memdef_callers.proofs.callers.assign_all.Given as goal

-- the settings that are left can be assigned, and that leads where all of them lead
abbrev pub invariant-loop-setting : goal.invariant-loop-setting
invariant-loop-setting g l = record {
  can : SomeMeant (g.M.Memory.means l.memory) (CanAssignAll l.block.0 (drop l.setting-index l.settings));
  leads : (m : Mem) → g.M.Memory.means l.initial.memory m → SomeMeant (g.M.Memory.means l.memory) (λ n. all_assigned n l.block.0 (drop l.setting-index l.settings) ≡ all_assigned m l.block.0 l.settings);
}
