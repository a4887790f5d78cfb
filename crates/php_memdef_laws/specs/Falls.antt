-- In which block something falls by an operation.
use Rattle.std.specs.Prelude.{ℕ, Option, Some, None}
use Rattle.php_memdef.specs.Operations.{Operation}
use Rattle.php_memdef.specs.Operations as op

-- the block in which something may fall or be released, or that comes or goes
abbrev pub falls_in : Operation → Option ℕ
falls_in (op.enter b room) = Some b
falls_in (op.leave b) = Some b
falls_in (op.assign b to) = Some b
falls_in (op.bind b to) = Some b
falls_in (op.settle b) = Some b
falls_in (op.append b to) = Some b
falls_in (op.unset b at) = Some b
falls_in (op.unset_last b at) = Some b
falls_in (op.forget b name) = Some b
falls_in (op.shed b) = Some b
falls_in (op.drop_top b) = Some b
falls_in (op.fall b) = Some b
falls_in (op.clone_object b) = Some b
falls_in _ = None
