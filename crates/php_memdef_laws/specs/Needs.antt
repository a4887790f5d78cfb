-- What an operation needs beside its condition, so that what is there has a holder afterwards.
use Rattle.php_memdef.specs.Contents.{Mem}
use Rattle.php_memdef.specs.Sound.{IsClosed, IsFormed}
use Rattle.php_memdef.specs.Operations.{Operation}
use Rattle.php_memdef.specs.Operations as op

-- Writes and removals need that every store that is named is there, and what makes an object that each part is as it should be.
-- The others need nothing.
abbrev pub Needs : Operation → Mem → Type 0
Needs (op.assign b to) m = IsClosed m
Needs (op.append b to) m = IsClosed m
Needs (op.link b from) m = IsClosed m
Needs (op.bind b to) m = IsClosed m
Needs (op.unset b at) m = IsClosed m
Needs (op.unset_last b at) m = IsClosed m
Needs (op.forget b name) m = IsClosed m
Needs (op.shed b) m = IsClosed m
Needs (op.make_object b class finishing) m = IsFormed m
Needs (op.clone_object b) m = IsFormed m
Needs _ m = Unit {0}
