-- What a write over cells comes to, for each memory that is meant.
use Rattle.std.specs.Prelude.{Result, Ok, Err, IfOk, OnErr}
use Rattle.php_base.specs.declared.memory.NoMemory.{NoMemory}
use Rattle.php_memdef.specs.declared.answer.Wrote.{Wrote}

pub if_answered : {P Q : Wrote → Type 0} (r : Result Wrote NoMemory) → ((w : Wrote) → P w → Q w) → IfOk r P → IfOk r Q
if_answered (Ok w) f p = f w p
if_answered (Err e) f p = p

pub if_wanting : {P Q : Type 0} (r : Result Wrote NoMemory) → (P → Q) → OnErr r P → OnErr r Q
if_wanting (Ok w) f p = p
if_wanting (Err e) f p = f p
