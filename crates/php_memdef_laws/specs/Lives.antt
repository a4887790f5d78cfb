-- Which objects are there after an operation.
use Rattle.std.specs.Prelude.{ℕ, Bool, true, cond, nat_eq, Option, Some, None}
use Rattle.php_memdef.specs.Contents.{Mem}
use Rattle.php_memdef.specs.Deciders.{is_object}
use Rattle.php_memdef.specs.Operations.{Operation, answer}
use Rattle.php_memdef.specs.Operations as op

-- a release alone takes objects away
abbrev pub IsNoRelease : Operation → Type 0
IsNoRelease (op.fall b) = ⊥
IsNoRelease _ = Unit {0}

-- the one that was made is there too
abbrev pub there_if_made : Option ℕ → ℕ → Bool → Bool
there_if_made None h before = before
there_if_made (Some k) h before = cond (nat_eq h k) true before

abbrev pub is_object_after : Operation → Mem → ℕ → Bool
is_object_after (op.make_object b class finishing) m h = there_if_made (answer (op.make_object b class finishing) m) h (is_object m h)
is_object_after (op.clone_object b) m h = there_if_made (answer (op.clone_object b) m) h (is_object m h)
is_object_after _ m h = is_object m h
