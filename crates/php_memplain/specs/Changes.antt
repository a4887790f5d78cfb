-- What a change makes of an object.
use Rattle.std.specs.Prelude.{ℕ, true, Some, unwrap_or}
use Rattle.php_memdef.specs.Numbered.{Numbered, numbered, with_numbered}
use Rattle.php_memdef.specs.Contents.{Object, no_object}
use Rattle.php_memplain.specs.declared.objects.Change.{Change}
use Rattle.php_memplain.specs.declared.objects.Change.TheVariants.{Finishing, Spent, Frame}

abbrev pub changed : Change → Object → Object
changed Finishing o = record o { finishing = true }
changed Spent o = record o { spent = true }
changed (Frame f) o = record o { frame = f }

abbrev pub changed_at : Change → Numbered Object → ℕ → Numbered Object
changed_at what os h = with_numbered os h (Some (changed what (unwrap_or (numbered os h) no_object)))
