-- The newest of a stack's frames.
use Rattle.std.specs.Prelude.{List, [], ◌∷◌, Option, Some, None}
use Rattle.php_frames.specs.declared.frame.Frame.{Frame}

abbrev pub newest_of : List Frame → Option Frame
newest_of [] = None
newest_of (f ∷ fs) = Some f
