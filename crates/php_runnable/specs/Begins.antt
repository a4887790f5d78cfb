-- Data with which a run of the script's own part can begin.
use Rattle.std.specs.Prelude.{◌≡◌, ℕ, true, false, [], ◌∷◌}
use Rattle.php_frames.specs.declared.completion.Completion.TheVariants.{Normal}
use Rattle.php_frames.specs.declared.frame.Way.TheVariants.{Going}
use Rattle.php_memdef.specs.Sound.{IsSound}
use Rattle.php_memdef.specs.Deciders.{is_object}
use Rattle.php_memdef_laws.specs.Shapes.{shape}
use Rattle.php_actions.specs.declared.facts.Facts.{Facts}
use Rattle.php_actions.specs.Data.{Frame, Data}
use Rattle.php_actions.specs.Effect.{nth_fact}
use Rattle.php_actions.specs.Start.{room_if}

-- In this frame alone, whose block has no temporary and as much room as the facts of the script say. The memory is
-- sound, and has no object.
pub record CanBegin (facts : Facts) (f : Frame) (d : Data) : Type 0 where
  pub frames : d.frames ≡ f ∷ []
  pub function : f.function ≡ 0
  pub pending : f.pending ≡ Normal
  pub way : f.way ≡ Going
  pub constants : d.constants ≡ []
  pub sound : IsSound d.mem
  pub no_object : (h : ℕ) → is_object d.mem h ≡ false
  pub block : shape d.mem f.block ≡ record { there = true; room = room_if (nth_fact facts.functions 0); temps = [] }
