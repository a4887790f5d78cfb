-- Actions on places.
use Rattle.std.specs.Prelude.{Bool}
use Rattle.php_memdef.specs.Temporaries.{copy}
use Rattle.php_memdef.specs.Reading.{loud}
use Rattle.php_actions.specs.declared.place_form.PlaceForm.{PlaceForm}
use Rattle.php_actions.specs.declared.places.PlaceAction.{PlaceAction}
use Rattle.php_actions.specs.declared.places.PlaceAction.TheVariants.{Read, Assign}
use Rattle.php_actions.specs.Data.{Frame, Data, Move, with_mem, on, next_with}
use Rattle.php_memdef.specs.Operations as op
use Rattle.php_memdef.specs.Deciders.{can}
use Rattle.php_actions.specs.Steps.{temp, sink, reads, assigns}
use Rattle.php_actions.specs.PlaceForms.{size, with_place}

-- the keys are tested before anything is done, and then a copy of the value moves into the place
abbrev pub assigned : PlaceForm → Bool → Frame → Data → Move
assigned form has_this f d =
    with_place form 1 has_this f d (λ _.
    on (can (op.copy f.block (temp f.block 0)) d.mem) (copy d.mem f.block (temp f.block 0)).0 (λ m.
    with_place form 2 has_this f (with_mem d m) (λ p.
    assigns p f (with_mem d m) (λ d'. sink f.block (size form) d'.mem (next_with d')))))

abbrev pub effect_place : PlaceAction → Bool → Frame → Data → Move
effect_place (Read form) has_this f d = with_place form 0 has_this f d (λ p. reads loud p f d (λ m. sink f.block (size form) m (next_with d)))
effect_place (Assign form) has_this f d = assigned form has_this f d
