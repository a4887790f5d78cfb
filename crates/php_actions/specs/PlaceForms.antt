-- Which place a form stands for, once its base and its keys stand as temporaries.
use Rattle.std.specs.Prelude.{ℕ, suc, ◌+◌, ◌-◌, Bool, true, false, List, [], ◌∷◌, Option, Some, None}
use Rattle.php_value.specs.declared.scalar.Scalar.{Scalar}
use Rattle.php_value.specs.declared.error_kind.TheConstants.ErrorKind.{TYPE_MISMATCH, NO_THIS}
use Rattle.php_value.specs.Key.{key_of_scalar}
use Rattle.php_memdef.specs.declared.place.Base.{Base}
use Rattle.php_memdef.specs.declared.place.Base.TheVariants.{Var, Temp}
use Rattle.php_memdef.specs.declared.place.Step.{Step}
use Rattle.php_memdef.specs.declared.place.Step.TheVariants.{At, Push}
use Rattle.php_memdef.specs.declared.place.Place.{Place}
use Rattle.php_memdef.specs.Contents.{Content, Mem}
use Rattle.php_memdef.specs.Views.{temps_count}
use Rattle.php_machine.specs.Moves.{Wrong}
use Rattle.php_actions.specs.declared.place_form.BaseForm.{BaseForm}
use Rattle.php_actions.specs.declared.place_form.BaseForm.TheVariants.{Variable, Standing, This}
use Rattle.php_actions.specs.declared.place_form.StepForm.{StepForm}
use Rattle.php_actions.specs.declared.place_form.StepForm.TheVariants.{Fixed, Evaluated, Append}
use Rattle.php_actions.specs.declared.place_form.PlaceForm.{PlaceForm}
use Rattle.php_actions.specs.Data.{Frame, Data, Move}
use Rattle.php_actions.specs.Contents.{scalar_of}
use Rattle.php_actions.specs.Steps.{operand, throws, throws_type}

-- how many keys stand as temporaries
abbrev pub evaluated_count : List StepForm → ℕ
evaluated_count [] = 0
evaluated_count (Fixed v ∷ fs) = evaluated_count fs
evaluated_count (Evaluated ∷ fs) = suc (evaluated_count fs)
evaluated_count (Append ∷ fs) = evaluated_count fs

abbrev pub base_count : BaseForm → ℕ
base_count (Variable name) = 0
base_count Standing = 1
base_count This = 0

-- how many temporaries the place takes
abbrev pub size : PlaceForm → ℕ
size form = base_count form.base + evaluated_count form.steps

-- the steps of a form, or the content that can't be a key
pub data Steps : Type 0 where
  steps : (path : List Step) → Steps
  refused : (key : Content) → Steps
  -- a temporary is missing
  missing : Steps

abbrev pub step_before : Step → Steps → Steps
step_before s (steps path) = steps (s ∷ path)
step_before s (refused c) = refused c
step_before s missing = missing

abbrev pub key_before : Option Scalar → Content → Steps → Steps
key_before None c rest = refused c
key_before (Some v) c rest = step_before (At (key_of_scalar v)) rest

abbrev pub operand_before : Option Content → Steps → Steps
operand_before None rest = missing
operand_before (Some c) rest = key_before (scalar_of c) c rest

-- the steps, where the keys stand under n temporaries; of several keys the first one that is none decides
abbrev pub steps_of : List StepForm → Mem → ℕ → ℕ → Steps
steps_of [] m b n = steps []
steps_of (Fixed v ∷ fs) m b n = step_before (At (key_of_scalar v)) (steps_of fs m b n)
steps_of (Evaluated ∷ fs) m b n = operand_before (operand m b (n + evaluated_count fs)) (steps_of fs m b n)
steps_of (Append ∷ fs) m b n = step_before Push (steps_of fs m b n)

abbrev pub variable : ℕ → ℕ → Base
variable b name = Var (record { 0 = b }) (record { 0 = name })

abbrev pub temporary : ℕ → ℕ → Base
temporary b n = Temp (record { 0 = b }) n

-- `$this` is the lowest temporary, where the function has it
abbrev pub with_base : BaseForm → Bool → PlaceForm → ℕ → Frame → Data → (Base → Move) → Move
with_base (Variable name) has_this form n f d go = go (variable f.block name.0)
with_base Standing has_this form n f d go = go (temporary f.block (n + evaluated_count form.steps))
with_base This false form n f d go = throws NO_THIS [] f d
with_base This true form n f d go = go (temporary f.block (temps_count d.mem f.block - 1))

abbrev pub with_steps : Steps → Frame → Data → (List Step → Move) → Move
with_steps (steps path) f d go = go path
with_steps (refused c) f d go = throws_type TYPE_MISMATCH c f d
with_steps missing f d go = Wrong

-- the place, where its base and its keys stand under n temporaries: first the keys are tested
abbrev pub with_place : PlaceForm → ℕ → Bool → Frame → Data → (Place → Move) → Move
with_place form n has_this f d go =
    with_steps (steps_of form.steps d.mem f.block n) f d (λ path. with_base form.base has_this form n f d (λ base. go (record { base = base; path = path })))
