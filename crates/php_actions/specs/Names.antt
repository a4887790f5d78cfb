-- Actions on what a script names beside its variables.
use Rattle.std.specs.Prelude.{ℕ, zero, suc, ◌+◌, nat_eq, cond, List, [], ◌∷◌, Option, Some, None, option_map}
use Rattle.std.specs.Cmp.Lexicographic.{pointwise}
use Rattle.php_value.specs.declared.error_kind.TheConstants.ErrorKind.{UNDEFINED_CONSTANT}
use Rattle.php_memdef.specs.declared.place.Base.TheVariants.{Static}
use Rattle.php_memdef.specs.declared.place.Place.{Place}
use Rattle.php_memdef.specs.declared.answer.Read.{Read}
use Rattle.php_memdef.specs.declared.answer.Read.TheVariants.{Found, Absent}
use Rattle.php_memdef.specs.Contents.{Mem}
use Rattle.php_memdef.specs.Temporaries.{copy}
use Rattle.php_machine.specs.Moves.{Wrong}
use Rattle.php_actions.specs.declared.names.NameAction.{NameAction}
use Rattle.php_actions.specs.declared.names.NameAction.TheVariants.{PushConstant}
use Rattle.php_actions.specs.Data.{Frame, Data, Move, next_with}
use Rattle.php_memdef.specs.Operations as op
use Rattle.php_memdef.specs.Deciders.{can}
use Rattle.php_actions.specs.Steps.{throws}

-- the place of a name among others
abbrev pub place_among : List ℕ → List (List ℕ) → Option ℕ
place_among name [] = None
place_among name (n ∷ ns) = cond (pointwise nat_eq name n) (Some zero) (option_map suc (place_among name ns))

abbrev pub static : ℕ → Place
static i = record { base = Static (record { 0 = i }); path = [] }

abbrev pub found_copy : Mem × Read → Data → Move
found_copy (m, Found) d = next_with d m
found_copy (m, Absent) d = Wrong

-- the constant of this place has the static behind those of the text
abbrev pub constant_pushed : Option ℕ → List ℕ → ℕ → Frame → Data → Move
constant_pushed None name statics f d = throws UNDEFINED_CONSTANT name f d
constant_pushed (Some i) name statics f d = cond (can (op.copy f.block (static (statics + i))) d.mem) (found_copy (copy d.mem f.block (static (statics + i))) d) Wrong

abbrev pub effect_name : NameAction → ℕ → Frame → Data → Move
effect_name (PushConstant name) statics f d = constant_pushed (place_among name d.constants) name statics f d
