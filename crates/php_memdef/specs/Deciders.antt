-- Tests that decide when each operation may be made: for definitions that go on by what may be done.
use Rattle.std.specs.Prelude.{ℕ, zero, suc, Bool, true, false, ◌&&◌, ◌||◌, not, nat_eq, nat_lt, nat_le, is_some, List, [], ◌∷◌, ◌++◌, length, Option, Some, None}
use Rattle.php_value.specs.declared.key.Key.{Key}
use Rattle.php_value.specs.declared.key.Key.TheVariants.{Int, Str}
use Rattle.php_value.specs.declared.scalar.Scalar.{Scalar}
use Rattle.php_value.specs.declared.scalar.Scalar.TheVariants as scalar
use Rattle.php_value.specs.Decimal.{fits_int}
use Rattle.php_memdef.specs.declared.place.Base.{Base}
use Rattle.php_memdef.specs.declared.place.Base.TheVariants.{Var, Property as OfObject, Static, Temp}
use Rattle.php_memdef.specs.declared.place.Step.{Step}
use Rattle.php_memdef.specs.declared.place.Step.TheVariants.{At, Push}
use Rattle.php_memdef.specs.declared.place.Place.{Place}
use Rattle.php_memdef.specs.Numbered.{Numbered, numbered}
use Rattle.php_memdef.specs.Contents.{Content, text, object, Item, value, link, Variable, Object, Mem, scope_of}
use Rattle.php_memdef.specs.Places.{nth_item}
use Rattle.php_memdef.specs.Views.{found, is_link_item}
use Rattle.php_memdef.specs.Sound.{TEXT_LIMIT}
use Rattle.php_memdef.specs.Operations.{Operation}
use Rattle.php_memdef.specs.Operations as op

abbrev pub is_block : Mem → ℕ → Bool
is_block m b = is_some (numbered m.blocks b)

abbrev pub is_object : Mem → ℕ → Bool
is_object m h = is_some (numbered m.objects h)

abbrev pub has_room : Mem → ℕ → Bool
has_room m b = nat_lt (length (scope_of m b).temps) (scope_of m b).room

abbrev pub has_falling_room : Mem → ℕ → Bool
has_falling_room m b = nat_lt (length (scope_of m b).falling) (scope_of m b).room

abbrev pub has_temp : Mem → ℕ → Bool
has_temp m b = nat_lt 0 (length (scope_of m b).temps)

abbrev pub is_value_item : Option Item → Bool
is_value_item None = false
is_value_item (Some (value c)) = true
is_value_item (Some (link s)) = false

abbrev pub is_handle_item : Option Item → Bool
is_handle_item (Some (value (object h))) = true
is_handle_item _ = false

abbrev pub top_item : Mem → ℕ → Option Item
top_item m b = nth_item (scope_of m b).temps 0

abbrev pub is_short : List ℕ → Bool
is_short bytes = nat_le (length bytes) TEXT_LIMIT

abbrev pub is_key_within : Key → Bool
is_key_within (Int i) = fits_int i
is_key_within (Str bytes) = is_short bytes

abbrev pub are_steps_within : List Step → Bool
are_steps_within [] = true
are_steps_within (At k ∷ path) = is_key_within k && are_steps_within path
are_steps_within (Push ∷ path) = are_steps_within path

abbrev pub is_scalar_within : Scalar → Bool
is_scalar_within scalar.Null = true
is_scalar_within (scalar.Bool b) = true
is_scalar_within (scalar.Int i) = fits_int i
is_scalar_within (scalar.Str bytes) = is_short bytes

abbrev pub is_base : Mem → Base → Bool
is_base m (Var b n) = is_block m b.0
is_base m (OfObject h p) = is_object m h.0 && is_short p.name
is_base m (Static i) = true
is_base m (Temp b n) = is_block m b.0 && nat_lt n (length (scope_of m b.0).temps)

abbrev pub is_place : Mem → Place → Bool
is_place m p = is_base m p.base && are_steps_within p.path

abbrev pub is_below_top : ℕ → Base → Bool
is_below_top b (Var c n) = true
is_below_top b (OfObject h p) = true
is_below_top b (Static i) = true
is_below_top b (Temp c n) = not (nat_eq c.0 b) || nat_lt 0 n

abbrev pub has_step : List Step → Bool
has_step [] = false
has_step (step ∷ path) = true

abbrev pub is_pointed : Base → List Step → Bool
is_pointed (Var b n) path = true
is_pointed (OfObject h p) path = true
is_pointed (Static i) path = true
is_pointed (Temp b n) path = has_step path

abbrev pub is_removable : Base → List Step → Bool
is_removable (Var b n) path = true
is_removable (OfObject h p) path = true
is_removable (Static i) path = has_step path
is_removable (Temp b n) path = has_step path

abbrev pub is_linkable : Mem → Base → List Step → Bool
is_linkable m (Var b n) path = true
is_linkable m (OfObject h p) path = true
is_linkable m (Static i) path = true
is_linkable m (Temp b n) [] = is_link_item (nth_item (scope_of m b.0).temps n)
is_linkable m (Temp b n) (step ∷ path) = true

-- lists without anything

abbrev pub no_variables : List Variable → Bool
no_variables [] = true
no_variables (v ∷ vs) = false

abbrev pub no_items : List Item → Bool
no_items [] = true
no_items (i ∷ is) = false

-- frames

abbrev pub is_frame : ℕ → Option ℕ → Bool
is_frame b None = false
is_frame b (Some f) = nat_eq f b

abbrev pub has_frame : ℕ → Option Object → Bool
has_frame b None = false
has_frame b (Some o) = is_frame b o.frame

-- the block waits in no object of the map
abbrev pub is_no_frame : ℕ → Numbered Object → Bool
is_no_frame b [] = true
is_no_frame b (o ∷ os) = not (has_frame b o) && is_no_frame b os

-- the block waits in no object but the one of this number
abbrev pub is_no_other_frame : ℕ → ℕ → Numbered Object → Bool
is_no_other_frame b h [] = true
is_no_other_frame b zero (o ∷ os) = is_no_frame b os
is_no_other_frame b (suc h) (o ∷ os) = not (has_frame b o) && is_no_other_frame b h os

abbrev pub is_free_frame : Mem → ℕ → Option ℕ → Bool
is_free_frame m h None = true
is_free_frame m h (Some b) = is_block m b && is_no_other_frame b h m.objects

-- texts to be joined

abbrev pub are_joinable : Option Content → Option Item → Bool
are_joinable (Some (text before)) (Some (value (text behind))) = is_short (before ++ behind)
are_joinable _ _ = false

-- the operation may be made in the memory
abbrev pub can : Operation → Mem → Bool
can (op.enter b room) m = not (is_block m b)
can (op.leave b) m = is_block m b && (no_variables (scope_of m b).variables && (no_items (scope_of m b).temps && (no_items (scope_of m b).falling && is_no_frame b m.objects)))
can (op.push b v) m = is_block m b && (has_room m b && is_scalar_within v)
can (op.push_array b) m = is_block m b && has_room m b
can (op.push_object b h) m = is_block m b && (is_object m h && has_room m b)
can (op.copy b from) m = is_block m b && (has_room m b && is_place m from)
can (op.assign b to) m = is_block m b && (is_value_item (top_item m b) && (is_place m to && is_below_top b to.base))
can (op.link b from) m = is_block m b && (has_room m b && (is_place m from && is_linkable m from.base from.path))
can (op.bind b to) m = is_block m b && (is_link_item (top_item m b) && (is_place m to && (is_below_top b to.base && is_pointed to.base to.path)))
can (op.settle b) m = is_block m b && (is_link_item (top_item m b) && has_falling_room m b)
can (op.pass from to) m = is_block m from && (is_block m to && (has_temp m from && has_room m to))
can (op.turn b n) m = is_block m b && nat_le n (length (scope_of m b).temps)
can (op.reserve b n) m = is_block m b
can (op.append b to) m = is_block m b && (is_place m to && (is_below_top b to.base && are_joinable (found m to) (top_item m b)))
can (op.unset b at) m = is_block m b && (is_place m at && is_removable at.base at.path)
can (op.unset_last b at) m = is_block m b && is_place m at
can (op.forget b name) m = is_block m b && has_falling_room m b
can (op.shed b) m = is_block m b && has_falling_room m b
can (op.drop_top b) m = is_block m b && (has_temp m b && has_falling_room m b)
can (op.fall b) m = is_block m b
can (op.make_object b class finishing) m = is_block m b && has_room m b
can (op.clone_object b) m = is_block m b && is_handle_item (top_item m b)
can (op.finish h) m = is_object m h
can (op.spare h) m = is_object m h
can (op.attach h frame) m = is_object m h && is_free_frame m h frame
