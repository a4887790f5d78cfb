-- Conditions and effects at an example memory, computed.
use Rattle.std.proofs.Common.{◌≡◌, ℕ, zero, suc, [], ◌∷◌, refl, arith}
use Rattle.std.specs.Prelude.{Some}
use Rattle.php_entries.specs.Changes.{set_value, append_value, remove_key, pop_entry}
use Rattle.php_memdef.specs.Holders.{holders, object_holders}
use Rattle.php_memdef.specs.Copies.{copied}
use Rattle.php_memdef.specs.Places.{find_place, walk}
use Rattle.php_memdef.specs.Temporaries.{enter, push, push_object, settle}
use Rattle.php_memdef.specs.Writes.{assign, append, make_link, bind, unset, unset_last}
use Rattle.php_memdef.specs.Releases.{fall}
use Rattle.php_memdef.specs.Objects.{make_object, clone_object, finish, spare, attach}
use Rattle.php_memdef.specs.Contents.{object_of}
use Rattle.php_memdef.specs.Conditions.{IsBlock}
use Rattle.php_memdef_callers.specs.Witnesses.{LinkCanBeMade, LinkCanBeBound, LinkCanBeSettled, ElementCanBeUnset, LastCanBeUnset, TextCanBeAppended, one_object, ObjectCanBeMade, ObjectCanBeMarked, FrameCanBeAttached, HandleCanBePushed, ObjectCanBeCloned}

pub link_made : LinkCanBeMade
unfolding set_value append_value holders object_holders find_place walk enter push assign make_link fall
link_made = record {
  condition = record { block = refl; room = omega arith; place = (refl, (record { sfits = omega arith }, tt)); linkable = tt };
  effect = refl;
}

pub link_bound : LinkCanBeBound
unfolding set_value append_value holders object_holders find_place walk enter push assign make_link bind fall
link_bound = record {
  condition = record { block = refl; top = (1, refl); place = (refl, tt); below_top = tt; pointed = tt };
  effect = refl;
}

pub link_settled : LinkCanBeSettled
unfolding set_value append_value holders object_holders copied find_place walk enter push assign make_link settle fall
link_settled = record {
  condition = record { block = refl; top = (1, refl); falling_room = omega arith };
  effect = refl;
}

pub element_unset : ElementCanBeUnset
unfolding set_value append_value remove_key holders object_holders find_place walk enter push assign unset fall
element_unset = record {
  condition = record { block = refl; place = (refl, (record { sfits = omega arith }, tt)); removable = tt };
  effect = refl;
}

pub last_unset : LastCanBeUnset
unfolding set_value append_value pop_entry holders object_holders find_place walk enter push assign unset_last fall
last_unset = record {
  condition = record { block = refl; place = (refl, tt) };
  effect = refl;
}

pub text_appended : TextCanBeAppended
unfolding holders object_holders find_place walk enter push assign append fall
text_appended = record {
  condition = record { block = refl; place = (refl, tt); below_top = tt; before = 97 ∷ 98 ∷ 99 ∷ []; behind = 100 ∷ []; there = refl; top = refl; short = omega arith };
  effect = refl;
}

pub object_made : ObjectCanBeMade
unfolding enter make_object
object_made = record {
  condition = record { block = refl; room = omega arith };
  effect = refl;
  class = refl;
}

pub object_marked : ObjectCanBeMarked
unfolding enter make_object finish spare
object_marked = record {
  condition_to_finish = refl;
  condition_to_spare = refl;
  finished = refl;
  spared = refl;
}

apart : (b g : ℕ) → Some 0 ≡ Some b → (object_of one_object g).frame ≡ Some b → g ≡ 1
unfolding enter make_object
apart b zero d e = cc
apart b (suc zero) d e = refl
apart b (suc (suc g)) d e = cc

live : (b : ℕ) → Some 0 ≡ Some b → IsBlock one_object b
unfolding enter make_object
live zero d = refl
live (suc b) d = cc

pub frame_attached : FrameCanBeAttached
unfolding enter make_object attach
frame_attached = record {
  condition = record { object = refl; frame_live = live; frame_apart = apart };
  effect = refl;
}

pub handle_pushed : HandleCanBePushed
unfolding enter make_object push_object
handle_pushed = record {
  condition = record { block = refl; object = refl; room = omega arith };
  effect = refl;
}

pub object_cloned : ObjectCanBeCloned
unfolding enter make_object clone_object holders copied
object_cloned = record {
  condition = record { block = refl; top = (1, refl) };
  effect = refl;
}
