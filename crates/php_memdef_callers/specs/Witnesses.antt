-- Memories on which the calls that the small memory refuses can be made, and what they come to there.
use Rattle.std.specs.Prelude.{◌≡◌, false, [], ◌∷◌, Some, None, pos}
use Rattle.php_value.specs.declared.scalar.Scalar.TheVariants as scalar
use Rattle.php_memdef.specs.declared.place.Step.TheVariants.{Push}
use Rattle.php_memdef.specs.declared.place.Place.{Place}
use Rattle.php_memdef.specs.declared.answer.Wrote.TheVariants.{Done}
use Rattle.php_memdef.specs.Contents.{int, text, object, value, Mem, object_of}
use Rattle.php_memdef.specs.Temporaries.{push, settle, top}
use Rattle.php_memdef.specs.Writes.{make_link, bind, unset}
use Rattle.php_memdef.specs.Views.{found}
use Rattle.php_memdef.specs.Objects.{class_of, eldest}
use Rattle.php_memdef.specs.Operations.{Can, effect, answer}
use Rattle.php_memdef.specs.Operations as op
use Rattle.php_memdef.specs.Conditions.{CanLink, CanBind, CanSettle, CanUnset}
use Rattle.php_memdef.specs.Examples.{start, with_text, variable, at, sets_int, $a, $b}

-- $a = [5];
abbrev pub one_element : Mem
one_element = sets_int start (variable $a (Push ∷ [])) 5

abbrev pub element : Place
element = variable $a (at 0 ∷ [])

-- with a link to the element on top
abbrev pub with_link : Mem
with_link = (make_link one_element 0 element).0

pub record LinkCanBeMade : Type 0 where
  pub condition : CanLink 0 element one_element
  pub effect : (make_link one_element 0 element).1 ≡ Done

pub record LinkCanBeBound : Type 0 where
  pub condition : CanBind 0 (variable $b []) with_link
  pub effect : (bind with_link 0 (variable $b [])).1 ≡ Done

pub record LinkCanBeSettled : Type 0 where
  pub condition : CanSettle 0 with_link
  pub effect : top (settle with_link 0) 0 ≡ value (int (pos 5))

pub record ElementCanBeUnset : Type 0 where
  pub condition : CanUnset 0 element one_element
  pub effect : found (unset one_element 0 element) element ≡ None

pub record LastCanBeUnset : Type 0 where
  pub condition : Can (op.unset_last 0 (variable $a [])) one_element
  pub effect : found (effect (op.unset_last 0 (variable $a [])) one_element) element ≡ None

-- $a = "abc"; and "d" on top
abbrev pub text_on_top : Mem
text_on_top = push with_text 0 (scalar.Str (100 ∷ []))

pub record TextCanBeAppended : Type 0 where
  pub condition : Can (op.append 0 (variable $a [])) text_on_top
  pub effect : found (effect (op.append 0 (variable $a [])) text_on_top) (variable $a []) ≡ Some (text (97 ∷ 98 ∷ 99 ∷ 100 ∷ []))

-- an object of class 3 without a destructor; its handle is on top
abbrev pub one_object : Mem
one_object = effect (op.make_object 0 3 false) start

pub record ObjectCanBeMade : Type 0 where
  pub condition : Can (op.make_object 0 3 false) start
  pub effect : answer (op.make_object 0 3 false) start ≡ Some 1
  pub class : class_of one_object 1 ≡ 3

pub record ObjectCanBeMarked : Type 0 where
  pub condition_to_finish : Can (op.finish 1) one_object
  pub condition_to_spare : Can (op.spare 1) one_object
  pub finished : eldest (effect (op.finish 1) one_object) ≡ Some 1
  pub spared : eldest (effect (op.spare 1) (effect (op.finish 1) one_object)) ≡ None

pub record FrameCanBeAttached : Type 0 where
  pub condition : Can (op.attach 1 (Some 0)) one_object
  pub effect : (object_of (effect (op.attach 1 (Some 0)) one_object) 1).frame ≡ Some 0

pub record HandleCanBePushed : Type 0 where
  pub condition : Can (op.push_object 0 1) one_object
  pub effect : top (effect (op.push_object 0 1) one_object) 0 ≡ value (object 1)

pub record ObjectCanBeCloned : Type 0 where
  pub condition : Can (op.clone_object 0) one_object
  pub effect : top (effect (op.clone_object 0) one_object) 0 ≡ value (object 2)
