-- What a block looks like from outside, and what each operation makes of that.
use Rattle.std.specs.Prelude.{ℕ, zero, suc, ◌+◌, ◌++◌, Bool, true, false, cond, nat_eq, is_some, List, [], ◌∷◌, Option, Some, None}
use Rattle.php_memdef.specs.declared.place.Place.{Place}
use Rattle.php_memdef.specs.declared.answer.Read.{Read}
use Rattle.php_memdef.specs.declared.answer.Read.TheVariants.{Found, Absent}
use Rattle.php_memdef.specs.declared.answer.Wrote.{Wrote}
use Rattle.php_memdef.specs.declared.answer.Wrote.TheVariants.{Done, NotArray, Full, Limit}
use Rattle.php_memdef.specs.Numbered.{numbered}
use Rattle.php_memdef.specs.Contents.{text, Item, value, link, Mem, scope_of}
use Rattle.php_memdef.specs.Temporaries.{top, with_top}
use Rattle.php_memdef.specs.Writes.{assign, text_found, text_of_item}
use Rattle.php_memdef.specs.Views.{found}
use Rattle.php_memdef.specs.Operations.{Operation, answer}
use Rattle.php_memdef.specs.Operations as op

abbrev pub is_link_itself : Item → Bool
is_link_itself (value c) = false
is_link_itself (link s) = true

-- of each item whether it is a link
abbrev pub kinds : List Item → List Bool
kinds [] = []
kinds (i ∷ is) = is_link_itself i ∷ kinds is

-- whether a block is there, its room, and of each temporary whether it is a link, the top first
pub record Shape : Type 0 where
  pub there : Bool
  pub room : ℕ
  pub temps : List Bool

abbrev pub shape : Mem → ℕ → Shape
shape m c = record { there = is_some (numbered m.blocks c); room = (scope_of m c).room; temps = kinds (scope_of m c).temps }

-- one more temporary, one less, another one on top

abbrev pub with_one : Bool → Shape → Shape
with_one is_link s = record s { temps = is_link ∷ s.temps }

abbrev pub rest_of_kinds : List Bool → List Bool
rest_of_kinds [] = []
rest_of_kinds (k ∷ ks) = ks

abbrev pub top_of_kinds : List Bool → Bool
top_of_kinds [] = false
top_of_kinds (k ∷ ks) = k

abbrev pub without_top : Shape → Shape
without_top s = record s { temps = rest_of_kinds s.temps }

-- by what an operation answers

abbrev pub with_one_if_found : Read → Shape → Shape
with_one_if_found Found s = with_one false s
with_one_if_found Absent s = s

abbrev pub if_done : Wrote → Shape → Shape → Shape
if_done Done s before = s
if_done NotArray s before = before
if_done Full s before = before
if_done Limit s before = before

abbrev pub with_one_if_made : Option ℕ → Shape → Shape
with_one_if_made None s = s
with_one_if_made (Some h) s = with_one false s

-- the first n kinds in reverse order, and the rest behind them
abbrev pub kinds_turned : ℕ → List Bool → List Bool → List Bool
kinds_turned zero ks before = before ++ ks
kinds_turned (suc n) [] before = before
kinds_turned (suc n) (k ∷ ks) before = kinds_turned n ks (k ∷ before)

-- this in one block, and that in all others
abbrev pub in_block : ℕ → ℕ → Shape → Shape → Shape
in_block b c s others = cond (nat_eq c b) s others

-- what the assignment of the joined text answers
abbrev pub joined_and_assigned : Mem → ℕ → Place → Wrote
joined_and_assigned m b to = (assign (with_top m b (value (text (text_found (found m to) ++ text_of_item (top m b))))) b to).1

-- what the block of a number looks like after an operation
abbrev pub shape_after : Operation → Mem → ℕ → Shape
shape_after (op.enter b room) m c = in_block b c (record { there = true; room = room; temps = [] }) (shape m c)
shape_after (op.leave b) m c = in_block b c (record { there = false; room = 0; temps = [] }) (shape m c)
shape_after (op.push b v) m c = in_block b c (with_one false (shape m b)) (shape m c)
shape_after (op.push_array b) m c = in_block b c (with_one false (shape m b)) (shape m c)
shape_after (op.push_object b h) m c = in_block b c (with_one false (shape m b)) (shape m c)
shape_after (op.copy b from) m c = in_block b c (with_one_if_found (answer (op.copy b from) m) (shape m b)) (shape m c)
shape_after (op.assign b to) m c = in_block b c (if_done (answer (op.assign b to) m) (without_top (shape m b)) (shape m b)) (shape m c)
shape_after (op.link b from) m c = in_block b c (if_done (answer (op.link b from) m) (with_one true (shape m b)) (shape m b)) (shape m c)
shape_after (op.bind b to) m c = in_block b c (if_done (answer (op.bind b to) m) (without_top (shape m b)) (shape m b)) (shape m c)
shape_after (op.settle b) m c = in_block b c (with_one false (without_top (shape m b))) (shape m c)
shape_after (op.pass from to) m c =
    in_block to c (with_one (top_of_kinds (shape m from).temps) (in_block from to (without_top (shape m from)) (shape m to)))
    (in_block from c (without_top (shape m from)) (shape m c))
shape_after (op.turn b n) m c = in_block b c (record (shape m b) { temps = kinds_turned n (shape m b).temps [] }) (shape m c)
shape_after (op.reserve b n) m c = in_block b c (record (shape m b) { room = (shape m b).room + n }) (shape m c)
shape_after (op.append b to) m c = in_block b c (if_done (joined_and_assigned m b to) (without_top (shape m b)) (shape m b)) (shape m c)
shape_after (op.drop_top b) m c = in_block b c (without_top (shape m b)) (shape m c)
shape_after (op.make_object b class finishing) m c = in_block b c (with_one_if_made (answer (op.make_object b class finishing) m) (shape m b)) (shape m c)
shape_after _ m c = shape m c
