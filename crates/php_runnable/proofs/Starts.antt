-- A script's run begins with data with which one can, whatever arguments it has.
use Rattle.std.proofs.Common.{◌≡◌, ℕ, suc, ◌+◌, ◌*◌, ◌<◌, ◌≤◌, false, List, [], ◌∷◌, length, pos, refl, sym, ap, ◌∙◌, subst, arith}
use Rattle.std.specs.List.{All}
use Rattle.std.proofs.lemmas.List.Elements.{All-head, All-tail}
use Rattle.php_value.specs.declared.scalar.Scalar.TheVariants as scalar
use Rattle.php_ast.specs.declaration.Tree.{Script}
use Rattle.php_ast.specs.expression.View.{Note}
use Rattle.php_entries.specs.Listing.{no_entries, ENTRY_LIMIT}
use Rattle.php_memdef.specs.Contents.{array, value, Scope, no_scope, fresh, scope_of}
use Rattle.php_memdef.specs.Rest.{IsFresh}
use Rattle.php_memdef.specs.Sound.{IsShort}
use Rattle.php_memdef.specs.Temporaries.{enter, push, push_array}
use Rattle.php_memdef.specs.Writes.{assign}
use Rattle.php_memdef.specs.Operations as op
use Rattle.php_memdef_laws.specs.Shapes.{shape}
use Rattle.php_memdef_laws.proofs.FreshLemmas.{fresh-sound}
use Rattle.php_memdef_laws.proofs.Held.Operations.{effect-sound}
use Rattle.php_memdef_laws.proofs.ObjectLemmas.{objects_after}
use Rattle.php_memdef_laws.proofs.Shapes.Operations.{shapes}
use Rattle.php_actions.specs.declared.facts.Facts.{Facts}
use Rattle.php_actions.specs.Data.{Data}
use Rattle.php_actions.specs.Effect.{nth_fact}
use Rattle.php_actions.specs.Start.{room_if, variable_place, script_frame, with_argument, with_arguments, begun, first}
use Rattle.php_meaning.specs.Facts.{facts_of}
use Rattle.php_runnable.specs.Arguments.{AreArguments}
use Rattle.php_runnable.specs.Begins.{CanBegin}
use Rattle.php_runnable.proofs.Arguments.{with_words, HasArray, pushed_variables, pushed_top, first_array, cost_is, Takes, word_taken, words_taken, word_on_top}
use Rattle.php_runnable.proofs.Blocks.{block_of, Holds, here, scope-with, can_push, push_holds, can_push_array, push_array_holds}
use Rattle.php_runnable.proofs.Steps.{can_assign, assign_holds}

nothing_made : IsFresh fresh
nothing_made = record { stores = λ s. refl; objects = λ h. refl; blocks = λ b. refl; statics = λ i. refl; next_object = refl }

module _ (b room : ℕ) (some : 0 < room) where
  new_scope : scope_of (enter fresh b room) b ≡ record no_scope { room = room }
  unfolding enter
  new_scope = scope-with fresh b (record no_scope { room = room })

  pub entered : Holds b room (enter fresh b room) 0 0
  unfolding enter
  entered = record {
    sound = effect-sound (op.enter b room) fresh (fresh-sound fresh nothing_made) refl;
    no_object = λ h. objects_after (op.enter b room) fresh tt refl h;
    looks = shapes (op.enter b room) fresh refl b ∙ here b (block_of room 0) (shape fresh b);
    falling = omega (arith, ap (λ (f : Scope). length f.falling) new_scope);
  }

  -- an array comes, and moves into variable 0
  array_holds : Holds b room (begun room b) 0 1
  array_holds =
      let m = enter fresh b room in
      let s = push_array_holds b room m 0 0 entered (can_push_array b room m 0 0 entered some) in
      assign_holds b room (push_array m b) 0 0 0 s (can_assign b room (push_array m b) 0 0 0 s)

  array_there : HasArray b (begun room b) 0
  unfolding push_array
  array_there =
      let m = enter fresh b room in
      first_array b (push_array m b) (pushed_variables b m (value (array no_entries)) ∙ ap (λ (f : Scope). f.variables) new_scope) (pushed_top b m (value (array no_entries)))

  pub takes_first : Takes b room some (begun room b) 0 1
  takes_first = record { holds = array_holds; has = array_there }

  module _ (words : List (List ℕ)) (are : AreArguments words) where
    -- the words behind one another
    pub takes_all : Takes b room some (with_words b words (begun room b)) (0 + length words) (1 + length words)
    takes_all = words_taken b room some words (begun room b) 0 1 takes_first are.short (omega (arith, are.few))

    -- and their number into variable 1
    pub counted : Holds b room (assign (push (with_words b words (begun room b)) b (scalar.Int (pos (length words)))) b (variable_place b 1 [])).0 0 (suc (1 + length words))
    counted =
        let m = with_words b words (begun room b) in
        let n = scalar.Int (pos (length words)) in
        let q = 1 + length words in
        let s = push_holds b room m 0 q takes_all.holds n (can_push b room m 0 q takes_all.holds n (record { sfits = omega (arith, are.few) }) some) in
        assign_holds b room (push m b n) 0 q 1 s (can_assign b room (push m b n) 0 q 1 s)

-- ---- the rest of the data stays while words are added

pub record IsBeside (d e : Data) : Type 0 where
  pub frames : e.frames ≡ d.frames
  pub left : e.left ≡ d.left
  pub taken : e.taken ≡ d.taken
  pub out : e.out ≡ d.out
  pub constants : e.constants ≡ d.constants
  pub status : e.status ≡ d.status

module _ (b : ℕ) where
  pub beside : (words : List (List ℕ)) (d : Data) → IsBeside d (with_arguments b words d)
  beside [] d = record { frames = refl; left = refl; taken = refl; out = refl; constants = refl; status = refl }
  beside (word ∷ words) d =
      let s = beside words (with_argument b word d) in
      record { frames = s.frames; left = s.left; taken = s.taken; out = s.out; constants = s.constants; status = s.status }

  pub words_come : (words : List (List ℕ)) (d : Data) → (with_arguments b words d).mem ≡ with_words b words d.mem
  words_come [] d = refl
  words_come (word ∷ words) d = words_come words (with_argument b word d)

-- ---- the first data

module _ (facts : Facts) (allowance : ℕ) (words : List (List ℕ)) (b : ℕ) where
  abbrev room : ℕ
  room = room_if (nth_fact facts.functions 0)

  -- before the words are added
  abbrev bare : Data
  bare = record { mem = begun room b; frames = script_frame b ∷ []; left = allowance; taken = 0; out = []; writes = 0; constants = []; ended = false; status = 0 }

  pub first_beside : IsBeside bare (first facts allowance words b)
  first_beside = (let s = beside b words bare in record { frames = s.frames; left = s.left; taken = s.taken; out = s.out; constants = s.constants; status = s.status })

  pub first_mem : (first facts allowance words b).mem ≡ (assign (push (with_words b words (begun room b)) b (scalar.Int (pos (length words)))) b (variable_place b 1 [])).0
  first_mem = ap (λ m. (assign (push m b (scalar.Int (pos (length words)))) b (variable_place b 1 [])).0) (words_come b words bare)

  pub first_holds : 0 < room → AreArguments words → Holds b room (first facts allowance words b).mem 0 (suc (1 + length words))
  first_holds some are = subst (λ m. Holds b room m 0 (suc (1 + length words))) (sym first_mem) (counted b room some words are)

-- ---- what the words cost

-- n entries behind k others, one after another
n_more : (w k n : ℕ) → 2 * (w + suc k) + (n * n + n + 2 * (suc k * n)) ≡ 2 * w + (suc n * suc n + suc n + 2 * (k * suc n))
n_more w k n = grind arith

n_at_first : (n : ℕ) → 2 * 0 + (n * n + n + 2 * (0 * n)) ≡ n * (n + 1)
n_at_first n = grind arith

module _ (b room : ℕ) (some : 0 < room) where
  words_cost : (words : List (List ℕ)) (d : Data) (k q : ℕ) → Takes b room some d.mem k q → All IsShort words → k + length words ≤ ENTRY_LIMIT
      → 2 * (with_arguments b words d).writes ≡ 2 * d.writes + (length words * length words + length words + 2 * (k * length words))
  words_cost [] d k q s short few = grind arith
  words_cost (word ∷ words) d k q s short few =
      let now : k < ENTRY_LIMIT = omega (arith, few) in
      let first_short = All-head IsShort word words short in
      let t = word_taken b room some d.mem k q s word first_short now in
      let rest = words_cost words (with_argument b word d) (suc k) (suc q) t (All-tail IsShort word words short) (omega (arith, few)) in
      let one = cost_is b (push d.mem b (scalar.Str word)) k (word_on_top b room some d.mem k q s word first_short).0 in
      rest ∙ ap (λ c. 2 * (d.writes + c) + (length words * length words + length words + 2 * (suc k * length words))) one ∙ n_more d.writes k (length words)

pub first-begins : (script : Script Note) (allowance : ℕ) (words : List (List ℕ)) (b : ℕ) → AreArguments words → CanBegin (facts_of script) (script_frame b) (first (facts_of script) allowance words b)
first-begins script allowance words b are =
    let s = first_holds (facts_of script) allowance words b (omega arith) are in
    let r = first_beside (facts_of script) allowance words b in
    record {
      frames = r.frames;
      function = refl;
      pending = refl;
      way = refl;
      constants = r.constants;
      sound = s.sound;
      no_object = s.no_object;
      block = s.looks;
    }

pub first-writes : (facts : Facts) (allowance : ℕ) (words : List (List ℕ)) (b : ℕ) → 0 < room_if (nth_fact facts.functions 0) → AreArguments words → 2 * (first facts allowance words b).writes ≡ length words * (length words + 1)
first-writes facts allowance words b some are =
    let all = words_cost b (room_if (nth_fact facts.functions 0)) some words (bare facts allowance words b) 0 1 (takes_first b (room_if (nth_fact facts.functions 0)) some) are.short (omega (arith, are.few)) in
    all ∙ n_at_first (length words)
