-- What a run begins with can be made, and it is the memory of the first data.
use Rattle.std.proofs.Common.{◌≡◌, ℕ, suc, ◌+◌, ◌<◌, ◌≤◌, pos, List, [], ◌∷◌, length, refl, sym, ap, ◌∙◌, subst, arith}
use Rattle.std.specs.List.{All}
use Rattle.std.proofs.lemmas.List.Elements.{All-head, All-tail}
use Rattle.php_value.specs.declared.scalar.Scalar.TheVariants as scalar
use Rattle.php_entries.specs.Listing.{ENTRY_LIMIT}
use Rattle.php_memdef.specs.Contents.{Mem, fresh}
use Rattle.php_memdef.specs.Sound.{IsShort}
use Rattle.php_memdef.specs.Temporaries.{enter, push, push_array}
use Rattle.php_actions.specs.declared.facts.Facts.{Facts}
use Rattle.php_actions.specs.Effect.{nth_fact}
use Rattle.php_actions.specs.Start.{room_if, begun, first}
use Rattle.php_vm_actions.specs.Straight.{CanAll, all}
use Rattle.php_runnable.specs.Arguments.{AreArguments}
use Rattle.php_runnable.proofs.Arguments.{with_word, with_words, Takes, can_push_word, can_assign_word, word_taken}
use Rattle.php_runnable.proofs.Blocks.{Holds, can_push, push_holds, can_push_array, push_array_holds}
use Rattle.php_runnable.proofs.Starts.{entered, takes_first, takes_all, first_mem}
use Rattle.php_runnable.proofs.Steps.{can_assign}
use Rattle.php_vm_callers.specs.Beginnings.{array_set, words_added, count_set, first_memory}

module _ (b : ℕ) where
  all_words : (words : List (List ℕ)) (m : Mem) → all (words_added b words) m ≡ with_words b words m
  all_words [] m = refl
  all_words (word ∷ words) m = all_words words (with_word b word m)

  pub first_is : (facts : Facts) (allowance : ℕ) (words : List (List ℕ)) → first_memory (room_if (nth_fact facts.functions 0)) words b ≡ (first facts allowance words b).mem
  first_is facts allowance words = ap (λ m. all (count_set b (length words)) m) (all_words words (begun (room_if (nth_fact facts.functions 0)) b)) ∙ sym (first_mem facts allowance words b)

  module _ (room : ℕ) (some : 0 < room) where
    pub array_can : CanAll (array_set b) (enter fresh b room)
    array_can =
        let l = enter fresh b room in
        let h = entered b room some in
        let array = can_push_array b room l 0 0 h some in
        let i = push_array_holds b room l 0 0 h array in
        (array, (can_assign b room (push_array l b) 0 0 0 i, tt))

    words_can_from : (words : List (List ℕ)) (m : Mem) (k q : ℕ) → Takes b room some m k q → All IsShort words → k + length words ≤ ENTRY_LIMIT → CanAll (words_added b words) m
    words_can_from [] m k q s short few = tt
    words_can_from (word ∷ words) m k q s short few =
        let one = All-head IsShort word words short in
        let t = word_taken b room some m k q s word one (omega (arith, few)) in (
          can_push_word b room some m k q s word one,
          (can_assign_word b room some m k q s word one, words_can_from words (with_word b word m) (suc k) (suc q) t (All-tail IsShort word words short) (omega (arith, few))),
        )

    module _ (words : List (List ℕ)) (are : AreArguments words) where
      pub words_can : CanAll (words_added b words) (begun room b)
      words_can = words_can_from words (begun room b) 0 1 (takes_first b room some) are.short (omega (arith, are.few))

      count_can_behind : (m : Mem) (q : ℕ) → Holds b room m 0 q → CanAll (count_set b (length words)) m
      count_can_behind m q s =
          let n = scalar.Int (pos (length words)) in
          let number = can_push b room m 0 q s n (record { sfits = omega (arith, are.few) }) some in
          (number, (can_assign b room (push m b n) 0 q 1 (push_holds b room m 0 q s n number), tt))

      pub count_can : CanAll (count_set b (length words)) (all (words_added b words) (begun room b))
      count_can = subst (λ m. CanAll (count_set b (length words)) m) (sym (all_words words (begun room b))) (count_can_behind (with_words b words (begun room b)) (1 + length words) (takes_all b room some words are).holds)
