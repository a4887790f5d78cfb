-- What the definitions say of some small scripts.
use Rattle.std.specs.Prelude.{◌≡◌, refl, ℕ, pos, List, [], ◌∷◌, codes}
use Rattle.php_first_tree.specs.Expression.{int, plus, variable, Command, echo, inline, empty, value, text, Statement}
use Rattle.php_first_run.specs.declared.value.Value.TheVariants.{Null}
use Rattle.php_first_run.specs.Running.{Outcome, completed, overflowed, cut_off, run}

-- the statement on a line
abbrev on : ℕ → Command → Statement
on line command = record { line = line; command = command }

-- the run of statements over the texts `ab`, `c` and one null variable
abbrev ran : ℕ → List Statement → Outcome
ran allowance statements = run (codes "ab" ∷ codes "c" ∷ []) allowance 0 (Null ∷ []) statements

-- text outside the tags takes a tick, and a semicolon alone takes none
text_takes_a_tick : ran 5 (on 1 (inline 0) ∷ on 1 empty ∷ on 2 (inline 1) ∷ []) ≡ record { ending = completed; ticks = 2; output = codes "abc" }
text_takes_a_tick = refl

-- so a semicolon runs where no tick is left, and text doesn't
cut_before_text : ran 1 (on 1 (inline 1) ∷ on 1 empty ∷ on 2 (inline 0) ∷ []) ≡ record { ending = cut_off; ticks = 1; output = codes "c" }
cut_before_text = refl

no_tick_for_a_semicolon : ran 0 (on 1 empty ∷ on 1 empty ∷ []) ≡ record { ending = completed; ticks = 0; output = [] }
no_tick_for_a_semicolon = refl

-- echo 'c', $a, 'ab';
parts_in_order : ran 5 (on 1 (echo (text 1 ∷ value (variable 0) ∷ text 0 ∷ [])) ∷ []) ≡ record { ending = completed; ticks = 1; output = codes "cab" }
parts_in_order = refl

-- a text before the fault is written, and none behind it
text_before_the_fault : ran 5 (on 3 (echo (text 1 ∷ value (plus (int (pos 9223372036854775807)) (int (pos 1))) ∷ text 0 ∷ [])) ∷ []) ≡ record { ending = overflowed 3; ticks = 1; output = codes "c" }
text_before_the_fault = refl

-- past the end there is no text
no_text : ran 5 (on 1 (inline 2) ∷ []) ≡ record { ending = completed; ticks = 1; output = [] }
no_text = refl
