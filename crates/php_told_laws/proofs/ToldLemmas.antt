-- The run of a script whose forms are all told ends.
use Rattle.std.proofs.Common.{◌≡◌, ℕ, List, [], ◌∷◌, refl, sym, ◌∙◌}
use Rattle.php_ast.specs.declaration.Tree.{Script}
use Rattle.php_ast.specs.expression.View.{Note}
use Rattle.php_machine.specs.Moves.{Outcome, Ended, Stuck, Unnumbered, Unfinished}
use Rattle.php_machine.specs.Machine.{runs}
use Rattle.php_machine.specs.Same.{IsOver}
use Rattle.php_machine.proofs.LongerLemmas.{one_result_lem}
use Rattle.php_actions.specs.declared.ending.Ending.{Ending}
use Rattle.php_actions.specs.Data.{Frame, Data}
use Rattle.php_actions.specs.Plan.{rules}
use Rattle.php_actions.specs.Start.{first, script_frame}
use Rattle.php_meaning.specs.Facts.{facts_of}
use Rattle.php_meaning.specs.Meaning.{tree}
use Rattle.php_compile_laws.proofs.RunLemmas.{tree_ends}
use Rattle.php_runnable.specs.Told.{IsScriptTold}
use Rattle.php_runnable.specs.Arguments.{AreArguments}
use Rattle.php_runnable.specs.Begins.{CanBegin}
use Rattle.php_runnable.proofs.Never.{never-stuck, never-unnumbered}
use Rattle.php_runnable.proofs.Starts.{first-begins}
use Rattle.php_told_laws.specs.Ending.{RunEnds}
use Rattle.php_told_laws.proofs.NumberLemmas.{run_follows}

module _ (script : Script Note) (f : Frame) (d : Data) (told : IsScriptTold script) (begins : CanBegin (facts_of script) f d) where
  abbrev ran : ℕ → List ℕ → Outcome Data Ending
  ran n ns = runs (rules (facts_of script)) (tree script) n ns d

  by_outcome : (n : ℕ) (o : Outcome Data Ending) → IsOver o → ran n [] ≡ o → RunEnds script d
  by_outcome n (Ended ending to) over e =
      record { ending = ending; to = to; ends = λ ns. (n, run_follows (rules (facts_of script)) (tree script) (Ended ending to) (λ x. cc) ns n d ((tree script).start 0 ∷ []) [] e) }
  by_outcome n Stuck over e = absurd (never-stuck script f d told begins n [] e)
  by_outcome n Unnumbered over e = absurd (never-unnumbered script f d told begins n [] e)
  by_outcome n Unfinished over e = absurd over

  pub ends-from : RunEnds script d
  ends-from =
      let end = tree_ends script [] d in
      by_outcome end.0 (ran end.0 []) end.1 refl

  pub ends-as : (m : ℕ) (ms : List ℕ) (v : Ending) (y : Data) → ran m ms ≡ Ended v y → Ended ends-from.ending ends-from.to ≡ Ended v y
  ends-as m ms v y e =
      let there = ends-from.ends ms in
      one_result_lem (rules (facts_of script)) (tree script) there.0 m ms d ((tree script).start 0 ∷ []) [] (Ended ends-from.ending ends-from.to) (Ended v y) tt tt there.1 e

  pub ends-once : (n m : ℕ) (ns ms : List ℕ) (w v : Ending) (x y : Data) → ran n ns ≡ Ended w x → ran m ms ≡ Ended v y → Ended w x ≡ Ended v y
  ends-once n m ns ms w v x y e e' = sym (ends-as n ns w x e) ∙ ends-as m ms v y e'

pub ends : (script : Script Note) (allowance : ℕ) (words : List (List ℕ)) (b : ℕ) → IsScriptTold script → AreArguments words → RunEnds script (first (facts_of script) allowance words b)
ends script allowance words b told are = ends-from script (script_frame b) (first (facts_of script) allowance words b) told (first-begins script allowance words b are)
