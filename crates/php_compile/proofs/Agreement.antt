-- A script and its code have the same runs.
use Rattle.std.proofs.Common.{◌≡◌, ℕ, zero, suc, ◌+◌, ◌<◌, ◌≤◌, Bool, true, false, cond, ◌&&◌, List, [], ◌∷◌, ◌++◌, length, Option, Some, None, refl, sym, ap, ◌∙◌, subst, arith, append_assoc, length-append}
use Rattle.std.specs.Prelude.{slice_get}
use Rattle.std.proofs.Math.Seq.{get_or-append_seam}
use Rattle.std.proofs.lemmas.Option.{slice_get-get_or, slice_get_past}
use Rattle.php_frames.specs.declared.ranges.HandlerRange.{HandlerRange}
use Rattle.php_frames.specs.declared.completion.Completion.{Completion}
use Rattle.php_frames.specs.Served.{holds_place, does_serve, handler_from}
use Rattle.php_machine.specs.Same.{SameServe, Agree, SameRuns}
use Rattle.php_machine.proofs.AgreeLemmas.{same_runs_lem}
use Rattle.php_layers.specs.AgreeLayers.{MeetIn, AgreeIn, EachRelated}
use Rattle.php_layers.proofs.LayerLemmas.{layers_agree}
use Rattle.php_ast.specs.declaration.Tree.{Script}
use Rattle.php_ast.specs.expression.View.{Note}
use Rattle.php_actions.specs.declared.action.Action.TheVariants.{Call}
use Rattle.php_actions.specs.declared.calls.CallAction.TheVariants.{EndBody}
use Rattle.php_actions.specs.Plan.{rules}
use Rattle.php_code.specs.declared.instr.Instr.{Instr}
use Rattle.php_code.specs.declared.program.Function.{Function}
use Rattle.php_code.specs.Code.{Place, place, decoded, code_in, ranges_in, target_of, range_at, served_at, code_layer, code}
use Rattle.php_meaning.specs.Slots.{Names, script_names}
use Rattle.php_meaning.specs.Facts.{facts_of}
use Rattle.php_meaning.specs.Tasks.{Task}
use Rattle.php_meaning.specs.Meaning.{Left, left, function_tasks, served_tasks, tree_layer, tree}
use Rattle.php_compile.specs.StatementCode.{items_code}
use Rattle.php_compile.specs.Compiled.{script_function, compiled}
use Rattle.php_compile.proofs.Stands.{around, Lies, Stands, Reach, Meant}
use Rattle.php_compile.proofs.Follow.{meets_at}

-- ---- what is served

holds_none : (t : Bool) (r : HandlerRange) (xs : List HandlerRange) → cond t (r ∷ xs) xs ≡ [] → (t ≡ false) × (xs ≡ [])
holds_none true r xs h = absurd (cc)
holds_none false r xs h = (refl, h)

-- where no range holds a place nothing is served
no_handler : (rs : List HandlerRange) (n p : ℕ) (why : Completion) → around p rs ≡ [] → handler_from rs n p why ≡ None
no_handler [] n p why h = refl
no_handler (r ∷ rs) n p why h =
    let t = holds_none (holds_place r p) r (around p rs) h in
    ap (λ b. cond (b && does_serve r.serves why) (Some n) (handler_from rs (suc n) p why)) t.0 ∙ no_handler rs (suc n) p why t.1

no_range : (ns : Names) (functions : List Function) (f : ℕ) (k : List Task) (p : ℕ) (rs : List HandlerRange) → Stands ns functions f k p rs → rs ≡ []
no_range ns functions f [] p rs h = h.2
no_range ns functions f (t ∷ k) p rs h = no_range ns functions f k h.1.2 rs h.1.4

-- ---- where the code of the script lies

module _ (is : List Instr) where
  abbrev alone : List Function
  alone = record { code = is; ranges = [] } ∷ []

  all_lie : (rest pre : List Instr) → is ≡ pre ++ rest → Lies alone 0 (length pre) rest []
  all_lie [] pre h = tt
  all_lie (i ∷ rest) pre h =
      let within : length pre < length (pre ++ i ∷ rest) = omega (arith, length-append pre (i ∷ rest)) in
      let here = slice_get-get_or (pre ++ i ∷ rest) (length pre) i within ∙ ap Some (get_or-append_seam pre i rest i) in
      let n : length (pre ++ i ∷ []) ≡ length pre + 1 = omega (arith, length-append pre (i ∷ [])) in
      let more = all_lie rest (pre ++ i ∷ []) (h ∙ sym (append_assoc pre (i ∷ []) rest)) in
      (ap (λ l. decoded 0 (length pre) (slice_get l (length pre))) h ∙ ap (decoded 0 (length pre)) here, refl, subst (λ m. Lies alone 0 m rest []) n more)

  at_the_end : (ns : Names) → Reach ns alone 0 [] (0 + length is) []
  at_the_end ns =
      let past : length is ≤ 0 + length is = omega arith in
      (refl, 0, 0 + length is, refl, (ap (decoded 0 (0 + length is)) (slice_get_past is (0 + length is) past), refl, refl))

module _ (script : Script Note) where
  abbrev ns : Names
  ns = script_names script

  abbrev functions : List Function
  functions = script_function script ∷ []

  begins : (f : ℕ) → Meant ns functions (left f (function_tasks script f)) (place f 0)
  begins zero = (refl, [], (refl, 0, 0, refl, (all_lie (items_code ns script) (items_code ns script) [] refl, at_the_end (items_code ns script) ns)))
  begins (suc f) =
      let none : slice_get functions (suc f) ≡ None = slice_get_past functions (suc f) (omega arith) in
      let bare : (o : Option Function) → o ≡ None → (decoded (suc f) 0 (slice_get (code_in o) 0) ≡ None) × (around 0 (ranges_in o) ≡ [])
      = λ o e. (ap (λ u. decoded (suc f) 0 (slice_get (code_in u) 0)) e, ap (λ u. around 0 (ranges_in u)) e) in
      let b = bare (slice_get functions (suc f)) none in
      (refl, [], (b.1, 0, 0, refl, (b.0, b.1, refl)))

  meets : (l : Left) (c : Place) → Meant ns functions l c → MeetIn (tree_layer script) (code_layer functions) (Meant ns functions) l c
  meets l c r =
      subst (λ g. MeetIn (tree_layer script) (code_layer functions) (Meant ns functions) (left g l.tasks) c) (sym r.0)
      (meets_at script functions c.function l.tasks c.at r.1 r.2)

  serves : (why : Completion) (l : Left) (c : Place) → Meant ns functions l c
      → SameServe (Meant ns functions) (served_tasks why l) (served_at (ranges_in (slice_get functions c.function)) c.function c.at why)
  serves why l c r =
      let none = no_range ns functions c.function l.tasks r.2.2 r.1 r.2.4 in
      let ranges = ranges_in (slice_get functions c.function) in
      let bare : around c.at ranges ≡ [] = r.2.0 ∙ none in
      let e = ap (λ o. target_of c.function (range_at ranges o)) (no_handler ranges 0 c.at why bare) in
      subst (λ o. SameServe (Meant ns functions) (served_tasks why l) o) (sym e) tt

  agree : AgreeIn (tree_layer script) (code_layer functions) (Meant ns functions)
  agree = record { starts = begins; fetches = meets; serves = serves }

  pub controls_agree : Agree (tree script) (code (compiled script)) (EachRelated (Meant ns functions))
  controls_agree = layers_agree (Call EndBody) (tree_layer script) (code_layer functions) (Meant ns functions) agree

  pub same_runs_of : SameRuns (rules (facts_of script)) (tree script) (code (compiled script))
  same_runs_of = same_runs_lem (tree script) (code (compiled script)) (EachRelated (Meant ns functions)) controls_agree (rules (facts_of script))
