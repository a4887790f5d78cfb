-- What tasks need: each takes from the temporaries and leaves there what the next one finds.
use Rattle.std.proofs.Common.{◌≡◌, ℕ, ◌+◌, ◌≤◌, true, false, cond, List, [], ◌∷◌, ◌++◌, Option, Some, None, refl, sym, ap, ◌∙◌, subst, arith}
use Rattle.std.specs.Prelude.{IsSome}
use Rattle.std.proofs.lemmas.Bool.{false≢true}
use Rattle.php_value.specs.declared.scalar.Scalar.{Scalar}
use Rattle.php_value.specs.declared.scalar.Scalar.TheVariants as scalar
use Rattle.php_ast.specs.declared.operator.Binary.{Binary}
use Rattle.php_ast.specs.declared.operator.Binary.TheVariants as binary_form
use Rattle.php_ast.specs.declared.operator.Prefix.{Prefix}
use Rattle.php_ast.specs.declared.operator.Prefix.TheVariants as prefix_form
use Rattle.php_ast.specs.expression.Tree.{Leaf, variable, int, string, name, magic, Enclosure, parentheses, emptiness, exiting}
use Rattle.php_ast.specs.expression.Tree.{Tree, leaf, template, enclosed, listed, exit, exit_empty, static_member, append, index, selected, computed, call, new, new_with, prefix, count, binary, instance_of, instance_of_static, choice, short_choice, assign, yield_nothing, yield_value, yield_pair}
use Rattle.php_ast.specs.expression.Tree.{Items, none, and, skip, Pieces, no_piece, bytes, value}
use Rattle.php_ast.specs.statement.Tree.{empty, then_also, Statement, block, blank, inline, expression, echo, Statements, no_statement, and_statement}
use Rattle.php_ast.specs.declaration.Tree.{Item, of_statement, of_function, of_class, of_interface, of_trait, Script}
use Rattle.php_ast.specs.expression.View.{Note}
use Rattle.php_actions.specs.declared.action.Action.{Action}
use Rattle.php_actions.specs.declared.action.Action.TheVariants.{Stack, Operator, Output}
use Rattle.php_actions.specs.declared.stack.StackAction.TheVariants.{Drop}
use Rattle.php_actions.specs.declared.operators.OperatorAction.TheVariants.{ToBool, Not, ToInt, ToText, Sign, Complement, Join}
use Rattle.php_actions.specs.declared.output.OutputAction.TheVariants.{Echo, Write, Print}
use Rattle.php_actions.specs.declared.place_form.PlaceForm.{PlaceForm}
use Rattle.php_meaning.specs.Slots.{Names}
use Rattle.php_meaning.specs.Constants.{constant_of}
use Rattle.php_meaning.specs.Forms.{variable_form, variable_name, form_if, place_form, push, constant_action, magic_value, read_action, leaf_action, operator, binary_action, prefix_action, assigned_form, assign_action, tick}
use Rattle.php_meaning.specs.Heights.{piece_count, peak_of_two, peak_of_assigned, peak_of_enclosed, peak_of, peak_of_pieces, peak_of_items, peak_of_statement, peak_of_statements, peak_of_item, peak_of_script}
use Rattle.php_meaning.specs.Tasks.{Task, Do, Eval, Keys, EvalPieces, EchoItems, Run, Runs, RunItems}
use Rattle.php_meaning.specs.Expressions.{do_if, right_tasks, enclosed_tasks, assign_tasks, eval_tasks, pieces_tasks, echo_tasks}
use Rattle.php_meaning.specs.Statements.{statement_tasks, statements_tasks, item_tasks, items_tasks}
use Rattle.php_meaning.specs.Meaning.{unfolded}
use Rattle.php_runnable.specs.Told.{IsToldLeaf, IsToldPrefix, IsToldEnclosure, IsTold, ArePiecesTold, AreItemsTold, IsStatementTold, AreStatementsTold, IsItemTold, IsScriptTold}
use Rattle.php_runnable.proofs.Constants.{IsWithin, constant-within}
use Rattle.php_runnable.proofs.Heights.{peak-max, statement-max, item-max}
use Rattle.php_runnable.proofs.Signatures.{found, leaves, spare, IsFit, FitsOver}

module _ (ns : Names) (top : ℕ) where
  -- the tasks may be done over n temporaries, and nothing is left of these behind them
  abbrev pub Fits : List Task → ℕ → Type 0
  Fits [] n = n ≡ 0
  Fits (Do a ∷ k) n = (r : ℕ) × ((n ≡ found a + r) × ((IsFit ns a × FitsOver top r (spare a)) × Fits k (leaves a + r)))
  Fits (Eval e ∷ k) n = (IsTold e × (peak_of ns n 0 e ≤ top)) × Fits k (n + 1)
  Fits (Keys e ∷ k) n = Fits k n
  Fits (EvalPieces ps ∷ k) n = (ArePiecesTold ps × (peak_of_pieces ns n 0 ps ≤ top)) × Fits k (n + piece_count ps)
  Fits (EchoItems is ∷ k) n = (AreItemsTold is × (peak_of_items ns n 0 is ≤ top)) × Fits k n
  Fits (Run d s ∷ k) n = (d ≡ n) × ((IsStatementTold s × (peak_of_statement ns n 0 s ≤ top)) × Fits k n)
  Fits (Runs d ss ∷ k) n = (d ≡ n) × ((AreStatementsTold ss × (peak_of_statements ns n 0 ss ≤ top)) × Fits k n)
  Fits (RunItems is ∷ k) n = (0 ≡ n) × ((IsScriptTold is × (peak_of_script ns 0 is ≤ top)) × Fits k n)

  fits_as : (k : List Task) (n m : ℕ) → n ≡ m → Fits k n → Fits k m
  fits_as k n m e h = subst (λ i. Fits k i) e h

  does : (a : Action) (k : List Task) (n r m : ℕ) → n ≡ found a + r → IsFit ns a → FitsOver top r (spare a) → leaves a + r ≡ m → Fits k m → Fits (Do a ∷ k) n
  does a k n r m e fit l same h = (r, (e, ((fit, l), fits_as k m (leaves a + r) (sym same) h)))

  -- ---- expressions

  constant-fits : (o : Option Scalar) (x : List ℕ) (k : List Task) (n : ℕ) → IsWithin o → n + 1 ≤ top → Fits k (n + 1) → Fits (Do (constant_action o x) ∷ k) n
  constant-fits None x k n w l h = does (constant_action None x) k n n (n + 1) (omega arith) tt tt (omega arith) h
  constant-fits (Some v) x k n w l h = does (push v) k n n (n + 1) (omega arith) w l (omega arith) h

  leaf-fits : (at : Note) (l : Leaf) (k : List Task) (n : ℕ) → IsToldLeaf at l → n + 1 ≤ top → Fits k (n + 1) → Fits (Do (leaf_action ns at l) ∷ k) n
  leaf-fits at (variable v) k n told l h = does (read_action (variable_form ns v)) k n n (n + 1) (omega arith) (v, refl) l (omega arith) h
  leaf-fits at (int i) k n told l h = does (push (scalar.Int i)) k n n (n + 1) (omega arith) told l (omega arith) h
  leaf-fits at (string t) k n told l h = does (push (scalar.Str t)) k n n (n + 1) (omega arith) told l (omega arith) h
  leaf-fits at (name x) k n told l h = constant-fits (constant_of x) x k n (constant-within x) l h
  leaf-fits at (magic m) k n told l h = does (push (magic_value at m)) k n n (n + 1) (omega arith) told l (omega arith) h

  -- an operator of one operand
  one-fits : (a : Action) (k : List Task) (n : ℕ) → found a ≡ 1 → leaves a ≡ 1 → spare a ≡ 0 → IsFit ns a → Fits k (n + 1) → Fits (Do a ∷ k) (n + 1)
  one-fits a k n e i l fit h = does a k (n + 1) n (n + 1) (omega (arith, e)) fit (subst (λ j. FitsOver top n j) (sym l) tt) (omega (arith, i)) h

  prefix-fits : (op : Prefix) (k : List Task) (n : ℕ) → IsToldPrefix op → Fits k (n + 1) → Fits (do_if (prefix_action op) ++ k) (n + 1)
  prefix-fits prefix_form.Silence k n told h = h
  prefix-fits prefix_form.BitNot k n told h = one-fits (operator Complement) k n refl refl refl tt h
  prefix-fits prefix_form.ToInt k n told h = one-fits (operator ToInt) k n refl refl refl tt h
  prefix-fits prefix_form.ToBool k n told h = one-fits (operator ToBool) k n refl refl refl tt h
  prefix-fits prefix_form.ToText k n told h = one-fits (operator ToText) k n refl refl refl tt h
  prefix-fits prefix_form.Plus k n told h = one-fits (operator (Sign false)) k n refl refl refl tt h
  prefix-fits prefix_form.Minus k n told h = one-fits (operator (Sign true)) k n refl refl refl tt h
  prefix-fits prefix_form.Not k n told h = one-fits (operator Not) k n refl refl refl tt h
  prefix-fits prefix_form.Print k n told h = one-fits (Output Print) k n refl refl refl tt h
  prefix-fits prefix_form.Clone k n told h = absurd (false≢true told)
  prefix-fits prefix_form.Increment k n told h = absurd (false≢true told)
  prefix-fits prefix_form.Decrement k n told h = absurd (false≢true told)
  prefix-fits prefix_form.ToArray k n told h = absurd (false≢true told)
  prefix-fits prefix_form.YieldFrom k n told h = absurd (false≢true told)

  -- an operator of two operands, which wants room for two more at most
  abbrev IsOfTwo : Option Action → Type 0
  IsOfTwo None = Unit {0}
  IsOfTwo (Some a) = (found a ≡ 2) × ((leaves a ≡ 1) × (IsFit ns a × ((r : ℕ) → r + 4 ≤ top → FitsOver top r (spare a))))

  of_two : (op : Binary) → IsOfTwo (binary_action op)
  of_two binary_form.Power = (refl, (refl, (tt, λ r l. l)))
  of_two binary_form.Times = (refl, (refl, (tt, λ r l. l)))
  of_two binary_form.Divided = (refl, (refl, (tt, λ r l. l)))
  of_two binary_form.Remainder = (refl, (refl, (tt, λ r l. l)))
  of_two binary_form.Plus = (refl, (refl, (tt, λ r l. l)))
  of_two binary_form.Minus = (refl, (refl, (tt, λ r l. l)))
  of_two binary_form.Concatenated = (refl, (refl, (tt, λ r l. l)))
  of_two binary_form.ShiftedLeft = (refl, (refl, (tt, λ r l. l)))
  of_two binary_form.ShiftedRight = (refl, (refl, (tt, λ r l. l)))
  of_two binary_form.BitAnd = (refl, (refl, (tt, λ r l. l)))
  of_two binary_form.BitXor = (refl, (refl, (tt, λ r l. l)))
  of_two binary_form.BitOr = (refl, (refl, (tt, λ r l. l)))
  of_two binary_form.WordXor = (refl, (refl, (tt, λ r l. tt)))
  of_two binary_form.Less = (refl, (refl, (tt, λ r l. tt)))
  of_two binary_form.LessEqual = (refl, (refl, (tt, λ r l. tt)))
  of_two binary_form.Greater = (refl, (refl, (tt, λ r l. tt)))
  of_two binary_form.GreaterEqual = (refl, (refl, (tt, λ r l. tt)))
  of_two binary_form.Equal = (refl, (refl, (tt, λ r l. tt)))
  of_two binary_form.NotEqual = (refl, (refl, (tt, λ r l. tt)))
  of_two binary_form.LessGreater = (refl, (refl, (tt, λ r l. tt)))
  of_two binary_form.Identical = (refl, (refl, (tt, λ r l. tt)))
  of_two binary_form.NotIdentical = (refl, (refl, (tt, λ r l. tt)))
  of_two binary_form.Compared = (refl, (refl, (tt, λ r l. tt)))
  of_two binary_form.LogicalAnd = tt
  of_two binary_form.LogicalOr = tt
  of_two binary_form.Coalesced = tt
  of_two binary_form.WordAnd = tt
  of_two binary_form.WordOr = tt

  right-fits : (o : Option Action) (l r : Tree Note) (k : List Task) (n : ℕ) → IsOfTwo o → IsSome o → IsTold l → IsTold r
      → peak_of_two o n (peak_of ns n 0 l) (peak_of ns (n + 1) (peak_of ns n 0 l) r) ≤ top → Fits k (n + 1) → Fits (Eval l ∷ (right_tasks o r ++ k)) n
  right-fits None l r k n two some told told' p h = absurd (false≢true some)
  right-fits (Some a) l r k n two some told told' p h =
      let m = peak-max ns (n + 1) (peak_of ns n 0 l) r in (
        (told, omega (arith, p, m)),
        (
          (told', omega (arith, p, m)),
          does a k (n + 1 + 1) n (n + 1) (omega (arith, two.0)) two.1.1.0 (two.1.1.1 n (omega (arith, p))) (omega (arith, two.1.0)) h,
        ),
      )

  assign-fits : (o : Option PlaceForm) (v : List ℕ) (p e : Tree Note) (k : List Task) (n : ℕ) → o ≡ Some (variable_form ns v) → IsTold e
      → peak_of_assigned o n 0 (peak_of ns n 0 e) ≤ top → Fits k (n + 1) → Fits (assign_tasks o p e ++ k) n
  assign-fits None v p e k n is told l h = absurd (cc)
  assign-fits (Some form) v p e k n is told l h =
      let same : form ≡ variable_form ns v = cc in
      ((told, omega (arith, l)), does (assign_action form) k (n + 1) n (n + 1) (omega arith) (v, same) (omega (arith, l)) (omega arith) h)

  named : (o : Option (List ℕ)) → IsSome o → (v : List ℕ) × (o ≡ Some v)
  named None h = absurd (false≢true h)
  named (Some v) h = (v, refl)

  enclosed-fits : (by : Enclosure) (e : Tree Note) (k : List Task) (n : ℕ) → IsToldEnclosure by → IsTold e → peak_of_enclosed by 0 (peak_of ns n 0 e) ≤ top → Fits k (n + 1) → Fits (enclosed_tasks by e ++ k) n
  enclosed-fits parentheses e k n told told' l h = ((told', l), h)
  enclosed-fits emptiness e k n told told' l h = absurd told
  enclosed-fits exiting e k n told told' l h = absurd told

  eval-fits : (e : Tree Note) (k : List Task) (n : ℕ) → IsTold e → peak_of ns n 0 e ≤ top → Fits k (n + 1) → Fits (eval_tasks ns e ++ k) n
  eval-fits (leaf at l) k n told p h = leaf-fits at l k n told (omega (arith, p)) h
  eval-fits (template at ps) k n told p h =
      ((told, omega (arith, p)), does (Operator (Join (piece_count ps))) k (n + piece_count ps) n (n + 1) (omega arith) tt (omega (arith, p)) (omega arith) h)
  eval-fits (enclosed at by e) k n told p h = enclosed-fits by e k n told.0 told.1 p h
  eval-fits (prefix at op e) k n told p h = ((told.1, p), prefix-fits op k n told.0 h)
  eval-fits (binary op l r) k n told p h = right-fits (binary_action op) l r k n (of_two op) told.0 told.1.0 told.1.1 p h
  eval-fits (assign s p e) k n told l h =
      let v = named (variable_name p) told.1.0 in
      let is : assigned_form ns s p ≡ Some (variable_form ns v.0) = ap (λ t. cond t (place_form ns p) None) told.0 ∙ ap (form_if ns) v.1 in
      assign-fits (assigned_form ns s p) v.0 p e k n is told.1.1 l h
  eval-fits (append e) k n told p h = absurd told
  eval-fits (index e i) k n told p h = absurd told
  eval-fits (selected e by m) k n told p h = absurd told
  eval-fits (computed e i) k n told p h = absurd told
  eval-fits (call e is) k n told p h = absurd told
  eval-fits (choice c a b) k n told p h = absurd told
  eval-fits (short_choice a b) k n told p h = absurd told
  eval-fits (listed at form is) k n told p h = absurd told
  eval-fits (exit at) k n told p h = absurd told
  eval-fits (exit_empty at) k n told p h = absurd told
  eval-fits (static_member at m) k n told p h = absurd told
  eval-fits (new at c) k n told p h = absurd told
  eval-fits (new_with at c is) k n told p h = absurd told
  eval-fits (count e c) k n told p h = absurd told
  eval-fits (instance_of l r) k n told p h = absurd told
  eval-fits (instance_of_static l at) k n told p h = absurd told
  eval-fits (yield_nothing at) k n told p h = absurd told
  eval-fits (yield_value at v) k n told p h = absurd told
  eval-fits (yield_pair at i v) k n told p h = absurd told

  pieces-fits : (ps : Pieces Note) (k : List Task) (n : ℕ) → ArePiecesTold ps → peak_of_pieces ns n 0 ps ≤ top → Fits k (n + piece_count ps) → Fits (pieces_tasks ns ps ++ k) n
  pieces-fits no_piece k n told p h = fits_as k (n + 0) n (omega arith) h
  pieces-fits (bytes ps t) k n told p h =
      ((told.0, omega (arith, p)), does (push (scalar.Str t)) k (n + piece_count ps) (n + piece_count ps) (n + (piece_count ps + 1)) (omega arith) told.1 (omega (arith, p)) (omega arith) h)
  pieces-fits (value ps e) k n told p h =
      let m = peak-max ns (n + piece_count ps) (peak_of_pieces ns n 0 ps) e in (
        (told.0, omega (arith, p, m)),
        (
          (told.1, omega (arith, p, m)),
          one-fits (operator ToText) k (n + piece_count ps) refl refl refl tt (fits_as k (n + (piece_count ps + 1)) (n + piece_count ps + 1) (omega arith) h),
        ),
      )

  echo-fits : (is : Items Note) (k : List Task) (n : ℕ) → AreItemsTold is → peak_of_items ns n 0 is ≤ top → Fits k n → Fits (echo_tasks ns is ++ k) n
  echo-fits none k n told p h = h
  echo-fits (and is lead e) k n told p h =
      let m = peak-max ns n (peak_of_items ns n 0 is) e in
      ((told.0, omega (arith, p, m)), ((told.1, omega (arith, p, m)), does (Output Echo) k (n + 1) n n (omega arith) tt tt (omega arith) h))
  echo-fits (skip is) k n told p h = ((told, p), h)

  -- ---- statements

  ticks : (at : Note) (k : List Task) (n : ℕ) → Fits k n → Fits (Do (tick at) ∷ k) n
  ticks at k n h = does (tick at) k n n n (omega arith) tt tt (omega arith) h

  statement-fits : (d : ℕ) (s : Statement Note) (k : List Task) (n : ℕ) → d ≡ n → IsStatementTold s → peak_of_statement ns n 0 s ≤ top → Fits k n → Fits (statement_tasks d s ++ k) n
  statement-fits d (block at ss) k n e told p h = (e, ((told, p), h))
  statement-fits d (blank at) k n e told p h = h
  statement-fits d (inline at t) k n e told p h = ticks at (Do (Output (Write t)) ∷ k) n (does (Output (Write t)) k n n n (omega arith) tt tt (omega arith) h)
  statement-fits d (expression at x) k n e told p h =
      ticks at (Eval x ∷ Do (Stack Drop) ∷ k) n ((told, p), does (Stack Drop) k (n + 1) n n (omega arith) tt tt (omega arith) h)
  statement-fits d (echo at is) k n e told p h = ticks at (EchoItems is ∷ k) n ((told, p), h)
  statement-fits d _ k n e told p h = absurd told

  statements-fits : (d : ℕ) (ss : Statements Note) (k : List Task) (n : ℕ) → d ≡ n → AreStatementsTold ss → peak_of_statements ns n 0 ss ≤ top → Fits k n → Fits (statements_tasks d ss ++ k) n
  statements-fits d no_statement k n e told p h = h
  statements-fits d (and_statement ss s) k n e told p h =
      let m = statement-max ns n (peak_of_statements ns n 0 ss) s in
      (e, ((told.0, omega (arith, p, m)), (e, ((told.1, omega (arith, p, m)), h))))

  item-fits : (i : Item Note) (k : List Task) (n : ℕ) → 0 ≡ n → IsItemTold i → peak_of_item ns 0 i ≤ top → Fits k n → Fits (item_tasks i ++ k) n
  item-fits (of_statement s) k n e told p h = (e, ((told, subst (λ j. peak_of_statement ns j 0 s ≤ top) e p), h))
  item-fits (of_function g) k n e told p h = absurd told
  item-fits (of_class c) k n e told p h = absurd told
  item-fits (of_interface c) k n e told p h = absurd told
  item-fits (of_trait c) k n e told p h = absurd told

  items-fits : (is : Script Note) (k : List Task) (n : ℕ) → 0 ≡ n → IsScriptTold is → peak_of_script ns 0 is ≤ top → Fits k n → Fits (items_tasks is ++ k) n
  items-fits empty k n e told p h = h
  items-fits (then_also is i) k n e told p h =
      let m = item-max ns (peak_of_script ns 0 is) i in
      (e, ((told.0, omega (arith, p, m)), item-fits i k n e told.1 (omega (arith, p, m)) h))

  -- what a task unfolds to fits where the task does
  pub unfolded-fits : (t : Task) (k : List Task) (n : ℕ) → Fits (t ∷ k) n → Fits (unfolded ns t ++ k) n
  unfolded-fits (Do a) k n h = h
  unfolded-fits (Eval e) k n h = eval-fits e k n h.0.0 h.0.1 h.1
  unfolded-fits (Keys e) k n h = h
  unfolded-fits (EvalPieces ps) k n h = pieces-fits ps k n h.0.0 h.0.1 h.1
  unfolded-fits (EchoItems is) k n h = echo-fits is k n h.0.0 h.0.1 h.1
  unfolded-fits (Run d s) k n h = statement-fits d s k n h.0 h.1.0.0 h.1.0.1 h.1.1
  unfolded-fits (Runs d ss) k n h = statements-fits d ss k n h.0 h.1.0.0 h.1.0.1 h.1.1
  unfolded-fits (RunItems is) k n h = items-fits is k n h.0 h.1.0.0 h.1.0.1 h.1.1
