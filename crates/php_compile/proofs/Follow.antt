-- What stands for the tasks does what they do.
use Rattle.std.proofs.Common.{◌≡◌, ℕ, zero, suc, ◌+◌, List, [], ◌∷◌, ◌++◌, length, Option, Some, None, refl, sym, ap, ◌∙◌, subst, arith, append-nil, length-append}
use Rattle.php_frames.specs.declared.ranges.HandlerRange.{HandlerRange}
use Rattle.php_actions.specs.declared.action.Action.{Action}
use Rattle.php_machine.specs.Control.{Silent, Act}
use Rattle.php_layers.specs.AgreeLayers.{SameLeft, MeetIn}
use Rattle.php_code.specs.declared.instr.Instr.{Instr}
use Rattle.php_code.specs.declared.instr.Instr.TheVariants as instr
use Rattle.php_code.specs.declared.program.Function.{Function}
use Rattle.php_code.specs.Code.{place, code_layer}
use Rattle.php_ast.specs.declaration.Tree.{Item, of_statement, of_function, of_class, of_interface, of_trait, Script}
use Rattle.php_ast.specs.expression.Tree.{parentheses, emptiness, exiting}
use Rattle.php_ast.specs.expression.Tree.{Tree, leaf, template, enclosed, listed, exit, exit_empty, static_member, append, index, selected, computed, call, new, new_with, prefix, count, binary, instance_of, instance_of_static, choice, short_choice, assign, yield_nothing, yield_value, yield_pair}
use Rattle.php_ast.specs.expression.Tree.{Items, none, and, skip, Pieces, no_piece, bytes, value}
use Rattle.php_ast.specs.expression.View.{Note}
use Rattle.php_ast.specs.statement.Tree.{empty, then_also, Statement, block, blank, inline, expression, echo, globals, statics, unset, constants, jump, throw, if_only, if_else, if_lists, if_else_lists, while, do_while, for, foreach, switch, try_catch, try_finally, declares, Statements, no_statement, and_statement}
use Rattle.php_value.specs.declared.scalar.Scalar.TheVariants as scalar
use Rattle.php_actions.specs.declared.action.Action.TheVariants.{Stack, Operator, Output}
use Rattle.php_actions.specs.declared.stack.StackAction.TheVariants.{Drop}
use Rattle.php_actions.specs.declared.operators.OperatorAction.TheVariants.{ToText, Join}
use Rattle.php_actions.specs.declared.output.OutputAction.TheVariants.{Echo, Write}
use Rattle.php_actions.specs.declared.place_form.PlaceForm.{PlaceForm}
use Rattle.php_meaning.specs.Heights.{piece_count}
use Rattle.php_meaning.specs.Slots.{Names, script_names}
use Rattle.php_meaning.specs.Forms.{push, tick, leaf_action, binary_action, prefix_action, assigned_form, assign_action}
use Rattle.php_meaning.specs.Tasks.{Task, Do, Eval, Keys, EvalPieces, EchoItems, Run, Runs, RunItems}
use Rattle.php_meaning.specs.Expressions.{do_if, right_tasks, assign_tasks}
use Rattle.php_meaning.specs.Statements.{item_tasks}
use Rattle.php_meaning.specs.Meaning.{left, fetched_task, tree_layer, unfolded}
use Rattle.php_compile.specs.ExpressionCode.{expr_code, do_code, right_code, assign_code}
use Rattle.php_compile.specs.StatementCode.{item_code}
use Rattle.php_compile.proofs.Stands.{task_code, tasks_code, around_at, Lies, Jumps, Stands, Reach, Meant}

module _ (functions : List Function) (f : ℕ) where
  lies_front : (p : ℕ) (a b : List Instr) (rs : List HandlerRange) → Lies functions f p (a ++ b) rs → Lies functions f p a rs
  lies_front p [] b rs h = tt
  lies_front p (i ∷ a) b rs h = (h.0, h.1, lies_front (p + 1) a b rs h.2)

  lies_back : (p : ℕ) (a b : List Instr) (rs : List HandlerRange) → Lies functions f p (a ++ b) rs → Lies functions f (p + length a) b rs
  lies_back p [] b rs h = let e : p ≡ p + 0 = omega arith in subst (λ n. Lies functions f n b rs) e h
  lies_back p (i ∷ a) b rs h =
      let e : p + 1 + length a ≡ p + length (i ∷ a) = omega arith in
      subst (λ n. Lies functions f n b rs) e (lies_back (p + 1) a b rs h.2)

  -- what holds behind code holds where it begins
  lies_here : (p : ℕ) (is : List Instr) (rs : List HandlerRange) → Lies functions f p is rs → around_at functions f (p + length is) ≡ rs → around_at functions f p ≡ rs
  lies_here p [] rs h e = let z : p + 0 ≡ p = omega arith in subst (λ n. around_at functions f n ≡ rs) z e
  lies_here p (i ∷ is) rs h e = h.1

module _ (script : Script Note) (functions : List Function) (f : ℕ) where
  abbrev ns : Names
  ns = script_names script

  -- tasks and a place in the code come to the same
  abbrev Settled : List Task → ℕ → Type 0
  Settled k p = MeetIn (tree_layer script) (code_layer functions) (Meant ns functions) (left f k) (place f p)

  -- they do wherever the tasks stand
  abbrev Goes : List Task → Type 0
  Goes k = (p : ℕ) (rs : List HandlerRange) → Stands ns functions f k p rs → Settled k p

  -- a task does, whatever follows
  abbrev Settles : Task → Type 0
  Settles t = (k : List Task) → Goes k → Goes (t ∷ k)

  abbrev AllSettle : List Task → Type 0
  AllSettle [] = Unit {0}
  AllSettle (t ∷ ts) = Settles t × AllSettle ts

  jumped : (j p q : ℕ) (k : List Task) → Jumps functions f j p q → Settled k q → Settled k p
  jumped zero p q k h s = subst (λ n. Settled k n) (sym h) s
  jumped (suc j) p q k h s =
      let t = jumped j h.0 q k h.2 s in
      record {
        silent_first = t.silent_first;
        silent_second = suc t.silent_second;
        there = t.there;
        here = t.here;
        first_comes = t.first_comes;
        second_comes = (place f h.0, h.1, t.second_comes);
        related = t.related;
        same = t.same;
      }

  reached : (k : List Task) → Goes k → (p : ℕ) (rs : List HandlerRange) → Reach ns functions f k p rs → Settled k p
  reached k go p rs v = jumped v.1 p v.2 k v.3 (go v.2 rs v.4)

  all_reach : (ts k : List Task) (p : ℕ) (rs : List HandlerRange) → Lies functions f p (tasks_code ns ts) rs → Reach ns functions f k (p + length (tasks_code ns ts)) rs
      → Reach ns functions f (ts ++ k) p rs
  all_reach [] k p rs h v = let e : p + 0 ≡ p = omega arith in subst (λ n. Reach ns functions f k n rs) e v
  all_reach (t ∷ ts) k p rs h v =
      let front = lies_front functions f p (task_code ns t) (tasks_code ns ts) rs h in
      let back = lies_back functions f p (task_code ns t) (tasks_code ns ts) rs h in
      let e : p + length (task_code ns t ++ tasks_code ns ts) ≡ p + length (task_code ns t) + length (tasks_code ns ts)
      = omega (arith, length-append (task_code ns t) (tasks_code ns ts)) in
      let rest = all_reach ts k (p + length (task_code ns t)) rs back (subst (λ n. Reach ns functions f k n rs) e v) in
      (lies_here functions f p (task_code ns t) rs front rest.0, 0, p, refl, (front, rest))

  all_go : (ts : List Task) → AllSettle ts → (k : List Task) → Goes k → Goes (ts ++ k)
  all_go [] all k go = go
  all_go (t ∷ ts) all k go = all.0 (ts ++ k) (all_go ts all.1 k go)

  -- a task that unfolds to others, whose code is theirs
  opens : (t : Task) (ts : List Task) → ((k : List Task) → fetched_task ns f t k ≡ Silent (left f (ts ++ k))) → task_code ns t ≡ tasks_code ns ts
      → AllSettle ts → Settles t
  opens t ts e code all k go p rs h =
      let lies = subst (λ c. Lies functions f p c rs) code h.0 in
      let v = subst (λ c. Reach ns functions f k (p + length c) rs) code h.1 in
      let s = reached (ts ++ k) (all_go ts all k go) p rs (all_reach ts k p rs lies v) in
      record {
        silent_first = suc s.silent_first;
        silent_second = s.silent_second;
        there = s.there;
        here = s.here;
        first_comes = (left f (ts ++ k), ap Some (e k), s.first_comes);
        second_comes = s.second_comes;
        related = s.related;
        same = s.same;
      }

  unfolds : (t : Task) → ((k : List Task) → fetched_task ns f t k ≡ Silent (left f (unfolded ns t ++ k))) → task_code ns t ≡ tasks_code ns (unfolded ns t)
      → AllSettle (unfolded ns t) → Settles t
  unfolds t e code all = opens t (unfolded ns t) e code all

  does : (a : Action) → Settles (Do a)
  does a k go p rs h =
      record {
        silent_first = 0;
        silent_second = 0;
        there = left f (Do a ∷ k);
        here = place f p;
        first_comes = refl;
        second_comes = refl;
        related = (refl, rs, (h.0.1, 0, p, refl, h));
        same = subst (λ o. SameLeft (Meant ns functions) (Some (Act a (left f k))) o) (sym h.0.0) (refl, (refl, rs, h.1));
      }

  ends : Goes []
  ends p rs h = record {
    silent_first = 0;
    silent_second = 0;
    there = left f [];
    here = place f p;
    first_comes = refl;
    second_comes = refl;
    related = (refl, rs, (h.1, 0, p, refl, h));
    same = subst (λ o. SameLeft (Meant ns functions) None o) (sym h.0) tt;
  }

  -- ---- parts of forms

  do_same : (o : Option Action) → do_code o ≡ tasks_code ns (do_if o)
  do_same None = refl
  do_same (Some a) = refl

  do_settles : (o : Option Action) → AllSettle (do_if o)
  do_settles None = tt
  do_settles (Some a) = (does a, tt)

  right_same : (o : Option Action) (r : Tree Note) → right_code o (expr_code ns r) ≡ tasks_code ns (right_tasks o r)
  right_same None r = refl
  right_same (Some a) r = refl

  right_settles : (o : Option Action) (r : Tree Note) → Settles (Eval r) → AllSettle (right_tasks o r)
  right_settles None r h = tt
  right_settles (Some a) r h = (h, (does a, tt))

  keys_settle : (e : Tree Note) → Settles (Keys e)
  keys_settle e = opens (Keys e) [] (λ k. refl) refl tt

  assign_same : (o : Option PlaceForm) (p e : Tree Note) → assign_code o (expr_code ns e) ≡ tasks_code ns (assign_tasks o p e)
  assign_same None p e = refl
  assign_same (Some form) p e = refl

  assign_settles : (o : Option PlaceForm) (p e : Tree Note) → Settles (Eval e) → AllSettle (assign_tasks o p e)
  assign_settles None p e h = tt
  assign_settles (Some form) p e h = (keys_settle p, (h, (does (assign_action form), tt)))

  -- a form that is another one
  passes : (t u : Task) → ((k : List Task) → fetched_task ns f t k ≡ Silent (left f (u ∷ k))) → task_code ns t ≡ task_code ns u → Settles u → Settles t
  passes t u e code h = opens t (u ∷ []) e (code ∙ sym (append-nil (task_code ns u))) (h, tt)

  -- a form that does nothing
  silent : (t : Task) → ((k : List Task) → fetched_task ns f t k ≡ Silent (left f k)) → task_code ns t ≡ [] → Settles t
  silent t e code = opens t [] e code tt

  -- ---- one line a form

  mutual
    expr_settles : (e : Tree Note) → Settles (Eval e)
    expr_settles (leaf at l) = opens (Eval (leaf at l)) (Do (leaf_action ns at l) ∷ []) (λ k. refl) refl (does (leaf_action ns at l), tt)
    expr_settles (template at ps) = unfolds (Eval (template at ps)) (λ k. refl) refl (pieces_settle ps, (does (Operator (Join (piece_count ps))), tt))
    expr_settles (enclosed at parentheses e) = passes (Eval (enclosed at parentheses e)) (Eval e) (λ k. refl) refl (expr_settles e)
    expr_settles (enclosed at emptiness e) = silent (Eval (enclosed at emptiness e)) (λ k. refl) refl
    expr_settles (enclosed at exiting e) = silent (Eval (enclosed at exiting e)) (λ k. refl) refl
    expr_settles (append e) = passes (Eval (append e)) (Eval e) (λ k. refl) refl (expr_settles e)
    expr_settles (index e i) = passes (Eval (index e i)) (Eval e) (λ k. refl) refl (expr_settles e)
    expr_settles (selected e by m) = passes (Eval (selected e by m)) (Eval e) (λ k. refl) refl (expr_settles e)
    expr_settles (computed e n) = passes (Eval (computed e n)) (Eval e) (λ k. refl) refl (expr_settles e)
    expr_settles (call e is) = passes (Eval (call e is)) (Eval e) (λ k. refl) refl (expr_settles e)
    expr_settles (prefix at op e) =
        opens (Eval (prefix at op e)) (Eval e ∷ do_if (prefix_action op)) (λ k. refl) (ap (λ c. expr_code ns e ++ c) (do_same (prefix_action op)))
        (expr_settles e, do_settles (prefix_action op))
    expr_settles (binary op l r) =
        opens (Eval (binary op l r)) (Eval l ∷ right_tasks (binary_action op) r) (λ k. refl) (ap (λ c. expr_code ns l ++ c) (right_same (binary_action op) r))
        (expr_settles l, right_settles (binary_action op) r (expr_settles r))
    expr_settles (choice c a b) = passes (Eval (choice c a b)) (Eval c) (λ k. refl) refl (expr_settles c)
    expr_settles (short_choice a b) = passes (Eval (short_choice a b)) (Eval a) (λ k. refl) refl (expr_settles a)
    expr_settles (assign s p e) =
        opens (Eval (assign s p e)) (assign_tasks (assigned_form ns s p) p e) (λ k. refl) (assign_same (assigned_form ns s p) p e)
        (assign_settles (assigned_form ns s p) p e (expr_settles e))
    expr_settles (listed at form is) = silent (Eval (listed at form is)) (λ k. refl) refl
    expr_settles (exit at) = silent (Eval (exit at)) (λ k. refl) refl
    expr_settles (exit_empty at) = silent (Eval (exit_empty at)) (λ k. refl) refl
    expr_settles (static_member at m) = silent (Eval (static_member at m)) (λ k. refl) refl
    expr_settles (new at c) = silent (Eval (new at c)) (λ k. refl) refl
    expr_settles (new_with at c is) = silent (Eval (new_with at c is)) (λ k. refl) refl
    expr_settles (count e c) = silent (Eval (count e c)) (λ k. refl) refl
    expr_settles (instance_of l r) = silent (Eval (instance_of l r)) (λ k. refl) refl
    expr_settles (instance_of_static l at) = silent (Eval (instance_of_static l at)) (λ k. refl) refl
    expr_settles (yield_nothing at) = silent (Eval (yield_nothing at)) (λ k. refl) refl
    expr_settles (yield_value at v) = silent (Eval (yield_value at v)) (λ k. refl) refl
    expr_settles (yield_pair at i v) = silent (Eval (yield_pair at i v)) (λ k. refl) refl

    pieces_settle : (ps : Pieces Note) → Settles (EvalPieces ps)
    pieces_settle no_piece = silent (EvalPieces no_piece) (λ k. refl) refl
    pieces_settle (bytes ps t) = unfolds (EvalPieces (bytes ps t)) (λ k. refl) refl (pieces_settle ps, (does (push (scalar.Str t)), tt))
    pieces_settle (value ps e) = unfolds (EvalPieces (value ps e)) (λ k. refl) refl (pieces_settle ps, (expr_settles e, (does (Operator ToText), tt)))

  echo_settles : (is : Items Note) → Settles (EchoItems is)
  echo_settles none = silent (EchoItems none) (λ k. refl) refl
  echo_settles (and is lead e) = unfolds (EchoItems (and is lead e)) (λ k. refl) refl (echo_settles is, (expr_settles e, (does (Output Echo), tt)))
  echo_settles (skip is) = passes (EchoItems (skip is)) (EchoItems is) (λ k. refl) refl (echo_settles is)

  mutual
    statement_settles : (d : ℕ) (s : Statement Note) → Settles (Run d s)
    statement_settles d (block at ss) = passes (Run d (block at ss)) (Runs d ss) (λ k. refl) refl (statements_settle d ss)
    statement_settles d (blank at) = silent (Run d (blank at)) (λ k. refl) refl
    statement_settles d (inline at t) = unfolds (Run d (inline at t)) (λ k. refl) refl (does (tick at), (does (Output (Write t)), tt))
    statement_settles d (expression at e) = unfolds (Run d (expression at e)) (λ k. refl) refl (does (tick at), (expr_settles e, (does (Stack Drop), tt)))
    statement_settles d (echo at is) =
        unfolds (Run d (echo at is)) (λ k. refl) (ap (λ c. instr.Do (tick at) ∷ c) (sym (append-nil (task_code ns (EchoItems is))))) (does (tick at), (echo_settles is, tt))
    statement_settles d (globals at xs) = silent (Run d (globals at xs)) (λ k. refl) refl
    statement_settles d (statics at xs) = silent (Run d (statics at xs)) (λ k. refl) refl
    statement_settles d (unset at is) = silent (Run d (unset at is)) (λ k. refl) refl
    statement_settles d (constants at xs) = silent (Run d (constants at xs)) (λ k. refl) refl
    statement_settles d (jump at j e) = silent (Run d (jump at j e)) (λ k. refl) refl
    statement_settles d (throw at e) = silent (Run d (throw at e)) (λ k. refl) refl
    statement_settles d (if_only at e s is) = silent (Run d (if_only at e s is)) (λ k. refl) refl
    statement_settles d (if_else at e s is t) = silent (Run d (if_else at e s is t)) (λ k. refl) refl
    statement_settles d (if_lists at e s is) = silent (Run d (if_lists at e s is)) (λ k. refl) refl
    statement_settles d (if_else_lists at e s is t) = silent (Run d (if_else_lists at e s is t)) (λ k. refl) refl
    statement_settles d (while at e b) = silent (Run d (while at e b)) (λ k. refl) refl
    statement_settles d (do_while at s e) = silent (Run d (do_while at s e)) (λ k. refl) refl
    statement_settles d (for at a b c body) = silent (Run d (for at a b c body)) (λ k. refl) refl
    statement_settles d (foreach at e x v body) = silent (Run d (foreach at e x v body)) (λ k. refl) refl
    statement_settles d (switch at e form cs) = silent (Run d (switch at e form cs)) (λ k. refl) refl
    statement_settles d (try_catch at ss cs) = silent (Run d (try_catch at ss cs)) (λ k. refl) refl
    statement_settles d (try_finally at ss cs last) = silent (Run d (try_finally at ss cs last)) (λ k. refl) refl
    statement_settles d (declares at n v) = silent (Run d (declares at n v)) (λ k. refl) refl

    statements_settle : (d : ℕ) (ss : Statements Note) → Settles (Runs d ss)
    statements_settle d no_statement = silent (Runs d no_statement) (λ k. refl) refl
    statements_settle d (and_statement ss s) =
        opens (Runs d (and_statement ss s)) (Runs d ss ∷ Run d s ∷ []) (λ k. refl)
        (ap (λ c. task_code ns (Runs d ss) ++ c) (sym (append-nil (task_code ns (Run d s)))))
        (statements_settle d ss, (statement_settles d s, tt))

  item_same : (i : Item Note) → item_code ns i ≡ tasks_code ns (item_tasks i)
  item_same (of_statement s) = sym (append-nil (task_code ns (Run 0 s)))
  item_same (of_function x) = refl
  item_same (of_class x) = refl
  item_same (of_interface x) = refl
  item_same (of_trait x) = refl

  item_settles : (i : Item Note) → AllSettle (item_tasks i)
  item_settles (of_statement s) = (statement_settles 0 s, tt)
  item_settles (of_function x) = tt
  item_settles (of_class x) = tt
  item_settles (of_interface x) = tt
  item_settles (of_trait x) = tt

  items_settle : (is : Script Note) → Settles (RunItems is)
  items_settle empty = silent (RunItems empty) (λ k. refl) refl
  items_settle (then_also is i) =
      opens (RunItems (then_also is i)) (RunItems is ∷ item_tasks i) (λ k. refl) (ap (λ c. task_code ns (RunItems is) ++ c) (item_same i))
      (items_settle is, item_settles i)

  settles : (t : Task) → Settles t
  settles (Do a) = does a
  settles (Eval e) = expr_settles e
  settles (Keys e) = keys_settle e
  settles (EvalPieces ps) = pieces_settle ps
  settles (EchoItems is) = echo_settles is
  settles (Run d s) = statement_settles d s
  settles (Runs d ss) = statements_settle d ss
  settles (RunItems is) = items_settle is

  goes : (k : List Task) → Goes k
  goes [] = ends
  goes (t ∷ k) = settles t k (goes k)

  pub meets_at : (k : List Task) (p : ℕ) (rs : List HandlerRange) → Reach ns functions f k p rs → Settled k p
  meets_at k p rs v = reached k (goes k) p rs v
