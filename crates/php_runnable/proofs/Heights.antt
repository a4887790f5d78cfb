-- The greatest number of temporaries so far is no less afterwards, and a form adds its own number alone.
use Rattle.std.proofs.Common.{◌≡◌, ℕ, ◌+◌, Option, Some, None, arith}
use Rattle.std.specs.Prelude.{max}
use Rattle.php_ast.specs.expression.Tree.{Enclosure, parentheses, emptiness, exiting}
use Rattle.php_ast.specs.expression.Tree.{Tree, leaf, template, enclosed, listed, exit, exit_empty, static_member, append, index, selected, computed, call, new, new_with, prefix, count, binary, instance_of, instance_of_static, choice, short_choice, assign, yield_nothing, yield_value, yield_pair}
use Rattle.php_ast.specs.expression.Tree.{Items, none, and, skip, Pieces, no_piece, bytes, value}
use Rattle.php_ast.specs.statement.Tree.{Statement, block, expression, echo, Statements, no_statement, and_statement}
use Rattle.php_ast.specs.declaration.Tree.{Item, of_statement}
use Rattle.php_ast.specs.expression.View.{Note}
use Rattle.php_actions.specs.declared.action.Action.{Action}
use Rattle.php_actions.specs.declared.place_form.PlaceForm.{PlaceForm}
use Rattle.php_meaning.specs.Slots.{Names}
use Rattle.php_meaning.specs.Forms.{binary_action, assigned_form}
use Rattle.php_meaning.specs.Heights.{piece_count, peak_of_two, peak_of_assigned, peak_of_enclosed, peak_of, peak_of_pieces, peak_of_items, peak_of_statement, peak_of_statements, peak_of_item}

two-max : (o : Option Action) (n m a b c d x : ℕ) → a ≡ max m b → c ≡ max a x → d ≡ max b x → peak_of_two o n a c ≡ max m (peak_of_two o n b d)
two-max None n m a b c d x h i j = h
two-max (Some y) n m a b c d x h i j = omega (arith, h, i, j)

assigned-max : (o : Option PlaceForm) (n m a b : ℕ) → a ≡ max m b → peak_of_assigned o n m a ≡ max m (peak_of_assigned o n 0 b)
assigned-max None n m a b h = omega arith
assigned-max (Some form) n m a b h = omega (arith, h)

enclosed-max : (by : Enclosure) (m a b : ℕ) → a ≡ max m b → peak_of_enclosed by m a ≡ max m (peak_of_enclosed by 0 b)
enclosed-max parentheses m a b h = h
enclosed-max emptiness m a b h = omega arith
enclosed-max exiting m a b h = omega arith

module _ (ns : Names) where
  mutual
    pub peak-max : (n m : ℕ) (e : Tree Note) → peak_of ns n m e ≡ max m (peak_of ns n 0 e)
    peak-max n m (leaf at l) = omega arith
    peak-max n m (template at ps) = omega (arith, pieces-max n m ps)
    peak-max n m (enclosed at by e) = enclosed-max by m (peak_of ns n m e) (peak_of ns n 0 e) (peak-max n m e)
    peak-max n m (append e) = peak-max n m e
    peak-max n m (index e k) = peak-max n m e
    peak-max n m (selected e by name) = peak-max n m e
    peak-max n m (computed e name) = peak-max n m e
    peak-max n m (call e is) = peak-max n m e
    peak-max n m (prefix at op e) = peak-max n m e
    peak-max n m (binary op l r) =
        two-max (binary_action op) n m (peak_of ns n m l) (peak_of ns n 0 l) (peak_of ns (n + 1) (peak_of ns n m l) r) (peak_of ns (n + 1) (peak_of ns n 0 l) r) (peak_of ns (n + 1) 0 r)
        (peak-max n m l) (peak-max (n + 1) (peak_of ns n m l) r) (peak-max (n + 1) (peak_of ns n 0 l) r)
    peak-max n m (choice c a b) = peak-max n m c
    peak-max n m (short_choice a b) = peak-max n m a
    peak-max n m (assign s p e) = assigned-max (assigned_form ns s p) n m (peak_of ns n m e) (peak_of ns n 0 e) (peak-max n m e)
    peak-max n m (listed at form is) = omega arith
    peak-max n m (exit at) = omega arith
    peak-max n m (exit_empty at) = omega arith
    peak-max n m (static_member at name) = omega arith
    peak-max n m (new at c) = omega arith
    peak-max n m (new_with at c is) = omega arith
    peak-max n m (count e c) = omega arith
    peak-max n m (instance_of l r) = omega arith
    peak-max n m (instance_of_static l at) = omega arith
    peak-max n m (yield_nothing at) = omega arith
    peak-max n m (yield_value at v) = omega arith
    peak-max n m (yield_pair at k v) = omega arith

    pub pieces-max : (n m : ℕ) (ps : Pieces Note) → peak_of_pieces ns n m ps ≡ max m (peak_of_pieces ns n 0 ps)
    pieces-max n m no_piece = omega arith
    pieces-max n m (bytes ps t) = omega (arith, pieces-max n m ps)
    pieces-max n m (value ps e) =
        omega (arith, pieces-max n m ps, peak-max (n + piece_count ps) (peak_of_pieces ns n m ps) e, peak-max (n + piece_count ps) (peak_of_pieces ns n 0 ps) e)

  pub items-max : (n m : ℕ) (is : Items Note) → peak_of_items ns n m is ≡ max m (peak_of_items ns n 0 is)
  items-max n m none = omega arith
  items-max n m (and is lead e) = omega (arith, items-max n m is, peak-max n (peak_of_items ns n m is) e, peak-max n (peak_of_items ns n 0 is) e)
  items-max n m (skip is) = items-max n m is

  mutual
    pub statement-max : (n m : ℕ) (s : Statement Note) → peak_of_statement ns n m s ≡ max m (peak_of_statement ns n 0 s)
    statement-max n m (block at ss) = statements-max n m ss
    statement-max n m (expression at e) = peak-max n m e
    statement-max n m (echo at is) = items-max n m is
    statement-max n m _ = omega arith

    pub statements-max : (n m : ℕ) (ss : Statements Note) → peak_of_statements ns n m ss ≡ max m (peak_of_statements ns n 0 ss)
    statements-max n m no_statement = omega arith
    statements-max n m (and_statement ss s) =
        omega (arith, statements-max n m ss, statement-max n (peak_of_statements ns n m ss) s, statement-max n (peak_of_statements ns n 0 ss) s)

  pub item-max : (m : ℕ) (i : Item Note) → peak_of_item ns m i ≡ max m (peak_of_item ns 0 i)
  item-max m (of_statement s) = statement-max 0 m s
  item-max m _ = omega arith
