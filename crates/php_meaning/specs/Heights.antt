-- How many temporaries stand at most. Each function takes how many stand before, and the greatest number so
-- far.
use Rattle.std.specs.Prelude.{ℕ, zero, ◌+◌, max, Option, Some, None}
use Rattle.php_ast.specs.expression.Tree.{Enclosure, parentheses, emptiness, exiting}
use Rattle.php_ast.specs.expression.Tree.{Tree, leaf, template, enclosed, listed, exit, exit_empty, static_member, append, index, selected, computed, call, new, new_with, prefix, count, binary, instance_of, instance_of_static, choice, short_choice, assign, yield_nothing, yield_value, yield_pair}
use Rattle.php_ast.specs.expression.Tree.{Items, none, and, skip, Pieces, no_piece, bytes, value}
use Rattle.php_ast.specs.statement.Tree.{empty, then_also, Statement, block, expression, echo, Statements, no_statement, and_statement}
use Rattle.php_ast.specs.declaration.Tree.{Item, of_statement, Script}
use Rattle.php_ast.specs.expression.View.{Note}
use Rattle.php_actions.specs.declared.action.Action.{Action}
use Rattle.php_actions.specs.declared.place_form.PlaceForm.{PlaceForm}
use Rattle.php_meaning.specs.Slots.{Names}
use Rattle.php_meaning.specs.Forms.{binary_action, assigned_form}

-- how many pieces a template has
abbrev pub piece_count : Pieces Note → ℕ
piece_count no_piece = zero
piece_count (bytes ps t) = piece_count ps + 1
piece_count (value ps e) = piece_count ps + 1

-- two operands stand, and two more at most while they are computed with
abbrev pub peak_of_two : Option Action → ℕ → ℕ → ℕ → ℕ
peak_of_two None n left right = left
peak_of_two (Some a) n left right = max right (n + 4)

-- a copy of the value stands before it is assigned
abbrev pub peak_of_assigned : Option PlaceForm → ℕ → ℕ → ℕ → ℕ
peak_of_assigned None n m right = m
peak_of_assigned (Some form) n m right = max right (n + 2)

abbrev pub peak_of_enclosed : Enclosure → ℕ → ℕ → ℕ
peak_of_enclosed parentheses m inner = inner
peak_of_enclosed emptiness m inner = m
peak_of_enclosed exiting m inner = m

module _ (ns : Names) where
  abbrev mutual
    pub peak_of : ℕ → ℕ → Tree Note → ℕ
    peak_of n m (leaf at l) = max m (n + 1)
    peak_of n m (template at ps) = max (peak_of_pieces n m ps) (n + 1)
    peak_of n m (enclosed at by e) = peak_of_enclosed by m (peak_of n m e)
    peak_of n m (append e) = peak_of n m e
    peak_of n m (index e k) = peak_of n m e
    peak_of n m (selected e by name) = peak_of n m e
    peak_of n m (computed e name) = peak_of n m e
    peak_of n m (call e is) = peak_of n m e
    peak_of n m (prefix at op e) = peak_of n m e
    peak_of n m (binary op l r) = peak_of_two (binary_action op) n (peak_of n m l) (peak_of (n + 1) (peak_of n m l) r)
    peak_of n m (choice c a b) = peak_of n m c
    peak_of n m (short_choice a b) = peak_of n m a
    peak_of n m (assign s p e) = peak_of_assigned (assigned_form ns s p) n m (peak_of n m e)
    peak_of n m (listed at form is) = m
    peak_of n m (exit at) = m
    peak_of n m (exit_empty at) = m
    peak_of n m (static_member at name) = m
    peak_of n m (new at c) = m
    peak_of n m (new_with at c is) = m
    peak_of n m (count e c) = m
    peak_of n m (instance_of l r) = m
    peak_of n m (instance_of_static l at) = m
    peak_of n m (yield_nothing at) = m
    peak_of n m (yield_value at v) = m
    peak_of n m (yield_pair at k v) = m

    pub peak_of_pieces : ℕ → ℕ → Pieces Note → ℕ
    peak_of_pieces n m no_piece = m
    peak_of_pieces n m (bytes ps t) = max (peak_of_pieces n m ps) (n + piece_count ps + 1)
    peak_of_pieces n m (value ps e) = peak_of (n + piece_count ps) (peak_of_pieces n m ps) e

  abbrev pub peak_of_items : ℕ → ℕ → Items Note → ℕ
  peak_of_items n m none = m
  peak_of_items n m (and is lead e) = peak_of n (peak_of_items n m is) e
  peak_of_items n m (skip is) = peak_of_items n m is

  abbrev mutual
    pub peak_of_statement : ℕ → ℕ → Statement Note → ℕ
    peak_of_statement n m (block at ss) = peak_of_statements n m ss
    peak_of_statement n m (expression at e) = peak_of n m e
    peak_of_statement n m (echo at is) = peak_of_items n m is
    peak_of_statement n m _ = m

    pub peak_of_statements : ℕ → ℕ → Statements Note → ℕ
    peak_of_statements n m no_statement = m
    peak_of_statements n m (and_statement ss s) = peak_of_statement n (peak_of_statements n m ss) s

  abbrev pub peak_of_item : ℕ → Item Note → ℕ
  peak_of_item m (of_statement s) = peak_of_statement 0 m s
  peak_of_item m _ = m

  abbrev pub peak_of_script : ℕ → Script Note → ℕ
  peak_of_script m empty = m
  peak_of_script m (then_also is i) = peak_of_item (peak_of_script m is) i
