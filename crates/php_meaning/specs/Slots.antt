-- Which number a variable of a function has: the script's own part has `argv` as 0 and `argc` as 1, and then
-- its names as they first occur.
use Rattle.std.specs.Prelude.{ℕ, zero, nat_eq, Bool, cond, List, [], ◌∷◌, ◌++◌, Option, Some, None, if◌then◌else◌, codes}
use Rattle.std.specs.List.{list_any, position}
use Rattle.std.specs.Cmp.Lexicographic.{pointwise}
use Rattle.php_ast.specs.expression.Tree.{Leaf, variable, int, string, name, magic}
use Rattle.php_ast.specs.expression.Tree.{Tree, leaf, template, enclosed, listed, exit, exit_empty, static_member, append, index, selected, computed, call, new, new_with, prefix, count, binary, instance_of, instance_of_static, choice, short_choice, assign, yield_nothing, yield_value, yield_pair}
use Rattle.php_ast.specs.expression.Tree.{Items, none, and, skip, Pieces, no_piece, bytes, value}
use Rattle.php_ast.specs.statement.Tree.{empty, then_also, Statement, block, expression, echo, Statements, no_statement, and_statement}
use Rattle.php_ast.specs.declaration.Tree.{Item, of_statement, Script}
use Rattle.php_ast.specs.expression.View.{Note}

-- names of variables, each once
abbrev pub Names : Type 0
Names = List (List ℕ)

-- the number of a place, if there is one
abbrev pub number_of : Option ℕ → ℕ
number_of None = zero
number_of (Some n) = n

-- the place of a name among the others, from 0
abbrev pub slot_in : Names → List ℕ → ℕ
slot_in ns n = number_of (position (pointwise nat_eq n) ns)

abbrev pub with_name : Names → List ℕ → Names
with_name ns n = if list_any (pointwise nat_eq n) ns then ns else ns ++ n ∷ []

abbrev pub is_this : List ℕ → Bool
is_this n = pointwise nat_eq n (codes "this")

-- `$this` is no variable
abbrev pub with_variable : Names → List ℕ → Names
with_variable ns n = cond (is_this n) ns (with_name ns n)

abbrev pub names_of_leaf : Names → Leaf → Names
names_of_leaf ns (variable n) = with_variable ns n
names_of_leaf ns (int n) = ns
names_of_leaf ns (string t) = ns
names_of_leaf ns (name n) = ns
names_of_leaf ns (magic m) = ns

abbrev mutual
  -- names so far, and then those of an expression; forms whose tasks aren't told yet have none
  pub names_of : Names → Tree Note → Names
  names_of ns (leaf at l) = names_of_leaf ns l
  names_of ns (template at ps) = names_of_pieces ns ps
  names_of ns (enclosed at by e) = names_of ns e
  names_of ns (append e) = names_of ns e
  names_of ns (index e k) = names_of ns e
  names_of ns (selected e by m) = names_of ns e
  names_of ns (computed e n) = names_of ns e
  names_of ns (call e is) = names_of ns e
  names_of ns (prefix at op e) = names_of ns e
  names_of ns (binary op l r) = names_of (names_of ns l) r
  names_of ns (choice c a b) = names_of ns c
  names_of ns (short_choice a b) = names_of ns a
  names_of ns (assign s p e) = names_of (names_of ns p) e
  names_of ns (listed at form is) = ns
  names_of ns (exit at) = ns
  names_of ns (exit_empty at) = ns
  names_of ns (static_member at m) = ns
  names_of ns (new at c) = ns
  names_of ns (new_with at c is) = ns
  names_of ns (count e c) = ns
  names_of ns (instance_of l r) = ns
  names_of ns (instance_of_static l at) = ns
  names_of ns (yield_nothing at) = ns
  names_of ns (yield_value at v) = ns
  names_of ns (yield_pair at k v) = ns

  pub names_of_pieces : Names → Pieces Note → Names
  names_of_pieces ns no_piece = ns
  names_of_pieces ns (bytes ps t) = names_of_pieces ns ps
  names_of_pieces ns (value ps e) = names_of (names_of_pieces ns ps) e

abbrev pub names_of_items : Names → Items Note → Names
names_of_items ns none = ns
names_of_items ns (and is lead e) = names_of (names_of_items ns is) e
names_of_items ns (skip is) = names_of_items ns is

abbrev mutual
  pub names_of_statement : Names → Statement Note → Names
  names_of_statement ns (block at ss) = names_of_statements ns ss
  names_of_statement ns (expression at e) = names_of ns e
  names_of_statement ns (echo at is) = names_of_items ns is
  names_of_statement ns _ = ns

  pub names_of_statements : Names → Statements Note → Names
  names_of_statements ns no_statement = ns
  names_of_statements ns (and_statement ss s) = names_of_statement (names_of_statements ns ss) s

abbrev pub names_of_item : Names → Item Note → Names
names_of_item ns (of_statement s) = names_of_statement ns s
names_of_item ns _ = ns

abbrev pub names_of_script : Names → Script Note → Names
names_of_script ns empty = ns
names_of_script ns (then_also is i) = names_of_item (names_of_script ns is) i

-- the variables that each script has
abbrev pub first_names : Names
first_names = codes "argv" ∷ codes "argc" ∷ []

abbrev pub script_names : Script Note → Names
script_names script = names_of_script first_names script
