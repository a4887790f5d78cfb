-- The first form that isn't told, by the places of tokens.
use Rattle.std.specs.Prelude.{◌≡◌, ◌≤◌, cond, List, [], ◌∷◌, ◌++◌, Option, Some, None}
use Rattle.php_ast.specs.expression.Tree.{Tree, leaf, template, enclosed, prefix, binary, assign}
use Rattle.php_ast.specs.expression.Tree.{Items, none, and, skip, Pieces, no_piece, bytes, value}
use Rattle.php_ast.specs.statement.Tree.{empty, then_also, Statement, block, blank, inline, expression, echo, globals, statics, unset, constants, jump, throw, if_only, if_else, if_lists, if_else_lists, while, do_while, for, foreach, switch, try_catch, try_finally, declares, Statements, no_statement, and_statement}
use Rattle.php_ast.specs.declaration.Tree.{Item, of_statement, of_function, of_class, of_interface, of_trait, Script}
use Rattle.php_ast.specs.expression.View.{Note}
use Rattle.php_legality.specs.Lists.{elements, Has}
use Rattle.php_legality.specs.Places.{first_note}
use Rattle.php_told.specs.First.{is_told_leaf, are_short, is_told_enclosure, is_told_prefix, is_told_operator, is_told_assignment, first_word}

-- ---- the first tokens of all forms that aren't told and stand in no other such form

abbrev mutual
  pub starts_in : Tree Note → List Note
  starts_in (leaf at l) = cond (is_told_leaf at l) [] (at ∷ [])
  starts_in (template at ps) = cond (are_short ps) (starts_in_pieces ps) (at ∷ [])
  starts_in (enclosed at by e) = cond (is_told_enclosure by) (starts_in e) (at ∷ [])
  starts_in (prefix at op e) = cond (is_told_prefix op) (starts_in e) (at ∷ [])
  starts_in (binary op l r) = cond (is_told_operator op) (starts_in l ++ starts_in r) (first_note l ∷ [])
  starts_in (assign s p e) = cond (is_told_assignment s p) (starts_in e) (first_note p ∷ [])
  starts_in e = first_note e ∷ []

  pub starts_in_pieces : Pieces Note → List Note
  starts_in_pieces no_piece = []
  starts_in_pieces (bytes ps t) = starts_in_pieces ps
  starts_in_pieces (value ps e) = starts_in_pieces ps ++ starts_in e

abbrev pub starts_in_items : Items Note → List Note
starts_in_items none = []
starts_in_items (and is lead e) = starts_in_items is ++ starts_in e
starts_in_items (skip is) = starts_in_items is

abbrev mutual
  pub starts_in_statement : Statement Note → List Note
  starts_in_statement (block at ss) = starts_in_statements ss
  starts_in_statement (blank at) = []
  starts_in_statement (inline at t) = []
  starts_in_statement (expression at e) = starts_in e
  starts_in_statement (echo at is) = starts_in_items is
  starts_in_statement (globals at names) = at ∷ []
  starts_in_statement (statics at variables) = at ∷ []
  starts_in_statement (unset at es) = at ∷ []
  starts_in_statement (constants at items) = at ∷ []
  starts_in_statement (jump at way e) = at ∷ []
  starts_in_statement (throw at e) = at ∷ []
  starts_in_statement (if_only at test body parts) = at ∷ []
  starts_in_statement (if_else at test body parts last) = at ∷ []
  starts_in_statement (if_lists at test body parts) = at ∷ []
  starts_in_statement (if_else_lists at test body parts last) = at ∷ []
  starts_in_statement (while at test body) = at ∷ []
  starts_in_statement (do_while at body test) = at ∷ []
  starts_in_statement (for at starts tests steps body) = at ∷ []
  starts_in_statement (foreach at walked key target body) = at ∷ []
  starts_in_statement (switch at e form cases) = at ∷ []
  starts_in_statement (try_catch at body catches) = at ∷ []
  starts_in_statement (try_finally at body catches last) = at ∷ []
  starts_in_statement (declares at word number) = at ∷ []

  pub starts_in_statements : Statements Note → List Note
  starts_in_statements no_statement = []
  starts_in_statements (and_statement ss s) = starts_in_statements ss ++ starts_in_statement s

abbrev pub starts_in_item : Item Note → List Note
starts_in_item (of_statement s) = starts_in_statement s
starts_in_item (of_function f) = f.note ∷ []
starts_in_item (of_class c) = first_word c.note (elements c.modifiers) ∷ []
starts_in_item (of_interface i) = i.note ∷ []
starts_in_item (of_trait t) = t.note ∷ []

abbrev pub starts : Script Note → List Note
starts empty = []
starts (then_also is i) = starts is ++ starts_in_item i

-- ---- the least of them

abbrev pub IsLeast : Option Note → List Note → Type 0
IsLeast None ns = ns ≡ []
IsLeast (Some n) ns = Has ns n × ((m : Note) → Has ns m → n.place ≤ m.place)
