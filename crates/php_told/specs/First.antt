-- The first token of the first form of a script that isn't told, or that there is none.
--
-- A form begins with its first token. Nothing inside of one that isn't told begins before it, so what is inside isn't looked at; the
-- parts of one that is told are gone over as they stand in the text. That no token is the first of such a form says that all forms are
-- told (`IsScriptTold` of php_runnable): the laws of this crate.
use Rattle.std.specs.Prelude.{Bool, true, false, ◌&&◌, cond, is_some, List, [], ◌∷◌, Option, Some, None}
use Rattle.std.specs.Option.{option_or}
use Rattle.php_value.specs.Decimal.{fits_int}
use Rattle.php_ast.specs.declared.operator.Binary.{Binary}
use Rattle.php_ast.specs.declared.operator.Prefix.{Prefix}
use Rattle.php_ast.specs.declared.operator.Prefix.TheVariants as prefix_form
use Rattle.php_ast.specs.expression.Tree.{Leaf, variable, int, string, name, magic, Enclosure, parentheses, Setting}
use Rattle.php_ast.specs.expression.Tree.{Tree, leaf, template, enclosed, prefix, binary, assign}
use Rattle.php_ast.specs.expression.Tree.{Items, none, and, skip, Pieces, no_piece, bytes, value}
use Rattle.php_ast.specs.statement.Tree.{empty, then_also, Statement, block, blank, inline, expression, echo, globals, statics, unset, constants, jump, throw, if_only, if_else, if_lists, if_else_lists, while, do_while, for, foreach, switch, try_catch, try_finally, declares, Statements, no_statement, and_statement}
use Rattle.php_ast.specs.declaration.Tree.{ClassWord, Item, of_statement, of_function, of_class, of_interface, of_trait, Script}
use Rattle.php_ast.specs.expression.View.{Note}
use Rattle.php_legality.specs.Lists.{elements}
use Rattle.php_legality.specs.Places.{first_note}
use Rattle.php_memdef.specs.Deciders.{is_short, is_scalar_within}
use Rattle.php_meaning.specs.Forms.{magic_value, binary_action, prefix_action, is_plain, variable_name}

-- ---- which forms are told, whatever their parts are

-- a value that is written out is within its limits
abbrev pub is_told_leaf : Note → Leaf → Bool
is_told_leaf at (variable n) = true
is_told_leaf at (int n) = fits_int n
is_told_leaf at (string t) = is_short t
is_told_leaf at (name n) = true
is_told_leaf at (magic m) = is_scalar_within (magic_value at m)

-- so is the text between the parts of a text
abbrev pub are_short : Pieces Note → Bool
are_short no_piece = true
are_short (bytes ps t) = are_short ps && is_short t
are_short (value ps e) = are_short ps

abbrev pub is_told_enclosure : Enclosure → Bool
is_told_enclosure parentheses = true
is_told_enclosure _ = false

-- `@` does nothing
abbrev pub is_told_prefix : Prefix → Bool
is_told_prefix prefix_form.Silence = true
is_told_prefix op = is_some (prefix_action op)

abbrev pub is_told_operator : Binary → Bool
is_told_operator op = is_some (binary_action op)

-- of a value to a variable
abbrev pub is_told_assignment : Setting → Tree Note → Bool
is_told_assignment s p = is_plain s && is_some (variable_name p)

-- ---- the first token of the first form that isn't

abbrev mutual
  pub first_in : Tree Note → Option Note
  first_in (leaf at l) = cond (is_told_leaf at l) None (Some at)
  first_in (template at ps) = cond (are_short ps) (first_in_pieces ps) (Some at)
  first_in (enclosed at by e) = cond (is_told_enclosure by) (first_in e) (Some at)
  first_in (prefix at op e) = cond (is_told_prefix op) (first_in e) (Some at)
  first_in (binary op l r) = cond (is_told_operator op) (option_or (first_in l) (first_in r)) (Some (first_note l))
  first_in (assign s p e) = cond (is_told_assignment s p) (first_in e) (Some (first_note p))
  first_in e = Some (first_note e)

  pub first_in_pieces : Pieces Note → Option Note
  first_in_pieces no_piece = None
  first_in_pieces (bytes ps t) = first_in_pieces ps
  first_in_pieces (value ps e) = option_or (first_in_pieces ps) (first_in e)

-- what stands before a value is no form of its own
abbrev pub first_in_items : Items Note → Option Note
first_in_items none = None
first_in_items (and is lead e) = option_or (first_in_items is) (first_in e)
first_in_items (skip is) = first_in_items is

abbrev mutual
  pub first_in_statement : Statement Note → Option Note
  first_in_statement (block at ss) = first_in_statements ss
  first_in_statement (blank at) = None
  first_in_statement (inline at t) = None
  first_in_statement (expression at e) = first_in e
  first_in_statement (echo at is) = first_in_items is
  first_in_statement (globals at names) = Some at
  first_in_statement (statics at variables) = Some at
  first_in_statement (unset at es) = Some at
  first_in_statement (constants at items) = Some at
  first_in_statement (jump at way e) = Some at
  first_in_statement (throw at e) = Some at
  first_in_statement (if_only at test body parts) = Some at
  first_in_statement (if_else at test body parts last) = Some at
  first_in_statement (if_lists at test body parts) = Some at
  first_in_statement (if_else_lists at test body parts last) = Some at
  first_in_statement (while at test body) = Some at
  first_in_statement (do_while at body test) = Some at
  first_in_statement (for at starts tests steps body) = Some at
  first_in_statement (foreach at walked key target body) = Some at
  first_in_statement (switch at e form cases) = Some at
  first_in_statement (try_catch at body catches) = Some at
  first_in_statement (try_finally at body catches last) = Some at
  first_in_statement (declares at word number) = Some at

  pub first_in_statements : Statements Note → Option Note
  first_in_statements no_statement = None
  first_in_statements (and_statement ss s) = option_or (first_in_statements ss) (first_in_statement s)

-- a class begins with the first word before `class`
abbrev pub first_word : Note → List (ClassWord Note) → Note
first_word at [] = at
first_word at (word ∷ words) = word.note

abbrev pub first_in_item : Item Note → Option Note
first_in_item (of_statement s) = first_in_statement s
first_in_item (of_function f) = Some f.note
first_in_item (of_class c) = Some (first_word c.note (elements c.modifiers))
first_in_item (of_interface i) = Some i.note
first_in_item (of_trait t) = Some t.note

abbrev pub first_not_told : Script Note → Option Note
first_not_told empty = None
first_not_told (then_also is i) = option_or (first_not_told is) (first_in_item i)
