-- Which forms of the whole language run today, and the first token of one that doesn't.
--
-- Text outside the tags runs, and `;`, an assignment of a sum to a variable, and `echo` of sums and texts. A sum is made of
-- integers and variables by `+`, `-`, `*` and parentheses.
use Rattle.std.specs.Prelude.{ℕ, Bool, true, false, ◌&&◌, not, cond, Option, Some, None, List, [], ◌∷◌, codes}
use Rattle.std.specs.Str.{bytes_eq}
use Rattle.php_ast.specs.declared.operator.Binary.{Binary}
use Rattle.php_ast.specs.declared.operator.Binary.TheVariants as operator
use Rattle.php_ast.specs.declared.operator.Assign.TheVariants as setting
use Rattle.php_ast.specs.expression.Tree.{Tree, leaf, variable, int, string, enclosed, parentheses, binary, assign, by_value, Items, none, and, skip, plain}
use Rattle.php_ast.specs.statement.Tree.{Statement, block, blank, inline, expression, echo, globals, statics, unset, constants, jump, throw, if_only, if_else, if_lists, if_else_lists, while, do_while, for, foreach, switch, try_catch, try_finally, declares}
use Rattle.php_ast.specs.declaration.Tree.{ClassWord, Class, Item, of_statement, of_function, of_class, of_interface, of_trait, Script}
use Rattle.php_legality.specs.Lists.{elements}
use Rattle.php_legality.specs.Places.{first_note}

-- ---- what runs

-- The names that no variable may have yet: `$argv`, `$argc` and `$this` have a meaning of their own.
abbrev pub is_allowed : List ℕ → Bool
is_allowed name = not (bytes_eq name (codes "argv")) && not (bytes_eq name (codes "argc")) && not (bytes_eq name (codes "this"))

abbrev pub is_of_sums : Binary → Bool
is_of_sums operator.Plus = true
is_of_sums operator.Minus = true
is_of_sums operator.Times = true
is_of_sums _ = false

-- ---- the first token of the first form that doesn't run, or that there is none

abbrev pub or_else : {A : Type 0} → Option A → Option A → Option A
or_else None second = second
or_else (Some x) second = Some x

abbrev pub unless : {A : Type 0} → Bool → A → Option A
unless true x = None
unless false x = Some x

-- in a sum
abbrev pub left_in_sum : {S : Type 0} → Tree S → Option S
left_in_sum (leaf at (variable name)) = unless (is_allowed name) at
left_in_sum (leaf at (int n)) = None
left_in_sum (enclosed at parentheses e) = left_in_sum e
left_in_sum (binary op l r) = cond (is_of_sums op) (or_else (left_in_sum l) (left_in_sum r)) (Some (first_note l))
left_in_sum e = Some (first_note e)

-- in a part of an `echo`
abbrev pub left_in_part : {S : Type 0} → Tree S → Option S
left_in_part (leaf at (string text)) = None
left_in_part e = left_in_sum e

abbrev pub left_in_parts : {S : Type 0} → Items S → Option S
left_in_parts none = None
left_in_parts (and before plain e) = or_else (left_in_parts before) (left_in_part e)
left_in_parts (and before lead e) = or_else (left_in_parts before) (Some (first_note e))
left_in_parts (skip before) = left_in_parts before

-- in what is assigned by a statement that begins here
abbrev pub left_in_target : {S : Type 0} → S → Tree S → Option S
left_in_target at (leaf here (variable name)) = unless (is_allowed name) here
left_in_target at e = Some at

-- in an expression that is a statement
abbrev pub left_in_assignment : {S : Type 0} → S → Tree S → Option S
left_in_assignment at (assign (by_value setting.Plain) l r) = or_else (left_in_target at l) (left_in_sum r)
left_in_assignment at e = Some at

abbrev pub left_in_statement : {S : Type 0} → Statement S → Option S
left_in_statement (blank at) = None
left_in_statement (inline at text) = None
left_in_statement (expression at e) = left_in_assignment at e
left_in_statement (echo at parts) = left_in_parts parts
left_in_statement (block at ss) = Some at
left_in_statement (globals at names) = Some at
left_in_statement (statics at variables) = Some at
left_in_statement (unset at es) = Some at
left_in_statement (constants at items) = Some at
left_in_statement (jump at way e) = Some at
left_in_statement (throw at e) = Some at
left_in_statement (if_only at test body parts) = Some at
left_in_statement (if_else at test body parts last) = Some at
left_in_statement (if_lists at test body parts) = Some at
left_in_statement (if_else_lists at test body parts last) = Some at
left_in_statement (while at test body) = Some at
left_in_statement (do_while at body test) = Some at
left_in_statement (for at starts tests steps body) = Some at
left_in_statement (foreach at walked key value body) = Some at
left_in_statement (switch at e form cases) = Some at
left_in_statement (try_catch at body catches) = Some at
left_in_statement (try_finally at body catches last) = Some at
left_in_statement (declares at name value) = Some at

-- a class begins with the first word before `class`
abbrev pub first_word : {S : Type 0} → S → List (ClassWord S) → S
first_word at [] = at
first_word at (word ∷ words) = word.note

abbrev pub left_in_item : {S : Type 0} → Item S → Option S
left_in_item (of_statement s) = left_in_statement s
left_in_item (of_function f) = Some f.note
left_in_item (of_class c) = Some (first_word c.note (elements c.modifiers))
left_in_item (of_interface i) = Some i.note
left_in_item (of_trait t) = Some t.note

abbrev pub left_in_items : {S : Type 0} → List (Item S) → Option S
left_in_items [] = None
left_in_items (item ∷ items) = or_else (left_in_item item) (left_in_items items)

abbrev pub first_left_out : {S : Type 0} → Script S → Option S
first_left_out script = left_in_items (elements script)
