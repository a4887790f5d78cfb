-- The tally when a walk has been over a form, behind that before it.
use Rattle.std.specs.Prelude.{Option, Some, None, List, ℕ}
use Rattle.php_ast.specs.declared.expression.Piece.{Piece}
use Rattle.php_ast.specs.declared.expression.Piece.TheVariants as piece
use Rattle.php_ast.specs.declared.expression.Item as rust_item
use Rattle.php_ast.specs.declared.expression.Item.TheVariants as item
use Rattle.php_ast.specs.declared.expression.Argument.{Argument}
use Rattle.php_ast.specs.declared.expression.Argument.TheVariants as argument
use Rattle.php_ast.specs.declared.expression.Suffix.{Suffix}
use Rattle.php_ast.specs.declared.expression.Suffix.TheVariants as suffix
use Rattle.php_ast.specs.declared.expression.Named.{Named}
use Rattle.php_ast.specs.declared.expression.Named.TheVariants as arrow
use Rattle.php_ast.specs.declared.expression.ClassStep.{ClassStep}
use Rattle.php_ast.specs.declared.expression.ClassStep.TheVariants as class_step
use Rattle.php_ast.specs.declared.expression.Link.{Link}
use Rattle.php_ast.specs.declared.expression.Link.TheVariants as link
use Rattle.php_ast.specs.declared.statement.ElseIf.{ElseIf}
use Rattle.php_ast.specs.declared.statement.Case.{Case}
use Rattle.php_ast.specs.declared.statement.Catch.{Catch}
use Rattle.php_ast.specs.expression.Tree.{Tree, leaf, template, enclosed, listed, exit, exit_empty, static_member, append, index, selected, computed, call, new, new_with, prefix, count, binary, instance_of, instance_of_static, choice, short_choice, assign, yield_nothing, yield_value, yield_pair}
use Rattle.php_ast.specs.expression.Tree.{Leaf, Items, none, and, skip, Lead, plain, reference, spread, keyed, keyed_reference, Pieces, no_piece, bytes, value, Class, class_name, class_static, class_found, Steps, from, step_property, step_index}
use Rattle.php_ast.specs.expression.Tree as tree
use Rattle.php_ast.specs.expression.View.{Note, view, word_view, member_view, arguments_from}
use Rattle.php_ast.specs.statement.Tree.{Sequence, empty, then_also, Name, Variable, Constant, Target, Statement, block, blank, inline, expression, echo, globals, statics, unset, constants, jump, throw, if_only, if_else, if_lists, if_else_lists, while, do_while, for, foreach, switch, try_catch, try_finally, declares}
use Rattle.php_ast.specs.statement.Tree.{Statements, no_statement, and_statement, ElseIfs, no_elseif, and_elseif, ElseIfLists, no_elseif_list, and_elseif_list, Body, single, list_behind_colon, Cases, no_case, and_case, Catches, no_catch, and_catch}
use Rattle.php_ast.specs.statement.View.{optional, list_view, name_view, names_view}
use Rattle.php_ast.specs.declaration.Tree.{Base, of_name, of_array, of_callable, Type_of, Param, Signature, ClassConstant, Method, Rule, renames, prefers, Member, uses, uses_by, class_constants, method, properties, Function, Interface, Trait, Item, of_statement, of_function, of_class, of_interface, of_trait}
use Rattle.php_ast.specs.declaration.Tree as declared
use Rattle.php_many_names.specs.Tally.{Tally, with_name, with_variable}

-- elements one after the other
abbrev pub over : {A : Type 0} → (Tally → A → Tally) → Tally → Sequence A → Tally
over each tally empty = tally
over each tally (then_also xs x) = each (over each tally xs) x

-- what may be absent
abbrev pub if_some : {A : Type 0} → (Tally → A → Tally) → Tally → Option A → Tally
if_some each tally None = tally
if_some each tally (Some x) = each tally x

abbrev pub met_name : Tally → Name Note → Tally
met_name tally n = with_name tally n.note n.text

abbrev pub met_dollar : Tally → Name Note → Tally
met_dollar tally n = with_variable tally n.note n.text

abbrev pub met_member : Tally → tree.Member Note → Tally
met_member tally (tree.named at text) = with_name tally at text
met_member tally (tree.reserved at word) = tally
met_member tally (tree.held at text) = with_variable tally at text

-- ---- expressions

abbrev pub met_leaf : Tally → Note → Leaf → Tally
met_leaf tally at (tree.variable text) = with_variable tally at text
met_leaf tally at (tree.name text) = with_name tally at text
met_leaf tally at _ = tally

abbrev mutual
  pub met_tree : Tally → Tree Note → Tally
  met_tree tally (leaf at l) = met_leaf tally at l
  met_tree tally (template at pieces) = met_pieces tally pieces
  met_tree tally (enclosed at enclosure e) = met_tree tally e
  met_tree tally (listed at listing items) = met_items tally items
  met_tree tally (exit at) = tally
  met_tree tally (exit_empty at) = tally
  met_tree tally (static_member at member) = met_member tally member
  met_tree tally (append e) = met_tree tally e
  met_tree tally (index e key) = met_tree (met_tree tally e) key
  met_tree tally (selected e arrow_of member) = met_member (met_tree tally e) member
  met_tree tally (computed e key) = met_tree (met_tree tally e) key
  met_tree tally (call f items) = met_items (met_tree tally f) items
  met_tree tally (new at class) = met_class tally class
  met_tree tally (new_with at class items) = met_items (met_class tally class) items
  met_tree tally (prefix at op e) = met_tree tally e
  met_tree tally (count e way) = met_tree tally e
  met_tree tally (binary op l r) = met_tree (met_tree tally l) r
  met_tree tally (instance_of l r) = met_tree (met_tree tally l) r
  met_tree tally (instance_of_static l at) = met_tree tally l
  met_tree tally (choice c a b) = met_tree (met_tree (met_tree tally c) a) b
  met_tree tally (short_choice c b) = met_tree (met_tree tally c) b
  met_tree tally (assign setting l r) = met_tree (met_tree tally l) r
  met_tree tally (yield_nothing at) = tally
  met_tree tally (yield_value at v) = met_tree tally v
  met_tree tally (yield_pair at k v) = met_tree (met_tree tally k) v

  pub met_items : Tally → Items Note → Tally
  met_items tally none = tally
  met_items tally (and items lead e) = met_tree (met_lead (met_items tally items) lead) e
  met_items tally (skip items) = met_items tally items

  pub met_lead : Tally → Lead Note → Tally
  met_lead tally plain = tally
  met_lead tally reference = tally
  met_lead tally spread = tally
  met_lead tally (keyed k) = met_tree tally k
  met_lead tally (keyed_reference k) = met_tree tally k

  pub met_pieces : Tally → Pieces Note → Tally
  met_pieces tally no_piece = tally
  met_pieces tally (bytes pieces text) = met_pieces tally pieces
  met_pieces tally (value pieces e) = met_tree (met_pieces tally pieces) e

  pub met_class : Tally → Class Note → Tally
  met_class tally (class_name at text) = with_name tally at text
  met_class tally (class_static at) = tally
  met_class tally (class_found steps) = met_steps tally steps

  pub met_steps : Tally → Steps Note → Tally
  met_steps tally (from at text) = with_variable tally at text
  met_steps tally (step_property steps member) = met_member (met_steps tally steps) member
  met_steps tally (step_index steps e) = met_tree (met_steps tally steps) e

-- one element of a list
abbrev pub met_piece : Tally → Piece (Tree Note) → Tally
met_piece tally (piece.Bytes text) = tally
met_piece tally (piece.Part e) = met_tree tally e

abbrev pub met_item : Tally → rust_item.Item (Tree Note) → Tally
met_item tally item.Missing = tally
met_item tally (item.Value e) = met_tree tally e
met_item tally (item.Reference e) = met_tree tally e
met_item tally (item.Keyed k e) = met_tree (met_tree tally k) e
met_item tally (item.KeyedReference k e) = met_tree (met_tree tally k) e

abbrev pub met_argument : Tally → Argument (Tree Note) → Tally
met_argument tally (argument.Value e) = met_tree tally e
met_argument tally (argument.Spread e) = met_tree tally e

abbrev pub met_property : Tally → Named (Tree Note) → Tally
met_property tally (arrow.Word w) = met_member tally (word_view w)
met_property tally (arrow.Variable n) = met_dollar tally (name_view n)
met_property tally (arrow.Computed key) = met_tree tally key

abbrev pub met_suffix : Tally → Suffix (Tree Note) → Tally
met_suffix tally suffix.Append = tally
met_suffix tally (suffix.Index key) = met_tree tally key
met_suffix tally (suffix.Property n) = met_property tally n
met_suffix tally (suffix.Member m) = met_member tally (member_view m)
met_suffix tally (suffix.Call arguments) = met_items tally (arguments_from none arguments)

abbrev pub met_link : Tally → Link (Tree Note) → Tally
met_link tally (link.Operator op r) = met_tree tally r
met_link tally (link.Choice a b) = met_tree (met_tree tally a) b
met_link tally (link.ShortChoice b) = met_tree tally b

abbrev pub met_step : Tally → ClassStep (Tree Note) → Tally
met_step tally (class_step.Property w) = met_member tally (word_view w)
met_step tally (class_step.Index e) = met_tree tally e

-- ---- statements

abbrev pub met_variable : Tally → Variable Note → Tally
met_variable tally x = if_some met_tree (met_dollar tally x.name) x.value

abbrev pub met_constant : Tally → Constant Note → Tally
met_constant tally x = met_tree (met_name tally x.name) x.value

abbrev pub met_target : Tally → Target Note → Tally
met_target tally t = met_tree tally t.place

abbrev mutual
  pub met_statement : Tally → Statement Note → Tally
  met_statement tally (block at body) = met_list tally body
  met_statement tally (blank at) = tally
  met_statement tally (inline at text) = tally
  met_statement tally (expression at e) = met_tree tally e
  met_statement tally (echo at es) = met_items tally es
  met_statement tally (globals at names) = over met_dollar tally names
  met_statement tally (statics at variables) = over met_variable tally variables
  met_statement tally (unset at es) = met_items tally es
  met_statement tally (constants at items) = over met_constant tally items
  met_statement tally (jump at kind e) = if_some met_tree tally e
  met_statement tally (throw at e) = met_tree tally e
  met_statement tally (if_only at test body parts) = met_elseifs (met_statement (met_tree tally test) body) parts
  met_statement tally (if_else at test body parts last) = met_statement (met_elseifs (met_statement (met_tree tally test) body) parts) last
  met_statement tally (if_lists at test body parts) = met_elseif_lists (met_list (met_tree tally test) body) parts
  met_statement tally (if_else_lists at test body parts last) = met_list (met_elseif_lists (met_list (met_tree tally test) body) parts) last
  met_statement tally (while at test body) = met_body (met_tree tally test) body
  met_statement tally (do_while at body test) = met_tree (met_statement tally body) test
  met_statement tally (for at starts tests steps body) = met_body (met_items (met_items (met_items tally starts) tests) steps) body
  met_statement tally (foreach at walked key e body) = met_body (met_target (if_some met_target (met_tree tally walked) key) e) body
  met_statement tally (switch at e form cases) = met_cases (met_tree tally e) cases
  met_statement tally (try_catch at body catches) = met_catches (met_list tally body) catches
  met_statement tally (try_finally at body catches last) = met_list (met_catches (met_list tally body) catches) last
  met_statement tally (declares at name n) = met_name tally name

  pub met_list : Tally → Statements Note → Tally
  met_list tally no_statement = tally
  met_list tally (and_statement body s) = met_statement (met_list tally body) s

  pub met_elseifs : Tally → ElseIfs Note → Tally
  met_elseifs tally no_elseif = tally
  met_elseifs tally (and_elseif parts test body) = met_statement (met_tree (met_elseifs tally parts) test) body

  pub met_elseif_lists : Tally → ElseIfLists Note → Tally
  met_elseif_lists tally no_elseif_list = tally
  met_elseif_lists tally (and_elseif_list parts test body) = met_list (met_tree (met_elseif_lists tally parts) test) body

  pub met_body : Tally → Body Note → Tally
  met_body tally (single s) = met_statement tally s
  met_body tally (list_behind_colon body) = met_list tally body

  pub met_cases : Tally → Cases Note → Tally
  met_cases tally no_case = tally
  met_cases tally (and_case cases at label end body) = met_list (if_some met_tree (met_cases tally cases) label) body

  pub met_catches : Tally → Catches Note → Tally
  met_catches tally no_catch = tally
  met_catches tally (and_catch catches classes variable body) = met_list (met_dollar (over met_name (met_catches tally catches) classes) variable) body

-- one element of a list
abbrev pub met_elseif : Tally → ElseIf (Statement Note) → Tally
met_elseif tally p = met_statement (met_tree tally (view p.test)) p.body

abbrev pub met_elseif_list : Tally → ElseIf (List (Statement Note)) → Tally
met_elseif_list tally p = met_list (met_tree tally (view p.test)) (list_view p.body)

abbrev pub met_case : Tally → Case (Statement Note) → Tally
met_case tally c = met_list (if_some met_tree tally (optional view c.value)) (list_view c.body)

abbrev pub met_catch : Tally → Catch (Statement Note) → Tally
met_catch tally c = met_list (met_dollar (over met_name tally (names_view c.classes)) (name_view c.variable)) (list_view c.body)

-- ---- declarations

abbrev pub met_base : Tally → Base Note → Tally
met_base tally (of_name n) = met_name tally n
met_base tally of_array = tally
met_base tally of_callable = tally

abbrev pub met_type : Tally → Type_of Note → Tally
met_type tally t = met_base tally t.base

abbrev pub met_param : Tally → Param Note → Tally
met_param tally p = if_some met_tree (met_dollar (if_some met_type tally p.declared) p.name) p.default

abbrev pub met_signature : Tally → Signature Note → Tally
met_signature tally s = if_some met_type (over met_param tally s.params) s.result

abbrev pub met_rule : Tally → Rule Note → Tally
met_rule tally (renames at origin name seen alias) = if_some met_member (met_member (if_some met_name tally origin) name) alias
met_rule tally (prefers at origin name others) = over met_name (met_member (met_name tally origin) name) others

abbrev pub met_method : Tally → Method Note → Tally
met_method tally m = if_some met_list (met_signature (met_member tally m.name) m.signature) m.body

abbrev pub met_class_constant : Tally → ClassConstant Note → Tally
met_class_constant tally c = met_tree (met_member tally c.name) c.value

abbrev pub met_class_member : Tally → Member Note → Tally
met_class_member tally (uses at names) = over met_name tally names
met_class_member tally (uses_by at names rules) = over met_rule (over met_name tally names) rules
met_class_member tally (class_constants modifiers items) = over met_class_constant tally items
met_class_member tally (method m) = met_method tally m
met_class_member tally (properties modifiers variables) = over met_variable tally variables

abbrev pub met_members : Tally → Sequence (Member Note) → Tally
met_members tally members = over met_class_member tally members

abbrev pub met_function : Tally → Function Note → Tally
met_function tally g = met_list (met_signature (met_name tally g.name) g.signature) g.body

abbrev pub met_class_declaration : Tally → declared.Class Note → Tally
met_class_declaration tally c = met_members (over met_name (if_some met_name (met_name tally c.name) c.parent) c.interfaces) c.members

abbrev pub met_interface : Tally → Interface Note → Tally
met_interface tally i = met_members (over met_name (met_name tally i.name) i.parents) i.members

abbrev pub met_trait : Tally → Trait Note → Tally
met_trait tally t = met_members (met_name tally t.name) t.members

abbrev pub met_script_item : Tally → Item Note → Tally
met_script_item tally (of_statement s) = met_statement tally s
met_script_item tally (of_function g) = met_function tally g
met_script_item tally (of_class c) = met_class_declaration tally c
met_script_item tally (of_interface i) = met_interface tally i
met_script_item tally (of_trait t) = met_trait tally t
