-- The tokens of a script that are names or variables, from left to right.
use Rattle.std.specs.Prelude.{ℕ, Bool, true, false, ◌&&◌, ◌||◌, not, Option, List, [], ◌∷◌, ◌++◌, flat_map, bytes_eq}
use Rattle.php_ast.specs.expression.Tree.{Tree, leaf, template, enclosed, listed, exit, exit_empty, static_member, append, index, selected, computed, call, new, new_with, prefix, count, binary, instance_of, instance_of_static, choice, short_choice, assign, yield_nothing, yield_value, yield_pair}
use Rattle.php_ast.specs.expression.Tree.{Leaf, Items, none, and, skip, Lead, plain, reference, spread, keyed, keyed_reference, Pieces, no_piece, bytes, value, Class, class_name, class_static, class_found, Steps, from, step_property, step_index}
use Rattle.php_ast.specs.expression.Tree as tree
use Rattle.php_ast.specs.statement.Tree.{Sequence, Name, Variable, Constant, Target, Statement, block, blank, inline, expression, echo, globals, statics, unset, constants, jump, throw, if_only, if_else, if_lists, if_else_lists, while, do_while, for, foreach, switch, try_catch, try_finally, declares}
use Rattle.php_ast.specs.statement.Tree.{Statements, no_statement, and_statement, ElseIfs, no_elseif, and_elseif, ElseIfLists, no_elseif_list, and_elseif_list, Body, single, list_behind_colon, Cases, no_case, and_case, Catches, no_catch, and_catch}
use Rattle.php_ast.specs.declaration.Tree.{Base, of_name, of_array, of_callable, Type_of, Param, Signature, Method, Rule, renames, prefers, Member, uses, uses_by, class_constants, method, properties, Item, of_statement, of_function, of_class, of_interface, of_trait}
use Rattle.php_legality.specs.Lists.{elements, where_some}

pub record NameToken (S : Type 0) : Type 0 where
  pub note : S
  pub is_variable : Bool
  pub text : List ℕ

-- A name and a variable of one text are two.
abbrev pub is_same_token : {S : Type 0} → NameToken S → NameToken S → Bool
is_same_token a b = (a.is_variable && b.is_variable || not a.is_variable && not b.is_variable) && bytes_eq a.text b.text

abbrev a_name : {S : Type 0} → S → List ℕ → List (NameToken S)
a_name at text = record { note = at; is_variable = false; text = text } ∷ []

abbrev a_variable : {S : Type 0} → S → List ℕ → List (NameToken S)
a_variable at text = record { note = at; is_variable = true; text = text } ∷ []

abbrev named : {S : Type 0} → Name S → List (NameToken S)
named n = a_name n.note n.text

abbrev dollar : {S : Type 0} → Name S → List (NameToken S)
dollar n = a_variable n.note n.text

-- a name that is spelled as a keyword is none
abbrev pub in_member : {S : Type 0} → tree.Member S → List (NameToken S)
in_member (tree.named at text) = a_name at text
in_member (tree.reserved at word) = []
in_member (tree.held at text) = a_variable at text

-- ---- expressions

abbrev in_leaf : {S : Type 0} → S → Leaf → List (NameToken S)
in_leaf at (tree.variable text) = a_variable at text
in_leaf at (tree.name text) = a_name at text
in_leaf at _ = []

abbrev mutual
  pub in_tree : {S : Type 0} → Tree S → List (NameToken S)
  in_tree (leaf at l) = in_leaf at l
  in_tree (template at pieces) = in_pieces pieces
  in_tree (enclosed at enclosure e) = in_tree e
  in_tree (listed at listing items) = in_items items
  in_tree (exit at) = []
  in_tree (exit_empty at) = []
  in_tree (static_member at member) = in_member member
  in_tree (append e) = in_tree e
  in_tree (index e key) = in_tree e ++ in_tree key
  in_tree (selected e arrow member) = in_tree e ++ in_member member
  in_tree (computed e key) = in_tree e ++ in_tree key
  in_tree (call f items) = in_tree f ++ in_items items
  in_tree (new at class) = in_class class
  in_tree (new_with at class items) = in_class class ++ in_items items
  in_tree (prefix at op e) = in_tree e
  in_tree (count e way) = in_tree e
  in_tree (binary op l r) = in_tree l ++ in_tree r
  in_tree (instance_of l r) = in_tree l ++ in_tree r
  in_tree (instance_of_static l at) = in_tree l
  in_tree (choice c a b) = in_tree c ++ in_tree a ++ in_tree b
  in_tree (short_choice c b) = in_tree c ++ in_tree b
  in_tree (assign setting l r) = in_tree l ++ in_tree r
  in_tree (yield_nothing at) = []
  in_tree (yield_value at v) = in_tree v
  in_tree (yield_pair at k v) = in_tree k ++ in_tree v

  pub in_items : {S : Type 0} → Items S → List (NameToken S)
  in_items none = []
  in_items (and items lead e) = in_items items ++ in_lead lead ++ in_tree e
  in_items (skip items) = in_items items

  in_lead : {S : Type 0} → Lead S → List (NameToken S)
  in_lead plain = []
  in_lead reference = []
  in_lead spread = []
  in_lead (keyed k) = in_tree k
  in_lead (keyed_reference k) = in_tree k

  in_pieces : {S : Type 0} → Pieces S → List (NameToken S)
  in_pieces no_piece = []
  in_pieces (bytes pieces text) = in_pieces pieces
  in_pieces (value pieces e) = in_pieces pieces ++ in_tree e

  in_class : {S : Type 0} → Class S → List (NameToken S)
  in_class (class_name at text) = a_name at text
  in_class (class_static at) = []
  in_class (class_found steps) = in_steps steps

  in_steps : {S : Type 0} → Steps S → List (NameToken S)
  in_steps (from at text) = a_variable at text
  in_steps (step_property steps member) = in_steps steps ++ in_member member
  in_steps (step_index steps e) = in_steps steps ++ in_tree e

abbrev in_optional : {S : Type 0} → Option (Tree S) → List (NameToken S)
in_optional e = where_some in_tree e

-- ---- statements

abbrev pub in_variable : {S : Type 0} → Variable S → List (NameToken S)
in_variable x = dollar x.name ++ in_optional x.value

abbrev in_constant : {S : Type 0} → Constant S → List (NameToken S)
in_constant x = named x.name ++ in_tree x.value

abbrev in_target : {S : Type 0} → Target S → List (NameToken S)
in_target t = in_tree t.place

abbrev mutual
  pub in_statement : {S : Type 0} → Statement S → List (NameToken S)
  in_statement (block at body) = in_statements body
  in_statement (blank at) = []
  in_statement (inline at text) = []
  in_statement (expression at e) = in_tree e
  in_statement (echo at es) = in_items es
  in_statement (globals at names) = flat_map dollar (elements names)
  in_statement (statics at variables) = flat_map in_variable (elements variables)
  in_statement (unset at es) = in_items es
  in_statement (constants at items) = flat_map in_constant (elements items)
  in_statement (jump at kind e) = in_optional e
  in_statement (throw at e) = in_tree e
  in_statement (if_only at test body parts) = in_tree test ++ in_statement body ++ in_elseifs parts
  in_statement (if_else at test body parts last) = in_tree test ++ in_statement body ++ in_elseifs parts ++ in_statement last
  in_statement (if_lists at test body parts) = in_tree test ++ in_statements body ++ in_elseif_lists parts
  in_statement (if_else_lists at test body parts last) =
      in_tree test ++ in_statements body ++ in_elseif_lists parts ++ in_statements last
  in_statement (while at test body) = in_tree test ++ in_body body
  in_statement (do_while at body test) = in_statement body ++ in_tree test
  in_statement (for at starts tests steps body) = in_items starts ++ in_items tests ++ in_items steps ++ in_body body
  in_statement (foreach at walked key e body) = in_tree walked ++ where_some in_target key ++ in_target e ++ in_body body
  in_statement (switch at e form cases) = in_tree e ++ in_cases cases
  in_statement (try_catch at body catches) = in_statements body ++ in_catches catches
  in_statement (try_finally at body catches last) = in_statements body ++ in_catches catches ++ in_statements last
  in_statement (declares at name n) = named name

  pub in_statements : {S : Type 0} → Statements S → List (NameToken S)
  in_statements no_statement = []
  in_statements (and_statement body s) = in_statements body ++ in_statement s

  in_elseifs : {S : Type 0} → ElseIfs S → List (NameToken S)
  in_elseifs no_elseif = []
  in_elseifs (and_elseif parts test body) = in_elseifs parts ++ in_tree test ++ in_statement body

  in_elseif_lists : {S : Type 0} → ElseIfLists S → List (NameToken S)
  in_elseif_lists no_elseif_list = []
  in_elseif_lists (and_elseif_list parts test body) = in_elseif_lists parts ++ in_tree test ++ in_statements body

  in_body : {S : Type 0} → Body S → List (NameToken S)
  in_body (single s) = in_statement s
  in_body (list_behind_colon body) = in_statements body

  in_cases : {S : Type 0} → Cases S → List (NameToken S)
  in_cases no_case = []
  in_cases (and_case cases at label end body) = in_cases cases ++ in_optional label ++ in_statements body

  in_catches : {S : Type 0} → Catches S → List (NameToken S)
  in_catches no_catch = []
  in_catches (and_catch catches classes variable body) =
      in_catches catches ++ flat_map named (elements classes) ++ dollar variable ++ in_statements body

-- ---- declarations

abbrev in_base : {S : Type 0} → Base S → List (NameToken S)
in_base (of_name n) = named n
in_base of_array = []
in_base of_callable = []

abbrev in_type : {S : Type 0} → Type_of S → List (NameToken S)
in_type t = in_base t.base

abbrev pub in_param : {S : Type 0} → Param S → List (NameToken S)
in_param p = where_some in_type p.declared ++ dollar p.name ++ in_optional p.default

abbrev pub in_signature : {S : Type 0} → Signature S → List (NameToken S)
in_signature s = flat_map in_param (elements s.params) ++ where_some in_type s.result

abbrev in_rule : {S : Type 0} → Rule S → List (NameToken S)
in_rule (renames at origin name seen alias) = where_some named origin ++ in_member name ++ where_some in_member alias
in_rule (prefers at origin name others) = named origin ++ in_member name ++ flat_map named (elements others)

abbrev pub in_method : {S : Type 0} → Method S → List (NameToken S)
in_method m = in_member m.name ++ in_signature m.signature ++ where_some in_statements m.body

abbrev pub in_class_member : {S : Type 0} → Member S → List (NameToken S)
in_class_member (uses at names) = flat_map named (elements names)
in_class_member (uses_by at names rules) = flat_map named (elements names) ++ flat_map in_rule (elements rules)
in_class_member (class_constants modifiers items) = flat_map (λ c. in_member c.name ++ in_tree c.value) (elements items)
in_class_member (method m) = in_method m
in_class_member (properties modifiers variables) = flat_map in_variable (elements variables)

abbrev in_members : {S : Type 0} → Sequence (Member S) → List (NameToken S)
in_members members = flat_map in_class_member (elements members)

abbrev pub in_item : {S : Type 0} → Item S → List (NameToken S)
in_item (of_statement s) = in_statement s
in_item (of_function g) = named g.name ++ in_signature g.signature ++ in_statements g.body
in_item (of_class c) = named c.name ++ where_some named c.parent ++ flat_map named (elements c.interfaces) ++ in_members c.members
in_item (of_interface i) = named i.name ++ flat_map named (elements i.parents) ++ in_members i.members
in_item (of_trait t) = named t.name ++ in_members t.members

-- those of a script
abbrev pub name_tokens : {S : Type 0} → List (Item S) → List (NameToken S)
name_tokens items = flat_map in_item items
