-- The tally of a walk, form by form, is that of the names of the script from left to right.
use Rattle.std.proofs.Common.{◌≡◌, ℕ, Bool, true, false, cond, Option, Some, None, List, [], ◌∷◌, ◌++◌, flat_map, refl, sym, ◌∙◌, ap}
use Rattle.php_ast.specs.declared.statement.SwitchForm.{SwitchForm}
use Rattle.php_ast.specs.declared.statement.SwitchForm.TheVariants as form
use Rattle.php_ast.specs.expression.Tree.{Tree, leaf, template, enclosed, listed, exit, exit_empty, static_member, append, index, selected, computed, call, new, new_with, prefix, count, binary, instance_of, instance_of_static, choice, short_choice, assign, yield_nothing, yield_value, yield_pair}
use Rattle.php_ast.specs.expression.Tree.{Leaf, Items, none, and, skip, Lead, plain, reference, spread, keyed, keyed_reference, Pieces, no_piece, bytes, value, Class, class_name, class_static, class_found, Steps, from, step_property, step_index}
use Rattle.php_ast.specs.expression.Tree as tree
use Rattle.php_ast.specs.expression.View.{Note}
use Rattle.php_ast.specs.statement.Tree.{Sequence, empty, then_also, Name, Variable, Constant, Target, Statement, block, blank, inline, expression, echo, globals, statics, unset, constants, jump, throw, if_only, if_else, if_lists, if_else_lists, while, do_while, for, foreach, switch, try_catch, try_finally, declares}
use Rattle.php_ast.specs.statement.Tree.{Statements, no_statement, and_statement, ElseIfs, no_elseif, and_elseif, ElseIfLists, no_elseif_list, and_elseif_list, Body, single, list_behind_colon, Cases, no_case, and_case, Catches, no_catch, and_catch}
use Rattle.php_ast.specs.declaration.Tree.{Base, of_name, of_array, of_callable, Type_of, Param, Signature, ClassConstant, Method, Rule, renames, prefers, Member, uses, uses_by, class_constants, method, properties, Function, Interface, Trait, Item, of_statement, of_function, of_class, of_interface, of_trait}
use Rattle.php_ast.specs.declaration.Tree as declared
use Rattle.php_legality.specs.Lists.{elements, where_some}
use Rattle.php_legality.specs.NameTokens.{NameToken, in_member, in_tree, in_items, in_statement, in_statements, in_variable, in_param, in_signature, in_method, in_class_member, in_item, name_tokens}
use Rattle.php_legality.proofs.HasLemmas.{flat_map_joined}
use Rattle.php_many_names.specs.Tally.{Tally, with_name, with_variable}
use Rattle.php_many_names.specs.Met.{over, if_some, met_name, met_dollar, met_member, met_leaf, met_tree, met_items, met_pieces, met_class, met_steps, met_variable, met_constant, met_target, met_statement, met_list, met_elseifs, met_elseif_lists, met_body, met_cases, met_catches, met_type, met_param, met_signature, met_rule, met_method, met_class_constant, met_class_member, met_members, met_function, met_class_declaration, met_interface, met_trait, met_script_item}

-- ---- one token after the other

abbrev pub meet : Tally → NameToken Note → Tally
meet tally x = cond x.is_variable (with_variable tally x.note x.text) (with_name tally x.note x.text)

abbrev pub meet_all : Tally → List (NameToken Note) → Tally
meet_all tally [] = tally
meet_all tally (x ∷ xs) = meet_all (meet tally x) xs

joined : (tally : Tally) (xs ys : List (NameToken Note)) → meet_all tally (xs ++ ys) ≡ meet_all (meet_all tally xs) ys
joined tally [] ys = refl
joined tally (x ∷ xs) ys = joined (meet tally x) xs ys

-- one part behind another one
behind : (tally one two : Tally) (xs ys : List (NameToken Note)) → one ≡ meet_all tally xs → two ≡ meet_all one ys → two ≡ meet_all tally (xs ++ ys)
behind tally one two xs ys first second = second ∙ ap (λ m. meet_all m ys) first ∙ sym (joined tally xs ys)

nothing_behind : {A : Type 0} (xs : List A) → xs ++ [] ≡ xs
nothing_behind [] = refl
nothing_behind (x ∷ xs) = ap (λ ys. x ∷ ys) (nothing_behind xs)

pub over_met : {A : Type 0} (each : Tally → A → Tally) (f : A → List (NameToken Note)) → ((tally : Tally) (x : A) → each tally x ≡ meet_all tally (f x))
    → (tally : Tally) (xs : Sequence A) → over each tally xs ≡ meet_all tally (flat_map f (elements xs))
over_met each f one tally empty = refl
over_met each f one tally (then_also xs x) =
    behind tally (over each tally xs) (each (over each tally xs) x) (flat_map f (elements xs)) (f x ++ []) (over_met each f one tally xs)
    (one (over each tally xs) x ∙ ap (meet_all (over each tally xs)) (sym (nothing_behind (f x))))
    ∙ ap (meet_all tally) (sym (flat_map_joined f (elements xs) (x ∷ [])))

some_met : {A : Type 0} (each : Tally → A → Tally) (f : A → List (NameToken Note)) → ((tally : Tally) (x : A) → each tally x ≡ meet_all tally (f x))
    → (tally : Tally) (x : Option A) → if_some each tally x ≡ meet_all tally (where_some f x)
some_met each f one tally None = refl
some_met each f one tally (Some x) = one tally x

-- ---- tokens of parts

nowhere : Note
nowhere = record { place = 0; line = 0; text = [] }

abbrev name_token : Name Note → List (NameToken Note)
name_token n = record { note = n.note; is_variable = false; text = n.text } ∷ []

abbrev dollar_token : Name Note → List (NameToken Note)
dollar_token n = record { note = n.note; is_variable = true; text = n.text } ∷ []

abbrev in_pieces : Pieces Note → List (NameToken Note)
in_pieces ps = in_tree (template nowhere ps)

abbrev in_class : Class Note → List (NameToken Note)
in_class c = in_tree (new nowhere c)

abbrev in_steps : Steps Note → List (NameToken Note)
in_steps s = in_tree (new nowhere (class_found s))

abbrev in_elseifs : ElseIfs Note → List (NameToken Note)
in_elseifs parts = in_statement (if_only nowhere (exit nowhere) (blank nowhere) parts)

abbrev in_elseif_lists : ElseIfLists Note → List (NameToken Note)
in_elseif_lists parts = in_statement (if_lists nowhere (exit nowhere) no_statement parts)

abbrev in_body : Body Note → List (NameToken Note)
in_body body = in_statement (while nowhere (exit nowhere) body)

abbrev in_cases : Cases Note → List (NameToken Note)
in_cases cases = in_statement (switch nowhere (exit nowhere) form.Braces cases)

abbrev in_catches : Catches Note → List (NameToken Note)
in_catches catches = in_statement (try_catch nowhere no_statement catches)

abbrev in_constant : Constant Note → List (NameToken Note)
in_constant x = name_token x.name ++ in_tree x.value

abbrev in_target : Target Note → List (NameToken Note)
in_target t = in_tree t.place

abbrev in_type : Type_of Note → List (NameToken Note)
in_type t = in_signature (record { params = empty; result = Some t })

abbrev in_rule : Rule Note → List (NameToken Note)
in_rule (renames at origin name seen alias) = where_some name_token origin ++ in_member name ++ where_some in_member alias
in_rule (prefers at origin name others) = name_token origin ++ in_member name ++ flat_map name_token (elements others)

abbrev in_class_constant : ClassConstant Note → List (NameToken Note)
in_class_constant c = in_member c.name ++ in_tree c.value

abbrev in_members : Sequence (Member Note) → List (NameToken Note)
in_members members = flat_map in_class_member (elements members)

-- ---- expressions

member_met : (tally : Tally) (m : tree.Member Note) → met_member tally m ≡ meet_all tally (in_member m)
member_met tally (tree.named at text) = refl
member_met tally (tree.reserved at word) = refl
member_met tally (tree.held at text) = refl

leaf_met : (tally : Tally) (at : Note) (l : Leaf) → met_leaf tally at l ≡ meet_all tally (in_tree (leaf at l))
leaf_met tally at (tree.variable text) = refl
leaf_met tally at (tree.int n) = refl
leaf_met tally at (tree.string text) = refl
leaf_met tally at (tree.name text) = refl
leaf_met tally at (tree.magic m) = refl

mutual
  tree_met : (tally : Tally) (e : Tree Note) → met_tree tally e ≡ meet_all tally (in_tree e)
  tree_met tally (leaf at l) = leaf_met tally at l
  tree_met tally (template at pieces) = pieces_met tally pieces
  tree_met tally (enclosed at enclosure e) = tree_met tally e
  tree_met tally (listed at listing items) = items_met tally items
  tree_met tally (exit at) = refl
  tree_met tally (exit_empty at) = refl
  tree_met tally (static_member at member) = member_met tally member
  tree_met tally (append e) = tree_met tally e
  tree_met tally (index e key) = behind tally _ _ (in_tree e) (in_tree key) (tree_met tally e) (tree_met _ key)
  tree_met tally (selected e arrow member) = behind tally _ _ (in_tree e) (in_member member) (tree_met tally e) (member_met _ member)
  tree_met tally (computed e key) = behind tally _ _ (in_tree e) (in_tree key) (tree_met tally e) (tree_met _ key)
  tree_met tally (call f items) = behind tally _ _ (in_tree f) (in_items items) (tree_met tally f) (items_met _ items)
  tree_met tally (new at class) = class_met tally class
  tree_met tally (new_with at class items) = behind tally _ _ (in_class class) (in_items items) (class_met tally class) (items_met _ items)
  tree_met tally (prefix at op e) = tree_met tally e
  tree_met tally (count e way) = tree_met tally e
  tree_met tally (binary op l r) = behind tally _ _ (in_tree l) (in_tree r) (tree_met tally l) (tree_met _ r)
  tree_met tally (instance_of l r) = behind tally _ _ (in_tree l) (in_tree r) (tree_met tally l) (tree_met _ r)
  tree_met tally (instance_of_static l at) = tree_met tally l
  tree_met tally (choice c a b) =
      behind tally _ _ (in_tree c ++ in_tree a) (in_tree b) (behind tally _ _ (in_tree c) (in_tree a) (tree_met tally c) (tree_met _ a)) (tree_met _ b)
  tree_met tally (short_choice c b) = behind tally _ _ (in_tree c) (in_tree b) (tree_met tally c) (tree_met _ b)
  tree_met tally (assign setting l r) = behind tally _ _ (in_tree l) (in_tree r) (tree_met tally l) (tree_met _ r)
  tree_met tally (yield_nothing at) = refl
  tree_met tally (yield_value at v) = tree_met tally v
  tree_met tally (yield_pair at k v) = behind tally _ _ (in_tree k) (in_tree v) (tree_met tally k) (tree_met _ v)

  items_met : (tally : Tally) (items : Items Note) → met_items tally items ≡ meet_all tally (in_items items)
  items_met tally none = refl
  items_met tally (and items plain e) =
      behind tally _ _ (in_items items ++ []) (in_tree e) (behind tally _ _ (in_items items) [] (items_met tally items) refl) (tree_met _ e)
  items_met tally (and items reference e) =
      behind tally _ _ (in_items items ++ []) (in_tree e) (behind tally _ _ (in_items items) [] (items_met tally items) refl) (tree_met _ e)
  items_met tally (and items spread e) =
      behind tally _ _ (in_items items ++ []) (in_tree e) (behind tally _ _ (in_items items) [] (items_met tally items) refl) (tree_met _ e)
  items_met tally (and items (keyed k) e) =
      behind tally _ _ (in_items items ++ in_tree k) (in_tree e) (behind tally _ _ (in_items items) (in_tree k) (items_met tally items) (tree_met _ k)) (tree_met _ e)
  items_met tally (and items (keyed_reference k) e) =
      behind tally _ _ (in_items items ++ in_tree k) (in_tree e) (behind tally _ _ (in_items items) (in_tree k) (items_met tally items) (tree_met _ k)) (tree_met _ e)
  items_met tally (skip items) = items_met tally items

  pieces_met : (tally : Tally) (pieces : Pieces Note) → met_pieces tally pieces ≡ meet_all tally (in_pieces pieces)
  pieces_met tally no_piece = refl
  pieces_met tally (bytes pieces text) = pieces_met tally pieces
  pieces_met tally (value pieces e) = behind tally _ _ (in_pieces pieces) (in_tree e) (pieces_met tally pieces) (tree_met _ e)

  class_met : (tally : Tally) (class : Class Note) → met_class tally class ≡ meet_all tally (in_class class)
  class_met tally (class_name at text) = refl
  class_met tally (class_static at) = refl
  class_met tally (class_found steps) = steps_met tally steps

  steps_met : (tally : Tally) (steps : Steps Note) → met_steps tally steps ≡ meet_all tally (in_steps steps)
  steps_met tally (from at text) = refl
  steps_met tally (step_property steps member) = behind tally _ _ (in_steps steps) (in_member member) (steps_met tally steps) (member_met _ member)
  steps_met tally (step_index steps e) = behind tally _ _ (in_steps steps) (in_tree e) (steps_met tally steps) (tree_met _ e)

optional_met : (tally : Tally) (e : Option (Tree Note)) → if_some met_tree tally e ≡ meet_all tally (where_some in_tree e)
optional_met tally e = some_met met_tree in_tree tree_met tally e

-- ---- statements

variable_met : (tally : Tally) (x : Variable Note) → met_variable tally x ≡ meet_all tally (in_variable x)
variable_met tally x = behind tally _ _ (dollar_token x.name) (where_some in_tree x.value) refl (optional_met (met_dollar tally x.name) x.value)

constant_met : (tally : Tally) (x : Constant Note) → met_constant tally x ≡ meet_all tally (in_constant x)
constant_met tally x = behind tally _ _ (name_token x.name) (in_tree x.value) refl (tree_met (met_name tally x.name) x.value)

target_met : (tally : Tally) (t : Target Note) → met_target tally t ≡ meet_all tally (in_target t)
target_met tally t = tree_met tally t.place

names_met : (tally : Tally) (names : Sequence (Name Note)) → over met_name tally names ≡ meet_all tally (flat_map name_token (elements names))
names_met tally names = over_met met_name name_token (λ m n. refl) tally names

mutual
  statement_met : (tally : Tally) (s : Statement Note) → met_statement tally s ≡ meet_all tally (in_statement s)
  statement_met tally (block at body) = list_met tally body
  statement_met tally (blank at) = refl
  statement_met tally (inline at text) = refl
  statement_met tally (expression at e) = tree_met tally e
  statement_met tally (echo at es) = items_met tally es
  statement_met tally (globals at names) = over_met met_dollar dollar_token (λ m n. refl) tally names
  statement_met tally (statics at variables) = over_met met_variable in_variable variable_met tally variables
  statement_met tally (unset at es) = items_met tally es
  statement_met tally (constants at items) = over_met met_constant in_constant constant_met tally items
  statement_met tally (jump at kind e) = optional_met tally e
  statement_met tally (throw at e) = tree_met tally e
  statement_met tally (if_only at test body parts) =
      behind tally _ _ (in_tree test ++ in_statement body) (in_elseifs parts)
      (behind tally _ _ (in_tree test) (in_statement body) (tree_met tally test) (statement_met _ body)) (elseifs_met _ parts)
  statement_met tally (if_else at test body parts last) =
      behind tally _ _ (in_tree test ++ in_statement body ++ in_elseifs parts) (in_statement last)
      (behind tally _ _ (in_tree test ++ in_statement body) (in_elseifs parts)
      (behind tally _ _ (in_tree test) (in_statement body) (tree_met tally test) (statement_met _ body)) (elseifs_met _ parts)) (statement_met _ last)
  statement_met tally (if_lists at test body parts) =
      behind tally _ _ (in_tree test ++ in_statements body) (in_elseif_lists parts)
      (behind tally _ _ (in_tree test) (in_statements body) (tree_met tally test) (list_met _ body)) (elseif_lists_met _ parts)
  statement_met tally (if_else_lists at test body parts last) =
      behind tally _ _ (in_tree test ++ in_statements body ++ in_elseif_lists parts) (in_statements last)
      (behind tally _ _ (in_tree test ++ in_statements body) (in_elseif_lists parts)
      (behind tally _ _ (in_tree test) (in_statements body) (tree_met tally test) (list_met _ body)) (elseif_lists_met _ parts)) (list_met _ last)
  statement_met tally (while at test body) = behind tally _ _ (in_tree test) (in_body body) (tree_met tally test) (body_met _ body)
  statement_met tally (do_while at body test) = behind tally _ _ (in_statement body) (in_tree test) (statement_met tally body) (tree_met _ test)
  statement_met tally (for at starts tests steps body) =
      behind tally _ _ (in_items starts ++ in_items tests ++ in_items steps) (in_body body)
      (behind tally _ _ (in_items starts ++ in_items tests) (in_items steps)
      (behind tally _ _ (in_items starts) (in_items tests) (items_met tally starts) (items_met _ tests)) (items_met _ steps)) (body_met _ body)
  statement_met tally (foreach at walked key e body) =
      behind tally _ _ (in_tree walked ++ where_some in_target key ++ in_target e) (in_body body)
      (behind tally _ _ (in_tree walked ++ where_some in_target key) (in_target e)
      (behind tally _ _ (in_tree walked) (where_some in_target key) (tree_met tally walked) (some_met met_target in_target target_met _ key)) (target_met _ e)) (body_met _ body)
  statement_met tally (switch at e form_of cases) = behind tally _ _ (in_tree e) (in_cases cases) (tree_met tally e) (cases_met _ cases)
  statement_met tally (try_catch at body catches) = behind tally _ _ (in_statements body) (in_catches catches) (list_met tally body) (catches_met _ catches)
  statement_met tally (try_finally at body catches last) =
      behind tally _ _ (in_statements body ++ in_catches catches) (in_statements last)
      (behind tally _ _ (in_statements body) (in_catches catches) (list_met tally body) (catches_met _ catches)) (list_met _ last)
  statement_met tally (declares at name n) = refl

  list_met : (tally : Tally) (ss : Statements Note) → met_list tally ss ≡ meet_all tally (in_statements ss)
  list_met tally no_statement = refl
  list_met tally (and_statement ss s) = behind tally _ _ (in_statements ss) (in_statement s) (list_met tally ss) (statement_met _ s)

  elseifs_met : (tally : Tally) (parts : ElseIfs Note) → met_elseifs tally parts ≡ meet_all tally (in_elseifs parts)
  elseifs_met tally no_elseif = refl
  elseifs_met tally (and_elseif parts test body) =
      behind tally _ _ (in_elseifs parts ++ in_tree test) (in_statement body)
      (behind tally _ _ (in_elseifs parts) (in_tree test) (elseifs_met tally parts) (tree_met _ test)) (statement_met _ body)

  elseif_lists_met : (tally : Tally) (parts : ElseIfLists Note) → met_elseif_lists tally parts ≡ meet_all tally (in_elseif_lists parts)
  elseif_lists_met tally no_elseif_list = refl
  elseif_lists_met tally (and_elseif_list parts test body) =
      behind tally _ _ (in_elseif_lists parts ++ in_tree test) (in_statements body)
      (behind tally _ _ (in_elseif_lists parts) (in_tree test) (elseif_lists_met tally parts) (tree_met _ test)) (list_met _ body)

  body_met : (tally : Tally) (body : Body Note) → met_body tally body ≡ meet_all tally (in_body body)
  body_met tally (single s) = statement_met tally s
  body_met tally (list_behind_colon body) = list_met tally body

  cases_met : (tally : Tally) (cases : Cases Note) → met_cases tally cases ≡ meet_all tally (in_cases cases)
  cases_met tally no_case = refl
  cases_met tally (and_case cases at label end body) =
      behind tally _ _ (in_cases cases ++ where_some in_tree label) (in_statements body)
      (behind tally _ _ (in_cases cases) (where_some in_tree label) (cases_met tally cases) (optional_met _ label)) (list_met _ body)

  catches_met : (tally : Tally) (catches : Catches Note) → met_catches tally catches ≡ meet_all tally (in_catches catches)
  catches_met tally no_catch = refl
  catches_met tally (and_catch catches classes variable body) =
      behind tally _ _ (in_catches catches ++ flat_map name_token (elements classes) ++ dollar_token variable) (in_statements body)
      (behind tally _ (met_dollar (over met_name (met_catches tally catches) classes) variable) (in_catches catches ++ flat_map name_token (elements classes)) (dollar_token variable)
      (behind tally _ _ (in_catches catches) (flat_map name_token (elements classes)) (catches_met tally catches) (names_met _ classes)) refl) (list_met _ body)

-- ---- declarations

type_met : (tally : Tally) (t : Type_of Note) → met_type tally t ≡ meet_all tally (in_type t)
type_met tally t = base_met tally t.is_nullable t.base
  where
    base_met : (tally : Tally) (nullable : Bool) (b : Base Note) → met_type tally (record { is_nullable = nullable; base = b }) ≡ meet_all tally (in_type (record { is_nullable = nullable; base = b }))
    base_met tally nullable (of_name n) = refl
    base_met tally nullable of_array = refl
    base_met tally nullable of_callable = refl

param_met : (tally : Tally) (p : Param Note) → met_param tally p ≡ meet_all tally (in_param p)
param_met tally p =
    behind tally _ _ (where_some in_type p.declared ++ dollar_token p.name) (where_some in_tree p.default)
    (behind tally _ (met_dollar (if_some met_type tally p.declared) p.name) (where_some in_type p.declared) (dollar_token p.name) (some_met met_type in_type type_met tally p.declared) refl)
    (optional_met _ p.default)

signature_met : (tally : Tally) (s : Signature Note) → met_signature tally s ≡ meet_all tally (in_signature s)
signature_met tally s =
    behind tally _ _ (flat_map in_param (elements s.params)) (where_some in_type s.result) (over_met met_param in_param param_met tally s.params) (some_met met_type in_type type_met _ s.result)

name_met : (tally : Tally) (n : Name Note) → met_name tally n ≡ meet_all tally (name_token n)
name_met tally n = refl

rule_met : (tally : Tally) (r : Rule Note) → met_rule tally r ≡ meet_all tally (in_rule r)
rule_met tally (renames at origin name seen alias) =
    behind tally _ _ (where_some name_token origin ++ in_member name) (where_some in_member alias)
    (behind tally _ _ (where_some name_token origin) (in_member name) (some_met met_name name_token name_met tally origin) (member_met _ name))
    (some_met met_member in_member member_met _ alias)
rule_met tally (prefers at origin name others) =
    behind tally _ _ (name_token origin ++ in_member name) (flat_map name_token (elements others))
    (behind tally _ _ (name_token origin) (in_member name) (name_met tally origin) (member_met _ name)) (names_met _ others)

method_met : (tally : Tally) (m : Method Note) → met_method tally m ≡ meet_all tally (in_method m)
method_met tally m =
    behind tally _ _ (in_member m.name ++ in_signature m.signature) (where_some in_statements m.body)
    (behind tally _ _ (in_member m.name) (in_signature m.signature) (member_met tally m.name) (signature_met _ m.signature))
    (some_met met_list in_statements list_met _ m.body)

class_constant_met : (tally : Tally) (c : ClassConstant Note) → met_class_constant tally c ≡ meet_all tally (in_class_constant c)
class_constant_met tally c = behind tally _ _ (in_member c.name) (in_tree c.value) (member_met tally c.name) (tree_met _ c.value)

class_member_met : (tally : Tally) (m : Member Note) → met_class_member tally m ≡ meet_all tally (in_class_member m)
class_member_met tally (uses at names) = names_met tally names
class_member_met tally (uses_by at names rules) =
    behind tally _ _ (flat_map name_token (elements names)) (flat_map in_rule (elements rules)) (names_met tally names) (over_met met_rule in_rule rule_met _ rules)
class_member_met tally (class_constants modifiers items) = over_met met_class_constant in_class_constant class_constant_met tally items
class_member_met tally (method m) = method_met tally m
class_member_met tally (properties modifiers variables) = over_met met_variable in_variable variable_met tally variables

members_met : (tally : Tally) (members : Sequence (Member Note)) → met_members tally members ≡ meet_all tally (in_members members)
members_met tally members = over_met met_class_member in_class_member class_member_met tally members

item_met : (tally : Tally) (item : Item Note) → met_script_item tally item ≡ meet_all tally (in_item item)
item_met tally (of_statement s) = statement_met tally s
item_met tally (of_function g) =
    behind tally _ _ (name_token g.name ++ in_signature g.signature) (in_statements g.body)
    (behind tally _ _ (name_token g.name) (in_signature g.signature) (name_met tally g.name) (signature_met _ g.signature)) (list_met _ g.body)
item_met tally (of_class c) =
    behind tally _ _ (name_token c.name ++ where_some name_token c.parent ++ flat_map name_token (elements c.interfaces)) (in_members c.members)
    (behind tally _ _ (name_token c.name ++ where_some name_token c.parent) (flat_map name_token (elements c.interfaces))
    (behind tally _ _ (name_token c.name) (where_some name_token c.parent) (name_met tally c.name) (some_met met_name name_token name_met _ c.parent)) (names_met _ c.interfaces)) (members_met _ c.members)
item_met tally (of_interface i) =
    behind tally _ _ (name_token i.name ++ flat_map name_token (elements i.parents)) (in_members i.members)
    (behind tally _ _ (name_token i.name) (flat_map name_token (elements i.parents)) (name_met tally i.name) (names_met _ i.parents)) (members_met _ i.members)
item_met tally (of_trait i) = behind tally _ _ (name_token i.name) (in_members i.members) (name_met tally i.name) (members_met _ i.members)

-- a whole script
pub script_met : (tally : Tally) (items : Sequence (Item Note)) → over met_script_item tally items ≡ meet_all tally (name_tokens (elements items))
script_met tally items = over_met met_script_item in_item item_met tally items
