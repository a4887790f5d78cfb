-- The kinds of faults, one after the other: of each, the notes of the tokens at which it stands.
use Rattle.std.specs.Prelude.{ℕ, suc, nat_lt, ℤ, pos, negsuc, Bool, true, false, ◌&&◌, ◌||◌, not, cond, Option, Some, None, List, [], ◌∷◌, ◌++◌, map, flat_map, filter, take, drop, codes, bytes_eq}
use Rattle.std.specs.Str.{str_eq_ignore_ascii_case}
use Rattle.php_ast.specs.declared.operator.ArrayForm.TheVariants as form
use Rattle.php_ast.specs.declared.operator.Prefix.TheVariants as prefix_form
use Rattle.php_ast.specs.declared.declaration.ModifierWord.{ModifierWord}
use Rattle.php_ast.specs.declared.declaration.ModifierWord.TheVariants as modifier
use Rattle.php_ast.specs.expression.Tree.{Tree, leaf, listed, static_member, selected, new, new_with, prefix, instance_of, instance_of_static, yield_nothing, yield_value, yield_pair, Items, none, and, skip, Lead, plain, reference, spread, keyed, keyed_reference, Class}
use Rattle.php_ast.specs.expression.Tree as tree
use Rattle.php_ast.specs.expression.View.{Note}
use Rattle.php_ast.specs.statement.Tree.{Name, Statement, jump, switch, declares, returning, breaking, continuing, Cases, no_case, and_case}
use Rattle.php_ast.specs.declaration.Tree.{Base, of_name, of_array, of_callable, Param, Signature, Modifier, ClassWord, Method, Rule, renames, Member, uses_by, class_constants, method, properties, Item, of_statement, of_function, of_class, of_interface, of_trait}
use Rattle.php_legality.specs.Lists.{elements, where_true, is_any, repeated, different}
use Rattle.php_legality.specs.Places.{first_note, is_place, is_written, is_static, is_call, is_list}
use Rattle.php_legality.specs.Constants.{is_constant}
use Rattle.php_legality.specs.Expressions.{Use, valued, assigned, changed, linked, removed, asked}
use Rattle.php_legality.specs.Statements.{Around, loop_or_switch, finally_block, caught}
use Rattle.php_legality.specs.Declarations.{Owner, of_a_class, of_an_interface, Members, all_members, methods_of, properties_of, constants_of, sites, signatures, types_of, expressions, constant_expressions, member_note, member_name}
use Rattle.php_legality.specs.NameTokens.{NameToken, is_same_token, name_tokens}
use Rattle.php_legality.specs.Taken.{is_one_of, library_functions, prelude_functions, built_in_classes, no_class_names, inner_class_names}

-- ---- no place

-- whether an expression may stand where this is done with it
abbrev pub fits : {S : Type 0} → Use → Tree S → Bool
fits valued e = true
fits assigned e = is_written e || is_list e
fits changed e = is_written e
fits linked e = is_written e || is_call e
fits removed e = is_written e && not (is_static e)
fits asked e = is_place e

-- at the first token of what should be a place
abbrev pub no_place : List (Item Note) → List Note
no_place items = flat_map (λ x. where_true (not (fits x.expression.use_of x.expression.tree)) (first_note x.expression.tree)) (expressions items)

-- ---- `break` and `continue`

-- the level of a jump, or 0 where it is no integer of at least 1
abbrev pub level : {S : Type 0} → Option (Tree S) → ℕ
level None = 1
level (Some (leaf at (tree.int (pos n)))) = n
level (Some e) = 0

abbrev pub is_around : Around → Bool
is_around loop_or_switch = true
is_around finally_block = false

-- how many loops and switches there are
abbrev pub loops : List Around → ℕ
loops [] = 0
loops (loop_or_switch ∷ around) = suc (loops around)
loops (finally_block ∷ around) = loops around

-- those inside the innermost `finally` block, where there is one
abbrev pub loops_in_finally : List Around → Option ℕ
loops_in_finally [] = None
loops_in_finally (finally_block ∷ around) = Some 0
loops_in_finally (loop_or_switch ∷ around) = one_more (loops_in_finally around)
  where
    one_more : Option ℕ → Option ℕ
    one_more None = None
    one_more (Some n) = Some (suc n)

abbrev pub is_bad_level : ℕ → List Around → Bool
is_bad_level n around = nat_lt n 1 || nat_lt (loops around) n

abbrev pub leaves_finally : ℕ → Option ℕ → Bool
leaves_finally n None = false
leaves_finally n (Some inner) = nat_lt inner n

-- what is said of the level of a `break` or a `continue`, at that word
abbrev pub at_break : {S : Type 0} → (ℕ → Bool) → Statement S → List S
at_break test (jump at breaking e) = where_true (test (level e)) at
at_break test (jump at continuing e) = where_true (test (level e)) at
at_break test _ = []

abbrev pub bad_break : List (Item Note) → List Note
bad_break items = flat_map (λ site. at_break (λ n. is_bad_level n site.around) site.statement) (sites items)

abbrev pub jump_from_finally : List (Item Note) → List Note
jump_from_finally items = flat_map (λ site. at_break (λ n. leaves_finally n (loops_in_finally site.around)) site.statement) (sites items)

-- ---- duplicates

abbrev pub is_same_name : {S : Type 0} → Name S → Name S → Bool
is_same_name a b = bytes_eq a.text b.text

-- in any letter case
abbrev pub is_alike_name : {S : Type 0} → Name S → Name S → Bool
is_alike_name a b = str_eq_ignore_ascii_case a.text b.text

abbrev pub function_name : {S : Type 0} → Item S → List (Name S)
function_name (of_function g) = g.name ∷ []
function_name _ = []

-- of a class, an interface or a trait
abbrev pub class_name : {S : Type 0} → Item S → List (Name S)
class_name (of_class c) = c.name ∷ []
class_name (of_interface i) = i.name ∷ []
class_name (of_trait t) = t.name ∷ []
class_name _ = []

abbrev pub functions : {S : Type 0} → List (Item S) → List (Name S)
functions items = flat_map function_name items

abbrev pub classes : {S : Type 0} → List (Item S) → List (Name S)
classes items = flat_map class_name items

-- members of one kind
abbrev pub method_names : Members Note → List (Name Note)
method_names those = flat_map (λ member. map (λ m. member_name m.name) (methods_of member)) those.members

abbrev pub property_names : {S : Type 0} → Members S → List (Name S)
property_names those = flat_map (λ member. map (λ x. x.name) (properties_of member)) those.members

abbrev pub constant_names : Members Note → List (Name Note)
constant_names those = flat_map (λ member. map (λ x. member_name x.0) (constants_of member)) those.members

abbrev pub parameter_names : {S : Type 0} → Signature S → List (Name S)
parameter_names s = map (λ p. p.name) (elements s.params)

-- the `default` labels of a `switch`
abbrev pub defaults_in : {S : Type 0} → Cases S → List S
defaults_in no_case = []
defaults_in (and_case cases at None end body) = defaults_in cases ++ at ∷ []
defaults_in (and_case cases at (Some e) end body) = defaults_in cases

abbrev pub later_defaults : {S : Type 0} → Statement S → List S
later_defaults (switch at e form cases) = drop 1 (defaults_in cases)
later_defaults _ = []

abbrev pub taken : {S : Type 0} → List (List ℕ) → List (Name S) → List (Name S)
taken names those = filter (λ n. is_one_of names n.text) those

abbrev pub duplicate_names : List (Item Note) → List (Name Note)
duplicate_names items =
    repeated is_alike_name (functions items)
    ++ taken library_functions (functions items)
    ++ taken prelude_functions (functions items)
    ++ repeated is_alike_name (classes items)
    ++ taken built_in_classes (classes items)
    ++ flat_map (λ those. repeated is_alike_name (method_names those)) (all_members items)
    ++ flat_map (λ those. repeated is_same_name (property_names those)) (all_members items)
    ++ flat_map (λ those. repeated is_same_name (constant_names those)) (all_members items)
    ++ flat_map (λ s. repeated is_same_name (parameter_names s.signature)) (signatures items)

abbrev pub duplicate : List (Item Note) → List Note
duplicate items = map (λ n. n.note) (duplicate_names items) ++ flat_map (λ site. later_defaults site.statement) (sites items)

-- ---- no constant expression

abbrev pub no_constant : List (Item Note) → List Note
no_constant items = flat_map (λ e. where_true (not (is_constant e)) (first_note e)) (constant_expressions items)

-- ---- bad lists

-- without a last one that is missing
abbrev pub without_last : {S : Type 0} → Items S → Items S
without_last (skip items) = items
without_last items = items

abbrev pub has_missing : {S : Type 0} → Items S → Bool
has_missing none = false
has_missing (and items lead e) = has_missing items
has_missing (skip items) = true

abbrev pub has_item : {S : Type 0} → Items S → Bool
has_item none = false
has_item (and items lead e) = true
has_item (skip items) = has_item items

abbrev is_keyed : {S : Type 0} → Lead S → Bool
is_keyed (keyed k) = true
is_keyed (keyed_reference k) = true
is_keyed _ = false

abbrev is_reference : {S : Type 0} → Lead S → Bool
is_reference reference = true
is_reference (keyed_reference k) = true
is_reference _ = false

abbrev pub has_keyed : {S : Type 0} → Items S → Bool
has_keyed none = false
has_keyed (and items lead e) = has_keyed items || is_keyed lead
has_keyed (skip items) = has_keyed items

-- a missing one counts
abbrev pub has_unkeyed : {S : Type 0} → Items S → Bool
has_unkeyed none = false
has_unkeyed (and items lead e) = has_unkeyed items || not (is_keyed lead)
has_unkeyed (skip items) = true

abbrev pub has_reference : {S : Type 0} → Items S → Bool
has_reference none = false
has_reference (and items lead e) = has_reference items || is_reference lead
has_reference (skip items) = has_reference items

-- a list that takes values: empty, mixed, or with `&`
abbrev pub is_bad_target : {S : Type 0} → Items S → Bool
is_bad_target items =
    not (has_item items) || has_keyed (without_last items) && has_unkeyed (without_last items) || has_reference items

-- An array may lack its last item alone; `list(..)` is no value.
abbrev pub is_bad_list : {S : Type 0} → Use → Tree S → Bool
is_bad_list assigned (listed at (tree.array form.Array) items) = has_missing (without_last items)
is_bad_list assigned (listed at (tree.array _) items) = is_bad_target items
is_bad_list _ (listed at (tree.array form.List) items) = true
is_bad_list _ (listed at (tree.array _) items) = has_missing (without_last items)
is_bad_list _ _ = false

abbrev pub bad_list : List (Item Note) → List Note
bad_list items = flat_map (λ x. where_true (is_bad_list x.expression.use_of x.expression.tree) (first_note x.expression.tree)) (expressions items)

-- ---- bad uses: in expressions

-- the `yield` that an expression begins with
abbrev pub yields : {S : Type 0} → Tree S → List S
yields (yield_nothing at) = at ∷ []
yields (yield_value at v) = at ∷ []
yields (yield_pair at k v) = at ∷ []
yields (prefix at prefix_form.YieldFrom e) = at ∷ []
yields _ = []

abbrev pub is_inner_name : List ℕ → Bool
is_inner_name text = is_one_of inner_class_names text

abbrev pub inner_name : {S : Type 0} → Name S → List S
inner_name n = where_true (is_inner_name n.text) n.note

-- `self` or `parent` alone
abbrev pub inner_leaf : {S : Type 0} → Tree S → List S
inner_leaf (leaf at (tree.name text)) = where_true (is_inner_name text) at
inner_leaf _ = []

abbrev pub inner_class : {S : Type 0} → Class S → List S
inner_class (tree.class_name at text) = where_true (is_inner_name text) at
inner_class (tree.class_static at) = at ∷ []
inner_class (tree.class_found steps) = []

-- `self`, `parent` or `static` as the name of a class: before `::`, behind `new` and behind `instanceof`
abbrev pub inner_words : {S : Type 0} → Tree S → List S
inner_words (selected e tree.colons member) = inner_leaf e
inner_words (static_member at member) = at ∷ []
inner_words (new at class) = inner_class class
inner_words (new_with at class items) = inner_class class
inner_words (instance_of l r) = inner_leaf r
inner_words (instance_of_static l at) = at ∷ []
inner_words _ = []

abbrev pub inner_base : {S : Type 0} → Base S → List S
inner_base (of_name n) = inner_name n
inner_base of_array = []
inner_base of_callable = []

abbrev pub unless : {A : Type 0} → Bool → List A → List A
unless test xs = cond test [] xs

abbrev pub yields_outside : {S : Type 0} → List (Item S) → List S
yields_outside items = flat_map (λ x. unless x.scope.in_function (yields x.expression.tree)) (expressions items)

-- in expressions, in types and in `catch`
abbrev pub inner_words_outside : {S : Type 0} → List (Item S) → List S
inner_words_outside items =
    flat_map (λ x. unless x.scope.in_class (inner_words x.expression.tree)) (expressions items)
    ++ flat_map (λ s. unless s.in_class (flat_map (λ t. inner_base t.base) (types_of s.signature))) (signatures items)
    ++ flat_map (λ site. unless site.scope.in_class (flat_map inner_name (caught site.statement))) (sites items)

-- ---- bad uses: in statements

abbrev pub void_return : {S : Type 0} → Statement S → List S
void_return (jump at returning (Some e)) = at ∷ []
void_return _ = []

abbrev pub returns_from_void : {S : Type 0} → List (Item S) → List S
returns_from_void items = flat_map (λ site. unless (not site.scope.is_void) (void_return site.statement)) (sites items)

abbrev pub is_zero_or_one : ℤ → Bool
is_zero_or_one (pos n) = nat_lt n 2
is_zero_or_one (negsuc n) = false

abbrev pub declaration_at : {S : Type 0} → Statement S → List S
declaration_at (declares at name n) = at ∷ []
declaration_at _ = []

abbrev pub is_strict_types : {S : Type 0} → Statement S → Bool
is_strict_types (declares at name n) = str_eq_ignore_ascii_case (codes "strict_types") name.text && is_zero_or_one n
is_strict_types _ = false

-- what stands behind a proper declaration of strict types, which may be the first thing in a script alone
abbrev pub behind_strict_types : {S : Type 0} → List (Item S) → List (Item S)
behind_strict_types [] = []
behind_strict_types (of_statement s ∷ items) = cond (is_strict_types s) items (of_statement s ∷ items)
behind_strict_types (item ∷ items) = item ∷ items

abbrev pub misplaced_declarations : {S : Type 0} → List (Item S) → List S
misplaced_declarations items = flat_map (λ site. declaration_at site.statement) (sites (behind_strict_types items))

-- ---- bad uses: modifiers and bodies

abbrev pub is_visibility : ModifierWord → Bool
is_visibility modifier.Public = true
is_visibility modifier.Protected = true
is_visibility modifier.Private = true
is_visibility modifier.Var = true
is_visibility _ = false

-- two words that don't go together in this order or the other
abbrev pub clash_one_way : ModifierWord → ModifierWord → Bool
clash_one_way modifier.Abstract modifier.Abstract = true
clash_one_way modifier.Abstract modifier.Final = true
clash_one_way modifier.Abstract modifier.Private = true
clash_one_way modifier.Static modifier.Static = true
clash_one_way modifier.Final modifier.Final = true
clash_one_way _ _ = false

abbrev pub clash : ModifierWord → ModifierWord → Bool
clash a b = is_visibility a && is_visibility b || clash_one_way a b || clash_one_way b a

abbrev pub clashing : {S : Type 0} → List (Modifier S) → List S
clashing modifiers = map (λ m. m.note) (repeated (λ later before. clash before.word later.word) modifiers)

-- A class has one word at most: each two of them are the same, or `abstract` with `final`.
abbrev pub clashing_words : {S : Type 0} → List (ClassWord S) → List S
clashing_words words = map (λ m. m.note) (drop 1 words)

abbrev pub modifiers_of : {S : Type 0} → Member S → List (Modifier S)
modifiers_of (class_constants modifiers items) = elements modifiers
modifiers_of (method m) = elements m.modifiers
modifiers_of (properties modifiers variables) = elements modifiers
modifiers_of _ = []

abbrev pub class_words : {S : Type 0} → Item S → List (ClassWord S)
class_words (of_class c) = elements c.modifiers
class_words _ = []

abbrev pub bad_modifiers : {S : Type 0} → List (Item S) → List S
bad_modifiers items =
    flat_map (λ item. clashing_words (class_words item)) items
    ++ flat_map (λ those. flat_map (λ member. clashing (modifiers_of member)) those.members) (all_members items)

abbrev pub is_abstract_word : ModifierWord → Bool
is_abstract_word modifier.Abstract = true
is_abstract_word _ = false

abbrev pub is_abstract : {S : Type 0} → Method S → Bool
is_abstract m = is_any (λ x. is_abstract_word x.word) (elements m.modifiers)

abbrev pub has : {A : Type 0} → Option A → Bool
has None = false
has (Some x) = true

-- whether a method has a body where it may have none, or none where it needs one
abbrev pub is_bad_body : {S : Type 0} → Owner → Method S → Bool
is_bad_body of_a_class m = cond (is_abstract m) (has m.body) (not (has m.body))
is_bad_body of_an_interface m = has m.body

abbrev pub bad_bodies : {S : Type 0} → List (Item S) → List S
bad_bodies items =
    flat_map (λ those. flat_map (λ member. flat_map (λ m. where_true (is_bad_body those.owner m) (member_note m.name)) (methods_of member)) those.members)
    (all_members items)

abbrev pub of_interfaces : {S : Type 0} → Members S → List (Member S)
of_interfaces those = of_owner those.owner those.members
  where
    of_owner : {S : Type 0} → Owner → List (Member S) → List (Member S)
    of_owner of_a_class members = []
    of_owner of_an_interface members = members

abbrev pub properties_of_interfaces : {S : Type 0} → List (Item S) → List S
properties_of_interfaces items =
    flat_map (λ those. flat_map (λ member. map (λ x. x.name.note) (properties_of member)) (of_interfaces those)) (all_members items)

-- ---- bad uses: parameters, rules and names

-- a default of the parameter that takes all further values, and each parameter behind that one
abbrev pub bad_params : {S : Type 0} → Bool → List (Param S) → List S
bad_params is_behind [] = []
bad_params is_behind (p ∷ ps) = where_true (is_behind || p.is_variadic && has p.default) p.name.note ++ bad_params (is_behind || p.is_variadic) ps

abbrev pub bad_parameters : {S : Type 0} → List (Item S) → List S
bad_parameters items = flat_map (λ s. bad_params false (elements s.signature.params)) (signatures items)

abbrev pub rules_of : {S : Type 0} → Member S → List (Rule S)
rules_of (uses_by at names rules) = elements rules
rules_of _ = []

abbrev pub empty_rule : {S : Type 0} → Rule S → List S
empty_rule (renames at origin name None None) = at ∷ []
empty_rule _ = []

abbrev pub empty_rules : {S : Type 0} → List (Item S) → List S
empty_rules items =
    flat_map (λ those. flat_map (λ member. flat_map empty_rule (rules_of member)) those.members) (all_members items)

abbrev pub reserved_classes : {S : Type 0} → List (Item S) → List S
reserved_classes items = map (λ n. n.note) (taken no_class_names (classes items))

abbrev pub bad_use : List (Item Note) → List Note
bad_use items =
    yields_outside items ++ inner_words_outside items ++ bad_bodies items ++ bad_modifiers items ++ properties_of_interfaces items
    ++ bad_parameters items ++ misplaced_declarations items ++ returns_from_void items ++ empty_rules items ++ reserved_classes items

-- ---- too many names

-- the first token of the one behind so many different ones
abbrev pub too_many : {S : Type 0} → ℕ → List (NameToken S) → List S
too_many most names = map (λ n. n.note) (take 1 (drop most (different is_same_token names)))

unfoldable pub most_names : ℕ
most_names = 65535

abbrev pub too_many_names : List (Item Note) → List Note
too_many_names items = too_many most_names (name_tokens items)
