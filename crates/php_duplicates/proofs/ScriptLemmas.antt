-- What is met in a script, list by list, is the first of its duplicates.
use Rattle.std.proofs.Common.{◌≡◌, Bool, true, false, cond, Option, Some, None, List, [], ◌∷◌, ◌++◌, map, flat_map, filter, refl, sym, ◌∙◌, ap, subst}
use Rattle.std.specs.Prelude.{ℕ}
use Rattle.std.specs.Str.{str_to_ascii_lowercase}
use Rattle.php_ast.specs.expression.View.{Note}
use Rattle.php_ast.specs.expression.Tree.{Tree}
use Rattle.php_ast.specs.expression.Tree as tree
use Rattle.php_ast.specs.statement.Tree.{Name, Variable, Statements}
use Rattle.php_ast.specs.declaration.Tree.{Param, Signature, ClassConstant, Method, Member, uses, uses_by, class_constants, method, properties, Item, of_statement, of_function, of_class, of_interface, of_trait}
use Rattle.php_legality.specs.declared.kind.Kind.TheVariants as kind
use Rattle.php_legality.specs.declared.fault.Fault.{Fault}
use Rattle.php_legality.specs.declared.scope.Scope.{Scope}
use Rattle.php_legality.specs.Lists.{elements, where_some, where_true, repeated}
use Rattle.php_legality.specs.First.{fault_at, first_from, IsFirst}
use Rattle.php_legality.specs.Statements.{Inside, inside_list, all_inside}
use Rattle.php_legality.specs.Declarations.{Members, Signed, Site, sites_in, sites, item_sites, method_sites, methods_of, properties_of, constants_of, members_of, all_members, signatures, item_signatures, body_scope, outermost, member_name}
use Rattle.php_legality.specs.Rows.{later_defaults, is_alike_name, is_same_name, duplicate}
use Rattle.php_legality.specs.Taken.{is_one_of, library_functions, prelude_functions, built_in_classes}
use Rattle.php_legality.specs.Legality.{faults_of_kinds, places_of}
use Rattle.php_legality.proofs.FirstLemmas.{first_from_joined, first_is_found}
use Rattle.php_legality.proofs.HasLemmas.{flat_map_joined, map_joined, flat_map_map, flat_map_flat_map, map_flat_map}
use Rattle.php_duplicates.specs.Over.{over}
use Rattle.php_duplicates.specs.Saw.{Saw, duplicate_at, saw_alike, saw_same, first_among}
use Rattle.php_duplicates.specs.declared.taken.Taken.TheVariants.{LibraryFunctions, PreludeFunctions, BuiltInClasses}
use Rattle.php_duplicates.specs.NamesTaken.{names_taken}
use Rattle.php_duplicates.specs.Met.{met_name, met_last, see_function, see_class, taken_function, taken_class, see_method, see_variable, see_property, see_class_constant, see_constant, see_param, met_signature, met_method, members_in, met_methods, met_properties, met_constants, met_params, met_member_body, met_bodies, met_names, met_members, met_script}
use Rattle.php_duplicates.specs.Promise.{duplicate_kinds}
use Rattle.php_duplicates.proofs.SeenLemmas.{as_written, faults_at, saw_by, first_among_is}
use Rattle.php_duplicates.proofs.Bridge.{faults_in, labels_of, statement_met, list_met}

nothing_behind : {A : Type 0} (xs : List A) → xs ++ [] ≡ xs
nothing_behind [] = refl
nothing_behind (x ∷ xs) = ap (λ ys. x ∷ ys) (nothing_behind xs)

-- ---- names one list behind the other

faults_joined : (xs ys : List (Name Note)) → faults_at (xs ++ ys) ≡ faults_at xs ++ faults_at ys
faults_joined xs ys = ap (map duplicate_at) (map_joined (λ n. n.note) xs ys) ∙ map_joined duplicate_at (map (λ n. n.note) xs) (map (λ n. n.note) ys)

behind : (met one two : Option Fault) (xs ys : List (Name Note)) → one ≡ first_from met (faults_at xs) → two ≡ first_from one (faults_at ys) → two ≡ first_from met (faults_at (xs ++ ys))
behind met one two xs ys first second =
    second ∙ ap (λ m. first_from m (faults_at ys)) first ∙ sym (first_from_joined met (faults_at xs) (faults_at ys)) ∙ ap (first_from met) (sym (faults_joined xs ys))

-- elements that each meet the duplicates at some names
over_names : {A : Type 0} (each : A → Option Fault → Option Fault) (f : A → List (Name Note)) → ((x : A) (met : Option Fault) → each x met ≡ first_from met (faults_at (f x)))
    → (xs : List A) (met : Option Fault) → over each xs met ≡ first_from met (faults_at (flat_map f xs))
over_names each f one [] met = refl
over_names each f one (x ∷ xs) met = behind met (each x met) (over each xs (each x met)) (f x) (flat_map f xs) (one x met) (over_names each f one xs (each x met))

-- ---- names that are taken

abbrev function_name : Item Note → List (Name Note)
function_name (of_function g) = g.name ∷ []
function_name _ = []

abbrev class_name : Item Note → List (Name Note)
class_name (of_class c) = c.name ∷ []
class_name (of_interface i) = i.name ∷ []
class_name (of_trait t) = t.name ∷ []
class_name _ = []

abbrev taken : List (List ℕ) → List (Name Note) → List (Name Note)
taken names those = filter (λ n. is_one_of names n.text) those

taken_joined : (names : List (List ℕ)) (xs ys : List (Name Note)) → taken names (xs ++ ys) ≡ taken names xs ++ taken names ys
taken_joined names [] ys = refl
taken_joined names (x ∷ xs) ys = by (is_one_of names x.text) refl (taken_joined names xs ys)
  where
    by : (b : Bool) → is_one_of names x.text ≡ b → taken names (xs ++ ys) ≡ taken names xs ++ taken names ys → taken names (x ∷ xs ++ ys) ≡ taken names (x ∷ xs) ++ taken names ys
    by true is rest = rw is (ap (λ zs. x ∷ zs) rest)
    by false is rest = rw is rest

taken_flat : {A : Type 0} (names : List (List ℕ)) (f : A → List (Name Note)) (xs : List A) → flat_map (λ x. taken names (f x)) xs ≡ taken names (flat_map f xs)
taken_flat names f [] = refl
taken_flat names f (x ∷ xs) = ap (λ zs. taken names (f x) ++ zs) (taken_flat names f xs) ∙ sym (taken_joined names (f x) (flat_map f xs))

name_met : (names : List (List ℕ)) (n : Name Note) (met : Option Fault) → met_name names n met ≡ first_from met (faults_at (taken names (n ∷ [])))
unfolding met_name
name_met names n met = by (is_one_of names n.text) refl
  where
    by : (b : Bool) → is_one_of names n.text ≡ b → first_from met (where_true (is_one_of names n.text) (duplicate_at n.note)) ≡ first_from met (faults_at (taken names (n ∷ [])))
    by true is = rw is refl
    by false is = rw is refl

function_taken : (names : List (List ℕ)) (item : Item Note) (met : Option Fault) → taken_function names item met ≡ first_from met (faults_at (taken names (function_name item)))
function_taken names (of_statement s) met = refl
function_taken names (of_function g) met = name_met names g.name met
function_taken names (of_class c) met = refl
function_taken names (of_interface i) met = refl
function_taken names (of_trait t) met = refl

functions_taken : (names : List (List ℕ)) (items : List (Item Note)) (met : Option Fault)
    → over (taken_function names) items met ≡ first_from met (faults_at (taken names (flat_map function_name items)))
functions_taken names items met =
    over_names (taken_function names) (λ item. taken names (function_name item)) (function_taken names) items met
    ∙ ap (λ ns. first_from met (faults_at ns)) (taken_flat names function_name items)

class_taken : (names : List (List ℕ)) (item : Item Note) (met : Option Fault) → taken_class names item met ≡ first_from met (faults_at (taken names (class_name item)))
class_taken names (of_statement s) met = refl
class_taken names (of_function g) met = refl
class_taken names (of_class c) met = name_met names c.name met
class_taken names (of_interface i) met = name_met names i.name met
class_taken names (of_trait t) met = name_met names t.name met

classes_taken : (names : List (List ℕ)) (items : List (Item Note)) (met : Option Fault)
    → over (taken_class names) items met ≡ first_from met (faults_at (taken names (flat_map class_name items)))
classes_taken names items met =
    over_names (taken_class names) (λ item. taken names (class_name item)) (class_taken names) items met
    ∙ ap (λ ns. first_from met (faults_at ns)) (taken_flat names class_name items)

-- ---- names that are repeated

function_seen : (item : Item Note) (s : Saw) → see_function item s ≡ over (saw_by str_to_ascii_lowercase) (function_name item) s
function_seen (of_statement t) s = refl
function_seen (of_function g) s = refl
function_seen (of_class c) s = refl
function_seen (of_interface i) s = refl
function_seen (of_trait t) s = refl

class_seen : (item : Item Note) (s : Saw) → see_class item s ≡ over (saw_by str_to_ascii_lowercase) (class_name item) s
class_seen (of_statement t) s = refl
class_seen (of_function g) s = refl
class_seen (of_class c) s = refl
class_seen (of_interface i) s = refl
class_seen (of_trait t) s = refl

-- those of members
abbrev method_name : Member Note → List (Name Note)
method_name member = map (λ m. member_name m.name) (methods_of member)

abbrev property_name : Member Note → List (Name Note)
property_name member = map (λ x. x.name) (properties_of member)

abbrev constant_name : Member Note → List (Name Note)
constant_name member = map (λ x. member_name x.0) (constants_of member)

method_seen : (member : Member Note) (s : Saw) → see_method member s ≡ over (saw_by str_to_ascii_lowercase) (method_name member) s
method_seen (uses at names) s = refl
method_seen (uses_by at names rules) s = refl
method_seen (class_constants modifiers items) s = refl
method_seen (method m) s = refl
method_seen (properties modifiers variables) s = refl

variables_seen : (xs : List (Variable Note)) (s : Saw) → over see_variable xs s ≡ over (saw_by as_written) (map (λ x. x.name) xs) s
variables_seen [] s = refl
variables_seen (x ∷ xs) s = variables_seen xs (see_variable x s)

property_seen : (member : Member Note) (s : Saw) → see_property member s ≡ over (saw_by as_written) (property_name member) s
property_seen (uses at names) s = refl
property_seen (uses_by at names rules) s = refl
property_seen (class_constants modifiers items) s = refl
property_seen (method m) s = refl
property_seen (properties modifiers variables) s = variables_seen (elements variables) s

constants_seen : (xs : List (ClassConstant Note)) (s : Saw)
    → over see_class_constant xs s
    ≡ over (saw_by as_written) (map (λ (x : tree.Member Note × Tree Note). member_name x.0) (map (λ (c : ClassConstant Note). (c.name, c.value)) xs)) s
constants_seen [] s = refl
constants_seen (x ∷ xs) s = constants_seen xs (see_class_constant x s)

constant_seen : (member : Member Note) (s : Saw) → see_constant member s ≡ over (saw_by as_written) (constant_name member) s
constant_seen (uses at names) s = refl
constant_seen (uses_by at names rules) s = refl
constant_seen (class_constants modifiers items) s = constants_seen (elements items) s
constant_seen (method m) s = refl
constant_seen (properties modifiers variables) s = refl

abbrev param_name : Param Note → List (Name Note)
param_name p = p.name ∷ []

param_seen : (p : Param Note) (s : Saw) → see_param p s ≡ over (saw_by as_written) (param_name p) s
param_seen p s = refl

params_flat : (ps : List (Param Note)) → flat_map param_name ps ≡ map (λ p. p.name) ps
params_flat [] = refl
params_flat (p ∷ ps) = ap (λ ns. p.name ∷ ns) (params_flat ps)

-- ---- members of each class

abbrev repeated_methods : Members Note → List (Name Note)
repeated_methods those = repeated is_alike_name (flat_map method_name those.members)

abbrev repeated_properties : Members Note → List (Name Note)
repeated_properties those = repeated is_same_name (flat_map property_name those.members)

abbrev repeated_constants : Members Note → List (Name Note)
repeated_constants those = repeated is_same_name (flat_map constant_name those.members)

abbrev InMembers : (Item Note → Option Fault → Option Fault) → (Members Note → List (Name Note)) → Type 0
InMembers each f = (item : Item Note) (met : Option Fault) → each item met ≡ first_from met (faults_at (flat_map f (members_of item)))

alone : (ns : List (Name Note)) (met r : Option Fault) → r ≡ first_from met (faults_at ns) → r ≡ first_from met (faults_at (ns ++ []))
alone ns met r is = is ∙ ap (λ ms. first_from met (faults_at ms)) (sym (nothing_behind ns))

in_members : (each : Item Note → Option Fault → Option Fault) (f : Members Note → List (Name Note)) → InMembers each f
    → (items : List (Item Note)) (met : Option Fault) → over each items met ≡ first_from met (faults_at (flat_map f (all_members items)))
in_members each f one items met =
    over_names each (λ item. flat_map f (members_of item)) one items met
    ∙ ap (λ ns. first_from met (faults_at ns)) (sym (flat_map_flat_map f members_of items))

same_methods : (members : List (Member Note)) (met : Option Fault) → first_among see_method members met ≡ first_from met (faults_at (repeated is_alike_name (flat_map method_name members)))
same_methods members met = first_among_is str_to_ascii_lowercase see_method method_name method_seen members met

methods_met : InMembers met_methods repeated_methods
methods_met (of_statement s) met = refl
methods_met (of_function g) met = refl
methods_met (of_class c) met = alone (repeated is_alike_name (flat_map method_name (elements c.members))) met (first_among see_method (elements c.members) met) (same_methods (elements c.members) met)
methods_met (of_interface i) met = alone (repeated is_alike_name (flat_map method_name (elements i.members))) met (first_among see_method (elements i.members) met) (same_methods (elements i.members) met)
methods_met (of_trait t) met = alone (repeated is_alike_name (flat_map method_name (elements t.members))) met (first_among see_method (elements t.members) met) (same_methods (elements t.members) met)

same_properties : (members : List (Member Note)) (met : Option Fault) → first_among see_property members met ≡ first_from met (faults_at (repeated is_same_name (flat_map property_name members)))
same_properties members met = first_among_is as_written see_property property_name property_seen members met

properties_met : InMembers met_properties repeated_properties
properties_met (of_statement s) met = refl
properties_met (of_function g) met = refl
properties_met (of_class c) met = alone (repeated is_same_name (flat_map property_name (elements c.members))) met (first_among see_property (elements c.members) met) (same_properties (elements c.members) met)
properties_met (of_interface i) met = alone (repeated is_same_name (flat_map property_name (elements i.members))) met (first_among see_property (elements i.members) met) (same_properties (elements i.members) met)
properties_met (of_trait t) met = alone (repeated is_same_name (flat_map property_name (elements t.members))) met (first_among see_property (elements t.members) met) (same_properties (elements t.members) met)

same_constants : (members : List (Member Note)) (met : Option Fault) → first_among see_constant members met ≡ first_from met (faults_at (repeated is_same_name (flat_map constant_name members)))
same_constants members met = first_among_is as_written see_constant constant_name constant_seen members met

constants_met : InMembers met_constants repeated_constants
constants_met (of_statement s) met = refl
constants_met (of_function g) met = refl
constants_met (of_class c) met = alone (repeated is_same_name (flat_map constant_name (elements c.members))) met (first_among see_constant (elements c.members) met) (same_constants (elements c.members) met)
constants_met (of_interface i) met = alone (repeated is_same_name (flat_map constant_name (elements i.members))) met (first_among see_constant (elements i.members) met) (same_constants (elements i.members) met)
constants_met (of_trait t) met = alone (repeated is_same_name (flat_map constant_name (elements t.members))) met (first_among see_constant (elements t.members) met) (same_constants (elements t.members) met)

-- ---- parameters

abbrev repeated_params : Signed Note → List (Name Note)
repeated_params s = repeated is_same_name (map (λ p. p.name) (elements s.signature.params))

signature_met : (s : Signature Note) (met : Option Fault) → met_signature s met ≡ first_from met (faults_at (repeated is_same_name (map (λ p. p.name) (elements s.params))))
signature_met s met =
    first_among_is as_written see_param param_name param_seen (elements s.params) met
    ∙ ap (λ ns. first_from met (faults_at (repeated is_same_name ns))) (params_flat (elements s.params))

abbrev signed_methods : Member Note → List (Signed Note)
signed_methods member = map (λ m. record { in_class = true; signature = m.signature }) (methods_of member)

method_params : (member : Member Note) (met : Option Fault) → met_method member met ≡ first_from met (faults_at (flat_map repeated_params (signed_methods member)))
method_params (uses at names) met = refl
method_params (uses_by at names rules) met = refl
method_params (class_constants modifiers items) met = refl
method_params (method m) met = alone (repeated is_same_name (map (λ p. p.name) (elements m.signature.params))) met (met_signature m.signature met) (signature_met m.signature met)
method_params (properties modifiers variables) met = refl

members_params : (members : List (Member Note)) (met : Option Fault)
    → over met_method members met ≡ first_from met (faults_at (flat_map repeated_params (flat_map signed_methods members ++ [])))
members_params members met =
    over_names met_method (λ member. flat_map repeated_params (signed_methods member)) method_params members met
    ∙ ap (λ ns. first_from met (faults_at ns)) (sym (flat_map_flat_map repeated_params signed_methods members))
    ∙ ap (λ ss. first_from met (faults_at (flat_map repeated_params ss))) (sym (nothing_behind (flat_map signed_methods members)))

params_met : (item : Item Note) (met : Option Fault) → met_params item met ≡ first_from met (faults_at (flat_map repeated_params (item_signatures item)))
params_met (of_statement s) met = refl
params_met (of_function g) met = alone (repeated is_same_name (map (λ p. p.name) (elements g.signature.params))) met (met_signature g.signature met) (signature_met g.signature met)
params_met (of_class c) met = members_params (elements c.members) met
params_met (of_interface i) met = members_params (elements i.members) met
params_met (of_trait t) met = members_params (elements t.members) met

all_params : (items : List (Item Note)) (met : Option Fault) → over met_params items met ≡ first_from met (faults_at (flat_map repeated_params (signatures items)))
all_params items met =
    over_names met_params (λ item. flat_map repeated_params (item_signatures item)) params_met items met
    ∙ ap (λ ns. first_from met (faults_at ns)) (sym (flat_map_flat_map repeated_params item_signatures items))

-- ---- bodies

abbrev at_site : Site Note → List Fault
at_site site = map duplicate_at (later_defaults site.statement)

in_scope : (scope : Scope) (xs : List (Inside Note)) → flat_map at_site (sites_in scope xs) ≡ faults_in xs
in_scope scope xs = flat_map_map at_site (λ x. record { scope = scope; around = x.around; statement = x.statement }) xs

abbrev member_sites : Member Note → List (Site Note)
member_sites member = flat_map method_sites (methods_of member)

abbrev sites_of_members : List (Member Note) → List (Site Note)
sites_of_members members = flat_map member_sites members

-- a method with a body and one without
some_body : (scope : Scope) (body : Option (Statements Note)) (met : Option Fault)
    → met_last body met ≡ first_from met (flat_map at_site (where_some (λ ss. sites_in scope (inside_list [] ss)) body))
some_body scope None met = refl
some_body scope (Some ss) met = list_met [] ss met ∙ ap (first_from met) (sym (in_scope scope (inside_list [] ss)))

member_met : (member : Member Note) (met : Option Fault) → met_member_body member met ≡ first_from met (flat_map at_site (member_sites member))
member_met (uses at names) met = refl
member_met (uses_by at names rules) met = refl
member_met (class_constants modifiers items) met = refl
member_met (method m) met =
    some_body (body_scope true m.signature) m.body met ∙ ap (λ xs. first_from met (flat_map at_site xs)) (sym (nothing_behind (method_sites m)))
member_met (properties modifiers variables) met = refl

members_met : (members : List (Member Note)) (met : Option Fault) → over met_member_body members met ≡ first_from met (flat_map at_site (sites_of_members members))
members_met [] met = refl
members_met (member ∷ members) met =
    members_met members (met_member_body member met) ∙ ap (λ m. first_from m (flat_map at_site (sites_of_members members))) (member_met member met)
    ∙ sym (first_from_joined met (flat_map at_site (member_sites member)) (flat_map at_site (sites_of_members members)))
    ∙ ap (first_from met) (sym (flat_map_joined at_site (member_sites member) (sites_of_members members)))

members_met_alone : (members : List (Member Note)) (met : Option Fault) → over met_member_body members met ≡ first_from met (flat_map at_site (sites_of_members members ++ []))
members_met_alone members met = members_met members met ∙ ap (λ xs. first_from met (flat_map at_site xs)) (sym (nothing_behind (sites_of_members members)))

item_met : (item : Item Note) (met : Option Fault) → met_bodies item met ≡ first_from met (flat_map at_site (item_sites item))
item_met (of_statement s) met = statement_met [] s met ∙ ap (first_from met) (sym (in_scope outermost (all_inside [] s)))
item_met (of_function g) met = list_met [] g.body met ∙ ap (first_from met) (sym (in_scope (body_scope false g.signature) (inside_list [] g.body)))
item_met (of_class c) met = members_met_alone (elements c.members) met
item_met (of_interface i) met = members_met_alone (elements i.members) met
item_met (of_trait t) met = members_met_alone (elements t.members) met

bodies_met : (items : List (Item Note)) (met : Option Fault) → over met_bodies items met ≡ first_from met (flat_map at_site (sites items))
bodies_met [] met = refl
bodies_met (item ∷ items) met =
    bodies_met items (met_bodies item met) ∙ ap (λ m. first_from m (flat_map at_site (sites items))) (item_met item met)
    ∙ sym (first_from_joined met (flat_map at_site (item_sites item)) (flat_map at_site (sites items)))
    ∙ ap (first_from met) (sym (flat_map_joined at_site (item_sites item) (sites items)))

-- ---- the whole

abbrev functions : List (Item Note) → List (Name Note)
functions items = flat_map function_name items

abbrev classes : List (Item Note) → List (Name Note)
classes items = flat_map class_name items

abbrev at_functions : List (Item Note) → List (Name Note)
at_functions items =
    repeated is_alike_name (functions items) ++ taken library_functions (functions items) ++ taken prelude_functions (functions items)

abbrev at_names : List (Item Note) → List (Name Note)
at_names items = at_functions items ++ repeated is_alike_name (classes items) ++ taken built_in_classes (classes items)

names_met : (items : List (Item Note)) → met_names items None ≡ first_from None (faults_at (at_names items))
names_met items =
    behind None _ _ (at_functions items ++ repeated is_alike_name (classes items)) (taken built_in_classes (classes items))
    (behind None _ _ (at_functions items) (repeated is_alike_name (classes items))
    (behind None _ _ (repeated is_alike_name (functions items) ++ taken library_functions (functions items)) (taken prelude_functions (functions items))
    (behind None _ _ (repeated is_alike_name (functions items)) (taken library_functions (functions items))
    (first_among_is str_to_ascii_lowercase see_function function_name function_seen items None) (functions_taken library_functions items _))
    (functions_taken prelude_functions items _))
    (first_among_is str_to_ascii_lowercase see_class class_name class_seen items _))
    (classes_taken built_in_classes items _)

abbrev at_members : List (Item Note) → List (Name Note)
at_members items =
    at_names items ++ flat_map repeated_methods (all_members items) ++ flat_map repeated_properties (all_members items)
    ++ flat_map repeated_constants (all_members items) ++ flat_map repeated_params (signatures items)

all_names_met : (items : List (Item Note)) → met_members items (met_names items None) ≡ first_from None (faults_at (at_members items))
all_names_met items =
    behind None _ _
    (at_names items ++ flat_map repeated_methods (all_members items) ++ flat_map repeated_properties (all_members items) ++ flat_map repeated_constants (all_members items))
    (flat_map repeated_params (signatures items))
    (behind None _ _ (at_names items ++ flat_map repeated_methods (all_members items) ++ flat_map repeated_properties (all_members items)) (flat_map repeated_constants (all_members items))
    (behind None _ _ (at_names items ++ flat_map repeated_methods (all_members items)) (flat_map repeated_properties (all_members items))
    (behind None _ _ (at_names items) (flat_map repeated_methods (all_members items)) (names_met items) (in_members met_methods repeated_methods methods_met items _))
    (in_members met_properties repeated_properties properties_met items _))
    (in_members met_constants repeated_constants constants_met items _))
    (all_params items _)

abbrev at_labels : List (Item Note) → List Note
at_labels items = flat_map (λ site. later_defaults site.statement) (sites items)

by_kind : (items : List (Item Note)) → faults_of_kinds duplicate_kinds items ≡ faults_at (at_members items) ++ flat_map at_site (sites items)
unfolding places_of
by_kind items =
    nothing_behind (map (fault_at kind.Duplicate) (map (λ n. n.note) (at_members items) ++ at_labels items))
    ∙ map_joined duplicate_at (map (λ n. n.note) (at_members items)) (at_labels items)
    ∙ ap (λ fs. faults_at (at_members items) ++ fs) (map_flat_map duplicate_at (λ site. later_defaults site.statement) (sites items))

pub first_met : (items : List (Item Note)) → IsFirst (faults_of_kinds duplicate_kinds items) (met_script items)
first_met items =
    subst (IsFirst (faults_of_kinds duplicate_kinds items))
    (ap (first_from None) (by_kind items) ∙ first_from_joined None (faults_at (at_members items)) (flat_map at_site (sites items))
    ∙ ap (λ m. first_from m (flat_map at_site (sites items))) (sym (all_names_met items)) ∙ sym (bodies_met items (met_members items (met_names items None))))
    (first_is_found (faults_of_kinds duplicate_kinds items))
