-- The walk meets the faults of all parts, one part after the other; the definition lists them kind by kind. Both have the same faults.
use Rattle.std.proofs.Common.{◌≡◌, ℕ, Bool, true, false, not, cond, Option, None, List, [], ◌∷◌, ◌++◌, map, filter, flat_map, refl, sym, ◌∙◌, ap, subst}
use Rattle.std.specs.Prelude.{ℤ}
use Rattle.std.proofs.lemmas.List.Elements.{filter-append}
use Rattle.php_ast.specs.expression.Tree.{Tree}
use Rattle.php_ast.specs.expression.View.{Note}
use Rattle.php_ast.specs.statement.Tree.{Name, Statement, declares}
use Rattle.php_ast.specs.declaration.Tree.{Member, Item}
use Rattle.php_legality.specs.declared.kind.Kind.TheVariants as kind
use Rattle.php_legality.specs.declared.fault.Fault.{Fault}
use Rattle.php_legality.specs.declared.scope.Scope.{Scope}
use Rattle.php_legality.specs.Lists.{elements, Has, where_true}
use Rattle.php_legality.specs.First.{fault_at, first_from, IsFirst}
use Rattle.php_legality.specs.Places.{first_note}
use Rattle.php_legality.specs.Constants.{is_constant}
use Rattle.php_legality.specs.Expressions.{Used, used, valued, all_used}
use Rattle.php_legality.specs.Statements.{Around, own, own_constants, as_values, caught}
use Rattle.php_legality.specs.Taken.{is_one_of, no_class_names}
use Rattle.php_legality.specs.Declarations.{Owner, of_a_class, of_an_interface, Members, all_members, Site, sites, Signed, signatures, signature_scope, defaults_of, class_scope, Placed, placed_in, member_values, all_member_values, expressions, constant_expressions, properties_of, types_of}
use Rattle.php_legality.specs.Rows.{fits, is_bad_list, yields, inner_words, unless, no_place, no_constant, bad_list, bad_use, yields_outside, inner_words_outside, bad_bodies, bad_modifiers, properties_of_interfaces, bad_parameters, misplaced_declarations, returns_from_void, empty_rules, reserved_classes, behind_strict_types, clashing_words, class_words, class_name, taken, of_interfaces, bad_params, inner_base, inner_name, void_return, declaration_at, clashing}
use Rattle.php_legality.specs.Legality.{faults_of_kinds, places_of}
use Rattle.php_legality.proofs.FirstLemmas.{first_from_joined, first_is_found, first_of_same}
use Rattle.php_legality.proofs.HasLemmas.{flat_map_joined, flat_map_map, flat_map_flat_map, map_flat_map}
use Rattle.php_places.specs.Over.{over}
use Rattle.php_places.specs.Faults.{use_faults, outside, faults_at}
use Rattle.php_bodies.specs.Sites.{expression_faults, constant_faults, caught_faults, void_faults, declared_faults}
use Rattle.php_bodies.proofs.OwnBridge.{none_outside}
use Rattle.php_forms.specs.MemberFaults.{bodies_in, modifiers_in, properties_in, rules_in, words_in, values_in, constants_in, member_faults}
use Rattle.php_forms.specs.Promise.{form_kinds}
use Rattle.php_forms.specs.Bodies.{met_item_bodies}
use Rattle.php_forms.specs.ClassFaults.{met_item_class}
use Rattle.php_forms.specs.Items.{met_item_signatures, met_item_members}
use Rattle.php_forms.proofs.Subs.{Sub, sub_same, sub_behind, sub_left, sub_right, sub_all, sub_join, sub_apart, sub_first, sub_second, sub_map, sub_map_join, flat_where}
use Rattle.php_forms.proofs.SignatureLemmas.{defaults_faults, constants_faults, types_faults, params_faults, signature_faults, signatures_met}
use Rattle.php_forms.proofs.MemberLemmas.{those_faults, members_met}
use Rattle.php_forms.proofs.BodyLemmas.{faults_of_site, bodies_met, skip_strict}
use Rattle.php_forms.proofs.ClassLemmas.{words_faults, names_faults, class_faults, classes_met}

-- ---- lists

flat_same : {A B : Type 0} (f g : A → List B) → ((x : A) → f x ≡ g x) → (xs : List A) → flat_map f xs ≡ flat_map g xs
flat_same f g same [] = refl
flat_same f g same (x ∷ xs) = ap (λ ys. ys ++ flat_map f xs) (same x) ∙ ap (λ ys. g x ++ ys) (flat_same f g same xs)

abbrev bad_word : Note → Fault
bad_word at = fault_at kind.BadUse at

-- ---- the faults of an expression with its scope, kind by kind

abbrev no_place_at : Placed Note → List Fault
no_place_at x = where_true (not (fits x.expression.use_of x.expression.tree)) (fault_at kind.NoPlace (first_note x.expression.tree))

abbrev bad_list_at : Placed Note → List Fault
bad_list_at x = where_true (is_bad_list x.expression.use_of x.expression.tree) (fault_at kind.BadList (first_note x.expression.tree))

abbrev yields_at : Placed Note → List Fault
yields_at x = outside x.scope.in_function (yields x.expression.tree)

abbrev inner_at : Placed Note → List Fault
inner_at x = outside x.scope.in_class (inner_words x.expression.tree)

abbrev placed_faults : Placed Note → List Fault
placed_faults x = (no_place_at x ++ bad_list_at x) ++ (yields_at x ++ inner_at x)

-- ---- those of a statement with its scope

abbrev site_expressions : Site Note → List Fault
site_expressions x = expression_faults x.scope (own x.statement)

abbrev site_constants : Site Note → List Fault
site_constants x = flat_map constant_faults (own_constants x.statement)

abbrev site_caught : Site Note → List Fault
site_caught x = caught_faults x.scope.in_class x.statement

abbrev site_void : Site Note → List Fault
site_void x = void_faults x.scope x.statement

abbrev site_declared : Site Note → List Fault
site_declared x = declared_faults x.statement

-- ---- members, each with what it is a member of

abbrev Owned : Type 0
Owned = Owner × Member Note

owned : List (Item Note) → List Owned
owned items = flat_map (λ those. map (λ m. (those.owner, m)) those.members) (all_members items)

spread : {B : Type 0} (F : Owner → Member Note → List B) (items : List (Item Note)) → flat_map (λ those. flat_map (F those.owner) those.members) (all_members items) ≡ flat_map (λ x. F x.0 x.1) (owned items)
unfolding owned
spread F items =
    sym (flat_map_flat_map (λ x. F x.0 x.1) (λ those. map (λ m. (those.owner, m)) those.members) (all_members items)
    ∙ flat_same (λ those. flat_map (λ x. F x.0 x.1) (map (λ m. (those.owner, m)) those.members)) (λ those. flat_map (F those.owner) those.members)
    (λ those. flat_map_map (λ x. F x.0 x.1) (λ m. (those.owner, m)) those.members) (all_members items))

properties_same : (those : Members Note) → flat_map (properties_in those.owner) those.members ≡ flat_map (λ member. map (λ x. x.name.note) (properties_of member)) (of_interfaces those)
properties_same those = by_owner those.owner those.members
  where
    none : (members : List (Member Note)) → flat_map (properties_in of_a_class) members ≡ []
    none [] = refl
    none (m ∷ ms) = none ms

    by_owner : (owner : Owner) (members : List (Member Note))
        → flat_map (properties_in owner) members ≡ flat_map (λ member. map (λ x. x.name.note) (properties_of member)) (of_interfaces (record { owner = owner; members = members }))
    by_owner of_a_class members = none members
    by_owner of_an_interface members = refl

bodies_are : (items : List (Item Note)) → bad_bodies items ≡ flat_map (λ x. bodies_in x.0 x.1) (owned items)
bodies_are items = spread bodies_in items

rules_are : (items : List (Item Note)) → empty_rules items ≡ flat_map (λ x. rules_in x.0 x.1) (owned items)
rules_are items = spread rules_in items

properties_are : (items : List (Item Note)) → properties_of_interfaces items ≡ flat_map (λ x. properties_in x.0 x.1) (owned items)
properties_are items =
    sym (flat_same (λ those. flat_map (properties_in those.owner) those.members) (λ those. flat_map (λ member. map (λ x. x.name.note) (properties_of member)) (of_interfaces those)) properties_same (all_members items))
    ∙ spread properties_in items

-- ---- expressions of a script

in_place : (scope : Scope) (es : List (Used Note)) → flat_map placed_faults (placed_in scope es) ≡ expression_faults scope es
in_place scope es = flat_map_map placed_faults (λ x. record { scope = scope; expression = x }) (flat_map all_used es)

values_apart : {A : Type 0} (scope : Scope) (f : A → List (Tree Note)) (xs : List A) → expression_faults scope (as_values (flat_map f xs)) ≡ flat_map (λ x. expression_faults scope (as_values (f x))) xs
values_apart scope f xs =
    ap (λ us. flat_map (faults_at scope) (flat_map all_used us)) (map_flat_map (used valued) f xs)
    ∙ ap (flat_map (faults_at scope)) (flat_map_flat_map all_used (λ x. map (used valued) (f x)) xs) ∙ flat_map_flat_map (faults_at scope) (λ x. flat_map all_used (map (used valued) (f x))) xs

abbrev of_sites : List (Item Note) → List (Placed Note)
of_sites items = flat_map (λ site. placed_in site.scope (own site.statement)) (sites items)

abbrev of_signatures : List (Item Note) → List (Placed Note)
of_signatures items = flat_map (λ s. placed_in (signature_scope s.in_class) (as_values (defaults_of s.signature))) (signatures items)

abbrev of_members : List (Item Note) → List (Placed Note)
of_members items = placed_in class_scope (as_values (all_member_values items))

sites_are : (items : List (Item Note)) → flat_map placed_faults (of_sites items) ≡ flat_map site_expressions (sites items)
sites_are items =
    flat_map_flat_map placed_faults (λ site. placed_in site.scope (own site.statement)) (sites items)
    ∙ flat_same (λ site. flat_map placed_faults (placed_in site.scope (own site.statement))) site_expressions (λ site. in_place site.scope (own site.statement)) (sites items)

signatures_are : (items : List (Item Note)) → flat_map placed_faults (of_signatures items) ≡ flat_map defaults_faults (signatures items)
signatures_are items =
    flat_map_flat_map placed_faults (λ s. placed_in (signature_scope s.in_class) (as_values (defaults_of s.signature))) (signatures items)
    ∙ flat_same (λ s. flat_map placed_faults (placed_in (signature_scope s.in_class) (as_values (defaults_of s.signature)))) defaults_faults
    (λ s. in_place (signature_scope s.in_class) (as_values (defaults_of s.signature))) (signatures items)

members_are : (items : List (Item Note)) → flat_map placed_faults (of_members items) ≡ flat_map (λ x. values_in x.0 x.1) (owned items)
members_are items =
    in_place class_scope (as_values (all_member_values items))
    ∙ ap (λ ts. expression_faults class_scope (as_values ts)) (spread (λ owner m. member_values m) items) ∙ values_apart class_scope (λ x. member_values x.1) (owned items)

constant_members_are : (items : List (Item Note)) → flat_map constant_faults (all_member_values items) ≡ flat_map (λ x. constants_in x.0 x.1) (owned items)
constant_members_are items =
    ap (flat_map constant_faults) (spread (λ owner m. member_values m) items) ∙ flat_map_flat_map constant_faults (λ x. member_values x.1) (owned items)

-- ---- without a declaration of strict types

skip_expressions : (items : List (Item Note)) → flat_map site_expressions (sites items) ≡ flat_map site_expressions (sites (behind_strict_types items))
skip_expressions items = skip_strict site_expressions (λ scope around at name n. refl) items

skip_constants : (items : List (Item Note)) → flat_map site_constants (sites items) ≡ flat_map site_constants (sites (behind_strict_types items))
skip_constants items = skip_strict site_constants (λ scope around at name n. refl) items

skip_caught : (items : List (Item Note)) → flat_map site_caught (sites items) ≡ flat_map site_caught (sites (behind_strict_types items))
skip_caught items = skip_strict site_caught (λ scope around at name n. none_outside scope.in_class) items

skip_void : (items : List (Item Note)) → flat_map site_void (sites items) ≡ flat_map site_void (sites (behind_strict_types items))
skip_void items = skip_strict site_void (λ scope around at name n. none_outside (not scope.is_void)) items

-- ---- names of classes

taken_apart : (names : List (List ℕ)) (items : List (Item Note)) → taken names (flat_map class_name items) ≡ flat_map (λ item. taken names (class_name item)) items
taken_apart names [] = refl
taken_apart names (item ∷ items) = filter-append (λ n. is_one_of names n.text) (class_name item) (flat_map class_name items) ∙ ap (λ ns. taken names (class_name item) ++ ns) (taken_apart names items)

names_are : (items : List (Item Note)) → map bad_word (reserved_classes items) ≡ flat_map names_faults items
names_are items =
    ap (λ ns. map bad_word (map (λ n. n.note) ns)) (taken_apart no_class_names items)
    ∙ ap (map bad_word) (map_flat_map (λ n. n.note) (λ item. taken no_class_names (class_name item)) items)
    ∙ map_flat_map bad_word (λ item. map (λ n. n.note) (taken no_class_names (class_name item))) items

-- ---- all that the walk meets

abbrev by_parts : List (Item Note) → List Fault
by_parts items =
    flat_map faults_of_site (sites (behind_strict_types items))
    ++ (flat_map signature_faults (signatures items) ++ (flat_map those_faults (all_members items) ++ flat_map class_faults items))

in_sites : (items : List (Item Note)) (xs : List Fault) → Sub xs (flat_map faults_of_site (sites (behind_strict_types items))) → Sub xs (by_parts items)
in_sites items xs one =
    sub_left xs (flat_map faults_of_site (sites (behind_strict_types items)))
    (flat_map signature_faults (signatures items) ++ (flat_map those_faults (all_members items) ++ flat_map class_faults items)) one

in_signatures : (items : List (Item Note)) (xs : List Fault) → Sub xs (flat_map signature_faults (signatures items)) → Sub xs (by_parts items)
in_signatures items xs one =
    sub_right xs (flat_map faults_of_site (sites (behind_strict_types items)))
    (flat_map signature_faults (signatures items) ++ (flat_map those_faults (all_members items) ++ flat_map class_faults items))
    (sub_left xs (flat_map signature_faults (signatures items)) (flat_map those_faults (all_members items) ++ flat_map class_faults items) one)

in_members : (items : List (Item Note)) (xs : List Fault) → Sub xs (flat_map (λ x. member_faults x.0 x.1) (owned items)) → Sub xs (by_parts items)
in_members items xs one =
    sub_right xs (flat_map faults_of_site (sites (behind_strict_types items)))
    (flat_map signature_faults (signatures items) ++ (flat_map those_faults (all_members items) ++ flat_map class_faults items))
    (sub_right xs (flat_map signature_faults (signatures items)) (flat_map those_faults (all_members items) ++ flat_map class_faults items)
    (sub_left xs (flat_map those_faults (all_members items)) (flat_map class_faults items)
    (sub_behind xs (flat_map (λ x. member_faults x.0 x.1) (owned items)) (flat_map those_faults (all_members items)) one
    (sub_same (flat_map (λ x. member_faults x.0 x.1) (owned items)) (flat_map those_faults (all_members items)) (sym (spread member_faults items))))))

in_classes : (items : List (Item Note)) (xs : List Fault) → Sub xs (flat_map class_faults items) → Sub xs (by_parts items)
in_classes items xs one =
    sub_right xs (flat_map faults_of_site (sites (behind_strict_types items)))
    (flat_map signature_faults (signatures items) ++ (flat_map those_faults (all_members items) ++ flat_map class_faults items))
    (sub_right xs (flat_map signature_faults (signatures items)) (flat_map those_faults (all_members items) ++ flat_map class_faults items)
    (sub_right xs (flat_map those_faults (all_members items)) (flat_map class_faults items) one))

-- the parts of a statement

abbrev site_words : Site Note → List Fault
site_words x = site_caught x ++ (site_void x ++ site_declared x)

has_expressions : (items : List (Item Note)) → Sub (flat_map site_expressions (sites items)) (by_parts items)
has_expressions items =
    in_sites items (flat_map site_expressions (sites items))
    (sub_first site_expressions (λ x. site_constants x ++ site_words x) (sites (behind_strict_types items)) (flat_map site_expressions (sites items))
    (sub_same (flat_map site_expressions (sites items)) (flat_map site_expressions (sites (behind_strict_types items))) (skip_expressions items)))

has_constants : (items : List (Item Note)) → Sub (flat_map site_constants (sites items)) (by_parts items)
has_constants items =
    in_sites items (flat_map site_constants (sites items))
    (sub_second site_expressions (λ x. site_constants x ++ site_words x) (sites (behind_strict_types items)) (flat_map site_constants (sites items))
    (sub_first site_constants site_words (sites (behind_strict_types items)) (flat_map site_constants (sites items))
    (sub_same (flat_map site_constants (sites items)) (flat_map site_constants (sites (behind_strict_types items))) (skip_constants items))))

has_words : (items : List (Item Note)) (xs : List Fault) → Sub xs (flat_map site_words (sites (behind_strict_types items))) → Sub xs (by_parts items)
has_words items xs one =
    in_sites items xs
    (sub_second site_expressions (λ x. site_constants x ++ site_words x) (sites (behind_strict_types items)) xs (sub_second site_constants site_words (sites (behind_strict_types items)) xs one))

has_caught : (items : List (Item Note)) → Sub (flat_map site_caught (sites items)) (by_parts items)
has_caught items =
    has_words items (flat_map site_caught (sites items))
    (sub_first site_caught (λ x. site_void x ++ site_declared x) (sites (behind_strict_types items)) (flat_map site_caught (sites items))
    (sub_same (flat_map site_caught (sites items)) (flat_map site_caught (sites (behind_strict_types items))) (skip_caught items)))

has_void : (items : List (Item Note)) → Sub (flat_map site_void (sites items)) (by_parts items)
has_void items =
    has_words items (flat_map site_void (sites items))
    (sub_second site_caught (λ x. site_void x ++ site_declared x) (sites (behind_strict_types items)) (flat_map site_void (sites items))
    (sub_first site_void site_declared (sites (behind_strict_types items)) (flat_map site_void (sites items))
    (sub_same (flat_map site_void (sites items)) (flat_map site_void (sites (behind_strict_types items))) (skip_void items))))

has_declared : (items : List (Item Note)) → Sub (flat_map site_declared (sites (behind_strict_types items))) (by_parts items)
has_declared items =
    has_words items (flat_map site_declared (sites (behind_strict_types items)))
    (sub_second site_caught (λ x. site_void x ++ site_declared x) (sites (behind_strict_types items)) (flat_map site_declared (sites (behind_strict_types items)))
    (sub_second site_void site_declared (sites (behind_strict_types items)) (flat_map site_declared (sites (behind_strict_types items)))
    (sub_all (flat_map site_declared (sites (behind_strict_types items))))))

-- the parts of a signature

has_defaults : (items : List (Item Note)) → Sub (flat_map defaults_faults (signatures items)) (by_parts items)
has_defaults items =
    in_signatures items (flat_map defaults_faults (signatures items))
    (sub_first defaults_faults (λ s. constants_faults s ++ (types_faults s ++ params_faults s)) (signatures items) (flat_map defaults_faults (signatures items)) (sub_all (flat_map defaults_faults (signatures items))))

has_constant_defaults : (items : List (Item Note)) → Sub (flat_map constants_faults (signatures items)) (by_parts items)
has_constant_defaults items =
    in_signatures items (flat_map constants_faults (signatures items))
    (sub_second defaults_faults (λ s. constants_faults s ++ (types_faults s ++ params_faults s)) (signatures items) (flat_map constants_faults (signatures items))
    (sub_first constants_faults (λ s. types_faults s ++ params_faults s) (signatures items) (flat_map constants_faults (signatures items)) (sub_all (flat_map constants_faults (signatures items)))))

has_types : (items : List (Item Note)) → Sub (flat_map types_faults (signatures items)) (by_parts items)
has_types items =
    in_signatures items (flat_map types_faults (signatures items))
    (sub_second defaults_faults (λ s. constants_faults s ++ (types_faults s ++ params_faults s)) (signatures items) (flat_map types_faults (signatures items))
    (sub_second constants_faults (λ s. types_faults s ++ params_faults s) (signatures items) (flat_map types_faults (signatures items))
    (sub_first types_faults params_faults (signatures items) (flat_map types_faults (signatures items)) (sub_all (flat_map types_faults (signatures items))))))

has_params : (items : List (Item Note)) → Sub (flat_map params_faults (signatures items)) (by_parts items)
has_params items =
    in_signatures items (flat_map params_faults (signatures items))
    (sub_second defaults_faults (λ s. constants_faults s ++ (types_faults s ++ params_faults s)) (signatures items) (flat_map params_faults (signatures items))
    (sub_second constants_faults (λ s. types_faults s ++ params_faults s) (signatures items) (flat_map params_faults (signatures items))
    (sub_second types_faults params_faults (signatures items) (flat_map params_faults (signatures items)) (sub_all (flat_map params_faults (signatures items))))))

-- the parts of a member

abbrev values_of : Owned → List Fault
values_of x = values_in x.0 x.1

abbrev constants_of : Owned → List Fault
constants_of x = constants_in x.0 x.1

abbrev words_of : Owned → List Fault
words_of x = map bad_word (words_in x.0 x.1)

abbrev bodies_of : Owned → List Note
bodies_of x = bodies_in x.0 x.1

abbrev modifiers_of : Owned → List Note
modifiers_of x = modifiers_in x.0 x.1

abbrev properties_of_owned : Owned → List Note
properties_of_owned x = properties_in x.0 x.1

abbrev rules_of : Owned → List Note
rules_of x = rules_in x.0 x.1

abbrev all_words_of : Owned → List Note
all_words_of x = bodies_of x ++ (modifiers_of x ++ (properties_of_owned x ++ rules_of x))

has_values : (items : List (Item Note)) → Sub (flat_map values_of (owned items)) (by_parts items)
has_values items =
    in_members items (flat_map values_of (owned items))
    (sub_first values_of (λ x. constants_of x ++ words_of x) (owned items) (flat_map values_of (owned items)) (sub_all (flat_map values_of (owned items))))

has_constant_values : (items : List (Item Note)) → Sub (flat_map constants_of (owned items)) (by_parts items)
has_constant_values items =
    in_members items (flat_map constants_of (owned items))
    (sub_second values_of (λ x. constants_of x ++ words_of x) (owned items) (flat_map constants_of (owned items))
    (sub_first constants_of words_of (owned items) (flat_map constants_of (owned items)) (sub_all (flat_map constants_of (owned items)))))

has_member_words : (items : List (Item Note)) (ws : List Note) → Sub ws (flat_map all_words_of (owned items)) → Sub (map bad_word ws) (by_parts items)
has_member_words items ws one =
    in_members items (map bad_word ws)
    (sub_second values_of (λ x. constants_of x ++ words_of x) (owned items) (map bad_word ws)
    (sub_second constants_of words_of (owned items) (map bad_word ws)
    (sub_behind (map bad_word ws) (map bad_word (flat_map all_words_of (owned items))) (flat_map words_of (owned items)) (sub_map bad_word ws (flat_map all_words_of (owned items)) one)
    (sub_same (map bad_word (flat_map all_words_of (owned items))) (flat_map words_of (owned items)) (map_flat_map bad_word all_words_of (owned items))))))

has_bodies : (items : List (Item Note)) → Sub (map bad_word (bad_bodies items)) (by_parts items)
has_bodies items =
    has_member_words items (bad_bodies items)
    (sub_first bodies_of (λ x. modifiers_of x ++ (properties_of_owned x ++ rules_of x)) (owned items) (bad_bodies items) (sub_same (bad_bodies items) (flat_map bodies_of (owned items)) (bodies_are items)))

abbrev member_modifiers : List (Item Note) → List Note
member_modifiers items = flat_map (λ those. flat_map (modifiers_in those.owner) those.members) (all_members items)

has_modifiers : (items : List (Item Note)) → Sub (map bad_word (member_modifiers items)) (by_parts items)
has_modifiers items =
    has_member_words items (member_modifiers items)
    (sub_second bodies_of (λ x. modifiers_of x ++ (properties_of_owned x ++ rules_of x)) (owned items) (member_modifiers items)
    (sub_first modifiers_of (λ x. properties_of_owned x ++ rules_of x) (owned items) (member_modifiers items)
    (sub_same (member_modifiers items) (flat_map modifiers_of (owned items)) (spread modifiers_in items))))

has_properties : (items : List (Item Note)) → Sub (map bad_word (properties_of_interfaces items)) (by_parts items)
has_properties items =
    has_member_words items (properties_of_interfaces items)
    (sub_second bodies_of (λ x. modifiers_of x ++ (properties_of_owned x ++ rules_of x)) (owned items) (properties_of_interfaces items)
    (sub_second modifiers_of (λ x. properties_of_owned x ++ rules_of x) (owned items) (properties_of_interfaces items)
    (sub_first properties_of_owned rules_of (owned items) (properties_of_interfaces items)
    (sub_same (properties_of_interfaces items) (flat_map properties_of_owned (owned items)) (properties_are items)))))

has_rules : (items : List (Item Note)) → Sub (map bad_word (empty_rules items)) (by_parts items)
has_rules items =
    has_member_words items (empty_rules items)
    (sub_second bodies_of (λ x. modifiers_of x ++ (properties_of_owned x ++ rules_of x)) (owned items) (empty_rules items)
    (sub_second modifiers_of (λ x. properties_of_owned x ++ rules_of x) (owned items) (empty_rules items)
    (sub_second properties_of_owned rules_of (owned items) (empty_rules items) (sub_same (empty_rules items) (flat_map rules_of (owned items)) (rules_are items)))))

-- ---- all that the definition lists is met

has_placed : (items : List (Item Note)) → Sub (flat_map placed_faults (expressions items)) (by_parts items)
has_placed items =
    sub_behind (flat_map placed_faults (expressions items))
    ((flat_map placed_faults (of_sites items) ++ flat_map placed_faults (of_signatures items)) ++ flat_map placed_faults (of_members items)) (by_parts items)
    (sub_same (flat_map placed_faults (expressions items))
    ((flat_map placed_faults (of_sites items) ++ flat_map placed_faults (of_signatures items)) ++ flat_map placed_faults (of_members items))
    (flat_map_joined placed_faults (of_sites items ++ of_signatures items) (of_members items)
    ∙ ap (λ fs. fs ++ flat_map placed_faults (of_members items)) (flat_map_joined placed_faults (of_sites items) (of_signatures items))))
    (sub_join (flat_map placed_faults (of_sites items) ++ flat_map placed_faults (of_signatures items)) (flat_map placed_faults (of_members items)) (by_parts items)
    (sub_join (flat_map placed_faults (of_sites items)) (flat_map placed_faults (of_signatures items)) (by_parts items)
    (sub_behind (flat_map placed_faults (of_sites items)) (flat_map site_expressions (sites items)) (by_parts items)
    (sub_same (flat_map placed_faults (of_sites items)) (flat_map site_expressions (sites items)) (sites_are items)) (has_expressions items))
    (sub_behind (flat_map placed_faults (of_signatures items)) (flat_map defaults_faults (signatures items)) (by_parts items)
    (sub_same (flat_map placed_faults (of_signatures items)) (flat_map defaults_faults (signatures items)) (signatures_are items)) (has_defaults items)))
    (sub_behind (flat_map placed_faults (of_members items)) (flat_map values_of (owned items)) (by_parts items)
    (sub_same (flat_map placed_faults (of_members items)) (flat_map values_of (owned items)) (members_are items)) (has_values items)))

placed_kind : (items : List (Item Note)) (xs : List Fault) → Sub xs (flat_map placed_faults (expressions items)) → Sub xs (by_parts items)
placed_kind items xs one = sub_behind xs (flat_map placed_faults (expressions items)) (by_parts items) one (has_placed items)

abbrev places_and_lists : Placed Note → List Fault
places_and_lists x = no_place_at x ++ bad_list_at x

abbrev words_at : Placed Note → List Fault
words_at x = yields_at x ++ inner_at x

has_no_place : (items : List (Item Note)) → Sub (map (fault_at kind.NoPlace) (no_place items)) (by_parts items)
has_no_place items =
    placed_kind items (map (fault_at kind.NoPlace) (no_place items))
    (sub_first places_and_lists words_at (expressions items) (map (fault_at kind.NoPlace) (no_place items))
    (sub_first no_place_at bad_list_at (expressions items) (map (fault_at kind.NoPlace) (no_place items))
    (sub_same (map (fault_at kind.NoPlace) (no_place items)) (flat_map no_place_at (expressions items))
    (sym (flat_where (fault_at kind.NoPlace) (λ x. not (fits x.expression.use_of x.expression.tree)) (λ x. first_note x.expression.tree) (expressions items))))))

has_bad_list : (items : List (Item Note)) → Sub (map (fault_at kind.BadList) (bad_list items)) (by_parts items)
has_bad_list items =
    placed_kind items (map (fault_at kind.BadList) (bad_list items))
    (sub_first places_and_lists words_at (expressions items) (map (fault_at kind.BadList) (bad_list items))
    (sub_second no_place_at bad_list_at (expressions items) (map (fault_at kind.BadList) (bad_list items))
    (sub_same (map (fault_at kind.BadList) (bad_list items)) (flat_map bad_list_at (expressions items))
    (sym (flat_where (fault_at kind.BadList) (λ x. is_bad_list x.expression.use_of x.expression.tree) (λ x. first_note x.expression.tree) (expressions items))))))

abbrev constant_sites : List (Item Note) → List (Tree Note)
constant_sites items = flat_map (λ site. own_constants site.statement) (sites items)

abbrev constant_defaults : List (Item Note) → List (Tree Note)
constant_defaults items = flat_map (λ s. defaults_of s.signature) (signatures items)

constants_apart : (items : List (Item Note)) → flat_map constant_faults (constant_expressions items)
    ≡ (flat_map site_constants (sites items) ++ flat_map constants_faults (signatures items)) ++ flat_map constants_of (owned items)
constants_apart items =
    flat_map_joined constant_faults (constant_sites items ++ constant_defaults items) (all_member_values items)
    ∙ ap (λ fs. fs ++ flat_map constant_faults (all_member_values items))
    (flat_map_joined constant_faults (constant_sites items) (constant_defaults items)
    ∙ ap (λ fs. fs ++ flat_map constant_faults (constant_defaults items)) (flat_map_flat_map constant_faults (λ site. own_constants site.statement) (sites items))
    ∙ ap (λ fs. flat_map site_constants (sites items) ++ fs) (flat_map_flat_map constant_faults (λ s. defaults_of s.signature) (signatures items)))
    ∙ ap (λ fs. (flat_map site_constants (sites items) ++ flat_map constants_faults (signatures items)) ++ fs) (constant_members_are items)

no_constant_is : (items : List (Item Note)) → map (fault_at kind.NoConstant) (no_constant items) ≡ flat_map constant_faults (constant_expressions items)
no_constant_is items = sym (flat_where (fault_at kind.NoConstant) (λ e. not (is_constant e)) (λ e. first_note e) (constant_expressions items))

has_no_constant : (items : List (Item Note)) → Sub (map (fault_at kind.NoConstant) (no_constant items)) (by_parts items)
has_no_constant items =
    sub_behind (map (fault_at kind.NoConstant) (no_constant items)) ((flat_map site_constants (sites items) ++ flat_map constants_faults (signatures items)) ++ flat_map constants_of (owned items)) (by_parts items)
    (sub_same (map (fault_at kind.NoConstant) (no_constant items)) ((flat_map site_constants (sites items) ++ flat_map constants_faults (signatures items)) ++ flat_map constants_of (owned items))
    (no_constant_is items ∙ constants_apart items))
    (sub_join (flat_map site_constants (sites items) ++ flat_map constants_faults (signatures items)) (flat_map constants_of (owned items)) (by_parts items)
    (sub_join (flat_map site_constants (sites items)) (flat_map constants_faults (signatures items)) (by_parts items) (has_constants items) (has_constant_defaults items)) (has_constant_values items))

-- ---- bad uses

abbrev inner_expressions : List (Item Note) → List Note
inner_expressions items = flat_map (λ x. unless x.scope.in_class (inner_words x.expression.tree)) (expressions items)

abbrev inner_types : List (Item Note) → List Note
inner_types items = flat_map (λ s. unless s.in_class (flat_map (λ t. inner_base t.base) (types_of s.signature))) (signatures items)

abbrev inner_caught : List (Item Note) → List Note
inner_caught items = flat_map (λ site. unless site.scope.in_class (flat_map inner_name (caught site.statement))) (sites items)

abbrev class_modifiers : List (Item Note) → List Note
class_modifiers items = flat_map (λ item. clashing_words (class_words item)) items

yields_are : (items : List (Item Note)) → map bad_word (yields_outside items) ≡ flat_map yields_at (expressions items)
yields_are items = map_flat_map bad_word (λ x. unless x.scope.in_function (yields x.expression.tree)) (expressions items)

inner_expressions_are : (items : List (Item Note)) → map bad_word (inner_expressions items) ≡ flat_map inner_at (expressions items)
inner_expressions_are items = map_flat_map bad_word (λ x. unless x.scope.in_class (inner_words x.expression.tree)) (expressions items)

inner_types_are : (items : List (Item Note)) → map bad_word (inner_types items) ≡ flat_map types_faults (signatures items)
inner_types_are items = map_flat_map bad_word (λ s. unless s.in_class (flat_map (λ t. inner_base t.base) (types_of s.signature))) (signatures items)

inner_caught_are : (items : List (Item Note)) → map bad_word (inner_caught items) ≡ flat_map site_caught (sites items)
inner_caught_are items = map_flat_map bad_word (λ site. unless site.scope.in_class (flat_map inner_name (caught site.statement))) (sites items)

class_modifiers_are : (items : List (Item Note)) → map bad_word (class_modifiers items) ≡ flat_map words_faults items
class_modifiers_are items = map_flat_map bad_word (λ item. clashing_words (class_words item)) items

parameters_are : (items : List (Item Note)) → map bad_word (bad_parameters items) ≡ flat_map params_faults (signatures items)
parameters_are items = map_flat_map bad_word (λ s. bad_params false (elements s.signature.params)) (signatures items)

declarations_are : (items : List (Item Note)) → map bad_word (misplaced_declarations items) ≡ flat_map site_declared (sites (behind_strict_types items))
declarations_are items = map_flat_map bad_word (λ site. declaration_at site.statement) (sites (behind_strict_types items))

returns_are : (items : List (Item Note)) → map bad_word (returns_from_void items) ≡ flat_map site_void (sites items)
returns_are items = map_flat_map bad_word (λ site. unless (not site.scope.is_void) (void_return site.statement)) (sites items)

-- what equals a list that is met
met_as : (items : List (Item Note)) (xs ys : List Fault) → xs ≡ ys → Sub ys (by_parts items) → Sub xs (by_parts items)
met_as items xs ys same one = sub_behind xs ys (by_parts items) (sub_same xs ys same) one

has_yields : (items : List (Item Note)) → Sub (map bad_word (yields_outside items)) (by_parts items)
has_yields items =
    met_as items (map bad_word (yields_outside items)) (flat_map yields_at (expressions items)) (yields_are items)
    (placed_kind items (flat_map yields_at (expressions items))
    (sub_second places_and_lists words_at (expressions items) (flat_map yields_at (expressions items))
    (sub_first yields_at inner_at (expressions items) (flat_map yields_at (expressions items)) (sub_all (flat_map yields_at (expressions items))))))

has_inner_expressions : (items : List (Item Note)) → Sub (map bad_word (inner_expressions items)) (by_parts items)
has_inner_expressions items =
    met_as items (map bad_word (inner_expressions items)) (flat_map inner_at (expressions items)) (inner_expressions_are items)
    (placed_kind items (flat_map inner_at (expressions items))
    (sub_second places_and_lists words_at (expressions items) (flat_map inner_at (expressions items))
    (sub_second yields_at inner_at (expressions items) (flat_map inner_at (expressions items)) (sub_all (flat_map inner_at (expressions items))))))

has_inner : (items : List (Item Note)) → Sub (map bad_word (inner_words_outside items)) (by_parts items)
has_inner items =
    sub_map_join bad_word (inner_expressions items ++ inner_types items) (inner_caught items) (by_parts items)
    (sub_map_join bad_word (inner_expressions items) (inner_types items) (by_parts items) (has_inner_expressions items)
    (met_as items (map bad_word (inner_types items)) (flat_map types_faults (signatures items)) (inner_types_are items) (has_types items)))
    (met_as items (map bad_word (inner_caught items)) (flat_map site_caught (sites items)) (inner_caught_are items) (has_caught items))

has_all_modifiers : (items : List (Item Note)) → Sub (map bad_word (bad_modifiers items)) (by_parts items)
has_all_modifiers items =
    sub_map_join bad_word (class_modifiers items) (member_modifiers items) (by_parts items)
    (met_as items (map bad_word (class_modifiers items)) (flat_map words_faults items) (class_modifiers_are items)
    (in_classes items (flat_map words_faults items) (sub_first words_faults names_faults items (flat_map words_faults items) (sub_all (flat_map words_faults items)))))
    (has_modifiers items)

has_names : (items : List (Item Note)) → Sub (map bad_word (reserved_classes items)) (by_parts items)
has_names items =
    met_as items (map bad_word (reserved_classes items)) (flat_map names_faults items) (names_are items)
    (in_classes items (flat_map names_faults items) (sub_second words_faults names_faults items (flat_map names_faults items) (sub_all (flat_map names_faults items))))

abbrev use_2 : List (Item Note) → List Note
use_2 items = yields_outside items ++ inner_words_outside items

abbrev use_3 : List (Item Note) → List Note
use_3 items = use_2 items ++ bad_bodies items

abbrev use_4 : List (Item Note) → List Note
use_4 items = use_3 items ++ bad_modifiers items

abbrev use_5 : List (Item Note) → List Note
use_5 items = use_4 items ++ properties_of_interfaces items

abbrev use_6 : List (Item Note) → List Note
use_6 items = use_5 items ++ bad_parameters items

abbrev use_7 : List (Item Note) → List Note
use_7 items = use_6 items ++ misplaced_declarations items

abbrev use_8 : List (Item Note) → List Note
use_8 items = use_7 items ++ returns_from_void items

abbrev use_9 : List (Item Note) → List Note
use_9 items = use_8 items ++ empty_rules items

has_bad_use : (items : List (Item Note)) → Sub (map bad_word (bad_use items)) (by_parts items)
has_bad_use items =
    sub_map_join bad_word (use_9 items) (reserved_classes items) (by_parts items)
    (sub_map_join bad_word (use_8 items) (empty_rules items) (by_parts items)
    (sub_map_join bad_word (use_7 items) (returns_from_void items) (by_parts items)
    (sub_map_join bad_word (use_6 items) (misplaced_declarations items) (by_parts items)
    (sub_map_join bad_word (use_5 items) (bad_parameters items) (by_parts items)
    (sub_map_join bad_word (use_4 items) (properties_of_interfaces items) (by_parts items)
    (sub_map_join bad_word (use_3 items) (bad_modifiers items) (by_parts items)
    (sub_map_join bad_word (use_2 items) (bad_bodies items) (by_parts items)
    (sub_map_join bad_word (yields_outside items) (inner_words_outside items) (by_parts items) (has_yields items) (has_inner items)) (has_bodies items)) (has_all_modifiers items))
    (has_properties items)) (met_as items (map bad_word (bad_parameters items)) (flat_map params_faults (signatures items)) (parameters_are items) (has_params items)))
    (met_as items (map bad_word (misplaced_declarations items)) (flat_map site_declared (sites (behind_strict_types items))) (declarations_are items) (has_declared items)))
    (met_as items (map bad_word (returns_from_void items)) (flat_map site_void (sites items)) (returns_are items) (has_void items))) (has_rules items)) (has_names items)

-- ---- by kinds

abbrev by_kinds : List (Item Note) → List Fault
by_kinds items =
    map (fault_at kind.NoPlace) (no_place items)
    ++ (map (fault_at kind.NoConstant) (no_constant items) ++ (map (fault_at kind.BadList) (bad_list items) ++ (map (fault_at kind.BadUse) (bad_use items) ++ [])))

kinds_are : (items : List (Item Note)) → faults_of_kinds form_kinds items ≡ by_kinds items
unfolding places_of
kinds_are items = refl

nothing_has : (xs : List Fault) → Sub [] xs
nothing_has xs b has = absurd has

kinds_in_parts : (items : List (Item Note)) → Sub (by_kinds items) (by_parts items)
kinds_in_parts items =
    sub_join (map (fault_at kind.NoPlace) (no_place items)) (map (fault_at kind.NoConstant) (no_constant items) ++ (map (fault_at kind.BadList) (bad_list items) ++ (map (fault_at kind.BadUse) (bad_use items) ++ [])))
    (by_parts items) (has_no_place items)
    (sub_join (map (fault_at kind.NoConstant) (no_constant items)) (map (fault_at kind.BadList) (bad_list items) ++ (map (fault_at kind.BadUse) (bad_use items) ++ [])) (by_parts items) (has_no_constant items)
    (sub_join (map (fault_at kind.BadList) (bad_list items)) (map (fault_at kind.BadUse) (bad_use items) ++ []) (by_parts items) (has_bad_list items)
    (sub_join (map (fault_at kind.BadUse) (bad_use items)) [] (by_parts items) (has_bad_use items) (nothing_has (by_parts items)))))

-- ---- all that is met is listed by the definition

in_no_place : (items : List (Item Note)) (xs : List Fault) → Sub xs (map (fault_at kind.NoPlace) (no_place items)) → Sub xs (by_kinds items)
in_no_place items xs one =
    sub_left xs (map (fault_at kind.NoPlace) (no_place items)) (map (fault_at kind.NoConstant) (no_constant items) ++ (map (fault_at kind.BadList) (bad_list items) ++ (map (fault_at kind.BadUse) (bad_use items) ++ [])))
    one

in_no_constant : (items : List (Item Note)) (xs : List Fault) → Sub xs (map (fault_at kind.NoConstant) (no_constant items)) → Sub xs (by_kinds items)
in_no_constant items xs one =
    sub_right xs (map (fault_at kind.NoPlace) (no_place items)) (map (fault_at kind.NoConstant) (no_constant items) ++ (map (fault_at kind.BadList) (bad_list items) ++ (map (fault_at kind.BadUse) (bad_use items) ++ [])))
    (sub_left xs (map (fault_at kind.NoConstant) (no_constant items)) (map (fault_at kind.BadList) (bad_list items) ++ (map (fault_at kind.BadUse) (bad_use items) ++ [])) one)

in_bad_list : (items : List (Item Note)) (xs : List Fault) → Sub xs (map (fault_at kind.BadList) (bad_list items)) → Sub xs (by_kinds items)
in_bad_list items xs one =
    sub_right xs (map (fault_at kind.NoPlace) (no_place items)) (map (fault_at kind.NoConstant) (no_constant items) ++ (map (fault_at kind.BadList) (bad_list items) ++ (map (fault_at kind.BadUse) (bad_use items) ++ [])))
    (sub_right xs (map (fault_at kind.NoConstant) (no_constant items)) (map (fault_at kind.BadList) (bad_list items) ++ (map (fault_at kind.BadUse) (bad_use items) ++ []))
    (sub_left xs (map (fault_at kind.BadList) (bad_list items)) (map (fault_at kind.BadUse) (bad_use items) ++ []) one))

in_bad_use : (items : List (Item Note)) (ws : List Note) → Sub ws (bad_use items) → Sub (map bad_word ws) (by_kinds items)
in_bad_use items ws one =
    sub_right (map bad_word ws) (map (fault_at kind.NoPlace) (no_place items)) (map (fault_at kind.NoConstant) (no_constant items) ++ (map (fault_at kind.BadList) (bad_list items) ++ (map (fault_at kind.BadUse) (bad_use items) ++ [])))
    (sub_right (map bad_word ws) (map (fault_at kind.NoConstant) (no_constant items)) (map (fault_at kind.BadList) (bad_list items) ++ (map (fault_at kind.BadUse) (bad_use items) ++ []))
    (sub_right (map bad_word ws) (map (fault_at kind.BadList) (bad_list items)) (map (fault_at kind.BadUse) (bad_use items) ++ [])
    (sub_left (map bad_word ws) (map (fault_at kind.BadUse) (bad_use items)) [] (sub_map bad_word ws (bad_use items) one))))

in_9 : (items : List (Item Note)) (ws : List Note) → Sub ws (use_9 items) → Sub ws (bad_use items)
in_9 items ws one = sub_left ws (use_9 items) (reserved_classes items) one

in_8 : (items : List (Item Note)) (ws : List Note) → Sub ws (use_8 items) → Sub ws (bad_use items)
in_8 items ws one = in_9 items ws (sub_left ws (use_8 items) (empty_rules items) one)

in_7 : (items : List (Item Note)) (ws : List Note) → Sub ws (use_7 items) → Sub ws (bad_use items)
in_7 items ws one = in_8 items ws (sub_left ws (use_7 items) (returns_from_void items) one)

in_6 : (items : List (Item Note)) (ws : List Note) → Sub ws (use_6 items) → Sub ws (bad_use items)
in_6 items ws one = in_7 items ws (sub_left ws (use_6 items) (misplaced_declarations items) one)

in_5 : (items : List (Item Note)) (ws : List Note) → Sub ws (use_5 items) → Sub ws (bad_use items)
in_5 items ws one = in_6 items ws (sub_left ws (use_5 items) (bad_parameters items) one)

in_4 : (items : List (Item Note)) (ws : List Note) → Sub ws (use_4 items) → Sub ws (bad_use items)
in_4 items ws one = in_5 items ws (sub_left ws (use_4 items) (properties_of_interfaces items) one)

in_3 : (items : List (Item Note)) (ws : List Note) → Sub ws (use_3 items) → Sub ws (bad_use items)
in_3 items ws one = in_4 items ws (sub_left ws (use_3 items) (bad_modifiers items) one)

in_2 : (items : List (Item Note)) (ws : List Note) → Sub ws (use_2 items) → Sub ws (bad_use items)
in_2 items ws one = in_3 items ws (sub_left ws (use_2 items) (bad_bodies items) one)

listed_yields : (items : List (Item Note)) → Sub (yields_outside items) (bad_use items)
listed_yields items = in_2 items (yields_outside items) (sub_left (yields_outside items) (yields_outside items) (inner_words_outside items) (sub_all (yields_outside items)))

in_inner : (items : List (Item Note)) (ws : List Note) → Sub ws (inner_words_outside items) → Sub ws (bad_use items)
in_inner items ws one = in_2 items ws (sub_right ws (yields_outside items) (inner_words_outside items) one)

listed_expressions : (items : List (Item Note)) → Sub (inner_expressions items) (bad_use items)
listed_expressions items =
    in_inner items (inner_expressions items)
    (sub_left (inner_expressions items) (inner_expressions items ++ inner_types items) (inner_caught items)
    (sub_left (inner_expressions items) (inner_expressions items) (inner_types items) (sub_all (inner_expressions items))))

listed_types : (items : List (Item Note)) → Sub (inner_types items) (bad_use items)
listed_types items =
    in_inner items (inner_types items)
    (sub_left (inner_types items) (inner_expressions items ++ inner_types items) (inner_caught items)
    (sub_right (inner_types items) (inner_expressions items) (inner_types items) (sub_all (inner_types items))))

listed_caught : (items : List (Item Note)) → Sub (inner_caught items) (bad_use items)
listed_caught items =
    in_inner items (inner_caught items) (sub_right (inner_caught items) (inner_expressions items ++ inner_types items) (inner_caught items) (sub_all (inner_caught items)))

listed_bodies : (items : List (Item Note)) → Sub (bad_bodies items) (bad_use items)
listed_bodies items = in_3 items (bad_bodies items) (sub_right (bad_bodies items) (use_2 items) (bad_bodies items) (sub_all (bad_bodies items)))

in_modifiers : (items : List (Item Note)) (ws : List Note) → Sub ws (bad_modifiers items) → Sub ws (bad_use items)
in_modifiers items ws one = in_4 items ws (sub_right ws (use_3 items) (bad_modifiers items) one)

listed_properties : (items : List (Item Note)) → Sub (properties_of_interfaces items) (bad_use items)
listed_properties items =
    in_5 items (properties_of_interfaces items) (sub_right (properties_of_interfaces items) (use_4 items) (properties_of_interfaces items) (sub_all (properties_of_interfaces items)))

listed_parameters : (items : List (Item Note)) → Sub (bad_parameters items) (bad_use items)
listed_parameters items = in_6 items (bad_parameters items) (sub_right (bad_parameters items) (use_5 items) (bad_parameters items) (sub_all (bad_parameters items)))

listed_declarations : (items : List (Item Note)) → Sub (misplaced_declarations items) (bad_use items)
listed_declarations items =
    in_7 items (misplaced_declarations items) (sub_right (misplaced_declarations items) (use_6 items) (misplaced_declarations items) (sub_all (misplaced_declarations items)))

listed_returns : (items : List (Item Note)) → Sub (returns_from_void items) (bad_use items)
listed_returns items = in_8 items (returns_from_void items) (sub_right (returns_from_void items) (use_7 items) (returns_from_void items) (sub_all (returns_from_void items)))

listed_rules : (items : List (Item Note)) → Sub (empty_rules items) (bad_use items)
listed_rules items = in_9 items (empty_rules items) (sub_right (empty_rules items) (use_8 items) (empty_rules items) (sub_all (empty_rules items)))

listed_names : (items : List (Item Note)) → Sub (reserved_classes items) (bad_use items)
listed_names items = sub_right (reserved_classes items) (use_9 items) (reserved_classes items) (sub_all (reserved_classes items))

-- what equals the faults at listed words
listed_as : (items : List (Item Note)) (xs : List Fault) (ws : List Note) → map bad_word ws ≡ xs → Sub ws (bad_use items) → Sub xs (by_kinds items)
listed_as items xs ws same one = sub_behind xs (map bad_word ws) (by_kinds items) (sub_same xs (map bad_word ws) (sym same)) (in_bad_use items ws one)

placed_listed : (items : List (Item Note)) → Sub (flat_map placed_faults (expressions items)) (by_kinds items)
placed_listed items =
    sub_apart places_and_lists words_at (expressions items) (by_kinds items)
    (sub_apart no_place_at bad_list_at (expressions items) (by_kinds items)
    (in_no_place items (flat_map no_place_at (expressions items))
    (sub_same (flat_map no_place_at (expressions items)) (map (fault_at kind.NoPlace) (no_place items))
    (flat_where (fault_at kind.NoPlace) (λ x. not (fits x.expression.use_of x.expression.tree)) (λ x. first_note x.expression.tree) (expressions items))))
    (in_bad_list items (flat_map bad_list_at (expressions items))
    (sub_same (flat_map bad_list_at (expressions items)) (map (fault_at kind.BadList) (bad_list items))
    (flat_where (fault_at kind.BadList) (λ x. is_bad_list x.expression.use_of x.expression.tree) (λ x. first_note x.expression.tree) (expressions items)))))
    (sub_apart yields_at inner_at (expressions items) (by_kinds items) (listed_as items (flat_map yields_at (expressions items)) (yields_outside items) (yields_are items) (listed_yields items))
    (listed_as items (flat_map inner_at (expressions items)) (inner_expressions items) (inner_expressions_are items) (listed_expressions items)))

-- what equals the faults of some of the expressions
placed_as : (items : List (Item Note)) (xs : List Fault) (ps : List (Placed Note)) → flat_map placed_faults ps ≡ xs → Sub (flat_map placed_faults ps) (flat_map placed_faults (expressions items)) → Sub xs (by_kinds items)
placed_as items xs ps same one =
    sub_behind xs (flat_map placed_faults ps) (by_kinds items) (sub_same xs (flat_map placed_faults ps) (sym same))
    (sub_behind (flat_map placed_faults ps) (flat_map placed_faults (expressions items)) (by_kinds items) one (placed_listed items))

expressions_apart : (items : List (Item Note)) → (flat_map placed_faults (of_sites items) ++ flat_map placed_faults (of_signatures items)) ++ flat_map placed_faults (of_members items) ≡ flat_map placed_faults (expressions items)
expressions_apart items =
    sym (flat_map_joined placed_faults (of_sites items ++ of_signatures items) (of_members items)
    ∙ ap (λ fs. fs ++ flat_map placed_faults (of_members items)) (flat_map_joined placed_faults (of_sites items) (of_signatures items)))

in_expressions : (items : List (Item Note)) (xs : List Fault) → Sub xs ((flat_map placed_faults (of_sites items) ++ flat_map placed_faults (of_signatures items)) ++ flat_map placed_faults (of_members items))
    → Sub xs (flat_map placed_faults (expressions items))
in_expressions items xs one =
    sub_behind xs ((flat_map placed_faults (of_sites items) ++ flat_map placed_faults (of_signatures items)) ++ flat_map placed_faults (of_members items)) (flat_map placed_faults (expressions items)) one
    (sub_same ((flat_map placed_faults (of_sites items) ++ flat_map placed_faults (of_signatures items)) ++ flat_map placed_faults (of_members items)) (flat_map placed_faults (expressions items)) (expressions_apart items))

listed_site_expressions : (items : List (Item Note)) → Sub (flat_map site_expressions (sites (behind_strict_types items))) (by_kinds items)
listed_site_expressions items =
    placed_as items (flat_map site_expressions (sites (behind_strict_types items))) (of_sites items) (sites_are items ∙ skip_expressions items)
    (in_expressions items (flat_map placed_faults (of_sites items))
    (sub_left (flat_map placed_faults (of_sites items)) (flat_map placed_faults (of_sites items) ++ flat_map placed_faults (of_signatures items)) (flat_map placed_faults (of_members items))
    (sub_left (flat_map placed_faults (of_sites items)) (flat_map placed_faults (of_sites items)) (flat_map placed_faults (of_signatures items)) (sub_all (flat_map placed_faults (of_sites items))))))

listed_defaults : (items : List (Item Note)) → Sub (flat_map defaults_faults (signatures items)) (by_kinds items)
listed_defaults items =
    placed_as items (flat_map defaults_faults (signatures items)) (of_signatures items) (signatures_are items)
    (in_expressions items (flat_map placed_faults (of_signatures items))
    (sub_left (flat_map placed_faults (of_signatures items)) (flat_map placed_faults (of_sites items) ++ flat_map placed_faults (of_signatures items)) (flat_map placed_faults (of_members items))
    (sub_right (flat_map placed_faults (of_signatures items)) (flat_map placed_faults (of_sites items)) (flat_map placed_faults (of_signatures items)) (sub_all (flat_map placed_faults (of_signatures items))))))

listed_values : (items : List (Item Note)) → Sub (flat_map values_of (owned items)) (by_kinds items)
listed_values items =
    placed_as items (flat_map values_of (owned items)) (of_members items) (members_are items)
    (in_expressions items (flat_map placed_faults (of_members items))
    (sub_right (flat_map placed_faults (of_members items)) (flat_map placed_faults (of_sites items) ++ flat_map placed_faults (of_signatures items)) (flat_map placed_faults (of_members items))
    (sub_all (flat_map placed_faults (of_members items)))))

-- values that must be constant

abbrev constants_by_part : List (Item Note) → List Fault
constants_by_part items = (flat_map site_constants (sites items) ++ flat_map constants_faults (signatures items)) ++ flat_map constants_of (owned items)

in_constants : (items : List (Item Note)) (xs : List Fault) → Sub xs (constants_by_part items) → Sub xs (by_kinds items)
in_constants items xs one =
    in_no_constant items xs
    (sub_behind xs (constants_by_part items) (map (fault_at kind.NoConstant) (no_constant items)) one
    (sub_same (constants_by_part items) (map (fault_at kind.NoConstant) (no_constant items)) (sym (no_constant_is items ∙ constants_apart items))))

listed_site_constants : (items : List (Item Note)) → Sub (flat_map site_constants (sites (behind_strict_types items))) (by_kinds items)
listed_site_constants items =
    in_constants items (flat_map site_constants (sites (behind_strict_types items)))
    (sub_left (flat_map site_constants (sites (behind_strict_types items))) (flat_map site_constants (sites items) ++ flat_map constants_faults (signatures items)) (flat_map constants_of (owned items))
    (sub_left (flat_map site_constants (sites (behind_strict_types items))) (flat_map site_constants (sites items)) (flat_map constants_faults (signatures items))
    (sub_same (flat_map site_constants (sites (behind_strict_types items))) (flat_map site_constants (sites items)) (sym (skip_constants items)))))

listed_constant_defaults : (items : List (Item Note)) → Sub (flat_map constants_faults (signatures items)) (by_kinds items)
listed_constant_defaults items =
    in_constants items (flat_map constants_faults (signatures items))
    (sub_left (flat_map constants_faults (signatures items)) (flat_map site_constants (sites items) ++ flat_map constants_faults (signatures items)) (flat_map constants_of (owned items))
    (sub_right (flat_map constants_faults (signatures items)) (flat_map site_constants (sites items)) (flat_map constants_faults (signatures items)) (sub_all (flat_map constants_faults (signatures items)))))

listed_constant_values : (items : List (Item Note)) → Sub (flat_map constants_of (owned items)) (by_kinds items)
listed_constant_values items =
    in_constants items (flat_map constants_of (owned items))
    (sub_right (flat_map constants_of (owned items)) (flat_map site_constants (sites items) ++ flat_map constants_faults (signatures items)) (flat_map constants_of (owned items))
    (sub_all (flat_map constants_of (owned items))))

-- words of members

listed_member_words : (items : List (Item Note)) → Sub (flat_map all_words_of (owned items)) (bad_use items)
listed_member_words items =
    sub_apart bodies_of (λ x. modifiers_of x ++ (properties_of_owned x ++ rules_of x)) (owned items) (bad_use items)
    (sub_behind (flat_map bodies_of (owned items)) (bad_bodies items) (bad_use items) (sub_same (flat_map bodies_of (owned items)) (bad_bodies items) (sym (bodies_are items))) (listed_bodies items))
    (sub_apart modifiers_of (λ x. properties_of_owned x ++ rules_of x) (owned items) (bad_use items)
    (in_modifiers items (flat_map modifiers_of (owned items))
    (sub_right (flat_map modifiers_of (owned items)) (class_modifiers items) (member_modifiers items)
    (sub_same (flat_map modifiers_of (owned items)) (member_modifiers items) (sym (spread modifiers_in items)))))
    (sub_apart properties_of_owned rules_of (owned items) (bad_use items)
    (sub_behind (flat_map properties_of_owned (owned items)) (properties_of_interfaces items) (bad_use items)
    (sub_same (flat_map properties_of_owned (owned items)) (properties_of_interfaces items) (sym (properties_are items))) (listed_properties items))
    (sub_behind (flat_map rules_of (owned items)) (empty_rules items) (bad_use items) (sub_same (flat_map rules_of (owned items)) (empty_rules items) (sym (rules_are items))) (listed_rules items))))

listed_class_modifiers : (items : List (Item Note)) → Sub (class_modifiers items) (bad_use items)
listed_class_modifiers items =
    in_modifiers items (class_modifiers items) (sub_left (class_modifiers items) (class_modifiers items) (member_modifiers items) (sub_all (class_modifiers items)))

parts_in_kinds : (items : List (Item Note)) → Sub (by_parts items) (by_kinds items)
parts_in_kinds items =
    sub_join (flat_map faults_of_site (sites (behind_strict_types items))) (flat_map signature_faults (signatures items) ++ (flat_map those_faults (all_members items) ++ flat_map class_faults items)) (by_kinds items)
    (sub_apart site_expressions (λ x. site_constants x ++ site_words x) (sites (behind_strict_types items)) (by_kinds items) (listed_site_expressions items)
    (sub_apart site_constants site_words (sites (behind_strict_types items)) (by_kinds items) (listed_site_constants items)
    (sub_apart site_caught (λ x. site_void x ++ site_declared x) (sites (behind_strict_types items)) (by_kinds items)
    (listed_as items (flat_map site_caught (sites (behind_strict_types items))) (inner_caught items) (inner_caught_are items ∙ skip_caught items) (listed_caught items))
    (sub_apart site_void site_declared (sites (behind_strict_types items)) (by_kinds items)
    (listed_as items (flat_map site_void (sites (behind_strict_types items))) (returns_from_void items) (returns_are items ∙ skip_void items) (listed_returns items))
    (listed_as items (flat_map site_declared (sites (behind_strict_types items))) (misplaced_declarations items) (declarations_are items) (listed_declarations items))))))
    (sub_join (flat_map signature_faults (signatures items)) (flat_map those_faults (all_members items) ++ flat_map class_faults items) (by_kinds items)
    (sub_apart defaults_faults (λ s. constants_faults s ++ (types_faults s ++ params_faults s)) (signatures items) (by_kinds items) (listed_defaults items)
    (sub_apart constants_faults (λ s. types_faults s ++ params_faults s) (signatures items) (by_kinds items) (listed_constant_defaults items)
    (sub_apart types_faults params_faults (signatures items) (by_kinds items)
    (listed_as items (flat_map types_faults (signatures items)) (inner_types items) (inner_types_are items) (listed_types items))
    (listed_as items (flat_map params_faults (signatures items)) (bad_parameters items) (parameters_are items) (listed_parameters items)))))
    (sub_join (flat_map those_faults (all_members items)) (flat_map class_faults items) (by_kinds items)
    (sub_behind (flat_map those_faults (all_members items)) (flat_map (λ x. member_faults x.0 x.1) (owned items)) (by_kinds items)
    (sub_same (flat_map those_faults (all_members items)) (flat_map (λ x. member_faults x.0 x.1) (owned items)) (spread member_faults items))
    (sub_apart values_of (λ x. constants_of x ++ words_of x) (owned items) (by_kinds items) (listed_values items)
    (sub_apart constants_of words_of (owned items) (by_kinds items) (listed_constant_values items)
    (listed_as items (flat_map words_of (owned items)) (flat_map all_words_of (owned items)) (map_flat_map bad_word all_words_of (owned items)) (listed_member_words items)))))
    (sub_apart words_faults names_faults items (by_kinds items)
    (listed_as items (flat_map words_faults items) (class_modifiers items) (class_modifiers_are items) (listed_class_modifiers items))
    (listed_as items (flat_map names_faults items) (reserved_classes items) (names_are items) (listed_names items)))))

-- ---- the first one

abbrev pub met_all : List (Item Note) → Option Fault
met_all items =
    over met_item_class items
    (over met_item_members items (over met_item_signatures items (over met_item_bodies (behind_strict_types items) None)))

behind : (met one two : Option Fault) (xs ys : List Fault) → one ≡ first_from met xs → two ≡ first_from one ys → two ≡ first_from met (xs ++ ys)
behind met one two xs ys first second = second ∙ ap (λ m. first_from m ys) first ∙ sym (first_from_joined met xs ys)

all_met : (items : List (Item Note)) → met_all items ≡ first_from None (by_parts items)
all_met items =
    let one = over met_item_bodies (behind_strict_types items) None in
    let two = over met_item_signatures items one in
    let three = over met_item_members items two in
    behind None one _ (flat_map faults_of_site (sites (behind_strict_types items))) (flat_map signature_faults (signatures items) ++ (flat_map those_faults (all_members items) ++ flat_map class_faults items))
    (bodies_met (behind_strict_types items) None)
    (behind one two _ (flat_map signature_faults (signatures items)) (flat_map those_faults (all_members items) ++ flat_map class_faults items) (signatures_met items one)
    (behind two three _ (flat_map those_faults (all_members items)) (flat_map class_faults items) (members_met items two) (classes_met items three)))

pub first_met : (items : List (Item Note)) → IsFirst (faults_of_kinds form_kinds items) (met_all items)
first_met items =
    subst (λ fs. IsFirst fs (met_all items)) (sym (kinds_are items))
    (subst (IsFirst (by_kinds items)) (sym (all_met items))
    (first_of_same (by_parts items) (by_kinds items) (first_from None (by_parts items)) (parts_in_kinds items) (kinds_in_parts items) (first_is_found (by_parts items))))
