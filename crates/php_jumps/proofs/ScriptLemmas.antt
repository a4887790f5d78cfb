-- From the statements of a body to those of a script.
use Rattle.std.proofs.Common.{◌≡◌, true, false, Option, Some, None, List, [], ◌∷◌, ◌++◌, map, flat_map, refl, sym, ◌∙◌, ap, subst}
use mathlib.Core.Logic.{inl, inr}
use Rattle.std.specs.Prelude.{◌⊎◌}
use Rattle.php_ast.specs.expression.View.{Note}
use Rattle.php_ast.specs.statement.Tree.{Statements}
use Rattle.php_ast.specs.declaration.Tree.{Method, Member, uses, uses_by, class_constants, method, properties, Item, of_statement, of_function, of_class, of_interface, of_trait}
use Rattle.php_legality.specs.declared.kind.Kind.TheVariants as kind
use Rattle.php_legality.specs.declared.fault.Fault.{Fault}
use Rattle.php_legality.specs.declared.scope.Scope.{Scope}
use Rattle.php_legality.specs.Lists.{elements, where_some}
use Rattle.php_legality.specs.First.{fault_at, first_from, IsFirst}
use Rattle.php_legality.specs.Statements.{Inside, inside_list, all_inside}
use Rattle.php_legality.specs.Declarations.{Site, sites_in, sites, item_sites, method_sites, methods_of, members_of, body_scope, outermost}
use Rattle.php_legality.specs.Rows.{at_break, is_bad_level, leaves_finally, loops_in_finally}
use Rattle.php_legality.specs.Legality.{faults_of_kinds, places_of}
use Rattle.php_legality.proofs.FirstLemmas.{first_from_joined, first_is_found, first_of_same}
use Rattle.php_legality.proofs.HasLemmas.{flat_map_joined, flat_map_map, flat_map_flat_map, map_flat_map, has_apart, has_together}
use Rattle.php_jumps.specs.Met.{over, met_method_body, met_member, met_item}
use Rattle.php_jumps.specs.Promise.{jump_kinds}
use Rattle.php_jumps.proofs.Bridge.{both, faults_in, statement_met, list_met}

abbrev bad_at : Site Note → List Fault
bad_at site = map (fault_at kind.BadBreak) (at_break (λ n. is_bad_level n site.around) site.statement)

abbrev out_at : Site Note → List Fault
out_at site = map (fault_at kind.JumpFromFinally) (at_break (λ n. leaves_finally n (loops_in_finally site.around)) site.statement)

abbrev at_site : Site Note → List Fault
at_site site = bad_at site ++ out_at site

nothing_behind : {A : Type 0} (xs : List A) → xs ++ [] ≡ xs
nothing_behind [] = refl
nothing_behind (x ∷ xs) = ap (λ ys. x ∷ ys) (nothing_behind xs)

in_scope : (scope : Scope) (xs : List (Inside Note)) → flat_map at_site (sites_in scope xs) ≡ faults_in xs
in_scope scope xs = flat_map_map at_site (λ x. record { scope = scope; around = x.around; statement = x.statement }) xs

abbrev member_sites : Member Note → List (Site Note)
member_sites member = flat_map method_sites (methods_of member)

abbrev sites_of_members : List (Member Note) → List (Site Note)
sites_of_members members = flat_map member_sites members

-- a method with a body and one without
some_body : (scope : Scope) (body : Option (Statements Note)) (met : Option Fault)
    → met_method_body body met ≡ first_from met (flat_map at_site (where_some (λ ss. sites_in scope (inside_list [] ss)) body))
some_body scope None met = refl
some_body scope (Some ss) met = list_met [] ss met ∙ ap (first_from met) (sym (in_scope scope (inside_list [] ss)))

member_met : (member : Member Note) (met : Option Fault) → met_member member met ≡ first_from met (flat_map at_site (member_sites member))
member_met (uses at names) met = refl
member_met (uses_by at names rules) met = refl
member_met (class_constants modifiers items) met = refl
member_met (method m) met =
    some_body (body_scope true m.signature) m.body met ∙ ap (λ xs. first_from met (flat_map at_site xs)) (sym (nothing_behind (method_sites m)))
member_met (properties modifiers variables) met = refl

members_met : (members : List (Member Note)) (met : Option Fault) → over met_member members met ≡ first_from met (flat_map at_site (sites_of_members members))
members_met [] met = refl
members_met (member ∷ members) met =
    members_met members (met_member member met) ∙ ap (λ m. first_from m (flat_map at_site (sites_of_members members))) (member_met member met)
    ∙ sym (first_from_joined met (flat_map at_site (member_sites member)) (flat_map at_site (sites_of_members members)))
    ∙ ap (first_from met) (sym (flat_map_joined at_site (member_sites member) (sites_of_members members)))

members_met_alone : (members : List (Member Note)) (met : Option Fault) → over met_member members met ≡ first_from met (flat_map at_site (sites_of_members members ++ []))
members_met_alone members met = members_met members met ∙ ap (λ xs. first_from met (flat_map at_site xs)) (sym (nothing_behind (sites_of_members members)))

item_met : (item : Item Note) (met : Option Fault) → met_item item met ≡ first_from met (flat_map at_site (item_sites item))
item_met (of_statement s) met = statement_met [] s met ∙ ap (first_from met) (sym (in_scope outermost (all_inside [] s)))
item_met (of_function g) met = list_met [] g.body met ∙ ap (first_from met) (sym (in_scope (body_scope false g.signature) (inside_list [] g.body)))
item_met (of_class c) met = members_met_alone (elements c.members) met
item_met (of_interface i) met = members_met_alone (elements i.members) met
item_met (of_trait t) met = members_met_alone (elements t.members) met

items_met : (items : List (Item Note)) (met : Option Fault) → over met_item items met ≡ first_from met (flat_map at_site (sites items))
items_met [] met = refl
items_met (item ∷ items) met =
    items_met items (met_item item met) ∙ ap (λ m. first_from m (flat_map at_site (sites items))) (item_met item met)
    ∙ sym (first_from_joined met (flat_map at_site (item_sites item)) (flat_map at_site (sites items)))
    ∙ ap (first_from met) (sym (flat_map_joined at_site (item_sites item) (sites items)))

-- ---- by kinds

by_kind : (items : List (Item Note)) → faults_of_kinds jump_kinds items ≡ flat_map bad_at (sites items) ++ flat_map out_at (sites items)
unfolding places_of
by_kind items =
    ap (λ xs. xs ++ (map (fault_at kind.JumpFromFinally) (places_of kind.JumpFromFinally items) ++ []))
    (map_flat_map (fault_at kind.BadBreak) (λ site. at_break (λ n. is_bad_level n site.around) site.statement) (sites items))
    ∙ ap (λ xs. flat_map bad_at (sites items) ++ xs)
    (nothing_behind (map (fault_at kind.JumpFromFinally) (places_of kind.JumpFromFinally items))
    ∙ map_flat_map (fault_at kind.JumpFromFinally) (λ site. at_break (λ n. leaves_finally n (loops_in_finally site.around)) site.statement) (sites items))

pub first_met : (items : List (Item Note)) → IsFirst (faults_of_kinds jump_kinds items) (over met_item items None)
first_met items =
    subst (λ fs. IsFirst fs (over met_item items None)) (sym (by_kind items))
    (subst (IsFirst (flat_map bad_at (sites items) ++ flat_map out_at (sites items))) (sym (items_met items None))
    (first_of_same (flat_map at_site (sites items)) (flat_map bad_at (sites items) ++ flat_map out_at (sites items)) (first_from None (flat_map at_site (sites items)))
    (has_apart bad_at out_at (sites items)) (has_together bad_at out_at (sites items)) (first_is_found (flat_map at_site (sites items)))))
