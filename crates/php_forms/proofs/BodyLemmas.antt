-- What the walk over the bodies of a script meets is the first of the faults of its statements.
use Rattle.std.proofs.Common.{◌≡◌, ℕ, length, get_or, drop, Bool, true, false, cond, Option, Some, None, List, [], ◌∷◌, ◌++◌, map, flat_map, refl, sym, ◌∙◌, ap}
use Rattle.std.specs.Prelude.{ℤ, ◌==◌}
use Rattle.php_ast.specs.declared.script.ScriptItem.{ScriptItem}
use Rattle.php_ast.specs.declaration.View.{item_view}
use Rattle.php_ast.specs.expression.View.{Note}
use Rattle.php_ast.specs.statement.Tree.{Name, Statement, Statements, block, blank, inline, expression, echo, globals, statics, unset, constants, jump, throw, if_only, if_else, if_lists, if_else_lists, while, do_while, for, foreach, switch, try_catch, try_finally, declares}
use Rattle.php_ast.specs.declaration.Tree.{Method, Member, uses, uses_by, class_constants, method, properties, Item, of_statement, of_function, of_class, of_interface, of_trait}
use Rattle.php_legality.specs.declared.fault.Fault.{Fault}
use Rattle.php_legality.specs.declared.scope.Scope.{Scope}
use Rattle.php_legality.specs.Lists.{elements, where_some}
use Rattle.php_legality.specs.First.{first_from}
use Rattle.php_legality.specs.Statements.{Around, Inside, inside_list, all_inside}
use Rattle.php_legality.specs.Declarations.{Site, sites_in, sites, item_sites, method_sites, methods_of, body_scope, outermost}
use Rattle.php_legality.specs.Rows.{is_strict_types, behind_strict_types}
use Rattle.php_legality.proofs.HasLemmas.{flat_map_map, flat_map_flat_map}
use Rattle.php_places.specs.Over.{over}
use Rattle.php_bodies.specs.Met.{met_last}
use Rattle.php_bodies.specs.Sites.{site_faults, faults_in}
use Rattle.php_bodies.proofs.OverLemmas.{over_faults}
use Rattle.php_bodies.proofs.Bridge.{statement_met, list_met}
use Rattle.php_forms.specs.Bodies.{met_member_body, met_item_bodies, declares_types}

abbrev pub faults_of_site : Site Note → List Fault
faults_of_site site = site_faults site.scope site.statement

nothing_behind : {A : Type 0} (xs : List A) → xs ++ [] ≡ xs
nothing_behind [] = refl
nothing_behind (x ∷ xs) = ap (λ ys. x ∷ ys) (nothing_behind xs)

in_scope : (scope : Scope) (xs : List (Inside Note)) → flat_map faults_of_site (sites_in scope xs) ≡ faults_in scope xs
in_scope scope xs = flat_map_map faults_of_site (λ x. record { scope = scope; around = x.around; statement = x.statement }) xs

abbrev member_sites : Member Note → List (Site Note)
member_sites member = flat_map method_sites (methods_of member)

-- a method with a body and one without
some_body : (scope : Scope) (body : Option (Statements Note)) (met : Option Fault)
    → met_last scope body met ≡ first_from met (flat_map faults_of_site (where_some (λ ss. sites_in scope (inside_list [] ss)) body))
some_body scope None met = refl
some_body scope (Some ss) met = list_met scope [] ss met ∙ ap (first_from met) (sym (in_scope scope (inside_list [] ss)))

member_met : (member : Member Note) (met : Option Fault) → met_member_body member met ≡ first_from met (flat_map faults_of_site (member_sites member))
member_met (uses at names) met = refl
member_met (uses_by at names rules) met = refl
member_met (class_constants modifiers items) met = refl
member_met (method m) met =
    some_body (body_scope true m.signature) m.body met ∙ ap (λ xs. first_from met (flat_map faults_of_site xs)) (sym (nothing_behind (method_sites m)))
member_met (properties modifiers variables) met = refl

members_met : (members : List (Member Note)) (met : Option Fault) → over met_member_body members met ≡ first_from met (flat_map faults_of_site (flat_map member_sites members ++ []))
members_met members met =
    over_faults met_member_body (λ member. flat_map faults_of_site (member_sites member)) member_met members met
    ∙ ap (first_from met) (sym (flat_map_flat_map faults_of_site member_sites members)) ∙ ap (λ xs. first_from met (flat_map faults_of_site xs)) (sym (nothing_behind (flat_map member_sites members)))

item_met : (item : Item Note) (met : Option Fault) → met_item_bodies item met ≡ first_from met (flat_map faults_of_site (item_sites item))
item_met (of_statement s) met = statement_met outermost [] s met ∙ ap (first_from met) (sym (in_scope outermost (all_inside [] s)))
item_met (of_function g) met = list_met (body_scope false g.signature) [] g.body met ∙ ap (first_from met) (sym (in_scope (body_scope false g.signature) (inside_list [] g.body)))
item_met (of_class c) met = members_met (elements c.members) met
item_met (of_interface i) met = members_met (elements i.members) met
item_met (of_trait t) met = members_met (elements t.members) met

pub bodies_met : (items : List (Item Note)) (met : Option Fault) → over met_item_bodies items met ≡ first_from met (flat_map faults_of_site (sites items))
bodies_met items met =
    over_faults met_item_bodies (λ item. flat_map faults_of_site (item_sites item)) item_met items met ∙ ap (first_from met) (sym (flat_map_flat_map faults_of_site item_sites items))

-- ---- a declaration of strict types

-- What has no faults in a declaration has none in the first thing of a script where that is one.
pub skip_strict : (F : Site Note → List Fault) → ((scope : Scope) (around : List Around) (at : Note) (name : Name Note) (n : ℤ) → F (record { scope = scope; around = around; statement = declares at name n }) ≡ [])
    → (items : List (Item Note)) → flat_map F (sites items) ≡ flat_map F (sites (behind_strict_types items))
skip_strict F none [] = refl
skip_strict F none (of_statement (block at body) ∷ items) = refl
skip_strict F none (of_statement (blank at) ∷ items) = refl
skip_strict F none (of_statement (inline at text) ∷ items) = refl
skip_strict F none (of_statement (expression at e) ∷ items) = refl
skip_strict F none (of_statement (echo at es) ∷ items) = refl
skip_strict F none (of_statement (globals at names) ∷ items) = refl
skip_strict F none (of_statement (statics at variables) ∷ items) = refl
skip_strict F none (of_statement (unset at es) ∷ items) = refl
skip_strict F none (of_statement (constants at xs) ∷ items) = refl
skip_strict F none (of_statement (jump at kind e) ∷ items) = refl
skip_strict F none (of_statement (throw at e) ∷ items) = refl
skip_strict F none (of_statement (if_only at test body parts) ∷ items) = refl
skip_strict F none (of_statement (if_else at test body parts last) ∷ items) = refl
skip_strict F none (of_statement (if_lists at test body parts) ∷ items) = refl
skip_strict F none (of_statement (if_else_lists at test body parts last) ∷ items) = refl
skip_strict F none (of_statement (while at test body) ∷ items) = refl
skip_strict F none (of_statement (do_while at body test) ∷ items) = refl
skip_strict F none (of_statement (for at starts tests steps body) ∷ items) = refl
skip_strict F none (of_statement (foreach at walked key value body) ∷ items) = refl
skip_strict F none (of_statement (switch at e form cases) ∷ items) = refl
skip_strict F none (of_statement (try_catch at body catches) ∷ items) = refl
skip_strict F none (of_statement (try_finally at body catches last) ∷ items) = refl
skip_strict F none (of_statement (declares at name n) ∷ items) = by_test (is_strict_types (declares at name n))
  where
    by_test : (t : Bool) → flat_map F (sites (of_statement (declares at name n) ∷ items)) ≡ flat_map F (sites (cond t items (of_statement (declares at name n) ∷ items)))
    by_test true = ap (λ fs. fs ++ flat_map F (sites items)) (none outermost [] at name n)
    by_test false = refl
skip_strict F none (of_function g ∷ items) = refl
skip_strict F none (of_class c ∷ items) = refl
skip_strict F none (of_interface i ∷ items) = refl
skip_strict F none (of_trait t ∷ items) = refl

pub behind_first : (item : Item Note) (items : List (Item Note)) → behind_strict_types (item ∷ items) ≡ cond (declares_types item) items (item ∷ items)
behind_first (of_statement s) items = refl
behind_first (of_function g) items = refl
behind_first (of_class c) items = refl
behind_first (of_interface i) items = refl
behind_first (of_trait t) items = refl

-- a first thing that declares types, and one that doesn't
pub behind_declaration : (xs : List ScriptItem) (d : ScriptItem) (t : Bool) (met : Option Fault) → false ≡ (length xs == 0) → t ≡ declares_types (item_view (get_or xs 0 d)) → t ≡ true
    → over met_item_bodies (map item_view (drop 1 xs)) met ≡ over met_item_bodies (behind_strict_types (map item_view xs)) met
behind_declaration [] d t met some is so = absurd (cc)
behind_declaration (x ∷ xs) d t met some is so =
    ap (λ b. over met_item_bodies (cond b (map item_view xs) (item_view x ∷ map item_view xs)) met) (sym so ∙ is) ∙ ap (λ ys. over met_item_bodies ys met) (sym (behind_first (item_view x) (map item_view xs)))

pub behind_other : (xs : List ScriptItem) (d : ScriptItem) (t : Bool) (met : Option Fault) → false ≡ (length xs == 0) → t ≡ declares_types (item_view (get_or xs 0 d)) → t ≡ false
    → over met_item_bodies (map item_view xs) met ≡ over met_item_bodies (behind_strict_types (map item_view xs)) met
behind_other [] d t met some is so = absurd (cc)
behind_other (x ∷ xs) d t met some is so =
    ap (λ b. over met_item_bodies (cond b (map item_view xs) (item_view x ∷ map item_view xs)) met) (sym so ∙ is) ∙ ap (λ ys. over met_item_bodies ys met) (sym (behind_first (item_view x) (map item_view xs)))
