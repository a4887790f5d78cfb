-- What the check of a member meets is the first of its faults.
use Rattle.std.proofs.Common.{◌≡◌, Bool, true, false, Option, Some, None, List, [], ◌∷◌, ◌++◌, map, flat_map, refl, sym, ◌∙◌, ap}
use Rattle.php_ast.specs.expression.View.{Note}
use Rattle.php_ast.specs.statement.Tree.{Variable}
use Rattle.php_ast.specs.declaration.Tree.{ClassConstant, Method, Rule, renames, prefers, Member, uses, uses_by, class_constants, method, properties, Item, of_statement, of_function, of_class, of_interface, of_trait}
use Rattle.php_legality.specs.declared.kind.Kind.TheVariants as kind
use Rattle.php_legality.specs.declared.fault.Fault.{Fault}
use Rattle.php_legality.specs.Lists.{elements, where_true}
use Rattle.php_legality.specs.First.{fault_at, first_from}
use Rattle.php_legality.specs.Expressions.{used, valued}
use Rattle.php_legality.specs.Statements.{as_values}
use Rattle.php_legality.specs.Declarations.{Owner, of_a_class, of_an_interface, Members, all_members, members_of, class_scope, member_values, member_note}
use Rattle.php_legality.specs.Rows as rows
use Rattle.php_legality.proofs.FirstLemmas.{first_from_joined}
use Rattle.php_legality.proofs.HasLemmas.{flat_map_flat_map, map_flat_map, map_joined}
use Rattle.php_places.specs.Over.{over}
use Rattle.php_places.specs.Met.{where_bad}
use Rattle.php_bodies.specs.Own.{met_any, met_constant}
use Rattle.php_bodies.proofs.OverLemmas.{over_map, over_faults}
use Rattle.php_bodies.proofs.OwnLemmas.{optional_values, optional_constants}
use Rattle.php_bodies.proofs.OwnBridge.{expressions_met, constants_met}
use Rattle.php_forms.specs.MemberFaults.{met_class_constant, met_constant_value, met_values, met_constants, met_body, met_member_modifiers, met_property, met_own_properties, met_properties, met_rule, met_rules, met_member, bodies_in, modifiers_in, properties_in, rules_in, words_in, values_in, constants_in, member_faults}
use Rattle.php_forms.specs.Items.{met_item_members}
use Rattle.php_forms.proofs.ModifierLemmas.{modifiers_met}

values_met : (owner : Owner) (member : Member Note) (met : Option Fault) → met_values member met ≡ first_from met (values_in owner member)
values_met owner (uses at names) met = refl
values_met owner (uses_by at names rules) met = refl
values_met owner (class_constants modifiers items) met =
    sym (over_map (λ e m. met_any class_scope (used valued e) m) (λ x. x.value) (elements items) met)
    ∙ sym (over_map (met_any class_scope) (used valued) (map (λ x. x.value) (elements items)) met)
    ∙ expressions_met class_scope (as_values (map (λ x. x.value) (elements items))) met
values_met owner (method m) met = refl
values_met owner (properties modifiers variables) met =
    optional_values class_scope (λ x. x.value) (elements variables) met ∙ expressions_met class_scope (as_values (member_values (properties modifiers variables))) met

constant_met : (owner : Owner) (member : Member Note) (met : Option Fault) → met_constants member met ≡ first_from met (constants_in owner member)
constant_met owner (uses at names) met = refl
constant_met owner (uses_by at names rules) met = refl
constant_met owner (class_constants modifiers items) met =
    sym (over_map met_constant (λ x. x.value) (elements items) met) ∙ constants_met (map (λ x. x.value) (elements items)) met
constant_met owner (method m) met = refl
constant_met owner (properties modifiers variables) met =
    optional_constants (λ x. x.value) (elements variables) met ∙ constants_met (member_values (properties modifiers variables)) met

one_body : (t : Bool) (at : Note) (met : Option Fault) → where_bad t kind.BadUse at met ≡ first_from met (map (fault_at kind.BadUse) (where_true t at ++ []))
one_body true at met = refl
one_body false at met = refl

body_met : (owner : Owner) (member : Member Note) (met : Option Fault) → met_body owner member met ≡ first_from met (map (fault_at kind.BadUse) (bodies_in owner member))
body_met owner (uses at names) met = refl
body_met owner (uses_by at names rules) met = refl
body_met owner (class_constants modifiers items) met = refl
body_met owner (method m) met = one_body (rows.is_bad_body owner m) (member_note m.name) met
body_met owner (properties modifiers variables) met = refl

words_met : (owner : Owner) (member : Member Note) (met : Option Fault) → met_member_modifiers member met ≡ first_from met (map (fault_at kind.BadUse) (modifiers_in owner member))
words_met owner (uses at names) met = refl
words_met owner (uses_by at names rules) met = refl
words_met owner (class_constants modifiers items) met = modifiers_met (elements modifiers) met
words_met owner (method m) met = modifiers_met (elements m.modifiers) met
words_met owner (properties modifiers variables) met = modifiers_met (elements modifiers) met

noted : (xs : List (Variable Note)) → flat_map (λ x. fault_at kind.BadUse x.name.note ∷ []) xs ≡ map (fault_at kind.BadUse) (map (λ x. x.name.note) xs)
noted [] = refl
noted (x ∷ xs) = ap (λ fs. fault_at kind.BadUse x.name.note ∷ fs) (noted xs)

own_properties : (member : Member Note) (met : Option Fault) → met_own_properties member met ≡ first_from met (map (fault_at kind.BadUse) (properties_in of_an_interface member))
own_properties (uses at names) met = refl
own_properties (uses_by at names rules) met = refl
own_properties (class_constants modifiers items) met = refl
own_properties (method m) met = refl
own_properties (properties modifiers variables) met =
    over_faults met_property (λ x. fault_at kind.BadUse x.name.note ∷ []) (λ x m. refl) (elements variables) met ∙ ap (first_from met) (noted (elements variables))

properties_met : (owner : Owner) (member : Member Note) (met : Option Fault) → met_properties owner member met ≡ first_from met (map (fault_at kind.BadUse) (properties_in owner member))
properties_met of_a_class member met = refl
properties_met of_an_interface member met = own_properties member met

rule_met : (rule : Rule Note) (met : Option Fault) → met_rule rule met ≡ first_from met (map (fault_at kind.BadUse) (rows.empty_rule rule))
rule_met (renames at origin name None None) met = refl
rule_met (renames at origin name None (Some alias)) met = refl
rule_met (renames at origin name (Some seen) None) met = refl
rule_met (renames at origin name (Some seen) (Some alias)) met = refl
rule_met (prefers at origin name others) met = refl

rules_met : (owner : Owner) (member : Member Note) (met : Option Fault) → met_rules member met ≡ first_from met (map (fault_at kind.BadUse) (rules_in owner member))
rules_met owner (uses at names) met = refl
rules_met owner (uses_by at names rules) met =
    over_faults met_rule (λ r. map (fault_at kind.BadUse) (rows.empty_rule r)) rule_met (elements rules) met
    ∙ ap (first_from met) (sym (map_flat_map (fault_at kind.BadUse) rows.empty_rule (elements rules)))
rules_met owner (class_constants modifiers items) met = refl
rules_met owner (method m) met = refl
rules_met owner (properties modifiers variables) met = refl

behind : (met one two : Option Fault) (xs ys : List Fault) → one ≡ first_from met xs → two ≡ first_from one ys → two ≡ first_from met (xs ++ ys)
behind met one two xs ys first second = second ∙ ap (λ m. first_from m ys) first ∙ sym (first_from_joined met xs ys)

four_maps : {A B : Type 0} (f : A → B) (xs ys zs us : List A) → (map f xs ++ (map f ys ++ (map f zs ++ map f us))) ≡ map f (xs ++ (ys ++ (zs ++ us)))
four_maps f xs ys zs us =
    sym (map_joined f xs (ys ++ (zs ++ us)) ∙ ap (λ r. map f xs ++ r) (map_joined f ys (zs ++ us) ∙ ap (λ r. map f ys ++ r) (map_joined f zs us)))

member_met : (owner : Owner) (member : Member Note) (met : Option Fault) → met_member owner member met ≡ first_from met (member_faults owner member)
unfolding met_member
member_met owner member met =
    let one = met_values member met in
    let two = met_constants member one in
    let three = met_body owner member two in
    let fourth = met_member_modifiers member three in
    let five = met_properties owner member fourth in
    let bu = map (fault_at kind.BadUse) in
    behind met one _ (values_in owner member) (constants_in owner member ++ (bu (bodies_in owner member) ++ (bu (modifiers_in owner member) ++ (bu (properties_in owner member) ++ bu (rules_in owner member)))))
    (values_met owner member met)
    (behind one two _ (constants_in owner member) (bu (bodies_in owner member) ++ (bu (modifiers_in owner member) ++ (bu (properties_in owner member) ++ bu (rules_in owner member)))) (constant_met owner member one)
    (behind two three _ (bu (bodies_in owner member)) (bu (modifiers_in owner member) ++ (bu (properties_in owner member) ++ bu (rules_in owner member))) (body_met owner member two)
    (behind three fourth _ (bu (modifiers_in owner member)) (bu (properties_in owner member) ++ bu (rules_in owner member)) (words_met owner member three)
    (behind fourth five _ (bu (properties_in owner member)) (bu (rules_in owner member)) (properties_met owner member fourth) (rules_met owner member five)))))
    ∙ ap (λ ws. first_from met (values_in owner member ++ (constants_in owner member ++ ws)))
    (four_maps (fault_at kind.BadUse) (bodies_in owner member) (modifiers_in owner member) (properties_in owner member) (rules_in owner member))

-- ---- those of a script

nothing_behind : {A : Type 0} (xs : List A) → xs ++ [] ≡ xs
nothing_behind [] = refl
nothing_behind (x ∷ xs) = ap (λ ys. x ∷ ys) (nothing_behind xs)

abbrev pub those_faults : Members Note → List Fault
those_faults those = flat_map (member_faults those.owner) those.members

those_met : (owner : Owner) (members : List (Member Note)) (met : Option Fault) → over (met_member owner) members met ≡ first_from met (flat_map (member_faults owner) members ++ [])
those_met owner members met = over_faults (met_member owner) (member_faults owner) (member_met owner) members met ∙ ap (first_from met) (sym (nothing_behind (flat_map (member_faults owner) members)))

item_met : (item : Item Note) (met : Option Fault) → met_item_members item met ≡ first_from met (flat_map those_faults (members_of item))
item_met (of_statement s) met = refl
item_met (of_function g) met = refl
item_met (of_class c) met = those_met of_a_class (elements c.members) met
item_met (of_interface i) met = those_met of_an_interface (elements i.members) met
item_met (of_trait t) met = those_met of_a_class (elements t.members) met

pub members_met : (items : List (Item Note)) (met : Option Fault) → over met_item_members items met ≡ first_from met (flat_map those_faults (all_members items))
members_met items met = over_faults met_item_members (λ item. flat_map those_faults (members_of item)) item_met items met ∙ ap (first_from met) (sym (flat_map_flat_map those_faults members_of items))
