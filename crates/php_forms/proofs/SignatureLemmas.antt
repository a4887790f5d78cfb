-- What the check of a signature meets is the first of its faults.
use Rattle.std.proofs.Common.{◌≡◌, Bool, true, false, ◌&&◌, ◌||◌, Option, Some, None, List, [], ◌∷◌, ◌++◌, map, flat_map, refl, sym, ◌∙◌, ap}
use Rattle.php_ast.specs.expression.View.{Note}
use Rattle.php_ast.specs.declaration.Tree.{Base, of_name, of_array, of_callable, Type_of, Param, Signature, Member, uses, uses_by, class_constants, method, properties, Item, of_statement, of_function, of_class, of_interface, of_trait}
use Rattle.php_legality.specs.declared.kind.Kind.TheVariants as kind
use Rattle.php_legality.specs.declared.fault.Fault.{Fault}
use Rattle.php_legality.specs.Lists.{elements, where_some, where_true}
use Rattle.php_legality.specs.First.{fault_at, first_from}
use Rattle.php_legality.specs.Statements.{as_values}
use Rattle.php_legality.specs.Declarations.{Signed, Members, methods_of, signature_scope, item_signatures, signatures, defaults_of, types_of}
use Rattle.php_legality.specs.Rows.{has, inner_base, bad_params}
use Rattle.php_legality.proofs.FirstLemmas.{first_from_joined}
use Rattle.php_legality.proofs.HasLemmas.{flat_map_joined, flat_map_flat_map, map_joined}
use Rattle.php_places.specs.Over.{over}
use Rattle.php_places.specs.Faults.{outside}
use Rattle.php_places.specs.Met.{where_bad}
use Rattle.php_bodies.specs.Sites.{expression_faults, constant_faults}
use Rattle.php_bodies.proofs.OverLemmas.{over_faults}
use Rattle.php_bodies.proofs.OwnLemmas.{optional_values, optional_constants}
use Rattle.php_bodies.proofs.OwnBridge.{expressions_met, constants_met, name_met, over_outside, outside_joined, none_outside}
use Rattle.php_forms.specs.declared.signature.Passed.{Passed}
use Rattle.php_forms.specs.Signatures.{met_default, met_constant_default, met_base, met_type, met_optional_type, met_declared, is_bad_param, before_params, met_param, met_signature}
use Rattle.php_forms.specs.Items.{met_member_signature, met_item_signatures}

-- the faults of a signature, part by part
abbrev pub defaults_faults : Signed Note → List Fault
defaults_faults s = expression_faults (signature_scope s.in_class) (as_values (defaults_of s.signature))

abbrev pub constants_faults : Signed Note → List Fault
constants_faults s = flat_map constant_faults (defaults_of s.signature)

abbrev pub types_faults : Signed Note → List Fault
types_faults s = outside s.in_class (flat_map (λ t. inner_base t.base) (types_of s.signature))

abbrev pub params_faults : Signed Note → List Fault
params_faults s = map (fault_at kind.BadUse) (bad_params false (elements s.signature.params))

abbrev pub signature_faults : Signed Note → List Fault
signature_faults s = defaults_faults s ++ (constants_faults s ++ (types_faults s ++ params_faults s))

-- ---- types

base_met : (in_class : Bool) (b : Base Note) (met : Option Fault) → met_base in_class b met ≡ first_from met (outside in_class (inner_base b))
base_met in_class (of_name n) met = name_met in_class n met
base_met in_class of_array met = ap (first_from met) (sym (none_outside in_class))
base_met in_class of_callable met = ap (first_from met) (sym (none_outside in_class))

nothing_behind : {A : Type 0} (xs : List A) → xs ++ [] ≡ xs
nothing_behind [] = refl
nothing_behind (x ∷ xs) = ap (λ ys. x ∷ ys) (nothing_behind xs)

optional_met : (in_class : Bool) (t : Option (Type_of Note)) (met : Option Fault)
    → met_optional_type in_class t met ≡ first_from met (outside in_class (flat_map (λ t. inner_base t.base) (where_some (λ t. t ∷ []) t)))
optional_met in_class None met = ap (first_from met) (sym (none_outside in_class))
optional_met in_class (Some t) met = base_met in_class t.base met ∙ ap (λ ws. first_from met (outside in_class ws)) (sym (nothing_behind (inner_base t.base)))

types_met : (in_class : Bool) (ps : List (Param Note)) (r : Option (Type_of Note)) (met : Option Fault)
    → met_optional_type in_class r (over (met_declared in_class) ps met)
    ≡ first_from met (outside in_class (flat_map (λ t. inner_base t.base) (flat_map (λ p. where_some (λ t. t ∷ []) p.declared) ps ++ where_some (λ t. t ∷ []) r)))
types_met in_class ps r met =
    let declared_types = flat_map (λ p. where_some (λ t. t ∷ []) p.declared) ps in
    let of_each = flat_map (λ p. flat_map (λ t. inner_base t.base) (where_some (λ t. t ∷ []) p.declared)) ps in
    optional_met in_class r (over (met_declared in_class) ps met)
    ∙ ap (λ m. first_from m (outside in_class (flat_map (λ t. inner_base t.base) (where_some (λ t. t ∷ []) r))))
    (over_outside (met_declared in_class) in_class (λ p. flat_map (λ t. inner_base t.base) (where_some (λ t. t ∷ []) p.declared)) (λ p m. optional_met in_class p.declared m) ps met)
    ∙ sym (first_from_joined met (outside in_class of_each) (outside in_class (flat_map (λ t. inner_base t.base) (where_some (λ t. t ∷ []) r))))
    ∙ ap (first_from met)
    (sym (outside_joined in_class of_each (flat_map (λ t. inner_base t.base) (where_some (λ t. t ∷ []) r)))
    ∙ ap (λ ws. outside in_class (ws ++ flat_map (λ t. inner_base t.base) (where_some (λ t. t ∷ []) r))) (sym (flat_map_flat_map (λ t. inner_base t.base) (λ p. where_some (λ t. t ∷ []) p.declared) ps))
    ∙ ap (outside in_class) (sym (flat_map_joined (λ t. inner_base t.base) declared_types (where_some (λ t. t ∷ []) r))))

-- ---- parameters

mapped : {A B : Type 0} (t : Bool) (f : A → B) (x : A) → where_true t (f x) ≡ map f (where_true t x)
mapped true f x = refl
mapped false f x = refl

params_met : (ps : List (Param Note)) (has_variadic : Bool) (met : Option Fault)
    → (over met_param ps (record { first = met; has_variadic = has_variadic })).first ≡ first_from met (map (fault_at kind.BadUse) (bad_params has_variadic ps))
params_met [] has_variadic met = refl
params_met (p ∷ ps) has_variadic met =
    params_met ps (has_variadic || p.is_variadic) (where_bad (is_bad_param has_variadic p) kind.BadUse p.name.note met)
    ∙ sym (first_from_joined met (where_true (is_bad_param has_variadic p) (fault_at kind.BadUse p.name.note)) (map (fault_at kind.BadUse) (bad_params (has_variadic || p.is_variadic) ps)))
    ∙ ap (λ fs. first_from met (fs ++ map (fault_at kind.BadUse) (bad_params (has_variadic || p.is_variadic) ps))) (mapped (is_bad_param has_variadic p) (fault_at kind.BadUse) p.name.note)
    ∙ ap (first_from met) (sym (map_joined (fault_at kind.BadUse) (where_true (is_bad_param has_variadic p) p.name.note) (bad_params (has_variadic || p.is_variadic) ps)))

-- ---- all of it

four : (met one two three last : Option Fault) (xs ys zs us : List Fault) → one ≡ first_from met xs → two ≡ first_from one ys → three ≡ first_from two zs → last ≡ first_from three us
    → last ≡ first_from met (xs ++ (ys ++ (zs ++ us)))
four met one two three last xs ys zs us first second third fourth =
    fourth ∙ ap (λ m. first_from m us) third ∙ sym (first_from_joined two zs us) ∙ ap (λ m. first_from m (zs ++ us)) second ∙ sym (first_from_joined one ys (zs ++ us))
    ∙ ap (λ m. first_from m (ys ++ (zs ++ us))) first ∙ sym (first_from_joined met xs (ys ++ (zs ++ us)))

signature_met : (in_class : Bool) (s : Signature Note) (met : Option Fault) → met_signature in_class s met ≡ first_from met (signature_faults (record { in_class = in_class; signature = s }))
unfolding met_signature
signature_met in_class s met =
    four met _ _ _ _ (defaults_faults (record { in_class = in_class; signature = s })) (constants_faults (record { in_class = in_class; signature = s }))
    (types_faults (record { in_class = in_class; signature = s })) (params_faults (record { in_class = in_class; signature = s }))
    (optional_values (signature_scope in_class) (λ p. p.default) (elements s.params) met ∙ expressions_met (signature_scope in_class) (as_values (defaults_of s)) met)
    (optional_constants (λ p. p.default) (elements s.params) _ ∙ constants_met (defaults_of s) _) (types_met in_class (elements s.params) s.result _) (params_met (elements s.params) false _)

-- ---- those of a script

abbrev signatures_in : Member Note → List (Signed Note)
signatures_in member = map (λ m. record { in_class = true; signature = m.signature }) (methods_of member)

member_met : (member : Member Note) (met : Option Fault) → met_member_signature member met ≡ first_from met (flat_map signature_faults (signatures_in member))
member_met (uses at names) met = refl
member_met (uses_by at names rules) met = refl
member_met (class_constants modifiers items) met = refl
member_met (method m) met = signature_met true m.signature met ∙ ap (first_from met) (sym (nothing_behind (signature_faults (record { in_class = true; signature = m.signature }))))
member_met (properties modifiers variables) met = refl

members_met : (members : List (Member Note)) (met : Option Fault) → over met_member_signature members met ≡ first_from met (flat_map signature_faults (flat_map signatures_in members ++ []))
members_met members met =
    over_faults met_member_signature (λ member. flat_map signature_faults (signatures_in member)) member_met members met
    ∙ ap (first_from met) (sym (flat_map_flat_map signature_faults signatures_in members)) ∙ ap (λ xs. first_from met (flat_map signature_faults xs)) (sym (nothing_behind (flat_map signatures_in members)))

item_met : (item : Item Note) (met : Option Fault) → met_item_signatures item met ≡ first_from met (flat_map signature_faults (item_signatures item))
item_met (of_statement s) met = refl
item_met (of_function g) met = signature_met false g.signature met ∙ ap (first_from met) (sym (nothing_behind (signature_faults (record { in_class = false; signature = g.signature }))))
item_met (of_class c) met = members_met (elements c.members) met
item_met (of_interface i) met = members_met (elements i.members) met
item_met (of_trait t) met = members_met (elements t.members) met

pub signatures_met : (items : List (Item Note)) (met : Option Fault) → over met_item_signatures items met ≡ first_from met (flat_map signature_faults (signatures items))
signatures_met items met =
    over_faults met_item_signatures (λ item. flat_map signature_faults (item_signatures item)) item_met items met ∙ ap (first_from met) (sym (flat_map_flat_map signature_faults item_signatures items))
