-- What the check of one statement meets is the first of its faults.
use Rattle.std.proofs.Common.{◌≡◌, Bool, true, false, not, cond, Option, Some, None, List, [], ◌∷◌, ◌++◌, map, flat_map, refl, sym, ◌∙◌, ap}
use Rattle.php_ast.specs.expression.Tree.{Tree}
use Rattle.php_ast.specs.expression.View.{Note}
use Rattle.php_ast.specs.statement.Tree.{Name, Statement, block, blank, inline, expression, echo, globals, statics, unset, constants, jump, throw, if_only, if_else, if_lists, if_else_lists, while, do_while, for, foreach, switch, try_catch, try_finally, declares, returning, breaking, continuing, Catches, no_catch, and_catch}
use Rattle.php_legality.specs.declared.kind.Kind.TheVariants as kind
use Rattle.php_legality.specs.declared.fault.Fault.{Fault}
use Rattle.php_legality.specs.declared.scope.Scope.{Scope}
use Rattle.php_legality.specs.Lists.{elements, where_true}
use Rattle.php_legality.specs.First.{fault_at, first_from}
use Rattle.php_legality.specs.Expressions.{Used, all_used}
use Rattle.php_legality.specs.Statements.{own, own_constants, caught_in}
use Rattle.php_legality.specs.Rows.{is_inner_name, inner_name}
use Rattle.php_legality.proofs.FirstLemmas.{first_from_joined}
use Rattle.php_legality.proofs.HasLemmas.{flat_map_joined, flat_map_flat_map, map_joined}
use Rattle.php_places.specs.Over.{over}
use Rattle.php_places.specs.Faults.{outside, faults_at}
use Rattle.php_places.specs.Met.{where_bad}
use Rattle.php_places.proofs.Bridge.{used_met}
use Rattle.php_bodies.specs.Own.{met_any, met_constant, met_name, met_catches, met_words, met_own}
use Rattle.php_bodies.specs.Sites.{expression_faults, constant_faults, word_faults, site_faults}
use Rattle.php_bodies.proofs.OverLemmas.{over_faults}

pub expressions_met : (scope : Scope) (es : List (Used Note)) (met : Option Fault) → over (met_any scope) es met ≡ first_from met (expression_faults scope es)
expressions_met scope es met =
    over_faults (met_any scope) (λ x. flat_map (faults_at scope) (all_used x)) (λ x m. used_met scope x.use_of x.tree m) es met
    ∙ ap (first_from met) (sym (flat_map_flat_map (faults_at scope) all_used es))

pub constants_met : (es : List (Tree Note)) (met : Option Fault) → over met_constant es met ≡ first_from met (flat_map constant_faults es)
unfolding met_constant
constants_met es met = over_faults met_constant constant_faults (λ e m. refl) es met

-- ---- words

pub outside_joined : (may_stand : Bool) (xs ys : List Note) → outside may_stand (xs ++ ys) ≡ outside may_stand xs ++ outside may_stand ys
outside_joined true xs ys = refl
outside_joined false xs ys = map_joined (fault_at kind.BadUse) xs ys

pub none_outside : (may_stand : Bool) → outside may_stand [] ≡ []
none_outside true = refl
none_outside false = refl

nothing_behind : {A : Type 0} (xs : List A) → xs ++ [] ≡ xs
nothing_behind [] = refl
nothing_behind (x ∷ xs) = ap (λ ys. x ∷ ys) (nothing_behind xs)

mapped : {A B : Type 0} (t : Bool) (f : A → B) (x : A) → where_true t (f x) ≡ map f (where_true t x)
mapped true f x = refl
mapped false f x = refl

one_name : (in_class : Bool) (n : Name Note) (met : Option Fault) → met_name in_class n met ≡ first_from met (outside in_class (inner_name n))
unfolding met_name
one_name true n met = refl
one_name false n met = ap (first_from met) (mapped (is_inner_name n.text) (fault_at kind.BadUse) n.note)

outside_flat : {A : Type 0} (may_stand : Bool) (f : A → List Note) (xs : List A) → flat_map (λ x. outside may_stand (f x)) xs ≡ outside may_stand (flat_map f xs)
outside_flat may_stand f [] = sym (none_outside may_stand)
outside_flat may_stand f (x ∷ xs) = ap (λ zs. outside may_stand (f x) ++ zs) (outside_flat may_stand f xs) ∙ sym (outside_joined may_stand (f x) (flat_map f xs))

-- elements of which each has words that may stand or not
pub over_outside : {A : Type 0} (each : A → Option Fault → Option Fault) (may_stand : Bool) (f : A → List Note)
    → ((x : A) (m : Option Fault) → each x m ≡ first_from m (outside may_stand (f x))) → (xs : List A) (met : Option Fault) → over each xs met ≡ first_from met (outside may_stand (flat_map f xs))
over_outside each may_stand f same xs met = over_faults each (λ x. outside may_stand (f x)) same xs met ∙ ap (first_from met) (outside_flat may_stand f xs)

pub names_met : (in_class : Bool) (ns : List (Name Note)) (met : Option Fault) → over (met_name in_class) ns met ≡ first_from met (outside in_class (flat_map inner_name ns))
names_met in_class ns met = over_outside (met_name in_class) in_class inner_name (one_name in_class) ns met

pub name_met : (in_class : Bool) (n : Name Note) (met : Option Fault) → met_name in_class n met ≡ first_from met (outside in_class (inner_name n))
name_met in_class n met = one_name in_class n met

catches_met : (in_class : Bool) (catches : Catches Note) (met : Option Fault) → met_catches in_class catches met ≡ first_from met (outside in_class (flat_map inner_name (caught_in catches)))
catches_met in_class no_catch met = ap (first_from met) (sym (none_outside in_class))
catches_met in_class (and_catch catches classes variable body) met =
    names_met in_class (elements classes) (met_catches in_class catches met)
    ∙ ap (λ m. first_from m (outside in_class (flat_map inner_name (elements classes)))) (catches_met in_class catches met)
    ∙ sym (first_from_joined met (outside in_class (flat_map inner_name (caught_in catches))) (outside in_class (flat_map inner_name (elements classes))))
    ∙ ap (first_from met)
    (sym (outside_joined in_class (flat_map inner_name (caught_in catches)) (flat_map inner_name (elements classes)))
    ∙ ap (outside in_class) (sym (flat_map_joined inner_name (caught_in catches) (elements classes))))

no_words : (a b : Bool) (met : Option Fault) → met ≡ first_from met (outside a [] ++ (outside b [] ++ []))
no_words true true met = refl
no_words true false met = refl
no_words false true met = refl
no_words false false met = refl

caught_alone : (a b : Bool) (ws : List Note) (met r : Option Fault) → r ≡ first_from met (outside a ws) → r ≡ first_from met (outside a ws ++ (outside b [] ++ []))
caught_alone a true ws met r is = is ∙ ap (first_from met) (sym (nothing_behind (outside a ws)))
caught_alone a false ws met r is = is ∙ ap (first_from met) (sym (nothing_behind (outside a ws)))

returned : (a is_void : Bool) (at : Note) (met : Option Fault) → where_bad is_void kind.BadUse at met ≡ first_from met (outside a [] ++ (outside (not is_void) (at ∷ []) ++ []))
returned true true at met = refl
returned true false at met = refl
returned false true at met = refl
returned false false at met = refl

declared : (a b : Bool) (at : Note) (met : Option Fault) → where_bad true kind.BadUse at met ≡ first_from met (outside a [] ++ (outside b [] ++ map (fault_at kind.BadUse) (at ∷ [])))
declared true true at met = refl
declared true false at met = refl
declared false true at met = refl
declared false false at met = refl

words_met : (scope : Scope) (s : Statement Note) (met : Option Fault) → met_words scope s met ≡ first_from met (word_faults scope s)
words_met scope (block at body) met = no_words scope.in_class (not scope.is_void) met
words_met scope (blank at) met = no_words scope.in_class (not scope.is_void) met
words_met scope (inline at text) met = no_words scope.in_class (not scope.is_void) met
words_met scope (expression at e) met = no_words scope.in_class (not scope.is_void) met
words_met scope (echo at es) met = no_words scope.in_class (not scope.is_void) met
words_met scope (globals at names) met = no_words scope.in_class (not scope.is_void) met
words_met scope (statics at variables) met = no_words scope.in_class (not scope.is_void) met
words_met scope (unset at es) met = no_words scope.in_class (not scope.is_void) met
words_met scope (constants at items) met = no_words scope.in_class (not scope.is_void) met
words_met scope (jump at returning None) met = no_words scope.in_class (not scope.is_void) met
words_met scope (jump at returning (Some e)) met = returned scope.in_class scope.is_void at met
words_met scope (jump at breaking e) met = no_words scope.in_class (not scope.is_void) met
words_met scope (jump at continuing e) met = no_words scope.in_class (not scope.is_void) met
words_met scope (throw at e) met = no_words scope.in_class (not scope.is_void) met
words_met scope (if_only at test body parts) met = no_words scope.in_class (not scope.is_void) met
words_met scope (if_else at test body parts last) met = no_words scope.in_class (not scope.is_void) met
words_met scope (if_lists at test body parts) met = no_words scope.in_class (not scope.is_void) met
words_met scope (if_else_lists at test body parts last) met = no_words scope.in_class (not scope.is_void) met
words_met scope (while at test body) met = no_words scope.in_class (not scope.is_void) met
words_met scope (do_while at body test) met = no_words scope.in_class (not scope.is_void) met
words_met scope (for at starts tests steps body) met = no_words scope.in_class (not scope.is_void) met
words_met scope (foreach at walked key value body) met = no_words scope.in_class (not scope.is_void) met
words_met scope (switch at e form cases) met = no_words scope.in_class (not scope.is_void) met
words_met scope (try_catch at body catches) met =
    caught_alone scope.in_class (not scope.is_void) (flat_map inner_name (caught_in catches)) met (met_catches scope.in_class catches met) (catches_met scope.in_class catches met)
words_met scope (try_finally at body catches last) met =
    caught_alone scope.in_class (not scope.is_void) (flat_map inner_name (caught_in catches)) met (met_catches scope.in_class catches met) (catches_met scope.in_class catches met)
words_met scope (declares at name n) met = declared scope.in_class (not scope.is_void) at met

-- ---- all of it

three : (met one two last : Option Fault) (xs ys zs : List Fault) → one ≡ first_from met xs → two ≡ first_from one ys → last ≡ first_from two zs → last ≡ first_from met (xs ++ (ys ++ zs))
three met one two last xs ys zs first second third =
    third ∙ ap (λ m. first_from m zs) second ∙ sym (first_from_joined one ys zs) ∙ ap (λ m. first_from m (ys ++ zs)) first ∙ sym (first_from_joined met xs (ys ++ zs))

pub own_met : (scope : Scope) (s : Statement Note) (met : Option Fault) → met_own scope s met ≡ first_from met (site_faults scope s)
unfolding met_own
own_met scope s met =
    three met _ _ _ (expression_faults scope (own s)) (flat_map constant_faults (own_constants s)) (word_faults scope s) (expressions_met scope (own s) met) (constants_met (own_constants s) _)
    (words_met scope s _)
