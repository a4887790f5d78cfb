-- What the walk meets, form by form, is the first of the faults of an expression and of those inside it.
use Rattle.std.proofs.Common.{◌≡◌, Bool, true, false, Option, List, [], ◌∷◌, ◌++◌, map, flat_map, refl, sym, ◌∙◌, ap}
use Rattle.php_ast.specs.declared.operator.Prefix.{Prefix}
use Rattle.php_ast.specs.declared.operator.Prefix.TheVariants as prefix_form
use Rattle.php_ast.specs.expression.Tree.{Tree, leaf, template, enclosed, listed, exit, exit_empty, static_member, append, index, selected, computed, call, new, new_with, prefix, count, binary, instance_of, instance_of_static, choice, short_choice, assign, yield_nothing, yield_value, yield_pair}
use Rattle.php_ast.specs.expression.Tree.{Items, none, and, skip, Lead, plain, reference, spread, keyed, keyed_reference, Pieces, no_piece, bytes, value, Class, class_name, class_static, class_found, Steps, from, step_property, step_index}
use Rattle.php_ast.specs.expression.Tree as tree
use Rattle.php_ast.specs.expression.View.{Note}
use Rattle.php_legality.specs.declared.fault.Fault.{Fault}
use Rattle.php_legality.specs.declared.scope.Scope.{Scope}
use Rattle.php_legality.specs.First.{first_from}
use Rattle.php_legality.specs.Expressions.{Use, valued, changed, target_use, source_use, operand_use, item_use, use_behind, Used, used, used_inside, used_items, all_used}
use Rattle.php_legality.specs.Rows.{yields, inner_words, inner_leaf, inner_class}
use Rattle.php_legality.proofs.FirstLemmas.{first_from_joined}
use Rattle.php_legality.proofs.HasLemmas.{flat_map_joined, append_assoc}
use Rattle.php_places.specs.Faults.{use_faults, outside, word_faults, faults_at}
use Rattle.php_places.specs.Met.{at_words, at_use, prefix_words, met_inside, met_items, met_lead, met_pieces, met_class, met_steps, met_used}

abbrev pub faults_in : Scope → List (Used Note) → List Fault
faults_in scope xs = flat_map (faults_at scope) xs

-- those of the parts of forms
some_note : Note
some_note = record { place = 0; line = 0; text = [] }

abbrev used_pieces : Pieces Note → List (Used Note)
used_pieces pieces = used_inside valued (template some_note pieces)

abbrev used_class : Class Note → List (Used Note)
used_class class = used_inside valued (new some_note class)

abbrev used_steps : Steps Note → List (Used Note)
used_steps steps = used_class (class_found steps)

-- ---- joints

-- one part behind another one
behind : (scope : Scope) (met one two : Option Fault) (xs ys : List (Used Note)) → one ≡ first_from met (faults_in scope xs) → two ≡ first_from one (faults_in scope ys)
    → two ≡ first_from met (faults_in scope (xs ++ ys))
behind scope met one two xs ys first second =
    second ∙ ap (λ m. first_from m (faults_in scope ys)) first ∙ sym (first_from_joined met (faults_in scope xs) (faults_in scope ys))
    ∙ ap (first_from met) (sym (flat_map_joined (faults_at scope) xs ys))

-- what stands inside, behind the words of the expression itself
worded : (scope : Scope) (e : Tree Note) (met one two : Option Fault) (xs : List (Used Note)) → one ≡ first_from met (word_faults scope e) → two ≡ first_from one (faults_in scope xs)
    → two ≡ first_from met (word_faults scope e ++ faults_in scope xs)
worded scope e met one two xs first second =
    second ∙ ap (λ m. first_from m (faults_in scope xs)) first ∙ sym (first_from_joined met (word_faults scope e) (faults_in scope xs))

none_outside : (may_stand : Bool) → outside may_stand [] ≡ []
none_outside true = refl
none_outside false = refl

nothing_behind : {A : Type 0} (xs : List A) → xs ++ [] ≡ xs
nothing_behind [] = refl
nothing_behind (x ∷ xs) = ap (λ ys. x ∷ ys) (nothing_behind xs)

-- an expression without such words
wordless : (scope : Scope) (e : Tree Note) (met : Option Fault) → yields e ≡ [] → inner_words e ≡ [] → met ≡ first_from met (word_faults scope e)
wordless scope e met no_yield no_name =
    ap (first_from met)
    (sym (ap (λ ys. outside scope.in_function ys ++ outside scope.in_class (inner_words e)) no_yield ∙ ap (λ ns. outside scope.in_function [] ++ outside scope.in_class ns) no_name
    ∙ ap (λ fs. fs ++ outside scope.in_class []) (none_outside scope.in_function) ∙ none_outside scope.in_class))

-- one with a `yield`
yielding : (scope : Scope) (e : Tree Note) (words : List Note) (met : Option Fault) → yields e ≡ words → inner_words e ≡ [] → at_words scope.in_function words met ≡ first_from met (word_faults scope e)
unfolding at_words
yielding scope e words met some no_name =
    ap (first_from met)
    (sym (ap (λ ys. outside scope.in_function ys ++ outside scope.in_class (inner_words e)) some ∙ ap (λ ns. outside scope.in_function words ++ outside scope.in_class ns) no_name
    ∙ ap (λ fs. outside scope.in_function words ++ fs) (none_outside scope.in_class) ∙ nothing_behind (outside scope.in_function words)))

-- one with the name of a class
naming : (scope : Scope) (e : Tree Note) (words : List Note) (met : Option Fault) → yields e ≡ [] → inner_words e ≡ words → at_words scope.in_class words met ≡ first_from met (word_faults scope e)
unfolding at_words
naming scope e words met no_yield some =
    ap (first_from met)
    (sym (ap (λ ys. outside scope.in_function ys ++ outside scope.in_class (inner_words e)) no_yield ∙ ap (λ ns. outside scope.in_function [] ++ outside scope.in_class ns) some
    ∙ ap (λ fs. fs ++ outside scope.in_class words) (none_outside scope.in_function)))

plainly : (scope : Scope) (e : Tree Note) (met two : Option Fault) (xs : List (Used Note)) → yields e ≡ [] → inner_words e ≡ [] → two ≡ first_from met (faults_in scope xs)
    → two ≡ first_from met (word_faults scope e ++ faults_in scope xs)
plainly scope e met two xs no_yield no_name inside = worded scope e met met two xs (wordless scope e met no_yield no_name) inside

-- the expression itself, and then what is inside
itself : (scope : Scope) (u : Use) (e : Tree Note) (met two : Option Fault) → two ≡ first_from (at_use u e met) (word_faults scope e ++ faults_in scope (used_inside u e))
    → two ≡ first_from met (faults_in scope (used u e ∷ used_inside u e))
unfolding at_use
itself scope u e met two inside =
    inside ∙ sym (first_from_joined met (use_faults u e) (word_faults scope e ++ faults_in scope (used_inside u e)))
    ∙ ap (first_from met) (sym (append_assoc (use_faults u e) (word_faults scope e) (faults_in scope (used_inside u e))))

prefix_yields : (at : Note) (op : Prefix) (e : Tree Note) → yields (prefix at op e) ≡ prefix_words at op
prefix_yields at prefix_form.Clone e = refl
prefix_yields at prefix_form.Increment e = refl
prefix_yields at prefix_form.Decrement e = refl
prefix_yields at prefix_form.BitNot e = refl
prefix_yields at prefix_form.Silence e = refl
prefix_yields at prefix_form.ToInt e = refl
prefix_yields at prefix_form.ToBool e = refl
prefix_yields at prefix_form.ToText e = refl
prefix_yields at prefix_form.ToArray e = refl
prefix_yields at prefix_form.Plus e = refl
prefix_yields at prefix_form.Minus e = refl
prefix_yields at prefix_form.Not e = refl
prefix_yields at prefix_form.Print e = refl
prefix_yields at prefix_form.YieldFrom e = refl

-- ---- form by form

mutual
  inside_met : (scope : Scope) (u : Use) (e : Tree Note) (met : Option Fault) → met_inside scope u e met ≡ first_from met (word_faults scope e ++ faults_in scope (used_inside u e))
  inside_met scope u (leaf at l) met = plainly scope (leaf at l) met _ [] refl refl refl
  inside_met scope u (template at pieces) met = plainly scope (template at pieces) met _ (used_pieces pieces) refl refl (pieces_met scope pieces met)
  inside_met scope u (enclosed at enclosure e) met =
      plainly scope (enclosed at enclosure e) met _ (used valued e ∷ used_inside valued e) refl refl (itself scope valued e met _ (inside_met scope valued e (at_use valued e met)))
  inside_met scope u (listed at listing items) met = plainly scope (listed at listing items) met _ (used_items (item_use u listing) items) refl refl (items_met scope (item_use u listing) items met)
  inside_met scope u (exit at) met = plainly scope (exit at) met _ [] refl refl refl
  inside_met scope u (exit_empty at) met = plainly scope (exit_empty at) met _ [] refl refl refl
  inside_met scope u (static_member at member) met = worded scope (static_member at member) met _ _ [] (naming scope (static_member at member) (at ∷ []) met refl refl) refl
  inside_met scope u (append e) met =
      plainly scope (append e) met _ (used valued e ∷ used_inside valued e) refl refl (itself scope valued e met _ (inside_met scope valued e (at_use valued e met)))
  inside_met scope u (index e key) met =
      plainly scope (index e key) met _ ((used valued e ∷ used_inside valued e) ++ (used valued key ∷ used_inside valued key)) refl refl
      (behind scope met _ _ (used valued e ∷ used_inside valued e) (used valued key ∷ used_inside valued key) (itself scope valued e met _ (inside_met scope valued e (at_use valued e met)))
      (itself scope valued key _ _ (inside_met scope valued key (at_use valued key _))))
  inside_met scope u (selected e tree.thin member) met =
      plainly scope (selected e tree.thin member) met _ (used valued e ∷ used_inside valued e) refl refl (itself scope valued e met _ (inside_met scope valued e (at_use valued e met)))
  inside_met scope u (selected e tree.colons member) met =
      worded scope (selected e tree.colons member) met _ _ (used valued e ∷ used_inside valued e) (naming scope (selected e tree.colons member) (inner_leaf e) met refl refl)
      (itself scope valued e _ _ (inside_met scope valued e (at_use valued e (at_words scope.in_class (inner_leaf e) met))))
  inside_met scope u (computed e key) met =
      plainly scope (computed e key) met _ ((used valued e ∷ used_inside valued e) ++ (used valued key ∷ used_inside valued key)) refl refl
      (behind scope met _ _ (used valued e ∷ used_inside valued e) (used valued key ∷ used_inside valued key) (itself scope valued e met _ (inside_met scope valued e (at_use valued e met)))
      (itself scope valued key _ _ (inside_met scope valued key (at_use valued key _))))
  inside_met scope u (call f items) met =
      plainly scope (call f items) met _ ((used valued f ∷ used_inside valued f) ++ used_items valued items) refl refl
      (behind scope met _ _ (used valued f ∷ used_inside valued f) (used_items valued items) (itself scope valued f met _ (inside_met scope valued f (at_use valued f met)))
      (items_met scope valued items _))
  inside_met scope u (new at class) met =
      worded scope (new at class) met _ _ (used_class class) (naming scope (new at class) (inner_class class) met refl refl)
      (class_met scope class (at_words scope.in_class (inner_class class) met))
  inside_met scope u (new_with at class items) met =
      worded scope (new_with at class items) met _ _ (used_class class ++ used_items valued items) (naming scope (new_with at class items) (inner_class class) met refl refl)
      (behind scope (at_words scope.in_class (inner_class class) met) _ _ (used_class class) (used_items valued items) (class_met scope class (at_words scope.in_class (inner_class class) met))
      (items_met scope valued items _))
  inside_met scope u (prefix at op e) met =
      worded scope (prefix at op e) met _ _ (used (operand_use op) e ∷ used_inside (operand_use op) e) (yielding scope (prefix at op e) (prefix_words at op) met (prefix_yields at op e) refl)
      (itself scope (operand_use op) e _ _ (inside_met scope (operand_use op) e (at_use (operand_use op) e (at_words scope.in_function (prefix_words at op) met))))
  inside_met scope u (count e way) met =
      plainly scope (count e way) met _ (used changed e ∷ used_inside changed e) refl refl (itself scope changed e met _ (inside_met scope changed e (at_use changed e met)))
  inside_met scope u (binary op l r) met =
      plainly scope (binary op l r) met _ ((used valued l ∷ used_inside valued l) ++ (used valued r ∷ used_inside valued r)) refl refl
      (behind scope met _ _ (used valued l ∷ used_inside valued l) (used valued r ∷ used_inside valued r) (itself scope valued l met _ (inside_met scope valued l (at_use valued l met)))
      (itself scope valued r _ _ (inside_met scope valued r (at_use valued r _))))
  inside_met scope u (instance_of l r) met =
      worded scope (instance_of l r) met _ _ ((used valued l ∷ used_inside valued l) ++ (used valued r ∷ used_inside valued r)) (naming scope (instance_of l r) (inner_leaf r) met refl refl)
      (behind scope (at_words scope.in_class (inner_leaf r) met) _ _ (used valued l ∷ used_inside valued l) (used valued r ∷ used_inside valued r)
      (itself scope valued l _ _ (inside_met scope valued l (at_use valued l (at_words scope.in_class (inner_leaf r) met)))) (itself scope valued r _ _ (inside_met scope valued r (at_use valued r _))))
  inside_met scope u (instance_of_static l at) met =
      worded scope (instance_of_static l at) met _ _ (used valued l ∷ used_inside valued l) (naming scope (instance_of_static l at) (at ∷ []) met refl refl)
      (itself scope valued l _ _ (inside_met scope valued l (at_use valued l (at_words scope.in_class (at ∷ []) met))))
  inside_met scope u (choice c a b) met =
      plainly scope (choice c a b) met _ (((used valued c ∷ used_inside valued c) ++ (used valued a ∷ used_inside valued a)) ++ (used valued b ∷ used_inside valued b)) refl refl
      (behind scope met _ _ ((used valued c ∷ used_inside valued c) ++ (used valued a ∷ used_inside valued a)) (used valued b ∷ used_inside valued b)
      (behind scope met _ _ (used valued c ∷ used_inside valued c) (used valued a ∷ used_inside valued a) (itself scope valued c met _ (inside_met scope valued c (at_use valued c met)))
      (itself scope valued a _ _ (inside_met scope valued a (at_use valued a _))))
      (itself scope valued b _ _ (inside_met scope valued b (at_use valued b _))))
  inside_met scope u (short_choice c b) met =
      plainly scope (short_choice c b) met _ ((used valued c ∷ used_inside valued c) ++ (used valued b ∷ used_inside valued b)) refl refl
      (behind scope met _ _ (used valued c ∷ used_inside valued c) (used valued b ∷ used_inside valued b) (itself scope valued c met _ (inside_met scope valued c (at_use valued c met)))
      (itself scope valued b _ _ (inside_met scope valued b (at_use valued b _))))
  inside_met scope u (assign setting l r) met =
      plainly scope (assign setting l r) met _ ((used (target_use setting) l ∷ used_inside (target_use setting) l) ++ (used (source_use setting) r ∷ used_inside (source_use setting) r)) refl refl
      (behind scope met _ _ (used (target_use setting) l ∷ used_inside (target_use setting) l) (used (source_use setting) r ∷ used_inside (source_use setting) r)
      (itself scope (target_use setting) l met _ (inside_met scope (target_use setting) l (at_use (target_use setting) l met)))
      (itself scope (source_use setting) r _ _ (inside_met scope (source_use setting) r (at_use (source_use setting) r _))))
  inside_met scope u (yield_nothing at) met = worded scope (yield_nothing at) met _ _ [] (yielding scope (yield_nothing at) (at ∷ []) met refl refl) refl
  inside_met scope u (yield_value at v) met =
      worded scope (yield_value at v) met _ _ (used valued v ∷ used_inside valued v) (yielding scope (yield_value at v) (at ∷ []) met refl refl)
      (itself scope valued v _ _ (inside_met scope valued v (at_use valued v (at_words scope.in_function (at ∷ []) met))))
  inside_met scope u (yield_pair at k v) met =
      worded scope (yield_pair at k v) met _ _ ((used valued k ∷ used_inside valued k) ++ (used valued v ∷ used_inside valued v)) (yielding scope (yield_pair at k v) (at ∷ []) met refl refl)
      (behind scope (at_words scope.in_function (at ∷ []) met) _ _ (used valued k ∷ used_inside valued k) (used valued v ∷ used_inside valued v)
      (itself scope valued k _ _ (inside_met scope valued k (at_use valued k (at_words scope.in_function (at ∷ []) met)))) (itself scope valued v _ _ (inside_met scope valued v (at_use valued v _))))

  items_met : (scope : Scope) (u : Use) (items : Items Note) (met : Option Fault) → met_items scope u items met ≡ first_from met (faults_in scope (used_items u items))
  items_met scope u none met = refl
  items_met scope u (and items plain e) met =
      behind scope met _ _ (used_items u items ++ []) (used u e ∷ used_inside u e)
      (behind scope met _ _ (used_items u items) [] (items_met scope u items met) refl)
      (itself scope u e _ _ (inside_met scope u e (at_use u e _)))
  items_met scope u (and items reference e) met =
      behind scope met _ _ (used_items u items ++ []) (used changed e ∷ used_inside changed e)
      (behind scope met _ _ (used_items u items) [] (items_met scope u items met) refl)
      (itself scope changed e _ _ (inside_met scope changed e (at_use changed e _)))
  items_met scope u (and items spread e) met =
      behind scope met _ _ (used_items u items ++ []) (used u e ∷ used_inside u e)
      (behind scope met _ _ (used_items u items) [] (items_met scope u items met) refl)
      (itself scope u e _ _ (inside_met scope u e (at_use u e _)))
  items_met scope u (and items (keyed k) e) met =
      behind scope met _ _ (used_items u items ++ (used valued k ∷ used_inside valued k)) (used u e ∷ used_inside u e)
      (behind scope met _ _ (used_items u items) (used valued k ∷ used_inside valued k) (items_met scope u items met) (itself scope valued k _ _ (inside_met scope valued k (at_use valued k _))))
      (itself scope u e _ _ (inside_met scope u e (at_use u e _)))
  items_met scope u (and items (keyed_reference k) e) met =
      behind scope met _ _ (used_items u items ++ (used valued k ∷ used_inside valued k)) (used changed e ∷ used_inside changed e)
      (behind scope met _ _ (used_items u items) (used valued k ∷ used_inside valued k) (items_met scope u items met) (itself scope valued k _ _ (inside_met scope valued k (at_use valued k _))))
      (itself scope changed e _ _ (inside_met scope changed e (at_use changed e _)))
  items_met scope u (skip items) met = items_met scope u items met

  pieces_met : (scope : Scope) (pieces : Pieces Note) (met : Option Fault) → met_pieces scope pieces met ≡ first_from met (faults_in scope (used_pieces pieces))
  pieces_met scope no_piece met = refl
  pieces_met scope (bytes pieces text) met = pieces_met scope pieces met
  pieces_met scope (value pieces e) met =
      behind scope met _ _ (used_pieces pieces) (used valued e ∷ used_inside valued e) (pieces_met scope pieces met) (itself scope valued e _ _ (inside_met scope valued e (at_use valued e _)))

  class_met : (scope : Scope) (class : Class Note) (met : Option Fault) → met_class scope class met ≡ first_from met (faults_in scope (used_class class))
  class_met scope (class_name at text) met = refl
  class_met scope (class_static at) met = refl
  class_met scope (class_found steps) met = steps_met scope steps met

  steps_met : (scope : Scope) (steps : Steps Note) (met : Option Fault) → met_steps scope steps met ≡ first_from met (faults_in scope (used_steps steps))
  steps_met scope (from at text) met = refl
  steps_met scope (step_property steps member) met = steps_met scope steps met
  steps_met scope (step_index steps e) met =
      behind scope met _ _ (used_steps steps) (used valued e ∷ used_inside valued e) (steps_met scope steps met) (itself scope valued e _ _ (inside_met scope valued e (at_use valued e _)))

-- the whole of an expression
pub used_met : (scope : Scope) (u : Use) (e : Tree Note) (met : Option Fault) → met_used scope u e met ≡ first_from met (faults_in scope (all_used (used u e)))
used_met scope u e met = itself scope u e met _ (inside_met scope u e (at_use u e met))
