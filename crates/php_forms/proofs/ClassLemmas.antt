-- What the check of the words before classes and of their names meets is the first of their faults.
use Rattle.std.proofs.Common.{◌≡◌, ◌-◌, ℕ, zero, suc, length, take, arith, Bool, true, false, Option, List, [], ◌∷◌, ◌++◌, map, drop, filter, flat_map, refl, sym, ◌∙◌, ap}
use Rattle.php_ast.specs.declared.spot.Spot.{Spot}
use Rattle.php_ast.specs.declared.declaration.ClassModifier.{ClassModifier}
use Rattle.php_ast.specs.expression.View.{Note}
use Rattle.php_ast.specs.declaration.View.{class_word_view}
use Rattle.php_ast.specs.statement.View.{sequence}
use Rattle.php_ast.specs.statement.Tree.{Name}
use Rattle.php_ast.specs.declaration.Tree.{ClassWord, Item, of_statement, of_function, of_class, of_interface, of_trait}
use Rattle.php_legality.specs.declared.kind.Kind.TheVariants as kind
use Rattle.php_legality.specs.declared.fault.Fault.{Fault}
use Rattle.php_legality.specs.Lists.{elements, where_true}
use Rattle.php_legality.specs.First.{fault_at, first_from}
use Rattle.php_legality.specs.Taken.{is_one_of, no_class_names}
use Rattle.php_legality.specs.Rows.{clashing_words, class_words, class_name, taken}
use Rattle.php_legality.proofs.FirstLemmas.{first_from_joined}
use Rattle.php_legality.proofs.SequenceLemmas.{elements_are}
use Rattle.php_places.specs.Over.{over}
use Rattle.php_bodies.proofs.OverLemmas.{over_faults}
use Rattle.php_forms.specs.ClassFaults.{met_class_name, met_class_word, met_item_class}

abbrev pub words_faults : Item Note → List Fault
words_faults item = map (fault_at kind.BadUse) (clashing_words (class_words item))

abbrev pub names_faults : Item Note → List Fault
names_faults item = map (fault_at kind.BadUse) (map (λ n. n.note) (taken no_class_names (class_name item)))

abbrev pub class_faults : Item Note → List Fault
class_faults item = words_faults item ++ names_faults item

noted : (ws : List (ClassWord Note)) → flat_map (λ w. fault_at kind.BadUse w.note ∷ []) ws ≡ map (fault_at kind.BadUse) (map (λ w. w.note) ws)
noted [] = refl
noted (w ∷ ws) = ap (λ fs. fault_at kind.BadUse w.note ∷ fs) (noted ws)

words_met : (ws : List (ClassWord Note)) (met : Option Fault) → over met_class_word ws met ≡ first_from met (map (fault_at kind.BadUse) (map (λ w. w.note) ws))
words_met ws met = over_faults met_class_word (λ w. fault_at kind.BadUse w.note ∷ []) (λ w m. refl) ws met ∙ ap (first_from met) (noted ws)

one_name : (t : Bool) (n : Name Note) (met : Option Fault) → first_from met (where_true t (fault_at kind.BadUse n.note)) ≡ first_from met (map (fault_at kind.BadUse) (map (λ x. x.note) (where_true t n)))
one_name true n met = refl
one_name false n met = refl

name_met : (n : Name Note) (met : Option Fault) → met_class_name n met ≡ first_from met (map (fault_at kind.BadUse) (map (λ x. x.note) (taken no_class_names (n ∷ []))))
unfolding met_class_name
name_met n met = one_name (is_one_of no_class_names n.text) n met

item_met : (item : Item Note) (met : Option Fault) → met_item_class item met ≡ first_from met (class_faults item)
item_met (of_statement s) met = refl
item_met (of_function g) met = refl
item_met (of_class c) met =
    name_met c.name _ ∙ ap (λ m. first_from m (names_faults (of_class c))) (words_met (drop 1 (elements c.modifiers)) met)
    ∙ sym (first_from_joined met (words_faults (of_class c)) (names_faults (of_class c)))
item_met (of_interface i) met = name_met i.name met
item_met (of_trait t) met = name_met t.name met

pub classes_met : (items : List (Item Note)) (met : Option Fault) → over met_item_class items met ≡ first_from met (flat_map class_faults items)
classes_met items met = over_faults met_item_class class_faults item_met items met

-- ---- all words but the first

further_drop : {A B : Type 0} (f : A → B) (ws : List A) → map f (drop 1 ws) ≡ drop 1 (map f ws)
further_drop f [] = refl
further_drop f (w ∷ ws) = refl

taken_whole : {A : Type 0} (xs : List A) (n : ℕ) → n ≡ length xs → take n xs ≡ xs
taken_whole [] zero is = refl
taken_whole [] (suc n) is = absurd (omega arith)
taken_whole (x ∷ xs) zero is = absurd (omega arith)
taken_whole (x ∷ xs) (suc n) is = ap (λ ys. x ∷ ys) (taken_whole xs n (omega arith))

behind_one : {A : Type 0} (ws : List A) → take (length ws - 1) (drop 1 ws) ≡ drop 1 ws
behind_one [] = refl
behind_one (w ∷ ws) = taken_whole ws (length (w ∷ ws) - 1) (omega arith)

pub further : (ws : List (Spot × ClassModifier)) (met : Option Fault)
    → over met_class_word (map class_word_view (take (length ws - 1) (drop 1 ws))) met ≡ over met_class_word (drop 1 (elements (sequence class_word_view ws))) met
further ws met =
    ap (λ xs. over met_class_word (map class_word_view xs) met) (behind_one ws)
    ∙ ap (λ xs. over met_class_word xs met) (further_drop class_word_view ws ∙ ap (drop 1) (sym (elements_are class_word_view ws)))
