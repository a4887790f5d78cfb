-- Forms with lists of parts, from the first part on.
use Rattle.std.specs.Prelude.{◌==◌}
use Rattle.std.proofs.Common.{◌≡◌, ℕ, Bool, true, false, Option, List, [], ◌∷◌, map, length, refl, sym, ◌∙◌, ap, arith}
use Rattle.php_ast.specs.declared.spot.Spot.{Spot}
use Rattle.php_ast.specs.declared.operator.ArrayForm.{ArrayForm}
use Rattle.php_ast.specs.declared.expression.Expr.{Expr}
use Rattle.php_ast.specs.declared.expression.Expr.TheVariants.{Template, Array, IsSet, New, NewWith, Chain, Run}
use Rattle.php_ast.specs.declared.expression.Piece.{Piece}
use Rattle.php_ast.specs.declared.expression.Piece.TheVariants as piece
use Rattle.php_ast.specs.declared.expression.Item.{Item}
use Rattle.php_ast.specs.declared.expression.Item.TheVariants as item
use Rattle.php_ast.specs.declared.expression.Argument.{Argument}
use Rattle.php_ast.specs.declared.expression.Argument.TheVariants as argument
use Rattle.php_ast.specs.declared.expression.Suffix.{Suffix}
use Rattle.php_ast.specs.declared.expression.Suffix.TheVariants as suffix
use Rattle.php_ast.specs.declared.expression.Named.{Named}
use Rattle.php_ast.specs.declared.expression.Named.TheVariants as arrow
use Rattle.php_ast.specs.declared.expression.Class as behind_new
use Rattle.php_ast.specs.declared.expression.ClassStep.{ClassStep}
use Rattle.php_ast.specs.declared.expression.ClassStep.TheVariants as class_step
use Rattle.php_ast.specs.declared.expression.Link.{Link}
use Rattle.php_ast.specs.declared.expression.Link.TheVariants as link
use Rattle.php_ast.specs.expression.Tree.{Tree, Items, none, Pieces, no_piece, Steps, and, plain, array, listed, template, new, new_with, call}
use Rattle.php_ast.specs.expression.View.{Note, spot_view, view, piece_more, pieces_from, item_more, items_from, argument_more, arguments_from, values_from, step_more, steps_from, class_view, with_suffix, with_suffixes, with_link, with_links, property_of}
use Rattle.php_ast.specs.expression.Parts.{piece_with, item_with, argument_with, suffix_with, class_with, link_with}
use Rattle.php_ast.proofs.Views.{view_chain, view_run}
use Rattle.php_legality.specs.declared.fault.Fault.{Fault}
use Rattle.php_legality.specs.declared.scope.Scope.{Scope}
use Rattle.php_legality.specs.First.{first_from}
use Rattle.php_legality.specs.Expressions.{Use, valued, asked, item_use}
use Rattle.php_legality.specs.Rows.{inner_leaf}
use Rattle.php_places.specs.Over.{over}
use Rattle.php_places.specs.Faults.{outside}
use Rattle.php_places.specs.Met.{at_words, at_use, access_words, met_inside, met_items, met_pieces, met_steps, met_used}
use Rattle.php_places.specs.Elements.{met_piece, met_item, met_argument, met_named, met_suffix, met_chain, met_new, met_step, met_link}
use Rattle.php_places.proofs.Views.{view_template, view_array, view_is_set, view_new, view_new_with}
use Rattle.php_places.proofs.WordLemmas.{suffix_leaf}

-- ---- lists

one_piece : (scope : Scope) (before : Pieces Note) (x : Piece (Tree Note)) (met : Option Fault) → met_pieces scope (piece_more before x) met ≡ met_piece scope x (met_pieces scope before met)
one_piece scope before (piece.Bytes text) met = refl
one_piece scope before (piece.Part e) met = refl

pieces_over : (scope : Scope) (before : Pieces Note) (xs : List (Piece (Tree Note))) (met : Option Fault)
    → over (met_piece scope) xs (met_pieces scope before met) ≡ met_pieces scope (pieces_from before xs) met
pieces_over scope before [] met = refl
pieces_over scope before (x ∷ xs) met = ap (over (met_piece scope) xs) (sym (one_piece scope before x met)) ∙ pieces_over scope (piece_more before x) xs met

one_item : (scope : Scope) (u : Use) (before : Items Note) (x : Item (Tree Note)) (met : Option Fault) → met_items scope u (item_more before x) met ≡ met_item scope u x (met_items scope u before met)
one_item scope u before item.Missing met = refl
one_item scope u before (item.Value e) met = refl
one_item scope u before (item.Reference e) met = refl
one_item scope u before (item.Keyed k e) met = refl
one_item scope u before (item.KeyedReference k e) met = refl

items_over : (scope : Scope) (u : Use) (before : Items Note) (xs : List (Item (Tree Note))) (met : Option Fault)
    → over (met_item scope u) xs (met_items scope u before met) ≡ met_items scope u (items_from before xs) met
items_over scope u before [] met = refl
items_over scope u before (x ∷ xs) met = ap (over (met_item scope u) xs) (sym (one_item scope u before x met)) ∙ items_over scope u (item_more before x) xs met

one_argument : (scope : Scope) (before : Items Note) (x : Argument (Tree Note)) (met : Option Fault)
    → met_items scope valued (argument_more before x) met ≡ met_argument scope x (met_items scope valued before met)
one_argument scope before (argument.Value e) met = refl
one_argument scope before (argument.Spread e) met = refl

pub arguments_over : (scope : Scope) (before : Items Note) (xs : List (Argument (Tree Note))) (met : Option Fault)
    → over (met_argument scope) xs (met_items scope valued before met) ≡ met_items scope valued (arguments_from before xs) met
arguments_over scope before [] met = refl
arguments_over scope before (x ∷ xs) met =
    ap (over (met_argument scope) xs) (sym (one_argument scope before x met)) ∙ arguments_over scope (argument_more before x) xs met

pub values_over : (scope : Scope) (u : Use) (before : Items Note) (xs : List (Tree Note)) (met : Option Fault)
    → over (met_used scope u) xs (met_items scope u before met) ≡ met_items scope u (values_from before xs) met
values_over scope u before [] met = refl
values_over scope u before (x ∷ xs) met = values_over scope u (and before plain x) xs met

one_step : (scope : Scope) (before : Steps Note) (x : ClassStep (Tree Note)) (met : Option Fault) → met_steps scope (step_more before x) met ≡ met_step scope x (met_steps scope before met)
one_step scope before (class_step.Property w) met = refl
one_step scope before (class_step.Index e) met = refl

pub steps_over : (scope : Scope) (before : Steps Note) (xs : List (ClassStep (Tree Note))) (met : Option Fault)
    → over (met_step scope) xs (met_steps scope before met) ≡ met_steps scope (steps_from before xs) met
steps_over scope before [] met = refl
steps_over scope before (x ∷ xs) met = ap (over (met_step scope) xs) (sym (one_step scope before x met)) ∙ steps_over scope (step_more before x) xs met

-- ---- forms with one list

pub walked_template : (scope : Scope) (u : Use) (spot : Spot) (pieces : List (Piece Expr)) (met : Option Fault)
    → over (met_piece scope) (map (piece_with view) pieces) met ≡ met_inside scope u (view (Template spot pieces)) met
walked_template scope u spot pieces met = pieces_over scope no_piece (map (piece_with view) pieces) met ∙ ap (λ t. met_inside scope u t met) (sym (view_template spot pieces))

pub walked_array : (scope : Scope) (u : Use) (spot : Spot) (form : ArrayForm) (items : List (Item Expr)) (met : Option Fault)
    → over (met_item scope (item_use u (array form))) (map (item_with view) items) met ≡ met_inside scope u (view (Array spot form items)) met
walked_array scope u spot form items met =
    items_over scope (item_use u (array form)) none (map (item_with view) items) met ∙ ap (λ t. met_inside scope u t met) (sym (view_array spot form items))

pub walked_is_set : (scope : Scope) (u : Use) (spot : Spot) (es : List Expr) (met : Option Fault) → over (met_used scope asked) (map view es) met ≡ met_inside scope u (view (IsSet spot es)) met
walked_is_set scope u spot es met = values_over scope asked none (map view es) met ∙ ap (λ t. met_inside scope u t met) (sym (view_is_set spot es))

pub walked_new : (scope : Scope) (u : Use) (spot : Spot) (c : behind_new.Class Expr) (met : Option Fault)
    → met_new scope (class_view (class_with view c)) met ≡ met_inside scope u (view (New spot c)) met
walked_new scope u spot c met = ap (λ t. met_inside scope u t met) (sym (view_new spot c))

pub walked_new_with : (scope : Scope) (u : Use) (spot : Spot) (c : behind_new.Class Expr) (arguments : List (Argument Expr)) (met : Option Fault)
    → over (met_argument scope) (map (argument_with view) arguments) (met_new scope (class_view (class_with view c)) met) ≡ met_inside scope u (view (NewWith spot c arguments)) met
walked_new_with scope u spot c arguments met =
    arguments_over scope none (map (argument_with view) arguments) (met_new scope (class_view (class_with view c)) met)
    ∙ ap (λ t. met_inside scope u t met) (sym (view_new_with spot c arguments))

-- ---- suffixes

-- nothing is wrong with a suffix for its value alone
value_of_suffix : (e : Tree Note) (x : Suffix (Tree Note)) (met : Option Fault) → at_use valued (with_suffix e x) met ≡ met
unfolding at_use
value_of_suffix e suffix.Append met = refl
value_of_suffix e (suffix.Index k) met = refl
value_of_suffix e (suffix.Property (arrow.Word w)) met = refl
value_of_suffix e (suffix.Property (arrow.Variable n)) met = refl
value_of_suffix e (suffix.Property (arrow.Computed k)) met = refl
value_of_suffix e (suffix.Member m) met = refl
value_of_suffix e (suffix.Call arguments) met = refl

no_word : (may_stand : Bool) (met : Option Fault) → at_words may_stand [] met ≡ met
unfolding at_words
no_word true met = refl
no_word false met = refl

-- no name of a class stands before a further suffix
further_words : (scope : Scope) (e : Tree Note) (x y : Suffix (Tree Note)) (met : Option Fault) → at_words scope.in_class (access_words (with_suffix e x) y) met ≡ met
further_words scope e x suffix.Append met = no_word scope.in_class met
further_words scope e x (suffix.Index k) met = no_word scope.in_class met
further_words scope e x (suffix.Property n) met = no_word scope.in_class met
further_words scope e x (suffix.Member m) met = ap (λ ws. at_words scope.in_class ws met) (sym (suffix_leaf e x)) ∙ no_word scope.in_class met
further_words scope e x (suffix.Call arguments) met = no_word scope.in_class met

no_access : (scope : Scope) (e : Tree Note) (met : Option Fault) → met_used scope valued e (at_words scope.in_class [] met) ≡ met_used scope valued e met
no_access scope e met = ap (met_used scope valued e) (no_word scope.in_class met)

property_met : (scope : Scope) (u : Use) (e : Tree Note) (n : Named (Tree Note)) (met : Option Fault) → met_named scope n (met_used scope valued e met) ≡ met_inside scope u (property_of e n) met
property_met scope u e (arrow.Word w) met = refl
property_met scope u e (arrow.Variable n) met = refl
property_met scope u e (arrow.Computed k) met = refl

suffix_met : (scope : Scope) (u : Use) (e : Tree Note) (x : Suffix (Tree Note)) (met : Option Fault)
    → met_suffix scope x (met_used scope valued e (at_words scope.in_class (access_words e x) met)) ≡ met_inside scope u (with_suffix e x) met
suffix_met scope u e suffix.Append met = no_access scope e met
suffix_met scope u e (suffix.Index k) met = ap (met_used scope valued k) (no_access scope e met)
suffix_met scope u e (suffix.Property n) met = ap (met_named scope n) (no_access scope e met) ∙ property_met scope u e n met
suffix_met scope u e (suffix.Member m) met = refl
suffix_met scope u e (suffix.Call arguments) met =
    ap (over (met_argument scope) arguments) (no_access scope e met) ∙ arguments_over scope none arguments (met_used scope valued e met)

chain_met : (scope : Scope) (u : Use) (e : Tree Note) (x : Suffix (Tree Note)) (xs : List (Suffix (Tree Note))) (met : Option Fault)
    → met_chain scope e (x ∷ xs) met ≡ met_inside scope u (with_suffixes e (x ∷ xs)) met
chain_met scope u e x [] met = suffix_met scope u e x met
chain_met scope u e x (y ∷ ys) met =
    ap (over (met_suffix scope) (y ∷ ys))
    (suffix_met scope valued e x met ∙ ap (met_inside scope valued (with_suffix e x)) (sym (value_of_suffix e x met) ∙ ap (at_use valued (with_suffix e x)) (sym (further_words scope e x y met))))
    ∙ chain_met scope u (with_suffix e x) y ys met

pub walked_chain : (scope : Scope) (u : Use) (e : Expr) (suffixes : List (Suffix Expr)) (met : Option Fault) → false ≡ (length suffixes == 0)
    → met_chain scope (view e) (map (suffix_with view) suffixes) met ≡ met_inside scope u (view (Chain e suffixes)) met
walked_chain scope u e [] met some = absurd (cc)
walked_chain scope u e (x ∷ xs) met some =
    chain_met scope u (view e) (suffix_with view x) (map (suffix_with view) xs) met ∙ ap (λ t. met_inside scope u t met) (sym (view_chain e (x ∷ xs)))

-- ---- runs

value_of_link : (e : Tree Note) (x : Link (Tree Note)) (met : Option Fault) → at_use valued (with_link e x) met ≡ met
unfolding at_use
value_of_link e (link.Operator op r) met = refl
value_of_link e (link.Choice a b) met = refl
value_of_link e (link.ShortChoice b) met = refl

link_met : (scope : Scope) (u : Use) (e : Tree Note) (x : Link (Tree Note)) (met : Option Fault) → met_link scope x (met_used scope valued e met) ≡ met_inside scope u (with_link e x) met
link_met scope u e (link.Operator op r) met = refl
link_met scope u e (link.Choice a b) met = refl
link_met scope u e (link.ShortChoice b) met = refl

run_met : (scope : Scope) (u : Use) (e : Tree Note) (x : Link (Tree Note)) (xs : List (Link (Tree Note))) (met : Option Fault)
    → over (met_link scope) (x ∷ xs) (met_used scope valued e met) ≡ met_inside scope u (with_links e (x ∷ xs)) met
run_met scope u e x [] met = link_met scope u e x met
run_met scope u e x (y ∷ ys) met =
    ap (over (met_link scope) (y ∷ ys)) (link_met scope valued e x met ∙ ap (met_inside scope valued (with_link e x)) (sym (value_of_link e x met)))
    ∙ run_met scope u (with_link e x) y ys met

pub walked_run : (scope : Scope) (u : Use) (e : Expr) (links : List (Link Expr)) (met : Option Fault) → false ≡ (length links == 0)
    → over (met_link scope) (map (link_with view) links) (met_used scope valued (view e) met) ≡ met_inside scope u (view (Run e links)) met
walked_run scope u e [] met some = absurd (cc)
walked_run scope u e (x ∷ xs) met some =
    run_met scope u (view e) (link_with view x) (map (link_with view) xs) met ∙ ap (λ t. met_inside scope u t met) (sym (view_run e (x ∷ xs)))
