-- Lists in the forms of the program, one part after the other.
use Rattle.std.proofs.Common.{◌≡◌, ◌≤◌, ◌<◌, ℕ, ◌+◌, List, [], ◌∷◌, ◌++◌, map, take, length, get_or, refl}
use Rattle.php_ast.specs.declared.expression.Expr.{Expr}
use Rattle.php_ast.specs.declared.expression.Piece.{Piece}
use Rattle.php_ast.specs.declared.expression.Piece.TheVariants as piece
use Rattle.php_ast.specs.declared.expression.Item.{Item}
use Rattle.php_ast.specs.declared.expression.Item.TheVariants as item
use Rattle.php_ast.specs.declared.expression.Argument.{Argument}
use Rattle.php_ast.specs.declared.expression.Argument.TheVariants as argument
use Rattle.php_ast.specs.declared.expression.Suffix.{Suffix}
use Rattle.php_ast.specs.declared.expression.Suffix.TheVariants as suffix
use Rattle.php_ast.specs.declared.expression.Named.TheVariants as arrow
use Rattle.php_ast.specs.declared.expression.ClassStep.{ClassStep}
use Rattle.php_ast.specs.declared.expression.ClassStep.TheVariants as class_step
use Rattle.php_ast.specs.declared.expression.Link.{Link}
use Rattle.php_ast.specs.declared.expression.Link.TheVariants as link
use Rattle.php_ast.specs.declared.statement.ElseIf.{ElseIf}
use Rattle.php_ast.specs.declared.statement.Case.{Case}
use Rattle.php_ast.specs.declared.statement.Catch.{Catch}
use Rattle.php_ast.specs.expression.Tree.{Tree, Items, and, plain, Pieces, Steps}
use Rattle.php_ast.specs.expression.View.{Note, view, spot_view, piece_more, pieces_from, item_more, items_from, argument_more, arguments_from, values_from, step_more, steps_from, with_suffix, with_suffixes, with_link, with_links}
use Rattle.php_ast.specs.statement.Tree.{Sequence, empty, then_also, Statement, Statements, and_statement, ElseIfs, and_elseif, ElseIfLists, and_elseif_list, Cases, and_case, Catches, and_catch}
use Rattle.php_ast.specs.statement.View.{optional, name_view, names_view, list_view, sequence_from, statements_from, elseifs_from, elseif_lists_from, cases_from, catches_from}
use Rattle.php_many_names.specs.Tally.{Tally}
use Rattle.php_many_names.specs.Met.{over, met_tree, met_items, met_pieces, met_steps, met_piece, met_item, met_argument, met_suffix, met_link, met_step, met_statement, met_list, met_elseifs, met_elseif_lists, met_cases, met_catches, met_elseif, met_elseif_list, met_case, met_catch}
use Rattle.php_many_names.proofs.Loops.{kept, whole}

-- ---- one part behind the others

pieces_end : (t : Pieces Note) (xs : List (Piece (Tree Note))) (x : Piece (Tree Note)) → pieces_from t (xs ++ x ∷ []) ≡ piece_more (pieces_from t xs) x
pieces_end t [] x = refl
pieces_end t (y ∷ xs) x = pieces_end (piece_more t y) xs x

items_end : (t : Items Note) (xs : List (Item (Tree Note))) (x : Item (Tree Note)) → items_from t (xs ++ x ∷ []) ≡ item_more (items_from t xs) x
items_end t [] x = refl
items_end t (y ∷ xs) x = items_end (item_more t y) xs x

arguments_end : (t : Items Note) (xs : List (Argument (Tree Note))) (x : Argument (Tree Note)) → arguments_from t (xs ++ x ∷ []) ≡ argument_more (arguments_from t xs) x
arguments_end t [] x = refl
arguments_end t (y ∷ xs) x = arguments_end (argument_more t y) xs x

abbrev value_more : Items Note → Tree Note → Items Note
value_more is e = and is plain e

values_end : (t : Items Note) (xs : List (Tree Note)) (x : Tree Note) → values_from t (xs ++ x ∷ []) ≡ value_more (values_from t xs) x
values_end t [] x = refl
values_end t (y ∷ xs) x = values_end (and t plain y) xs x

suffixes_end : (t : Tree Note) (xs : List (Suffix (Tree Note))) (x : Suffix (Tree Note)) → with_suffixes t (xs ++ x ∷ []) ≡ with_suffix (with_suffixes t xs) x
suffixes_end t [] x = refl
suffixes_end t (y ∷ xs) x = suffixes_end (with_suffix t y) xs x

links_end : (t : Tree Note) (xs : List (Link (Tree Note))) (x : Link (Tree Note)) → with_links t (xs ++ x ∷ []) ≡ with_link (with_links t xs) x
links_end t [] x = refl
links_end t (y ∷ xs) x = links_end (with_link t y) xs x

steps_end : (t : Steps Note) (xs : List (ClassStep (Tree Note))) (x : ClassStep (Tree Note)) → steps_from t (xs ++ x ∷ []) ≡ step_more (steps_from t xs) x
steps_end t [] x = refl
steps_end t (y ∷ xs) x = steps_end (step_more t y) xs x

sequence_end : {A : Type 0} (t : Sequence A) (xs : List A) (x : A) → sequence_from t (xs ++ x ∷ []) ≡ then_also (sequence_from t xs) x
sequence_end t [] x = refl
sequence_end t (y ∷ xs) x = sequence_end (then_also t y) xs x

statements_end : (t : Statements Note) (xs : List (Statement Note)) (x : Statement Note) → statements_from t (xs ++ x ∷ []) ≡ and_statement (statements_from t xs) x
statements_end t [] x = refl
statements_end t (y ∷ xs) x = statements_end (and_statement t y) xs x

abbrev elseif_more : ElseIfs Note → ElseIf (Statement Note) → ElseIfs Note
elseif_more t p = and_elseif t (view p.test) p.body

elseifs_end : (t : ElseIfs Note) (xs : List (ElseIf (Statement Note))) (x : ElseIf (Statement Note)) → elseifs_from t (xs ++ x ∷ []) ≡ elseif_more (elseifs_from t xs) x
elseifs_end t [] x = refl
elseifs_end t (y ∷ xs) x = elseifs_end (elseif_more t y) xs x

abbrev elseif_list_more : ElseIfLists Note → ElseIf (List (Statement Note)) → ElseIfLists Note
elseif_list_more t p = and_elseif_list t (view p.test) (list_view p.body)

elseif_lists_end : (t : ElseIfLists Note) (xs : List (ElseIf (List (Statement Note)))) (x : ElseIf (List (Statement Note)))
    → elseif_lists_from t (xs ++ x ∷ []) ≡ elseif_list_more (elseif_lists_from t xs) x
elseif_lists_end t [] x = refl
elseif_lists_end t (y ∷ xs) x = elseif_lists_end (elseif_list_more t y) xs x

abbrev case_more : Cases Note → Case (Statement Note) → Cases Note
case_more t c = and_case t (spot_view c.spot) (optional view c.value) c.end (list_view c.body)

cases_end : (t : Cases Note) (xs : List (Case (Statement Note))) (x : Case (Statement Note)) → cases_from t (xs ++ x ∷ []) ≡ case_more (cases_from t xs) x
cases_end t [] x = refl
cases_end t (y ∷ xs) x = cases_end (case_more t y) xs x

abbrev catch_more : Catches Note → Catch (Statement Note) → Catches Note
catch_more t c = and_catch t (names_view c.classes) (name_view c.variable) (list_view c.body)

catches_end : (t : Catches Note) (xs : List (Catch (Statement Note))) (x : Catch (Statement Note)) → catches_from t (xs ++ x ∷ []) ≡ catch_more (catches_from t xs) x
catches_end t [] x = refl
catches_end t (y ∷ xs) x = catches_end (catch_more t y) xs x

-- ---- the tally behind one part more

piece_grows : (tally : Tally) (ps : Pieces Note) (x : Piece (Tree Note)) → met_pieces tally (piece_more ps x) ≡ met_piece (met_pieces tally ps) x
piece_grows tally ps (piece.Bytes t) = refl
piece_grows tally ps (piece.Part e) = refl

item_grows : (tally : Tally) (is : Items Note) (x : Item (Tree Note)) → met_items tally (item_more is x) ≡ met_item (met_items tally is) x
item_grows tally is item.Missing = refl
item_grows tally is (item.Value e) = refl
item_grows tally is (item.Reference e) = refl
item_grows tally is (item.Keyed k e) = refl
item_grows tally is (item.KeyedReference k e) = refl

argument_grows : (tally : Tally) (is : Items Note) (x : Argument (Tree Note)) → met_items tally (argument_more is x) ≡ met_argument (met_items tally is) x
argument_grows tally is (argument.Value e) = refl
argument_grows tally is (argument.Spread e) = refl

suffix_grows : (tally : Tally) (e : Tree Note) (x : Suffix (Tree Note)) → met_tree tally (with_suffix e x) ≡ met_suffix (met_tree tally e) x
suffix_grows tally e suffix.Append = refl
suffix_grows tally e (suffix.Index k) = refl
suffix_grows tally e (suffix.Property (arrow.Word w)) = refl
suffix_grows tally e (suffix.Property (arrow.Variable n)) = refl
suffix_grows tally e (suffix.Property (arrow.Computed k)) = refl
suffix_grows tally e (suffix.Member m) = refl
suffix_grows tally e (suffix.Call arguments) = refl

link_grows : (tally : Tally) (e : Tree Note) (x : Link (Tree Note)) → met_tree tally (with_link e x) ≡ met_link (met_tree tally e) x
link_grows tally e (link.Operator op r) = refl
link_grows tally e (link.Choice a b) = refl
link_grows tally e (link.ShortChoice b) = refl

step_grows : (tally : Tally) (s : Steps Note) (x : ClassStep (Tree Note)) → met_steps tally (step_more s x) ≡ met_step (met_steps tally s) x
step_grows tally s (class_step.Property w) = refl
step_grows tally s (class_step.Index e) = refl

-- ---- loops

pub pieces_kept : {A : Type 0} (g : A → Piece (Tree Note)) (start : Pieces Note) (tally old new : Tally) (xs : List A) (i : ℕ) (x : A) → i < length xs → x ≡ get_or xs i x
    → old ≡ met_pieces tally (pieces_from start (map g (take i xs))) → new ≡ met_piece old (g x) → new ≡ met_pieces tally (pieces_from start (map g (take (i + 1) xs)))
pieces_kept g = kept pieces_from piece_more pieces_end met_pieces met_piece piece_grows g

pub pieces_whole : {A : Type 0} (g : A → Piece (Tree Note)) (start : Pieces Note) (tally now : Tally) (xs : List A) (i : ℕ) → length xs ≤ i
    → now ≡ met_pieces tally (pieces_from start (map g (take i xs))) → now ≡ met_pieces tally (pieces_from start (map g xs))
pieces_whole g = whole pieces_from piece_more pieces_end met_pieces met_piece piece_grows g

pub items_kept : {A : Type 0} (g : A → Item (Tree Note)) (start : Items Note) (tally old new : Tally) (xs : List A) (i : ℕ) (x : A) → i < length xs → x ≡ get_or xs i x
    → old ≡ met_items tally (items_from start (map g (take i xs))) → new ≡ met_item old (g x) → new ≡ met_items tally (items_from start (map g (take (i + 1) xs)))
items_kept g = kept items_from item_more items_end met_items met_item item_grows g

pub items_whole : {A : Type 0} (g : A → Item (Tree Note)) (start : Items Note) (tally now : Tally) (xs : List A) (i : ℕ) → length xs ≤ i
    → now ≡ met_items tally (items_from start (map g (take i xs))) → now ≡ met_items tally (items_from start (map g xs))
items_whole g = whole items_from item_more items_end met_items met_item item_grows g

pub arguments_kept : {A : Type 0} (g : A → Argument (Tree Note)) (start : Items Note) (tally old new : Tally) (xs : List A) (i : ℕ) (x : A) → i < length xs → x ≡ get_or xs i x
    → old ≡ met_items tally (arguments_from start (map g (take i xs))) → new ≡ met_argument old (g x) → new ≡ met_items tally (arguments_from start (map g (take (i + 1) xs)))
arguments_kept g = kept arguments_from argument_more arguments_end met_items met_argument argument_grows g

pub arguments_whole : {A : Type 0} (g : A → Argument (Tree Note)) (start : Items Note) (tally now : Tally) (xs : List A) (i : ℕ) → length xs ≤ i
    → now ≡ met_items tally (arguments_from start (map g (take i xs))) → now ≡ met_items tally (arguments_from start (map g xs))
arguments_whole g = whole arguments_from argument_more arguments_end met_items met_argument argument_grows g

pub values_kept : {A : Type 0} (g : A → Tree Note) (start : Items Note) (tally old new : Tally) (xs : List A) (i : ℕ) (x : A) → i < length xs → x ≡ get_or xs i x
    → old ≡ met_items tally (values_from start (map g (take i xs))) → new ≡ met_tree old (g x) → new ≡ met_items tally (values_from start (map g (take (i + 1) xs)))
values_kept g = kept values_from value_more values_end met_items met_tree (λ tally is e. refl) g

pub values_whole : {A : Type 0} (g : A → Tree Note) (start : Items Note) (tally now : Tally) (xs : List A) (i : ℕ) → length xs ≤ i
    → now ≡ met_items tally (values_from start (map g (take i xs))) → now ≡ met_items tally (values_from start (map g xs))
values_whole g = whole values_from value_more values_end met_items met_tree (λ tally is e. refl) g

pub suffixes_kept : {A : Type 0} (g : A → Suffix (Tree Note)) (start : Tree Note) (tally old new : Tally) (xs : List A) (i : ℕ) (x : A) → i < length xs → x ≡ get_or xs i x
    → old ≡ met_tree tally (with_suffixes start (map g (take i xs))) → new ≡ met_suffix old (g x) → new ≡ met_tree tally (with_suffixes start (map g (take (i + 1) xs)))
suffixes_kept g = kept with_suffixes with_suffix suffixes_end met_tree met_suffix suffix_grows g

pub suffixes_whole : {A : Type 0} (g : A → Suffix (Tree Note)) (start : Tree Note) (tally now : Tally) (xs : List A) (i : ℕ) → length xs ≤ i
    → now ≡ met_tree tally (with_suffixes start (map g (take i xs))) → now ≡ met_tree tally (with_suffixes start (map g xs))
suffixes_whole g = whole with_suffixes with_suffix suffixes_end met_tree met_suffix suffix_grows g

pub links_kept : {A : Type 0} (g : A → Link (Tree Note)) (start : Tree Note) (tally old new : Tally) (xs : List A) (i : ℕ) (x : A) → i < length xs → x ≡ get_or xs i x
    → old ≡ met_tree tally (with_links start (map g (take i xs))) → new ≡ met_link old (g x) → new ≡ met_tree tally (with_links start (map g (take (i + 1) xs)))
links_kept g = kept with_links with_link links_end met_tree met_link link_grows g

pub links_whole : {A : Type 0} (g : A → Link (Tree Note)) (start : Tree Note) (tally now : Tally) (xs : List A) (i : ℕ) → length xs ≤ i
    → now ≡ met_tree tally (with_links start (map g (take i xs))) → now ≡ met_tree tally (with_links start (map g xs))
links_whole g = whole with_links with_link links_end met_tree met_link link_grows g

pub steps_kept : {A : Type 0} (g : A → ClassStep (Tree Note)) (start : Steps Note) (tally old new : Tally) (xs : List A) (i : ℕ) (x : A) → i < length xs → x ≡ get_or xs i x
    → old ≡ met_steps tally (steps_from start (map g (take i xs))) → new ≡ met_step old (g x) → new ≡ met_steps tally (steps_from start (map g (take (i + 1) xs)))
steps_kept g = kept steps_from step_more steps_end met_steps met_step step_grows g

pub steps_whole : {A : Type 0} (g : A → ClassStep (Tree Note)) (start : Steps Note) (tally now : Tally) (xs : List A) (i : ℕ) → length xs ≤ i
    → now ≡ met_steps tally (steps_from start (map g (take i xs))) → now ≡ met_steps tally (steps_from start (map g xs))
steps_whole g = whole steps_from step_more steps_end met_steps met_step step_grows g

pub statements_kept : {A : Type 0} (g : A → Statement Note) (start : Statements Note) (tally old new : Tally) (xs : List A) (i : ℕ) (x : A) → i < length xs → x ≡ get_or xs i x
    → old ≡ met_list tally (statements_from start (map g (take i xs))) → new ≡ met_statement old (g x) → new ≡ met_list tally (statements_from start (map g (take (i + 1) xs)))
statements_kept g = kept statements_from and_statement statements_end met_list met_statement (λ tally ss s. refl) g

pub statements_whole : {A : Type 0} (g : A → Statement Note) (start : Statements Note) (tally now : Tally) (xs : List A) (i : ℕ) → length xs ≤ i
    → now ≡ met_list tally (statements_from start (map g (take i xs))) → now ≡ met_list tally (statements_from start (map g xs))
statements_whole g = whole statements_from and_statement statements_end met_list met_statement (λ tally ss s. refl) g

pub elseifs_kept : {A : Type 0} (g : A → ElseIf (Statement Note)) (start : ElseIfs Note) (tally old new : Tally) (xs : List A) (i : ℕ) (x : A) → i < length xs → x ≡ get_or xs i x
    → old ≡ met_elseifs tally (elseifs_from start (map g (take i xs))) → new ≡ met_elseif old (g x) → new ≡ met_elseifs tally (elseifs_from start (map g (take (i + 1) xs)))
elseifs_kept g = kept elseifs_from elseif_more elseifs_end met_elseifs met_elseif (λ tally ps p. refl) g

pub elseifs_whole : {A : Type 0} (g : A → ElseIf (Statement Note)) (start : ElseIfs Note) (tally now : Tally) (xs : List A) (i : ℕ) → length xs ≤ i
    → now ≡ met_elseifs tally (elseifs_from start (map g (take i xs))) → now ≡ met_elseifs tally (elseifs_from start (map g xs))
elseifs_whole g = whole elseifs_from elseif_more elseifs_end met_elseifs met_elseif (λ tally ps p. refl) g

pub elseif_lists_kept : {A : Type 0} (g : A → ElseIf (List (Statement Note))) (start : ElseIfLists Note) (tally old new : Tally) (xs : List A) (i : ℕ) (x : A) → i < length xs → x ≡ get_or xs i x
    → old ≡ met_elseif_lists tally (elseif_lists_from start (map g (take i xs))) → new ≡ met_elseif_list old (g x) → new ≡ met_elseif_lists tally (elseif_lists_from start (map g (take (i + 1) xs)))
elseif_lists_kept g = kept elseif_lists_from elseif_list_more elseif_lists_end met_elseif_lists met_elseif_list (λ tally ps p. refl) g

pub elseif_lists_whole : {A : Type 0} (g : A → ElseIf (List (Statement Note))) (start : ElseIfLists Note) (tally now : Tally) (xs : List A) (i : ℕ) → length xs ≤ i
    → now ≡ met_elseif_lists tally (elseif_lists_from start (map g (take i xs))) → now ≡ met_elseif_lists tally (elseif_lists_from start (map g xs))
elseif_lists_whole g = whole elseif_lists_from elseif_list_more elseif_lists_end met_elseif_lists met_elseif_list (λ tally ps p. refl) g

pub cases_kept : {A : Type 0} (g : A → Case (Statement Note)) (start : Cases Note) (tally old new : Tally) (xs : List A) (i : ℕ) (x : A) → i < length xs → x ≡ get_or xs i x
    → old ≡ met_cases tally (cases_from start (map g (take i xs))) → new ≡ met_case old (g x) → new ≡ met_cases tally (cases_from start (map g (take (i + 1) xs)))
cases_kept g = kept cases_from case_more cases_end met_cases met_case (λ tally cs c. refl) g

pub cases_whole : {A : Type 0} (g : A → Case (Statement Note)) (start : Cases Note) (tally now : Tally) (xs : List A) (i : ℕ) → length xs ≤ i
    → now ≡ met_cases tally (cases_from start (map g (take i xs))) → now ≡ met_cases tally (cases_from start (map g xs))
cases_whole g = whole cases_from case_more cases_end met_cases met_case (λ tally cs c. refl) g

pub catches_kept : {A : Type 0} (g : A → Catch (Statement Note)) (start : Catches Note) (tally old new : Tally) (xs : List A) (i : ℕ) (x : A) → i < length xs → x ≡ get_or xs i x
    → old ≡ met_catches tally (catches_from start (map g (take i xs))) → new ≡ met_catch old (g x) → new ≡ met_catches tally (catches_from start (map g (take (i + 1) xs)))
catches_kept g = kept catches_from catch_more catches_end met_catches met_catch (λ tally cs c. refl) g

pub catches_whole : {A : Type 0} (g : A → Catch (Statement Note)) (start : Catches Note) (tally now : Tally) (xs : List A) (i : ℕ) → length xs ≤ i
    → now ≡ met_catches tally (catches_from start (map g (take i xs))) → now ≡ met_catches tally (catches_from start (map g xs))
catches_whole g = whole catches_from catch_more catches_end met_catches met_catch (λ tally cs c. refl) g

-- of a sequence of any elements
pub sequence_kept : {A B : Type 0} (each : Tally → B → Tally) (g : A → B) (tally old new : Tally) (xs : List A) (i : ℕ) (x : A) → i < length xs → x ≡ get_or xs i x
    → old ≡ over each tally (sequence_from empty (map g (take i xs))) → new ≡ each old (g x) → new ≡ over each tally (sequence_from empty (map g (take (i + 1) xs)))
sequence_kept each g = kept sequence_from then_also sequence_end (over each) each (λ tally xs x. refl) g empty

pub sequence_whole : {A B : Type 0} (each : Tally → B → Tally) (g : A → B) (tally now : Tally) (xs : List A) (i : ℕ) → length xs ≤ i
    → now ≡ over each tally (sequence_from empty (map g (take i xs))) → now ≡ over each tally (sequence_from empty (map g xs))
sequence_whole each g = whole sequence_from then_also sequence_end (over each) each (λ tally xs x. refl) g empty
