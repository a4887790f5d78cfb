-- The spelling of lists, element by element from the first one on.
use Rattle.std.proofs.Common.{◌≡◌, ◌≤◌, ◌<◌, ℕ, ◌+◌, Bool, true, false, List, [], ◌∷◌, ◌++◌, map, drop, length, get_or, refl, sym, ◌∙◌, ap}
use Rattle.std.specs.Prelude.{Result, OnOk}
use Rattle.std.proofs.lemmas.Result.{on_ok_weaker}
use Rattle.std.proofs.lemmas.List.{at_drop_more, at_drop_all}
use Rattle.php_token.specs.declared.kind.Punct.TheVariants as mark
use Rattle.php_ast.specs.declared.expression.Piece.{Piece}
use Rattle.php_ast.specs.declared.expression.Piece.TheVariants as piece
use Rattle.php_ast.specs.declared.expression.Item.{Item}
use Rattle.php_ast.specs.declared.expression.Item.TheVariants as item
use Rattle.php_ast.specs.declared.expression.Argument.{Argument}
use Rattle.php_ast.specs.declared.expression.Argument.TheVariants as argument
use Rattle.php_ast.specs.declared.expression.Suffix.{Suffix}
use Rattle.php_ast.specs.declared.expression.Suffix.TheVariants as suffix
use Rattle.php_ast.specs.declared.expression.Named.{Named}
use Rattle.php_ast.specs.declared.expression.Named.TheVariants as arrow
use Rattle.php_ast.specs.declared.expression.ClassStep.{ClassStep}
use Rattle.php_ast.specs.declared.expression.ClassStep.TheVariants as class_step
use Rattle.php_ast.specs.declared.expression.Link.{Link}
use Rattle.php_ast.specs.declared.expression.Link.TheVariants as link
use Rattle.php_ast.specs.Symbol.{Symbol, punct}
use Rattle.php_ast.specs.expression.Tree.{Tree, Items, none, and, skip, plain, Pieces, Steps}
use Rattle.php_ast.specs.expression.Spelling.{spell, comma, spell_items, spell_pieces, spell_steps}
use Rattle.php_ast.specs.statement.Spelling.{symbol_if}
use Rattle.php_ast.specs.expression.View.{Note, piece_more, pieces_from, item_more, items_from, argument_more, arguments_from, values_from, step_more, steps_from, property_of, with_suffix, with_suffixes, with_link, with_links}
use Rattle.php_print.specs.Print.{Prints}
use Rattle.php_print.specs.expression.Elements.{spell_piece, spell_item, spell_argument, spell_property, spell_suffix, spell_link, spell_step}

-- whether an item stands before
abbrev pub some_item : Items Note → Bool
some_item none = false
some_item _ = true

-- elements with a symbol before them, but for the first
abbrev pub rest : {A : Type 0} → Symbol → (A → List Symbol → List Symbol) → Bool → List A → List Symbol → List Symbol
rest token each later [] w = w
rest token each later (x ∷ xs) w = symbol_if later token (each x (rest token each true xs w))

-- elements one after the other
abbrev pub all : {A : Type 0} → (A → List Symbol → List Symbol) → List A → List Symbol → List Symbol
all each [] w = w
all each (x ∷ xs) w = each x (all each xs w)

-- ---- one more element, and the end

at_place : {A B : Type 0} (F : List A → B) (xs : List A) (i : ℕ) (x : A) → i < length xs → x ≡ get_or xs i x → F (x ∷ drop (i + 1) xs) ≡ F (drop i xs)
at_place F xs i x within is = ap (λ y. F (y ∷ drop (i + 1) xs)) is ∙ sym (at_drop_more F xs i x within)

pub step_all : {A B : Type 0} (each : B → List Symbol → List Symbol) (g : A → B) (xs : List A) (i : ℕ) (x : A) (s new : List Symbol) (whole : List Symbol → List Symbol)
    → i < length xs → x ≡ get_or xs i x → ((w : List Symbol) → s ++ all each (map g (drop i xs)) w ≡ whole w) → Prints (each (g x)) s new
    → (w : List Symbol) → new ++ all each (map g (drop (i + 1) xs)) w ≡ whole w
step_all each g xs i x s new whole within is before one w =
    one (all each (map g (drop (i + 1) xs)) w) ∙ ap (λ u. s ++ u) (at_place (λ ys. all each (map g ys) w) xs i x within is) ∙ before w

-- likewise where the element is a copy
pub step_copied : {A B : Type 0} (each : B → List Symbol → List Symbol) (g : A → B) (xs : List A) (i : ℕ) (d : A) (s new : List Symbol) (whole : List Symbol → List Symbol)
    → i < length xs → ((w : List Symbol) → s ++ all each (map g (drop i xs)) w ≡ whole w) → Prints (each (g (get_or xs i d))) s new
    → (w : List Symbol) → new ++ all each (map g (drop (i + 1) xs)) w ≡ whole w
step_copied each g xs i d s new whole within before one w =
    one (all each (map g (drop (i + 1) xs)) w) ∙ ap (λ u. s ++ u) (sym (at_drop_more (λ ys. all each (map g ys) w) xs i d within)) ∙ before w

pub end_all : {A B : Type 0} (each : B → List Symbol → List Symbol) (g : A → B) (xs : List A) (i : ℕ) (s : List Symbol) (whole : List Symbol → List Symbol)
    → length xs ≤ i → ((w : List Symbol) → s ++ all each (map g (drop i xs)) w ≡ whole w) → (w : List Symbol) → s ++ w ≡ whole w
end_all each g xs i s whole over before w = sym (ap (λ u. s ++ u) (at_drop_all (λ ys. all each (map g ys) w) xs i over)) ∙ before w

-- one form behind another
pub behind : {E : Type 0} (r : Result (Unit {0}) E) (s between new : List Symbol) (first next : List Symbol → List Symbol)
    → Prints first s between → OnOk r (Prints next between new) → OnOk r (Prints (λ w. first (next w)) s new)
behind r s between new first next before h =
    on_ok_weaker {P = Prints next between new} {Q = Prints (λ w. first (next w)) s new} r (λ p w. p w ∙ before (next w)) h

-- a token behind what was written
pub closed : {E : Type 0} (r : Result (Unit {0}) E) (s new : List Symbol) (behind : Symbol) (whole : List Symbol → List Symbol)
    → ((w : List Symbol) → s ++ w ≡ whole w) → OnOk r (Prints (λ w. behind ∷ w) s new) → OnOk r ((w : List Symbol) → new ++ w ≡ whole (behind ∷ w))
closed r s new behind whole before h =
    on_ok_weaker {P = Prints (λ w. behind ∷ w) s new} {Q = (w : List Symbol) → new ++ w ≡ whole (behind ∷ w)} r (λ p w. p w ∙ before (behind ∷ w)) h

pub step_rest : {A B : Type 0} (token : Symbol) (each : B → List Symbol → List Symbol) (g : A → B) (xs : List A) (i : ℕ) (x : A) (later : Bool) (s between new : List Symbol) (whole : List Symbol → List Symbol)
    → i < length xs → x ≡ get_or xs i x → ((w : List Symbol) → s ++ rest token each later (map g (drop i xs)) w ≡ whole w)
    → Prints (symbol_if later token) s between → Prints (each (g x)) between new
    → (w : List Symbol) → new ++ rest token each true (map g (drop (i + 1) xs)) w ≡ whole w
step_rest token each g xs i x later s between new whole within is before parted one w =
    one (rest token each true (map g (drop (i + 1) xs)) w) ∙ parted (each (g x) (rest token each true (map g (drop (i + 1) xs)) w))
    ∙ ap (λ u. s ++ u) (at_place (λ ys. rest token each later (map g ys) w) xs i x within is) ∙ before w

pub end_rest : {A B : Type 0} (token : Symbol) (each : B → List Symbol → List Symbol) (g : A → B) (xs : List A) (i : ℕ) (later : Bool) (s : List Symbol) (whole : List Symbol → List Symbol)
    → length xs ≤ i → ((w : List Symbol) → s ++ rest token each later (map g (drop i xs)) w ≡ whole w) → (w : List Symbol) → s ++ w ≡ whole w
end_rest token each g xs i later s whole over before w = sym (ap (λ u. s ++ u) (at_drop_all (λ ys. rest token each later (map g ys) w) xs i over)) ∙ before w

-- ---- items

some_more : (before : Items Note) (x : Item (Tree Note)) → some_item (item_more before x) ≡ true
some_more before item.Missing = refl
some_more before (item.Value e) = refl
some_more before (item.Reference e) = refl
some_more before (item.Keyed k e) = refl
some_more before (item.KeyedReference k e) = refl

comma_by : (before : Items Note) (w : List Symbol) → comma before w ≡ symbol_if (some_item before) (punct mark.Comma) w
comma_by none w = refl
comma_by (and i l e) w = refl
comma_by (skip i) w = refl

one_item : (before : Items Note) (x : Item (Tree Note)) (w : List Symbol) → spell_items (item_more before x) w ≡ spell_items before (comma before (spell_item x w))
one_item before item.Missing w = refl
one_item before (item.Value e) w = refl
one_item before (item.Reference e) w = refl
one_item before (item.Keyed k e) w = refl
one_item before (item.KeyedReference k e) w = refl

pub items_spelled : (before : Items Note) (xs : List (Item (Tree Note))) (w : List Symbol)
    → spell_items (items_from before xs) w ≡ spell_items before (rest (punct mark.Comma) spell_item (some_item before) xs w)
items_spelled before [] w = refl
items_spelled before (x ∷ xs) w =
    items_spelled (item_more before x) xs w
    ∙ ap (λ b. spell_items (item_more before x) (rest (punct mark.Comma) spell_item b xs w)) (some_more before x)
    ∙ one_item before x (rest (punct mark.Comma) spell_item true xs w)
    ∙ ap (spell_items before) (comma_by before (spell_item x (rest (punct mark.Comma) spell_item true xs w)))

-- ---- arguments, and values

some_more_argument : (before : Items Note) (x : Argument (Tree Note)) → some_item (argument_more before x) ≡ true
some_more_argument before (argument.Value e) = refl
some_more_argument before (argument.Spread e) = refl

one_argument : (before : Items Note) (x : Argument (Tree Note)) (w : List Symbol) → spell_items (argument_more before x) w ≡ spell_items before (comma before (spell_argument x w))
one_argument before (argument.Value e) w = refl
one_argument before (argument.Spread e) w = refl

pub arguments_spelled : (before : Items Note) (xs : List (Argument (Tree Note))) (w : List Symbol)
    → spell_items (arguments_from before xs) w ≡ spell_items before (rest (punct mark.Comma) spell_argument (some_item before) xs w)
arguments_spelled before [] w = refl
arguments_spelled before (x ∷ xs) w =
    arguments_spelled (argument_more before x) xs w
    ∙ ap (λ b. spell_items (argument_more before x) (rest (punct mark.Comma) spell_argument b xs w)) (some_more_argument before x)
    ∙ one_argument before x (rest (punct mark.Comma) spell_argument true xs w)
    ∙ ap (spell_items before) (comma_by before (spell_argument x (rest (punct mark.Comma) spell_argument true xs w)))

pub values_spelled : (before : Items Note) (xs : List (Tree Note)) (w : List Symbol)
    → spell_items (values_from before xs) w ≡ spell_items before (rest (punct mark.Comma) spell (some_item before) xs w)
values_spelled before [] w = refl
values_spelled before (x ∷ xs) w =
    values_spelled (and before plain x) xs w ∙ ap (spell_items before) (comma_by before (spell x (rest (punct mark.Comma) spell true xs w)))

-- ---- pieces, steps, suffixes, runs

one_piece : (before : Pieces Note) (x : Piece (Tree Note)) (w : List Symbol) → spell_pieces (piece_more before x) w ≡ spell_pieces before (spell_piece x w)
one_piece before (piece.Bytes text) w = refl
one_piece before (piece.Part e) w = refl

pub pieces_spelled : (before : Pieces Note) (xs : List (Piece (Tree Note))) (w : List Symbol)
    → spell_pieces (pieces_from before xs) w ≡ spell_pieces before (all spell_piece xs w)
pieces_spelled before [] w = refl
pieces_spelled before (x ∷ xs) w = pieces_spelled (piece_more before x) xs w ∙ one_piece before x (all spell_piece xs w)

one_step : (before : Steps Note) (x : ClassStep (Tree Note)) (w : List Symbol) → spell_steps (step_more before x) w ≡ spell_steps before (spell_step x w)
one_step before (class_step.Property n) w = refl
one_step before (class_step.Index e) w = refl

pub steps_spelled : (before : Steps Note) (xs : List (ClassStep (Tree Note))) (w : List Symbol)
    → spell_steps (steps_from before xs) w ≡ spell_steps before (all spell_step xs w)
steps_spelled before [] w = refl
steps_spelled before (x ∷ xs) w = steps_spelled (step_more before x) xs w ∙ one_step before x (all spell_step xs w)

one_property : (e : Tree Note) (x : Named (Tree Note)) (w : List Symbol) → spell (property_of e x) w ≡ spell e (spell_property x w)
one_property e (arrow.Word n) w = refl
one_property e (arrow.Variable n) w = refl
one_property e (arrow.Computed key) w = refl

one_suffix : (e : Tree Note) (x : Suffix (Tree Note)) (w : List Symbol) → spell (with_suffix e x) w ≡ spell e (spell_suffix x w)
one_suffix e suffix.Append w = refl
one_suffix e (suffix.Index key) w = refl
one_suffix e (suffix.Property n) w = one_property e n w
one_suffix e (suffix.Member m) w = refl
one_suffix e (suffix.Call arguments) w = refl

pub suffixes_spelled : (e : Tree Note) (xs : List (Suffix (Tree Note))) (w : List Symbol) → spell (with_suffixes e xs) w ≡ spell e (all spell_suffix xs w)
suffixes_spelled e [] w = refl
suffixes_spelled e (x ∷ xs) w = suffixes_spelled (with_suffix e x) xs w ∙ one_suffix e x (all spell_suffix xs w)

one_link : (e : Tree Note) (x : Link (Tree Note)) (w : List Symbol) → spell (with_link e x) w ≡ spell e (spell_link x w)
one_link e (link.Operator op r) w = refl
one_link e (link.Choice a b) w = refl
one_link e (link.ShortChoice b) w = refl

pub links_spelled : (e : Tree Note) (xs : List (Link (Tree Note))) (w : List Symbol) → spell (with_links e xs) w ≡ spell e (all spell_link xs w)
links_spelled e [] w = refl
links_spelled e (x ∷ xs) w = links_spelled (with_link e x) xs w ∙ one_link e x (all spell_link xs w)
