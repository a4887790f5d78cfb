-- Parts of flat trees, there and back.
use Rattle.std.proofs.Common.{◌≡◌, ℕ, Bool, true, false, ◌&&◌, List, [], ◌∷◌, ◌++◌, map, Option, Some, None, refl, sym, ◌∙◌, ap, append_assoc}
use Rattle.std.specs.List.{list_all}
use Rattle.std.proofs.lemmas.List.{append-nil}
use Rattle.php_token.specs.declared.kind.Keyword.{Keyword}
use Rattle.php_ast.specs.declared.spot.Spot.{Spot}
use Rattle.php_ast.specs.declared.spot.Word.{Word}
use Rattle.php_ast.specs.declared.expression.Expr.{Expr}
use Rattle.php_ast.specs.declared.expression.Piece.{Piece}
use Rattle.php_ast.specs.declared.expression.Piece.TheVariants as piece
use Rattle.php_ast.specs.declared.expression.Item.{Item}
use Rattle.php_ast.specs.declared.expression.Item.TheVariants as item
use Rattle.php_ast.specs.declared.expression.Argument.{Argument}
use Rattle.php_ast.specs.declared.expression.Argument.TheVariants as argument
use Rattle.php_ast.specs.declared.expression.Named.TheVariants as arrow
use Rattle.php_ast.specs.declared.expression.Member as behind_colons
use Rattle.php_ast.specs.declared.expression.Member.TheVariants as member
use Rattle.php_ast.specs.declared.expression.Class as behind_new
use Rattle.php_ast.specs.declared.expression.Class.TheVariants as class
use Rattle.php_ast.specs.declared.expression.ClassStep.{ClassStep}
use Rattle.php_ast.specs.declared.expression.ClassStep.TheVariants as class_step
use Rattle.php_ast.specs.expression.Tree.{Tree, Items, and, plain, Pieces, Steps, from}
use Rattle.php_ast.specs.expression.View.{Note, spot_view, word_view, member_view, piece_more, pieces_from, item_more, items_from, argument_more, arguments_from, values_from, step_more, steps_from, class_view, view}
use Rattle.php_build.specs.Flat.{Shape, shape, is_flat, piece_flat, item_flat, argument_flat, step_flat, class_flat}
use Rattle.php_build.proofs.Flats.{first_of, second_of}
use Rattle.php_parse_expression_laws.proofs.Layers.{in_piece, in_item, in_argument, in_step, in_class, two_same}
use Rattle.php_parse_expression_laws.proofs.Unview.{close, top_of, word_at, member_at, named_at, unview, unview_items, unview_arguments, unview_values, unview_pieces, unview_class, start, unview_steps}

-- ---- what is known of a part

-- A tree goes back to an expression, and shows what stands at its top.
pub record Back (t : Tree Note) (s : Shape) (e : Expr) : Type 0 where
  pub same : close (unview t) ≡ e
  pub top : top_of (unview t) ≡ s.top

abbrev pub IsKept : Expr → Type 0
IsKept e = is_flat e ≡ true → Back (view e) (shape e) e

-- an expression with what is known of it
abbrev pub Known : Type 0
Known = (e : Expr) × IsKept e

abbrev pub known : Known → Expr
known w = w.0

pub back : (w : Known) → (shape (known w)).flat ≡ true → close (unview (view (known w))) ≡ known w
back w h = (w.1 h).same

-- ---- names

word_by : (spot : Spot) (text : List ℕ) (keyword : Option Keyword) (w : Word) → w ≡ record { spot = spot; text = text; keyword = keyword } → word_at (word_view w) ≡ w
word_by spot text None w is = ap (λ (z : Word). word_at (word_view z)) is ∙ sym is
word_by spot text (Some keyword) w is = ap (λ (z : Word). word_at (word_view z)) is ∙ sym is

pub word_back : (w : Word) → word_at (word_view w) ≡ w
word_back w = word_by w.spot w.text w.keyword w refl

member_by : (spot : Spot) (text : List ℕ) (keyword : Option Keyword) (w : Word) → w ≡ record { spot = spot; text = text; keyword = keyword } → member_at (word_view w) ≡ member.Word w
member_by spot text None w is = ap (λ (z : Word). member_at (word_view z)) is ∙ ap member.Word (sym is)
member_by spot text (Some keyword) w is = ap (λ (z : Word). member_at (word_view z)) is ∙ ap member.Word (sym is)

pub member_back : (m : behind_colons.Member) → member_at (member_view m) ≡ m
member_back (member.Word w) = member_by w.spot w.text w.keyword w refl
member_back (member.Variable n) = refl

named_by : (spot : Spot) (text : List ℕ) (keyword : Option Keyword) (w : Word) → w ≡ record { spot = spot; text = text; keyword = keyword } → named_at (word_view w) ≡ arrow.Word w
named_by spot text None w is = ap (λ (z : Word). named_at (word_view z)) is ∙ ap arrow.Word (sym is)
named_by spot text (Some keyword) w is = ap (λ (z : Word). named_at (word_view z)) is ∙ ap arrow.Word (sym is)

pub named_back : (w : Word) → named_at (word_view w) ≡ arrow.Word w
named_back w = named_by w.spot w.text w.keyword w refl

-- ---- lists that grow at their end

pub list_back : {V E S X T : Type 0} (f : V → E) (g : E → S) (p : S → Bool) (v : E → X) (un : T → List E) (more : T → X → T) (all : T → List X → T)
    → ((t : T) → all t [] ≡ t) → ((t : T) (x : X) (xs : List X) → all t (x ∷ xs) ≡ all (more t x) xs)
    → ((t : T) (x : V) → p (g (f x)) ≡ true → un (more t (v (f x))) ≡ un t ++ f x ∷ [])
    → (t : T) (xs : List V) → list_all p (map g (map f xs)) ≡ true → un (all t (map v (map f xs))) ≡ un t ++ map f xs
list_back f g p v un more all nil cons one t [] h = ap un (nil t) ∙ sym (append-nil (un t))
list_back f g p v un more all nil cons one t (x ∷ xs) h =
    let rest = list_all p (map g (map f xs)) in
    ap un (cons t (v (f x)) (map v (map f xs))) ∙ list_back f g p v un more all nil cons one (more t (v (f x))) xs (second_of (p (g (f x))) rest h)
    ∙ ap (λ l. l ++ map f xs) (one t x (first_of (p (g (f x))) rest h))
    ∙ append_assoc (un t) (f x ∷ []) (map f xs)

piece_back : (t : Pieces Note) (x : Piece Known) → piece_flat (in_piece shape (in_piece known x)) ≡ true → unview_pieces (piece_more t (in_piece view (in_piece known x))) ≡ unview_pieces t ++ in_piece known x ∷ []
piece_back t (piece.Bytes text) h = refl
piece_back t (piece.Part w) h = ap (λ e. unview_pieces t ++ piece.Part e ∷ []) (back w h)

pub pieces_back : (t : Pieces Note) (xs : List (Piece Known)) → list_all piece_flat (map (in_piece shape) (map (in_piece known) xs)) ≡ true
    → unview_pieces (pieces_from t (map (in_piece view) (map (in_piece known) xs))) ≡ unview_pieces t ++ map (in_piece known) xs
pieces_back = list_back (in_piece known) (in_piece shape) piece_flat (in_piece view) unview_pieces piece_more pieces_from (λ t. refl) (λ t x xs. refl) piece_back

item_back : (t : Items Note) (x : Item Known) → item_flat (in_item shape (in_item known x)) ≡ true → unview_items (item_more t (in_item view (in_item known x))) ≡ unview_items t ++ in_item known x ∷ []
item_back t item.Missing h = refl
item_back t (item.Value w) h = ap (λ e. unview_items t ++ item.Value e ∷ []) (back w h)
item_back t (item.Reference w) h = ap (λ e. unview_items t ++ item.Reference e ∷ []) (back w h)
item_back t (item.Keyed k w) h =
    let a = (shape (known k)).flat in
    let b = (shape (known w)).flat in
    two_same (λ x y. unview_items t ++ item.Keyed x y ∷ []) (back k (first_of a b h)) (back w (second_of a b h))
item_back t (item.KeyedReference k w) h =
    let a = (shape (known k)).flat in
    let b = (shape (known w)).flat in
    two_same (λ x y. unview_items t ++ item.KeyedReference x y ∷ []) (back k (first_of a b h)) (back w (second_of a b h))

pub items_back : (t : Items Note) (xs : List (Item Known)) → list_all item_flat (map (in_item shape) (map (in_item known) xs)) ≡ true
    → unview_items (items_from t (map (in_item view) (map (in_item known) xs))) ≡ unview_items t ++ map (in_item known) xs
items_back = list_back (in_item known) (in_item shape) item_flat (in_item view) unview_items item_more items_from (λ t. refl) (λ t x xs. refl) item_back

argument_back : (t : Items Note) (x : Argument Known) → argument_flat (in_argument shape (in_argument known x)) ≡ true
    → unview_arguments (argument_more t (in_argument view (in_argument known x))) ≡ unview_arguments t ++ in_argument known x ∷ []
argument_back t (argument.Value w) h = ap (λ e. unview_arguments t ++ argument.Value e ∷ []) (back w h)
argument_back t (argument.Spread w) h = ap (λ e. unview_arguments t ++ argument.Spread e ∷ []) (back w h)

pub arguments_back : (t : Items Note) (xs : List (Argument Known)) → list_all argument_flat (map (in_argument shape) (map (in_argument known) xs)) ≡ true
    → unview_arguments (arguments_from t (map (in_argument view) (map (in_argument known) xs))) ≡ unview_arguments t ++ map (in_argument known) xs
arguments_back =
    list_back (in_argument known) (in_argument shape) argument_flat (in_argument view) unview_arguments argument_more arguments_from (λ t. refl) (λ t x xs. refl) argument_back

pub values_back : (t : Items Note) (xs : List Known) → list_all (λ (e : Shape). e.flat) (map shape (map known xs)) ≡ true
    → unview_values (values_from t (map view (map known xs))) ≡ unview_values t ++ map known xs
values_back =
    list_back known shape (λ (e : Shape). e.flat) view unview_values (λ t e. and t plain e) values_from (λ t. refl) (λ t x xs. refl)
    (λ t w h. ap (λ e. unview_values t ++ e ∷ []) (back w h))

-- ---- the class behind `new`

step_back : (t : Steps Note) (x : ClassStep Known) → step_flat (in_step shape (in_step known x)) ≡ true → unview_steps (step_more t (in_step view (in_step known x))) ≡ unview_steps t ++ in_step known x ∷ []
step_back t (class_step.Property w) h = ap (λ z. unview_steps t ++ class_step.Property z ∷ []) (word_back w)
step_back t (class_step.Index w) h = ap (λ e. unview_steps t ++ class_step.Index e ∷ []) (back w h)

steps_back : (t : Steps Note) (xs : List (ClassStep Known)) → list_all step_flat (map (in_step shape) (map (in_step known) xs)) ≡ true
    → unview_steps (steps_from t (map (in_step view) (map (in_step known) xs))) ≡ unview_steps t ++ map (in_step known) xs
steps_back = list_back (in_step known) (in_step shape) step_flat (in_step view) unview_steps step_more steps_from (λ t. refl) (λ t x xs. refl) step_back

start_more : (t : Steps Note) (x : ClassStep (Tree Note)) → start (step_more t x) ≡ start t
start_more t (class_step.Property w) = refl
start_more t (class_step.Index e) = refl

start_steps : (t : Steps Note) (xs : List (ClassStep (Tree Note))) → start (steps_from t xs) ≡ start t
start_steps t [] = refl
start_steps t (x ∷ xs) = start_steps (step_more t x) xs ∙ start_more t x

pub class_back : (c : behind_new.Class Known) → class_flat (in_class shape (in_class known c)) ≡ true → unview_class (class_view (in_class view (in_class known c))) ≡ in_class known c
class_back (class.Name n) h = refl
class_back (class.Static spot) h = refl
class_back (class.Variable n steps) h =
    let t : Steps Note = from (spot_view n.spot) n.text in
    two_same (λ a b. class.Variable a b) (start_steps t (map (in_step view) (map (in_step known) steps))) (steps_back t steps h)
