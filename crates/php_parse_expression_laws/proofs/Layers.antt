-- A function at each expression in one node of the program's trees.
use Rattle.std.proofs.Common.{◌≡◌, ℕ, List, map, refl, ◌∙◌, ap}
use Rattle.php_ast.specs.declared.spot.Spot.{Spot}
use Rattle.php_ast.specs.declared.spot.Name as rust_name
use Rattle.php_ast.specs.declared.spot.Word.{Word}
use Rattle.php_ast.specs.declared.operator.Binary.{Binary}
use Rattle.php_ast.specs.declared.expression.Expr.{map-Expr}
use Rattle.php_ast.specs.declared.expression.Expr.TheOpen.{Expr-F}
use Rattle.php_ast.specs.declared.expression.Piece.{Piece}
use Rattle.php_ast.specs.declared.expression.Piece.TheVariants as piece
use Rattle.php_ast.specs.declared.expression.Item.{Item}
use Rattle.php_ast.specs.declared.expression.Item.TheVariants as item
use Rattle.php_ast.specs.declared.expression.Argument.{Argument}
use Rattle.php_ast.specs.declared.expression.Argument.TheVariants as argument
use Rattle.php_ast.specs.declared.expression.Suffix.{Suffix}
use Rattle.php_ast.specs.declared.expression.Suffix.TheVariants as suffix
use Rattle.php_ast.specs.declared.expression.Named.{Named}
use Rattle.php_ast.specs.declared.expression.Named.TheVariants as arrow
use Rattle.php_ast.specs.declared.expression.Member.{Member}
use Rattle.php_ast.specs.declared.expression.Class.{Class}
use Rattle.php_ast.specs.declared.expression.Class.TheVariants as class
use Rattle.php_ast.specs.declared.expression.ClassStep.{ClassStep}
use Rattle.php_ast.specs.declared.expression.ClassStep.TheVariants as class_step
use Rattle.php_ast.specs.declared.expression.Link.{Link}
use Rattle.php_ast.specs.declared.expression.Link.TheVariants as link
use Rattle.php_ast.proofs.Views.{map_same}

-- ---- in a part of a node

abbrev pub in_piece : {A B : Type 0} → (A → B) → Piece A → Piece B
in_piece f (piece.Bytes text) = piece.Bytes text
in_piece f (piece.Part e) = piece.Part (f e)

abbrev pub in_item : {A B : Type 0} → (A → B) → Item A → Item B
in_item f item.Missing = item.Missing
in_item f (item.Value e) = item.Value (f e)
in_item f (item.Reference e) = item.Reference (f e)
in_item f (item.Keyed k e) = item.Keyed (f k) (f e)
in_item f (item.KeyedReference k e) = item.KeyedReference (f k) (f e)

abbrev pub in_argument : {A B : Type 0} → (A → B) → Argument A → Argument B
in_argument f (argument.Value e) = argument.Value (f e)
in_argument f (argument.Spread e) = argument.Spread (f e)

abbrev pub in_named : {A B : Type 0} → (A → B) → Named A → Named B
in_named f (arrow.Word w) = arrow.Word w
in_named f (arrow.Variable n) = arrow.Variable n
in_named f (arrow.Computed e) = arrow.Computed (f e)

abbrev pub in_suffix : {A B : Type 0} → (A → B) → Suffix A → Suffix B
in_suffix f suffix.Append = suffix.Append
in_suffix f (suffix.Index e) = suffix.Index (f e)
in_suffix f (suffix.Property n) = suffix.Property (in_named f n)
in_suffix f (suffix.Member m) = suffix.Member m
in_suffix f (suffix.Call arguments) = suffix.Call (map (in_argument f) arguments)

abbrev pub in_step : {A B : Type 0} → (A → B) → ClassStep A → ClassStep B
in_step f (class_step.Property w) = class_step.Property w
in_step f (class_step.Index e) = class_step.Index (f e)

abbrev pub in_class : {A B : Type 0} → (A → B) → Class A → Class B
in_class f (class.Name n) = class.Name n
in_class f (class.Static spot) = class.Static spot
in_class f (class.Variable n steps) = class.Variable n (map (in_step f) steps)

abbrev pub in_link : {A B : Type 0} → (A → B) → Link A → Link B
in_link f (link.Operator op e) = link.Operator op (f e)
in_link f (link.Choice a b) = link.Choice (f a) (f b)
in_link f (link.ShortChoice b) = link.ShortChoice (f b)

-- ---- in a node

abbrev pub in_node : {A B : Type 0} → (A → B) → Expr-F A → Expr-F B
in_node f (Expr-F.Variable n) = Expr-F.Variable n
in_node f (Expr-F.Int spot n) = Expr-F.Int spot n
in_node f (Expr-F.Str spot text) = Expr-F.Str spot text
in_node f (Expr-F.Name n) = Expr-F.Name n
in_node f (Expr-F.StaticMember spot m) = Expr-F.StaticMember spot m
in_node f (Expr-F.Template spot pieces) = Expr-F.Template spot (map (in_piece f) pieces)
in_node f (Expr-F.Group spot e) = Expr-F.Group spot (f e)
in_node f (Expr-F.Array spot form items) = Expr-F.Array spot form (map (in_item f) items)
in_node f (Expr-F.IsSet spot es) = Expr-F.IsSet spot (map f es)
in_node f (Expr-F.Empty spot e) = Expr-F.Empty spot (f e)
in_node f (Expr-F.Exit spot) = Expr-F.Exit spot
in_node f (Expr-F.ExitEmpty spot) = Expr-F.ExitEmpty spot
in_node f (Expr-F.ExitWith spot e) = Expr-F.ExitWith spot (f e)
in_node f (Expr-F.Magic spot constant) = Expr-F.Magic spot constant
in_node f (Expr-F.Chain e suffixes) = Expr-F.Chain (f e) (map (in_suffix f) suffixes)
in_node f (Expr-F.New spot c) = Expr-F.New spot (in_class f c)
in_node f (Expr-F.NewWith spot c arguments) = Expr-F.NewWith spot (in_class f c) (map (in_argument f) arguments)
in_node f (Expr-F.Prefix spot op e) = Expr-F.Prefix spot op (f e)
in_node f (Expr-F.Count e count) = Expr-F.Count (f e) count
in_node f (Expr-F.Run e links) = Expr-F.Run (f e) (map (in_link f) links)
in_node f (Expr-F.Binary op l r) = Expr-F.Binary op (f l) (f r)
in_node f (Expr-F.InstanceOf l r) = Expr-F.InstanceOf (f l) (f r)
in_node f (Expr-F.InstanceOfStatic l spot) = Expr-F.InstanceOfStatic (f l) spot
in_node f (Expr-F.Assign op l r) = Expr-F.Assign op (f l) (f r)
in_node f (Expr-F.AssignReference l r) = Expr-F.AssignReference (f l) (f r)
in_node f (Expr-F.YieldNothing spot) = Expr-F.YieldNothing spot
in_node f (Expr-F.Yield spot v) = Expr-F.Yield spot (f v)
in_node f (Expr-F.YieldPair spot k v) = Expr-F.YieldPair spot (f k) (f v)

-- ---- the map that is declared with the type is this one

-- A function that does the same at each variant is the same.

piece_same : {A B : Type 0} (f : A → B) (h : Piece A → Piece B) → ((text : List ℕ) → h (piece.Bytes text) ≡ piece.Bytes text) → ((e : A) → h (piece.Part e) ≡ piece.Part (f e))
    → (x : Piece A) → h x ≡ in_piece f x
piece_same f h p q (piece.Bytes text) = p text
piece_same f h p q (piece.Part e) = q e

item_same : {A B : Type 0} (f : A → B) (h : Item A → Item B) → h item.Missing ≡ item.Missing → ((e : A) → h (item.Value e) ≡ item.Value (f e))
    → ((e : A) → h (item.Reference e) ≡ item.Reference (f e)) → ((k e : A) → h (item.Keyed k e) ≡ item.Keyed (f k) (f e))
    → ((k e : A) → h (item.KeyedReference k e) ≡ item.KeyedReference (f k) (f e)) → (x : Item A) → h x ≡ in_item f x
item_same f h p q r s u item.Missing = p
item_same f h p q r s u (item.Value e) = q e
item_same f h p q r s u (item.Reference e) = r e
item_same f h p q r s u (item.Keyed k e) = s k e
item_same f h p q r s u (item.KeyedReference k e) = u k e

argument_same : {A B : Type 0} (f : A → B) (h : Argument A → Argument B) → ((e : A) → h (argument.Value e) ≡ argument.Value (f e))
    → ((e : A) → h (argument.Spread e) ≡ argument.Spread (f e)) → (x : Argument A) → h x ≡ in_argument f x
argument_same f h p q (argument.Value e) = p e
argument_same f h p q (argument.Spread e) = q e

named_same : {A B : Type 0} (f : A → B) (h : Named A → Named B) → ((w : Word) → h (arrow.Word w) ≡ arrow.Word w) → ((n : rust_name.Name) → h (arrow.Variable n) ≡ arrow.Variable n)
    → ((e : A) → h (arrow.Computed e) ≡ arrow.Computed (f e)) → (x : Named A) → h x ≡ in_named f x
named_same f h p q r (arrow.Word w) = p w
named_same f h p q r (arrow.Variable n) = q n
named_same f h p q r (arrow.Computed e) = r e

suffix_same : {A B : Type 0} (f : A → B) (h : Suffix A → Suffix B) (k : Named A → Named B) (g : Argument A → Argument B)
    → h suffix.Append ≡ suffix.Append → ((e : A) → h (suffix.Index e) ≡ suffix.Index (f e))
    → ((n : Named A) → h (suffix.Property n) ≡ suffix.Property (k n)) → ((n : Named A) → k n ≡ in_named f n)
    → ((m : Member) → h (suffix.Member m) ≡ suffix.Member m)
    → ((arguments : List (Argument A)) → h (suffix.Call arguments) ≡ suffix.Call (map g arguments)) → ((x : Argument A) → g x ≡ in_argument f x)
    → (x : Suffix A) → h x ≡ in_suffix f x
suffix_same f h k g p q r names s u each suffix.Append = p
suffix_same f h k g p q r names s u each (suffix.Index e) = q e
suffix_same f h k g p q r names s u each (suffix.Property n) = r n ∙ ap suffix.Property (names n)
suffix_same f h k g p q r names s u each (suffix.Member m) = s m
suffix_same f h k g p q r names s u each (suffix.Call arguments) = u arguments ∙ ap suffix.Call (map_same g (in_argument f) each arguments)

step_same : {A B : Type 0} (f : A → B) (h : ClassStep A → ClassStep B) → ((w : Word) → h (class_step.Property w) ≡ class_step.Property w)
    → ((e : A) → h (class_step.Index e) ≡ class_step.Index (f e)) → (x : ClassStep A) → h x ≡ in_step f x
step_same f h p q (class_step.Property w) = p w
step_same f h p q (class_step.Index e) = q e

class_same : {A B : Type 0} (f : A → B) (h : Class A → Class B) (g : ClassStep A → ClassStep B) → ((n : rust_name.Name) → h (class.Name n) ≡ class.Name n)
    → ((spot : Spot) → h (class.Static spot) ≡ class.Static spot)
    → ((n : rust_name.Name) (steps : List (ClassStep A)) → h (class.Variable n steps) ≡ class.Variable n (map g steps)) → ((x : ClassStep A) → g x ≡ in_step f x)
    → (x : Class A) → h x ≡ in_class f x
class_same f h g p q r each (class.Name n) = p n
class_same f h g p q r each (class.Static spot) = q spot
class_same f h g p q r each (class.Variable n steps) = r n steps ∙ ap (class.Variable n) (map_same g (in_step f) each steps)

link_same : {A B : Type 0} (f : A → B) (h : Link A → Link B) → ((op : Binary) (e : A) → h (link.Operator op e) ≡ link.Operator op (f e))
    → ((a b : A) → h (link.Choice a b) ≡ link.Choice (f a) (f b)) → ((b : A) → h (link.ShortChoice b) ≡ link.ShortChoice (f b))
    → (x : Link A) → h x ≡ in_link f x
link_same f h p q r (link.Operator op e) = p op e
link_same f h p q r (link.Choice a b) = q a b
link_same f h p q r (link.ShortChoice b) = r b

new_same : (A B : Type 0) (f : A → B) (spot : Spot) (c : Class A) → map-Expr A B f (Expr-F.New spot c) ≡ Expr-F.New spot (in_class f c)
new_same A B f spot (class.Name n) = refl
new_same A B f spot (class.Static s) = refl
new_same A B f spot (class.Variable n steps) = ap (λ z. Expr-F.New spot (class.Variable n z)) (map_same _ (in_step f) (step_same f _ (λ w. refl) (λ e. refl)) steps)

pub two_same : {X Y Z : Type 0} (g : X → Y → Z) {x u : X} {y v : Y} → x ≡ u → y ≡ v → g x y ≡ g u v
two_same g {u = u} {y = y} p q = ap (λ z. g z y) p ∙ ap (g u) q

new_with_same : (A B : Type 0) (f : A → B) (spot : Spot) (c : Class A) (arguments : List (Argument A))
    → map-Expr A B f (Expr-F.NewWith spot c arguments) ≡ Expr-F.NewWith spot (in_class f c) (map (in_argument f) arguments)
new_with_same A B f spot (class.Name n) arguments = ap (Expr-F.NewWith spot (class.Name n)) (map_same _ (in_argument f) (argument_same f _ (λ k. refl) (λ k. refl)) arguments)
new_with_same A B f spot (class.Static s) arguments = ap (Expr-F.NewWith spot (class.Static s)) (map_same _ (in_argument f) (argument_same f _ (λ k. refl) (λ k. refl)) arguments)
new_with_same A B f spot (class.Variable n steps) arguments =
    two_same (λ z. Expr-F.NewWith spot (class.Variable n z)) (map_same _ (in_step f) (step_same f _ (λ w. refl) (λ e. refl)) steps)
    (map_same _ (in_argument f) (argument_same f _ (λ k. refl) (λ k. refl)) arguments)

pub node_same : (A B : Type 0) (f : A → B) (x : Expr-F A) → map-Expr A B f x ≡ in_node f x
node_same A B f (Expr-F.Variable n) = refl
node_same A B f (Expr-F.Int spot n) = refl
node_same A B f (Expr-F.Str spot text) = refl
node_same A B f (Expr-F.Name n) = refl
node_same A B f (Expr-F.StaticMember spot m) = refl
node_same A B f (Expr-F.Template spot pieces) = ap (Expr-F.Template spot) (map_same _ (in_piece f) (piece_same f _ (λ text. refl) (λ e. refl)) pieces)
node_same A B f (Expr-F.Group spot e) = refl
node_same A B f (Expr-F.Array spot form items) =
    ap (Expr-F.Array spot form) (map_same _ (in_item f) (item_same f _ refl (λ e. refl) (λ e. refl) (λ k e. refl) (λ k e. refl)) items)
node_same A B f (Expr-F.IsSet spot es) = refl
node_same A B f (Expr-F.Empty spot e) = refl
node_same A B f (Expr-F.Exit spot) = refl
node_same A B f (Expr-F.ExitEmpty spot) = refl
node_same A B f (Expr-F.ExitWith spot e) = refl
node_same A B f (Expr-F.Magic spot constant) = refl
node_same A B f (Expr-F.Chain e suffixes) =
    ap (Expr-F.Chain (f e))
    (map_same _ (in_suffix f)
    (suffix_same f _ _ _ refl (λ k. refl) (λ n. refl) (named_same f _ (λ w. refl) (λ v. refl) (λ k. refl)) (λ m. refl) (λ arguments. refl) (argument_same f _ (λ k. refl) (λ k. refl)))
    suffixes)
node_same A B f (Expr-F.New spot c) = new_same A B f spot c
node_same A B f (Expr-F.NewWith spot c arguments) = new_with_same A B f spot c arguments
node_same A B f (Expr-F.Prefix spot op e) = refl
node_same A B f (Expr-F.Count e count) = refl
node_same A B f (Expr-F.Run e links) = ap (Expr-F.Run (f e)) (map_same _ (in_link f) (link_same f _ (λ op k. refl) (λ a b. refl) (λ b. refl)) links)
node_same A B f (Expr-F.Binary op l r) = refl
node_same A B f (Expr-F.InstanceOf l r) = refl
node_same A B f (Expr-F.InstanceOfStatic l spot) = refl
node_same A B f (Expr-F.Assign op l r) = refl
node_same A B f (Expr-F.AssignReference l r) = refl
node_same A B f (Expr-F.YieldNothing spot) = refl
node_same A B f (Expr-F.Yield spot v) = refl
node_same A B f (Expr-F.YieldPair spot k v) = refl
