-- Each kind of node, there and back.
use Rattle.std.proofs.Common.{◌≡◌, true, false, Bool, not, ◌&&◌, List, [], ◌∷◌, map, refl, sym, ◌∙◌, ap}
use Rattle.std.specs.List.{list_all}
use Rattle.std.proofs.lemmas.Bool.{false≢true}
use Rattle.php_ast.specs.declared.spot.Spot.{Spot}
use Rattle.php_ast.specs.declared.operator.Binary.{Binary}
use Rattle.php_ast.specs.declared.expression.Expr.{Expr}
use Rattle.php_ast.specs.declared.expression.Expr.TheOpen.{Expr-F}
use Rattle.php_ast.specs.declared.expression.Expr.TheViews.{roll-Expr}
use Rattle.php_ast.specs.declared.expression.Expr.TheFolds.{fold-roll-Expr}
use Rattle.php_ast.specs.declared.expression.Argument.{Argument}
use Rattle.php_ast.specs.declared.expression.Suffix.{Suffix}
use Rattle.php_ast.specs.declared.expression.Class.{Class}
use Rattle.php_ast.specs.declared.expression.Link.{Link}
use Rattle.php_ast.specs.Power.{is_left, binary_row}
use Rattle.php_ast.specs.expression.Tree.{Tree, none, no_piece}
use Rattle.php_ast.specs.expression.View.{Note, view, view_step}
use Rattle.php_build.specs.Flat.{Top, chain, Shape, shape, shape_step, unchained, is_run_top, class_flat, argument_flat, suffix_flat, link_row, link_flat, has_power}
use Rattle.php_parse_expression_laws.proofs.Layers.{in_class, in_argument, in_suffix, in_link, in_node, node_same, two_same}
use Rattle.php_parse_expression_laws.proofs.Unview.{apart, joined, close, top_of, unview}
use Rattle.php_build.proofs.Flats.{first_of, second_of}
use Rattle.php_parse_expression_laws.proofs.Parts.{Back, IsKept, Known, known, back, member_back, pieces_back, items_back, arguments_back, values_back, class_back}
use Rattle.php_parse_expression_laws.proofs.Chains.{suffixes_back, links_back}

-- ---- the view and the shape of a node

view_node : (x : Expr-F Expr) → view (roll-Expr x) ≡ view_step (in_node view x)
view_node x = fold-roll-Expr (Tree Note) view_step x ∙ ap view_step (node_same Expr (Tree Note) view x)

shape_node : (x : Expr-F Expr) → shape (roll-Expr x) ≡ shape_step (in_node shape x)
shape_node x = fold-roll-Expr Shape shape_step x ∙ ap shape_step (node_same Expr Shape shape x)

-- the same of a node, whose parts are known
abbrev IsKeptNode : Expr-F Known → Type 0
IsKeptNode y =
    (shape_step (in_node shape (in_node known y))).flat ≡ true
    → Back (view_step (in_node view (in_node known y))) (shape_step (in_node shape (in_node known y))) (roll-Expr (in_node known y))

kept_by : (t u : Tree Note) (s r : Shape) (e : Expr) → t ≡ u → s ≡ r → (r.flat ≡ true → Back u r e) → s.flat ≡ true → Back t s e
kept_by t u s r e p q h flat =
    let b = h (ap (λ (z : Shape). z.flat) (sym q) ∙ flat) in
    record { same = ap (λ z. close (unview z)) p ∙ b.same; top = ap (λ z. top_of (unview z)) p ∙ b.top ∙ ap (λ (z : Shape). z.top) (sym q) }

pub kept : (y : Expr-F Known) → IsKeptNode y → IsKept (roll-Expr (in_node known y))
kept y h =
    let x = in_node known y in
    kept_by (view (roll-Expr x)) (view_step (in_node view x)) (shape (roll-Expr x)) (shape_step (in_node shape x)) (roll-Expr x) (view_node x) (shape_node x) h

-- ---- two parts

-- two parts, both flat
two_back : (g : Expr → Expr → Expr) (v w : Known) → ((shape (known v)).flat && (shape (known w)).flat) ≡ true → g (close (unview (view (known v)))) (close (unview (view (known w)))) ≡ g (known v) (known w)
two_back g v w h =
    let a = (shape (known v)).flat in
    let b = (shape (known w)).flat in
    two_same g (back v (first_of a b h)) (back w (second_of a b h))

new_with_kept : (spot : Spot) (c : Class Known) (arguments : List (Argument Known)) → IsKeptNode (Expr-F.NewWith spot c arguments)
new_with_kept spot c arguments h =
    let a = class_flat (in_class shape (in_class known c)) in
    let b = list_all argument_flat (map (in_argument shape) (map (in_argument known) arguments)) in
    record { same = two_same (λ x z. roll-Expr (Expr-F.NewWith spot x z)) (class_back c (first_of a b h)) (arguments_back none arguments (second_of a b h)); top = refl }

not_left : (left : Bool) → not left ≡ true → left ≡ false
not_left true h = cc
not_left false h = refl

-- an operator that doesn't group to the left
binary_kept : (op : Binary) (v w : Known) → IsKeptNode (Expr-F.Binary op v w)
binary_kept op v w h =
    let left = is_left (binary_row op).grouping in
    let a = (shape (known v)).flat in
    let b = (shape (known w)).flat in
    let begins = first_of (not left && a) b h in
    let l = unview (view (known v)) in
    let r = close (unview (view (known w))) in
    let there : joined left op l r ≡ apart (roll-Expr (Expr-F.Binary op (close l) r)) = ap (λ z. joined z op l r) (not_left left (first_of (not left) a begins)) in
    record {
      same = ap close there ∙ two_same (λ x z. roll-Expr (Expr-F.Binary op x z)) (back v (second_of (not left) a begins)) (back w (second_of (not left && a) b h));
      top = ap top_of there;
    }

-- ---- chains

unchained_flat : (top : Top) (flat : Bool) → unchained top flat ≡ true → flat ≡ true
unchained_flat chain flat h = cc
unchained_flat _ flat h = h

chain_kept : (w : Known) (suffixes : List (Suffix Known)) → IsKeptNode (Expr-F.Chain w suffixes)
chain_kept w [] h =
    let leaf = unchained (shape (known w)).top (shape (known w)).flat in
    absurd (false≢true (second_of leaf false (first_of (leaf && false) true h)))
chain_kept w (x ∷ suffixes) h =
    let s = shape (known w) in
    let leaf = unchained s.top s.flat in
    let all = list_all suffix_flat (map (in_suffix shape) (map (in_suffix known) (x ∷ suffixes))) in
    let is_leaf : leaf ≡ true = first_of leaf true (first_of (leaf && true) all h) in
    let b = w.1 (unchained_flat s.top s.flat is_leaf) in
    let there = suffixes_back (view (known w)) s.flat x suffixes (ap (λ z. unchained z s.flat) b.top ∙ is_leaf) (second_of (leaf && true) all h) in
    record { same = ap close there ∙ ap (λ e. roll-Expr (Expr-F.Chain e (map (in_suffix known) (x ∷ suffixes)))) b.same; top = ap top_of there }

-- ---- runs

run_kept : (w : Known) (links : List (Link Known)) → IsKeptNode (Expr-F.Run w links)
run_kept w [] h = absurd (false≢true h)
run_kept w (x ∷ links) h =
    let s = shape (known w) in
    let power = (link_row (in_link shape (in_link known x))).power in
    let no_run = not (is_run_top power s.top) in
    let all = list_all link_flat (map (in_link shape) (map (in_link known) (x ∷ links))) in
    let fit = list_all (has_power power) (map (in_link shape) (map (in_link known) links)) in
    let begins = s.flat && no_run in
    let linked = first_of (begins && all) fit h in
    let begun = first_of begins all linked in
    let b = w.1 (first_of s.flat no_run begun) in
    let there = links_back (view (known w)) x links (ap (λ z. not (is_run_top power z)) b.top ∙ second_of s.flat no_run begun) (second_of begins all linked) (second_of (begins && all) fit h) in
    record { same = ap close there ∙ ap (λ e. roll-Expr (Expr-F.Run e (map (in_link known) (x ∷ links)))) b.same; top = ap top_of there }

-- ---- all nodes

pub node_kept : (y : Expr-F Known) → IsKeptNode y
node_kept (Expr-F.Variable n) h = record { same = refl; top = refl }
node_kept (Expr-F.Int spot n) h = record { same = refl; top = refl }
node_kept (Expr-F.Str spot text) h = record { same = refl; top = refl }
node_kept (Expr-F.Name n) h = record { same = refl; top = refl }
node_kept (Expr-F.StaticMember spot m) h = record { same = ap (λ z. roll-Expr (Expr-F.StaticMember spot z)) (member_back m); top = refl }
node_kept (Expr-F.Template spot pieces) h = record { same = ap (λ z. roll-Expr (Expr-F.Template spot z)) (pieces_back no_piece pieces h); top = refl }
node_kept (Expr-F.Group spot w) h = record { same = ap (λ z. roll-Expr (Expr-F.Group spot z)) (back w h); top = refl }
node_kept (Expr-F.Array spot form items) h = record { same = ap (λ z. roll-Expr (Expr-F.Array spot form z)) (items_back none items h); top = refl }
node_kept (Expr-F.IsSet spot es) h = record { same = ap (λ z. roll-Expr (Expr-F.IsSet spot z)) (values_back none es h); top = refl }
node_kept (Expr-F.Empty spot w) h = record { same = ap (λ z. roll-Expr (Expr-F.Empty spot z)) (back w h); top = refl }
node_kept (Expr-F.Exit spot) h = record { same = refl; top = refl }
node_kept (Expr-F.ExitEmpty spot) h = record { same = refl; top = refl }
node_kept (Expr-F.ExitWith spot w) h = record { same = ap (λ z. roll-Expr (Expr-F.ExitWith spot z)) (back w h); top = refl }
node_kept (Expr-F.Magic spot constant) h = record { same = refl; top = refl }
node_kept (Expr-F.Chain w suffixes) h = chain_kept w suffixes h
node_kept (Expr-F.New spot c) h = record { same = ap (λ z. roll-Expr (Expr-F.New spot z)) (class_back c h); top = refl }
node_kept (Expr-F.NewWith spot c arguments) h = new_with_kept spot c arguments h
node_kept (Expr-F.Prefix spot op w) h = record { same = ap (λ z. roll-Expr (Expr-F.Prefix spot op z)) (back w h); top = refl }
node_kept (Expr-F.Count w count) h = record { same = ap (λ z. roll-Expr (Expr-F.Count z count)) (back w h); top = refl }
node_kept (Expr-F.Run w links) h = run_kept w links h
node_kept (Expr-F.Binary op v w) h = binary_kept op v w h
node_kept (Expr-F.InstanceOf v w) h = record { same = two_back (λ x z. roll-Expr (Expr-F.InstanceOf x z)) v w h; top = refl }
node_kept (Expr-F.InstanceOfStatic w spot) h = record { same = ap (λ z. roll-Expr (Expr-F.InstanceOfStatic z spot)) (back w h); top = refl }
node_kept (Expr-F.Assign op v w) h = record { same = two_back (λ x z. roll-Expr (Expr-F.Assign op x z)) v w h; top = refl }
node_kept (Expr-F.AssignReference v w) h = record { same = two_back (λ x z. roll-Expr (Expr-F.AssignReference x z)) v w h; top = refl }
node_kept (Expr-F.YieldNothing spot) h = record { same = refl; top = refl }
node_kept (Expr-F.Yield spot w) h = record { same = ap (λ z. roll-Expr (Expr-F.Yield spot z)) (back w h); top = refl }
node_kept (Expr-F.YieldPair spot v w) h = record { same = two_back (λ x z. roll-Expr (Expr-F.YieldPair spot x z)) v w h; top = refl }
