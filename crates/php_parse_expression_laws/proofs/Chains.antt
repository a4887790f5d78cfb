-- Chains and runs, there and back.
use Rattle.std.proofs.Common.{◌≡◌, ℕ, Bool, true, false, not, nat_eq, List, [], ◌∷◌, ◌++◌, map, refl, sym, ◌∙◌, ap, append_assoc}
use Rattle.std.specs.List.{list_all}
use Rattle.std.proofs.lemmas.List.{append-nil}
use Rattle.std.proofs.lemmas.Bool.{eq-eqb, eqb-true}
use Rattle.php_ast.specs.declared.expression.Expr.{Expr}
use Rattle.php_ast.specs.declared.expression.Suffix.{Suffix}
use Rattle.php_ast.specs.declared.expression.Suffix.TheVariants as suffix
use Rattle.php_ast.specs.declared.expression.Named.TheVariants as arrow
use Rattle.php_ast.specs.declared.expression.Link.{Link}
use Rattle.php_ast.specs.declared.expression.Link.TheVariants as link
use Rattle.php_ast.specs.Power.{is_left, binary_row, choice_row}
use Rattle.php_ast.specs.expression.Tree.{Tree, none}
use Rattle.php_ast.specs.expression.View.{Note, view, with_suffix, with_suffixes, with_link, with_links}
use Rattle.php_build.specs.Flat.{shape, unchained, is_run_top, suffix_flat, link_row, link_flat, has_power}
use Rattle.php_parse_expression_laws.proofs.Layers.{in_suffix, in_link, two_same}
use Rattle.php_parse_expression_laws.proofs.Unview.{Built, chained, running, apart, close, top_of, suffixed, going_on, linked, joined, unview}
use Rattle.php_build.proofs.Flats.{first_of, second_of}
use Rattle.php_parse_expression_laws.proofs.Parts.{Known, known, back, named_back, member_back, arguments_back}

-- ---- suffixes

suffix_back : (t : Tree Note) (x : Suffix Known) → suffix_flat (in_suffix shape (in_suffix known x)) ≡ true → unview (with_suffix t (in_suffix view (in_suffix known x))) ≡ suffixed (unview t) (in_suffix known x)
suffix_back t suffix.Append h = refl
suffix_back t (suffix.Index w) h = ap (λ e. suffixed (unview t) (suffix.Index e)) (back w h)
suffix_back t (suffix.Property (arrow.Word w)) h = ap (λ z. suffixed (unview t) (suffix.Property z)) (named_back w)
suffix_back t (suffix.Property (arrow.Variable n)) h = refl
suffix_back t (suffix.Property (arrow.Computed w)) h = ap (λ e. suffixed (unview t) (suffix.Property (arrow.Computed e))) (back w h)
suffix_back t (suffix.Member m) h = ap (λ z. suffixed (unview t) (suffix.Member z)) (member_back m)
suffix_back t (suffix.Call arguments) h = ap (λ z. suffixed (unview t) (suffix.Call z)) (arguments_back none arguments h)

-- behind a chain
more_suffixes : (e : Expr) (t : Tree Note) (before : List (Suffix Expr)) (xs : List (Suffix Known)) → unview t ≡ chained e before
    → list_all suffix_flat (map (in_suffix shape) (map (in_suffix known) xs)) ≡ true
    → unview (with_suffixes t (map (in_suffix view) (map (in_suffix known) xs))) ≡ chained e (before ++ map (in_suffix known) xs)
more_suffixes e t before [] is h = is ∙ ap (chained e) (sym (append-nil before))
more_suffixes e t before (x ∷ xs) is h =
    let y = in_suffix known x in
    let one = suffix_flat (in_suffix shape y) in
    let rest = list_all suffix_flat (map (in_suffix shape) (map (in_suffix known) xs)) in
    more_suffixes e (with_suffix t (in_suffix view y)) (before ++ y ∷ []) xs (suffix_back t x (first_of one rest h) ∙ ap (λ b. suffixed b y) is) (second_of one rest h)
    ∙ ap (chained e) (append_assoc before (y ∷ []) (map (in_suffix known) xs))

first_suffix : (b : Built) (flat : Bool) (x : Suffix Expr) → unchained (top_of b) flat ≡ true → suffixed b x ≡ chained (close b) (x ∷ [])
first_suffix (chained e suffixes) flat x h = cc
first_suffix (running power e links) flat x h = refl
first_suffix (apart e) flat x h = refl

-- behind an operand that is no chain
pub suffixes_back : (t : Tree Note) (flat : Bool) (x : Suffix Known) (xs : List (Suffix Known)) → unchained (top_of (unview t)) flat ≡ true
    → list_all suffix_flat (map (in_suffix shape) (map (in_suffix known) (x ∷ xs))) ≡ true
    → unview (with_suffixes t (map (in_suffix view) (map (in_suffix known) (x ∷ xs)))) ≡ chained (close (unview t)) (map (in_suffix known) (x ∷ xs))
suffixes_back t flat x xs leaf h =
    let y = in_suffix known x in
    let one = suffix_flat (in_suffix shape y) in
    let rest = list_all suffix_flat (map (in_suffix shape) (map (in_suffix known) xs)) in
    more_suffixes (close (unview t)) (with_suffix t (in_suffix view y)) (y ∷ []) xs (suffix_back t x (first_of one rest h) ∙ first_suffix (unview t) flat y leaf) (second_of one rest h)

-- ---- links

link_back : (t : Tree Note) (x : Link Known) → link_flat (in_link shape (in_link known x)) ≡ true
    → unview (with_link t (in_link view (in_link known x))) ≡ linked (link_row (in_link shape (in_link known x))).power (unview t) (in_link known x)
link_back t (link.Operator op w) h =
    let left = is_left (binary_row op).grouping in
    two_same (λ z e. joined z op (unview t) e) (first_of left (shape (known w)).flat h) (back w (second_of left (shape (known w)).flat h))
link_back t (link.Choice v w) h =
    let a = (shape (known v)).flat in
    let b = (shape (known w)).flat in
    two_same (λ x y. linked choice_row.power (unview t) (link.Choice x y)) (back v (first_of a b h)) (back w (second_of a b h))
link_back t (link.ShortChoice w) h = ap (λ e. linked choice_row.power (unview t) (link.ShortChoice e)) (back w h)

next_link : (power p : ℕ) (b : Built) (e : Expr) (before : List (Link Expr)) (x : Link Expr) → b ≡ running power e before → nat_eq p power ≡ true
    → linked p b x ≡ running power e (before ++ x ∷ [])
next_link power p b e before x is h =
    ap (λ z. linked p z x) is ∙ ap (λ q. going_on q power e before p x) (eq-eqb power p (sym (eqb-true p power h)))

-- behind a run
more_links : (power : ℕ) (e : Expr) (t : Tree Note) (before : List (Link Expr)) (xs : List (Link Known)) → unview t ≡ running power e before
    → list_all link_flat (map (in_link shape) (map (in_link known) xs)) ≡ true
    → list_all (has_power power) (map (in_link shape) (map (in_link known) xs)) ≡ true
    → unview (with_links t (map (in_link view) (map (in_link known) xs))) ≡ running power e (before ++ map (in_link known) xs)
more_links power e t before [] is h same = is ∙ ap (running power e) (sym (append-nil before))
more_links power e t before (x ∷ xs) is h same =
    let y = in_link known x in
    let one = link_flat (in_link shape y) in
    let rest = list_all link_flat (map (in_link shape) (map (in_link known) xs)) in
    let fits = has_power power (in_link shape y) in
    let all = list_all (has_power power) (map (in_link shape) (map (in_link known) xs)) in
    more_links power e (with_link t (in_link view y)) (before ++ y ∷ []) xs
    (link_back t x (first_of one rest h) ∙ next_link power (link_row (in_link shape y)).power (unview t) e before y is (first_of fits all same))
    (second_of one rest h) (second_of fits all same)
    ∙ ap (running power e) (append_assoc before (y ∷ []) (map (in_link known) xs))

first_link : (power : ℕ) (b : Built) (x : Link Expr) → not (is_run_top power (top_of b)) ≡ true → linked power b x ≡ running power (close b) (x ∷ [])
first_link power (chained e suffixes) x h = refl
first_link power (running before e links) x h = other_power (nat_eq before power) h
  where
    other_power : (q : Bool) → not q ≡ true → going_on q before e links power x ≡ running power (close (running before e links)) (x ∷ [])
    other_power true g = cc
    other_power false g = refl
first_link power (apart e) x h = refl

-- behind an expression that is no run of that power
pub links_back : (t : Tree Note) (x : Link Known) (xs : List (Link Known))
    → not (is_run_top (link_row (in_link shape (in_link known x))).power (top_of (unview t))) ≡ true
    → list_all link_flat (map (in_link shape) (map (in_link known) (x ∷ xs))) ≡ true
    → list_all (has_power (link_row (in_link shape (in_link known x))).power) (map (in_link shape) (map (in_link known) xs)) ≡ true
    → unview (with_links t (map (in_link view) (map (in_link known) (x ∷ xs)))) ≡ running (link_row (in_link shape (in_link known x))).power (close (unview t)) (map (in_link known) (x ∷ xs))
links_back t x xs no_run h same =
    let y = in_link known x in
    let power = (link_row (in_link shape y)).power in
    let one = link_flat (in_link shape y) in
    let rest = list_all link_flat (map (in_link shape) (map (in_link known) xs)) in
    more_links power (close (unview t)) (with_link t (in_link view y)) (y ∷ []) xs (link_back t x (first_of one rest h) ∙ first_link power (unview t) y no_run) (second_of one rest h) same
