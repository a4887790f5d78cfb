-- What is left out in a node with a list: an operand with its suffixes, or a run.
use Rattle.std.specs.Prelude.{◌==◌}
use Rattle.std.proofs.Common.{◌≡◌, ℕ, Bool, true, false, Option, Some, None, List, [], ◌∷◌, map, length, cond, refl, sym, ◌∙◌, ap, arith}
use Rattle.std.proofs.lemmas.Grind.{common_steps}
use Rattle.php_ast.specs.declared.expression.Expr.{Expr}
use Rattle.php_ast.specs.declared.expression.Expr.TheVariants.{Chain, Run}
use Rattle.php_ast.specs.declared.expression.Suffix.{Suffix}
use Rattle.php_ast.specs.declared.expression.Suffix.TheVariants as suffix
use Rattle.php_ast.specs.declared.expression.Named.TheVariants as arrow
use Rattle.php_ast.specs.declared.expression.Link.{Link}
use Rattle.php_ast.specs.declared.expression.Link.TheVariants as link
use Rattle.php_ast.specs.expression.Tree.{Tree}
use Rattle.php_ast.specs.expression.View.{Note, view, with_suffix, with_suffixes, with_link, with_links}
use Rattle.php_ast.specs.expression.Parts.{suffix_with, link_with}
use Rattle.php_ast.proofs.Views.{view_chain, view_run}
use Rattle.php_legality.specs.Places.{first_note}
use Rattle.php_places.specs.Over.{over}
use Rattle.php_first_forms.specs.Forms.{or_else, left_in_sum, left_in_part, left_in_target, left_in_assignment}
use Rattle.php_first_forms.specs.Links.{with_operand}

-- ---- an empty list

pub empty_chain : (e : Expr) (suffixes : List (Suffix Expr)) → true ≡ (length suffixes == 0) → view e ≡ view (Chain e suffixes)
empty_chain e [] plain = sym (view_chain e [])
empty_chain e (x ∷ xs) plain = absurd (grind (arith, common_steps))

pub empty_run : (e : Expr) (links : List (Link Expr)) → true ≡ (length links == 0) → view e ≡ view (Run e links)
empty_run e [] plain = sym (view_run e [])
empty_run e (x ∷ xs) plain = absurd (grind (arith, common_steps))

-- ---- two answers that are the same at each node with something behind an operand

at_suffixes : (F G : Tree Note → Option Note) → ((e : Tree Note) (x : Suffix (Tree Note)) → F (with_suffix e x) ≡ G (with_suffix e x)) →
    (e : Tree Note) (x : Suffix (Tree Note)) (xs : List (Suffix (Tree Note))) → F (with_suffixes (with_suffix e x) xs) ≡ G (with_suffixes (with_suffix e x) xs)
at_suffixes F G same e x [] = same e x
at_suffixes F G same e x (y ∷ ys) = at_suffixes F G same (with_suffix e x) y ys

at_links : (F G : Tree Note → Option Note) → ((e : Tree Note) (x : Link (Tree Note)) → F (with_link e x) ≡ G (with_link e x)) →
    (e : Tree Note) (x : Link (Tree Note)) (xs : List (Link (Tree Note))) → F (with_links (with_link e x) xs) ≡ G (with_links (with_link e x) xs)
at_links F G same e x [] = same e x
at_links F G same e x (y ∷ ys) = at_links F G same (with_link e x) y ys

at_chain : (F G : Tree Note → Option Note) → ((e : Tree Note) (x : Suffix (Tree Note)) → F (with_suffix e x) ≡ G (with_suffix e x)) →
    (e : Expr) (suffixes : List (Suffix Expr)) → false ≡ (length suffixes == 0) → F (view (Chain e suffixes)) ≡ G (view (Chain e suffixes))
at_chain F G same e [] some = absurd cc
at_chain F G same e (x ∷ xs) some =
    ap F (view_chain e (x ∷ xs)) ∙ at_suffixes F G same (view e) (suffix_with view x) (map (suffix_with view) xs) ∙ ap G (sym (view_chain e (x ∷ xs)))

at_run : (F G : Tree Note → Option Note) → ((e : Tree Note) (x : Link (Tree Note)) → F (with_link e x) ≡ G (with_link e x)) →
    (e : Expr) (links : List (Link Expr)) → false ≡ (length links == 0) → F (view (Run e links)) ≡ G (view (Run e links))
at_run F G same e [] some = absurd cc
at_run F G same e (x ∷ xs) some =
    ap F (view_run e (x ∷ xs)) ∙ at_links F G same (view e) (link_with view x) (map (link_with view) xs) ∙ ap G (sym (view_run e (x ∷ xs)))

-- ---- sums

sum_suffix : (e : Tree Note) (x : Suffix (Tree Note)) → left_in_sum (with_suffix e x) ≡ Some (first_note (with_suffix e x))
sum_suffix e suffix.Append = refl
sum_suffix e (suffix.Index k) = refl
sum_suffix e (suffix.Property (arrow.Word w)) = refl
sum_suffix e (suffix.Property (arrow.Variable n)) = refl
sum_suffix e (suffix.Property (arrow.Computed k)) = refl
sum_suffix e (suffix.Member m) = refl
sum_suffix e (suffix.Call arguments) = refl

pub chain_sum : (e : Expr) (suffixes : List (Suffix Expr)) → false ≡ (length suffixes == 0) → Some (first_note (view (Chain e suffixes))) ≡ left_in_sum (view (Chain e suffixes))
chain_sum e suffixes some = sym (at_chain (λ t. left_in_sum t) (λ t. Some (first_note t)) sum_suffix e suffixes some)

sum_link : (e : Tree Note) (x : Link (Tree Note)) → left_in_sum (with_link e x) ≡ with_operand (first_note e) x (left_in_sum e)
sum_link e (link.Operator op r) = refl
sum_link e (link.Choice a b) = refl
sum_link e (link.ShortChoice b) = refl

first_of_link : (e : Tree Note) (x : Link (Tree Note)) → first_note (with_link e x) ≡ first_note e
first_of_link e (link.Operator op r) = refl
first_of_link e (link.Choice a b) = refl
first_of_link e (link.ShortChoice b) = refl

sum_links : (e : Tree Note) (xs : List (Link (Tree Note))) → left_in_sum (with_links e xs) ≡ over (with_operand (first_note e)) xs (left_in_sum e)
sum_links e [] = refl
sum_links e (x ∷ xs) =
    sum_links (with_link e x) xs ∙ ap (λ at. over (with_operand at) xs (left_in_sum (with_link e x))) (first_of_link e x)
    ∙ ap (over (with_operand (first_note e)) xs) (sum_link e x)

first_of_links : (e : Tree Note) (xs : List (Link (Tree Note))) → first_note (with_links e xs) ≡ first_note e
first_of_links e [] = refl
first_of_links e (x ∷ xs) = first_of_links (with_link e x) xs ∙ first_of_link e x

-- with the first token of the whole run
pub run_sum : (e : Expr) (links : List (Link Expr)) → over (with_operand (first_note (view (Run e links)))) (map (link_with view) links) (left_in_sum (view e)) ≡ left_in_sum (view (Run e links))
run_sum e links =
    ap (λ at. over (with_operand at) (map (link_with view) links) (left_in_sum (view e)))
    (ap (λ t. first_note t) (view_run e links) ∙ first_of_links (view e) (map (link_with view) links))
    ∙ sym (sum_links (view e) (map (link_with view) links)) ∙ ap (λ t. left_in_sum t) (sym (view_run e links))

-- ---- parts of an `echo`

part_suffix : (e : Tree Note) (x : Suffix (Tree Note)) → left_in_part (with_suffix e x) ≡ left_in_sum (with_suffix e x)
part_suffix e suffix.Append = refl
part_suffix e (suffix.Index k) = refl
part_suffix e (suffix.Property (arrow.Word w)) = refl
part_suffix e (suffix.Property (arrow.Variable n)) = refl
part_suffix e (suffix.Property (arrow.Computed k)) = refl
part_suffix e (suffix.Member m) = refl
part_suffix e (suffix.Call arguments) = refl

part_link : (e : Tree Note) (x : Link (Tree Note)) → left_in_part (with_link e x) ≡ left_in_sum (with_link e x)
part_link e (link.Operator op r) = refl
part_link e (link.Choice a b) = refl
part_link e (link.ShortChoice b) = refl

pub chain_part : (e : Expr) (suffixes : List (Suffix Expr)) → false ≡ (length suffixes == 0) → left_in_sum (view (Chain e suffixes)) ≡ left_in_part (view (Chain e suffixes))
chain_part e suffixes some = sym (at_chain (λ t. left_in_part t) (λ t. left_in_sum t) part_suffix e suffixes some)

pub run_part : (e : Expr) (links : List (Link Expr)) → false ≡ (length links == 0) → left_in_sum (view (Run e links)) ≡ left_in_part (view (Run e links))
run_part e links some = sym (at_run (λ t. left_in_part t) (λ t. left_in_sum t) part_link e links some)

-- ---- assignments

target_suffix : (at : Note) (e : Tree Note) (x : Suffix (Tree Note)) → left_in_target at (with_suffix e x) ≡ Some at
target_suffix at e suffix.Append = refl
target_suffix at e (suffix.Index k) = refl
target_suffix at e (suffix.Property (arrow.Word w)) = refl
target_suffix at e (suffix.Property (arrow.Variable n)) = refl
target_suffix at e (suffix.Property (arrow.Computed k)) = refl
target_suffix at e (suffix.Member m) = refl
target_suffix at e (suffix.Call arguments) = refl

target_link : (at : Note) (e : Tree Note) (x : Link (Tree Note)) → left_in_target at (with_link e x) ≡ Some at
target_link at e (link.Operator op r) = refl
target_link at e (link.Choice a b) = refl
target_link at e (link.ShortChoice b) = refl

pub chain_target : (at : Note) (e : Expr) (suffixes : List (Suffix Expr)) → false ≡ (length suffixes == 0) → Some at ≡ left_in_target at (view (Chain e suffixes))
chain_target at e suffixes some = sym (at_chain (λ t. left_in_target at t) (λ t. Some at) (target_suffix at) e suffixes some)

pub run_target : (at : Note) (e : Expr) (links : List (Link Expr)) → false ≡ (length links == 0) → Some at ≡ left_in_target at (view (Run e links))
run_target at e links some = sym (at_run (λ t. left_in_target at t) (λ t. Some at) (target_link at) e links some)

set_suffix : (at : Note) (e : Tree Note) (x : Suffix (Tree Note)) → left_in_assignment at (with_suffix e x) ≡ Some at
set_suffix at e suffix.Append = refl
set_suffix at e (suffix.Index k) = refl
set_suffix at e (suffix.Property (arrow.Word w)) = refl
set_suffix at e (suffix.Property (arrow.Variable n)) = refl
set_suffix at e (suffix.Property (arrow.Computed k)) = refl
set_suffix at e (suffix.Member m) = refl
set_suffix at e (suffix.Call arguments) = refl

set_link : (at : Note) (e : Tree Note) (x : Link (Tree Note)) → left_in_assignment at (with_link e x) ≡ Some at
set_link at e (link.Operator op r) = refl
set_link at e (link.Choice a b) = refl
set_link at e (link.ShortChoice b) = refl

pub chain_set : (at : Note) (e : Expr) (suffixes : List (Suffix Expr)) → false ≡ (length suffixes == 0) → Some at ≡ left_in_assignment at (view (Chain e suffixes))
chain_set at e suffixes some = sym (at_chain (λ t. left_in_assignment at t) (λ t. Some at) (set_suffix at) e suffixes some)

pub run_set : (at : Note) (e : Expr) (links : List (Link Expr)) → false ≡ (length links == 0) → Some at ≡ left_in_assignment at (view (Run e links))
run_set at e links some = sym (at_run (λ t. left_in_assignment at t) (λ t. Some at) (set_link at) e links some)
