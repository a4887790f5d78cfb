-- What a node with a list comes to: an operand with its suffixes, a run, or a text with parts.
use Rattle.std.specs.Prelude.{◌==◌, is_some}
use Rattle.std.specs.List.{list_all}
use Rattle.std.specs.Option.{option_or}
use Rattle.std.proofs.Common.{◌≡◌, ℕ, Bool, true, false, ◌&&◌, Option, Some, None, List, [], ◌∷◌, map, length, cond, refl, sym, ◌∙◌, ap, arith}
use Rattle.std.proofs.lemmas.Grind.{common_steps}
use Rattle.php_ast.specs.declared.spot.Spot.{Spot}
use Rattle.php_ast.specs.declared.expression.Expr.{Expr}
use Rattle.php_ast.specs.declared.expression.Expr.TheVariants.{Template, Chain, Run, rolls-Template}
use Rattle.php_ast.specs.declared.expression.Expr.TheOpen.{Expr-F}
use Rattle.php_ast.specs.declared.expression.Expr.TheFolds.{fold-roll-Expr}
use Rattle.php_ast.specs.declared.expression.Piece.{Piece}
use Rattle.php_ast.specs.declared.expression.Piece.TheVariants as piece
use Rattle.php_ast.specs.declared.expression.Suffix.{Suffix}
use Rattle.php_ast.specs.declared.expression.Suffix.TheVariants as suffix
use Rattle.php_ast.specs.declared.expression.Named.{Named}
use Rattle.php_ast.specs.declared.expression.Named.TheVariants as arrow
use Rattle.php_ast.specs.declared.expression.Link.{Link}
use Rattle.php_ast.specs.declared.expression.Link.TheVariants as link
use Rattle.php_ast.specs.expression.Tree.{Tree, template, Pieces, no_piece, bytes, value}
use Rattle.php_ast.specs.expression.View.{Note, spot_view, view, view_step, property_of, with_suffix, with_suffixes, with_link, with_links, pieces_from}
use Rattle.php_ast.specs.expression.Parts.{piece_with, suffix_with, link_with}
use Rattle.php_ast.proofs.Views.{map_same, view_chain, view_run}
use Rattle.php_legality.specs.Places.{first_note}
use Rattle.php_memdef.specs.Deciders.{is_short}
use Rattle.php_meaning.specs.Forms.{variable_name}
use Rattle.php_told.specs.First.{are_short, is_told_operator, first_in, first_in_pieces}
use Rattle.php_told.specs.Parts.{first_of, is_short_piece, first_in_piece, is_told_link, first_in_link}

-- ---- what may be none

pub or_none : (o : Option Note) → option_or o None ≡ o
or_none None = refl
or_none (Some x) = refl

pub or_assoc : (a b c : Option Note) → option_or (option_or a b) c ≡ option_or a (option_or b c)
or_assoc None b c = refl
or_assoc (Some x) b c = refl

-- ---- an empty list

pub empty_chain : (e : Expr) (suffixes : List (Suffix Expr)) → true ≡ (length suffixes == 0) → view e ≡ view (Chain e suffixes)
empty_chain e [] plain = sym (view_chain e [])
empty_chain e (x ∷ xs) plain = absurd (grind (arith, common_steps))

pub empty_run : (e : Expr) (links : List (Link Expr)) → true ≡ (length links == 0) → view e ≡ view (Run e links)
empty_run e [] plain = sym (view_run e [])
empty_run e (x ∷ xs) plain = absurd (grind (arith, common_steps))

-- ---- two functions that are the same at each node with something behind an operand

at_suffixes : {A : Type 0} (F G : Tree Note → A) → ((e : Tree Note) (x : Suffix (Tree Note)) → F (with_suffix e x) ≡ G (with_suffix e x)) →
    (e : Tree Note) (x : Suffix (Tree Note)) (xs : List (Suffix (Tree Note))) → F (with_suffixes (with_suffix e x) xs) ≡ G (with_suffixes (with_suffix e x) xs)
at_suffixes F G same e x [] = same e x
at_suffixes F G same e x (y ∷ ys) = at_suffixes F G same (with_suffix e x) y ys

at_links : {A : Type 0} (F G : Tree Note → A) → ((e : Tree Note) (x : Link (Tree Note)) → F (with_link e x) ≡ G (with_link e x)) →
    (e : Tree Note) (x : Link (Tree Note)) (xs : List (Link (Tree Note))) → F (with_links (with_link e x) xs) ≡ G (with_links (with_link e x) xs)
at_links F G same e x [] = same e x
at_links F G same e x (y ∷ ys) = at_links F G same (with_link e x) y ys

at_chain : {A : Type 0} (F G : Tree Note → A) → ((e : Tree Note) (x : Suffix (Tree Note)) → F (with_suffix e x) ≡ G (with_suffix e x)) →
    (e : Expr) (suffixes : List (Suffix Expr)) → false ≡ (length suffixes == 0) → F (view (Chain e suffixes)) ≡ G (view (Chain e suffixes))
at_chain F G same e [] some = absurd cc
at_chain F G same e (x ∷ xs) some =
    ap F (view_chain e (x ∷ xs)) ∙ at_suffixes F G same (view e) (suffix_with view x) (map (suffix_with view) xs) ∙ ap G (sym (view_chain e (x ∷ xs)))

at_run : {A : Type 0} (F G : Tree Note → A) → ((e : Tree Note) (x : Link (Tree Note)) → F (with_link e x) ≡ G (with_link e x)) →
    (e : Expr) (links : List (Link Expr)) → false ≡ (length links == 0) → F (view (Run e links)) ≡ G (view (Run e links))
at_run F G same e [] some = absurd cc
at_run F G same e (x ∷ xs) some =
    ap F (view_run e (x ∷ xs)) ∙ at_links F G same (view e) (link_with view x) (map (link_with view) xs) ∙ ap G (sym (view_run e (x ∷ xs)))

-- ---- an operand with suffixes is no variable, and isn't told

named_property : (e : Tree Note) (n : Named (Tree Note)) → is_some (variable_name (property_of e n)) ≡ false
named_property e (arrow.Word w) = refl
named_property e (arrow.Variable n) = refl
named_property e (arrow.Computed k) = refl

named_suffix : (e : Tree Note) (x : Suffix (Tree Note)) → is_some (variable_name (with_suffix e x)) ≡ false
named_suffix e suffix.Append = refl
named_suffix e (suffix.Index k) = refl
named_suffix e (suffix.Property n) = named_property e n
named_suffix e (suffix.Member m) = refl
named_suffix e (suffix.Call arguments) = refl

pub named_chain : (e : Expr) (suffixes : List (Suffix Expr)) → false ≡ (length suffixes == 0) → false ≡ is_some (variable_name (view (Chain e suffixes)))
named_chain e suffixes some = sym (at_chain (λ t. is_some (variable_name t)) (λ t. false) named_suffix e suffixes some)

named_link : (e : Tree Note) (x : Link (Tree Note)) → is_some (variable_name (with_link e x)) ≡ false
named_link e (link.Operator op r) = refl
named_link e (link.Choice a b) = refl
named_link e (link.ShortChoice b) = refl

pub named_run : (e : Expr) (links : List (Link Expr)) → false ≡ (length links == 0) → false ≡ is_some (variable_name (view (Run e links)))
named_run e links some = sym (at_run (λ t. is_some (variable_name t)) (λ t. false) named_link e links some)

property_first : (e : Tree Note) (n : Named (Tree Note)) → first_in (property_of e n) ≡ Some (first_note (property_of e n))
property_first e (arrow.Word w) = refl
property_first e (arrow.Variable n) = refl
property_first e (arrow.Computed k) = refl

suffix_first : (e : Tree Note) (x : Suffix (Tree Note)) → first_in (with_suffix e x) ≡ Some (first_note (with_suffix e x))
suffix_first e suffix.Append = refl
suffix_first e (suffix.Index k) = refl
suffix_first e (suffix.Property n) = property_first e n
suffix_first e (suffix.Member m) = refl
suffix_first e (suffix.Call arguments) = refl

pub chain_first : (e : Expr) (suffixes : List (Suffix Expr)) → false ≡ (length suffixes == 0) → Some (first_note (view (Chain e suffixes))) ≡ first_in (view (Chain e suffixes))
chain_first e suffixes some = sym (at_chain (λ t. first_in t) (λ t. Some (first_note t)) suffix_first e suffixes some)

-- ---- runs

-- an operator that is told or not, and those behind it
one_more : (t ts : Bool) (a b c : Option Note) (at : Note) → cond ts (option_or (cond t (option_or a b) (Some at)) c) (Some at) ≡ cond (t && ts) (option_or a (option_or b c)) (Some at)
one_more true true a b c at = or_assoc a b c
one_more true false a b c at = refl
one_more false true a b c at = refl
one_more false false a b c at = refl

choice_more : (ts : Bool) (c : Option Note) (at : Note) → cond ts (option_or (Some at) c) (Some at) ≡ Some at
choice_more true c at = refl
choice_more false c at = refl

pub links_first : (e : Tree Note) (xs : List (Link (Tree Note)))
    → first_in (with_links e xs) ≡ cond (list_all is_told_link xs) (option_or (first_in e) (first_of first_in_link xs)) (Some (first_note e))
links_first e [] = sym (or_none (first_in e))
links_first e (link.Operator op r ∷ xs) =
    links_first (with_link e (link.Operator op r)) xs ∙ one_more (is_told_operator op) (list_all is_told_link xs) (first_in e) (first_in r) (first_of first_in_link xs) (first_note e)
links_first e (link.Choice a b ∷ xs) = links_first (with_link e (link.Choice a b)) xs ∙ choice_more (list_all is_told_link xs) (first_of first_in_link xs) (first_note e)
links_first e (link.ShortChoice b ∷ xs) = links_first (with_link e (link.ShortChoice b)) xs ∙ choice_more (list_all is_told_link xs) (first_of first_in_link xs) (first_note e)

pub run_first : (e : Expr) (links : List (Link Expr)) → first_in (with_links (view e) (map (link_with view) links)) ≡ first_in (view (Run e links))
run_first e links = ap (λ t. first_in t) (sym (view_run e links))

-- ---- texts with parts

piece_same : (h : Piece Expr → Piece (Tree Note)) → ((text : List ℕ) → h (piece.Bytes text) ≡ piece.Bytes text) → ((e : Expr) → h (piece.Part e) ≡ piece.Part (view e))
    → (x : Piece Expr) → h x ≡ piece_with view x
piece_same h p q (piece.Bytes text) = p text
piece_same h p q (piece.Part e) = q e

view_template : (spot : Spot) (pieces : List (Piece Expr)) → view (Template spot pieces) ≡ template (spot_view spot) (pieces_from no_piece (map (piece_with view) pieces))
view_template spot pieces =
    ap view (sym (rolls-Template spot pieces)) ∙ fold-roll-Expr (Tree Note) view_step (Expr-F.Template spot pieces)
    ∙ ap (λ xs. template (spot_view spot) (pieces_from no_piece xs)) (map_same _ (piece_with view) (piece_same _ (λ text. refl) (λ e. refl)) pieces)

and_true : (b : Bool) → b && true ≡ b
and_true true = refl
and_true false = refl

and_assoc : (a b c : Bool) → (a && b) && c ≡ a && (b && c)
and_assoc true b c = refl
and_assoc false b c = refl

pieces_short : (before : Pieces Note) (xs : List (Piece (Tree Note))) → are_short (pieces_from before xs) ≡ are_short before && list_all is_short_piece xs
pieces_short before [] = sym (and_true (are_short before))
pieces_short before (piece.Bytes text ∷ xs) = pieces_short (bytes before text) xs ∙ and_assoc (are_short before) (is_short text) (list_all is_short_piece xs)
pieces_short before (piece.Part e ∷ xs) = pieces_short (value before e) xs

pieces_first : (before : Pieces Note) (xs : List (Piece (Tree Note))) → first_in_pieces (pieces_from before xs) ≡ option_or (first_in_pieces before) (first_of first_in_piece xs)
pieces_first before [] = sym (or_none (first_in_pieces before))
pieces_first before (piece.Bytes text ∷ xs) = pieces_first (bytes before text) xs
pieces_first before (piece.Part e ∷ xs) = pieces_first (value before e) xs ∙ or_assoc (first_in_pieces before) (first_in e) (first_of first_in_piece xs)

pub template_first : (spot : Spot) (pieces : List (Piece Expr)) → first_in (view (Template spot pieces))
    ≡ cond (list_all is_short_piece (map (piece_with view) pieces)) (first_of first_in_piece (map (piece_with view) pieces)) (Some (spot_view spot))
template_first spot pieces =
    ap (λ t. first_in t) (view_template spot pieces)
    ∙ ap (λ b. cond b (first_in_pieces (pieces_from no_piece (map (piece_with view) pieces))) (Some (spot_view spot))) (pieces_short no_piece (map (piece_with view) pieces))
    ∙ ap (λ o. cond (list_all is_short_piece (map (piece_with view) pieces)) o (Some (spot_view spot))) (pieces_first no_piece (map (piece_with view) pieces))
