-- What the loops of the walk that numbers variables keep.
use Rattle.std.proofs.Common.{◌≡◌, ◌≤◌, ◌<◌, ℕ, ◌+◌, List, [], ◌∷◌, map, take, length, get_or, refl, ◌∙◌}
use Rattle.php_ast.specs.declared.expression.Expr.{Expr}
use Rattle.php_ast.specs.declared.expression.Piece.{Piece}
use Rattle.php_ast.specs.declared.expression.Piece.TheVariants as piece
use Rattle.php_ast.specs.declared.expression.Link.{Link}
use Rattle.php_ast.specs.declared.expression.Link.TheVariants as link
use Rattle.php_ast.specs.declared.expression.Suffix.{Suffix}
use Rattle.php_ast.specs.declared.expression.Suffix.TheVariants as suffix
use Rattle.php_ast.specs.declared.expression.Named.TheVariants as arrow
use Rattle.php_ast.specs.declared.statement.Stmt.{Stmt}
use Rattle.php_ast.specs.declared.script.ScriptItem.{ScriptItem}
use Rattle.php_ast.specs.expression.Parts.{link_with, piece_with}
use Rattle.php_ast.specs.expression.Tree.{Tree, none, Pieces, no_piece}
use Rattle.php_ast.specs.expression.View.{Note, view, piece_more, pieces_from, values_from, with_link, with_links, with_suffixes, with_suffix}
use Rattle.php_ast.specs.statement.Tree.{empty, then_also, no_statement, and_statement}
use Rattle.php_ast.specs.statement.View.{statement_view, statements_from, sequence_from}
use Rattle.php_ast.specs.declaration.View.{item_view}
use Rattle.php_meaning.specs.Slots.{Names, names_of, names_of_pieces, names_of_items, names_of_statement, names_of_statements, names_of_item, names_of_script}
use Rattle.php_compile.specs.Parts.{piece_names, link_names}
use Rattle.php_compile.proofs.Lists.{pieces_end, links_end, with_value, values_end, statements_end, sequence_end, kept, whole}

-- ---- one part more

piece_named : (ns : Names) (ps : Pieces Note) (x : Piece (Tree Note)) → names_of_pieces ns (piece_more ps x) ≡ piece_names (names_of_pieces ns ps) x
piece_named ns ps (piece.Bytes t) = refl
piece_named ns ps (piece.Part e) = refl

link_named : (ns : Names) (e : Tree Note) (x : Link (Tree Note)) → names_of ns (with_link e x) ≡ link_names (names_of ns e) x
link_named ns e (link.Operator op r) = refl
link_named ns e (link.Choice a b) = refl
link_named ns e (link.ShortChoice b) = refl

-- suffixes have no names
suffix_named : (ns : Names) (e : Tree Note) (x : Suffix (Tree Note)) → names_of ns (with_suffix e x) ≡ names_of ns e
suffix_named ns e suffix.Append = refl
suffix_named ns e (suffix.Index k) = refl
suffix_named ns e (suffix.Property (arrow.Word w)) = refl
suffix_named ns e (suffix.Property (arrow.Variable n)) = refl
suffix_named ns e (suffix.Property (arrow.Computed k)) = refl
suffix_named ns e (suffix.Member m) = refl
suffix_named ns e (suffix.Call is) = refl

pub suffixes_named : (ns : Names) (e : Tree Note) (xs : List (Suffix (Tree Note))) → names_of ns (with_suffixes e xs) ≡ names_of ns e
suffixes_named ns e [] = refl
suffixes_named ns e (x ∷ xs) = suffixes_named ns (with_suffix e x) xs ∙ suffix_named ns e x

-- ---- loops

pub pieces_kept : (ns old new : Names) (xs : List (Piece Expr)) (i : ℕ) (x : Piece Expr) → i < length xs → x ≡ get_or xs i x
    → old ≡ names_of_pieces ns (pieces_from no_piece (map (piece_with view) (take i xs))) → new ≡ piece_names old (piece_with view x)
    → new ≡ names_of_pieces ns (pieces_from no_piece (map (piece_with view) (take (i + 1) xs)))
pieces_kept = kept pieces_from piece_more pieces_end names_of_pieces piece_names piece_named (piece_with view) no_piece

pub pieces_whole : (ns now : Names) (xs : List (Piece Expr)) (i : ℕ) → length xs ≤ i
    → now ≡ names_of_pieces ns (pieces_from no_piece (map (piece_with view) (take i xs))) → now ≡ names_of_pieces ns (pieces_from no_piece (map (piece_with view) xs))
pieces_whole = whole pieces_from piece_more pieces_end names_of_pieces piece_names piece_named (piece_with view) no_piece

pub links_kept : (e : Tree Note) (ns old new : Names) (xs : List (Link Expr)) (i : ℕ) (x : Link Expr) → i < length xs → x ≡ get_or xs i x
    → old ≡ names_of ns (with_links e (map (link_with view) (take i xs))) → new ≡ link_names old (link_with view x)
    → new ≡ names_of ns (with_links e (map (link_with view) (take (i + 1) xs)))
links_kept = kept with_links with_link links_end names_of link_names link_named (link_with view)

pub links_whole : (e : Tree Note) (ns now : Names) (xs : List (Link Expr)) (i : ℕ) → length xs ≤ i
    → now ≡ names_of ns (with_links e (map (link_with view) (take i xs))) → now ≡ names_of ns (with_links e (map (link_with view) xs))
links_whole = whole with_links with_link links_end names_of link_names link_named (link_with view)

pub values_kept : (ns old new : Names) (xs : List Expr) (i : ℕ) (x : Expr) → i < length xs → x ≡ get_or xs i x
    → old ≡ names_of_items ns (values_from none (map view (take i xs))) → new ≡ names_of old (view x)
    → new ≡ names_of_items ns (values_from none (map view (take (i + 1) xs)))
values_kept = kept values_from with_value values_end names_of_items names_of (λ ns is e. refl) view none

pub values_whole : (ns now : Names) (xs : List Expr) (i : ℕ) → length xs ≤ i
    → now ≡ names_of_items ns (values_from none (map view (take i xs))) → now ≡ names_of_items ns (values_from none (map view xs))
values_whole = whole values_from with_value values_end names_of_items names_of (λ ns is e. refl) view none

pub statements_kept : (ns old new : Names) (xs : List Stmt) (i : ℕ) (x : Stmt) → i < length xs → x ≡ get_or xs i x
    → old ≡ names_of_statements ns (statements_from no_statement (map statement_view (take i xs))) → new ≡ names_of_statement old (statement_view x)
    → new ≡ names_of_statements ns (statements_from no_statement (map statement_view (take (i + 1) xs)))
statements_kept = kept statements_from and_statement statements_end names_of_statements names_of_statement (λ ns ss s. refl) statement_view no_statement

pub statements_whole : (ns now : Names) (xs : List Stmt) (i : ℕ) → length xs ≤ i
    → now ≡ names_of_statements ns (statements_from no_statement (map statement_view (take i xs))) → now ≡ names_of_statements ns (statements_from no_statement (map statement_view xs))
statements_whole = whole statements_from and_statement statements_end names_of_statements names_of_statement (λ ns ss s. refl) statement_view no_statement

pub items_kept : (ns old new : Names) (xs : List ScriptItem) (i : ℕ) (x : ScriptItem) → i < length xs → x ≡ get_or xs i x
    → old ≡ names_of_script ns (sequence_from empty (map item_view (take i xs))) → new ≡ names_of_item old (item_view x)
    → new ≡ names_of_script ns (sequence_from empty (map item_view (take (i + 1) xs)))
items_kept = kept sequence_from then_also sequence_end names_of_script names_of_item (λ ns is i. refl) item_view empty

pub items_whole : (ns now : Names) (xs : List ScriptItem) (i : ℕ) → length xs ≤ i
    → now ≡ names_of_script ns (sequence_from empty (map item_view (take i xs))) → now ≡ names_of_script ns (sequence_from empty (map item_view xs))
items_whole = whole sequence_from then_also sequence_end names_of_script names_of_item (λ ns is i. refl) item_view empty
