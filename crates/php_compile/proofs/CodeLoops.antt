-- What the loops of the walk that emits keep.
use Rattle.std.proofs.Common.{◌≡◌, ◌≤◌, ◌<◌, ℕ, ◌+◌, List, [], ◌∷◌, ◌++◌, map, take, length, get_or, refl, sym, ◌∙◌, ap, append-nil, append_assoc}
use Rattle.std.proofs.lemmas.List.{take_all}
use Rattle.php_ast.specs.declared.expression.Expr.{Expr}
use Rattle.php_ast.specs.declared.expression.Piece.{Piece}
use Rattle.php_ast.specs.declared.expression.Piece.TheVariants as piece
use Rattle.php_ast.specs.declared.expression.Link.{Link}
use Rattle.php_ast.specs.declared.expression.Link.TheVariants as link
use Rattle.php_ast.specs.declared.expression.Suffix.{Suffix}
use Rattle.php_ast.specs.declared.expression.Suffix.TheVariants as suffix
use Rattle.php_ast.specs.declared.expression.Named.TheVariants as arrow
use Rattle.php_ast.specs.declared.statement.Stmt.{Stmt}
use Rattle.php_ast.specs.declared.script.ScriptItem.{ScriptItem}
use Rattle.php_ast.specs.expression.Parts.{link_with, piece_with}
use Rattle.php_ast.specs.expression.Tree.{Tree, Items, none, Pieces, no_piece}
use Rattle.php_ast.specs.expression.View.{Note, view, piece_more, pieces_from, values_from, with_link, with_links, with_suffixes, with_suffix}
use Rattle.php_ast.specs.statement.Tree.{empty, then_also, Statements, no_statement, and_statement}
use Rattle.php_ast.specs.statement.View.{statement_view, statements_from, sequence_from}
use Rattle.php_ast.specs.declaration.Tree.{Script}
use Rattle.php_ast.specs.declaration.View.{item_view}
use Rattle.php_code.specs.declared.instr.Instr.{Instr}
use Rattle.php_meaning.specs.Slots.{Names}
use Rattle.php_meaning.specs.Heights.{piece_count, peak_of, peak_of_pieces, peak_of_items, peak_of_statement, peak_of_statements, peak_of_item, peak_of_script}
use Rattle.php_compile.specs.ExpressionCode.{expr_code, pieces_code, echo_code}
use Rattle.php_compile.specs.StatementCode.{statement_code, statements_code, item_code, items_code}
use Rattle.php_compile.specs.Parts.{piece_code, piece_peak, link_code, link_peak, value_code}
use Rattle.php_compile.proofs.Lists.{one_more, pieces_end, links_end, with_value, values_end, statements_end, sequence_end, kept, whole}

-- ---- one part more

piece_coded : (ns : Names) (ps : Pieces Note) (x : Piece (Tree Note)) → pieces_code ns (piece_more ps x) ≡ pieces_code ns ps ++ piece_code ns x
piece_coded ns ps (piece.Bytes t) = refl
piece_coded ns ps (piece.Part e) = refl

piece_peaked : (ns : Names) (n m : ℕ) (ps : Pieces Note) (x : Piece (Tree Note)) → peak_of_pieces ns n m (piece_more ps x) ≡ piece_peak ns (n + piece_count ps) (peak_of_pieces ns n m ps) x
piece_peaked ns n m ps (piece.Bytes t) = refl
piece_peaked ns n m ps (piece.Part e) = refl

piece_counted : (c : ℕ) (ps : Pieces Note) (x : Piece (Tree Note)) → piece_count (piece_more ps x) ≡ piece_count ps + 1
piece_counted c ps (piece.Bytes t) = refl
piece_counted c ps (piece.Part e) = refl

link_coded : (ns : Names) (e : Tree Note) (x : Link (Tree Note)) → expr_code ns (with_link e x) ≡ expr_code ns e ++ link_code ns x
link_coded ns e (link.Operator op r) = refl
link_coded ns e (link.Choice a b) = sym (append-nil (expr_code ns e))
link_coded ns e (link.ShortChoice b) = sym (append-nil (expr_code ns e))

link_peaked : (ns : Names) (n m : ℕ) (e : Tree Note) (x : Link (Tree Note)) → peak_of ns n m (with_link e x) ≡ link_peak ns n (peak_of ns n m e) x
link_peaked ns n m e (link.Operator op r) = refl
link_peaked ns n m e (link.Choice a b) = refl
link_peaked ns n m e (link.ShortChoice b) = refl

-- suffixes have no code
suffix_coded : (ns : Names) (e : Tree Note) (x : Suffix (Tree Note)) → expr_code ns (with_suffix e x) ≡ expr_code ns e
suffix_coded ns e suffix.Append = refl
suffix_coded ns e (suffix.Index k) = refl
suffix_coded ns e (suffix.Property (arrow.Word w)) = refl
suffix_coded ns e (suffix.Property (arrow.Variable n)) = refl
suffix_coded ns e (suffix.Property (arrow.Computed k)) = refl
suffix_coded ns e (suffix.Member m) = refl
suffix_coded ns e (suffix.Call is) = refl

suffix_peaked : (ns : Names) (n m : ℕ) (e : Tree Note) (x : Suffix (Tree Note)) → peak_of ns n m (with_suffix e x) ≡ peak_of ns n m e
suffix_peaked ns n m e suffix.Append = refl
suffix_peaked ns n m e (suffix.Index k) = refl
suffix_peaked ns n m e (suffix.Property (arrow.Word w)) = refl
suffix_peaked ns n m e (suffix.Property (arrow.Variable v)) = refl
suffix_peaked ns n m e (suffix.Property (arrow.Computed k)) = refl
suffix_peaked ns n m e (suffix.Member x) = refl
suffix_peaked ns n m e (suffix.Call is) = refl

pub suffixes_coded : (ns : Names) (e : Tree Note) (xs : List (Suffix (Tree Note))) → expr_code ns (with_suffixes e xs) ≡ expr_code ns e
suffixes_coded ns e [] = refl
suffixes_coded ns e (x ∷ xs) = suffixes_coded ns (with_suffix e x) xs ∙ suffix_coded ns e x

pub suffixes_peaked : (ns : Names) (n m : ℕ) (e : Tree Note) (xs : List (Suffix (Tree Note))) → peak_of ns n m (with_suffixes e xs) ≡ peak_of ns n m e
suffixes_peaked ns n m e [] = refl
suffixes_peaked ns n m e (x ∷ xs) = suffixes_peaked ns n m (with_suffix e x) xs ∙ suffix_peaked ns n m e x

-- ---- loops

-- code that is put behind other code, part by part
module _ {A B T : Type 0} (from : T → List B → T) (more : T → B → T) (at_end : (t : T) (xs : List B) (x : B) → from t (xs ++ x ∷ []) ≡ more (from t xs) x)
    (coded : T → List Instr) (each : B → List Instr) (grows : (t : T) (x : B) → coded (more t x) ≡ coded t ++ each x) (g : A → B) where
  grows_behind : (c : List Instr) (t : T) (x : B) → c ++ coded (more t x) ≡ (c ++ coded t) ++ each x
  grows_behind c t x = ap (λ d. c ++ d) (grows t x) ∙ sym (append_assoc c (coded t) (each x))

  code_kept : (start : T) (c old new : List Instr) (xs : List A) (i : ℕ) (x : A) → i < length xs → x ≡ get_or xs i x
      → old ≡ c ++ coded (from start (map g (take i xs))) → new ≡ old ++ each (g x) → new ≡ c ++ coded (from start (map g (take (i + 1) xs)))
  code_kept start c old new xs i x within is before one =
      kept from more at_end (λ c t. c ++ coded t) (λ c x. c ++ each x) grows_behind g start c old new xs i x within is before one

  code_whole : (start : T) (c now : List Instr) (xs : List A) (i : ℕ) → length xs ≤ i
      → now ≡ c ++ coded (from start (map g (take i xs))) → now ≡ c ++ coded (from start (map g xs))
  code_whole start c now xs i over before = whole from more at_end (λ c t. c ++ coded t) (λ c x. c ++ each x) grows_behind g start c now xs i over before

abbrev pub pieces_to : ℕ → List (Piece Expr) → Pieces Note
pieces_to i xs = pieces_from no_piece (map (piece_with view) (take i xs))

pub pieces_code_kept : (ns : Names) (c old new : List Instr) (xs : List (Piece Expr)) (i : ℕ) (x : Piece Expr) → i < length xs → x ≡ get_or xs i x
    → old ≡ c ++ pieces_code ns (pieces_to i xs) → new ≡ old ++ piece_code ns (piece_with view x) → new ≡ c ++ pieces_code ns (pieces_to (i + 1) xs)
pieces_code_kept ns = code_kept pieces_from piece_more pieces_end (pieces_code ns) (piece_code ns) (piece_coded ns) (piece_with view) no_piece

pub pieces_code_whole : (ns : Names) (c now : List Instr) (xs : List (Piece Expr)) (i : ℕ) → length xs ≤ i
    → now ≡ c ++ pieces_code ns (pieces_to i xs) → now ≡ c ++ pieces_code ns (pieces_from no_piece (map (piece_with view) xs))
pieces_code_whole ns = code_whole pieces_from piece_more pieces_end (pieces_code ns) (piece_code ns) (piece_coded ns) (piece_with view) no_piece

pieces_next : (xs : List (Piece Expr)) (i : ℕ) (x : Piece Expr) → i < length xs → x ≡ get_or xs i x → pieces_to (i + 1) xs ≡ piece_more (pieces_to i xs) (piece_with view x)
pieces_next = one_more pieces_from piece_more pieces_end (piece_with view) no_piece

pub pieces_peak_kept : (ns : Names) (n m old new count over : ℕ) (xs : List (Piece Expr)) (i : ℕ) (x : Piece Expr) → i < length xs → x ≡ get_or xs i x
    → old ≡ peak_of_pieces ns n m (pieces_to i xs) → count ≡ piece_count (pieces_to i xs) → over ≡ n + count → new ≡ piece_peak ns over old (piece_with view x)
    → new ≡ peak_of_pieces ns n m (pieces_to (i + 1) xs)
pieces_peak_kept ns n m old new count over xs i x within is before counted above one =
    let g = piece_with view x in
    one ∙ ap (λ k. piece_peak ns k old g) (above ∙ ap (λ k. n + k) counted) ∙ ap (λ k. piece_peak ns (n + piece_count (pieces_to i xs)) k g) before
    ∙ sym (piece_peaked ns n m (pieces_to i xs) g) ∙ ap (peak_of_pieces ns n m) (sym (pieces_next xs i x within is))

pub pieces_peak_whole : (ns : Names) (n m now : ℕ) (xs : List (Piece Expr)) (i : ℕ) → length xs ≤ i
    → now ≡ peak_of_pieces ns n m (pieces_to i xs) → now ≡ peak_of_pieces ns n m (pieces_from no_piece (map (piece_with view) xs))
pieces_peak_whole ns n m now xs i over before = before ∙ ap (λ ys. peak_of_pieces ns n m (pieces_from no_piece (map (piece_with view) ys))) (take_all i xs over)

pub pieces_count_kept : (old new : ℕ) (xs : List (Piece Expr)) (i : ℕ) (x : Piece Expr) → i < length xs → x ≡ get_or xs i x
    → old ≡ piece_count (pieces_to i xs) → new ≡ old + 1 → new ≡ piece_count (pieces_to (i + 1) xs)
pieces_count_kept old new xs i x within is before one =
    kept pieces_from piece_more pieces_end (λ v t. piece_count t) (λ v x. v + 1) piece_counted (piece_with view) no_piece 0 old new xs i x within is before one

pub pieces_count_whole : (now : ℕ) (xs : List (Piece Expr)) (i : ℕ) → length xs ≤ i
    → now ≡ piece_count (pieces_to i xs) → now ≡ piece_count (pieces_from no_piece (map (piece_with view) xs))
pieces_count_whole now xs i over before = whole pieces_from piece_more pieces_end (λ v t. piece_count t) (λ v x. v + 1) piece_counted (piece_with view) no_piece 0 now xs i over before

abbrev pub links_to : Tree Note → ℕ → List (Link Expr) → Tree Note
links_to e i xs = with_links e (map (link_with view) (take i xs))

pub links_code_kept : (ns : Names) (e : Tree Note) (c old new : List Instr) (xs : List (Link Expr)) (i : ℕ) (x : Link Expr) → i < length xs → x ≡ get_or xs i x
    → old ≡ c ++ expr_code ns (links_to e i xs) → new ≡ old ++ link_code ns (link_with view x) → new ≡ c ++ expr_code ns (links_to e (i + 1) xs)
links_code_kept ns = code_kept with_links with_link links_end (expr_code ns) (link_code ns) (link_coded ns) (link_with view)

pub links_code_whole : (ns : Names) (e : Tree Note) (c now : List Instr) (xs : List (Link Expr)) (i : ℕ) → length xs ≤ i
    → now ≡ c ++ expr_code ns (links_to e i xs) → now ≡ c ++ expr_code ns (with_links e (map (link_with view) xs))
links_code_whole ns = code_whole with_links with_link links_end (expr_code ns) (link_code ns) (link_coded ns) (link_with view)

pub links_peak_kept : (ns : Names) (n : ℕ) (e : Tree Note) (m old new : ℕ) (xs : List (Link Expr)) (i : ℕ) (x : Link Expr) → i < length xs → x ≡ get_or xs i x
    → old ≡ peak_of ns n m (links_to e i xs) → new ≡ link_peak ns n old (link_with view x) → new ≡ peak_of ns n m (links_to e (i + 1) xs)
links_peak_kept ns n = kept with_links with_link links_end (peak_of ns n) (link_peak ns n) (link_peaked ns n) (link_with view)

pub links_peak_whole : (ns : Names) (n : ℕ) (e : Tree Note) (m now : ℕ) (xs : List (Link Expr)) (i : ℕ) → length xs ≤ i
    → now ≡ peak_of ns n m (links_to e i xs) → now ≡ peak_of ns n m (with_links e (map (link_with view) xs))
links_peak_whole ns n = whole with_links with_link links_end (peak_of ns n) (link_peak ns n) (link_peaked ns n) (link_with view)

abbrev pub values_to : ℕ → List Expr → Items Note
values_to i xs = values_from none (map view (take i xs))

pub values_code_kept : (ns : Names) (c old new : List Instr) (xs : List Expr) (i : ℕ) (x : Expr) → i < length xs → x ≡ get_or xs i x
    → old ≡ c ++ echo_code ns (values_to i xs) → new ≡ old ++ value_code ns (view x) → new ≡ c ++ echo_code ns (values_to (i + 1) xs)
values_code_kept ns = code_kept values_from with_value values_end (echo_code ns) (value_code ns) (λ is e. refl) view none

pub values_code_whole : (ns : Names) (c now : List Instr) (xs : List Expr) (i : ℕ) → length xs ≤ i
    → now ≡ c ++ echo_code ns (values_to i xs) → now ≡ c ++ echo_code ns (values_from none (map view xs))
values_code_whole ns = code_whole values_from with_value values_end (echo_code ns) (value_code ns) (λ is e. refl) view none

pub values_peak_kept : (ns : Names) (n : ℕ) (m old new : ℕ) (xs : List Expr) (i : ℕ) (x : Expr) → i < length xs → x ≡ get_or xs i x
    → old ≡ peak_of_items ns n m (values_to i xs) → new ≡ peak_of ns n old (view x) → new ≡ peak_of_items ns n m (values_to (i + 1) xs)
values_peak_kept ns n = kept values_from with_value values_end (peak_of_items ns n) (peak_of ns n) (λ m is e. refl) view none

pub values_peak_whole : (ns : Names) (n : ℕ) (m now : ℕ) (xs : List Expr) (i : ℕ) → length xs ≤ i
    → now ≡ peak_of_items ns n m (values_to i xs) → now ≡ peak_of_items ns n m (values_from none (map view xs))
values_peak_whole ns n = whole values_from with_value values_end (peak_of_items ns n) (peak_of ns n) (λ m is e. refl) view none

abbrev pub statements_to : ℕ → List Stmt → Statements Note
statements_to i xs = statements_from no_statement (map statement_view (take i xs))

pub statements_code_kept : (ns : Names) (d : ℕ) (c old new : List Instr) (xs : List Stmt) (i : ℕ) (x : Stmt) → i < length xs → x ≡ get_or xs i x
    → old ≡ c ++ statements_code ns d (statements_to i xs) → new ≡ old ++ statement_code ns d (statement_view x) → new ≡ c ++ statements_code ns d (statements_to (i + 1) xs)
statements_code_kept ns d = code_kept statements_from and_statement statements_end (statements_code ns d) (statement_code ns d) (λ ss s. refl) statement_view no_statement

pub statements_code_whole : (ns : Names) (d : ℕ) (c now : List Instr) (xs : List Stmt) (i : ℕ) → length xs ≤ i
    → now ≡ c ++ statements_code ns d (statements_to i xs) → now ≡ c ++ statements_code ns d (statements_from no_statement (map statement_view xs))
statements_code_whole ns d = code_whole statements_from and_statement statements_end (statements_code ns d) (statement_code ns d) (λ ss s. refl) statement_view no_statement

pub statements_peak_kept : (ns : Names) (n : ℕ) (m old new : ℕ) (xs : List Stmt) (i : ℕ) (x : Stmt) → i < length xs → x ≡ get_or xs i x
    → old ≡ peak_of_statements ns n m (statements_to i xs) → new ≡ peak_of_statement ns n old (statement_view x) → new ≡ peak_of_statements ns n m (statements_to (i + 1) xs)
statements_peak_kept ns n = kept statements_from and_statement statements_end (peak_of_statements ns n) (peak_of_statement ns n) (λ m ss s. refl) statement_view no_statement

pub statements_peak_whole : (ns : Names) (n : ℕ) (m now : ℕ) (xs : List Stmt) (i : ℕ) → length xs ≤ i
    → now ≡ peak_of_statements ns n m (statements_to i xs) → now ≡ peak_of_statements ns n m (statements_from no_statement (map statement_view xs))
statements_peak_whole ns n = whole statements_from and_statement statements_end (peak_of_statements ns n) (peak_of_statement ns n) (λ m ss s. refl) statement_view no_statement

abbrev pub items_to : ℕ → List ScriptItem → Script Note
items_to i xs = sequence_from empty (map item_view (take i xs))

pub items_code_kept : (ns : Names) (c old new : List Instr) (xs : List ScriptItem) (i : ℕ) (x : ScriptItem) → i < length xs → x ≡ get_or xs i x
    → old ≡ c ++ items_code ns (items_to i xs) → new ≡ old ++ item_code ns (item_view x) → new ≡ c ++ items_code ns (items_to (i + 1) xs)
items_code_kept ns = code_kept sequence_from then_also sequence_end (items_code ns) (item_code ns) (λ is i. refl) item_view empty

pub items_code_whole : (ns : Names) (c now : List Instr) (xs : List ScriptItem) (i : ℕ) → length xs ≤ i
    → now ≡ c ++ items_code ns (items_to i xs) → now ≡ c ++ items_code ns (sequence_from empty (map item_view xs))
items_code_whole ns = code_whole sequence_from then_also sequence_end (items_code ns) (item_code ns) (λ is i. refl) item_view empty

pub items_peak_kept : (ns : Names) (m old new : ℕ) (xs : List ScriptItem) (i : ℕ) (x : ScriptItem) → i < length xs → x ≡ get_or xs i x
    → old ≡ peak_of_script ns m (items_to i xs) → new ≡ peak_of_item ns old (item_view x) → new ≡ peak_of_script ns m (items_to (i + 1) xs)
items_peak_kept ns = kept sequence_from then_also sequence_end (peak_of_script ns) (peak_of_item ns) (λ m is i. refl) item_view empty

pub items_peak_whole : (ns : Names) (m now : ℕ) (xs : List ScriptItem) (i : ℕ) → length xs ≤ i
    → now ≡ peak_of_script ns m (items_to i xs) → now ≡ peak_of_script ns m (sequence_from empty (map item_view xs))
items_peak_whole ns = whole sequence_from then_also sequence_end (peak_of_script ns) (peak_of_item ns) (λ m is i. refl) item_view empty
