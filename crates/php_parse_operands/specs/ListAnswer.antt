-- What the functions of the parser answer that read lists, classes and texts with parts.
use Rattle.std.specs.Prelude.{◌≡◌, ◌≢◌, ◌≤◌, ◌<◌, ℕ, ◌+◌, Bool, true, false, Option, Some, None, Result, Ok, Err, List, [], ◌∷◌, map, length}
use Rattle.php_token.specs.Token.{Token}
use Rattle.php_reader.specs.declared.limit.TheConstants.{LEAST_POWER}
use Rattle.php_ast.specs.declared.expression.Expr.{Expr}
use Rattle.php_ast.specs.declared.expression.Argument.{Argument}
use Rattle.php_ast.specs.declared.expression.Item.{Item}
use Rattle.php_ast.specs.declared.expression.Class.{Class}
use Rattle.php_ast.specs.declared.operator.ArrayForm.{ArrayForm}
use Rattle.php_ast.specs.declared.operator.ArrayForm.TheVariants as array_form
use Rattle.php_ast.specs.expression.Tree as tree
use Rattle.php_ast.specs.expression.Tree.{Tree, array, is_set}
use Rattle.php_ast.specs.expression.Proper.{ends, is_none, top}
use Rattle.php_ast.specs.expression.View as shown
use Rattle.php_ast.specs.expression.View.{Note, view}
use Rattle.php_ast.specs.expression.Placed.{size, size_items, size_lead, size_class, size_steps, size_pieces, comma_size, noted, noted_items, noted_lead, noted_class, noted_steps, noted_pieces, notes_of}
use Rattle.php_grammar.specs.declared.closer.Closer.{Closer}
use Rattle.php_grammar.specs.declared.closer.Closer.TheVariants as ender
use Rattle.php_grammar.specs.expression.Role as role
use Rattle.php_grammar.specs.expression.Role.{closes, continuation, draws, draw_strength, ends_yield}
use Rattle.php_grammar.specs.expression.Laws.{head_continuation}
use Rattle.php_grammar.specs.expression.Machine.{Nothing, Form, Holder, of_list, is_arguments, is_plain, items_open, closed_with, OpenForms, State, holds, past_items, past_value, past_new, past_class, past_template, after}
use Rattle.php_reader.specs.declared.reader.Reader.{Reader}
use Rattle.php_reader.specs.declared.fail.Stop.{Stop}
use Rattle.php_reader.specs.declared.found.Listed.{Listed}
use Rattle.php_parse_operands.specs.declared.read.Element.{Element}
use Rattle.php_reader.specs.declared.found.Entry.{Entry}
use Rattle.php_reader.specs.declared.role.Due.{Due}
use Rattle.php_reader.specs.RoleView.{next_view, IsDue}
use Rattle.php_ast.specs.expression.Parts.{argument_with, class_with, item_with, piece_with, step_with}
use Rattle.php_build.specs.Flat.{are_flat, is_flat_piece, are_flat_pieces, is_flat_item, are_flat_items, is_flat_argument, are_flat_arguments, is_flat_step, are_flat_steps, is_flat_class}
use Rattle.php_ast.specs.declared.expression.ClassStep.{ClassStep}
use Rattle.php_ast.specs.declared.expression.Piece.{Piece}
use Rattle.php_parse_operands.specs.declared.classes.StepKind.{StepKind}
use Rattle.php_parse_operands.specs.declared.classes.StepKind.TheVariants as step_kind
use Rattle.php_reader.specs.Seen.{rest, Follows, Shows}
use Rattle.php_parse_operands.specs.Walk.{Leads, Rests}
use Rattle.php_parse_operands.specs.Answer.{Fails}

-- ---- lists, from behind their opening token

-- what ends the items of an array or a list
abbrev pub closer_in : ArrayForm → Closer
closer_in array_form.Brackets = ender.Bracket
closer_in _ = ender.Paren

-- the form of what was listed, up to the closing token before a place
pub record SpansItems (tokens : List Token) (xs : tree.Items Note) (items : tree.Items Nothing) (at next : ℕ) : Type 0 where
  pub shown : xs ≡ noted_items (notes_of tokens) at items
  pub sized : at + size_items items + 1 ≡ next

pub record FoundArguments (room : ℕ) (tokens : List Token) (at : ℕ) (r : Listed (Argument Expr)) : Type 0 where
  pub items : tree.Items Nothing
  pub spans : SpansItems tokens (shown.arguments_from tree.none (map (argument_with view) r.items)) items at r.next
  pub flat : are_flat_arguments r.items ≡ true
  pub reads : (h : Holder) → is_arguments h ≡ true → Leads room top (λ s. past_items h tree.none s) (rest tokens at) (λ s. after (closed_with h items) s) (rest tokens r.next)
  pub ahead : at < r.next
  pub within : r.next ≤ length tokens

abbrev pub AnswersArguments : Reader → ℕ → Result (Listed (Argument Expr)) Stop → Type 0
AnswersArguments reader at (Ok r) = FoundArguments reader.room reader.tokens.now at r
AnswersArguments reader at (Err e) = (h : Holder) → is_arguments h ≡ true → Fails reader.room top (λ s. past_items h tree.none s) (rest reader.tokens.now at) reader.tokens.now at e

pub record FoundItems (form : ArrayForm) (room : ℕ) (tokens : List Token) (at : ℕ) (r : Listed (Item Expr)) : Type 0 where
  pub items : tree.Items Nothing
  pub spans : SpansItems tokens (shown.items_from tree.none (map (item_with view) r.items)) items at r.next
  pub flat : are_flat_items r.items ≡ true
  pub reads : Leads room top (λ s. past_items (of_list (array form)) tree.none s) (rest tokens at) (λ s. holds (tree.listed tt (array form) items) s) (rest tokens r.next)
  pub ahead : at < r.next
  pub within : r.next ≤ length tokens

abbrev pub AnswersItems : ArrayForm → Reader → ℕ → Result (Listed (Item Expr)) Stop → Type 0
AnswersItems form reader at (Ok r) = FoundItems form reader.room reader.tokens.now at r
AnswersItems form reader at (Err e) = Fails reader.room top (λ s. past_items (of_list (array form)) tree.none s) (rest reader.tokens.now at) reader.tokens.now at e

pub record FoundValues (room : ℕ) (tokens : List Token) (at : ℕ) (r : Listed Expr) : Type 0 where
  pub items : tree.Items Nothing
  pub spans : SpansItems tokens (shown.values_from tree.none (map view r.items)) items at r.next
  pub flat : are_flat r.items ≡ true
  pub reads : Leads room top (λ s. past_items (of_list is_set) tree.none s) (rest tokens at) (λ s. holds (tree.listed tt is_set items) s) (rest tokens r.next)
  pub ahead : at < r.next
  pub within : r.next ≤ length tokens

abbrev pub AnswersValues : Reader → ℕ → Result (Listed Expr) Stop → Type 0
AnswersValues reader at (Ok r) = FoundValues reader.room reader.tokens.now at r
AnswersValues reader at (Err e) = Fails reader.room top (λ s. past_items (of_list is_set) tree.none s) (rest reader.tokens.now at) reader.tokens.now at e

-- an item of a list, before the comma or the closing token behind it
pub record FoundItem (array_of : ArrayForm) (room : ℕ) (tokens : List Token) (at : ℕ) (r : Element (Item Expr)) : Type 0 where
  pub lead : tree.Lead Nothing
  pub form : Form
  pub shown : (xs : tree.Items Note) → shown.item_more xs (item_with view r.item) ≡ tree.and xs (noted_lead (notes_of tokens) at lead) (noted (notes_of tokens) (at + size_lead lead) form)
  pub sized : at + size_lead lead + size form ≡ r.next
  pub flat : is_flat_item r.item ≡ true
  pub reads : (items : tree.Items Nothing) → Leads room top (λ s. past_items (of_list (array array_of)) items s) (rest tokens at) (λ s. holds form (items_open (of_list (array array_of)) items lead ∷ s)) (rest tokens r.next)
  pub rests : Rests LEAST_POWER (ends form) (rest tokens r.next)
  pub follows : Follows tokens r.next (next_view r.behind)
  pub no_key : is_plain lead ≡ true → head_continuation (rest tokens r.next) ≢ closes ender.DoubleArrow
  pub deep : 2 ≤ room
  pub ahead : at < r.next
  pub within : r.next ≤ length tokens

-- the value behind the `=>` of a key
pub record FoundKeyed (key : Tree Note) (room : ℕ) (tokens : List Token) (at : ℕ) (r : Element (Item Expr)) : Type 0 where
  pub lead : Form → tree.Lead Nothing
  pub form : Form
  pub lead_size : ℕ
  pub shown : (xs : tree.Items Note) (k : Form) (start : ℕ) → key ≡ noted (notes_of tokens) start k
      → shown.item_more xs (item_with view r.item) ≡ tree.and xs (noted_lead (notes_of tokens) start (lead k)) (noted (notes_of tokens) (at + lead_size) form)
  pub lead_sized : (k : Form) → size_lead (lead k) ≡ size k + 1 + lead_size
  pub keyed : (k : Form) → is_plain (lead k) ≡ false
  pub sized : at + lead_size + size form ≡ r.next
  pub flat : is_flat_item r.item ≡ true
  pub reads : (form_of : ArrayForm) (items : tree.Items Nothing) (k : Form) → Leads room top (λ s. past_value (of_list (array form_of)) items k s) (rest tokens at) (λ s. holds form (items_open (of_list (array form_of)) items (lead k) ∷ s)) (rest tokens r.next)
  pub rests : Rests LEAST_POWER (ends form) (rest tokens r.next)
  pub follows : Follows tokens r.next (next_view r.behind)
  pub ahead : at < r.next
  pub within : r.next ≤ length tokens

abbrev pub AnswersItem : ArrayForm → Reader → ℕ → Result (Element (Item Expr)) Stop → Type 0
AnswersItem form reader at (Ok r) = FoundItem form reader.room reader.tokens.now at r
AnswersItem form reader at (Err e) = (items : tree.Items Nothing) → Fails reader.room top (λ s. past_items (of_list (array form)) items s) (rest reader.tokens.now at) reader.tokens.now at e

abbrev pub AnswersKeyed : Tree Note → Reader → ℕ → Result (Element (Item Expr)) Stop → Type 0
AnswersKeyed key reader at (Ok r) = FoundKeyed key reader.room reader.tokens.now at r
AnswersKeyed key reader at (Err e) = (form : ArrayForm) (items : tree.Items Nothing) (k : Form) → Fails reader.room top (λ s. past_value (of_list (array form)) items k s) (rest reader.tokens.now at) reader.tokens.now at e

-- an argument, before the comma or the parenthesis behind it
pub record FoundArgument (room : ℕ) (tokens : List Token) (at : ℕ) (r : Element (Argument Expr)) : Type 0 where
  pub lead : tree.Lead Nothing
  pub form : Form
  pub shown : (xs : tree.Items Note) → shown.argument_more xs (argument_with view r.item) ≡ tree.and xs (noted_lead (notes_of tokens) at lead) (noted (notes_of tokens) (at + size_lead lead) form)
  pub sized : at + size_lead lead + size form ≡ r.next
  pub flat : is_flat_argument r.item ≡ true
  pub reads : (h : Holder) (items : tree.Items Nothing) → is_arguments h ≡ true → Leads room top (λ s. past_items h items s) (rest tokens at) (λ s. holds form (items_open h items lead ∷ s)) (rest tokens r.next)
  pub rests : Rests LEAST_POWER (ends form) (rest tokens r.next)
  pub follows : Follows tokens r.next (next_view r.behind)
  pub deep : 2 ≤ room
  pub ahead : at < r.next
  pub within : r.next ≤ length tokens

abbrev pub AnswersArgument : Reader → ℕ → Result (Element (Argument Expr)) Stop → Type 0
AnswersArgument reader at (Ok r) = FoundArgument reader.room reader.tokens.now at r
AnswersArgument reader at (Err e) = (h : Holder) (items : tree.Items Nothing) → is_arguments h ≡ true → Fails reader.room top (λ s. past_items h items s) (rest reader.tokens.now at) reader.tokens.now at e

-- ---- classes behind `new`

-- a step behind other steps
pub record FoundStep (room : ℕ) (tokens : List Token) (at : ℕ) (r : Entry (ClassStep Expr)) : Type 0 where
  pub more : tree.Steps Nothing → tree.Steps Nothing
  pub shown : (steps : tree.Steps Nothing) (start : ℕ) → start + size_steps steps ≡ at
      → shown.step_more (noted_steps (notes_of tokens) start steps) (step_with view r.item) ≡ noted_steps (notes_of tokens) start (more steps)
  pub sized : (steps : tree.Steps Nothing) → size_steps (more steps) + at ≡ size_steps steps + r.next
  pub flat : is_flat_step r.item ≡ true
  pub reads : (steps : tree.Steps Nothing) → Leads room top (λ s. past_class (tree.class_found steps) s) (rest tokens at) (λ s. past_class (tree.class_found (more steps)) s) (rest tokens r.next)
  pub ahead : at < r.next
  pub within : r.next ≤ length tokens

abbrev pub AnswersStep : Reader → ℕ → Result (Entry (ClassStep Expr)) Stop → Type 0
AnswersStep reader at (Ok r) = FoundStep reader.room reader.tokens.now at r
AnswersStep reader at (Err e) = (steps : tree.Steps Nothing) → Fails reader.room top (λ s. past_class (tree.class_found steps) s) (rest reader.tokens.now at) reader.tokens.now at e

abbrev pub is_found : tree.Class Nothing → Bool
is_found (tree.class_found steps) = true
is_found _ = false

-- from a state before the class
pub record FoundClass (from : OpenForms → State) (room : ℕ) (tokens : List Token) (at : ℕ) (r : Element (Class Expr)) : Type 0 where
  pub class : tree.Class Nothing
  pub shown : shown.class_view (class_with view r.item) ≡ noted_class (notes_of tokens) at class
  pub sized : at + size_class class ≡ r.next
  pub flat : is_flat_class r.item ≡ true
  pub reads : Leads room top from (rest tokens at) (λ s. past_class class s) (rest tokens r.next)
  pub no_index : is_found class ≡ true → head_continuation (rest tokens r.next) ≢ draws role.by_index
  pub no_arrow : is_found class ≡ true → head_continuation (rest tokens r.next) ≢ draws (role.by_select tree.thin)
  pub follows : Follows tokens r.next (next_view r.behind)
  pub ahead : at < r.next
  pub within : r.next ≤ length tokens

abbrev pub AnswersClass : Reader → ℕ → Result (Element (Class Expr)) Stop → Type 0
AnswersClass reader at (Ok r) = FoundClass (λ s. past_new s) reader.room reader.tokens.now at r
AnswersClass reader at (Err e) = Fails reader.room top (λ s. past_new s) (rest reader.tokens.now at) reader.tokens.now at e

-- ---- texts with parts

pub record FoundPart (room : ℕ) (tokens : List Token) (at : ℕ) (r : Entry (Piece Expr)) : Type 0 where
  pub form : Form
  pub shown : (pieces : tree.Pieces Note) → shown.piece_more pieces (piece_with view r.item) ≡ tree.value pieces (noted (notes_of tokens) (at + 1) form)
  pub sized : at + size form + 2 ≡ r.next
  pub flat : is_flat_piece r.item ≡ true
  pub reads : (pieces : tree.Pieces Nothing) → Leads room top (λ s. past_template pieces s) (rest tokens at) (λ s. past_template (tree.value pieces form) s) (rest tokens r.next)
  pub ahead : at < r.next
  pub within : r.next ≤ length tokens

abbrev pub AnswersPart : Reader → ℕ → Result (Entry (Piece Expr)) Stop → Type 0
AnswersPart reader at (Ok r) = FoundPart reader.room reader.tokens.now at r
AnswersPart reader at (Err e) = (pieces : tree.Pieces Nothing) → Fails reader.room top (λ s. past_template pieces s) (rest reader.tokens.now at) reader.tokens.now at e

pub record FoundPieces (room : ℕ) (tokens : List Token) (at : ℕ) (r : Listed (Piece Expr)) : Type 0 where
  pub pieces : tree.Pieces Nothing
  pub shown : shown.pieces_from tree.no_piece (map (piece_with view) r.items) ≡ noted_pieces (notes_of tokens) at pieces
  pub sized : at + size_pieces pieces + 1 ≡ r.next
  pub flat : are_flat_pieces r.items ≡ true
  pub reads : Leads room top (λ s. past_template tree.no_piece s) (rest tokens at) (λ s. holds (tree.template tt pieces) s) (rest tokens r.next)
  pub ahead : at < r.next
  pub within : r.next ≤ length tokens

abbrev pub AnswersPieces : Reader → ℕ → Result (Listed (Piece Expr)) Stop → Type 0
AnswersPieces reader at (Ok r) = FoundPieces reader.room reader.tokens.now at r
AnswersPieces reader at (Err e) = Fails reader.room top (λ s. past_template tree.no_piece s) (rest reader.tokens.now at) reader.tokens.now at e

-- ---- what loops have read so far

pub record ArgumentsSoFar (room : ℕ) (tokens : List Token) (at : ℕ) (xs : List (Argument Expr)) (next : ℕ) (due : Due) : Type 0 where
  pub items : tree.Items Nothing
  pub shown : shown.arguments_from tree.none (map (argument_with view) xs) ≡ noted_items (notes_of tokens) at items
  pub sized : at + size_items items + comma_size items ≡ next
  pub flat : are_flat_arguments xs ≡ true
  pub reads : (h : Holder) → is_arguments h ≡ true → Leads room top (λ s. past_items h tree.none s) (rest tokens at) (λ s. past_items h items s) (rest tokens next)
  pub no_end : head_continuation (rest tokens next) ≢ closes ender.Paren
  pub seen : IsDue tokens next due
  pub within : next ≤ length tokens

pub record ValuesSoFar (room : ℕ) (tokens : List Token) (at : ℕ) (xs : List Expr) (next : ℕ) : Type 0 where
  pub items : tree.Items Nothing
  pub shown : shown.values_from tree.none (map view xs) ≡ noted_items (notes_of tokens) at items
  pub sized : at + size_items items + comma_size items ≡ next
  pub flat : are_flat xs ≡ true
  pub reads : Leads room top (λ s. past_items (of_list is_set) tree.none s) (rest tokens at) (λ s. past_items (of_list is_set) items s) (rest tokens next)
  pub within : next ≤ length tokens

abbrev pub no_items : {A : Type 0} → List A → Bool
no_items [] = true
no_items (x ∷ xs) = false

pub record ItemsSoFar (form : ArrayForm) (room : ℕ) (tokens : List Token) (at : ℕ) (xs : List (Item Expr)) (next : ℕ) : Type 0 where
  pub items : tree.Items Nothing
  pub shown : shown.items_from tree.none (map (item_with view) xs) ≡ noted_items (notes_of tokens) at items
  pub sized : at + size_items items + comma_size items ≡ next
  pub flat : are_flat_items xs ≡ true
  pub none_is : is_none items ≡ no_items xs
  pub reads : Leads room top (λ s. past_items (of_list (array form)) tree.none s) (rest tokens at) (λ s. past_items (of_list (array form)) items s) (rest tokens next)
  pub within : next ≤ length tokens

pub record PiecesSoFar (room : ℕ) (tokens : List Token) (at : ℕ) (xs : List (Piece Expr)) (next : ℕ) : Type 0 where
  pub pieces : tree.Pieces Nothing
  pub shown : shown.pieces_from tree.no_piece (map (piece_with view) xs) ≡ noted_pieces (notes_of tokens) at pieces
  pub sized : at + size_pieces pieces ≡ next
  pub flat : are_flat_pieces xs ≡ true
  pub reads : Leads room top (λ s. past_template tree.no_piece s) (rest tokens at) (λ s. past_template pieces s) (rest tokens next)
  pub within : next ≤ length tokens

pub record StepsSoFar (room : ℕ) (tokens : List Token) (at : ℕ) (text : List ℕ) (xs : List (ClassStep Expr)) (next : ℕ) : Type 0 where
  pub steps : tree.Steps Nothing
  pub shown : shown.steps_from (noted_steps (notes_of tokens) at (tree.from (tt {0}) text)) (map (step_with view) xs) ≡ noted_steps (notes_of tokens) at steps
  pub sized : at + size_steps steps ≡ next
  pub flat : are_flat_steps xs ≡ true
  pub reads : Leads room top (λ s. past_new s) (rest tokens at) (λ s. past_class (tree.class_found steps) s) (rest tokens next)
  pub ahead : at < next
  pub within : next ≤ length tokens

-- whether a step follows to the name of a class
abbrev pub SeesStep : List Token → ℕ → Option StepKind → Type 0
SeesStep tokens at None = (head_continuation (rest tokens at) ≢ draws role.by_index) × (head_continuation (rest tokens at) ≢ draws (role.by_select tree.thin))
SeesStep tokens at (Some step_kind.Property) = Shows continuation tokens at (draws (role.by_select tree.thin))
SeesStep tokens at (Some step_kind.Index) = Shows continuation tokens at (draws role.by_index)

-- whether arguments follow
abbrev pub SeesArguments : List Token → ℕ → Bool → Type 0
SeesArguments tokens at true = Shows continuation tokens at (draws role.by_call)
SeesArguments tokens at false = head_continuation (rest tokens at) ≢ draws role.by_call
