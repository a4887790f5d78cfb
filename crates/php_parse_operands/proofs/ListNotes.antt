-- Lists as they are noted, and their items so far.
use Rattle.std.proofs.Common.{◌≡◌, ◌≢◌, ◌≤◌, ℕ, ◌+◌, ◌-◌, true, false, List, [], ◌∷◌, ◌++◌, map, refl, sym, ◌∙◌, ap, arith}
use Rattle.php_token.specs.Token.{Token}
use Rattle.php_ast.specs.declared.expression.Expr.{Expr}
use Rattle.php_ast.specs.declared.expression.Argument.{Argument}
use Rattle.php_ast.specs.declared.expression.Item.{Item}
use Rattle.php_ast.specs.declared.expression.Item.TheVariants as item
use Rattle.php_ast.specs.declared.operator.ArrayForm.{ArrayForm}
use Rattle.php_ast.specs.declared.operator.ArrayForm.TheVariants as array_form
use Rattle.php_ast.specs.Symbol.{Symbol}
use Rattle.php_ast.specs.expression.Proper.{is_none, top}
use Rattle.php_ast.specs.expression.Tree.{Listing}
use Rattle.php_ast.specs.expression.Tree.{Tree, Items, none, and, skip, Lead, plain, listed, array}
use Rattle.php_ast.specs.expression.View.{Note, view, item_more, items_from, argument_more, arguments_from, values_from}
use Rattle.php_ast.specs.expression.Placed.{size_items, size_lead, comma_size, list_opening_size, noted, noted_items, noted_lead, notes_of}
use Rattle.php_grammar.specs.declared.closer.Closer.TheVariants as ender
use Rattle.php_grammar.specs.expression.Role.{Mark, refers, spreads, ends_item, begins, item_mark, mark_of, Continuation, closes, draws, neither, continuation, is_ampersand, is_paren, at_listed, beginning}
use Rattle.php_grammar.specs.expression.Machine.{Nothing, Form, of_list, is_plain, past_items, past_value, ended_items}
use Rattle.php_grammar.specs.expression.Laws.{head_continuation}
use Rattle.php_parse_operands.specs.Walk.{Leads}
use Rattle.php_ast.specs.expression.Parts.{argument_with, item_with}
use Rattle.php_parse_operands.specs.Answer.{Spans}
use Rattle.php_parse_operands.specs.ListAnswer.{AnswersKeyed, AnswersItem, SpansItems, closer_in, no_items}
use Rattle.std.proofs.Common.{Result, Ok, Err}
use Rattle.php_reader.specs.declared.reader.Reader.{Reader}
use Rattle.php_reader.specs.declared.fail.Stop.{Stop}
use Rattle.php_parse_operands.specs.declared.read.Element.{Element}
use Rattle.php_reader.specs.Seen.{rest}
use Rattle.php_parse_operands.proofs.Fails.{later}
use Rattle.php_build.proofs.Views.{argument_push, item_push, value_push}
use Rattle.php_parse_operands.proofs.Moves.{leads}
use Rattle.php_parse_operands.proofs.Listings.{Shut}

comma_more : (items : Items Nothing) (lead : Lead Nothing) (e : Form) → comma_size (and items lead e) ≡ 1
comma_more items lead e = refl

-- one more item, where the item begins behind its comma
pub noted_more : (tokens : List Token) (at place : ℕ) (items : Items Nothing) (lead : Lead Nothing) (e : Form) (xs : Items Note) → xs ≡ noted_items (notes_of tokens) at items → at + size_items items + comma_size items ≡ place
    → and xs (noted_lead (notes_of tokens) place lead) (noted (notes_of tokens) (place + size_lead lead) e) ≡ noted_items (notes_of tokens) at (and items lead e)
noted_more tokens at place items lead e xs is sized =
    ap (λ z. and z (noted_lead (notes_of tokens) place lead) (noted (notes_of tokens) (place + size_lead lead) e)) is
    ∙ ap (λ k. and (noted_items (notes_of tokens) at items) (noted_lead (notes_of tokens) k lead) (noted (notes_of tokens) (k + size_lead lead) e)) (sym sized)

pub arguments_more : (tokens : List Token) (at place : ℕ) (items : Items Nothing) (lead : Lead Nothing) (e : Form) (xs new : List (Argument Expr)) (x : Argument Expr) → new ≡ xs ++ x ∷ []
    → arguments_from none (map (argument_with view) xs) ≡ noted_items (notes_of tokens) at items → at + size_items items + comma_size items ≡ place
    → ((ys : Items Note) → argument_more ys (argument_with view x) ≡ and ys (noted_lead (notes_of tokens) place lead) (noted (notes_of tokens) (place + size_lead lead) e))
    → arguments_from none (map (argument_with view) new) ≡ noted_items (notes_of tokens) at (and items lead e)
arguments_more tokens at place items lead e xs new x grown is sized shown =
    argument_push none xs new x grown ∙ shown (arguments_from none (map (argument_with view) xs)) ∙ noted_more tokens at place items lead e (arguments_from none (map (argument_with view) xs)) is sized

pub items_more : (tokens : List Token) (at place : ℕ) (items : Items Nothing) (lead : Lead Nothing) (e : Form) (xs new : List (Item Expr)) (x : Item Expr) → new ≡ xs ++ x ∷ []
    → items_from none (map (item_with view) xs) ≡ noted_items (notes_of tokens) at items → at + size_items items + comma_size items ≡ place
    → ((ys : Items Note) → item_more ys (item_with view x) ≡ and ys (noted_lead (notes_of tokens) place lead) (noted (notes_of tokens) (place + size_lead lead) e))
    → items_from none (map (item_with view) new) ≡ noted_items (notes_of tokens) at (and items lead e)
items_more tokens at place items lead e xs new x grown is sized shown =
    item_push none xs new x grown ∙ shown (items_from none (map (item_with view) xs)) ∙ noted_more tokens at place items lead e (items_from none (map (item_with view) xs)) is sized

pub items_skip : (tokens : List Token) (at : ℕ) (items : Items Nothing) (xs new : List (Item Expr)) → new ≡ xs ++ item.Missing ∷ []
    → items_from none (map (item_with view) xs) ≡ noted_items (notes_of tokens) at items → items_from none (map (item_with view) new) ≡ noted_items (notes_of tokens) at (skip items)
items_skip tokens at items xs new grown is = item_push none xs new item.Missing grown ∙ ap skip is

pub values_more : (tokens : List Token) (at place : ℕ) (items : Items Nothing) (e : Form) (xs new : List Expr) (x : Expr) → new ≡ xs ++ x ∷ []
    → values_from none (map view xs) ≡ noted_items (notes_of tokens) at items → at + size_items items + comma_size items ≡ place → view x ≡ noted (notes_of tokens) place e
    → values_from none (map view new) ≡ noted_items (notes_of tokens) at (and items plain e)
values_more tokens at place items e xs new x grown is sized shown =
    value_push none xs new x grown
    ∙ ap (and (values_from none (map view xs)) plain) (shown ∙ ap (λ k. noted (notes_of tokens) k e) (omega arith))
    ∙ noted_more tokens at place items plain e (values_from none (map view xs)) is sized

pub grown_some : {A : Type 0} (xs new : List A) (x : A) → new ≡ xs ++ x ∷ [] → no_items new ≡ false
grown_some [] new x is = ap no_items is
grown_some (y ∷ ys) new x is = ap no_items is

-- the items where a list ends
pub ended_spans : (tokens : List Token) (at next : ℕ) (items : Items Nothing) (xs new : List (Item Expr)) → is_none items ≡ no_items xs
    → items_from none (map (item_with view) xs) ≡ noted_items (notes_of tokens) at items → at + size_items items + comma_size items ≡ next
    → (xs ≡ [] → new ≡ []) → ((xs ≡ [] → ⊥) → new ≡ xs ++ item.Missing ∷ [])
    → SpansItems tokens (items_from none (map (item_with view) new)) (ended_items items) at (next + 1)
ended_spans tokens at next none [] new is shown sized a b = record { shown = ap (λ l. items_from none (map (item_with view) l)) (a refl); sized = omega arith }
ended_spans tokens at next (and items lead e) [] new is shown sized a b = cc
ended_spans tokens at next (skip items) [] new is shown sized a b = cc
ended_spans tokens at next none (x ∷ xs) new is shown sized a b = cc
ended_spans tokens at next (and items lead e) (x ∷ xs) new is shown sized a b =
    record { shown = items_skip tokens at (and items lead e) (x ∷ xs) new (b (λ h. cc)) shown; sized = omega arith }
ended_spans tokens at next (skip items) (x ∷ xs) new is shown sized a b =
    record { shown = items_skip tokens at (skip items) (x ∷ xs) new (b (λ h. cc)) shown; sized = omega arith }

pub listed_spans : (tokens : List Token) (listing : Listing) (made : Tree Note) (spot : Note) (xs : Items Note) (items : Items Nothing) (at behind next : ℕ) → made ≡ listed spot listing xs → spot ≡ (notes_of tokens).token at
    → SpansItems tokens xs items behind next → behind ≡ at + list_opening_size listing → Spans tokens made (listed tt listing items) at next
listed_spans tokens listing made spot xs items at behind next is noted_is spans where_is = record {
  shown = is ∙ ap (λ n. listed n listing xs) noted_is ∙ ap (listed ((notes_of tokens).token at) listing) (spans.shown ∙ ap (λ k. noted_items (notes_of tokens) k items) where_is);
  sized = omega (arith, spans.sized);
}

pub word_size : (form : ArrayForm) → form ≢ array_form.Brackets → list_opening_size (array form) ≡ 2
word_size array_form.Brackets h = absurd (h refl)
word_size _ h = refl

-- an item with a key
pub item_keyed : (array_of : ArrayForm) (reader : Reader) (at place : ℕ) (k : Form) (key : Tree Note) (r : Result (Element (Item Expr)) Stop) → Spans reader.tokens.now key k at place → 1 ≤ reader.room - 1 → at ≤ place
    → ((items : Items Nothing) → Leads reader.room top (λ s. past_items (of_list (array array_of)) items s) (rest reader.tokens.now at) (λ s. past_value (of_list (array array_of)) items k s) (rest reader.tokens.now (place + 1)))
    → AnswersKeyed key reader (place + 1) r → AnswersItem array_of reader at r
item_keyed array_of reader at place k key (Ok r) spans deep ahead reads found = record {
  lead = found.lead k;
  form = found.form;
  shown = λ xs. found.shown xs k at spans.shown ∙ ap (λ n. and xs (noted_lead (notes_of reader.tokens.now) at (found.lead k)) (noted (notes_of reader.tokens.now) n found.form)) (omega (arith, found.lead_sized k, spans.sized));
  sized = omega (arith, found.sized, found.lead_sized k, spans.sized);
  flat = found.flat;
  reads = λ items. leads (λ s. past_value (of_list (array array_of)) items k s) (reads items) (found.reads array_of items k);
  rests = found.rests;
  follows = found.follows;
  no_key = λ a. let b = found.keyed k in cc;
  deep = omega arith;
  ahead = omega (arith, found.ahead);
  within = found.within;
}
item_keyed array_of reader at place k key (Err e) spans deep ahead reads fails =
    λ items. later reader.tokens.now at (place + 1) (λ s. past_value (of_list (array array_of)) items k s) e (omega arith) (reads items) (fails array_of items k)

pub shut_array : (form : ArrayForm) (lead : Lead Nothing) (v : List Symbol) → head_continuation v ≢ closes ender.Comma → head_continuation v ≢ closes (closer_in form) → (is_plain lead ≡ true → head_continuation v ≢ closes ender.DoubleArrow)
    → Shut (of_list (array form)) lead v
shut_array array_form.Brackets lead v a b d = record { no_comma = a; no_paren = λ h. cc; no_bracket = λ h. b; no_key = λ h. d }
shut_array array_form.Array lead v a b d = record { no_comma = a; no_paren = λ h. b; no_bracket = λ h. cc; no_key = λ h. d }
shut_array array_form.List lead v a b d = record { no_comma = a; no_paren = λ h. b; no_bracket = λ h. cc; no_key = λ h. d }
