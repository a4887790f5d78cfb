-- Which token each note of a tree is about.
--
-- What a tree notes of its tokens is fixed by its form and by the place of its first token: `noted` puts
-- right notes in the place of those that a tree has, counting tokens from the left. A tree is placed
-- where that changes nothing.
use Rattle.std.specs.Prelude.{◌≡◌, ℕ, ◌+◌, List, []}
use Rattle.php_token.specs.Token.{Token, token_at}
use Rattle.php_ast.specs.expression.Tree.{Enclosure, parentheses, Listing, array, Setting, by_value, by_reference, Member, named, reserved, held}
use Rattle.php_ast.specs.declared.operator.ArrayForm.TheVariants as form
use Rattle.php_ast.specs.expression.Tree.{Tree, leaf, template, enclosed, listed, exit, exit_empty, static_member, append, index, selected, computed, call, new, new_with, prefix, count, binary, instance_of, instance_of_static, choice, short_choice, assign, yield_nothing, yield_value, yield_pair}
use Rattle.php_ast.specs.expression.Tree.{Items, none, and, skip, Lead, plain, reference, spread, keyed, keyed_reference, Pieces, no_piece, bytes, value, Class, class_name, class_static, class_found, Steps, from, step_property, step_index}
use Rattle.php_ast.specs.expression.View.{Note}

-- ---- how many tokens there are

abbrev pub opening_size : Enclosure → ℕ
opening_size parentheses = 1
opening_size _ = 2

abbrev pub list_opening_size : Listing → ℕ
list_opening_size (array form.Brackets) = 1
list_opening_size _ = 2

abbrev pub setting_size : Setting → ℕ
setting_size (by_value op) = 1
setting_size by_reference = 2

abbrev pub comma_size : {S : Type 0} → Items S → ℕ
comma_size none = 0
comma_size _ = 1

abbrev mutual
  pub size : {S : Type 0} → Tree S → ℕ
  size (leaf spot l) = 1
  size (template spot pieces) = 2 + size_pieces pieces
  size (enclosed spot enclosure e) = opening_size enclosure + size e + 1
  size (listed spot listing items) = list_opening_size listing + size_items items + 1
  size (exit spot) = 1
  size (exit_empty spot) = 3
  size (static_member spot member) = 3
  size (append e) = size e + 2
  size (index e key) = size e + size key + 2
  size (selected e arrow member) = size e + 2
  size (computed e key) = size e + size key + 3
  size (call f items) = size f + size_items items + 2
  size (new spot class) = 1 + size_class class
  size (new_with spot class items) = 1 + size_class class + size_items items + 2
  size (prefix spot op e) = 1 + size e
  size (count e way) = size e + 1
  size (binary op l r) = size l + size r + 1
  size (instance_of l r) = size l + size r + 1
  size (instance_of_static l spot) = size l + 2
  size (choice c a b) = size c + size a + size b + 2
  size (short_choice c b) = size c + size b + 2
  size (assign setting l r) = size l + setting_size setting + size r
  size (yield_nothing spot) = 1
  size (yield_value spot v) = 1 + size v
  size (yield_pair spot k v) = size k + size v + 2

  pub size_items : {S : Type 0} → Items S → ℕ
  size_items none = 0
  size_items (and items lead e) = size_items items + comma_size items + size_lead lead + size e
  size_items (skip items) = size_items items + comma_size items

  pub size_lead : {S : Type 0} → Lead S → ℕ
  size_lead plain = 0
  size_lead reference = 1
  size_lead spread = 1
  size_lead (keyed k) = size k + 1
  size_lead (keyed_reference k) = size k + 2

  pub size_pieces : {S : Type 0} → Pieces S → ℕ
  size_pieces no_piece = 0
  size_pieces (bytes pieces text) = size_pieces pieces + 1
  size_pieces (value pieces e) = size_pieces pieces + size e + 2

  pub size_class : {S : Type 0} → Class S → ℕ
  size_class (class_name spot text) = 1
  size_class (class_static spot) = 1
  size_class (class_found steps) = size_steps steps

  pub size_steps : {S : Type 0} → Steps S → ℕ
  size_steps (from spot text) = 1
  size_steps (step_property steps member) = size_steps steps + 2
  size_steps (step_index steps e) = size_steps steps + size e + 2

-- ---- notes

-- What is noted of the token at a place, and of a keyword that stands there in place of a name.
pub record Notes (T : Type 0) : Type 0 where
  pub token : ℕ → T
  pub keyword : ℕ → T

abbrev pub noted_member : {S T : Type 0} → Notes T → ℕ → Member S → Member T
noted_member notes at (named spot text) = named (notes.token at) text
noted_member notes at (reserved spot word) = reserved (notes.keyword at) word
noted_member notes at (held spot text) = held (notes.token at) text

-- a tree whose first token is at a place, with these notes
abbrev mutual
  pub noted : {S T : Type 0} → Notes T → ℕ → Tree S → Tree T
  noted notes at (leaf spot l) = leaf (notes.token at) l
  noted notes at (template spot pieces) = template (notes.token at) (noted_pieces notes (at + 1) pieces)
  noted notes at (enclosed spot enclosure e) = enclosed (notes.token at) enclosure (noted notes (at + opening_size enclosure) e)
  noted notes at (listed spot listing items) =
      listed (notes.token at) listing (noted_items notes (at + list_opening_size listing) items)
  noted notes at (exit spot) = exit (notes.token at)
  noted notes at (exit_empty spot) = exit_empty (notes.token at)
  noted notes at (static_member spot member) = static_member (notes.token at) (noted_member notes (at + 2) member)
  noted notes at (append e) = append (noted notes at e)
  noted notes at (index e key) = index (noted notes at e) (noted notes (at + size e + 1) key)
  noted notes at (selected e arrow member) = selected (noted notes at e) arrow (noted_member notes (at + size e + 1) member)
  noted notes at (computed e key) = computed (noted notes at e) (noted notes (at + size e + 2) key)
  noted notes at (call f items) = call (noted notes at f) (noted_items notes (at + size f + 1) items)
  noted notes at (new spot class) = new (notes.token at) (noted_class notes (at + 1) class)
  noted notes at (new_with spot class items) =
      new_with (notes.token at) (noted_class notes (at + 1) class) (noted_items notes (at + 1 + size_class class + 1) items)
  noted notes at (prefix spot op e) = prefix (notes.token at) op (noted notes (at + 1) e)
  noted notes at (count e way) = count (noted notes at e) way
  noted notes at (binary op l r) = binary op (noted notes at l) (noted notes (at + size l + 1) r)
  noted notes at (instance_of l r) = instance_of (noted notes at l) (noted notes (at + size l + 1) r)
  noted notes at (instance_of_static l spot) = instance_of_static (noted notes at l) (notes.token (at + size l + 1))
  noted notes at (choice c a b) =
      choice (noted notes at c) (noted notes (at + size c + 1) a) (noted notes (at + size c + 1 + size a + 1) b)
  noted notes at (short_choice c b) = short_choice (noted notes at c) (noted notes (at + size c + 2) b)
  noted notes at (assign setting l r) = assign setting (noted notes at l) (noted notes (at + size l + setting_size setting) r)
  noted notes at (yield_nothing spot) = yield_nothing (notes.token at)
  noted notes at (yield_value spot v) = yield_value (notes.token at) (noted notes (at + 1) v)
  noted notes at (yield_pair spot k v) =
      yield_pair (notes.token at) (noted notes (at + 1) k) (noted notes (at + 1 + size k + 1) v)

  pub noted_items : {S T : Type 0} → Notes T → ℕ → Items S → Items T
  noted_items notes at none = none
  noted_items notes at (and items lead e) =
      and (noted_items notes at items) (noted_lead notes (at + size_items items + comma_size items) lead)
      (noted notes (at + size_items items + comma_size items + size_lead lead) e)
  noted_items notes at (skip items) = skip (noted_items notes at items)

  pub noted_lead : {S T : Type 0} → Notes T → ℕ → Lead S → Lead T
  noted_lead notes at plain = plain
  noted_lead notes at reference = reference
  noted_lead notes at spread = spread
  noted_lead notes at (keyed k) = keyed (noted notes at k)
  noted_lead notes at (keyed_reference k) = keyed_reference (noted notes at k)

  pub noted_pieces : {S T : Type 0} → Notes T → ℕ → Pieces S → Pieces T
  noted_pieces notes at no_piece = no_piece
  noted_pieces notes at (bytes pieces text) = bytes (noted_pieces notes at pieces) text
  noted_pieces notes at (value pieces e) =
      value (noted_pieces notes at pieces) (noted notes (at + size_pieces pieces + 1) e)

  pub noted_class : {S T : Type 0} → Notes T → ℕ → Class S → Class T
  noted_class notes at (class_name spot text) = class_name (notes.token at) text
  noted_class notes at (class_static spot) = class_static (notes.token at)
  noted_class notes at (class_found steps) = class_found (noted_steps notes at steps)

  pub noted_steps : {S T : Type 0} → Notes T → ℕ → Steps S → Steps T
  noted_steps notes at (from spot text) = from (notes.token at) text
  noted_steps notes at (step_property steps member) =
      step_property (noted_steps notes at steps) (noted_member notes (at + size_steps steps + 1) member)
  noted_steps notes at (step_index steps e) =
      step_index (noted_steps notes at steps) (noted notes (at + size_steps steps + 1) e)

-- ---- trees without notes, and placed ones

abbrev pub no_notes : Notes (Unit {0})
no_notes = record { token = λ at. tt; keyword = λ at. tt }

-- the form of a tree alone
abbrev pub form_of : {S : Type 0} → Tree S → Tree (Unit {0})
form_of e = noted no_notes 0 e

-- the notes of the tokens of a list
abbrev pub notes_of : List Token → Notes Note
notes_of tokens = record {
  token = λ at. record { place = at; line = (token_at tokens at).line; text = [] };
  keyword = λ at. record { place = at; line = (token_at tokens at).line; text = (token_at tokens at).text };
}

-- Each note of the tree is that of its token, where the first one is at a place.
abbrev pub IsPlaced : List Token → ℕ → Tree Note → Type 0
IsPlaced tokens at e = noted (notes_of tokens) at e ≡ e
